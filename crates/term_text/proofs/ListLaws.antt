-- Lists of constraints: what cutting at the commas gives is what the grammar's cases say.
use Rattle.std.proofs.Common.{◌≡◌, ℕ, Bool, true, false, eqb, ⊎_elim, List, [], ◌∷◌, ◌++◌, map, refl, ◌∙◌, ap, if◌then◌else◌, zero, suc, inl, inr, append_assoc, arith}
use Rattle.std.specs.Prelude.{◌||◌, All, Contains}
use Rattle.std.specs.List.{list_any, slice_split}
use Rattle.std.proofs.lemmas.List.Folds.{list_any-append}
use Rattle.std.proofs.lemmas.List.Elements.{All-nil, All-cons, Contains-append_right}
use Rattle.std.proofs.lemmas.Bool.Decides.{eqb_tells}
use Rattle.grammar.specs.Avoids.{avoids}
use Rattle.grammar.proofs.AvoidedByte.{avoids_sound}
use Rattle.std.proofs.lemmas.List.Splits.{slice_split_none, slice_split_at}
use Rattle.std.proofs.lemmas.Bool.{or_parts}
use Rattle.std.proofs.Math.Bool.{or-false}
use Rattle.grammar.specs.Form.{Form, Matches, Times}
use Rattle.grammar.specs.Grammar.{◌·◌, ◌⋯◌, symbol, blank, blanks, list_of, alone}
use Rattle.grammar.specs.Cases.{con_cases, cons_cases}
use Rattle.term_text.specs.Reading.{is_blank, first_mark, con_read, cons_read}
use Rattle.term_text.specs.Values.{Comparison, never, con_by, further_cons_by, cons_by, alone_by}
use Rattle.term_text.proofs.Passes.{symbol_is}
use Rattle.term_text.proofs.TextLaws.{same_alone, con_read-same, con_law}

-- whether the byte stands in the text
abbrev pub has : ℕ → List ℕ → Bool
has c w = list_any (λ b. eqb b c) w

pub has-append : (c : ℕ) (w u v : List ℕ) → w ≡ u ++ v → has c u ≡ false → has c v ≡ false → has c w ≡ false
has-append c w u v e first second = rw e (list_any-append (λ b. eqb b c) u v ∙ ap (λ x. x || has c v) first ∙ second)

has_none : (c : ℕ) (w : List ℕ) → (Contains w c → ⊥) → has c w ≡ false
has_none c [] none = refl
has_none c (b ∷ w) none = ⊎_elim (λ same. absurd (none (0, omega arith, same.1))) (λ other. rw other.0 (has_none c w (λ h. none (Contains-append_right (b ∷ []) w c h)))) (eqb_tells b c)

-- a form that avoids the byte
pub text_avoids : (c : ℕ) (f : Form) → avoids f c ≡ true → (w : List ℕ) → Matches f w → has c w ≡ false
text_avoids c f a w m = has_none c w (avoids_sound f c w a m)

-- the same, element by element
all_other : (c : ℕ) (w : List ℕ) → has c w ≡ false → All (λ b. eqb b c ≡ false) w
all_other c [] e = All-nil (λ b. eqb b c ≡ false)
all_other c (b ∷ w) e = All-cons (λ x. eqb x c ≡ false) b w (or_parts (eqb b c) (has c w) e).0 (all_other c w (or_parts (eqb b c) (has c w) e).1)

-- the parts between commas
abbrev pub parts : List ℕ → List (List ℕ)
parts w = slice_split (λ b. eqb b 44) w

pub parts-none : (w : List ℕ) → has 44 w ≡ false → parts w ≡ w ∷ []
parts-none w e = slice_split_none (λ b. eqb b 44) w (all_other 44 w e)

pub parts-comma : (u v : List ℕ) → has 44 u ≡ false → parts (u ++ 44 ∷ v) ≡ u ∷ parts v
parts-comma u v e = slice_split_at (λ b. eqb b 44) u 44 v (all_other 44 u e) refl

-- one constraint with blanks before it
record IsOne (x : List ℕ) (c : Comparison) : Type 0 where
  whole : has 44 x ≡ false
  value : (b : List ℕ) → Matches blanks b → con_read (x ++ b) ≡ c

one_con : (b con : List ℕ) → Matches blanks b → (m : Matches con_cases con) → IsOne (b ++ con) (con_by con m)
one_con b con between m = record {
  whole = has-append 44 (b ++ con) b con refl (text_avoids 44 blanks refl b between) (text_avoids 44 con_cases refl con m);
  value = λ c behind. con_read-same ((b ++ con) ++ c) con (same_alone ((b ++ con) ++ c) b (con ++ c) c con (append_assoc b con c) refl between behind) ∙ con_law con m;
}

pub regroup : (x b c con v z : List ℕ) → x ++ (((b ++ (44 ∷ (c ++ con))) ++ v) ++ z) ≡ (x ++ b) ++ 44 ∷ ((c ++ con) ++ (v ++ z))
regroup x b c con v z = simp append_assoc

-- a constraint, then n times a comma and a constraint, then blanks
further_law : (n : ℕ) (w : List ℕ) (m : Times (Matches (blanks · (symbol 44 ⋯ con_cases))) n w) (x : List ℕ) (c : Comparison) → IsOne x c → (z : List ℕ) → Matches blanks z → map con_read (parts (x ++ (w ++ z))) ≡ c ∷ further_cons_by n w m
further_law zero w e x c one z behind =
    let none : has 44 (x ++ z) ≡ false = has-append 44 (x ++ z) x z refl one.whole (text_avoids 44 blanks refl z behind) in
    ap (λ v. map con_read (parts (x ++ (v ++ z)))) e ∙ ap (map con_read) (parts-none (x ++ z) none) ∙ ap (λ v. v ∷ []) (one.value z behind)
further_law (suc n) w (u, v, e, (b, w1, e1, blanks1, (comma, w2, e2, is_comma, (d, con, e3, blanks2, is_con))), others) x c one z behind =
    let item : u ≡ b ++ (44 ∷ (d ++ con)) = e1 ∙ ap (λ y. b ++ y) (e2 ∙ ap (λ y. y ++ w2) (symbol_is 44 comma is_comma) ∙ ap (λ y. 44 ∷ y) e3) in
    let text : x ++ (w ++ z) ≡ (x ++ b) ++ 44 ∷ ((d ++ con) ++ (v ++ z)) = ap (λ y. x ++ (y ++ z)) (e ∙ ap (λ y. y ++ v) item) ∙ regroup x b d con v z in
    let front : has 44 (x ++ b) ≡ false = has-append 44 (x ++ b) x b refl one.whole (text_avoids 44 blanks refl b blanks1) in
    let next : IsOne (d ++ con) (con_by con is_con) = one_con d con blanks2 is_con in
    ap (λ y. map con_read (parts y)) text ∙ ap (map con_read) (parts-comma (x ++ b) ((d ++ con) ++ (v ++ z)) front) ∙ ap (λ y. y ∷ map con_read (parts ((d ++ con) ++ (v ++ z)))) (one.value b blanks1) ∙ ap (λ ys. c ∷ ys) (further_law n v others (d ++ con) (con_by con is_con) next z behind)

-- what stands between blanks
pub has_between : (c : ℕ) (w b x v z : List ℕ) → w ≡ b ++ x → x ≡ v ++ z → has c b ≡ false → has c z ≡ false → has c w ≡ has c v
has_between c w b x v z e f before behind = rw (e, f) (list_any-append (λ y. eqb y c) b (v ++ z) ∙ ap (λ y. y || has c (v ++ z)) before ∙ list_any-append (λ y. eqb y c) v z ∙ ap (λ y. has c v || y) behind ∙ or-false (has c v))

blank_in_front : (u w : List ℕ) → Matches blank u → first_mark (u ++ w) ≡ first_mark w
blank_in_front u w (inl space) = rw (symbol_is 32 u space) refl
blank_in_front u w (inr tab) = rw (symbol_is 9 u tab) refl

times_in_front : (n : ℕ) (u w : List ℕ) → Times (Matches blank) n u → first_mark (u ++ w) ≡ first_mark w
times_in_front zero u w e = rw e refl
times_in_front (suc n) u w (x, v, e, first, others) = ap (λ y. first_mark (y ++ w)) e ∙ ap first_mark (append_assoc x v w) ∙ blank_in_front x (v ++ w) first ∙ times_in_front n v w others

-- what stands behind blanks
blanks_in_front : (w u v z : List ℕ) (x : List ℕ) → w ≡ u ++ x → x ≡ v ++ z → Matches blanks u → first_mark w ≡ first_mark (v ++ z)
blanks_in_front w u v z x e f (n, times) = ap first_mark (e ∙ ap (λ y. u ++ y) f) ∙ times_in_front n u (v ++ z) times

other_mark_cases : (c b : ℕ) (w : List ℕ) (blank : Bool) → eqb b c ≡ false → eqb (first_mark w) c ≡ false → eqb (if blank then first_mark w else b) c ≡ false
other_mark_cases c b w true here rest = rest
other_mark_cases c b w false here rest = here

-- a byte that doesn't stand in the text isn't its first one
other_mark : (c : ℕ) (w : List ℕ) → eqb 0 c ≡ false → has c w ≡ false → eqb (first_mark w) c ≡ false
other_mark c [] none e = none
other_mark c (b ∷ w) none e = other_mark_cases c b w (is_blank b) (or_parts (eqb b c) (has c w) e).0 (other_mark c w none (or_parts (eqb b c) (has c w) e).1)

chosen : (w : List ℕ) (t f : Bool) → eqb (first_mark w) 116 ≡ t → eqb (first_mark w) 102 ≡ f → cons_read w ≡ (if t then [] else (if f then never ∷ [] else map con_read (parts w)))
chosen w t f first second = ap (λ x. if x then [] else (if eqb (first_mark w) 102 then never ∷ [] else map con_read (parts w))) first ∙ ap (λ x. if t then [] else (if x then never ∷ [] else map con_read (parts w))) second

pub regroup_first : (b first rest z : List ℕ) → b ++ ((first ++ rest) ++ z) ≡ (b ++ first) ++ (rest ++ z)
regroup_first b first rest z = simp append_assoc

-- a list of constraints with blanks around it
pub alone_cons_law : (w : List ℕ) (m : Matches (alone cons_cases) w) → cons_read w ≡ alone_by cons_cases cons_by w m
alone_cons_law w (b, x, e, before, (v, z, f, inl always, behind)) =
    let t : eqb (first_mark w) 116 ≡ true = ap (λ y. eqb y 116) (blanks_in_front w b v z x e f before) ∙ ap (λ y. eqb (first_mark (y ++ z)) 116) always in
    chosen w true (eqb (first_mark w) 102) t refl
alone_cons_law w (b, x, e, before, (v, z, f, inr (inl empty), behind)) =
    let first : first_mark w ≡ 102 = blanks_in_front w b v z x e f before ∙ ap (λ y. first_mark (y ++ z)) empty in
    chosen w false true (ap (λ y. eqb y 116) first) (ap (λ y. eqb y 102) first)
alone_cons_law w (b, x, e, before, (v, z, f, inr (inr (first, rest, g, is_first, (n, others))), behind)) =
    let list : Matches (alone (list_of con_cases)) w = (b, x, e, before, (v, z, f, (first, rest, g, is_first, (n, others)), behind)) in
    let t : eqb (first_mark w) 116 ≡ false = other_mark 116 w refl (text_avoids 116 (alone (list_of con_cases)) refl w list) in
    let u : eqb (first_mark w) 102 ≡ false = other_mark 102 w refl (text_avoids 102 (alone (list_of con_cases)) refl w list) in
    let text : w ≡ (b ++ first) ++ (rest ++ z) = e ∙ ap (λ y. b ++ y) (f ∙ ap (λ y. y ++ z) g) ∙ regroup_first b first rest z in
    chosen w false false t u ∙ ap (λ y. map con_read (parts y)) text ∙ further_law n rest others (b ++ first) (con_by first is_first) (one_con b first before is_first) z behind
