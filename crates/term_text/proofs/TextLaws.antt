-- Constraints, fractions and points: what the pass over them gives is what the grammar's cases say.
use Rattle.std.proofs.Common.{◌≡◌, ℕ, false, List, [], ◌++◌, map, refl, sym, ◌∙◌, ap, inl, inr, append_assoc, append-nil}
use Rattle.std.specs.Prelude.{option_to_list, codes}
use Rattle.grammar.specs.Form.{Form, word, Matches}
use Rattle.grammar.specs.Grammar.{symbol, blanks, rel, alone, over_nat}
use Rattle.grammar.specs.Cases.{expr_cases, vexpr_cases, con_cases, frac_cases, point_cases}
use Rattle.term_text.specs.declared.terms.Term.{Term}
use Rattle.term_text.specs.declared.terms.Relation.{Relation}
use Rattle.term_text.specs.declared.scan.State.{State}
use Rattle.term_text.specs.declared.scan.Part.{Part}
use Rattle.term_text.specs.declared.scan.Part.TheVariants.{Number}
use Rattle.term_text.specs.declared.scan.Place.{Place}
use Rattle.term_text.specs.declared.scan.Place.TheVariants.{Left, Right, Divisor}
use Rattle.term_text.specs.Numbers.{size_of}
use Rattle.term_text.specs.Reading.{emitted, final, begun, start, with_equals, term_of, terms_read, relation_at, divisor_at, con_read, ratio_read}
use Rattle.term_text.specs.Values.{turned, expr_by, vexpr_by, relation_by, con_by, ratio_by, frac_by, point_by, alone_by}
use Rattle.term_text.proofs.Passes.{Reads, reads_append, reads_on, symbol_is, blanks_read}
use Rattle.term_text.proofs.Digits.{nat_reads}
use Rattle.term_text.proofs.SumLaws.{ReadsSum, reads_behind, expr_reads, vexpr_reads}

-- a text that changes nothing
abbrev pub IsQuiet : List ℕ → Type 0
IsQuiet w = (s : State) → Reads s w [] s

-- what stands between such texts is all that counts
pub record Same (w v : List ℕ) : Type 0 where
  pub terms : terms_read start w ≡ terms_read start v
  pub state : final start w ≡ final start v

pub same_between : (w u v x : List ℕ) → w ≡ u ++ (v ++ x) → IsQuiet u → IsQuiet x → Same w v
same_between w u v x e before behind =
    let last : State = final start v in
    let first : Reads start (v ++ x) (emitted start v ++ []) last = reads_append start last last v x (emitted start v) [] (record { terms = refl; state = refl }) (behind last) in
    let whole : Reads start w (emitted start v ++ []) last = reads_on start start last w u (v ++ x) (emitted start v ++ []) e (before start) first in
    let ends : emitted start w ≡ emitted start v = whole.terms ∙ append-nil (emitted start v) in
    record {
      terms = ap (λ ts. ts ++ option_to_list (term_of (final start w))) ends ∙ ap (λ s. emitted start v ++ option_to_list (term_of s)) whole.state;
      state = whole.state;
    }

-- one of = >= <= > <
rel_reads : (w : List ℕ) (m : Matches rel w) (s : State) → s.place ≡ Left → Reads s w (option_to_list (term_of s)) (begun (Right (relation_by w m)) false)
rel_reads w (inl equal) s e = rw (symbol_is 61 w equal) (record { terms = append-nil (option_to_list (term_of s)); state = ap (λ p. begun (with_equals p) false) e })
rel_reads w (inr (inl at_least)) s e = rw at_least (record { terms = append-nil (option_to_list (term_of s)); state = refl })
rel_reads w (inr (inr (inl at_most))) s e = rw at_most (record { terms = append-nil (option_to_list (term_of s)); state = refl })
rel_reads w (inr (inr (inr (inl above)))) s e = rw (symbol_is 62 w above) (record { terms = append-nil (option_to_list (term_of s)); state = refl })
rel_reads w (inr (inr (inr (inr below)))) s e = rw (symbol_is 60 w below) (record { terms = append-nil (option_to_list (term_of s)); state = refl })

regroup : (a b c d : List Term) → (a ++ (b ++ c)) ++ d ≡ (a ++ b) ++ (c ++ d)
regroup a b c d = simp append_assoc

-- a constraint
pub con_law : (w : List ℕ) (m : Matches con_cases w) → con_read w ≡ con_by w m
con_law w (left, w1, e1, is_left, (b1, w2, e2, blanks1, (between, w3, e3, is_between, (b2, right, e4, blanks2, is_right)))) =
    let r : Relation = relation_by between is_between in
    let s : State = final start left in
    let t : State = begun (Right r) false in
    let z : State = final t right in
    let l : ReadsSum start left (expr_by left is_left) = expr_reads Left left is_left in
    let k : ReadsSum t right (expr_by right is_right) = expr_reads (Right r) right is_right in
    let held : List Term = option_to_list (term_of s) in
    let behind : Reads t w3 (emitted t right) z = reads_on t t z w3 b2 right (emitted t right) e4 (blanks_read b2 blanks2 t) (record { terms = refl; state = refl }) in
    let second : Reads s w2 (held ++ emitted t right) z = rw e3 (reads_append s t z between w3 held (emitted t right) (rel_reads between is_between s l.place) behind) in
    let rest : Reads s w1 (held ++ emitted t right) z = reads_on s s z w1 b1 w2 (held ++ emitted t right) e2 (blanks_read b1 blanks1 s) second in
    let whole : Reads start w (emitted start left ++ (held ++ emitted t right)) z = rw e1 (reads_append start s z left w1 (emitted start left) (held ++ emitted t right) (record { terms = refl; state = refl }) rest) in
    let terms : terms_read start w ≡ expr_by left is_left ++ map turned (expr_by right is_right) = ap (λ ts. ts ++ option_to_list (term_of (final start w))) whole.terms ∙ ap (λ y. (emitted start left ++ (held ++ emitted t right)) ++ option_to_list (term_of y)) whole.state ∙ regroup (emitted start left) held (emitted t right) (option_to_list (term_of z)) ∙ ap (λ ts. ts ++ (emitted t right ++ option_to_list (term_of z))) l.all ∙ ap (λ ts. expr_by left is_left ++ ts) k.all in
    let relation : relation_at (final start w).place ≡ r = ap (λ (y : State). relation_at y.place) whole.state ∙ ap relation_at k.place in
    λ i. record { terms = terms i; relation = relation i }

-- brackets
opening_reads : (w : List ℕ) → Matches (symbol 40) w → IsQuiet w
opening_reads w m s = rw (symbol_is 40 w m) (record { terms = refl; state = refl })

pub closing_reads : (w : List ℕ) → Matches (symbol 41) w → IsQuiet w
closing_reads w m s = rw (symbol_is 41 w m) (record { terms = refl; state = refl })

-- the bytes p(
p_reads : (w : List ℕ) → Matches (word (codes "p(")) w → IsQuiet w
p_reads w m s = rw m (record { terms = refl; state = refl })

-- a division: the term before it ends
slash_reads : (w : List ℕ) → Matches (symbol 47) w → (s : State) → Reads s w (option_to_list (term_of s)) (begun Divisor false)
slash_reads w m s = rw (symbol_is 47 w m) (record { terms = append-nil (option_to_list (term_of s)); state = refl })

divisor_at-left : (place : Place) (part : Part) → place ≡ Left → divisor_at place part ≡ 1
divisor_at-left place part e = rw e refl

-- an expression with its divisor
pub ratio_law : (f : Form) (by : (w : List ℕ) → Matches f w → List Term) → ((place : Place) (w : List ℕ) (m : Matches f w) → ReadsSum (begun place false) w (by w m)) → (w : List ℕ) (m : Matches (over_nat f) w) → ratio_read w ≡ ratio_by f by w m
ratio_law f by reads w (inl is) =
    let l : ReadsSum start w (by w is) = reads Left w is in
    let divisor : divisor_at (final start w).place (final start w).part ≡ 1 = divisor_at-left (final start w).place (final start w).part l.place in
    λ i. record { terms = l.all i; divisor = divisor i }
ratio_law f by reads w (inr (opening, w1, e1, is_opening, (b1, w2, e2, blanks1, (expr, w3, e3, is_expr, (b2, w4, e4, blanks2, (closing, w5, e5, is_closing, (b3, w6, e6, blanks3, (slash, w7, e7, is_slash, (b4, digits, e8, blanks4, is_digits))))))))) =
    let l : ReadsSum start expr (by expr is_expr) = reads Left expr is_expr in
    let s : State = final start expr in
    let held : List Term = option_to_list (term_of s) in
    let t : State = begun Divisor false in
    let z : State = record { negative = false; part = Number (size_of digits); place = Divisor } in
    let seventh : Reads t w7 [] z = reads_on t t z w7 b4 digits [] e8 (blanks_read b4 blanks4 t) (nat_reads digits is_digits Divisor false) in
    let sixth : Reads s w6 held z = reads_behind s t z w6 slash w7 held e7 (slash_reads slash is_slash s) seventh in
    let fifth : Reads s w5 held z = reads_on s s z w5 b3 w6 held e6 (blanks_read b3 blanks3 s) sixth in
    let fourth : Reads s w4 held z = reads_on s s z w4 closing w5 held e5 (closing_reads closing is_closing s) fifth in
    let third : Reads s w3 held z = reads_on s s z w3 b2 w4 held e4 (blanks_read b2 blanks2 s) fourth in
    let second : Reads start w2 (emitted start expr ++ held) z = rw e3 (reads_append start s z expr w3 (emitted start expr) held (record { terms = refl; state = refl }) third) in
    let first : Reads start w1 (emitted start expr ++ held) z = reads_on start start z w1 b1 w2 (emitted start expr ++ held) e2 (blanks_read b1 blanks1 start) second in
    let whole : Reads start w (emitted start expr ++ held) z = reads_on start start z w opening w1 (emitted start expr ++ held) e1 (opening_reads opening is_opening start) first in
    let terms : terms_read start w ≡ by expr is_expr = ap (λ ts. ts ++ option_to_list (term_of (final start w))) whole.terms ∙ ap (λ y. (emitted start expr ++ held) ++ option_to_list (term_of y)) whole.state ∙ append-nil (emitted start expr ++ held) ∙ l.all in
    let divisor : divisor_at (final start w).place (final start w).part ≡ size_of digits = ap (λ (y : State). divisor_at y.place y.part) whole.state in
    λ i. record { terms = terms i; divisor = divisor i }

pub frac_law : (w : List ℕ) (m : Matches frac_cases w) → ratio_read w ≡ frac_by w m
frac_law w m = ratio_law expr_cases expr_by expr_reads w m

-- quiet texts one behind the other
pub quiet_append : (w u v : List ℕ) → w ≡ u ++ v → IsQuiet u → IsQuiet v → IsQuiet w
quiet_append w u v e first second s = reads_on s s s w u v [] e (first s) (second s)

pub ratio_read-same : (w v : List ℕ) → Same w v → ratio_read w ≡ ratio_read v
ratio_read-same w v same = λ i. record { terms = same.terms i; divisor = divisor_at (same.state i).place (same.state i).part }

pub con_read-same : (w v : List ℕ) → Same w v → con_read w ≡ con_read v
con_read-same w v same = λ i. record { terms = same.terms i; relation = relation_at (same.state i).place }

-- a point
pub point_law : (w : List ℕ) (m : Matches point_cases w) → ratio_read w ≡ point_by w m
point_law w (p, w1, e1, is_p, (b1, w2, e2, blanks1, (frac, w3, e3, is_frac, (b2, closing, e4, blanks2, is_closing)))) =
    let before : IsQuiet (p ++ b1) = quiet_append (p ++ b1) p b1 refl (p_reads p is_p) (blanks_read b1 blanks1) in
    let behind : IsQuiet w3 = quiet_append w3 b2 closing e4 (blanks_read b2 blanks2) (closing_reads closing is_closing) in
    let parts : w ≡ (p ++ b1) ++ (frac ++ w3) = e1 ∙ ap (λ x. p ++ x) (e2 ∙ ap (λ x. b1 ++ x) e3) ∙ sym (append_assoc p b1 (frac ++ w3)) in
    ratio_read-same w frac (same_between w (p ++ b1) frac w3 parts before behind) ∙ ratio_law vexpr_cases vexpr_by vexpr_reads frac is_frac

-- with blanks around it
pub same_alone : (w b x c : List ℕ) (v : List ℕ) → w ≡ b ++ x → x ≡ v ++ c → Matches blanks b → Matches blanks c → Same w v
same_alone w b x c v e f before behind = same_between w b v c (e ∙ ap (λ y. b ++ y) f) (blanks_read b before) (blanks_read c behind)

pub alone_point_law : (w : List ℕ) (m : Matches (alone point_cases) w) → ratio_read w ≡ alone_by point_cases point_by w m
alone_point_law w (b, x, e, before, (v, c, f, is, behind)) = ratio_read-same w v (same_alone w b x c v e f before behind) ∙ point_law v is

pub alone_frac_law : (w : List ℕ) (m : Matches (alone frac_cases) w) → ratio_read w ≡ alone_by frac_cases frac_by w m
alone_frac_law w (b, x, e, before, (v, c, f, is, behind)) = ratio_read-same w v (same_alone w b x c v e f before behind) ∙ frac_law v is

pub alone_con_law : (w : List ℕ) (m : Matches (alone con_cases) w) → con_read w ≡ alone_by con_cases con_by w m
alone_con_law w (b, x, e, before, (v, c, f, is, behind)) = con_read-same w v (same_alone w b x c v e f before behind) ∙ con_law v is

pub alone_expr_law : (w : List ℕ) (m : Matches (alone expr_cases) w) → terms_read start w ≡ alone_by expr_cases expr_by w m
alone_expr_law w (b, x, e, before, (v, c, f, is, behind)) =
    let same : Same w v = same_alone w b x c v e f before behind in
    let l : ReadsSum start v (expr_by v is) = expr_reads Left v is in
    same.terms ∙ l.all
