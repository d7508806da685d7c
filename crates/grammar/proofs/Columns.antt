-- The states of a text tell whether it has the form, and whether it begins a text of the form.
use Rattle.std.proofs.Common.{◌≡◌, ℕ, ◌+◌, ◌<◌, ◌≤◌, ◌⊎◌, Bool, true, false, cond, List, [], ◌∷◌, ◌++◌, length, take, drop, zero, suc, refl, ap, sym, subst, ◌∙◌, inl, inr, arith, append_assoc, append-nil, take_all, take-take, get_or}
use Rattle.std.proofs.lemmas.List.{take-append-drop, take_more}
use Rattle.std.proofs.lemmas.Bool.{leb-true, and_parts, and_from}
use Rattle.grammar.specs.Form.{Form, word, byte, seq, alt, many, upto, Matches, Begins, IsColumn}
use Rattle.grammar.specs.Derivative.{nullable, after, after_row, after_rows, states, some_ends, Spells, AnySpells, lives, row_lives, rows_live}
use Rattle.grammar.proofs.Derivatives.{rows_sound, rows_complete, states_sound, states_complete, some_ends_sound, some_ends_complete}
use Rattle.grammar.specs.SameRows.{SameRows}
use Rattle.grammar.proofs.SameRowSteps.{spells_within, live_within}

-- a form that lives has a text
abbrev HasText : Form → Type 0
HasText f = (w : List ℕ) × Matches f w

text_of_seq : (f g : Form) → HasText f → HasText g → HasText (seq f g)
text_of_seq f g (u, m) (v, n) = (u ++ v, (u, v, refl, m, n))

text_of_alt : (f g : Form) → HasText f → HasText (alt f g)
text_of_alt f g (u, m) = (u, inl m)

has_text : (f : Form) → lives f ≡ true → HasText f
has_text (word cs) e = (cs, refl)
has_text (byte low high) e =
    let h = leb-true low high e in
    let l : low ≤ low = omega arith in
    (low ∷ [], (low, l, h, refl))
has_text (seq f g) e = let h = and_parts (lives f) (lives g) e in text_of_seq f g (has_text f h.0) (has_text g h.1)
has_text (alt f g) e = let h = and_parts (lives f) (lives g) e in text_of_alt f g (has_text f h.0)
has_text (many f) e = ([], (zero, refl))
has_text (upto k f) e = ([], (zero, omega arith, refl))

text_of_row : (f : Form) (row : List Form) → HasText f → (w : List ℕ) × Spells row w → (w : List ℕ) × Spells (f ∷ row) w
text_of_row f row (u, m) (v, s) = (u ++ v, (u, v, refl, m, s))

row_has_text : (row : List Form) → row_lives row ≡ true → (w : List ℕ) × Spells row w
row_has_text [] e = ([], refl)
row_has_text (f ∷ row) e =
    let h = and_parts (lives f) (row_lives row) e in
    text_of_row f row (has_text f h.0) (row_has_text row h.1)

some_spells : (row : List Form) (rows : List (List Form)) → (w : List ℕ) × Spells row w → (w : List ℕ) × AnySpells (row ∷ rows) w
some_spells row rows (w, s) = (w, inl s)

rows_have_text : (row : List Form) (rows : List (List Form)) → rows_live (row ∷ rows) ≡ true → (w : List ℕ) × AnySpells (row ∷ rows) w
rows_have_text row rows e = some_spells row rows (row_has_text row ((and_parts (row_lives row) (rows_live rows) e).0))

live_append : (a b : List (List Form)) → rows_live a ≡ true → rows_live b ≡ true → rows_live (a ++ b) ≡ true
live_append [] b e h = h
live_append (row ∷ a) b e h =
    let p = and_parts (row_lives row) (rows_live a) e in
    and_from (row_lives row) (rows_live (a ++ b)) p.0 (live_append a b p.1 h)

live_when : (t : Bool) (a : List (List Form)) → rows_live a ≡ true → rows_live (cond t a []) ≡ true
live_when true a e = e
live_when false a e = refl

live_one : (row : List Form) → row_lives row ≡ true → rows_live (row ∷ []) ≡ true
live_one row e = and_from (row_lives row) true e refl

after_lives : (b : ℕ) (f : Form) (row : List Form) → lives f ≡ true → row_lives row ≡ true → rows_live (after b f row) ≡ true
after_lives b (word []) row e h = refl
after_lives b (word (c ∷ cs)) row e h = live_when _ ((word cs ∷ row) ∷ []) (live_one (word cs ∷ row) h)
after_lives b (byte low high) row e h = live_when _ (row ∷ []) (live_one row h)
after_lives b (seq f g) row e h =
    let p = and_parts (lives f) (lives g) e in
    live_append (after b f (g ∷ row)) (cond (nullable f) (after b g row) [])
    (after_lives b f (g ∷ row) p.0 (and_from (lives g) (row_lives row) p.1 h))
    (live_when (nullable f) (after b g row) (after_lives b g row p.1 h))
after_lives b (alt f g) row e h =
    let p = and_parts (lives f) (lives g) e in
    live_append (after b f row) (after b g row) (after_lives b f row p.0 h) (after_lives b g row p.1 h)
after_lives b (many f) row e h = after_lives b f (many f ∷ row) e (and_from (lives f) (row_lives row) e h)
after_lives b (upto zero f) row e h = refl
after_lives b (upto (suc k) f) row e h = after_lives b f (upto k f ∷ row) e (and_from (lives f) (row_lives row) e h)

after_row_lives : (b : ℕ) (row : List Form) → row_lives row ≡ true → rows_live (after_row b row) ≡ true
after_row_lives b [] e = refl
after_row_lives b (f ∷ row) e =
    let p = and_parts (lives f) (row_lives row) e in
    live_append (after b f row) (cond (nullable f) (after_row b row) [])
    (after_lives b f row p.0 p.1)
    (live_when (nullable f) (after_row b row) (after_row_lives b row p.1))

after_rows_live : (b : ℕ) (rows : List (List Form)) → rows_live rows ≡ true → rows_live (after_rows b rows) ≡ true
after_rows_live b [] e = refl
after_rows_live b (row ∷ rows) e =
    let p = and_parts (row_lives row) (rows_live rows) e in
    live_append (after_row b row) (after_rows b rows) (after_row_lives b row p.0) (after_rows_live b rows p.1)

spells_alone : (f : Form) (w : List ℕ) → Matches f w → AnySpells ((f ∷ []) ∷ []) w
spells_alone f w m = inl (w, [], sym (append-nil w), m, refl)

matches_front : (f : Form) (u v w : List ℕ) → w ≡ u ++ v → v ≡ [] → Matches f u → Matches f w
matches_front f u v w e h m =
    subst (λ (x : List ℕ). Matches f x) (sym (append-nil u) ∙ ap (λ (y : List ℕ). u ++ y) (sym h) ∙ sym e) m

alone_matches : (f : Form) (w : List ℕ) → AnySpells ((f ∷ []) ∷ []) w → Matches f w
alone_matches f w (inl (u, v, e, m, s)) = matches_front f u v w e s m
alone_matches f w (inr a) = absurd a

front_of : (rows : List (List Form)) → rows_live rows ≡ true → (rows ≡ [] → ⊥) → (w : List ℕ) × AnySpells rows w
front_of [] e h = absurd (h refl)
front_of (row ∷ rows) e h = rows_have_text row rows e

none_spells : (rows : List (List Form)) (w : List ℕ) → rows ≡ [] → AnySpells rows w → ⊥
none_spells [] w e a = a
none_spells (row ∷ rows) w e a = cc

take_front : (w : List ℕ) (i j : ℕ) → j ≤ i → take i w ≡ take j w ++ drop j (take i w)
take_front w i j h = sym (take-append-drop j (take i w)) ∙ ap (λ (x : List ℕ). x ++ drop j (take i w)) (take-take j i w h)

begins_split : (f : Form) (p u v rest : List ℕ) → p ≡ u ++ v → Matches f (p ++ rest) → Begins f u
begins_split f p u v rest e m =
    (v ++ rest, subst (λ (x : List ℕ). Matches f x) (ap (λ (y : List ℕ). y ++ rest) e ∙ append_assoc u v rest) m)

-- what begins a text of the form begins it at each shorter length
pub begins_shorter : (f : Form) (w : List ℕ) (i j : ℕ) → j ≤ i → Begins f (take i w) → Begins f (take j w)
begins_shorter f w i j h (rest, m) = begins_split f (take i w) (take j w) (drop j (take i w)) rest (take_front w i j h) m

pub matches_begins : (f : Form) (w : List ℕ) (c : ℕ) → Matches f w → Begins f (take c w)
matches_begins f w c m = (drop c w, subst (λ (x : List ℕ). Matches f x) (sym (take-append-drop c w)) m)

-- the rows spell exactly what makes the text one of the form
pub record Means (f : Form) (p : List ℕ) (rows : List (List Form)) : Type 0 where
  pub sound : (w : List ℕ) → AnySpells rows w → Matches f (p ++ w)
  pub complete : (w : List ℕ) → Matches f (p ++ w) → AnySpells rows w
  pub live : rows_live rows ≡ true

pub means_start : (f : Form) → lives f ≡ true → Means f [] ((f ∷ []) ∷ [])
means_start f e = record {
  sound = λ (w : List ℕ) (a : AnySpells ((f ∷ []) ∷ []) w). alone_matches f w a;
  complete = λ (w : List ℕ) (m : Matches f w). spells_alone f w m;
  live = live_one (f ∷ []) (and_from (lives f) true e refl);
}

-- behind one more byte
pub means_more : (f : Form) (p : List ℕ) (b : ℕ) (rows : List (List Form)) → Means f p rows → Means f (p ++ b ∷ []) (after_rows b rows)
means_more f p b rows h = record {
  sound = λ (w : List ℕ) (a : AnySpells (after_rows b rows) w).
      subst (λ (x : List ℕ). Matches f x) (sym (append_assoc p (b ∷ []) w)) (h.sound (b ∷ w) (rows_sound b rows w a));
  complete = λ (w : List ℕ) (m : Matches f ((p ++ b ∷ []) ++ w)).
      rows_complete b rows w (h.complete (b ∷ w) (subst (λ (x : List ℕ). Matches f x) (append_assoc p (b ∷ []) w) m));
  live = after_rows_live b rows h.live;
}

pub means_same : (f : Form) (p : List ℕ) (old new : List (List Form)) → SameRows old new → Means f p old → Means f p new
means_same f p old new s h = record {
  sound = λ (w : List ℕ) (a : AnySpells new w). h.sound w (spells_within new old w s.only a);
  complete = λ (w : List ℕ) (m : Matches f (p ++ w)). spells_within old new w s.kept (h.complete w m);
  live = live_within new old s.only h.live;
}

pub means_step : (f : Form) (w : List ℕ) (i : ℕ) (old new : List (List Form)) → i < length w → Means f (take i w) old → SameRows (after_rows (get_or w i 0) old) new → Means f (take (i + 1) w) new
means_step f w i old new h m s =
    subst (λ (x : List ℕ). Means f x new) (sym (take_more w i 0 h))
    (means_same f (take i w ++ get_or w i 0 ∷ []) (after_rows (get_or w i 0) old) new s (means_more f (take i w) (get_or w i 0) old m))

begins_by : (f : Form) (p : List ℕ) (rows : List (List Form)) → Means f p rows → (w : List ℕ) × AnySpells rows w → Begins f p
begins_by f p rows h (w, a) = (w, h.sound w a)

-- a text begins one of the form where it has a row
pub begins_from_rows : (f : Form) (p : List ℕ) (rows : List (List Form)) → Means f p rows → (rows ≡ [] → ⊥) → Begins f p
begins_from_rows f p rows h some = begins_by f p rows h (front_of rows h.live some)

pub no_begin : (f : Form) (p : List ℕ) (rows : List (List Form)) → Means f p rows → rows ≡ [] → Begins f p → ⊥
no_begin f p rows h e (rest, m) = none_spells rows rest e (h.complete rest m)

-- a text has the form where one of its rows may end
pub matches_from_end : (f : Form) (w : List ℕ) (rows : List (List Form)) → Means f w rows → some_ends rows ≡ true → Matches f w
matches_from_end f w rows h e =
    subst (λ (x : List ℕ). Matches f x) (append-nil w) (h.sound [] (some_ends_sound rows e))

pub end_from_matches : (f : Form) (w : List ℕ) (rows : List (List Form)) → Means f w rows → Matches f w → some_ends rows ≡ true
end_from_matches f w rows h m =
    some_ends_complete rows (h.complete [] (subst (λ (x : List ℕ). Matches f x) (sym (append-nil w)) m))

-- the column is behind the first byte that leaves no row
pub column_within : (f : Form) (w : List ℕ) (i : ℕ) (old new : List (List Form)) → i < length w → Means f (take i w) old → (old ≡ [] → ⊥) → Means f (take (i + 1) w) new → new ≡ [] → IsColumn f w (i + 1)
column_within f w i old new l m some n none = record {
  not = λ (h : Matches f w). no_begin f (take (i + 1) w) new n none (matches_begins f w (i + 1) h);
  before = λ (j : ℕ) (k : j < i + 1). begins_shorter f w i j (omega arith) (begins_from_rows f (take i w) old m some);
  here = inl (omega arith, λ (b : Begins f (take (i + 1) w)). no_begin f (take (i + 1) w) new n none b);
}

-- the column is behind the whole text where it has rows, and none may end
pub column_behind : (f : Form) (w : List ℕ) (rows : List (List Form)) → Means f w rows → (rows ≡ [] → ⊥) → some_ends rows ≡ false → IsColumn f w (length w + 1)
column_behind f w rows m some n =
    let whole : take (length w) w ≡ w = take_all (length w) w (omega arith) in
    let start : Begins f (take (length w) w) = subst (λ (x : List ℕ). Begins f x) (sym whole) (begins_from_rows f w rows m some) in
    record {
      not = λ (h : Matches f w). (let y : some_ends rows ≡ true = end_from_matches f w rows m h in cc);
      before = λ (j : ℕ) (k : j < length w + 1). begins_shorter f w (length w) j (omega arith) start;
      here = inr refl;
    }

-- whether a text has the form is decided by its states
has_form : (f : Form) (w : List ℕ) → AnySpells (states ((f ∷ []) ∷ []) w) [] → Matches f w
has_form f w a = alone_matches f w (subst (λ (x : List ℕ). AnySpells ((f ∷ []) ∷ []) x) (append-nil w) (states_sound ((f ∷ []) ∷ []) w [] a))

of_form : (f : Form) (w : List ℕ) → Matches f w → AnySpells (states ((f ∷ []) ∷ []) w) []
of_form f w m = states_complete ((f ∷ []) ∷ []) w [] (subst (λ (x : List ℕ). AnySpells ((f ∷ []) ∷ []) x) (sym (append-nil w)) (spells_alone f w m))

decided : (f : Form) (w : List ℕ) (t : Bool) → some_ends (states ((f ∷ []) ∷ []) w) ≡ t → Matches f w ⊎ (Matches f w → ⊥)
decided f w true e = inl (has_form f w (some_ends_sound (states ((f ∷ []) ∷ []) w) e))
decided f w false e = inr (λ (m : Matches f w). (let y : some_ends (states ((f ∷ []) ∷ []) w) ≡ true = some_ends_complete (states ((f ∷ []) ∷ []) w) (of_form f w m) in cc))

pub matches_or_not : (f : Form) (w : List ℕ) → Matches f w ⊎ (Matches f w → ⊥)
matches_or_not f w = decided f w (some_ends (states ((f ∷ []) ∷ []) w)) refl
