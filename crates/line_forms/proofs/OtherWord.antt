-- The column of a row's line where another word begins it: the first byte that isn't one of the row's word.
use Rattle.std.proofs.Common.{◌≡◌, ℕ, ◌+◌, ◌-◌, ◌<◌, ◌≤◌, List, [], ◌∷◌, ◌++◌, Bool, true, false, eqb, suc, length, take, drop, cond, refl, ap, arith, subst, sym, ◌∙◌, append_assoc, inl, inr}
use Rattle.std.specs.Prelude.{Contains}
use Rattle.std.specs.List.{take_while, common_prefix_len}
use Rattle.std.proofs.lemmas.Bool.{eqb-true, eq-eqb, cases_lt}
use Rattle.std.proofs.lemmas.List.{length-append, take-append-drop}
use Rattle.std.proofs.lemmas.List.Sums.{common_prefix_len-le}
use Rattle.std.proofs.Math.Seq.{take-append-add}
use Rattle.grammar.specs.Form.{word, Matches, Begins, IsColumn}
use Rattle.grammar.specs.Derivative.{lives}
use Rattle.grammar.proofs.Columns.{begins_shorter}
use Rattle.line_forms.specs.Words.{is_blank, is_in_word, past_blanks, word_of}
use Rattle.line_forms.specs.CommandWords.{command_words, IsCommandWord}
use Rattle.line_forms.specs.Layouts.{Layout, rest_form, layout_form, line_form, layout_of}
use Rattle.line_forms.specs.declared.form.LineForm.{LineForm}
use Rattle.line_forms.specs.declared.form.LineForm.TheVariants.{Nothing}
use Rattle.line_forms.proofs.WordLemmas.{Stops, IsWord, drop-take_while-append, past_blanks-append, word_of-append}
use Rattle.line_forms.proofs.FormLaws.{good_form}
use Rattle.line_forms.proofs.RestLaws.{IsGood, Each-blanks, rest_stops, first_law}
use Rattle.line_forms.proofs.EdgeLemmas.{good_word}
use Rattle.line_forms.proofs.ColumnLaws.{IsCut, cut_of, blanks_of, some_begins, stops_take}

-- how many bytes stand at the front of both texts
abbrev common : List ℕ → List ℕ → ℕ
common w c = common_prefix_len eqb w c

one_more : (x y : ℕ) (w c : List ℕ) → eqb x y ≡ true → common (x ∷ w) (y ∷ c) ≡ suc (common w c)
one_more x y w c e = ap (λ (s : Bool). cond s (1 + common w c) 0) e ∙ omega arith

no_more : (x y : ℕ) (w c : List ℕ) → eqb x y ≡ false → common (x ∷ w) (y ∷ c) ≡ 0
no_more x y w c e = ap (λ (s : Bool). cond s (1 + common w c) 0) e

same_front_by : (t : Bool) (x y : ℕ) (w c : List ℕ) → eqb x y ≡ t → take (common w c) w ≡ take (common w c) c → take (common (x ∷ w) (y ∷ c)) (x ∷ w) ≡ take (common (x ∷ w) (y ∷ c)) (y ∷ c)
same_front_by true x y w c e h =
    let is : x ≡ y = eqb-true x y e in
    let both : x ∷ take (common w c) w ≡ y ∷ take (common w c) c = rw (is, h) refl in
    subst (λ (k : ℕ). take k (x ∷ w) ≡ take k (y ∷ c)) (sym (one_more x y w c e)) both
same_front_by false x y w c e h = subst (λ (k : ℕ). take k (x ∷ w) ≡ take k (y ∷ c)) (sym (no_more x y w c e)) refl

same_front : (w c : List ℕ) → take (common w c) w ≡ take (common w c) c
same_front [] c = refl
same_front (x ∷ w) [] = refl
same_front (x ∷ w) (y ∷ c) = same_front_by (eqb x y) x y w c refl (same_front w c)

-- the text begins with the word, and its next byte begins the rest
record GoesOn (w c r : List ℕ) : Type 0 where
  next : ℕ
  others : List ℕ
  more : List ℕ
  text : w ≡ c ++ next ∷ others
  rest : r ≡ next ∷ more

goes_on_by : (t : Bool) (x y : ℕ) (w c more r : List ℕ) → eqb x y ≡ t → suc (common (x ∷ w) (y ∷ c)) ≤ suc (length w) → take (suc (common (x ∷ w) (y ∷ c))) (x ∷ w) ++ more ≡ y ∷ (c ++ r) →
    (suc (common w c) ≤ length w → take (suc (common w c)) w ++ more ≡ c ++ r → GoesOn w c r) → GoesOn (x ∷ w) (y ∷ c) r
goes_on_by true x y w c more r t h e further =
    let n : common (x ∷ w) (y ∷ c) ≡ suc (common w c) = one_more x y w c t in
    let is : x ≡ y = eqb-true x y t in
    let whole : x ∷ (take (suc (common w c)) w ++ more) ≡ y ∷ (c ++ r) = subst (λ (k : ℕ). take (suc k) (x ∷ w) ++ more ≡ y ∷ (c ++ r)) n e in
    let tails : take (suc (common w c)) w ++ more ≡ c ++ r = cc in
    let g : GoesOn w c r = further (omega arith) tails in
    record { next = g.next; others = g.others; more = g.more; text = ap (λ (k : ℕ). k ∷ w) is ∙ ap (λ (z : List ℕ). y ∷ z) g.text; rest = g.rest }
goes_on_by false x y w c more r t h e further =
    let whole : x ∷ more ≡ y ∷ (c ++ r) = subst (λ (k : ℕ). take (suc k) (x ∷ w) ++ more ≡ y ∷ (c ++ r)) (no_more x y w c t) e in
    let is : x ≡ y = cc in
    let yes : eqb x y ≡ true = eq-eqb x y is in
    cc

-- a text that goes on as the word does for one byte more than they share
goes_on : (w c more r : List ℕ) → suc (common w c) ≤ length w → take (suc (common w c)) w ++ more ≡ c ++ r → GoesOn w c r
goes_on [] c more r h e = absurd (omega arith)
goes_on (x ∷ w) [] more r h e = record { next = x; others = w; more = more; text = refl; rest = sym e }
goes_on (x ∷ w) (y ∷ c) more r h e = goes_on_by (eqb x y) x y w c more r refl h e (goes_on w c more r)

-- a line, cut behind its blanks, whose first word isn't the layout's
record IsOther (layout : Layout) (w : List ℕ) : Type 0 where
  tests : IsGood layout
  alive : lives (rest_form layout) ≡ true
  cut : IsCut is_blank w
  other : word_of w ≡ layout.command → ⊥

abbrev front_of : List ℕ → List ℕ
front_of w = take_while is_blank w

long : (layout : Layout) (w : List ℕ) → IsOther layout w → length w ≡ length (front_of w) + length (past_blanks w)
long layout w is = ap length is.cut.whole ∙ length-append (front_of w) (past_blanks w)

taken : (layout : Layout) (w : List ℕ) → IsOther layout w → (i : ℕ) → take (length (front_of w) + i) w ≡ front_of w ++ take i (past_blanks w)
taken layout w is i = ap (take (length (front_of w) + i)) is.cut.whole ∙ take-append-add (front_of w) (past_blanks w) i

regroup : (a b c r : List ℕ) → (a ++ b) ++ (c ++ r) ≡ a ++ ((b ++ c) ++ r)
regroup a b c r = simp append_assoc

-- what stands before that byte begins a line of the layout
begins_line : (layout : Layout) (w : List ℕ) → IsOther layout w → Begins (layout_form layout) (take (length (front_of w) + common (past_blanks w) layout.command) w)
begins_line layout w is =
    let n = common (past_blanks w) layout.command in
    let (r, m) = some_begins (rest_form layout) is.alive in
    let whole : (front_of w ++ take n layout.command) ++ (drop n layout.command ++ r) ≡ front_of w ++ (layout.command ++ r) =
    regroup (front_of w) (take n layout.command) (drop n layout.command) r ∙ ap (λ (x : List ℕ). front_of w ++ (x ++ r)) (take-append-drop n layout.command) in
    let begins : Begins (layout_form layout) (front_of w ++ take n layout.command) =
    (drop n layout.command ++ r, (front_of w, layout.command ++ r, whole, blanks_of (front_of w) is.cut.each, (layout.command, r, refl, refl, m))) in
    let same : take (length (front_of w) + n) w ≡ front_of w ++ take n layout.command = taken layout w is n ∙ ap (λ (x : List ℕ). front_of w ++ x) (same_front (past_blanks w) layout.command) in
    subst (λ (p : List ℕ). Begins (layout_form layout) p) (sym same) begins

-- the word would be the layout's
word_again : (layout : Layout) (w : List ℕ) → IsOther layout w → (r : List ℕ) → Stops is_in_word r → GoesOn (past_blanks w) layout.command r → ⊥
word_again layout w is r stops g =
    let ends : Stops is_in_word (g.next ∷ g.others) = subst (Stops is_in_word) g.rest stops in
    let named : IsWord layout.command = good_word (word layout.command) layout.command is.tests.command refl in
    let whole : w ≡ front_of w ++ (layout.command ++ g.next ∷ g.others) = is.cut.whole ∙ ap (λ (x : List ℕ). front_of w ++ x) g.text in
    is.other (ap word_of whole ∙ word_of-append (front_of w) layout.command (g.next ∷ g.others) is.cut.each named ends)

-- no line of the layout begins with that byte as well
begins_no_line : (layout : Layout) (w : List ℕ) → IsOther layout w → suc (common (past_blanks w) layout.command) ≤ length (past_blanks w) →
    Begins (layout_form layout) (front_of w ++ take (suc (common (past_blanks w) layout.command)) (past_blanks w)) → ⊥
begins_no_line layout w is h (more, (b, x, e, before, (command, rest, e2, is_command, behind))) =
    let n = common (past_blanks w) layout.command in
    let q = take (suc n) (past_blanks w) in
    let named : IsWord layout.command = good_word (word layout.command) layout.command is.tests.command refl in
    let left : past_blanks ((front_of w ++ q) ++ more) ≡ q ++ more =
    ap past_blanks (append_assoc (front_of w) q more) ∙ drop-take_while-append is_blank (front_of w) (q ++ more) is.cut.each (stops_take is_blank (past_blanks w) n more h is.cut.stops) in
    let line : (front_of w ++ q) ++ more ≡ b ++ (layout.command ++ rest) = e ∙ ap (λ (z : List ℕ). b ++ z) (e2 ∙ ap (λ (z : List ℕ). z ++ rest) is_command) in
    let right : past_blanks ((front_of w ++ q) ++ more) ≡ layout.command ++ rest = ap past_blanks line ∙ past_blanks-append b layout.command rest (Each-blanks b before) named in
    word_again layout w is rest (rest_stops layout rest behind) (goes_on (past_blanks w) layout.command more rest h (sym left ∙ right))

column_place : (l f t n : ℕ) → l ≡ f + t → l - t + n + 1 ≡ f + suc n
column_place l f t n e = omega arith

column_by : (layout : Layout) (w : List ℕ) → IsOther layout w → IsColumn (layout_form layout) w (length (front_of w) + suc (common (past_blanks w) layout.command))
column_by layout w is =
    let n = common (past_blanks w) layout.command in
    let all : length w ≡ length (front_of w) + length (past_blanks w) = long layout w is in
    let most : n ≤ length (past_blanks w) = (common_prefix_len-le eqb (past_blanks w) layout.command).0 in
    record {
      not = λ (m : Matches (layout_form layout) w). is.other (first_law layout is.tests w m);
      before = λ (i : ℕ) (h : i < length (front_of w) + suc n). begins_shorter (layout_form layout) w (length (front_of w) + n) i (omega arith) (begins_line layout w is);
      here = elim (cases_lt n (length (past_blanks w))) [
        | inl h ↦ inl (
          omega arith,
          λ (b : Begins (layout_form layout) (take (length (front_of w) + suc n) w)).
              begins_no_line layout w is (omega arith) (subst (λ (p : List ℕ). Begins (layout_form layout) p) (taken layout w is (suc n)) b),
        )
        | inr h ↦ inr (omega arith)
      ];
    }

-- of a layout with a word
layout_column : (layout : Layout) → IsGood layout → lives (rest_form layout) ≡ true → (w : List ℕ) → (layout.command ≡ word_of w → ⊥) → (k : ℕ) → k ≡ common (past_blanks w) layout.command → IsColumn (layout_form layout) w (length w - length (past_blanks w) + k + 1)
layout_column layout tests alive w other k e =
    let is : IsOther layout w = record { tests = tests; alive = alive; cut = cut_of is_blank w; other = λ (h : word_of w ≡ layout.command). other (sym h) } in
    let place : length w - length (past_blanks w) + k + 1 ≡ length (front_of w) + suc k = column_place (length w) (length (front_of w)) (length (past_blanks w)) k (long layout w is) in
    subst (λ (c : ℕ). IsColumn (layout_form layout) w c) (sym (place ∙ ap (λ (i : ℕ). length (front_of w) + suc i) e)) (column_by layout w is)

-- the line begins with another word than a form that is listed with it
another : (form : LineForm) (command w : List ℕ) → Contains command_words (form, command) → (IsCommandWord form (word_of w) → ⊥) → (form ≡ Nothing → ⊥) → command ≡ word_of w → ⊥
another Nothing command w listed other some e = some refl
another form command w listed other some e = other (subst (λ (x : List ℕ). Contains command_words (form, x)) e listed)

pub other_column : (form : LineForm) (command w text : List ℕ) (k : ℕ) → Contains command_words (form, command) → (form ≡ Nothing → ⊥) → text ≡ past_blanks w → (IsCommandWord form (word_of w) → ⊥) → k ≡ common text command → IsColumn (line_form form command) w (length w - length text + k + 1)
other_column Nothing command w text k listed some e other is = absurd (some refl)
other_column form command w text k listed some e other is =
    subst (λ (x : List ℕ). IsColumn (line_form form command) w (length w - length x + k + 1)) (sym e)
    (layout_column (layout_of form command) (good_form form command listed).0 (good_form form command listed).1 w (another form command w listed other some) k (is ∙ ap (λ (x : List ℕ). common x command) e))
