-- The column of a line whose first word is a command's is that of what stands behind the word.
use Rattle.std.proofs.Common.{◌≡◌, ℕ, ◌+◌, ◌-◌, ◌<◌, ◌≤◌, List, [], ◌∷◌, ◌++◌, Bool, true, false, eqb, zero, suc, length, take, drop, cond, refl, ap, arith, subst, sym, ◌∙◌, append_assoc, inl, inr}
use Rattle.std.specs.Prelude.{Contains}
use Rattle.std.specs.List.{take_while}
use Rattle.std.proofs.lemmas.Bool.{eqb-true}
use Rattle.std.proofs.lemmas.List.{length-append}
use Rattle.std.proofs.lemmas.List.Sums.{take_while-cons}
use Rattle.std.proofs.Math.Seq.{take-append-add}
use Rattle.grammar.specs.Form.{Form, word, Matches, Begins, IsColumn, IsColumnOfAny}
use Rattle.grammar.specs.Grammar.{blank, blanks}
use Rattle.grammar.specs.Derivative.{lives}
use Rattle.grammar.proofs.Columns.{begins_shorter, means_start, begins_from_rows}
use Rattle.grammar.proofs.AvoidedByte.{or_cases}
use Rattle.line_forms.specs.Words.{is_blank, is_in_word, past_blanks, word_of, behind_word}
use Rattle.line_forms.specs.CommandWords.{CommandWord, command_words, IsCommandWord, lines_with, line_forms, HasForm}
use Rattle.line_forms.specs.Layouts.{Layout, rest_form, layout_form, layout_of}
use Rattle.line_forms.specs.declared.form.LineForm.{LineForm}
use Rattle.line_forms.specs.declared.form.LineForm.TheVariants.{Nothing}
use Rattle.line_forms.proofs.WordLemmas.{Each, Stops, IsWord, word_of-append, behind_word-append}
use Rattle.line_forms.proofs.Listed.{any_begins, none_matches, none_begins}
use Rattle.line_forms.proofs.FormLaws.{good_form, told_row}
use Rattle.line_forms.proofs.RestLaws.{IsGood, Each-blanks, split_law}
use Rattle.line_forms.proofs.EdgeLemmas.{good_word}

-- the bytes from the front on that pass, and the others
pub record IsCut (p : ℕ → Bool) (w : List ℕ) : Type 0 where
  pub each : Each p (take_while p w)
  pub stops : Stops p (drop (length (take_while p w)) w)
  pub whole : w ≡ take_while p w ++ drop (length (take_while p w)) w

first_cut : (t : Bool) (p : ℕ → Bool) (b : ℕ) (w : List ℕ) → p b ≡ t → IsCut p w → IsCut p (b ∷ w)
first_cut true p b w e cut =
    let front : take_while p (b ∷ w) ≡ b ∷ take_while p w = take_while-cons p b w ∙ ap (λ (x : Bool). cond x (b ∷ take_while p w) []) e in
    record {
      each = subst (Each p) (sym front) (e, cut.each);
      stops = subst (λ (x : List ℕ). Stops p (drop (length x) (b ∷ w))) (sym front) cut.stops;
      whole = subst (λ (x : List ℕ). b ∷ w ≡ x ++ drop (length x) (b ∷ w)) (sym front) (ap (λ (x : List ℕ). b ∷ x) cut.whole);
    }
first_cut false p b w e cut =
    let front : take_while p (b ∷ w) ≡ [] = take_while-cons p b w ∙ ap (λ (x : Bool). cond x (b ∷ take_while p w) []) e in
    record {
      each = subst (Each p) (sym front) tt;
      stops = subst (λ (x : List ℕ). Stops p (drop (length x) (b ∷ w))) (sym front) e;
      whole = subst (λ (x : List ℕ). b ∷ w ≡ x ++ drop (length x) (b ∷ w)) (sym front) refl;
    }

pub cut_of : (p : ℕ → Bool) (w : List ℕ) → IsCut p w
cut_of p [] = record { each = tt; stops = tt; whole = refl }
cut_of p (b ∷ w) = first_cut (p b) p b w refl (cut_of p w)

one_blank : (b : ℕ) → is_blank b ≡ true → Matches blank (b ∷ [])
one_blank b e =
    elim (or_cases (eqb b 32) (eqb b 9) e) [
      | inl h ↦ (let is : b ≡ 32 = eqb-true b 32 h in inl (b, omega arith, omega arith, refl))
      | inr h ↦ (let is : b ≡ 9 = eqb-true b 9 h in inr (b, omega arith, omega arith, refl))
    ]

more_blanks : (b : ℕ) (u : List ℕ) → is_blank b ≡ true → Matches blanks u → Matches blanks (b ∷ u)
more_blanks b u e (n, times) = (suc n, (b ∷ [], u, refl, one_blank b e, times))

pub blanks_of : (u : List ℕ) → Each is_blank u → Matches blanks u
blanks_of [] h = (0, refl)
blanks_of (b ∷ u) h = more_blanks b u h.0 (blanks_of u h.1)

-- a line whose first word is the layout's
pub record IsLineOf (layout : Layout) (w : List ℕ) : Type 0 where
  pub before : List ℕ
  pub blank : Matches blanks before
  pub whole : w ≡ before ++ (layout.command ++ behind_word w)
  pub stops : Stops is_in_word (behind_word w)

pub line_of : (layout : Layout) (w : List ℕ) → layout.command ≡ word_of w → IsLineOf layout w
line_of layout w e =
    let outer : IsCut is_blank w = cut_of is_blank w in
    let inner : IsCut is_in_word (past_blanks w) = cut_of is_in_word (past_blanks w) in
    record {
      before = take_while is_blank w;
      blank = blanks_of (take_while is_blank w) outer.each;
      whole = outer.whole ∙ ap (λ (x : List ℕ). take_while is_blank w ++ x) (inner.whole ∙ ap (λ (x : List ℕ). x ++ behind_word w) (sym e));
      stops = inner.stops;
    }

-- where what stands behind the word has its form, the line has the layout
pub line_matches : (layout : Layout) (w : List ℕ) → IsLineOf layout w → Matches (rest_form layout) (behind_word w) → Matches (layout_form layout) w
line_matches layout w is m = (is.before, layout.command ++ behind_word w, is.whole, is.blank, (layout.command, behind_word w, refl, refl, m))

-- what stands behind the word of a line of the layout
pub rest_matches : (layout : Layout) → IsGood layout → (w : List ℕ) → Matches (layout_form layout) w → Matches (rest_form layout) (behind_word w)
rest_matches layout is w (b, x, e, before, (command, rest, e2, named, behind)) =
    subst (λ (r : List ℕ). Matches (rest_form layout) r) (sym (split_law layout is w b x command rest e e2 before named behind).behind) behind

-- a front of what stands behind the word gives a front of a line
pub line_begins : (layout : Layout) (b p : List ℕ) → Matches blanks b → Begins (rest_form layout) p → Begins (layout_form layout) ((b ++ layout.command) ++ p)
line_begins layout b p blank (rest, m) =
    let whole : ((b ++ layout.command) ++ p) ++ rest ≡ b ++ (layout.command ++ (p ++ rest)) = simp append_assoc in
    (rest, (b, layout.command ++ (p ++ rest), whole, blank, (layout.command, p ++ rest, refl, refl, m)))

pub some_begins : (f : Form) → lives f ≡ true → Begins f []
some_begins f alive = begins_from_rows f [] ((f ∷ []) ∷ []) (means_start f alive) (λ (e : (f ∷ []) ∷ [] ≡ []). cc)

pub stops_take : (p : ℕ → Bool) (w : List ℕ) (j : ℕ) (more : List ℕ) → suc j ≤ length w → Stops p w → Stops p (take (suc j) w ++ more)
stops_take p [] j more h s = absurd (omega arith)
stops_take p (b ∷ w) j more h s = s

-- a front of the line reaches behind the word
pub record Reaches (layout : Layout) (w : List ℕ) : Type 0 where
  pub line : IsLineOf layout w
  pub front : List ℕ
  pub is : front ≡ line.before ++ layout.command
  pub whole : w ≡ front ++ behind_word w
  pub taken : (i : ℕ) → take (length w - length (behind_word w) + i) w ≡ front ++ take i (behind_word w)
  pub long : length w ≡ length front + length (behind_word w)

cut_length : (n m k : ℕ) → n ≡ k + m → n - m ≡ k
cut_length n m k e = omega arith

reaches : (layout : Layout) (w : List ℕ) → IsLineOf layout w → Reaches layout w
reaches layout w line =
    let front = line.before ++ layout.command in
    let rest = behind_word w in
    let whole : w ≡ front ++ rest = line.whole ∙ sym (append_assoc line.before layout.command rest) in
    let long : length w ≡ length front + length rest = ap length whole ∙ length-append front rest in
    record {
      line = line;
      front = front;
      is = refl;
      whole = whole;
      taken = λ (i : ℕ). ap (λ (n : ℕ). take (n + i) w) (cut_length (length w) (length rest) (length front) long) ∙ (ap (take (length front + i)) whole ∙ take-append-add front rest i);
      long = long;
    }

-- the layout is that of a row of the table
pub record IsRowOf (row : CommandWord) (layout : Layout) : Type 0 where
  pub listed : Contains command_words row
  pub tests : IsGood layout
  pub alive : lives (rest_form layout) ≡ true
  pub form : lines_with row ≡ layout_form layout
  pub command : row.1 ≡ layout.command

-- a text of any row that begins with blanks, the word and what ends it is one of this row
told_rest : (row : CommandWord) (layout : Layout) → IsRowOf row layout → (r : CommandWord) (z b rest : List ℕ) → z ≡ b ++ (layout.command ++ rest) → Matches blanks b → Stops is_in_word rest → Contains command_words r → Matches (lines_with r) z → Matches (rest_form layout) rest
told_rest row layout is r z b rest e blank stops listed m =
    let named : IsWord layout.command = good_word (word layout.command) layout.command is.tests.command refl in
    let first : word_of z ≡ layout.command = ap word_of e ∙ word_of-append b layout.command rest (Each-blanks b blank) named stops in
    let behind : behind_word z ≡ rest = ap behind_word e ∙ behind_word-append b layout.command rest (Each-blanks b blank) named stops in
    let told : r ≡ row = told_row row r z is.listed (first ∙ sym is.command) listed m in
    let of_row : Matches (lines_with row) z = subst (λ (y : CommandWord). Matches (lines_with y) z) told m in
    subst (λ (y : List ℕ). Matches (rest_form layout) y) behind (rest_matches layout is.tests z (subst (λ (f : Form). Matches f z) is.form of_row))

regroup : (z front b command q more : List ℕ) → z ≡ front ++ q → front ≡ b ++ command → z ++ more ≡ b ++ (command ++ (q ++ more))
regroup z front b command q more e d = rw (e, d) (simp append_assoc)

-- no row has a text that begins so, where no text of the layout goes on so behind the word
no_row_begins : (row : CommandWord) (layout : Layout) → IsRowOf row layout → (w : List ℕ) → Reaches layout w → (j : ℕ) → suc j ≤ length (behind_word w) → (Begins (rest_form layout) (take (suc j) (behind_word w)) → ⊥) →
    (r : CommandWord) → Contains command_words r → Begins (lines_with r) (take (length w - length (behind_word w) + suc j) w) → ⊥
no_row_begins row layout is w at j h never r listed (more, m) =
    let q = take (suc j) (behind_word w) in
    let p = take (length w - length (behind_word w) + suc j) w in
    let stops : Stops is_in_word (q ++ more) = stops_take is_in_word (behind_word w) j more h at.line.stops in
    never (more, told_rest row layout is r (p ++ more) at.line.before (q ++ more) (regroup p at.front at.line.before layout.command q more (at.taken (suc j)) at.is) at.line.blank stops listed m)

row_begins : (row : CommandWord) (layout : Layout) → IsRowOf row layout → (w : List ℕ) → Reaches layout w → (j : ℕ) → Begins (rest_form layout) (take j (behind_word w)) → Begins (lines_with row) (take (length w - length (behind_word w) + j) w)
row_begins row layout is w at j begins =
    let line : Begins (layout_form layout) ((at.line.before ++ layout.command) ++ take j (behind_word w)) = line_begins layout at.line.before (take j (behind_word w)) at.line.blank begins in
    let same : take (length w - length (behind_word w) + j) w ≡ (at.line.before ++ layout.command) ++ take j (behind_word w) = at.taken j ∙ ap (λ (x : List ℕ). x ++ take j (behind_word w)) at.is in
    subst (λ (f : Form). Begins f (take (length w - length (behind_word w) + j) w)) (sym is.form) (subst (λ (p : List ℕ). Begins (layout_form layout) p) (sym same) line)

column_at : (row : CommandWord) (layout : Layout) → IsRowOf row layout → (w : List ℕ) → Reaches layout w → (k : ℕ) → IsColumn (rest_form layout) (behind_word w) k → IsColumnOfAny line_forms w (length w - length (behind_word w) + k)
column_at row layout is w at zero column =
    absurd (elim column.here [ inl h ↦ h.1 (some_begins (rest_form layout) is.alive) | inr e ↦ omega arith ])
column_at row layout is w at (suc j) column =
    let long : length w ≡ length at.front + length (behind_word w) = at.long in
    record {
      not = none_matches command_words w (λ (r : CommandWord) (listed : Contains command_words r) (m : Matches (lines_with r) w). column.not (told_rest row layout is r w at.line.before (behind_word w) at.line.whole at.line.blank at.line.stops listed m));
      before = λ (i : ℕ) (h : i < length w - length (behind_word w) + suc j).
          any_begins command_words row (take i w) is.listed
          (begins_shorter (lines_with row) w (length w - length (behind_word w) + j) i (omega arith) (row_begins row layout is w at j (column.before j (omega arith))));
      here = elim column.here [
        | inl h ↦ inl (omega arith, none_begins command_words (take (length w - length (behind_word w) + suc j) w) (no_row_begins row layout is w at j h.0 h.1))
        | inr e ↦ inr (omega arith)
      ];
    }

row_of_word : (form : LineForm) (w : List ℕ) → IsCommandWord form w → IsRowOf (form, w) (layout_of form w)
row_of_word Nothing w named = absurd named
row_of_word form w named = record { listed = named; tests = (good_form form w named).0; alive = (good_form form w named).1; form = refl; command = refl }

-- a line whose first word is the form's command word, and what stands behind it has the form
pub form_accepts : (form : LineForm) (w rest : List ℕ) → IsCommandWord form (word_of w) → rest ≡ behind_word w → Matches (rest_form (layout_of form (word_of w))) rest → HasForm form w
form_accepts form w rest named e m =
    let layout : Layout = layout_of form (word_of w) in
    let is : IsRowOf (form, word_of w) layout = row_of_word form (word_of w) named in
    record {
      word = word_of w;
      listed = is.listed;
      matches = subst (λ (f : Form). Matches f w) (sym is.form) (line_matches layout w (line_of layout w (sym is.command)) (subst (λ (x : List ℕ). Matches (rest_form layout) x) e m));
    }

-- a line whose first word is the form's command word, and what stands behind it hasn't the form
pub form_refuses : (form : LineForm) (w rest : List ℕ) (k : ℕ) → IsCommandWord form (word_of w) → rest ≡ behind_word w → IsColumn (rest_form (layout_of form (word_of w))) rest k → IsColumnOfAny line_forms w (length w - length rest + k)
form_refuses form w rest k named e column =
    let layout : Layout = layout_of form (word_of w) in
    let is : IsRowOf (form, word_of w) layout = row_of_word form (word_of w) named in
    let line : IsLineOf layout w = line_of layout w (sym is.command) in
    subst (λ (x : List ℕ). IsColumnOfAny line_forms w (length w - length x + k)) (sym e)
    (column_at (form, word_of w) layout is w (reaches layout w line) k (subst (λ (x : List ℕ). IsColumn (rest_form layout) x k) e column))
