-- The laws of the layouts, for the forms of the table.
use Rattle.std.proofs.Common.{◌≡◌, Bool, true, false, ◌&&◌, refl, List, [], ◌∷◌, ℕ, length, map, ap, sym, subst, arith, ◌∙◌, inl, inr}
use Rattle.std.specs.Prelude.{Contains, slice_index}
use Rattle.std.specs.List.{list_all}
use Rattle.std.specs.Str.{bytes_eq}
use Rattle.std.proofs.lemmas.Bool.{and_parts, false≢true}
use Rattle.std.proofs.lemmas.Slice.Eq.{bytes_eq-Decides}
use Rattle.grammar.specs.Grammar.{expr, vexpr, frac, vfrac, con, cons, point, gen, gens}
use Rattle.grammar.specs.Form.{Matches}
use Rattle.grammar.specs.Derivative.{lives}
use Rattle.line_forms.specs.CommandWords.{CommandWord, command_words, IsCommandWord, lines_with, HasForm}
use Rattle.line_forms.specs.Layouts.{rest_form, layout_of}
use Rattle.line_forms.specs.Slots.{slot, candidate}
use Rattle.line_forms.specs.Words.{word_of}
use Rattle.line_forms.specs.Laws.{IsFormRead}
use Rattle.line_forms.specs.declared.places.TheConstants.{PLACES}
use Rattle.line_forms.specs.declared.form.LineForm.{LineForm}
use Rattle.line_forms.specs.declared.form.LineForm.TheVariants.{Nothing}
use Rattle.line_forms.proofs.Listed.{placed, passes, kept}
use Rattle.line_forms.proofs.RestLaws.{is_good, IsGood, good, fields_law, first_law, nothing_law}

-- the tests of a form with its command word
abbrev is_tested : LineForm → List ℕ → Bool
is_tested Nothing [] = true
is_tested Nothing (b ∷ word) = false
is_tested form word = is_good (layout_of form word) && lives (rest_form (layout_of form word))

all_tested : list_all (λ (row : CommandWord). is_tested row.0 row.1) command_words ≡ true
unfolding expr vexpr frac vfrac con cons point gen gens
all_tested = refl

tested : (form : LineForm) (word : List ℕ) → Contains command_words (form, word) → is_tested form word ≡ true
tested form word listed = passes (λ (row : CommandWord). is_tested row.0 row.1) command_words (form, word) all_tested listed

-- what the tests say of a form with words
abbrev pub IsTested : LineForm → List ℕ → Type 0
IsTested Nothing word = word ≡ []
IsTested form word = IsGood (layout_of form word) × (lives (rest_form (layout_of form word)) ≡ true)

pub good_form : (form : LineForm) (word : List ℕ) → Contains command_words (form, word) → IsTested form word
good_form Nothing [] listed = refl
good_form Nothing (b ∷ word) listed = absurd (false≢true (tested Nothing (b ∷ word) listed))
good_form form word listed =
    let both = and_parts (is_good (layout_of form word)) (lives (rest_form (layout_of form word))) (tested form word listed) in
    (good (layout_of form word) both.0, both.1)

-- the fields of a line, however it matches, are those of its words
pub fields_are : (form : LineForm) (line : List ℕ) (h : HasForm form line) → IsFormRead form line h
fields_are Nothing line h = tt
fields_are form line h = fields_law (layout_of form h.word) (good_form form h.word h.listed).0 line h.matches

each_own : map (λ (row : CommandWord). candidate row.1) command_words ≡ command_words
each_own = refl

-- a command word leads to its form
pub own_word : (row : CommandWord) → Contains command_words row → candidate row.1 ≡ row
own_word row listed = kept (λ (r : CommandWord). candidate r.1) command_words row each_own listed

-- the first word tells the form
told_by : (form : LineForm) (word line : List ℕ) → Contains command_words (form, word) → Matches (lines_with (form, word)) line → candidate (word_of line) ≡ (form, word)
told_by Nothing word line listed m = ap candidate (nothing_law line m) ∙ ap (λ (w : List ℕ). (Nothing, w)) (sym (good_form Nothing word listed))
told_by form word line listed m = ap candidate (first_law (layout_of form word) (good_form form word listed).0 line m) ∙ own_word (form, word) listed

-- a line is one form's
pub form_once : (f g : LineForm) (line : List ℕ) → HasForm f line → HasForm g line → f ≡ g
form_once f g line h k = ap (λ (row : CommandWord). row.0) (sym (told_by f h.word line h.listed h.matches) ∙ told_by g k.word line k.listed k.matches)

-- a line whose first word is a form's command word is the form's
pub told_row : (row r : CommandWord) (line : List ℕ) → Contains command_words row → word_of line ≡ row.1 → Contains command_words r → Matches (lines_with r) line → r ≡ row
told_row row r line listed e known m = sym (told_by r.0 r.1 line known m) ∙ (ap candidate e ∙ own_word row listed)

-- the form is listed with its command word
pub named_listed : (form : LineForm) (w : List ℕ) → IsCommandWord form w → Contains command_words (form, w)
named_listed Nothing w m = absurd m
named_listed form w m = m

listed_named : (form : LineForm) (w : List ℕ) → (length w ≡ 0 → ⊥) → Contains command_words (form, w) → IsCommandWord form w
listed_named Nothing w some listed = absurd (some (ap length (good_form Nothing w listed)))
listed_named form w some listed = listed

-- no form has the empty word
pub no_empty_word : (w : List ℕ) (form : LineForm) → length w ≡ 0 → IsCommandWord form w → ⊥
no_empty_word [] form e m = subst (λ (f : LineForm). IsCommandWord f []) (sym (ap (λ (row : CommandWord). row.0) (own_word (form, []) (named_listed form [] m)))) m
no_empty_word (x ∷ w) form e m = absurd (omega arith)

-- no form has a word other than that of its candidate
pub no_other_word : (w v : List ℕ) → v ≡ (candidate w).1 → bytes_eq w v ≡ false → (form : LineForm) → IsCommandWord form w → ⊥
no_other_word w v is other form m =
    let same : w ≡ v = sym (is ∙ ap (λ (row : CommandWord). row.1) (own_word (form, w) (named_listed form w m))) in
    false≢true (sym other ∙ (bytes_eq-Decides w v).1 same)

-- a word that is the candidate's
pub word_names : (form : LineForm) (w : List ℕ) → (length w ≡ 0 → ⊥) → candidate w ≡ (form, w) → IsCommandWord form w
word_names form w some e =
    elim (placed command_words (slice_index PLACES (slot w)) (Nothing, []) (form, w) e) [
      | inl none ↦ absurd (some (ap (λ (row : CommandWord). length row.1) none))
      | inr listed ↦ listed_named form w some listed
    ]
