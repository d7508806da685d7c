-- The fields of a line.
use Rattle.std.specs.Prelude.{ℕ, List, [], ◌∷◌, Option, Some, None, Bool, true, false, slice_index_or}
use Rattle.grammar.specs.Form.{Form, Matches}
use Rattle.line_forms.specs.CommandWords.{HasForm}
use Rattle.line_forms.specs.Layouts.{Layout, words_form, tail_of, rest_form, layout_form, layout_of}
use Rattle.line_forms.specs.Words.{nth_word, sign_of, part_of}
use Rattle.line_forms.specs.declared.form.LineForm.{LineForm}
use Rattle.line_forms.specs.declared.form.LineForm.TheVariants.{Nothing}

-- the words behind the command word, the colon or relation, and the part behind it; a field that
-- the line hasn't is empty
pub record Fields : Type 0 where
  pub first : List ℕ
  pub second : List ℕ
  pub third : List ℕ
  pub fourth : List ℕ
  pub sign : List ℕ
  pub part : List ℕ

-- the words, in order
abbrev pub words_by : (fs : List Form) (w : List ℕ) → Matches (words_form fs) w → List (List ℕ)
words_by [] w m = []
words_by (f ∷ fs) w (g, r, e, between, (u, v, e2, is, others)) = u ∷ words_by fs v others

-- the colon or relation
abbrev pub sign_by :
    (relates : Bool) (o : Option Form) (w : List ℕ) → Matches (tail_of relates o) w → List ℕ
sign_by relates None w m = []
sign_by true (Some f) w (b, x, e, before, (sign, y, e2, is_sign, part)) = sign
sign_by false (Some f) w (b, x, e, before, (colon, y, e2, is_colon, part)) = colon

-- the part behind it, without the blanks around it
abbrev pub part_by :
    (relates : Bool) (o : Option Form) (w : List ℕ) → Matches (tail_of relates o) w → List ℕ
part_by relates None w m = []
part_by true (Some f) w (_, _, _, _, (_, _, _, _, (_, _, _, _, (text, _, _, _, _)))) = text
part_by false (Some f) w (_, _, _, _, (_, _, _, _, (_, _, _, _, (text, _, _, _, _)))) = text

-- word i, and no bytes where there are fewer words
abbrev pub at : List (List ℕ) → ℕ → List ℕ
at words i = slice_index_or words i []

-- the fields of these words, this colon or relation and this part
abbrev pub fields_from : List (List ℕ) → List ℕ → List ℕ → Fields
fields_from words sign part = record {
  first = at words 0;
  second = at words 1;
  third = at words 2;
  fourth = at words 3;
  sign = sign;
  part = part;
}

-- the fields of what stands behind the command word, by how it matches
abbrev pub rest_fields_by : (layout : Layout) (w : List ℕ) → Matches (rest_form layout) w → Fields
rest_fields_by layout w (ws, _, _, words, (t, _, _, tail, _)) =
    fields_from (words_by layout.words ws words) (sign_by layout.relates layout.part t tail)
    (part_by layout.relates layout.part t tail)

-- the fields of a line of the layout, by how it matches
abbrev pub fields_by : (layout : Layout) (w : List ℕ) → Matches (layout_form layout) w → Fields
fields_by layout w (_, _, _, _, (_, rest, _, _, behind)) = rest_fields_by layout rest behind

-- the fields of a line of the form
abbrev pub fields_of : (form : LineForm) (line : List ℕ) → HasForm form line → Fields
fields_of Nothing line h = fields_from [] [] []
fields_of form line h = fields_by (layout_of form h.word) line h.matches

-- the fields of what stands behind the command word, by its words alone
abbrev pub fields_in : List ℕ → Fields
fields_in rest = record {
  first = nth_word 0 rest;
  second = nth_word 1 rest;
  third = nth_word 2 rest;
  fourth = nth_word 3 rest;
  sign = sign_of rest;
  part = part_of rest;
}
