-- What stands in a line of each form.
use Rattle.std.specs.Prelude.{ℕ, List, [], ◌∷◌, Option, Some, None, Bool, true, false, codes}
use Rattle.grammar.specs.Form.{Form, word}
use Rattle.grammar.specs.Grammar.{◌·◌, ◌∣◌, symbol, blanks, gap, perhaps, alone, comment, name_of, name, nat, var, vars, expr, frac, rel, con, cons, point, gens}
use Rattle.line_forms.specs.declared.form.LineForm.{LineForm}
use Rattle.line_forms.specs.declared.form.NameAndPart.{NameAndPart as NamedPart}
use Rattle.line_forms.specs.declared.form.SpaceAndPart.{SpaceAndPart as SpacePart}
use Rattle.line_forms.specs.declared.form.LineForm.TheVariants.{Nothing, Names, OneName, NameAndPart, TwoNames, ThreeNames, SpaceAlone, SpaceAndPart, TwoNamesNumber, TwoNamesMap, NameFormat, NameNumberName, NameNumberPrefix, Print, Remove, System, Trans, Bounds}
use Rattle.line_forms.specs.declared.form.NameAndPart.TheVariants as name_and_part
use Rattle.line_forms.specs.declared.form.SpaceAndPart.TheVariants as space_and_part

-- a line: its command word, what each word behind it may be, whether a relation may stand in the
-- place of the colon, and the part behind it
pub record Layout : Type 0 where
  pub command : List ℕ
  pub words : List Form
  pub relates : Bool
  pub part : Option Form

-- each word with a gap before it
abbrev pub words_form : List Form → Form
words_form [] = word []
words_form (f ∷ fs) = gap · f · words_form fs

-- a colon and the part with blanks around it, where there is a part
abbrev pub tail_form : Option Form → Form
tail_form None = blanks
tail_form (Some f) = blanks · symbol 58 · alone f

-- a colon or a relation, and the part with blanks around it
abbrev pub related_form : Form → Form
related_form f = blanks · (symbol 58 ∣ rel) · alone f

-- what stands behind the words
abbrev pub tail_of : Bool → Option Form → Form
tail_of true (Some f) = related_form f
tail_of relates part = tail_form part

-- what stands behind the command word
abbrev pub rest_form : Layout → Form
rest_form layout = words_form layout.words · tail_of layout.relates layout.part · perhaps comment

-- the lines of the layout
abbrev pub layout_form : Layout → Form
layout_form layout = blanks · word layout.command · rest_form layout

-- a blank line, or a comment alone
abbrev pub nothing_form : Form
nothing_form = blanks · perhaps comment

-- a topology
abbrev pub top : Form
top = word (codes "closed") ∣ word (codes "nnc")

-- which of the two stored lists
abbrev pub stored_list : Form
stored_list = word (codes "cons") ∣ word (codes "gens")

-- which of the two kinds of files
abbrev pub format : Form
format = word (codes "ine") ∣ word (codes "ext")

-- a name of at most 30 bytes
abbrev pub prefix : Form
prefix = name_of 29

-- a command word and words behind it
abbrev pub plain : List ℕ → List Form → Layout
plain command words = record { command = command; words = words; relates = false; part = None }

-- a command word, words behind it, and a part behind a colon
abbrev pub with_part : List ℕ → List Form → Form → Layout
with_part command words part = record {
  command = command;
  words = words;
  relates = false;
  part = Some part;
}

-- a command word, words behind it, and a part behind a colon or a relation
abbrev pub with_relation : List ℕ → List Form → Form → Layout
with_relation command words part = record {
  command = command;
  words = words;
  relates = true;
  part = Some part;
}

-- the part behind the name of a command with a name and a part
abbrev pub named_part : NamedPart → Form
named_part name_and_part.Add = cons
named_part name_and_part.Addgen = gens
named_part name_and_part.Has = point
named_part name_and_part.Relation = con
named_part name_and_part.Max = expr
named_part name_and_part.Min = expr

-- the part of a command with a topology and a part
abbrev pub space_part : SpacePart → Form
space_part space_and_part.Cons = cons
space_part space_and_part.Gens = gens

-- the layout of the lines of the form, where they begin with this word; a blank line has none of
-- its own
abbrev pub layout_of : LineForm → List ℕ → Layout
layout_of Nothing command = plain command []
layout_of Names command = plain command []
layout_of (OneName kind) command = plain command (name ∷ [])
layout_of (NameAndPart kind) command = with_part command (name ∷ []) (named_part kind)
layout_of (TwoNames kind) command = plain command (name ∷ name ∷ [])
layout_of (ThreeNames kind) command = plain command (name ∷ name ∷ name ∷ [])
layout_of (SpaceAlone kind) command = plain command (name ∷ top ∷ nat ∷ [])
layout_of (SpaceAndPart kind) command = with_part command (name ∷ top ∷ nat ∷ []) (space_part kind)
layout_of (TwoNamesNumber kind) command = plain command (name ∷ name ∷ nat ∷ [])
layout_of (TwoNamesMap kind) command = with_relation command (name ∷ name ∷ var ∷ []) frac
layout_of (NameFormat kind) command = plain command (name ∷ format ∷ [])
layout_of (NameNumberName kind) command = plain command (name ∷ nat ∷ name ∷ [])
layout_of (NameNumberPrefix kind) command = plain command (name ∷ nat ∷ prefix ∷ [])
layout_of Print command = plain command (stored_list ∷ name ∷ [])
layout_of Remove command = with_part command (name ∷ name ∷ []) vars
layout_of System command = plain command (name ∷ nat ∷ nat ∷ [])
layout_of Trans command = plain command (name ∷ nat ∷ nat ∷ name ∷ [])
layout_of Bounds command = with_part command (name ∷ nat ∷ []) cons

-- the lines of the form, where they begin with this word
abbrev pub line_form : LineForm → List ℕ → Form
line_form Nothing command = nothing_form
line_form form command = layout_form (layout_of form command)
