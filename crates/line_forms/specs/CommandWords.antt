-- The forms of lines, each with its command word.
use Rattle.std.specs.Prelude.{ℕ, List, [], ◌∷◌, Contains, codes, map}
use Rattle.grammar.specs.Form.{Form, Matches}
use Rattle.line_forms.specs.Layouts.{line_form}
use Rattle.line_forms.specs.declared.form.LineForm.{LineForm}
use Rattle.line_forms.specs.declared.form.LineForm.TheVariants.{Nothing, Names, OneName, NameAndPart, TwoNames, ThreeNames, SpaceAlone, SpaceAndPart, TwoNamesNumber, TwoNamesMap, NameFormat, NameNumberName, NameNumberPrefix, Print, Remove, System, Trans, Bounds}
use Rattle.line_forms.specs.declared.form.OneName.TheVariants as one_name
use Rattle.line_forms.specs.declared.form.NameAndPart.TheVariants as name_and_part
use Rattle.line_forms.specs.declared.form.TwoNames.TheVariants as two_names
use Rattle.line_forms.specs.declared.form.ThreeNames.TheVariants as three_names
use Rattle.line_forms.specs.declared.form.SpaceAlone.TheVariants as space_alone
use Rattle.line_forms.specs.declared.form.SpaceAndPart.TheVariants as space_and_part
use Rattle.line_forms.specs.declared.form.TwoNamesNumber.TheVariants as two_names_number
use Rattle.line_forms.specs.declared.form.TwoNamesMap.TheVariants as two_names_map
use Rattle.line_forms.specs.declared.form.NameFormat.TheVariants as name_format
use Rattle.line_forms.specs.declared.form.NameNumberName.TheVariants as name_number_name
use Rattle.line_forms.specs.declared.form.NameNumberPrefix.TheVariants as name_number_prefix

-- a form of lines with its command word
abbrev pub CommandWord : Type 0
CommandWord = LineForm × List ℕ

-- the command words, a line each; a blank line has none
abbrev pub command_words : List CommandWord
command_words =
    (Nothing, [])
    ∷ (SpaceAndPart space_and_part.Cons, codes "cons")
    ∷ (SpaceAndPart space_and_part.Gens, codes "gens")
    ∷ (SpaceAlone space_alone.Universe, codes "universe")
    ∷ (SpaceAlone space_alone.Empty, codes "empty")
    ∷ (TwoNames two_names.Copy, codes "copy")
    ∷ (OneName one_name.Drop, codes "drop")
    ∷ (NameAndPart name_and_part.Add, codes "add")
    ∷ (NameAndPart name_and_part.Addgen, codes "addgen")
    ∷ (NameAndPart name_and_part.Has, codes "has")
    ∷ (OneName one_name.Size, codes "size")
    ∷ (Print, codes "print")
    ∷ (Names, codes "names")
    ∷ (ThreeNames three_names.Meet, codes "meet")
    ∷ (ThreeNames three_names.Hull, codes "hull")
    ∷ (TwoNames two_names.Closure, codes "closure")
    ∷ (TwoNames two_names.Contains, codes "contains")
    ∷ (TwoNames two_names.Equal, codes "equal")
    ∷ (TwoNames two_names.Disjoint, codes "disjoint")
    ∷ (OneName one_name.Isempty, codes "isempty")
    ∷ (NameAndPart name_and_part.Relation, codes "relation")
    ∷ (NameAndPart name_and_part.Max, codes "max")
    ∷ (NameAndPart name_and_part.Min, codes "min")
    ∷ (TwoNamesMap two_names_map.Image, codes "image")
    ∷ (TwoNamesMap two_names_map.Preimage, codes "preimage")
    ∷ (TwoNamesNumber two_names_number.Embed, codes "embed")
    ∷ (TwoNamesNumber two_names_number.Project, codes "project")
    ∷ (Remove, codes "remove")
    ∷ (ThreeNames three_names.Concat, codes "concat")
    ∷ (ThreeNames three_names.Elapse, codes "elapse")
    ∷ (ThreeNames three_names.Widen, codes "widen")
    ∷ (NameFormat name_format.Read, codes "read")
    ∷ (NameFormat name_format.Write, codes "write")
    ∷ (System, codes "system")
    ∷ (NameNumberName name_number_name.Init, codes "init")
    ∷ (Trans, codes "trans")
    ∷ (NameNumberPrefix name_number_prefix.Fixpoint, codes "fixpoint")
    ∷ (TwoNames two_names.Pset, codes "pset")
    ∷ (ThreeNames three_names.Join, codes "join")
    ∷ (ThreeNames three_names.PowersetMeet, codes "pmeet")
    ∷ (TwoNamesNumber two_names_number.Member, codes "member")
    ∷ (OneName one_name.Psize, codes "psize")
    ∷ (TwoNames two_names.Covers, codes "covers")
    ∷ (TwoNames two_names.Rank, codes "rank")
    ∷ (OneName one_name.Ranking, codes "ranking")
    ∷ (TwoNames two_names.ShapeOf, codes "shape")
    ∷ (Bounds, codes "bounds")
    ∷ (ThreeNames three_names.ShapeMeet, codes "smeet")
    ∷ (ThreeNames three_names.ShapeHull, codes "shull")
    ∷ (TwoNames two_names.ShapeContains, codes "scontains")
    ∷ (OneName one_name.ShapePrint, codes "sprint")
    ∷ (TwoNames two_names.ShapePoly, codes "spoly")
    ∷ (TwoNames two_names.Hybrid, codes "hybrid")
    ∷ (NameNumberName name_number_name.Invariant, codes "inv")
    ∷ (NameNumberName name_number_name.Flow, codes "flow")
    ∷ (NameNumberPrefix name_number_prefix.Reach, codes "reach")
    ∷ []

-- the word is the form's command word; a blank line has none
abbrev pub IsCommandWord : LineForm → List ℕ → Type 0
IsCommandWord Nothing w = ⊥
IsCommandWord form w = Contains command_words (form, w)

-- the word is no form's command word
abbrev pub IsNoCommandWord : List ℕ → Type 0
IsNoCommandWord w = (form : LineForm) → ¬ (IsCommandWord form w)

-- the lines of the form that begin with this word
abbrev pub lines_with : CommandWord → Form
lines_with row = line_form row.0 row.1

-- the lines of each form with its command word
abbrev pub line_forms : List Form
line_forms = map lines_with command_words

-- the line begins with the form's command word, and goes on as the form does
pub record HasForm (form : LineForm) (line : List ℕ) : Type 0 where
  pub word : List ℕ
  pub listed : Contains command_words (form, word)
  pub matches : Matches (line_form form word) line
