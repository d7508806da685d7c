-- What a line's form and its fields say.
use Rattle.std.specs.Prelude.{ℕ, ◌-◌, ◌^◌, ◌==◌, min, List, [], ◌∷◌, Bool, false, not, ◌&&◌, ◌||◌, if◌then◌else◌, codes, ◌≡◌, Result, MatchResult}
use Rattle.plain_text.specs.Digits.{number_after}
use Rattle.reply_text.specs.declared.faults.ReadErr.{ReadErr}
use Rattle.reply_text.specs.declared.faults.ReadErr.TheVariants as read_err
use Rattle.line_forms.specs.Fields.{Fields, fields_in}
use Rattle.line_forms.specs.Words.{is_word, begins_with}
use Rattle.line_forms.specs.declared.form.LineForm.{LineForm}
use Rattle.line_forms.specs.declared.form.LineForm.TheVariants as form
use Rattle.line_forms.specs.declared.form.OneName.TheVariants as one_name
use Rattle.line_forms.specs.declared.form.NameAndPart.TheVariants as name_and_part
use Rattle.line_forms.specs.declared.form.TwoNames.TheVariants as two_names
use Rattle.line_forms.specs.declared.form.ThreeNames.TheVariants as three_names
use Rattle.line_forms.specs.declared.form.SpaceAlone.TheVariants as space_alone
use Rattle.line_forms.specs.declared.form.SpaceAndPart.TheVariants as space_and_part
use Rattle.line_forms.specs.declared.form.TwoNamesNumber.TheVariants as two_names_number
use Rattle.line_forms.specs.declared.form.TwoNamesMap.TheVariants as two_names_map
use Rattle.line_forms.specs.declared.form.NameFormat.TheVariants as name_format
use Rattle.line_forms.specs.declared.form.NameNumberName.TheVariants as name_number_name
use Rattle.line_forms.specs.declared.form.NameNumberPrefix.TheVariants as name_number_prefix
use Rattle.script_text.specs.Variables.{variable_of, variables_of}
use Rattle.script_text.specs.declared.command.Command.{Command}
use Rattle.script_text.specs.declared.command.Command.TheVariants as command
use Rattle.script_text.specs.declared.command.Comparison.TheVariants as comparison
use Rattle.script_text.specs.declared.command.Extension.TheVariants as extension
use Rattle.script_text.specs.declared.command.Extremum.TheVariants as extremum
use Rattle.script_text.specs.declared.command.LocationPart.TheVariants as location_part
use Rattle.script_text.specs.declared.command.Mapping.TheVariants as mapping
use Rattle.script_text.specs.declared.command.Operator.TheVariants as operator
use Rattle.script_text.specs.declared.command.Part.{Part}
use Rattle.script_text.specs.declared.command.PowersetOperator.TheVariants as powerset_operator
use Rattle.script_text.specs.declared.command.Rel.{Rel}
use Rattle.script_text.specs.declared.command.Rel.TheVariants as rel
use Rattle.script_text.specs.declared.command.ShapeOperator.TheVariants as shape_operator
use Rattle.script_text.specs.declared.command.Space.TheVariants as space

-- the number that digits spell; 2^64 - 1 stands for all greater ones too
abbrev pub number_of : List ℕ → ℕ
number_of digits = min (number_after 0 digits) (2 ^ 64 - 1)

-- the byte and the text behind it begin with > or < and no = behind it, or with c(
abbrev pub begins_strict : ℕ → List ℕ → Bool
begins_strict b text =
    (((b == 60) || (b == 62)) && not (begins_with 61 text)) || ((b == 99) && begins_with 40 text)

-- > or < with no = behind it, or c(, stands in the text
abbrev pub is_strict : List ℕ → Bool
is_strict [] = false
is_strict (b ∷ text) = begins_strict b text || is_strict text

-- the part of this text
abbrev pub part_from : List ℕ → Part
part_from text = record { text = text; strict = is_strict text }

-- the relation that is spelled; a colon stands for =
abbrev pub relation_of : List ℕ → Rel
relation_of sign =
    if is_word sign (codes ">=") then rel.Ge else if is_word sign (codes "<=") then rel.Le
    else if is_word sign (codes ">") then rel.Gt else if is_word sign (codes "<") then rel.Lt
    else rel.Eq

-- the command of a line of the form with these fields
abbrev pub command_of : LineForm → Fields → Command
command_of form.Nothing f = command.Nothing
command_of form.Names f = command.Names
command_of (form.OneName one_name.Drop) f = command.Drop f.first
command_of (form.OneName one_name.Size) f = command.Size f.first
command_of (form.OneName one_name.Isempty) f = command.Isempty f.first
command_of (form.OneName one_name.Psize) f = command.Psize f.first
command_of (form.OneName one_name.Ranking) f = command.Ranking f.first
command_of (form.OneName one_name.ShapePrint) f = command.ShapePrint f.first
command_of (form.NameAndPart name_and_part.Add) f = command.Add f.first (part_from f.part)
command_of (form.NameAndPart name_and_part.Addgen) f = command.Addgen f.first (part_from f.part)
command_of (form.NameAndPart name_and_part.Has) f = command.Has f.first (part_from f.part)
command_of (form.NameAndPart name_and_part.Relation) f = command.Relation f.first (part_from f.part)
command_of (form.NameAndPart name_and_part.Max) f =
    command.Bound extremum.Max f.first (part_from f.part)
command_of (form.NameAndPart name_and_part.Min) f =
    command.Bound extremum.Min f.first (part_from f.part)
command_of (form.TwoNames two_names.Copy) f = command.Copy f.first f.second
command_of (form.TwoNames two_names.Closure) f = command.Closure f.first f.second
command_of (form.TwoNames two_names.Contains) f =
    command.Compare comparison.Contains f.first f.second
command_of (form.TwoNames two_names.Equal) f = command.Compare comparison.Equal f.first f.second
command_of (form.TwoNames two_names.Disjoint) f =
    command.Compare comparison.Disjoint f.first f.second
command_of (form.TwoNames two_names.Pset) f = command.Pset f.first f.second
command_of (form.TwoNames two_names.Covers) f = command.Covers f.first f.second
command_of (form.TwoNames two_names.Rank) f = command.Rank f.first f.second
command_of (form.TwoNames two_names.ShapeOf) f = command.ShapeOf f.first f.second
command_of (form.TwoNames two_names.ShapeContains) f = command.ShapeContains f.first f.second
command_of (form.TwoNames two_names.ShapePoly) f = command.ShapePoly f.first f.second
command_of (form.TwoNames two_names.Hybrid) f = command.Hybrid f.first f.second
command_of (form.ThreeNames three_names.Meet) f =
    command.OfTwo operator.Meet f.first f.second f.third
command_of (form.ThreeNames three_names.Hull) f =
    command.OfTwo operator.Hull f.first f.second f.third
command_of (form.ThreeNames three_names.Concat) f =
    command.OfTwo operator.Concat f.first f.second f.third
command_of (form.ThreeNames three_names.Elapse) f =
    command.OfTwo operator.Elapse f.first f.second f.third
command_of (form.ThreeNames three_names.Widen) f = command.Widen f.first f.second f.third
command_of (form.ThreeNames three_names.Join) f =
    command.OfTwoPowersets powerset_operator.Join f.first f.second f.third
command_of (form.ThreeNames three_names.PowersetMeet) f =
    command.OfTwoPowersets powerset_operator.Meet f.first f.second f.third
command_of (form.ThreeNames three_names.ShapeMeet) f =
    command.OfTwoShapes shape_operator.Meet f.first f.second f.third
command_of (form.ThreeNames three_names.ShapeHull) f =
    command.OfTwoShapes shape_operator.Hull f.first f.second f.third
command_of (form.SpaceAlone space_alone.Universe) f =
    command.Space space.Universe f.first (is_word f.second (codes "nnc")) (number_of f.third)
command_of (form.SpaceAlone space_alone.Empty) f =
    command.Space space.Empty f.first (is_word f.second (codes "nnc")) (number_of f.third)
command_of (form.SpaceAndPart space_and_part.Cons) f =
    command.Cons f.first (is_word f.second (codes "nnc")) (number_of f.third) (part_from f.part)
command_of (form.SpaceAndPart space_and_part.Gens) f =
    command.Gens f.first (is_word f.second (codes "nnc")) (number_of f.third) (part_from f.part)
command_of (form.TwoNamesNumber two_names_number.Embed) f =
    command.Extend extension.Embed f.first f.second (number_of f.third)
command_of (form.TwoNamesNumber two_names_number.Project) f =
    command.Extend extension.Project f.first f.second (number_of f.third)
command_of (form.TwoNamesNumber two_names_number.Member) f =
    command.Member f.first f.second (number_of f.third)
command_of (form.TwoNamesMap two_names_map.Image) f =
    command.Map mapping.Image f.first f.second (variable_of f.third) (relation_of f.sign)
    (part_from f.part)
command_of (form.TwoNamesMap two_names_map.Preimage) f =
    command.Map mapping.Preimage f.first f.second (variable_of f.third) (relation_of f.sign)
    (part_from f.part)
command_of (form.NameFormat name_format.Read) f =
    command.Read f.first (is_word f.second (codes "ext"))
command_of (form.NameFormat name_format.Write) f =
    command.Write f.first (is_word f.second (codes "ext"))
command_of (form.NameNumberName name_number_name.Init) f =
    command.Init f.first (number_of f.second) f.third
command_of (form.NameNumberName name_number_name.Invariant) f =
    command.SetPart location_part.Invariant f.first (number_of f.second) f.third
command_of (form.NameNumberName name_number_name.Flow) f =
    command.SetPart location_part.Flow f.first (number_of f.second) f.third
command_of (form.NameNumberPrefix name_number_prefix.Fixpoint) f =
    command.Fixpoint f.first (number_of f.second) f.third
command_of (form.NameNumberPrefix name_number_prefix.Reach) f =
    command.Reach f.first (number_of f.second) f.third
command_of form.Print f = command.Print (is_word f.first (codes "gens")) f.second
command_of form.Remove f = command.Remove f.first f.second (variables_of f.part)
command_of form.System f = command.System f.first (number_of f.second) (number_of f.third)
command_of form.Trans f = command.Trans f.first (number_of f.second) (number_of f.third) f.fourth
command_of form.Bounds f = command.Bounds f.first (number_of f.second) (part_from f.part)

-- the command of a line of the form with this behind its command word, or that memory ran out
abbrev pub IsMade : LineForm → List ℕ → Result Command ReadErr → Type 0
IsMade form rest result =
    MatchResult result (λ c. c ≡ command_of form (fields_in rest)) (λ e. e ≡ read_err.Memory)
