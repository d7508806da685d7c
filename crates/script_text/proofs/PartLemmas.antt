-- The parts of a command have their forms.
use Rattle.std.proofs.Common.{ℕ, List, [], Bool, true, false, Option, Some, None, refl, sym, append-nil}
use Rattle.grammar.specs.Form.{Form, Matches}
use Rattle.grammar.specs.Grammar.{alone, expr, vexpr, frac, vfrac, con, cons, point, gen, gens}
use Rattle.line_forms.specs.CommandWords.{HasForm}
use Rattle.line_forms.specs.Layouts.{Layout, tail_of, layout_form, layout_of}
use Rattle.line_forms.specs.Fields.{Fields, part_by, fields_by, fields_of}
use Rattle.line_forms.specs.declared.form.LineForm.{LineForm}
use Rattle.line_forms.specs.declared.form.LineForm.TheVariants.{OneName, NameAndPart, TwoNames, ThreeNames, SpaceAlone, SpaceAndPart, TwoNamesNumber, TwoNamesMap, NameFormat, NameNumberName, NameNumberPrefix, Bounds}
use Rattle.line_forms.specs.declared.form.OneName.TheVariants as one_name
use Rattle.line_forms.specs.declared.form.NameAndPart.TheVariants as name_and_part
use Rattle.line_forms.specs.declared.form.TwoNames.TheVariants as two_names
use Rattle.line_forms.specs.declared.form.ThreeNames.TheVariants as three_names
use Rattle.line_forms.specs.declared.form.SpaceAlone.TheVariants as space_alone
use Rattle.line_forms.specs.declared.form.SpaceAndPart.TheVariants as space_and_part
use Rattle.line_forms.specs.declared.form.TwoNamesNumber.TheVariants as two_names_number
use Rattle.line_forms.specs.declared.form.TwoNamesMap.TheVariants as two_names_map
use Rattle.line_forms.specs.declared.form.NameFormat.TheVariants as name_format
use Rattle.line_forms.specs.declared.form.NameNumberName.TheVariants as name_number_name
use Rattle.line_forms.specs.declared.form.NameNumberPrefix.TheVariants as name_number_prefix
use Rattle.script_text.specs.Commands.{command_of}
use Rattle.script_text.specs.Line.{PartsMatch, PartsTold}

alone_from : (f : Form) (u : List ℕ) → Matches f u → Matches (alone f) u
alone_from f u m = ([], u, refl, (0, refl), (u, [], sym (append-nil u), m, (0, refl)))

-- the text has the form of the part
abbrev PartIs : Option Form → List ℕ → Type 0
PartIs None u = Unit {0}
PartIs (Some f) u = Matches (alone f) u

tail_part : (relates : Bool) (o : Option Form) (t : List ℕ) (m : Matches (tail_of relates o) t) → PartIs o (part_by relates o t m)
tail_part relates None t m = tt
tail_part true (Some f) t (b, x, e, before, (sign, y, e2, is_sign, (c, z, e3, behind, (u, d, e4, is, end)))) = alone_from f u is
tail_part false (Some f) t (b, x, e, before, (colon, y, e2, is_colon, (c, z, e3, behind, (u, d, e4, is, end)))) = alone_from f u is

line_part : (layout : Layout) (w : List ℕ) (m : Matches (layout_form layout) w) → PartIs layout.part (fields_by layout w m).part
line_part layout w (b, x, e, before, (named, rest, e2, is, (ws, y, e3, in_words, (t, c, e4, tail, commented)))) = tail_part layout.relates layout.part t tail

-- each part of the command of a line has its form
pub parts_match : (form : LineForm) (w : List ℕ) (h : HasForm form w) → PartsMatch (command_of form (fields_of form w h))
unfolding expr vexpr frac vfrac con cons point gen gens
parts_match (SpaceAndPart space_and_part.Cons) w h = line_part (layout_of (SpaceAndPart space_and_part.Cons) h.word) w h.matches
parts_match (SpaceAndPart space_and_part.Gens) w h = line_part (layout_of (SpaceAndPart space_and_part.Gens) h.word) w h.matches
parts_match (NameAndPart name_and_part.Add) w h = line_part (layout_of (NameAndPart name_and_part.Add) h.word) w h.matches
parts_match (NameAndPart name_and_part.Addgen) w h = line_part (layout_of (NameAndPart name_and_part.Addgen) h.word) w h.matches
parts_match (NameAndPart name_and_part.Has) w h = line_part (layout_of (NameAndPart name_and_part.Has) h.word) w h.matches
parts_match (NameAndPart name_and_part.Relation) w h = line_part (layout_of (NameAndPart name_and_part.Relation) h.word) w h.matches
parts_match (NameAndPart name_and_part.Max) w h = line_part (layout_of (NameAndPart name_and_part.Max) h.word) w h.matches
parts_match (NameAndPart name_and_part.Min) w h = line_part (layout_of (NameAndPart name_and_part.Min) h.word) w h.matches
parts_match (TwoNamesMap two_names_map.Image) w h = line_part (layout_of (TwoNamesMap two_names_map.Image) h.word) w h.matches
parts_match (TwoNamesMap two_names_map.Preimage) w h = line_part (layout_of (TwoNamesMap two_names_map.Preimage) h.word) w h.matches
parts_match Bounds w h = line_part (layout_of Bounds h.word) w h.matches
parts_match (OneName one_name.Drop) w h = tt
parts_match (TwoNames two_names.Copy) w h = tt
parts_match (ThreeNames three_names.Widen) w h = tt
parts_match (SpaceAlone space_alone.Empty) w h = tt
parts_match (TwoNamesNumber two_names_number.Member) w h = tt
parts_match (NameFormat name_format.Read) w h = tt
parts_match (NameNumberName name_number_name.Init) w h = tt
parts_match (NameNumberPrefix name_number_prefix.Fixpoint) w h = tt
parts_match form w h = tt

-- what is told of each part is so
pub parts_told : (form : LineForm) (f : Fields) → PartsTold (command_of form f)
parts_told (SpaceAndPart space_and_part.Cons) f = refl
parts_told (SpaceAndPart space_and_part.Gens) f = refl
parts_told (NameAndPart name_and_part.Add) f = refl
parts_told (NameAndPart name_and_part.Addgen) f = refl
parts_told (NameAndPart name_and_part.Has) f = refl
parts_told (NameAndPart name_and_part.Relation) f = refl
parts_told (NameAndPart name_and_part.Max) f = refl
parts_told (NameAndPart name_and_part.Min) f = refl
parts_told (TwoNamesMap two_names_map.Image) f = refl
parts_told (TwoNamesMap two_names_map.Preimage) f = refl
parts_told Bounds f = refl
parts_told (OneName one_name.Drop) f = tt
parts_told (TwoNames two_names.Copy) f = tt
parts_told (ThreeNames three_names.Widen) f = tt
parts_told (SpaceAlone space_alone.Empty) f = tt
parts_told (TwoNamesNumber two_names_number.Member) f = tt
parts_told (NameFormat name_format.Read) f = tt
parts_told (NameNumberName name_number_name.Init) f = tt
parts_told (NameNumberPrefix name_number_prefix.Fixpoint) f = tt
parts_told form f = tt
