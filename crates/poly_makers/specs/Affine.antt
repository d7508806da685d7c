-- What the commands mean that map polyhedra, and the one that takes variables away.
use Rattle.std.specs.Prelude.{ℕ, ◌<◌, List, length, ℤ, Bool, All}
use Rattle.row_core.specs.declared.errors.Overflow.{Overflow}
use Rattle.reply_text.specs.declared.faults.Fault.TheVariants as fault
use Rattle.term_text.specs.Texts.{IsFrac}
use Rattle.poly_pair.specs.Polyhedra.{Polyhedron}
use Rattle.affine_maps.specs.declared.relations.ImageRel.{ImageRel}
use Rattle.affine_maps.specs.declared.relations.ImageRel.TheVariants as image
use Rattle.mapped_systems.specs.Maps.{remaining, kept_variables}
use Rattle.affine_maps.specs.Relations.{IsImageBy, IsPreimageBy}
use Rattle.affine_maps.specs.ImageResults.{IsStoredOfImage, LeavesInImageBy, IsStoredOfPreimage, LeavesInPreimageBy}
use Rattle.dimensions.specs.Results.{IsImage, IsStoredOfMapped}
use Rattle.dimensions.specs.Refusals.{LeavesOnMapped}
use Rattle.script_text.specs.declared.command.Part.{Part}
use Rattle.script_text.specs.declared.command.Rel.{Rel}
use Rattle.script_text.specs.declared.command.Rel.TheVariants as rel
use Rattle.script_text.specs.declared.command.Mapping.{Mapping}
use Rattle.script_text.specs.declared.command.Mapping.TheVariants.{Image, Preimage}
use Rattle.line_values.specs.Order.{Conditions}
use Rattle.poly_makers.specs.Results.{IsResult}
use Rattle.line_values.specs.Meaning.{Meaning, room}
use Rattle.line_values.specs.Texts.{fraction_fault, with_text}

-- ---- the dimension
-- some variable of a list isn't below the dimension
abbrev pub variables_fault : ℕ → List ℕ → Conditions
variables_fault dim vars fault.OutOfRange = ¬ (All (λ (i : ℕ). i < dim) vars)
variables_fault dim vars other = ⊥

-- its points without these variables, stored of the list of its generators without their columns
abbrev pub IsRemoved : List ℕ → Polyhedron → Polyhedron → Type 0
IsRemoved vars p =
    IsResult (IsImage (remaining p.cons.dim vars) (length (kept_variables p.cons.dim vars)) p)
    (IsStoredOfMapped (remaining p.cons.dim vars) (length (kept_variables p.cons.dim vars)) p)

-- remove OUT P : VARS
abbrev pub remove : Bool → List ℕ → Polyhedron → Meaning Polyhedron
remove full vars p = record {
  conditions = with_text (variables_fault p.cons.dim vars) (room full);
  overflows =
      LeavesOnMapped (remaining p.cons.dim vars) (length (kept_variables p.cons.dim vars)) p;
  does = IsRemoved vars p;
}

-- ---- maps
-- the variable is below the dimension, and the text says a fraction that has this property
pub record SaysReplacement (dim v : ℕ) (part : Part) (P : List ℤ → ℤ → Type 0) : Type 0 where
  pub expr : List ℤ
  pub divisor : ℤ
  pub within : v < dim
  pub read : IsFrac dim part.text expr divisor
  pub holds : P expr divisor

-- the relation of a line, as one of images
abbrev pub image_rel : Rel → ImageRel
image_rel rel.Eq = image.Eq
image_rel rel.Ge = image.Ge
image_rel rel.Le = image.Le
image_rel rel.Gt = image.Gt
image_rel rel.Lt = image.Lt

-- the points of an image or a preimage by a relation
abbrev pub IsSetOfMap : Mapping → ImageRel → ℕ → List ℤ → ℤ → Polyhedron → Polyhedron → Type 0
IsSetOfMap Image rel v expr den p = IsImageBy rel v expr den p
IsSetOfMap Preimage rel v expr den p = IsPreimageBy rel v expr den p

-- what is stored of it
abbrev pub IsStoredOfMap : Mapping → ImageRel → ℕ → List ℤ → ℤ → Polyhedron → Polyhedron → Type 0
IsStoredOfMap Image rel v expr den p = IsStoredOfImage rel v expr den p
IsStoredOfMap Preimage rel v expr den p = IsStoredOfPreimage rel v expr den p

-- the overflows that it may show
abbrev pub LeavesInMap : Mapping → ImageRel → ℕ → List ℤ → ℤ → Polyhedron → Overflow → Type 0
LeavesInMap Image rel v expr den p = LeavesInImageBy rel v expr den p
LeavesInMap Preimage rel v expr den p = LeavesInPreimageBy rel v expr den p

-- a result of the mapping
abbrev pub IsMapped : Mapping → ImageRel → ℕ → List ℤ → ℤ → Polyhedron → Polyhedron → Type 0
IsMapped op rel v expr den p =
    IsResult (IsSetOfMap op rel v expr den p) (IsStoredOfMap op rel v expr den p)

-- where the text says the expression and its divisor
abbrev pub IsMappedBy : Mapping → ℕ → Rel → Part → Polyhedron → Polyhedron → Type 0
IsMappedBy op v rel part p r =
    SaysReplacement p.cons.dim v part (λ expr den. IsMapped op (image_rel rel) v expr den p r)

-- image OUT P V REL FRAC, preimage OUT P V REL FRAC
abbrev pub mapped_by : Mapping → Bool → ℕ → Rel → Part → Polyhedron → Meaning Polyhedron
mapped_by op full v rel part p = record {
  conditions = with_text (fraction_fault p.topology p.cons.dim v rel part) (room full);
  overflows =
      λ over. SaysReplacement p.cons.dim v part
      (λ expr den. LeavesInMap op (image_rel rel) v expr den p over);
  does = IsMappedBy op v rel part p;
}
