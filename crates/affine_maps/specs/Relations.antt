use Rattle.std.specs.Prelude.{◌≡◌, ◌≢◌, ◌⊎◌, ◌↔◌, ⊤, ℕ, ◌+◌, ◌<◌, length, Option, None, Result, List, [], ◌∷◌, ◌++◌, take, drop, slice_set, ℤ, pos, neg_ℤ, ◌≤ℤ◌, ◌<ℤ◌}
use Rattle.std.specs.List.{range_with_len}
use Rattle.std.proofs.Math.IntN.{◌*ℤ◌}
use Rattle.row_core.specs.Vectors.{cell, dot, scale}
use Rattle.row_core.specs.Content.{IsPrimitiveOf}
use Rattle.cone_laws.specs.Cones.{negated}
use Rattle.cons_sys.specs.declared.kind.ConKind.{ConKind}
use Rattle.cons_sys.specs.declared.kind.ConKind.TheVariants as con
use Rattle.cons_sys.specs.Constraints.{Constraint, Constraints, In}
use Rattle.stored_systems.specs.PointSets.{IsWithin}
use Rattle.affine_maps.specs.declared.relations.ImageRel.{ImageRel}
use Rattle.affine_maps.specs.declared.relations.ImageRel.TheVariants.{Eq, Ge, Le, Gt, Lt}
use Rattle.row_core.specs.Points.{IsPoint}
use Rattle.row_core.specs.declared.errors.Overflow.{Overflow}
use Rattle.row_core.specs.declared.errors.ConvErr.{ConvErr}
use Rattle.poly_pair.specs.declared.topology.Topology.{Topology}
use Rattle.poly_pair.specs.declared.topology.Topology.TheVariants.{Nnc}
use Rattle.poly_pair.specs.Polyhedra.{Polyhedron, IsOver}
use Rattle.poly_pair.specs.Work.{cons_work, conv_overflow, overflow_in}
use Rattle.mapped_systems.specs.Maps.{picked}
use Rattle.mapped_systems.specs.MappedLists.{ArePulled}
use Rattle.affine_maps.specs.Shadows.{IsStoredOfShadow, LeavesOnShadow, IsShadowConversion}

-- the one number stands in the relation to the other
abbrev pub Stands : ImageRel → ℤ → ℤ → Type 0
Stands Eq x y = x ≡ y
Stands Ge x y = y ≤ℤ x
Stands Le x y = x ≤ℤ y
Stands Gt x y = y <ℤ x
Stands Lt x y = x <ℤ y

-- ---- sets
-- some point of the set has the same values in all other variables, and the value of the variable
-- at the vector stands in the relation to that of the expression over the divisor at this point;
-- all is multiplied out by the divisors
pub record IsRelatedImage (rel : ImageRel) (var : ℕ) (expr : List ℤ) (den : ℤ) (cs : Constraints)
    (v : List ℤ) : Type 0 where
  pub source : List ℤ
  pub within : IsWithin cs source
  pub others : (j : ℕ) → j < cs.dim → j ≢ var → cell v j *ℤ cell source cs.dim
      ≡ cell source j *ℤ cell v cs.dim
  pub stands : Stands rel (cell v var *ℤ (den *ℤ cell source cs.dim))
      (dot expr source *ℤ cell v cs.dim)

-- the vector with the fraction as the value of the variable
abbrev pub replaced : ℕ → ℕ → ℤ → ℤ → List ℤ → List ℤ
replaced dim var num below v = slice_set (scale below v) var (num *ℤ cell v dim)

-- some fraction stands in the relation to the value of the expression over the divisor at the
-- vector, and with it as the value of the variable the vector is in the set
pub record IsRelatedPreimage (rel : ImageRel) (var : ℕ) (expr : List ℤ) (den : ℤ) (cs : Constraints)
    (v : List ℤ) : Type 0 where
  pub num : ℤ
  pub below : ℤ
  pub positive : pos 0 <ℤ below
  pub stands : Stands rel (num *ℤ (den *ℤ cell v cs.dim)) (dot expr v *ℤ below)
  pub within : In cs (replaced cs.dim var num below v)

-- ---- constraints with one more variable
-- the row with the entry before its last one
abbrev pub with_entry : ℕ → List ℤ → ℤ → List ℤ
with_entry dim row entry = take dim row ++ entry ∷ drop dim row

-- the row with the variable's entry as that of the new one, and 0 in its place
abbrev pub moved : ℕ → ℕ → List ℤ → List ℤ
moved dim var row = with_entry dim (slice_set row var (pos 0)) (cell row var)

-- the row that says how the new variable stands to the expression over the divisor
abbrev pub relation_row : ImageRel → ℕ → List ℤ → ℤ → List ℤ
relation_row Eq dim expr den = with_entry dim expr (neg_ℤ den)
relation_row Ge dim expr den = with_entry dim (negated expr) den
relation_row Le dim expr den = with_entry dim expr (neg_ℤ den)
relation_row Gt dim expr den = with_entry dim (negated expr) den
relation_row Lt dim expr den = with_entry dim expr (neg_ℤ den)

abbrev pub relation_kind : ImageRel → ConKind
relation_kind Eq = con.Eq
relation_kind Ge = con.Ge
relation_kind Le = con.Ge
relation_kind Gt = con.Gt
relation_kind Lt = con.Gt

-- the mapped constraints, and then that of the new variable, made primitive
pub record IsExtended (h : List ℤ → List ℤ) (rel : ImageRel) (expr : List ℤ) (den : ℤ)
    (cs extended : Constraints) : Type 0 where
  pub same_dim : extended.dim ≡ cs.dim + 1
  pub front : List Constraint
  pub pulled : ArePulled h cs.list front
  pub stored : List ℤ
  pub primitive : IsPrimitiveOf (relation_row rel cs.dim expr den) stored
  pub joined : extended.list ≡ front ++ (stored, relation_kind rel) ∷ []

-- ---- columns
-- the variables, with the new one in the place of the variable
abbrev pub image_columns : ℕ → ℕ → List ℕ
image_columns dim var = slice_set (range_with_len 0 dim) var dim

-- ---- results
-- a strict relation needs a set that needn't be closed
abbrev pub IsRelationFor : Topology → ImageRel → Type 0
IsRelationFor topology Eq = ⊤
IsRelationFor topology Ge = ⊤
IsRelationFor topology Le = ⊤
IsRelationFor topology Gt = topology ≡ Nnc
IsRelationFor topology Lt = topology ≡ Nnc

-- the polyhedron of the related images, or preimages
pub record IsImageBy (rel : ImageRel) (var : ℕ) (expr : List ℤ) (den : ℤ)
    (p image : Polyhedron) : Type 0 where
  pub over : IsOver p.topology p.cons.dim image
  pub points : (v : List ℤ) → IsPoint p.cons.dim v → In image.cons v
      ↔ IsRelatedImage rel var expr den p.cons v

pub record IsPreimageBy (rel : ImageRel) (var : ℕ) (expr : List ℤ) (den : ℤ)
    (p preimage : Polyhedron) : Type 0 where
  pub over : IsOver p.topology p.cons.dim preimage
  pub points : (v : List ℤ) → IsPoint p.cons.dim v → In preimage.cons v
      ↔ IsRelatedPreimage rel var expr den p.cons v

-- the conversion of the list of the extended constraints, of that of their generators at the
-- columns, or of the second list of the latter leaves the range
pub record LeavesOnRelation (h : List ℤ → List ℤ) (columns : List ℕ) (rel : ImageRel)
    (expr : List ℤ) (den : ℤ) (p : Polyhedron) (over : Overflow) : Type 0 where
  pub extended : Constraints
  pub is_extended : IsExtended h rel expr den p.cons extended
  pub leaves : LeavesOnShadow p.topology (picked columns extended.dim) (length columns)
      extended over

-- what is stored: of the system of the extended constraints' generators at the columns, where these
-- constraints hold somewhere
pub record IsStoredOfRelation (h : List ℤ → List ℤ) (columns : List ℕ) (rel : ImageRel)
    (expr : List ℤ) (den : ℤ) (p result : Polyhedron) : Type 0 where
  pub extended : Constraints
  pub is_extended : IsExtended h rel expr den p.cons extended
  pub stored : IsStoredOfShadow p.topology (picked columns extended.dim) (length columns)
      extended result

-- ---- what a call costs and shows
-- the conversions of the list of the extended constraints and of that of their generators at the
-- columns
pub record IsRelationConversion (h : List ℤ → List ℤ) (columns : List ℕ) (rel : ImageRel)
    (expr : List ℤ) (den : ℤ) (p : Polyhedron) (old new : ℕ) (over : Option Overflow) : Type 0 where
  pub extended : Constraints
  pub is_extended : IsExtended h rel expr den p.cons extended
  pub conversion : IsShadowConversion (cons_work p.topology extended) p.topology
      (picked columns extended.dim) (length columns) extended old new over

-- a call that converts these, or nothing where memory runs out before the list is made
abbrev pub ConvertsRelation : (List ℤ → List ℤ) → List ℕ → ImageRel → List ℤ → ℤ → Polyhedron → ℕ
    → ℕ → Result Polyhedron ConvErr → Type 0
ConvertsRelation h columns rel expr den p old new result =
    ((new ≡ old) × (overflow_in conv_overflow result ≡ None))
    ⊎ IsRelationConversion h columns rel expr den p old new (overflow_in conv_overflow result)
