-- The count of combinations never falls.
use Rattle.std.proofs.Common.{ℕ, ◌≤◌, List, ℤ, inl, inr, Option, arith}
use Rattle.row_core.specs.declared.errors.Overflow.{Overflow}
use Rattle.poly_pair.specs.Polyhedra.{Polyhedron}
use Rattle.lattice_ops.specs.Sequences.{IsOneOrNone}
use Rattle.dimensions.specs.Refusals.{IsMappedConversion}
use Rattle.elapse.specs.Elapses.{IsElapseConversion}
use Rattle.affine_maps.specs.PostLists.{IsStepConversion}
use Rattle.affine_maps.proofs.ShadowSets.{shadow_fewer}

pub elapse_fewer : (start flow : Polyhedron) (old new : ℕ) (over : Option Overflow) → IsOneOrNone (IsElapseConversion start flow) old new over → old ≤ new
elapse_fewer start flow old new over (inl h) = omega (arith, h.0)
elapse_fewer start flow old new over (inr h) = h.conversion.no_fewer

pub mapped_fewer : (f : List ℤ → List ℤ) (dim : ℕ) (p : Polyhedron) (old new : ℕ) (over : Option Overflow) → IsOneOrNone (IsMappedConversion f dim p) old new over → old ≤ new
mapped_fewer f dim p old new over (inl h) = omega (arith, h.0)
mapped_fewer f dim p old new over (inr h) = h.conversion.no_fewer

pub steps_fewer : (set relation : Polyhedron) (old new : ℕ) (over : Option Overflow) → IsOneOrNone (IsStepConversion set relation) old new over → old ≤ new
steps_fewer set relation old new over (inl h) = omega (arith, h.0)
steps_fewer set relation old new over (inr h) = shadow_fewer _ _ _ _ _ old new over h.conversion
