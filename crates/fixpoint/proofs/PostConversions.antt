-- What the successors of a set cost and show.
use Rattle.std.proofs.Common.{◌≡◌, ◌≤◌, inl, inr, ℕ, Option, Some, None, Result, Ok, Err, refl, arith}
use Rattle.row_core.specs.declared.errors.Overflow.{Overflow}
use Rattle.row_core.specs.declared.errors.ConvErr.{ConvErr}
use Rattle.row_core.specs.declared.errors.ConvErr.TheVariants as conversion
use Rattle.cons_sys.specs.Constraints.{Constraints}
use Rattle.poly_pair.specs.Polyhedra.{Polyhedron}
use Rattle.affine_maps.specs.PostLists.{IsPairSystem, ConvertsSteps}
use Rattle.fixpoint.specs.PostLists.{IsConversionOfPairs, IsPostConversion, ConvertsPairs, ConvertsPairList, ConvertsPost}
use Rattle.fixpoint.specs.Runs.{AreStepsConverted}
use Rattle.affine_maps.proofs.ShadowSets.{shadow_fewer}

module _ (p relation : Polyhedron) where
  pub pair_list_conversion : (pairs : Constraints) → IsPairSystem p.cons relation.cons pairs → (old new : ℕ) (r : Result Polyhedron ConvErr) → ConvertsPairs p.cons.dim pairs old new r → ConvertsPairList p relation old new r
  pair_list_conversion pairs is old new r (inl h) = inl h
  pair_list_conversion pairs is old new r (inr h) = inr (record { pairs = pairs; is_pairs = is; conversion = h })

  -- the stored pair of the relation gives the answer
  pub found_by_steps : (old new : ℕ) (q : Polyhedron) → ConvertsSteps p relation old new (Ok q) → ConvertsPost p relation old new (Ok q)
  found_by_steps old new q (inl h) = inl (refl, inl h.0)
  found_by_steps old new q (inr h) = inl (refl, inr h)

  -- memory runs out there
  pub stopped_by_steps : (old new : ℕ) → ConvertsSteps p relation old new (Err conversion.Memory) → ConvertsPost p relation old new (Err conversion.Memory)
  stopped_by_steps old new (inl h) = inl (refl, inl h.0)
  stopped_by_steps old new (inr h) = inl (refl, inr h)

  -- it comes to an overflow
  pub found_by_pairs : (old between new : ℕ) (first : Overflow) (r : Result Polyhedron ConvErr) → ConvertsSteps p relation old between (Err (conversion.Overflow first)) → ConvertsPairList p relation between new r → ConvertsPost p relation old new r
  found_by_pairs old between new first r (inl h) by_pairs = absurd (let never : Some first ≡ None = h.1 in cc)
  found_by_pairs old between new first r (inr h) by_pairs = inr (record { between = between; first = first; by_steps = h; by_pairs = by_pairs })

  -- ---- the count of combinations never falls
  pairs_fewer : (old new : ℕ) (over : Option Overflow) → IsConversionOfPairs p relation old new over → old ≤ new
  pairs_fewer old new over (inl h) = omega (arith, h.0)
  pairs_fewer old new over (inr h) = shadow_fewer _ _ _ _ _ old new over h.conversion

  pub post_fewer : (old new : ℕ) (over : Option Overflow) → IsPostConversion p relation old new over → old ≤ new
  post_fewer old new over (inl (e, inl h)) = omega (arith, h)
  post_fewer old new over (inl (e, inr h)) = shadow_fewer _ _ _ _ _ old new None h.conversion
  post_fewer old new over (inr h) = omega (arith, shadow_fewer _ _ _ _ _ old h.between (Some h.first) h.by_steps.conversion, pairs_fewer h.between new over h.by_pairs)

  pub steps_fewer : (old new : ℕ) (over : Option Overflow) → AreStepsConverted p relation old new over → old ≤ new
  steps_fewer old new over (inl h) = omega (arith, h.0)
  steps_fewer old new over (inr h) = h.conversion.no_fewer
