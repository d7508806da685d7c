-- What a mapped pair costs and shows, and the list after it.
use Rattle.std.specs.Prelude.{MatchBool}
use Rattle.std.proofs.Common.{◌≡◌, ◌≢◌, ◌⊎◌, ℕ, ◌+◌, ◌≤◌, length, List, ℤ, pos, Bool, true, false, Option, Some, None, Result, Ok, inl, inr, refl, subst, arith}
use Rattle.row_core.specs.Vectors.{cell}
use Rattle.row_core.specs.declared.errors.Overflow.{Overflow}
use Rattle.row_core.specs.declared.errors.ConvErr.{ConvErr}
use Rattle.row_core.specs.declared.errors.ConvErr.TheVariants as conversion
use Rattle.row_core.specs.Refusals.{IsOverflowIn}
use Rattle.row_core.specs.declared.errors.Memory.{Memory}
use Rattle.cons_sys.specs.Constraints.{Constraints}
use Rattle.gens_sys.specs.Generators.{Generators}
use Rattle.poly_pair.specs.Polyhedra.{Polyhedron}
use Rattle.poly_pair.specs.Starts.{CanStart}
use Rattle.poly_pair.specs.Work.{cons_work, gens_work, conv_overflow, overflow_in, IsConversion}
use Rattle.affine_maps.proofs.FormWork.{forms_leave, forms_fewer}
use Rattle.mapped_systems.specs.Refusals.{SomeLeavesInImage, SomeLeavesInPullback}
use Rattle.affine_maps.specs.CarriedPairs.{CanBeCarried, ImagePairLeaves, LeavesInTurned, LeavesOnTurned, LeavesInMapped}
use Rattle.mapped_systems.proofs.AfterPairs.{after_fewer}
use Rattle.affine_maps.specs.Collapsing.{CollapsesImage, AfterFreed}
use Rattle.affine_maps.specs.PairConversions.{IsPullback, IsUntried, IsTurnedPair, IsTurnedInVain, IsMappedPair, CarriesImage, PairsImage, IsMappedInVain, ConvertsImage, CarriesPreimage, IsPulledInVain, ConvertsPreimage, inverse_size}

-- ---- sets that can be carried
pub carried_if : (p : Polyhedron) (part : ℤ) (start : Bool) → part ≢ pos 0 → MatchBool start (CanStart p) (¬ (CanStart p)) → MatchBool start (CanBeCarried p part) (¬ (CanBeCarried p part))
carried_if p part true is some = record { start = some; part_is = is }
carried_if p part false is none = λ can. none can.start

-- ---- constraints mapped
-- those that a polyhedron lends
pub pullback_of : (p : Polyhedron) (cs : Constraints) (old new : ℕ) → cs ≡ p.cons → old ≤ new → new ≤ old + length cs.list → IsPullback p old new
pullback_of p cs old new e n c = record { no_fewer = n; counted = subst (λ (ds : Constraints). new ≤ old + length ds.list) e c }

-- ---- the image
-- some generator's map leaves the range
pub mapped_in_vain : (var : ℕ) (expr : List ℤ) (den : ℤ) (p : Polyhedron) (gs : Generators) (steps : ℕ) (e : ConvErr) → gs ≡ p.gens → IsOverflowIn (SomeLeavesInImage var expr den gs.list) e → IsMappedInVain var expr den p steps steps (conv_overflow e)
mapped_in_vain var expr den p gs steps (conversion.Overflow over) same l = record { same = refl; leaves = subst (λ (hs : Generators). SomeLeavesInImage var expr den hs.list over) same l }
mapped_in_vain var expr den p gs steps conversion.Memory same l = record { same = refl; leaves = tt }

-- there is none, and so the pair leaves the range
image_pair_leaves : (var : ℕ) (expr : List ℤ) (den : ℤ) (p : Polyhedron) (gs : Generators) (old new : ℕ) (found : Option Polyhedron) → ((q : Polyhedron) → found ≡ Some q → ⊥) → CarriesImage var expr den p gs old new (Ok found) → CanBeCarried p (cell expr var) → ImagePairLeaves var expr den p gs
image_pair_leaves var expr den p gs old new (Some q) never h can = absurd (never q refl)
image_pair_leaves var expr den p gs old new None never (inl h) can = record { row = h.row; inverse = h.inverse; leaves = by_case h.turned }
  where
    by_case : IsTurnedPair var h.row (inverse_size var expr) p gs old new (Ok None) ⊎ IsTurnedInVain var h.row (inverse_size var expr) p old new (Ok None) → LeavesInTurned var h.row (inverse_size var expr) p ⊎ LeavesOnTurned var h.row (inverse_size var expr) p gs
    by_case (inl t) = inr (record { system = t.system; pulled = t.pulled; leaves = t.conversion.leaves; second = forms_leave t.system gs t.between new t.conversion })
    by_case (inr t) = inl t.leaves
image_pair_leaves var expr den p gs old new None never (inr (inl h)) can = absurd (h.0 can)
image_pair_leaves var expr den p gs old new None never (inr (inr h)) can = absurd (let never_err : false ≡ true = h.1 in cc)

carried_image_fewer : (var : ℕ) (expr : List ℤ) (den : ℤ) (p : Polyhedron) (gs : Generators) (old new : ℕ) (r : Result (Option Polyhedron) Memory) → CarriesImage var expr den p gs old new r → old ≤ new
carried_image_fewer var expr den p gs old new r (inl h) = by_case h.turned
  where
    by_case : IsTurnedPair var h.row (inverse_size var expr) p gs old new r ⊎ IsTurnedInVain var h.row (inverse_size var expr) p old new r → old ≤ new
    by_case (inl t) = omega (arith, t.pullback.no_fewer, forms_fewer t.system gs t.between new r t.conversion)
    by_case (inr t) = t.pullback.no_fewer
carried_image_fewer var expr den p gs old new r (inr (inl h)) = omega (arith, h.1.0)
carried_image_fewer var expr den p gs old new r (inr (inr h)) = h.0.no_fewer

pub paired_image_leaves : (var : ℕ) (expr : List ℤ) (den : ℤ) (p : Polyhedron) (gs : Generators) (old new : ℕ) (found : Option Polyhedron) → ((q : Polyhedron) → found ≡ Some q → ⊥) → PairsImage var expr den p gs old new (Ok found) → CanBeCarried p (cell expr var) → ImagePairLeaves var expr den p gs
paired_image_leaves var expr den p gs old new found never (inl h) can = absurd (can.part_is h.0)
paired_image_leaves var expr den p gs old new found never (inr h) can = image_pair_leaves var expr den p gs old new found never h.1 can

freed_fewer : (var : ℕ) (expr : List ℤ) (den : ℤ) (p : Polyhedron) (gs : Generators) (over : Option Overflow) (old new : ℕ) (r : Result (Option Polyhedron) Memory) → AfterFreed var expr den p gs over old new r → old ≤ new
freed_fewer var expr den p gs (Some over) old new r h = omega (arith, h.0)
freed_fewer var expr den p gs None old new r (inl h) = omega (arith, h.0)
freed_fewer var expr den p gs None old new r (inr h) = h.collapse.no_fewer

collapsed_image_fewer : (var : ℕ) (expr : List ℤ) (den : ℤ) (p : Polyhedron) (gs : Generators) (old new : ℕ) (r : Result (Option Polyhedron) Memory) → CollapsesImage var expr den p gs old new r → old ≤ new
collapsed_image_fewer var expr den p gs old new r (inl h) = omega (arith, h.freed.no_fewer, freed_fewer var expr den p gs h.over h.between new r h.after)
collapsed_image_fewer var expr den p gs old new r (inr h) = omega (arith, h.1)

paired_image_fewer : (var : ℕ) (expr : List ℤ) (den : ℤ) (p : Polyhedron) (gs : Generators) (old new : ℕ) (r : Result (Option Polyhedron) Memory) → PairsImage var expr den p gs old new r → old ≤ new
paired_image_fewer var expr den p gs old new r (inl h) = collapsed_image_fewer var expr den p gs old new r h.1
paired_image_fewer var expr den p gs old new r (inr h) = carried_image_fewer var expr den p gs old new r h.1

pub image_fewer : (var : ℕ) (expr : List ℤ) (den : ℤ) (p : Polyhedron) (old new : ℕ) (r : Result Polyhedron ConvErr) → ConvertsImage var expr den p old new r → old ≤ new
image_fewer var expr den p old new r (inl h) = omega (arith, h.same)
image_fewer var expr den p old new r (inr h) =
    let tried = paired_image_fewer var expr den p h.system old h.between h.pair h.tried in
    let after = after_fewer (IsConversion (gens_work p.topology h.system)) (λ low high over list. list.no_fewer) h.pair h.between new (overflow_in conv_overflow r) h.after in
    omega (arith, tried, after)

-- ---- the preimage
-- some constraint's map leaves the range
pub pulled_in_vain : (var : ℕ) (expr : List ℤ) (den : ℤ) (p : Polyhedron) (cs : Constraints) (old new : ℕ) (e : ConvErr) → cs ≡ p.cons → IsPullback p old new → IsOverflowIn (SomeLeavesInPullback var expr den cs.list) e → IsPulledInVain var expr den p old new (conv_overflow e)
pulled_in_vain var expr den p cs old new (conversion.Overflow over) same b l = record { pullback = b; leaves = subst (λ (ds : Constraints). SomeLeavesInPullback var expr den ds.list over) same l }
pulled_in_vain var expr den p cs old new conversion.Memory same b l = record { pullback = b; leaves = tt }

carried_preimage_fewer : (var : ℕ) (expr : List ℤ) (den : ℤ) (p : Polyhedron) (cs : Constraints) (old new : ℕ) (r : Result (Option Polyhedron) Memory) → CarriesPreimage var expr den p cs old new r → old ≤ new
carried_preimage_fewer var expr den p cs old new r (inl h) = by_case h.mapped
  where
    by_case : IsMappedPair var h.row (inverse_size var expr) p cs old new r ⊎ (LeavesInMapped var h.row (inverse_size var expr) p × IsUntried old new r) → old ≤ new
    by_case (inl m) = forms_fewer cs m.system old new r m.conversion
    by_case (inr m) = omega (arith, m.1.0)
carried_preimage_fewer var expr den p cs old new r (inr (inl h)) = omega (arith, h.1.0)
carried_preimage_fewer var expr den p cs old new r (inr (inr h)) = omega (arith, h.0)

pub preimage_fewer : (var : ℕ) (expr : List ℤ) (den : ℤ) (p : Polyhedron) (old new : ℕ) (r : Result Polyhedron ConvErr) → ConvertsPreimage var expr den p old new r → old ≤ new
preimage_fewer var expr den p old new r (inl h) = h.pullback.no_fewer
preimage_fewer var expr den p old new r (inr h) =
    let tried = carried_preimage_fewer var expr den p h.system h.first h.second h.pair h.tried in
    let after = after_fewer (IsConversion (cons_work p.topology h.system)) (λ low high over list. list.no_fewer) h.pair h.second new (overflow_in conv_overflow r) h.after in
    omega (arith, h.pullback.no_fewer, tried, after)
