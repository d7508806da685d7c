use Rattle.std.proofs.Common.{◌≡◌, ◌⊎◌, ◌≤◌, inl, inr, ℕ, Option, refl, arith}
use Rattle.row_core.specs.declared.errors.Overflow.{Overflow}
use Rattle.row_core.specs.declared.errors.ConvErr.{ConvErr}
use Rattle.row_core.specs.declared.errors.ConvErr.TheVariants as conversion
use Rattle.poly_pair.specs.Polyhedra.{Polyhedron}
use Rattle.widening.specs.Overflows.{IsWideningOverflow}
use Rattle.widening.specs.Updates.{IsUpdateOverflow}
use Rattle.widening.specs.Values.{IsLargerConversion, IsKeptConversion, IsWideningConversion}
use Rattle.widening.proofs.updates.update.Goals as goal

update_overflow : (left : ℕ) (old joined : Polyhedron) (cause : ConvErr) → left ≡ 0 → IsWideningOverflow old joined cause → IsUpdateOverflow left old joined cause
update_overflow left old joined (conversion.Overflow over) none h = (none, h)
update_overflow left old joined conversion.Memory none h = tt

pub returns-clause-overflow : goal.returns-clause-overflow
returns-clause-overflow g c = update_overflow c.args.left c.args.old.now c.args.joined c.in-Err.cause (omega (arith, c.if-left-gt0.false)) c.in-Err.ensures.overflow

first_fewer : (p q : Polyhedron) (old new : ℕ) (over : Option Overflow) → (new ≡ old) ⊎ IsLargerConversion p q old new over → old ≤ new
first_fewer p q old new over (inl h) = omega (arith, h)
first_fewer p q old new over (inr h) = h.conversion.no_fewer

second_fewer : (p q : Polyhedron) (old new : ℕ) (over : Option Overflow) → (new ≡ old) ⊎ IsKeptConversion p q old new over → old ≤ new
second_fewer p q old new over (inl h) = omega (arith, h)
second_fewer p q old new over (inr h) = h.conversion.no_fewer

fewer : (p q : Polyhedron) (old new : ℕ) (over : Option Overflow) → IsWideningConversion p q old new over → old ≤ new
fewer p q old new over h = omega (arith, first_fewer p q old h.between h.first_over h.first, second_fewer p q h.between new over h.second)

pub returns-in-Ok-clause-no_fewer : goal.returns-in-Ok-clause-no_fewer
returns-in-Ok-clause-no_fewer g c = fewer c.args.old.now c.args.joined _ _ _ c.in-Ok.ensures.conversion

pub returns-clause-no_fewer : goal.returns-clause-no_fewer
returns-clause-no_fewer g c = fewer c.args.old.now c.args.joined _ _ _ c.in-Err.ensures.conversion

pub returns-then-left-gt0-clause-conversion : goal.returns-then-left-gt0-clause-conversion
returns-then-left-gt0-clause-conversion g c = inl (omega (arith, c.if-left-gt0.true), refl, refl)

pub returns-in-Ok-clause-conversion : goal.returns-in-Ok-clause-conversion
returns-in-Ok-clause-conversion g c = inr (omega (arith, c.if-left-gt0.false), c.in-Ok.ensures.conversion)

pub returns-clause-conversion : goal.returns-clause-conversion
returns-clause-conversion g c = inr (omega (arith, c.if-left-gt0.false), c.in-Err.ensures.conversion)
