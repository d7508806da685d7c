use Rattle.std.proofs.Common.{◌∙◌, ℕ, subst}
use Rattle.expr_text.specs.GeneratorReading.{gens_read}
use Rattle.expr_text.specs.GeneratorSteps.{HaveRead}
use Rattle.expr_text.specs.declared.read_generators.Outcome.TheVariants.{Fits, ZeroVector, ZeroDivisor, TooLarge}
use Rattle.expr_text.proofs.read_generators.gens_system.Goals as goal

pub returns-in-Ok-Fits : goal.returns-in-Ok-Fits
returns-in-Ok-Fits c =
    let h = subst (λ (dim : ℕ). HaveRead dim (gens_read c.args.text.now) c.add_gens.new.system.list Fits) c.new-system.ensures.dim (rw c.in-Ok-Fits.field-0-is at c.in-Ok-Fits.ensures.value) in
    record { within = h.within; stay = h.shows.0; divisors = h.shows.1; directions = h.shows.2; over = c.add_gens.ensures.dim ∙ c.new-system.ensures.dim; stored = h.shows.3 }

pub returns-in-Ok-ZeroVector : goal.returns-in-Ok-ZeroVector
returns-in-Ok-ZeroVector c =
    let h = subst (λ (dim : ℕ). HaveRead dim (gens_read c.args.text.now) c.add_gens.new.system.list ZeroVector) c.new-system.ensures.dim (rw c.in-Ok-ZeroVector.field-0-is at c.in-Ok-ZeroVector.ensures.value) in
    (h.within, h.shows.0, h.shows.1, h.shows.2)

pub returns-in-Ok-ZeroDivisor : goal.returns-in-Ok-ZeroDivisor
returns-in-Ok-ZeroDivisor c =
    let h = subst (λ (dim : ℕ). HaveRead dim (gens_read c.args.text.now) c.add_gens.new.system.list ZeroDivisor) c.new-system.ensures.dim (rw c.in-Ok-ZeroDivisor.field-0-is at c.in-Ok-ZeroDivisor.ensures.value) in
    (h.within, h.shows.0, h.shows.1)

pub returns-in-Ok-TooLarge : goal.returns-in-Ok-TooLarge
returns-in-Ok-TooLarge c =
    let h = subst (λ (dim : ℕ). HaveRead dim (gens_read c.args.text.now) c.add_gens.new.system.list TooLarge) c.new-system.ensures.dim (rw c.in-Ok-TooLarge.field-0-is at c.in-Ok-TooLarge.ensures.value) in
    (h.within, h.shows)
