use Rattle.std.proofs.Common.{◌∙◌, ℕ, ◌-◌, ◌*◌, ◌/◌, ◌^◌, min, ap, sym}
use Rattle.cdd_reading.proofs.ValueLaws.{quotient_of}
use Rattle.cdd_reading.proofs.values.size_by.Goals as goal

pub returns : goal.returns
returns c =
    let m = c.args.multiple in
    let f = c.args.number.now in
    c.saturating_mul.ensures
    ∙ ap (λ (x : ℕ). min x (2 ^ 128 - 1)) (ap (λ (g : ℕ). f.numerator / g * (m / (f.denominator / g))) c.common_divisor-divisor.ensures.value ∙ sym (quotient_of m f.numerator f.denominator c.requires.positive c.requires.multiple))
