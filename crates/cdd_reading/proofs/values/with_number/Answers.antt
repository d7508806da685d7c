use Rattle.std.proofs.Common.{◌≡◌, ◌∙◌, ℕ, ◌*◌, ◌/◌, ap, sym, subst}
use Rattle.cdd_reading.specs.Fractions.{gcd, lcm}
use Rattle.cdd_reading.specs.Tables.{IsWithinLimit, lowest_of}
use Rattle.cdd_reading.proofs.ValueLaws.{lcm_product, lcm_reduced, product_below}
use Rattle.cdd_reading.proofs.values.with_number.Goals as goal

pub returns-then-product-lt-MOST : goal.returns-then-product-lt-MOST
returns-then-product-lt-MOST c =
    let m = c.args.multiple in
    let f = c.args.number.now in
    let exact : c.saturating_mul-product.result ≡ m * f.numerator = product_below (m * f.numerator) c.saturating_mul-product.result c.saturating_mul-product.ensures c.if-product-lt-MOST.true in
    let same : m * (f.denominator / gcd c.saturating_mul-product.result f.denominator) ≡ lcm (lowest_of f) m =
    ap (λ (x : ℕ). m * (f.denominator / gcd x f.denominator)) exact ∙ sym (lcm_product m f.numerator f.denominator c.requires.positive c.requires.divides) in
    subst (λ (x : ℕ). IsWithinLimit x c.extended_multiple.result) same c.extended_multiple.ensures

pub returns : goal.returns
returns c =
    let m = c.args.multiple in
    let f = c.args.number.now in
    let same : m * (f.denominator / c.common_divisor-divisor.result / gcd m (f.denominator / c.common_divisor-divisor.result)) ≡ lcm (lowest_of f) m =
    ap (λ (g : ℕ). m * (f.denominator / g / gcd m (f.denominator / g))) c.common_divisor-divisor.ensures.value ∙ sym (lcm_reduced m f.numerator f.denominator c.requires.positive c.requires.divides) in
    subst (λ (x : ℕ). IsWithinLimit x c.extended_multiple-2.result) same c.extended_multiple-2.ensures
