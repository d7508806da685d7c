use Rattle.std.specs.Prelude.{◌≡◌, ◌<◌, ◌^◌, ℕ, pos, ℤ, ◌<ℤ◌, unsigned_abs}
use Rattle.std.specs.Int.{IsGcd, w128}
use Rattle.std.proofs.Common.{arith, sym, ap, subst, inl, inr, ◌∙◌}
use Rattle.std.proofs.lemmas.Int.{ints, fits_signed_from_abs}
use Rattle.std.proofs.lemmas.Nat.Gcd.{IsGcd-swap}
use Rattle.row_core.specs.Range.{InRange}
use Rattle.row_core.proofs.ContentLemmas.{gcd_below, IsGcd-one}
use Rattle.row_store.proofs.FactorLemmas.{gcd_positive}
use Rattle.row_core.proofs.Magnitudes.{magnitude_above, back, back_pos}
use Rattle.row_store.proofs.combination.divisor_of.Goals as goal

-- the divisor of the two magnitudes
divisor : (c : goal.After-gcd) → IsGcd (unsigned_abs c.args.u) (unsigned_abs c.args.v) c.gcd.result
divisor c =
    let first : c.unsigned_abs-first.result ≡ unsigned_abs c.args.u = c.unsigned_abs-first.ensures.value ∙ ap unsigned_abs (back c.args.u c.requires.first_in_range) in
    let second : c.unsigned_abs-second.result ≡ unsigned_abs c.args.v = c.unsigned_abs-second.ensures.value ∙ ap unsigned_abs (back c.args.v c.requires.second_in_range) in
    let P : ℕ → Type 0 = λ n. IsGcd n (unsigned_abs c.args.v) c.gcd.result in
    let Q : ℕ → Type 0 = λ n. IsGcd c.unsigned_abs-first.result n c.gcd.result in
    subst P first (subst Q second c.gcd.ensures)

below : (c : goal.After-gcd) → c.gcd.result < 2 ^ 127
below c = gcd_below (unsigned_abs c.args.u) (unsigned_abs c.args.v) c.gcd.result (2 ^ 127) (divisor c) c.requires.first_in_range.size c.requires.second_in_range.size

pub overflow_cast-result : goal.overflow_cast-result
overflow_cast-result c = fits_signed_from_abs w128 (pos c.gcd.result) (below c)

pub returns-clause-positive : goal.returns-clause-positive
returns-clause-positive c =
    subst (λ (z : ℤ). pos 0 <ℤ z) (sym (back_pos c.gcd.result (below c)))
    (omega (arith, ints, gcd_positive (unsigned_abs c.args.u) (unsigned_abs c.args.v) c.gcd.result (divisor c) (magnitude_above c.args.u c.requires.nonzero)))

pub returns-clause-greatest : goal.returns-clause-greatest
returns-clause-greatest c =
    subst (λ (z : ℤ). IsGcd (unsigned_abs c.args.u) (unsigned_abs c.args.v) (unsigned_abs z)) (sym (back_pos c.gcd.result (below c))) (divisor c)

pub returns-clause-in_range : goal.returns-clause-in_range
returns-clause-in_range c = subst InRange (sym (back_pos c.gcd.result (below c))) (record { size = below c })

pub returns-then-first-eq1-clause-greatest : goal.returns-then-first-eq1-clause-greatest
returns-then-first-eq1-clause-greatest c =
    let first = c.unsigned_abs-first.ensures.value ∙ ap unsigned_abs (back c.args.u c.requires.first_in_range) in
    let second = c.unsigned_abs-second.ensures.value ∙ ap unsigned_abs (back c.args.v c.requires.second_in_range) in
    elim c.then-first-eq1.either [
      | inl one ↦ IsGcd-one (unsigned_abs c.args.u) (unsigned_abs c.args.v) (sym first ∙ one)
      | inr other ↦ IsGcd-swap (unsigned_abs c.args.v) (unsigned_abs c.args.u) 1 (IsGcd-one (unsigned_abs c.args.v) (unsigned_abs c.args.u) (sym second ∙ other.1))
    ]
