use Rattle.std.specs.Prelude.{◌≡◌, true, false, ◌^◌, ℤ, pos, neg_ℤ, ◌+ℤ◌, ◌<ℤ◌, ◌≤ℤ◌}
use Rattle.std.specs.Int.{w64}
use Rattle.std.proofs.Common.{ap, sym, subst}
use Rattle.std.proofs.lemmas.Int.{to_z-of_z}
use lib.Signed.{le_z}
use mir.Val.{of_z, to_z}
use Rattle.difference_bounds.specs.Words.{absent, other, IsStep}
use Rattle.difference_bounds.specs.declared.words.Outcome.TheVariants.{Falls}
use Rattle.difference_bounds.proofs.WordLemmas.{words_added, if_at_most, unless_at_most, stays_by, falls_by}
use Rattle.difference_bounds.proofs.words.step.Goals as goal

pub returns-then-sum-bound : goal.returns-then-sum-bound
returns-then-sum-bound c =
    let ny : c.args.to ≡ absent → ⊥ = λ e. c.if-to-eq-ABSENT.false (ap (of_z w64) e) in
    let nz : c.args.from ≡ absent → ⊥ = λ e. c.if-from-eq-ABSENT.false (ap (of_z w64) e) in
    let nx : c.args.bound ≡ other → ⊥ = λ e. c.if-bound-eq-OTHER.false (ap (of_z w64) e) in
    let sum = words_added c.args.to c.args.from c.requires.to c.requires.from ny nz in
    let l : neg_ℤ (pos (2 ^ 60)) <ℤ (c.args.to +ℤ c.args.from) = unless_at_most _ _ (subst (λ (z : ℤ). le_z z (neg_ℤ (pos (2 ^ 60))) ≡ false) sum c.if-sum.false) in
    let h : c.args.bound ≤ℤ (c.args.to +ℤ c.args.from) = if_at_most _ _ (subst (λ (z : ℤ). le_z c.args.bound z ≡ true) sum (subst (λ (z : ℤ). le_z z (to_z w64 (of_z w64 (to_z w64 (of_z w64 c.args.to) +ℤ to_z w64 (of_z w64 c.args.from)))) ≡ true) (to_z-of_z w64 c.args.bound c.ranges.bound) c.if-sum-bound.true)) in
    stays_by c.args.bound c.args.to c.args.from ny nz nx l h

pub returns : goal.returns
returns c =
    let ny : c.args.to ≡ absent → ⊥ = λ e. c.if-to-eq-ABSENT.false (ap (of_z w64) e) in
    let nz : c.args.from ≡ absent → ⊥ = λ e. c.if-from-eq-ABSENT.false (ap (of_z w64) e) in
    let nx : c.args.bound ≡ other → ⊥ = λ e. c.if-bound-eq-OTHER.false (ap (of_z w64) e) in
    let sum = words_added c.args.to c.args.from c.requires.to c.requires.from ny nz in
    let l : neg_ℤ (pos (2 ^ 60)) <ℤ (c.args.to +ℤ c.args.from) = unless_at_most _ _ (subst (λ (z : ℤ). le_z z (neg_ℤ (pos (2 ^ 60))) ≡ false) sum c.if-sum.false) in
    let h : (c.args.to +ℤ c.args.from) <ℤ c.args.bound = unless_at_most _ _ (subst (λ (z : ℤ). le_z c.args.bound z ≡ false) sum (subst (λ (z : ℤ). le_z z (to_z w64 (of_z w64 (to_z w64 (of_z w64 c.args.to) +ℤ to_z w64 (of_z w64 c.args.from)))) ≡ false) (to_z-of_z w64 c.args.bound c.ranges.bound) c.if-sum-bound.false)) in
    let m : (c.args.to +ℤ c.args.from) <ℤ pos (2 ^ 60) = unless_at_most _ _ (subst (λ (z : ℤ). le_z (pos (2 ^ 60)) z ≡ false) sum c.if-sum-ge-LIMIT.false) in
    subst (λ (s : ℤ). IsStep c.args.bound c.args.to c.args.from (Falls s)) (sym sum) (falls_by c.args.bound c.args.to c.args.from ny nz nx l h m)
