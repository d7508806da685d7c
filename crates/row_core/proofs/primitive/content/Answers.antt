use Rattle.std.specs.Prelude.{◌≡◌, ℕ, pos, get_or, unsigned_abs}
use Prim.Native.Nat.{◌∣◌}
use Rattle.std.specs.Int.{w128, IsGcd}
use Rattle.std.proofs.Common.{rules, arith, subst, sym}
use Rattle.std.proofs.lemmas.Int.{to_z-of_z}
use Rattle.std.proofs.lemmas.Nat.Gcd.{IsGcd-from_zero, IsGcd-swap}
use Rattle.std.proofs.lemmas.List.{take_all}
use Rattle.std.proofs.lemmas.List.Elements.{All-take, All-get_or}
use mir.Val.{SFits}
use Rattle.row_core.specs.Range.{InRange}
use Rattle.row_core.specs.Content.{DividesAll}
use Rattle.row_core.proofs.ContentLemmas.{Divides, DividesAll-more, DividesAll-one, greatest_more, gcd_below}
use Rattle.row_core.proofs.primitive.content.Goals as goal
use Rattle.row_core.proofs.primitive.content.Goals.{then-size-ne0+else-divisor-eq1, else-size-ne0}

pub returns-then-divisor-eq1-clause-divides : goal.returns-then-divisor-eq1-clause-divides
returns-then-divisor-eq1-clause-divides c = DividesAll-one c.args.row.now

pub returns-then-divisor-eq1-clause-greatest : goal.returns-then-divisor-eq1-clause-greatest
returns-then-divisor-eq1-clause-greatest c d all =
    let fits : SFits w128 (get_or c.args.row.now c.loop-j.j (pos 0)) = search rules in
    let value : c.unsigned_abs-size.result ≡ unsigned_abs (get_or c.args.row.now c.loop-j.j (pos 0)) =
    simp to_z-of_z at c.unsigned_abs-size.ensures.value in
    let is : IsGcd c.loop-j.divisor (unsigned_abs (get_or c.args.row.now c.loop-j.j (pos 0)))
    c.gcd-divisor.result = subst
    (λ (n : ℕ). IsGcd c.loop-j.divisor n c.gcd-divisor.result) value
    (IsGcd-swap c.unsigned_abs-size.result c.loop-j.divisor c.gcd-divisor.result
    c.gcd-divisor.ensures) in
    let one : c.gcd-divisor.result ≡ 1 = omega arith in
    subst (λ (n : ℕ). d ∣ n) one
    (greatest_more d c.loop-j.divisor c.gcd-divisor.result c.args.row.now c.loop-j.j
    c.loop-j-test.true (c.loop-j.invariant.greatest d) is
    (All-take (Divides d) _ c.args.row.now all))

pub loop-j-preserved : goal.loop-j-preserved
loop-j-preserved c =
    let fits : SFits w128 (get_or c.args.row.now c.loop-j.j (pos 0)) = search rules in
    let value : c.unsigned_abs-size.result ≡ unsigned_abs (get_or c.args.row.now c.loop-j.j (pos 0)) =
    simp to_z-of_z at c.unsigned_abs-size.ensures.value in
    let entry : InRange (get_or c.args.row.now c.loop-j.j (pos 0)) =
    All-get_or InRange c.args.row.now c.loop-j.j (pos 0) c.loop-j-test.true c.requires in
    elim c.if-size-ne0.branch [
      | then-size-ne0+else-divisor-eq1 w ↦
          let is : IsGcd c.loop-j.divisor (unsigned_abs (get_or c.args.row.now c.loop-j.j (pos 0)))
          w.gcd-divisor.result = subst
          (λ (n : ℕ). IsGcd c.loop-j.divisor n w.gcd-divisor.result) value
          (IsGcd-swap c.unsigned_abs-size.result c.loop-j.divisor w.gcd-divisor.result
          w.gcd-divisor.ensures) in
          rw w.divisor-is (record {
            divides = DividesAll-more c.loop-j.divisor w.gcd-divisor.result c.args.row.now
                c.loop-j.j c.loop-j-test.true c.loop-j.invariant.divides is;
            greatest = λ d. greatest_more d c.loop-j.divisor w.gcd-divisor.result c.args.row.now
                c.loop-j.j c.loop-j-test.true (c.loop-j.invariant.greatest d) is;
            below = gcd_below c.loop-j.divisor (unsigned_abs (get_or c.args.row.now c.loop-j.j (pos 0)))
                w.gcd-divisor.result 170141183460469231731687303715884105728 is
                c.loop-j.invariant.below entry.size;
          })
      | else-size-ne0 w ↦
          let is : IsGcd c.loop-j.divisor (unsigned_abs (get_or c.args.row.now c.loop-j.j (pos 0)))
          c.loop-j.divisor = IsGcd-from_zero c.loop-j.divisor
          (unsigned_abs (get_or c.args.row.now c.loop-j.j (pos 0)))
          (omega (arith, value, w.if-size-ne0.false)) in
          rw w.divisor-is (record {
            divides = DividesAll-more c.loop-j.divisor c.loop-j.divisor c.args.row.now
                c.loop-j.j c.loop-j-test.true c.loop-j.invariant.divides is;
            greatest = λ d. greatest_more d c.loop-j.divisor c.loop-j.divisor c.args.row.now
                c.loop-j.j c.loop-j-test.true (c.loop-j.invariant.greatest d) is;
            below = gcd_below c.loop-j.divisor (unsigned_abs (get_or c.args.row.now c.loop-j.j (pos 0)))
                c.loop-j.divisor 170141183460469231731687303715884105728 is
                c.loop-j.invariant.below entry.size;
          })
    ]

pub returns-clause-divides : goal.returns-clause-divides
returns-clause-divides c =
    subst (DividesAll c.loop-j.divisor) (take_all c.loop-j.j c.args.row.now (omega arith))
    c.loop-j.invariant.divides

pub returns-clause-greatest : goal.returns-clause-greatest
returns-clause-greatest c d all =
    c.loop-j.invariant.greatest d (subst (DividesAll d)
    (sym (take_all c.loop-j.j c.args.row.now (omega arith))) all)
