use Rattle.std.specs.Prelude.{ℕ, ◌^◌, ◌<◌, ℤ, pos, get_or, unsigned_abs}
use Rattle.std.specs.Int.{w128}
use Rattle.std.proofs.Common.{rules, arith, below_more}
use Rattle.std.proofs.lemmas.Int.{to_z-of_z}
use Rattle.std.proofs.lemmas.Nat.{le_or_l, le_or_r, or_lt}
use Rattle.std.proofs.lemmas.List.Elements.{All-get_or, All-from_get_or}
use mir.Val.{SFits}
use Rattle.row_core.specs.Vectors.{cell}
use Rattle.row_core.specs.Sizes.{IsWithin}
use Rattle.row_core.proofs.SizeLemmas.{least_bits}
use Rattle.row_core.proofs.sizes.bits.Goals as goal

pub loop-j-preserved : goal.loop-j-preserved
loop-j-preserved c =
    let fits : SFits w128 (get_or c.args.row.now c.loop-j.j (pos 0)) = search rules in
    let value = simp to_z-of_z at c.unsigned_abs-sizes.ensures.value in
    let before = le_or_l c.loop-j.sizes c.unsigned_abs-sizes.result in
    let here = le_or_r c.loop-j.sizes c.unsigned_abs-sizes.result in
    record {
      within = below_more (λ (k : ℕ). IsWithin _ (cell c.args.row.now k)) c.loop-j.j
          (λ k h. record { size = omega (arith, (c.loop-j.invariant.within k h).size, before) })
          (record { size = omega (arith, value, here) });
      below = λ n all.
          let size = All-get_or (λ (z : ℤ). unsigned_abs z < 2 ^ n) c.args.row.now c.loop-j.j
          (pos 0) c.loop-j-test.true all in
          or_lt n c.loop-j.sizes c.unsigned_abs-sizes.result (c.loop-j.invariant.below n all)
          (omega (arith, value, size));
    }

pub returns-clause-within : goal.returns-clause-within
returns-clause-within c = All-from_get_or (IsWithin (2 ^ c.bits_of.result)) c.args.row.now (pos 0)
    (λ k h. record {
      size = omega (
        arith,
        (c.loop-j.invariant.within k (omega (arith, h))).size,
        c.bits_of.ensures.below,
      );
    })

pub returns-clause-least : goal.returns-clause-least
returns-clause-least c = λ n all.
    least_bits c.bits_of.result c.loop-j.sizes n c.bits_of.ensures.least
    (c.loop-j.invariant.below n all)
