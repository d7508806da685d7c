use Rattle.std.proofs.Common.{ap, ◌∙◌, ◌-◌, List, ℤ, length, arith}
use Rattle.stored_systems.proofs.TakenRows.{row_kept_at, row_removed_at}
use Rattle.stored_systems.proofs.storing.without_divisor.Goals as goal

pub loop-index-preserved-then-is_divisor : goal.loop-index-preserved-then-is_divisor
loop-index-preserved-then-is_divisor c =
    let inv = c.loop-index.invariant in
    record {
      below = omega (arith, inv.below);
      width = c.remove.ensures.width ∙ inv.width;
      rows =
          c.remove.ensures.rows
          ∙ row_removed_at c.args.dim c.args.rays.rows c.loop-index.rows.rows (c.loop-index.index - 1) c.loop-index.index (omega arith) inv.below inv.rows c.row.result.now c.row.ensures.value (ap (λ (v : List ℤ). length v) c.row.ensures.value ∙ c.row.ensures.wide ∙ inv.width) c.is_divisor.result c.is_divisor.ensures c.if-is_divisor.true;
    }

pub loop-index-preserved : goal.loop-index-preserved
loop-index-preserved c =
    let inv = c.loop-index.invariant in
    record {
      below = omega (arith, inv.below);
      width = inv.width;
      rows = row_kept_at c.args.dim c.args.rays.rows c.loop-index.rows.rows (c.loop-index.index - 1) c.loop-index.index (omega arith) inv.below inv.rows c.row.result.now c.row.ensures.value (ap (λ (v : List ℤ). length v) c.row.ensures.value ∙ c.row.ensures.wide ∙ inv.width) c.is_divisor.result c.is_divisor.ensures c.if-is_divisor.false;
    }
