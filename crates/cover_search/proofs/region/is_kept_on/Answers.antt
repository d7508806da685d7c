use Rattle.std.proofs.Common.{ℕ, List, ℤ, refl, subst, arith}
use Rattle.row_core.specs.Vectors.{cell, dot}
use Rattle.row_core.specs.Lists.{row_at}
use Rattle.cover_search.specs.Regions.{IsKept}
use Rattle.cover_search.proofs.RegionLemmas.{all_vectors}
use Rattle.cover_search.proofs.KeptRows.{upto_next}
use Rattle.cover_search.proofs.region.is_kept_on.Goals as goal

pub loop-index-preserved : goal.loop-index-preserved
loop-index-preserved c =
    let kept : IsKept c.args.strict (dot c.args.row.now c.row.result.now) (cell c.row.result.now c.args.column) = c.if-not-is_kept.ensures refl in
    upto_next (λ (i : ℕ). IsKept c.args.strict (dot c.args.row.now (row_at c.args.list.now.rows i)) (cell (row_at c.args.list.now.rows i) c.args.column)) c.loop-index.index c.loop-index.invariant
    (subst (λ (v : List ℤ). IsKept c.args.strict (dot c.args.row.now v) (cell v c.args.column)) c.row.ensures.value kept)

pub returns : goal.returns
returns c t = all_vectors (λ (v : List ℤ). IsKept c.args.strict (dot c.args.row.now v) (cell v c.args.column)) c.args.list.now.rows (λ i b. c.loop-index.invariant i (omega (arith, b)))
