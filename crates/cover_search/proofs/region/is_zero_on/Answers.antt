use Rattle.std.proofs.Common.{◌≡◌, List, ℤ, pos, arith}
use Rattle.row_core.specs.Vectors.{dot}
use Rattle.cover_search.proofs.RegionLemmas.{all_vectors}
use Rattle.cover_search.proofs.region.is_zero_on.Goals as goal

pub returns : goal.returns
returns c t = all_vectors (λ (v : List ℤ). dot c.args.row.now v ≡ pos 0) c.args.list.now.rows (λ i b. c.loop-index.invariant i (omega (arith, b)))
