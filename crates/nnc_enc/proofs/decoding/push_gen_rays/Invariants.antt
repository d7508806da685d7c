use Rattle.std.proofs.Common.{◌≡◌, []}
use Rattle.row_core.specs.Lists.{row_at}
use Rattle.nnc_enc.specs.DecodedVectors.{kind_of}
use Rattle.gens_sys.specs.declared.kind.GenKind.TheVariants.{Line}
use Rattle.nnc_enc.specs.Decoding.{index_at, Grew}
use Rattle.nnc_enc.proofs.decoding.push_gen_rays.Given as goal

abbrev pub invariant-loop-index : goal.invariant-loop-index
invariant-loop-index l = record {
  dim : l.gens.dim ≡ l.initial.gens.dim;
  list : Grew ([], Line) l.fn.dim l.initial.gens.list l.gens.list l.index (λ i. row_at l.rays.rows (index_at l.order i)) (λ i. kind_of l.fn.dim (row_at l.rays.rows (index_at l.order i)));
}
