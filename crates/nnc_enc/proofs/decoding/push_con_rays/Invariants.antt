use Rattle.std.proofs.Common.{◌≡◌, []}
use Rattle.row_core.specs.Lists.{row_at}
use Rattle.row_core.specs.Vectors.{cell}
use Rattle.cons_sys.specs.declared.kind.ConKind.TheVariants.{Eq}
use Rattle.nnc_enc.specs.Decoding.{con_kind, index_at, Grew}
use Rattle.nnc_enc.proofs.decoding.push_con_rays.Given as goal

abbrev pub invariant-loop-index : goal.invariant-loop-index
invariant-loop-index l = record {
  dim : l.cons.dim ≡ l.initial.cons.dim;
  list : Grew ([], Eq) l.fn.dim l.initial.cons.list l.cons.list l.index (λ i. row_at l.rays.rows (index_at l.order i)) (λ i. con_kind (cell (row_at l.rays.rows (index_at l.order i)) l.fn.dim));
}
