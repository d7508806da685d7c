use Rattle.std.proofs.Common.{◌≡◌, []}
use Rattle.row_core.specs.Lists.{row_at}
use Rattle.cons_sys.specs.declared.kind.ConKind.TheVariants.{Eq}
use Rattle.nnc_enc.specs.Decoding.{Grew}
use Rattle.nnc_enc.proofs.decoding.push_con_lines.Given as goal

abbrev pub invariant-loop-index : goal.invariant-loop-index
invariant-loop-index l = record {
  dim : l.cons.dim ≡ l.initial.cons.dim;
  list : Grew ([], Eq) l.fn.dim l.initial.cons.list l.cons.list l.index (λ i. row_at l.lines.rows i) (λ i. Eq);
}
