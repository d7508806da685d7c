use Rattle.std.proofs.Common.{◌≡◌, []}
use Rattle.row_core.specs.Lists.{row_at}
use Rattle.gens_sys.specs.declared.kind.GenKind.TheVariants.{Line}
use Rattle.nnc_enc.specs.Decoding.{Grew}
use Rattle.nnc_enc.proofs.decoding.push_gen_lines.Given as goal

abbrev pub invariant-loop-index : goal.invariant-loop-index
invariant-loop-index l = record {
  dim : l.gens.dim ≡ l.initial.gens.dim;
  list : Grew ([], Line) l.fn.dim l.initial.gens.list l.gens.list l.index (λ i. row_at l.lines.rows i) (λ i. Line);
}
