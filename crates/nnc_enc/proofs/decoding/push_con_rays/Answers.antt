use Rattle.std.proofs.Common.{◌∙◌, [], ap, ℕ, List, ℤ}
use Rattle.row_core.specs.Lists.{row_at}
use Rattle.row_core.specs.Vectors.{cell}
use Rattle.cons_sys.specs.declared.kind.ConKind.TheVariants.{Eq}
use Rattle.nnc_enc.specs.Decoding.{con_kind, index_at}
use Rattle.nnc_enc.proofs.DecodeLemmas.{grew_more}
use Rattle.nnc_enc.proofs.decoding.push_con_rays.Goals as goal

pub loop-index-preserved : goal.loop-index-preserved
loop-index-preserved c = record {
  dim = c.in_ok-push_con.ensures.dim ∙ c.loop-index.invariant.dim;
  list = grew_more ([], Eq) c.args.dim c.args.cons.now.list c.loop-index.cons.list c.push_con.new.cons.list c.loop-index.index (λ (i : ℕ). row_at c.args.rays.now.rows (index_at c.args.order.now i)) (λ (i : ℕ). con_kind (cell (row_at c.args.rays.now.rows (index_at c.args.order.now i)) c.args.dim)) c.row-row.result.now c.kind_of_row.result c.in_ok-push_con.ensures.list.stored c.loop-index.invariant.list c.row-row.ensures.value (c.kind_of_row.ensures ∙ ap (λ (v : List ℤ). con_kind (cell v c.args.dim)) c.row-row.ensures.value) c.in_ok-push_con.ensures.list.primitive c.in_ok-push_con.ensures.list.list;
}
