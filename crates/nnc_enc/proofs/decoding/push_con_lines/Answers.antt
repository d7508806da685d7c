use Rattle.std.proofs.Common.{◌∙◌, [], refl, ℕ}
use Rattle.row_core.specs.Lists.{row_at}
use Rattle.cons_sys.specs.declared.kind.ConKind.TheVariants.{Eq}
use Rattle.nnc_enc.proofs.DecodeLemmas.{grew_more}
use Rattle.nnc_enc.proofs.decoding.push_con_lines.Goals as goal

pub loop-index-preserved : goal.loop-index-preserved
loop-index-preserved c = record {
  dim = c.in_ok-push_con.ensures.dim ∙ c.loop-index.invariant.dim;
  list = grew_more ([], Eq) c.args.dim c.args.cons.now.list c.loop-index.cons.list c.push_con.new.cons.list c.loop-index.index (λ (i : ℕ). row_at c.args.lines.now.rows i) (λ (i : ℕ). Eq) c.row.result.now Eq c.in_ok-push_con.ensures.list.stored c.loop-index.invariant.list c.row.ensures.value refl c.in_ok-push_con.ensures.list.primitive c.in_ok-push_con.ensures.list.list;
}
