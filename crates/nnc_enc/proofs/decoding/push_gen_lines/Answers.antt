use Rattle.std.proofs.Common.{◌∙◌, [], refl, ℕ}
use Rattle.row_core.specs.Lists.{row_at}
use Rattle.gens_sys.specs.declared.kind.GenKind.TheVariants.{Line}
use Rattle.nnc_enc.proofs.DecodeLemmas.{grew_more}
use Rattle.nnc_enc.proofs.decoding.push_gen_lines.Goals as goal

pub loop-index-preserved : goal.loop-index-preserved
loop-index-preserved c = record {
  dim = c.in_ok-push_gen.ensures.dim ∙ c.loop-index.invariant.dim;
  list = grew_more ([], Line) c.args.dim c.args.gens.now.list c.loop-index.gens.list c.push_gen.new.gens.list c.loop-index.index (λ (i : ℕ). row_at c.args.lines.now.rows i) (λ (i : ℕ). Line) c.row.result.now Line c.in_ok-push_gen.ensures.list.stored c.loop-index.invariant.list c.row.ensures.value refl c.in_ok-push_gen.ensures.list.primitive c.in_ok-push_gen.ensures.list.list;
}
