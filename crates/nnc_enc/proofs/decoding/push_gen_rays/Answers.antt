use Rattle.std.proofs.Common.{◌∙◌, [], ap, sym, subst, arith, ℕ, List, ℤ, length}
use Rattle.row_core.specs.Range.{AllInRange}
use Rattle.row_core.specs.Lists.{row_at}
use Rattle.nnc_enc.specs.DecodedVectors.{kind_of}
use Rattle.gens_sys.specs.declared.kind.GenKind.TheVariants.{Line}
use Rattle.gens_sys.specs.declared.kind.GenKind.{GenKind}
use Rattle.nnc_enc.specs.Decoding.{index_at, FitsKind}
use Rattle.nnc_enc.proofs.DecodeLemmas.{grew_more}
use Rattle.nnc_enc.proofs.decoding.push_gen_rays.Goals as goal

pub loop-index-preserved : goal.loop-index-preserved
loop-index-preserved c = record {
  dim = c.in_ok-push_gen.ensures.dim ∙ c.loop-index.invariant.dim;
  list = grew_more ([], Line) c.args.dim c.args.gens.now.list c.loop-index.gens.list c.push_gen.new.gens.list c.loop-index.index (λ (i : ℕ). row_at c.args.rays.now.rows (index_at c.args.order.now i)) (λ (i : ℕ). kind_of c.args.dim (row_at c.args.rays.now.rows (index_at c.args.order.now i))) c.row-row.result.now c.kind_of_vector.result c.in_ok-push_gen.ensures.list.stored c.loop-index.invariant.list c.row-row.ensures.value (c.kind_of_vector.ensures ∙ ap (kind_of c.args.dim) c.row-row.ensures.value) c.in_ok-push_gen.ensures.list.primitive c.in_ok-push_gen.ensures.list.list;
}

pub push_gen-requires : goal.push_gen-requires
push_gen-requires c =
    let dim = c.args.dim in
    let place = index_at c.args.order.now c.loop-index.index in
    record {
      dim = c.loop-index.invariant.dim ∙ c.requires.dim;
      wide = ap (λ (v : List ℤ). length v) c.row-row.ensures.value ∙ c.row-row.ensures.wide ∙ c.requires.width;
      in_range = subst AllInRange (sym c.row-row.ensures.value) c.row-row.ensures.in_range;
      fits = subst (λ (k : GenKind). FitsKind dim c.row-row.result.now k) (sym c.kind_of_vector.ensures) (subst (λ (v : List ℤ). FitsKind dim v (kind_of dim v)) (sym c.row-row.ensures.value) (c.requires.fit place (c.requires.within c.loop-index.index (omega arith))));
    }
