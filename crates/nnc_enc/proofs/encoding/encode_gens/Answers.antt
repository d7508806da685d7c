use Rattle.std.proofs.Common.{◌∙◌, arith, ℕ, ◌+◌, List, ℤ, length, ◌≤◌, ap, sym, subst}
use Rattle.nnc_enc.proofs.EncodeLemmas.{encoded_more}
use Rattle.std.proofs.lemmas.List.{take_all}
use Rattle.row_core.specs.Range.{AllInRange}
use Rattle.gens_sys.specs.Generators.{Generator}
use Rattle.nnc_enc.specs.EncodedGenerators.{encoded_generators}
use Rattle.nnc_enc.proofs.encoding.encode_gens.Goals as goal

pub loop-index-preserved : goal.loop-index-preserved
loop-index-preserved c = record {
  width = c.in_ok-push_encoded.ensures.width ∙ c.loop-index.invariant.width;
  rows = encoded_more c.dim-dim.result c.args.gens.now.dim c.args.gens.now.list c.loop-index.index c.loop-index.list.rows c.push_encoded.new.list.rows c.row.result.now c.kind.result c.dim-dim.ensures.value (omega arith) c.loop-index.invariant.rows c.in_ok-push_encoded.ensures.rows c.row.ensures.value c.kind.ensures;
}

pub returns-clause-rows : goal.returns-clause-rows
returns-clause-rows c =
    c.loop-index.invariant.rows ∙ ap (λ (gs : List Generator). encoded_generators c.args.gens.now.dim gs) (take_all c.loop-index.index c.args.gens.now.list (subst (λ (n : ℕ). n ≤ c.loop-index.index) c.len-index-end.ensures c.loop-index-test.false))

pub push_encoded-requires : goal.push_encoded-requires
push_encoded-requires c = record {
  list = c.loop-index.invariant.width ∙ ap (λ (n : ℕ). n + 2) (sym c.dim-dim.ensures.value);
  wide = ap (λ (v : List ℤ). length v) c.row.ensures.value ∙ c.row.ensures.wide ∙ ap (λ (n : ℕ). n + 1) (sym c.dim-dim.ensures.value);
  in_range = subst AllInRange (sym c.row.ensures.value) c.row.ensures.in_range;
}
