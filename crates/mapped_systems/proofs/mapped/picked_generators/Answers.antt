use Rattle.std.proofs.Common.{ℕ, ◌<◌, List, [], length, sym, subst, ap, ◌∙◌, arith}
use Rattle.std.proofs.lemmas.List.{take_all}
use Rattle.std.proofs.lemmas.List.Elements.{All-weaker}
use Rattle.row_core.specs.Range.{AllInRange}
use Rattle.gens_sys.specs.Generators.{Generator, generator_at}
use Rattle.mapped_systems.specs.Maps.{picked}
use Rattle.mapped_systems.specs.MappedLists.{AreMapped, nothing}
use Rattle.mapped_systems.proofs.ColumnLemmas.{length-picked}
use Rattle.mapped_systems.proofs.LinearMaps.{picking_linear}
use Rattle.mapped_systems.proofs.ListSteps.{mapped_step}
use Rattle.mapped_systems.proofs.MappedKinds.{step_divisor}
use Rattle.mapped_systems.proofs.mapped.picked_generators.Goals as goal

pub loop-index-init : goal.loop-index-init
loop-index-init c = record {
  dim = c.in_ok-mapped.ensures.dim;
  mapped = subst (AreMapped (picked c.args.columns.now c.args.gens.now.dim) []) (sym c.in_ok-mapped.ensures.empty) nothing;
}

pub put_picked-requires : goal.put_picked-requires
put_picked-requires c =
    let wide = ap length c.row.ensures.value in
    record {
      columns = All-weaker (λ (j : ℕ). j < c.args.gens.now.dim) (λ (j : ℕ). j < length c.row.result.now) (λ j h. omega (arith, h, wide, c.row.ensures.wide)) c.args.columns.now c.requires.columns;
      divisor = omega (arith, wide, c.row.ensures.wide, c.dim-divisor.ensures.value);
      narrow = omega (arith, c.requires.narrow);
      in_range = subst AllInRange (sym c.row.ensures.value) c.row.ensures.in_range;
    }

pub push_mapped-requires-clause-wide : goal.push_mapped-requires-clause-wide
push_mapped-requires-clause-wide c = omega (arith, ap length (c.deref.ensures.value ∙ c.in_ok-put_picked.ensures.row), length-picked c.args.columns.now c.dim-divisor.result c.row.result.now, c.loop-index.invariant.dim)

pub push_mapped-requires-clause-in_range : goal.push_mapped-requires-clause-in_range
push_mapped-requires-clause-in_range c = subst AllInRange (sym c.deref.ensures.value) c.in_ok-put_picked.ensures.in_range

pub push_mapped-requires-clause-divisor : goal.push_mapped-requires-clause-divisor
push_mapped-requires-clause-divisor c =
    let gens = c.args.gens.now in
    let columns = c.args.columns.now in
    step_divisor gens.dim (length columns) c.loop-index.mapped.dim (picked columns gens.dim) (picking_linear gens.dim columns) (generator_at gens.list c.loop-index.index) c.row.ensures.generator c.deref.result.now c.kind.result c.loop-index.invariant.dim
    (c.deref.ensures.value ∙ c.in_ok-put_picked.ensures.row ∙ ap (λ (n : ℕ). picked columns n c.row.result.now) c.dim-divisor.ensures.value ∙ ap (picked columns gens.dim) c.row.ensures.value) c.kind.ensures

pub loop-index-preserved : goal.loop-index-preserved
loop-index-preserved c = record {
  dim = c.in_ok-push_mapped.ensures.dim ∙ c.loop-index.invariant.dim;
  mapped = mapped_step (picked c.args.columns.now c.args.gens.now.dim) c.args.gens.now.list c.loop-index.mapped.list c.push_mapped.new.gens.list c.loop-index.index c.deref.result.now c.kind.result (omega arith)
      (c.deref.ensures.value ∙ c.in_ok-put_picked.ensures.row
      ∙ ap (λ (n : ℕ). picked c.args.columns.now n c.row.result.now) c.dim-divisor.ensures.value
      ∙ ap (picked c.args.columns.now c.args.gens.now.dim) c.row.ensures.value)
      c.kind.ensures c.loop-index.invariant.mapped c.in_ok-push_mapped.ensures.list;
}

pub returns : goal.returns
returns c = record {
  fit = c.dim-divisor.ensures.rows;
  system = record {
    same_dim = c.loop-index.invariant.dim;
    mapped = subst (λ (l : List Generator). AreMapped (picked c.args.columns.now c.args.gens.now.dim) l c.loop-index.mapped.list) (take_all c.loop-index.index c.args.gens.now.list (omega (arith, c.loop-index-test.false, c.len-index-end.ensures))) c.loop-index.invariant.mapped;
  };
}
