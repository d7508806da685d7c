use Rattle.std.proofs.Common.{ℕ, ◌+◌, List, length, arith, sym, subst, ap, ◌∙◌, []}
use Rattle.std.proofs.lemmas.List.{take_all}
use Rattle.gens_sys.specs.Generators.{Generator, generator_at}
use Rattle.row_core.specs.Range.{AllInRange}
use Rattle.mapped_systems.specs.Maps.{with_zeros}
use Rattle.mapped_systems.specs.MappedLists.{AreMapped, nothing}
use Rattle.mapped_systems.proofs.ColumnLemmas.{length-with_zeros}
use Rattle.mapped_systems.proofs.LinearMaps.{padding_linear}
use Rattle.mapped_systems.proofs.ListSteps.{mapped_step}
use Rattle.mapped_systems.proofs.MappedKinds.{step_divisor}
use Rattle.mapped_systems.proofs.mapped.padded_generators.Goals as goal

pub loop-index-init : goal.loop-index-init
loop-index-init c = record {
  dim = omega (arith, c.in_ok-mapped.ensures.dim, c.dim.ensures.value);
  mapped = subst (AreMapped (with_zeros c.args.gens.now.dim c.args.count) []) (sym c.in_ok-mapped.ensures.empty) nothing;
}

pub loop-index-preserved : goal.loop-index-preserved
loop-index-preserved c = record {
  dim = c.in_ok-push_mapped.ensures.dim ∙ c.loop-index.invariant.dim;
  mapped = mapped_step (with_zeros c.args.gens.now.dim c.args.count) c.args.gens.now.list c.loop-index.mapped.list c.push_mapped.new.gens.list c.loop-index.index c.deref.result.now c.kind.result (omega arith) (c.deref.ensures.value ∙ c.in_ok-put_with_zeros.ensures.row ∙ ap (λ (n : ℕ). with_zeros n c.args.count c.row.result.now) c.dim-in-loop-index.ensures.value ∙ ap (with_zeros c.args.gens.now.dim c.args.count) c.row.ensures.value) c.kind.ensures c.loop-index.invariant.mapped c.in_ok-push_mapped.ensures.list;
}

pub put_with_zeros-requires : goal.put_with_zeros-requires
put_with_zeros-requires c =
    let wide = ap length c.row.ensures.value in
    record {
      column = omega (arith, wide, c.row.ensures.wide, c.dim-in-loop-index.ensures.value);
      narrow = omega (arith, wide, c.row.ensures.wide, c.requires.narrow);
      in_range = subst AllInRange (sym c.row.ensures.value) c.row.ensures.in_range;
    }

pub push_mapped-requires-clause-wide : goal.push_mapped-requires-clause-wide
push_mapped-requires-clause-wide c = omega (arith, ap length (c.deref.ensures.value ∙ c.in_ok-put_with_zeros.ensures.row), length-with_zeros c.dim-in-loop-index.result c.args.count c.row.result.now, ap length c.row.ensures.value, c.row.ensures.wide, c.loop-index.invariant.dim)

pub push_mapped-requires-clause-in_range : goal.push_mapped-requires-clause-in_range
push_mapped-requires-clause-in_range c = subst AllInRange (sym c.deref.ensures.value) c.in_ok-put_with_zeros.ensures.in_range

pub push_mapped-requires-clause-divisor : goal.push_mapped-requires-clause-divisor
push_mapped-requires-clause-divisor c =
    let gens = c.args.gens.now in
    step_divisor gens.dim (gens.dim + c.args.count) c.loop-index.mapped.dim (with_zeros gens.dim c.args.count) (padding_linear gens.dim c.args.count) (generator_at gens.list c.loop-index.index) c.row.ensures.generator c.deref.result.now c.kind.result c.loop-index.invariant.dim
    (c.deref.ensures.value ∙ c.in_ok-put_with_zeros.ensures.row ∙ ap (λ (n : ℕ). with_zeros n c.args.count c.row.result.now) c.dim-in-loop-index.ensures.value ∙ ap (with_zeros gens.dim c.args.count) c.row.ensures.value) c.kind.ensures

pub returns : goal.returns
returns c = record {
  fit = c.dim.ensures.rows;
  system = record {
    same_dim = c.loop-index.invariant.dim;
    mapped = subst (λ (l : List Generator). AreMapped (with_zeros c.args.gens.now.dim c.args.count) l c.loop-index.mapped.list) (take_all c.loop-index.index c.args.gens.now.list (omega (arith, c.loop-index-test.false, c.len-index-end.ensures))) c.loop-index.invariant.mapped;
  };
}
