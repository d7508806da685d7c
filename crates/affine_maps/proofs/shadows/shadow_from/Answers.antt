use Rattle.std.proofs.Common.{length, inl}
use Rattle.poly_pair.specs.declared.topology.Topology.TheVariants.{Closed}
use Rattle.poly_pair.specs.Work.{begun_cons, conv_overflow, overflow_in}
use Rattle.mapped_systems.specs.Maps.{picked}
use Rattle.affine_maps.proofs.ShadowSets.{both_conversions}
use Rattle.affine_maps.proofs.shadows.shadow_from.Goals as goal

pub returns-in-Ok-clause-conversion : goal.returns-in-Ok-clause-conversion
returns-in-Ok-clause-conversion g c =
    let p = c.args.p.now in
    let cs = c.args.cons.now in
    both_conversions (begun_cons p cs) Closed (picked c.args.columns.now cs.dim) (length c.args.columns.now) cs
    c.args.steps.now c.spanning_generators_from.new.steps c.shadow_of_generators.new.steps (overflow_in conv_overflow c.shadow_of_generators.result)
    c.in-Ok.ensures.conversion c.shadow_of_generators.ensures.conversion

pub returns-in-Err-clause-conversion : goal.returns-in-Err-clause-conversion
returns-in-Err-clause-conversion g c = inl c.in-Err.ensures.conversion
