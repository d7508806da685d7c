use Rattle.std.proofs.Common.{ℕ, ◌+◌, ◌*◌, ◌≤◌, ◌∙◌, sym, subst}
use Rattle.std.proofs.lemmas.List.{length-map}
use Rattle.std.specs.Prelude.{Option, IfSome}
use Rattle.std.proofs.lemmas.Option.{IfSome_then}
use Rattle.std.proofs.lemmas.Result.{IfOk-weaker}
use Rattle.row_core.specs.Lists.{Rows}
use Rattle.minimise.specs.MinimalForms.{AreFormed}
use Rattle.stored_systems.specs.WorkLists.{generator_row, generator_list}
use Rattle.affine_maps.specs.FormedPairs.{AreFormedGenerators}
use Rattle.affine_maps.proofs.OnePart.{part_lists, rays_primitive, part_leaves, part_counted, generators_primitive, formed_generators_of}
use Rattle.affine_maps.proofs.carrying.formed_generators.Goals as goal

pub reduced_parts-requires-clause-lists : goal.reduced_parts-requires-clause-lists
reduced_parts-requires-clause-lists g c =
    let cs = c.args.gens.now in
    part_lists (generator_list cs) c.in_ok-lines.lines c.in_ok-rays.rays c.in_ok-lines.ensures.rows c.in_ok-rays.ensures.rows (c.in_ok-rays.ensures.width ∙ sym c.in_ok-lines.ensures.width)

pub reduced_parts-requires-clause-primitive : goal.reduced_parts-requires-clause-primitive
reduced_parts-requires-clause-primitive g c =
    let cs = c.args.gens.now in
    rays_primitive (generator_list cs) c.in_ok-lines.lines c.in_ok-rays.rays c.in_ok-lines.ensures.rows c.in_ok-rays.ensures.rows (generators_primitive cs c.dim-dim.ensures.rows)

pub returns-clause-formed : goal.returns-clause-formed
returns-clause-formed g c =
    let cs = c.args.gens.now in
    let lines = c.in_ok-lines.lines in
    let rays = c.in_ok-rays.rays in
    IfOk-weaker c.reduced_parts.result (λ (found : Option (Rows × Rows)). IfSome found (λ parts. AreFormed lines.width lines rays parts.0 parts.1)) (λ (found : Option (Rows × Rows)). IfSome found (AreFormedGenerators cs))
    (λ found h. IfSome_then found {P = λ parts. AreFormed lines.width lines rays parts.0 parts.1} {Q = AreFormedGenerators cs} h (λ parts k. formed_generators_of cs lines rays parts c.in_ok-lines.ensures.rows c.in_ok-rays.ensures.rows c.in_ok-lines.ensures.width k))
    c.reduced_parts.ensures.formed

pub returns-clause-left : goal.returns-clause-left
returns-clause-left g c =
    let cs = c.args.gens.now in
    λ e. part_leaves (generator_list cs) c.in_ok-lines.lines c.in_ok-rays.rays c.in_ok-lines.ensures.rows c.in_ok-rays.ensures.rows (c.reduced_parts.ensures.left e)

pub returns-clause-counted : goal.returns-clause-counted
returns-clause-counted g c =
    let cs = c.args.gens.now in
    subst (λ (n : ℕ). c.reduced_parts.new.steps ≤ c.args.steps.now + 2 * (n * (cs.dim + 1))) (length-map cs.list generator_row)
    (part_counted (generator_list cs) c.in_ok-lines.lines c.in_ok-rays.rays c.in_ok-lines.ensures.rows c.in_ok-rays.ensures.rows c.args.steps.now c.reduced_parts.new.steps (cs.dim + 1) c.in_ok-lines.ensures.width c.reduced_parts.ensures.counted)
