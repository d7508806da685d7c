use Rattle.std.proofs.Common.{ℕ, ◌+◌, ◌*◌, ◌≤◌, ◌∙◌, map, sym, subst}
use Rattle.std.proofs.lemmas.List.{length-map}
use Rattle.std.specs.Prelude.{Option, IfSome}
use Rattle.std.proofs.lemmas.Option.{IfSome_then}
use Rattle.std.proofs.lemmas.Result.{IfOk-weaker}
use Rattle.row_core.specs.Lists.{Rows}
use Rattle.minimise.specs.MinimalForms.{AreFormed}
use Rattle.stored_systems.specs.WorkLists.{constraint_row}
use Rattle.affine_maps.specs.FormedPairs.{AreFormedConstraints}
use Rattle.affine_maps.proofs.OnePart.{part_lists, rays_primitive, part_leaves, part_counted, constraints_primitive, formed_constraints_of}
use Rattle.affine_maps.proofs.carrying.formed_constraints.Goals as goal

pub reduced_parts-requires-clause-lists : goal.reduced_parts-requires-clause-lists
reduced_parts-requires-clause-lists g c =
    let cs = c.args.cons.now in
    part_lists (map constraint_row cs.list) c.in_ok-equalities.equalities c.in_ok-inequalities.inequalities c.in_ok-equalities.ensures.rows c.in_ok-inequalities.ensures.rows (c.in_ok-inequalities.ensures.width ∙ sym c.in_ok-equalities.ensures.width)

pub reduced_parts-requires-clause-primitive : goal.reduced_parts-requires-clause-primitive
reduced_parts-requires-clause-primitive g c =
    let cs = c.args.cons.now in
    rays_primitive (map constraint_row cs.list) c.in_ok-equalities.equalities c.in_ok-inequalities.inequalities c.in_ok-equalities.ensures.rows c.in_ok-inequalities.ensures.rows (constraints_primitive cs c.dim-dim.ensures.rows)

pub returns-clause-formed : goal.returns-clause-formed
returns-clause-formed g c =
    let cs = c.args.cons.now in
    let equalities = c.in_ok-equalities.equalities in
    let inequalities = c.in_ok-inequalities.inequalities in
    IfOk-weaker c.reduced_parts.result (λ (found : Option (Rows × Rows)). IfSome found (λ parts. AreFormed equalities.width equalities inequalities parts.0 parts.1)) (λ (found : Option (Rows × Rows)). IfSome found (AreFormedConstraints cs))
    (λ found h. IfSome_then found {P = λ parts. AreFormed equalities.width equalities inequalities parts.0 parts.1} {Q = AreFormedConstraints cs} h (λ parts k. formed_constraints_of cs equalities inequalities parts c.in_ok-equalities.ensures.rows c.in_ok-inequalities.ensures.rows c.in_ok-equalities.ensures.width k))
    c.reduced_parts.ensures.formed

pub returns-clause-left : goal.returns-clause-left
returns-clause-left g c =
    let cs = c.args.cons.now in
    λ e. part_leaves (map constraint_row cs.list) c.in_ok-equalities.equalities c.in_ok-inequalities.inequalities c.in_ok-equalities.ensures.rows c.in_ok-inequalities.ensures.rows (c.reduced_parts.ensures.left e)

pub returns-clause-counted : goal.returns-clause-counted
returns-clause-counted g c =
    let cs = c.args.cons.now in
    subst (λ (n : ℕ). c.reduced_parts.new.steps ≤ c.args.steps.now + 2 * (n * (cs.dim + 1))) (length-map cs.list constraint_row)
    (part_counted (map constraint_row cs.list) c.in_ok-equalities.equalities c.in_ok-inequalities.inequalities c.in_ok-equalities.ensures.rows c.in_ok-inequalities.ensures.rows c.args.steps.now c.reduced_parts.new.steps (cs.dim + 1) c.in_ok-equalities.ensures.width c.reduced_parts.ensures.counted)
