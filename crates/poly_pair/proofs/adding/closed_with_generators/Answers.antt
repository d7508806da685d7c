use Rattle.std.proofs.Common.{None, ℕ, ◌+◌, ◌∙◌, length, sym, ap, subst, arith}
use Rattle.std.proofs.lemmas.List.{length-map}
use Rattle.gens_sys.specs.Generators.{Generators}
use Rattle.stored_systems.specs.WorkLists.{generator_row, generator_list}
use Rattle.poly_pair.specs.Additions.{IsExtended}
use Rattle.poly_pair.specs.declared.topology.Topology.TheVariants.{Closed}
use Rattle.poly_pair.specs.Polyhedra.{Polyhedron}
use Rattle.poly_pair.specs.FirstLists.{IsOfVectors}
use Rattle.poly_pair.specs.Parts.{AreStoredOfVectors}
use Rattle.poly_pair.proofs.SameSets.{same_vectors, same_stored_vectors}
use Rattle.poly_pair.specs.Starts.{IsStartOf}
use Rattle.poly_pair.proofs.Additions.{start_moved, generators_fewer, generator_list_parts}
use Rattle.std.proofs.lemmas.Result.{err_from_is_err_and}
use Rattle.poly_pair.specs.Work.{rows_work, conv_overflow}
use Rattle.poly_pair.proofs.WorkLemmas.{unconverted, work_moved}
use Rattle.poly_pair.proofs.adding.closed_with_generators.Goals as goal

pub added_systems-requires-clause-from : goal.added_systems-requires-clause-from
added_systems-requires-clause-from g c = omega (arith, generators_fewer c.args.p.now c.args.more.now c.args.list.now.rows c.requires.rows, c.len-from.ensures ∙ ap (λ (gs : Generators). length gs.list) c.gens.ensures.value)

pub added_systems-requires-clause-column : goal.added_systems-requires-clause-column
added_systems-requires-clause-column g c = omega (arith, c.requires.width)

pub added_systems-requires-clause-start : goal.added_systems-requires-clause-start
added_systems-requires-clause-start g c =
    subst (λ (w : ℕ). IsStartOf w c.args.list.now.rows c.len-from.result c.in_ok-start.start) (ap (λ (n : ℕ). n + 1) c.requires.dim.0 ∙ sym c.requires.width)
    (start_moved (c.args.p.now.cons.dim + 1) c.len-from.result (generator_list c.args.p.now.gens) (generator_list c.args.more.now) c.args.list.now.rows c.in_ok-start.start (c.requires.rows ∙ generator_list_parts c.args.p.now c.args.more.now) ((c.len-from.ensures ∙ ap (λ (gs : Generators). length gs.list) c.gens.ensures.value) ∙ sym (length-map c.args.p.now.gens.list generator_row)) c.in_ok-start.ensures)

pub returns-in_ok-try_copy-in-Same-clause-points : goal.returns-in_ok-try_copy-in-Same-clause-points
returns-in_ok-try_copy-in-Same-clause-points g c =
    subst (λ (p : Polyhedron). IsOfVectors Closed c.args.dim c.args.list.now.rows p) (sym c.in_ok-try_copy-in-Same.ensures)
    (same_vectors c.args.p.now c.gens.ensures.kept c.requires.closed c.requires.some c.args.dim c.len-from.result c.requires.dim.0 (generator_list c.args.more.now) c.args.list.now.rows (subst (IsExtended (c.args.dim + 1) c.args.dim c.args.list.now.rows c.len-from.result) c.in-Same.is (subst (λ (w : ℕ). IsExtended w c.args.dim c.args.list.now.rows c.len-from.result c.in_ok-found.found) c.requires.width c.in_ok-found.ensures.systems)) c.requires.list (c.requires.rows ∙ generator_list_parts c.args.p.now c.args.more.now) ((c.len-from.ensures ∙ ap (λ (gs : Generators). length gs.list) c.gens.ensures.value) ∙ sym (length-map c.args.p.now.gens.list generator_row)))

pub returns-in_ok-try_copy-in-Same-clause-stored : goal.returns-in_ok-try_copy-in-Same-clause-stored
returns-in_ok-try_copy-in-Same-clause-stored g c =
    subst (λ (p : Polyhedron). AreStoredOfVectors Closed c.args.dim c.args.list.now.rows p) (sym c.in_ok-try_copy-in-Same.ensures)
    (same_stored_vectors c.args.p.now c.gens.ensures.kept c.requires.closed c.requires.some c.args.dim c.len-from.result c.requires.dim.0 (generator_list c.args.more.now) c.args.list.now.rows (subst (IsExtended (c.args.dim + 1) c.args.dim c.args.list.now.rows c.len-from.result) c.in-Same.is (subst (λ (w : ℕ). IsExtended w c.args.dim c.args.list.now.rows c.len-from.result c.in_ok-found.found) c.requires.width c.in_ok-found.ensures.systems)) (c.requires.rows ∙ generator_list_parts c.args.p.now c.args.more.now) ((c.len-from.ensures ∙ ap (λ (gs : Generators). length gs.list) c.gens.ensures.value) ∙ sym (length-map c.args.p.now.gens.list generator_row)))

pub returns-in_err-start : goal.returns-in_err-start
returns-in_err-start g c =
    let p = err_from_is_err_and c.from_residual.result c.from_residual.ensures.1 in
    rw (p.1, p.2) (record {
      points = tt;
      stored = tt;
      conversion = unconverted (rows_work (c.args.dim + 1) c.args.dim c.args.list.now.rows (length c.args.p.now.gens.list)) c.args.steps.now (generators_fewer c.args.p.now c.args.more.now c.args.list.now.rows c.requires.rows);
    })

pub returns-in_err-found : goal.returns-in_err-found
returns-in_err-found g c =
    let p = err_from_is_err_and c.from_residual-in_err-found.result c.from_residual-in_err-found.ensures.1 in
    rw (p.1, p.2) (record {
      points = tt;
      stored = tt;
      conversion = work_moved c.args.list.now.width (c.args.dim + 1) c.args.dim c.args.list.now.rows c.len-from.result (length c.args.p.now.gens.list) c.args.steps.now c.added_systems.new.steps (conv_overflow c.in_err-found.field-0.0) c.requires.width (c.len-from.ensures ∙ ap (λ (gs : Generators). length gs.list) c.gens.ensures.value) c.in_err-found.ensures.conversion;
    })

pub returns-in_err-of_vector_systems-in-Changed : goal.returns-in_err-of_vector_systems-in-Changed
returns-in_err-of_vector_systems-in-Changed g c =
    let p = err_from_is_err_and c.from_residual-in_err-of_vector_systems-in-Changed.result c.from_residual-in_err-of_vector_systems-in-Changed.ensures.1 in
    rw (p.1, p.2) (record {
      points = tt;
      stored = tt;
      conversion = work_moved c.args.list.now.width (c.args.dim + 1) c.args.dim c.args.list.now.rows c.len-from.result (length c.args.p.now.gens.list) c.args.steps.now c.added_systems.new.steps None c.requires.width (c.len-from.ensures ∙ ap (λ (gs : Generators). length gs.list) c.gens.ensures.value) c.in_ok-found.ensures.conversion;
    })

pub returns-in_ok-of_vector_systems-in-Changed-clause-conversion : goal.returns-in_ok-of_vector_systems-in-Changed-clause-conversion
returns-in_ok-of_vector_systems-in-Changed-clause-conversion g c =
    work_moved c.args.list.now.width (c.args.dim + 1) c.args.dim c.args.list.now.rows c.len-from.result (length c.args.p.now.gens.list) c.args.steps.now c.added_systems.new.steps None c.requires.width (c.len-from.ensures ∙ ap (λ (gs : Generators). length gs.list) c.gens.ensures.value) c.in_ok-found.ensures.conversion

pub returns-in_err-try_copy-in-Same : goal.returns-in_err-try_copy-in-Same
returns-in_err-try_copy-in-Same g c =
    let p = err_from_is_err_and c.from_residual-in_err-try_copy-in-Same.result c.from_residual-in_err-try_copy-in-Same.ensures.1 in
    rw (p.1, p.2) (record {
      points = tt;
      stored = tt;
      conversion = work_moved c.args.list.now.width (c.args.dim + 1) c.args.dim c.args.list.now.rows c.len-from.result (length c.args.p.now.gens.list) c.args.steps.now c.added_systems.new.steps None c.requires.width (c.len-from.ensures ∙ ap (λ (gs : Generators). length gs.list) c.gens.ensures.value) c.in_ok-found.ensures.conversion;
    })

pub returns-in_ok-try_copy-in-Same-clause-conversion : goal.returns-in_ok-try_copy-in-Same-clause-conversion
returns-in_ok-try_copy-in-Same-clause-conversion g c =
    work_moved c.args.list.now.width (c.args.dim + 1) c.args.dim c.args.list.now.rows c.len-from.result (length c.args.p.now.gens.list) c.args.steps.now c.added_systems.new.steps None c.requires.width (c.len-from.ensures ∙ ap (λ (gs : Generators). length gs.list) c.gens.ensures.value) c.in_ok-found.ensures.conversion

pub of_vector_systems-requires-clause-fit : goal.of_vector_systems-requires-clause-fit
of_vector_systems-requires-clause-fit g c = c.width.ensures.rows

pub of_vector_systems-requires-clause-systems : goal.of_vector_systems-requires-clause-systems
of_vector_systems-requires-clause-systems g c =
    subst (IsExtended (c.args.dim + 1) c.args.dim c.args.list.now.rows c.len-from.result) c.in-Changed.is (subst (λ (w : ℕ). IsExtended w c.args.dim c.args.list.now.rows c.len-from.result c.in_ok-found.found) c.requires.width c.in_ok-found.ensures.systems)

pub of_vector_systems-requires-clause-width : goal.of_vector_systems-requires-clause-width
of_vector_systems-requires-clause-width g c = c.requires.width

pub of_vector_systems-requires-clause-narrow : goal.of_vector_systems-requires-clause-narrow
of_vector_systems-requires-clause-narrow g c = c.requires.narrow

pub of_vector_systems-requires-clause-list : goal.of_vector_systems-requires-clause-list
of_vector_systems-requires-clause-list g c = c.requires.list

pub returns-in_ok-of_vector_systems-in-Changed-clause-points : goal.returns-in_ok-of_vector_systems-in-Changed-clause-points
returns-in_ok-of_vector_systems-in-Changed-clause-points g c = c.in_ok-of_vector_systems-in-Changed.ensures.points

pub returns-in_ok-of_vector_systems-in-Changed-clause-stored : goal.returns-in_ok-of_vector_systems-in-Changed-clause-stored
returns-in_ok-of_vector_systems-in-Changed-clause-stored g c = c.in_ok-of_vector_systems-in-Changed.ensures.stored
