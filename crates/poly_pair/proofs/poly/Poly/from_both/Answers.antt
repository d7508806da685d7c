use Rattle.std.proofs.Common.{ℕ, ◌+◌, ◌∙◌, List, length, sym, ap, subst, arith}
use Rattle.std.specs.Prelude.{Some, None}
use Rattle.std.proofs.lemmas.Result.{err_from_is_err_and}
use Rattle.row_core.specs.declared.errors.ConvErr.{ConvErr}
use Rattle.row_core.specs.Lists.{Row}
use Rattle.stored_systems.specs.WorkLists.{constraint_list}
use Rattle.poly_pair.specs.Conversions.{AreListSystems}
use Rattle.poly_pair.specs.Parts.{AreStoredOfRows}
use Rattle.poly_pair.specs.Polyhedra.{IsOfConstraints, IsOfGenerators}
use Rattle.poly_pair.specs.Starts.{IsStartOf}
use Rattle.poly_pair.specs.Work.{conv_overflow, IsSecondListConversion}
use Rattle.poly_pair.specs.declared.topology.Topology.TheVariants.{Closed}
use Rattle.poly_pair.proofs.ListLemmas.{constraints_of_rows}
use Rattle.poly_pair.proofs.BothSystems.{both_start, generators_of_both, generators_stored}
use Rattle.poly_pair.proofs.WorkLemmas.{second_unconverted, second_at}
use Rattle.poly_pair.proofs.poly.Poly.from_both.Goals as goal

pub systems_of_start-requires-clause-column : goal.systems_of_start-requires-clause-column
systems_of_start-requires-clause-column g c = omega (arith, c.in_ok-list.ensures.width, c.dim-dim.ensures.value)

pub systems_of_start-requires-clause-start : goal.systems_of_start-requires-clause-start
systems_of_start-requires-clause-start g c =
    let pair = c.requires.pair in
    let list = c.in_ok-list.list in
    subst (λ (w : ℕ). IsStartOf w list.rows (length list.rows) c.in_ok-start.start) (ap (λ (n : ℕ). n + 1) c.dim-dim.ensures.value ∙ sym c.in_ok-list.ensures.width)
    (both_start c.args.cons.now c.args.gens.now list.rows c.dim-dim.result c.in_ok-start.start c.args.zeros.now c.dim-dim.ensures.value c.in_ok-list.ensures.rows pair.same_dim pair.system c.in_ok-start.ensures.lists c.in_ok-start.ensures.lines c.in_ok-start.ensures.rays pair.zeros c.in_ok-start.ensures.zeros)

pub of_row_systems-requires-clause-systems : goal.of_row_systems-requires-clause-systems
of_row_systems-requires-clause-systems g c =
    subst (λ (w : ℕ). AreListSystems w c.dim-dim.result c.in_ok-list.list.rows c.in-Ok.found) (c.in_ok-list.ensures.width ∙ ap (λ (n : ℕ). n + 1) (sym c.dim-dim.ensures.value)) c.in-Ok.ensures.systems

pub returns-clause-both : goal.returns-clause-both
returns-clause-both g c =
    let cs = c.args.cons.now in
    let gs = c.args.gens.now in
    let pair = c.requires.pair in
    let made = c.in_ok-made.made in
    let constraints : IsOfConstraints Closed cs made = constraints_of_rows Closed c.dim-dim.result cs c.in_ok-list.list.rows made c.dim-dim.ensures.value pair.closed c.in_ok-list.ensures.fit c.in_ok-list.ensures.rows c.in_ok-made.ensures.points in
    let generators : IsOfGenerators Closed gs made = generators_of_both cs gs pair.same_dim pair.closed pair.kinds c.in_ok-list.ensures.fit c.dim.ensures.rows pair.system.generates made constraints in
    record {
      constraints = constraints;
      generators = generators;
      stored_of_constraints =
          subst (λ (k : ℕ). AreStoredOfRows Closed k (constraint_list cs) made) c.dim-dim.ensures.value
          (subst (λ (rs : List Row). AreStoredOfRows Closed c.dim-dim.result rs made) c.in_ok-list.ensures.rows c.in_ok-made.ensures.stored);
      stored_of_generators = generators_stored gs made c.dim-2.ensures.kept generators pair.kinds c.dim.ensures.rows pair.point;
    }

pub returns-clause-conversion : goal.returns-clause-conversion
returns-clause-conversion g c =
    second_at c.args.cons.now c.in_ok-list.list.width c.dim-dim.result c.in_ok-list.list.rows c.args.steps.now c.systems_of_start.new.steps None c.in_ok-list.ensures.width c.dim-dim.ensures.value c.in_ok-list.ensures.rows c.in-Ok.ensures.conversion

pub returns-in-Err-Overflow-clause-conversion : goal.returns-in-Err-Overflow-clause-conversion
returns-in-Err-Overflow-clause-conversion g c =
    let list = c.in_ok-list.list in
    let new = c.systems_of_start.new.steps in
    record {
      over = c.in-Err-Overflow.field-0-0;
      conversion = second_at c.args.cons.now list.width c.dim-dim.result list.rows c.args.steps.now new (Some c.in-Err-Overflow.field-0-0) c.in_ok-list.ensures.width c.dim-dim.ensures.value c.in_ok-list.ensures.rows
          (subst (λ (e : ConvErr). IsSecondListConversion list.width c.dim-dim.result list.rows c.args.steps.now new (conv_overflow e)) c.in-Err-Overflow.field-0-is c.in-Err-Overflow.ensures.conversion);
    }

pub returns-in-Err-Memory-clause-conversion : goal.returns-in-Err-Memory-clause-conversion
returns-in-Err-Memory-clause-conversion g c =
    let list = c.in_ok-list.list in
    let new = c.systems_of_start.new.steps in
    second_at c.args.cons.now list.width c.dim-dim.result list.rows c.args.steps.now new None c.in_ok-list.ensures.width c.dim-dim.ensures.value c.in_ok-list.ensures.rows
    (subst (λ (e : ConvErr). IsSecondListConversion list.width c.dim-dim.result list.rows c.args.steps.now new (conv_overflow e)) c.in-Err-Memory.field-0-is c.in-Err-Memory.ensures.conversion)

pub returns-in_err-list : goal.returns-in_err-list
returns-in_err-list g c =
    let p = err_from_is_err_and c.from_residual.result c.from_residual.ensures.1 in
    let cs = c.args.cons.now in
    rw p.1 (record { both = tt; conversion = second_unconverted (cs.dim + 1) cs.dim (constraint_list cs) c.args.steps.now })

pub returns-in_err-start : goal.returns-in_err-start
returns-in_err-start g c =
    let p = err_from_is_err_and c.from_residual-in_err-start.result c.from_residual-in_err-start.ensures.1 in
    let cs = c.args.cons.now in
    rw p.1 (record { both = tt; conversion = second_unconverted (cs.dim + 1) cs.dim (constraint_list cs) c.args.steps.now })

pub returns-in_err-made : goal.returns-in_err-made
returns-in_err-made g c =
    let p = err_from_is_err_and c.from_residual-in_err-made.result c.from_residual-in_err-made.ensures.1 in
    rw p.1 (record {
      both = tt;
      conversion = second_at c.args.cons.now c.in_ok-list.list.width c.dim-dim.result c.in_ok-list.list.rows c.args.steps.now c.systems_of_start.new.steps None c.in_ok-list.ensures.width c.dim-dim.ensures.value c.in_ok-list.ensures.rows c.in-Ok.ensures.conversion;
    })
