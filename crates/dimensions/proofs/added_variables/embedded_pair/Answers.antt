use Rattle.std.proofs.Common.{◌+◌, inl, inr, refl, sym, subst}
use Rattle.std.specs.Prelude.{IfSome}
use Rattle.std.proofs.lemmas.Option.{IfSome_then}
use Rattle.std.proofs.lemmas.Result.{IfOk-weaker, err_from_is_err_and}
use Rattle.gens_sys.specs.Generators.{Generators, FitDimension}
use Rattle.stored_systems.specs.WorkLists.{constraint_list}
use Rattle.poly_pair.specs.DoubleDescriptions.{IsOfBoth}
use Rattle.poly_pair.specs.declared.topology.Topology.{Topology}
use Rattle.poly_pair.specs.Parts.{AreStoredOfRows}
use Rattle.poly_pair.specs.Polyhedra.{IsOfConstraints}
use Rattle.poly_pair.specs.Starts.{CanStart}
use Rattle.poly_pair.specs.TopologyLists.{constraints_of}
use Rattle.poly_pair.proofs.WorkLemmas.{second_unconverted}
use Rattle.dimensions.specs.AddedVariables.{AreFreeBehind}
use Rattle.dimensions.proofs.PaddedPairs.{embedded_is_pair}
use Rattle.dimensions.proofs.added_variables.embedded_pair.Goals as goal

pub from_both-requires-clause-pair : goal.from_both-requires-clause-pair
from_both-requires-clause-pair g c =
    let can : CanStart c.args.p.now = c.if-not-can_start.ensures in
    embedded_is_pair c.args.p.now c.dim-dim.ensures.kept (subst FitDimension c.gens.ensures.value c.in_ok-gens.ensures.fit) can c.args.count c.args.cons.now c.requires.pulled c.in_ok-gens.gens
    (subst (λ (gs : Generators). AreFreeBehind c.args.count gs c.in_ok-gens.gens) c.gens.ensures.value c.in_ok-gens.ensures.system) c.zeros.result.now c.in_ok-zeros.zeros c.zeros.ensures.table c.in_ok-zeros.ensures

pub returns-clause-points : goal.returns-clause-points
returns-clause-points g c =
    let can : CanStart c.args.p.now = c.if-not-can_start.ensures in
    let cs = c.args.cons.now in
    IfOk-weaker c.from_both.result (λ found. IfSome found (IsOfBoth cs c.in_ok-gens.gens)) (λ found. IfSome found (IsOfConstraints c.args.p.now.topology cs))
    (λ found h. IfSome_then found h (λ q o. subst (λ (t : Topology). IsOfConstraints t cs q) (sym can.closed) o.constraints)) c.from_both.ensures.both

pub returns-clause-stored : goal.returns-clause-stored
returns-clause-stored g c =
    let can : CanStart c.args.p.now = c.if-not-can_start.ensures in
    let cs = c.args.cons.now in
    let t = c.args.p.now.topology in
    IfOk-weaker c.from_both.result (λ found. IfSome found (IsOfBoth cs c.in_ok-gens.gens)) (λ found. IfSome found (AreStoredOfRows t cs.dim (constraints_of t cs)))
    (λ found h. IfSome_then found h (λ q o. subst (λ (x : Topology). AreStoredOfRows x cs.dim (constraints_of x cs) q) (sym can.closed) o.stored_of_constraints)) c.from_both.ensures.both

pub returns-clause-conversion : goal.returns-clause-conversion
returns-clause-conversion g c = inl (c.if-not-can_start.ensures, c.from_both.ensures.conversion)

pub returns-then-not-can_start-clause-conversion : goal.returns-then-not-can_start-clause-conversion
returns-then-not-can_start-clause-conversion g c = inr (c.if-not-can_start.ensures, (refl, refl))

pub returns-in_err-gens : goal.returns-in_err-gens
returns-in_err-gens g c =
    let p = err_from_is_err_and c.from_residual.result c.from_residual.ensures.1 in
    let cs = c.args.cons.now in
    rw p.1 (record { points = tt; stored = tt; conversion = inl (c.if-not-can_start.ensures, second_unconverted (cs.dim + 1) cs.dim (constraint_list cs) c.args.steps.now) })

pub returns-in_err-zeros : goal.returns-in_err-zeros
returns-in_err-zeros g c =
    let p = err_from_is_err_and c.from_residual-in_err-zeros.result c.from_residual-in_err-zeros.ensures.1 in
    let cs = c.args.cons.now in
    rw p.1 (record { points = tt; stored = tt; conversion = inl (c.if-not-can_start.ensures, second_unconverted (cs.dim + 1) cs.dim (constraint_list cs) c.args.steps.now) })
