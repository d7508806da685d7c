use Rattle.std.proofs.Common.{inl, inr, refl, sym, subst}
use Rattle.std.specs.Prelude.{IfSome}
use Rattle.std.proofs.lemmas.Option.{IfSome_then}
use Rattle.std.proofs.lemmas.Result.{IfOk-weaker, err_from_is_err_and}
use Rattle.cons_sys.specs.Constraints.{Constraints}
use Rattle.gens_sys.specs.Generators.{FitDimension}
use Rattle.poly_pair.specs.DoubleDescriptions.{IsOfBoth}
use Rattle.poly_pair.specs.declared.topology.Topology.{Topology}
use Rattle.poly_pair.specs.Parts.{AreStoredOfGenerators}
use Rattle.poly_pair.specs.Polyhedra.{IsOfGenerators}
use Rattle.poly_pair.specs.Starts.{CanStart}
use Rattle.dimensions.specs.AddedVariables.{AreZeroBehind}
use Rattle.dimensions.proofs.PaddedPairs.{projected_is_pair}
use Rattle.dimensions.proofs.added_variables.projected_pair.Goals as goal

pub from_both-requires-clause-pair : goal.from_both-requires-clause-pair
from_both-requires-clause-pair g c =
    let can : CanStart c.args.p.now = c.if-not-can_start.ensures in
    projected_is_pair c.args.p.now c.dim-dim.ensures.kept (subst FitDimension c.gens.ensures.value c.dim-vectors.ensures.rows) can c.args.count c.args.gens.now c.requires.mapped c.in_ok-cons.cons
    (subst (λ (cs : Constraints). AreZeroBehind c.args.count cs c.in_ok-cons.cons) c.cons.ensures.value c.in_ok-cons.ensures) c.zeros.result.now c.in_ok-zeros.zeros c.zeros.ensures.table c.in_ok-zeros.ensures

pub returns-clause-points : goal.returns-clause-points
returns-clause-points g c =
    let can : CanStart c.args.p.now = c.if-not-can_start.ensures in
    let cs = c.in_ok-cons.cons in
    let gs = c.args.gens.now in
    IfOk-weaker c.from_both.result (λ found. IfSome found (IsOfBoth cs gs)) (λ found. IfSome found (IsOfGenerators c.args.p.now.topology gs))
    (λ found h. IfSome_then found h (λ q o. subst (λ (t : Topology). IsOfGenerators t gs q) (sym can.closed) o.generators)) c.from_both.ensures.both

pub returns-clause-stored : goal.returns-clause-stored
returns-clause-stored g c =
    let can : CanStart c.args.p.now = c.if-not-can_start.ensures in
    let cs = c.in_ok-cons.cons in
    let gs = c.args.gens.now in
    IfOk-weaker c.from_both.result (λ found. IfSome found (IsOfBoth cs gs)) (λ found. IfSome found (AreStoredOfGenerators c.args.p.now.topology gs))
    (λ found h. IfSome_then found h (λ q o. subst (λ (t : Topology). AreStoredOfGenerators t gs q) (sym can.closed) o.stored_of_generators)) c.from_both.ensures.both

pub returns-clause-conversion : goal.returns-clause-conversion
returns-clause-conversion g c = inl (record {
  start = c.if-not-can_start.ensures;
  system = c.in_ok-cons.cons;
  zero = subst (λ (cs : Constraints). AreZeroBehind c.args.count cs c.in_ok-cons.cons) c.cons.ensures.value c.in_ok-cons.ensures;
  conversion = c.from_both.ensures.conversion;
})

pub returns-then-not-can_start-clause-conversion : goal.returns-then-not-can_start-clause-conversion
returns-then-not-can_start-clause-conversion g c = inr (inl (c.if-not-can_start.ensures, (refl, refl)))

pub returns-in_err-cons : goal.returns-in_err-cons
returns-in_err-cons g c =
    let p = err_from_is_err_and c.from_residual.result c.from_residual.ensures.1 in
    rw p.1 (record { points = tt; stored = tt; conversion = inr (inr (refl, refl)) })

pub returns-in_err-zeros : goal.returns-in_err-zeros
returns-in_err-zeros g c =
    let p = err_from_is_err_and c.from_residual-in_err-zeros.result c.from_residual-in_err-zeros.ensures.1 in
    rw p.1 (record { points = tt; stored = tt; conversion = inr (inr (refl, refl)) })
