use Rattle.std.proofs.Common.{inl, inr, Bool, MatchBool, refl, subst}
use Rattle.std.specs.Prelude.{Option, IfSome}
use Rattle.std.proofs.lemmas.Result.{err_from_is_err_and}
use Rattle.affine_maps.specs.Carrying.{HaveNoLine}
use Rattle.poly_pair.specs.DoubleDescriptions.{IsOfBoth}
use Rattle.poly_pair.specs.Polyhedra.{Polyhedron}
use Rattle.affine_maps.proofs.FormWork.{none_found, formed_in_vain}
use Rattle.affine_maps.proofs.LinelessPairs.{double_description}
use Rattle.affine_maps.proofs.carrying.from_carried.Goals as goal

pub from_both-requires-clause-pair : goal.from_both-requires-clause-pair
from_both-requires-clause-pair g c =
    let gs = c.args.gens.now in
    double_description c.args.cons.now gs c.args.zeros.now c.requires.pair c.dim-dim.ensures.rows
    (subst (λ (b : Bool). MatchBool b (¬ (HaveNoLine gs.list)) (HaveNoLine gs.list)) c.if-has_line.false c.has_line.ensures)

pub returns-in_err-made-clause-conversion : goal.returns-in_err-made-clause-conversion
returns-in_err-made-clause-conversion g c =
    let p = err_from_is_err_and c.from_residual.result c.from_residual.ensures.1 in
    rw (p.1, p.2) (inl c.in_err-made.ensures.forming)

pub returns-in-Some-clause-both : goal.returns-in-Some-clause-both
returns-in-Some-clause-both g c = subst (λ (found : Option Polyhedron). IfSome found (IsOfBoth c.args.cons.now c.args.gens.now)) c.in-Some.is c.in_ok-made.ensures.both

pub returns-in-Some-clause-conversion : goal.returns-in-Some-clause-conversion
returns-in-Some-clause-conversion g c = inl c.in_ok-made.ensures.forming

pub returns-then-has_line-clause-conversion : goal.returns-then-has_line-clause-conversion
returns-then-has_line-clause-conversion g c =
    let gs = c.args.gens.now in
    record {
      between = c.carried.new.steps;
      forming = c.in_ok-made.ensures.forming;
      leaves = c.in_ok-made.ensures.left (none_found c.in_ok-made.field-0 c.in_default.not-Some);
      after = inr (subst (λ (b : Bool). MatchBool b (¬ (HaveNoLine gs.list)) (HaveNoLine gs.list)) c.if-has_line.true c.has_line.ensures, (refl, refl));
    }

pub returns-clause-conversion : goal.returns-clause-conversion
returns-clause-conversion g c =
    let gs = c.args.gens.now in
    formed_in_vain c.args.cons.now gs c.args.steps.now c.from_both.new.steps c.from_both.result (record {
      between = c.carried.new.steps;
      forming = c.in_ok-made.ensures.forming;
      leaves = c.in_ok-made.ensures.left (none_found c.in_ok-made.field-0 c.in_default.not-Some);
      after = inl (subst (λ (b : Bool). MatchBool b (¬ (HaveNoLine gs.list)) (HaveNoLine gs.list)) c.if-has_line.false c.has_line.ensures, c.from_both.ensures.conversion);
    })
