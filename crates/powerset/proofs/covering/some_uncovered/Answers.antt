use Rattle.std.proofs.Common.{◌≡◌, inl, inr, false, refl, subst, arith}
use Rattle.std.specs.Prelude.{All, is_some}
use Rattle.std.proofs.lemmas.List.Elements.{All-more, All-nil}
use Rattle.std.proofs.lemmas.Result.{err_from_is_err_and}
use Rattle.lattice_ops.specs.Sequences.{begins, takes}
use Rattle.cons_sys.specs.Constraints.{Constraints}
use Rattle.poly_pair.specs.Polyhedra.{Polyhedron}
use Rattle.cover_search.specs.Branches.{AreCovered, IsUncovered}
use Rattle.powerset.proofs.CoverLemmas.{when_none, take_all, member_search}
use Rattle.powerset.proofs.covering.some_uncovered.Goals as goal

pub loop-index-init : goal.loop-index-init
loop-index-init g c = record { covered = All-nil (λ (p : Polyhedron). AreCovered p.cons c.args.systems.now); counted = begins; no_fewer = omega arith }

pub loop-index-preserved : goal.loop-index-preserved
loop-index-preserved g c =
    let none : is_some c.in_ok-point.point ≡ false = cc in
    let covered = when_none c.in_ok-point.point (AreCovered c.cons.result.now c.args.systems.now) (IsUncovered c.cons.result.now c.args.systems.now) none c.in_ok-point.ensures.found in
    let here : AreCovered c.index-members-index.result.cons c.args.systems.now = subst (λ (cs : Constraints). AreCovered cs c.args.systems.now) c.cons.ensures.value covered in
    record {
      covered = All-more (λ (p : Polyhedron). AreCovered p.cons c.args.systems.now) c.args.members.now c.loop-index.index c.index-members-index.result (omega arith) c.loop-index.invariant.covered
          (subst (λ (p : Polyhedron). AreCovered p.cons c.args.systems.now) c.index-members-index.is here);
      counted = takes c.loop-index.invariant.counted (member_search c.args.members.now c.args.systems.now c.loop-index.index c.index-members-index.result c.cons.result.now _ _ _ (omega arith) c.index-members-index.is c.cons.ensures.value c.in_ok-point.ensures.conversion);
      no_fewer = omega (arith, c.loop-index.invariant.no_fewer, c.in_ok-point.ensures.no_fewer);
    }

pub returns-in_err-point-clause-no_fewer : goal.returns-in_err-point-clause-no_fewer
returns-in_err-point-clause-no_fewer g c = omega (arith, c.loop-index.invariant.no_fewer, c.in_err-point.ensures.no_fewer)

pub returns-in_err-point-clause-conversion : goal.returns-in_err-point-clause-conversion
returns-in_err-point-clause-conversion g c =
    let p = err_from_is_err_and c.from_residual.result c.from_residual.ensures.1 in
    rw (p.1, p.2) (record {
      index = c.loop-index.index;
      within = omega arith;
      between = c.loop-index.steps;
      before = c.loop-index.invariant.counted;
      rest = inr (omega arith, member_search c.args.members.now c.args.systems.now c.loop-index.index c.index-members-index.result c.cons.result.now _ _ _ (omega arith) c.index-members-index.is c.cons.ensures.value c.in_err-point.ensures.conversion);
    })

pub returns-then-is_some-clause-no_fewer : goal.returns-then-is_some-clause-no_fewer
returns-then-is_some-clause-no_fewer g c = omega (arith, c.loop-index.invariant.no_fewer, c.in_ok-point.ensures.no_fewer)

pub returns-then-is_some-clause-conversion : goal.returns-then-is_some-clause-conversion
returns-then-is_some-clause-conversion g c = record {
  index = c.loop-index.index;
  within = omega arith;
  between = c.loop-index.steps;
  before = c.loop-index.invariant.counted;
  rest = inr (omega arith, member_search c.args.members.now c.args.systems.now c.loop-index.index c.index-members-index.result c.cons.result.now _ _ _ (omega arith) c.index-members-index.is c.cons.ensures.value c.in_ok-point.ensures.conversion);
}

pub returns-clause-no_fewer : goal.returns-clause-no_fewer
returns-clause-no_fewer g c = c.loop-index.invariant.no_fewer

pub returns-clause-conversion : goal.returns-clause-conversion
returns-clause-conversion g c = record { index = c.loop-index.index; within = omega arith; between = c.loop-index.steps; before = c.loop-index.invariant.counted; rest = inl (refl, refl) }

pub returns-clause-found : goal.returns-clause-found
returns-clause-found g c = subst (All (λ (p : Polyhedron). AreCovered p.cons c.args.systems.now)) (take_all c.args.members.now c.loop-index.index (omega arith)) c.loop-index.invariant.covered
