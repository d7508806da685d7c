use Rattle.std.proofs.Common.{◌≡◌, ◌∙◌, ◌++◌, ap, sym, subst, ℕ, List}
use Rattle.std.proofs.lemmas.Result.{err_from_is_err_and}
use Rattle.std.specs.Prelude.{All}
use Rattle.row_core.specs.Refusals.{IsOverflowIn}
use Rattle.poly_pair.specs.declared.topology.Topology.{Topology}
use Rattle.poly_pair.specs.Polyhedra.{Polyhedron}
use Rattle.powerset.specs.Powersets.{IsMember}
use Rattle.powerset.specs.Reductions.{IsReduced, LeavesBetween}
use Rattle.powerset.specs.Joins.{IsJoin}
use Rattle.powerset.proofs.JoinLemmas.{reduced_all, joined_all}
use Rattle.powerset.proofs.joining.join.Goals as goal

pub from_members-requires-clause-members : goal.from_members-requires-clause-members
from_members-requires-clause-members c =
    let s = c.args.s.now in
    let t = c.args.t.now in
    let all : c.in_ok-all.all.items ≡ s.members ++ t.members = c.in_ok-all.ensures ∙ ap (λ (ps : List Polyhedron). ps ++ c.members-2.result.now) c.members.ensures.value ∙ ap (λ (ps : List Polyhedron). s.members ++ ps) c.members-2.ensures.value in
    let r : IsReduced (s.members ++ t.members) c.in_ok-members.members.items = subst (λ (ps : List Polyhedron). IsReduced ps c.in_ok-members.members.items) all c.in_ok-members.ensures.reduced in
    subst (λ (o : Topology). All (IsMember o c.dim.result) c.in_ok-members.members.items) (sym c.topology.ensures)
    (subst (λ (n : ℕ). All (IsMember s.topology n) c.in_ok-members.members.items) (sym c.dim.ensures.value)
    (reduced_all (IsMember s.topology s.dim) (s.members ++ t.members) c.in_ok-members.members.items r (joined_all s t c.members.ensures.kept c.members-2.ensures.kept c.requires.topology c.requires.dim)))

pub returns : goal.returns
returns c =
    let s = c.args.s.now in
    let t = c.args.t.now in
    let all : c.in_ok-all.all.items ≡ s.members ++ t.members = c.in_ok-all.ensures ∙ ap (λ (ps : List Polyhedron). ps ++ c.members-2.result.now) c.members.ensures.value ∙ ap (λ (ps : List Polyhedron). s.members ++ ps) c.members-2.ensures.value in
    let r : IsReduced (s.members ++ t.members) c.in_ok-members.members.items = subst (λ (ps : List Polyhedron). IsReduced ps c.in_ok-members.members.items) all c.in_ok-members.ensures.reduced in
    record { join = subst (IsJoin s t) (sym c.from_members.ensures) (record { same_topology = c.topology.ensures; same_dim = c.dim.ensures.value; members = r }); overflow = tt }

pub returns-in_err-all : goal.returns-in_err-all
returns-in_err-all c = let p = err_from_is_err_and c.from_residual.result c.from_residual.ensures.1 in rw (p.1, p.2) (record { join = tt; overflow = tt })

pub returns-in_err-members : goal.returns-in_err-members
returns-in_err-members c =
    let s = c.args.s.now in
    let t = c.args.t.now in
    let all : c.in_ok-all.all.items ≡ s.members ++ t.members = c.in_ok-all.ensures ∙ ap (λ (ps : List Polyhedron). ps ++ c.members-2.result.now) c.members.ensures.value ∙ ap (λ (ps : List Polyhedron). s.members ++ ps) c.members-2.ensures.value in
    let p = err_from_is_err_and c.from_residual-in_err-members.result c.from_residual-in_err-members.ensures.1 in
    rw (p.1, p.2) (record { join = tt; overflow = subst (λ (ps : List Polyhedron). IsOverflowIn (LeavesBetween ps) c.in_err-members.field-0.0) all c.in_err-members.ensures.overflow })
