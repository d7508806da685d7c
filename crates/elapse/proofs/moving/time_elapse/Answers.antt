use Rattle.std.proofs.Common.{inl, inr, refl, sym, subst, ◌∙◌}
use Rattle.std.proofs.lemmas.Bool.{false≢true}
use Rattle.std.proofs.lemmas.Result.{err_from_is_err_and, IfOk-weaker}
use Rattle.elapse.specs.Elapses.{IsElapse, AreStoredOfElapse, AreStoredOfList}
use Rattle.elapse.proofs.ElapsedPolyhedra.{none_elapse}
use Rattle.elapse.proofs.moving.time_elapse.Goals as goal

pub returns-then-is_empty-clause-points : goal.returns-then-is_empty-clause-points
returns-then-is_empty-clause-points g c =
    let none = c.is_empty.ensures.empty.0 c.if-is_empty.true in
    subst (IsElapse c.args.p.now c.args.q.now) (sym c.in_ok-try_copy.ensures) (none_elapse c.args.p.now c.args.q.now c.args.p.now refl refl none (inl none))

pub returns-then-is_empty-clause-stored : goal.returns-then-is_empty-clause-stored
returns-then-is_empty-clause-stored g c =
    let none = c.is_empty.ensures.no_generator.0 c.if-is_empty.true in
    subst (AreStoredOfElapse c.args.p.now c.args.q.now) (sym c.in_ok-try_copy.ensures) (inl (record { given = inl none; none = none }))

pub returns-then-is_empty-2-clause-points : goal.returns-then-is_empty-2-clause-points
returns-then-is_empty-2-clause-points g c =
    let none = c.is_empty-2.ensures.empty.0 c.if-is_empty-2.true in
    subst (IsElapse c.args.p.now c.args.q.now) (sym c.in_ok-try_copy-2.ensures) (none_elapse c.args.p.now c.args.q.now c.args.q.now c.requires.same_topology c.requires.same_dim none (inr none))

pub returns-then-is_empty-2-clause-stored : goal.returns-then-is_empty-2-clause-stored
returns-then-is_empty-2-clause-stored g c =
    let none = c.is_empty-2.ensures.no_generator.0 c.if-is_empty-2.true in
    subst (AreStoredOfElapse c.args.p.now c.args.q.now) (sym c.in_ok-try_copy-2.ensures) (inl (record { given = inr none; none = none }))

pub returns-in_err-try_copy : goal.returns-in_err-try_copy
returns-in_err-try_copy g c = let p = err_from_is_err_and c.from_residual.result c.from_residual.ensures.1 in rw (p.1, p.2) (record { points = tt; stored = tt; conversion = inl (refl, refl) })

pub returns-in_err-try_copy-2 : goal.returns-in_err-try_copy-2
returns-in_err-try_copy-2 g c = let p = err_from_is_err_and c.from_residual-in_err-try_copy-2.result c.from_residual-in_err-try_copy-2.ensures.1 in rw (p.1, p.2) (record { points = tt; stored = tt; conversion = inl (refl, refl) })

pub moved-requires : goal.moved-requires
moved-requires g c = record {
  same_topology = c.requires.same_topology;
  same_dim = c.requires.same_dim;
  some = λ e. false≢true (sym c.if-is_empty.false ∙ c.is_empty.ensures.no_generator.1 e);
  moving = λ e. false≢true (sym c.if-is_empty-2.false ∙ c.is_empty-2.ensures.no_generator.1 e);
}

pub returns : goal.returns
returns g c = record {
  points = c.moved.ensures.points;
  stored = IfOk-weaker c.moved.result (AreStoredOfList c.args.p.now c.args.q.now) (AreStoredOfElapse c.args.p.now c.args.q.now) (λ r s. inr s) c.moved.ensures.stored;
  conversion = c.moved.ensures.conversion;
}

pub returns-then-is_empty-clause-conversion : goal.returns-then-is_empty-clause-conversion
returns-then-is_empty-clause-conversion g c = inl (refl, refl)

pub returns-then-is_empty-2-clause-conversion : goal.returns-then-is_empty-2-clause-conversion
returns-then-is_empty-2-clause-conversion g c = inl (refl, refl)
