use Rattle.std.proofs.Common.{None, inl, refl, sym, subst}
use Rattle.poly_pair.specs.Polyhedra.{Polyhedron, HasNoPoint}
use Rattle.widening.specs.Widenings.{IsWidening}
use Rattle.widening.proofs.widenings.widen.Goals as goal

pub returns-then-is_empty-clause-points : goal.returns-then-is_empty-clause-points
returns-then-is_empty-clause-points g c =
    let none : HasNoPoint c.args.p.now = c.is_empty.ensures.empty.0 c.if-is_empty.true in
    subst (λ (r : Polyhedron). IsWidening c.args.p.now c.args.q.now r) (sym c.in_ok-try_copy.ensures) (record {
      over = record { same_topology = c.requires.second; same_dim = sym c.requires.dim };
      of_empty = λ h v point. ((λ k. k), (λ k. k));
      points = λ x w. absurd (none x w);
    })

pub returns-then-is_empty-clause-conversion : goal.returns-then-is_empty-clause-conversion
returns-then-is_empty-clause-conversion g c = record { between = c.args.steps.now; first_over = None; first = inl refl; second = inl refl }

pub returns-in_err-try_copy-clause-conversion : goal.returns-in_err-try_copy-clause-conversion
returns-in_err-try_copy-clause-conversion g c = record { between = c.args.steps.now; first_over = None; first = inl refl; second = inl refl }
