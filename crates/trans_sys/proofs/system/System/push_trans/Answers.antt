use Rattle.std.proofs.Common.{◌<◌, ◌*◌, sym, subst, ap, ◌∙◌, length, All}
use Rattle.std.proofs.lemmas.List.Elements.{All-push}
use Rattle.trans_sys.specs.declared.transition.Transition.{Transition}
use Rattle.trans_sys.specs.Systems.{TransitionSystem, IsTransition}
use Rattle.trans_sys.proofs.system.System.push_trans.Goals as goal

pub invariant_of-self-2 : goal.invariant_of-self-2
invariant_of-self-2 c =
    let old = c.self.invariant in
    let pushed : Transition = record { source = c.args.from; target = c.args.to; relation = c.args.relation } in
    let is_transition : IsTransition (length c.self.inside.initial.items) c.self.inside.dim pushed = record {
      source = subst (λ (s : TransitionSystem). c.args.from < length s.initial) (sym c.self.view_is) c.requires.source;
      target = subst (λ (s : TransitionSystem). c.args.to < length s.initial) (sym c.self.view_is) c.requires.target;
      relation = record {
        kept = c.dim-kept.ensures.kept;
        over = record { same_topology = c.requires.closed; same_dim = c.requires.dim ∙ ap (λ (s : TransitionSystem). 2 * s.dim) (sym c.self.view_is) };
      };
    } in
    record {
      narrow = old.narrow;
      some = old.some;
      few = old.few;
      initial = old.initial;
      transitions = subst (All (IsTransition (length c.self.inside.initial.items) c.self.inside.dim)) (sym c.in_ok-push.ensures.items) (All-push (IsTransition (length c.self.inside.initial.items) c.self.inside.dim) c.self.inside.transitions.items pushed old.transitions is_transition);
    }
