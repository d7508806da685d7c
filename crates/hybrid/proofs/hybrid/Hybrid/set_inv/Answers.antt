use Rattle.std.proofs.Common.{sym, ap, ◌∙◌}
use Rattle.std.proofs.lemmas.List.{length-set}
use Rattle.std.proofs.lemmas.List.Elements.{All-set}
use Rattle.poly_pair.specs.ClosedPolyhedra.{IsClosedOver}
use Rattle.hybrid.specs.Systems.{HybridAutomaton}
use Rattle.hybrid.proofs.hybrid.Hybrid.set_inv.Goals as goal

pub invariant_of-self : goal.invariant_of-self
invariant_of-self c =
    let old = c.self.invariant in
    record {
      system = old.system;
      invariants = record {
        as_many = length-set c.self.inside.invariants.items c.args.location c.args.p ∙ old.invariants.as_many;
        each = All-set (IsClosedOver c.self.inside.system.dim) c.self.inside.invariants.items c.args.location c.args.p (record { kept = c.dim-kept.ensures.kept; over = record { same_topology = c.requires.closed; same_dim = c.requires.dim ∙ ap (λ (h : HybridAutomaton). h.system.dim) (sym c.self.view_is) } }) old.invariants.each;
      };
      flows = old.flows;
    }
