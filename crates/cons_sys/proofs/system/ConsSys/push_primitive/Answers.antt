use Rattle.std.proofs.Common.{arith, ap}
use Rattle.cons_sys.specs.Constraints.{Constraints}
use Rattle.cons_sys.proofs.SystemLemmas.{FitDimension-push}
use Rattle.cons_sys.proofs.RowLemmas.{FitDimension-wide}
use Rattle.cons_sys.proofs.system.ConsSys.push_primitive.Goals as goal

pub push_copy-requires-clause-wide : goal.push_copy-requires-clause-wide
push_copy-requires-clause-wide c =
    FitDimension-wide _ _ c.self.invariant (omega (arith, c.requires.wide, ap (λ (cs : Constraints). cs.dim) c.self.view_is))

pub invariant_of-self-2 : goal.invariant_of-self-2
invariant_of-self-2 c =
    rw c.in_ok-push_copy.ensures
    (FitDimension-push c.self.inside.dim _ (c.args.row.now, c.args.kind) c.self.invariant
    (record { wide = omega (arith, c.requires.wide, ap (λ (cs : Constraints). cs.dim) c.self.view_is); in_range = c.requires.in_range; primitive = c.requires.primitive }))
