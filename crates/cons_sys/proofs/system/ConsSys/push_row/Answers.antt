use Rattle.std.proofs.Common.{arith, ap}
use Rattle.cons_sys.specs.Constraints.{Constraints}
use Rattle.cons_sys.proofs.SystemLemmas.{FitDimension-push}
use Rattle.cons_sys.proofs.RowLemmas.{FitDimension-wide}
use Rattle.cons_sys.proofs.system.ConsSys.push_row.Goals as goal

pub push-requires : goal.push-requires
push-requires c =
    record { wide = FitDimension-wide _ _ c.self.invariant (omega (arith, c.into_primitive-row.ensures.width, c.requires, ap (λ (cs : Constraints). cs.dim) c.self.view_is)) }

pub invariant_of-self-2 : goal.invariant_of-self-2
invariant_of-self-2 c =
    rw c.in_ok-push.ensures
    (FitDimension-push c.self.inside.dim _ (c.into_primitive-row.result, c.args.kind) c.self.invariant
    (record { wide = omega (arith, c.into_primitive-row.ensures.width, c.requires, ap (λ (cs : Constraints). cs.dim) c.self.view_is); in_range = c.into_primitive-row.ensures.in_range; primitive = c.into_primitive-row.ensures.primitive.primitive }))
