use Rattle.std.proofs.Common.{subst}
use Rattle.cons_sys.specs.Constraints.{FitDimension}
use Rattle.cons_sys.proofs.SystemLemmas.{IsConstraint-at}
use Rattle.cons_sys.proofs.system.ConsSys.row.Goals as goal

pub returns-clause-primitive : goal.returns-clause-primitive
returns-clause-primitive c =
    (IsConstraint-at c.args.self.now c.args.i (subst FitDimension c.self.view_is c.self.invariant) c.requires).primitive
