use Rattle.std.proofs.Common.{subst}
use Rattle.gens_sys.specs.Generators.{FitDimension}
use Rattle.gens_sys.proofs.SystemLemmas.{IsGenerator-at}
use Rattle.gens_sys.proofs.system.GensSys.row.Goals as goal

pub returns-clause-generator : goal.returns-clause-generator
returns-clause-generator c = IsGenerator-at c.args.self.now c.args.i (subst FitDimension c.self.view_is c.self.invariant) c.requires
