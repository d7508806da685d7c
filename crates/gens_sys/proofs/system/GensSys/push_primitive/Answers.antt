use Rattle.std.specs.Prelude.{◌≡◌, ℕ}
use Rattle.std.proofs.Common.{arith, ap, sym, subst}
use Rattle.gens_sys.specs.Generators.{Generators, IsGenerator}
use Rattle.gens_sys.proofs.SystemLemmas.{FitDimension-push}
use Rattle.gens_sys.proofs.RowLemmas.{FitDimension-wide}
use Rattle.gens_sys.proofs.system.GensSys.push_primitive.Goals as goal

pub push_copy-requires-clause-wide : goal.push_copy-requires-clause-wide
push_copy-requires-clause-wide c =
    FitDimension-wide _ _ c.self.invariant (omega (arith, c.requires.wide, ap (λ (gs : Generators). gs.dim) c.self.view_is))

pub invariant_of-self-2 : goal.invariant_of-self-2
invariant_of-self-2 c =
    let same_dim : c.self.inside.dim ≡ c.args.self.now.dim = ap (λ (gs : Generators). gs.dim) c.self.view_is in
    rw c.in_ok-push_copy.ensures
    (FitDimension-push c.self.inside.dim _ (c.args.row.now, c.args.kind) c.self.invariant
    (subst (λ (d : ℕ). IsGenerator d (c.args.row.now, c.args.kind)) (sym same_dim) c.requires))
