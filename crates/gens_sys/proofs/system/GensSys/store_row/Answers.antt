use Rattle.std.specs.Prelude.{◌≡◌, ℕ, [], ◌∷◌, ◌++◌}
use Rattle.std.proofs.Common.{arith, ap, subst, ◌∙◌}
use Rattle.std.proofs.lemmas.Result.{MatchResult-from_err}
use Rattle.row_core.specs.Vectors.{cell}
use Rattle.gens_sys.specs.Kinds.{HasBadDivisor}
use Rattle.gens_sys.specs.Generators.{Generators}
use Rattle.gens_sys.proofs.SystemLemmas.{FitDimension-push}
use Rattle.gens_sys.proofs.RowLemmas.{FitDimension-wide}
use Rattle.gens_sys.proofs.MultipleLemmas.{HasBadDivisor-multiple, IsZeroDirection-multiple}
use Rattle.gens_sys.proofs.system.GensSys.store_row.Goals as goal

pub push-requires : goal.push-requires
push-requires c =
    record { wide = FitDimension-wide _ _ c.self.invariant (omega (arith, c.into_primitive-row.ensures.width, c.requires.wide, ap (λ (gs : Generators). gs.dim) c.self.view_is)) }

pub invariant_of-self-2 : goal.invariant_of-self-2
invariant_of-self-2 c =
    let multiple = c.into_primitive-row.ensures.primitive.multiple in
    let stored = c.into_primitive-row.result in
    let same_dim : c.self.inside.dim ≡ c.args.self.now.dim = ap (λ (gs : Generators). gs.dim) c.self.view_is in
    rw c.in_ok-push.ensures
    (FitDimension-push c.self.inside.dim _ (c.into_primitive-row.result, c.args.kind) c.self.invariant
    (record {
      wide = omega (arith, c.into_primitive-row.ensures.width, c.requires.wide, same_dim);
      in_range = c.into_primitive-row.ensures.in_range;
      primitive = c.into_primitive-row.ensures.primitive.primitive;
      divisor = λ bad. c.requires.divisor (subst (λ (d : ℕ). HasBadDivisor c.args.kind (cell c.args.row d)) same_dim (HasBadDivisor-multiple c.args.kind c.args.row stored c.self.inside.dim multiple bad));
      nonzero = λ zero. c.requires.nonzero (IsZeroDirection-multiple c.args.kind c.args.row stored multiple zero);
    }))

pub invariant_of-self : goal.invariant_of-self
invariant_of-self c = rw c.in_err-push.ensures c.self.invariant

pub returns-in_err-push : goal.returns-in_err-push
returns-in_err-push c = record {
  dim = ap (λ (gs : Generators). gs.dim) c.self.view_is;
  list = MatchResult-from_err c.from_residual.result _ _ c.from_residual.ensures.0 (λ _. c.in_err-push.ensures ∙ ap (λ (gs : Generators). gs.list) c.self.view_is);
}

pub returns : goal.returns
returns c =
    record {
      dim = ap (λ (gs : Generators). gs.dim) c.self.view_is;
      list = record {
        stored = c.into_primitive-row.result;
        primitive = c.into_primitive-row.ensures.primitive;
        list = c.in_ok-push.ensures ∙ ap (λ (gs : Generators). gs.list ++ (c.into_primitive-row.result, c.args.kind) ∷ []) c.self.view_is;
      };
    }
