use Rattle.std.specs.Prelude.{◌≡◌, ℕ, [], ◌∷◌, ◌++◌}
use Rattle.std.proofs.Common.{arith, ap, subst, ◌∙◌}
use Rattle.std.proofs.lemmas.Result.{MatchResult-from_err}
use Rattle.row_core.specs.Vectors.{cell}
use Rattle.gens_sys.specs.Kinds.{HasBadDivisor}
use Rattle.gens_sys.specs.Generators.{Generators}
use Rattle.gens_sys.proofs.SystemLemmas.{FitDimension-push}
use Rattle.gens_sys.proofs.RowLemmas.{FitDimension-wide}
use Rattle.gens_sys.proofs.MultipleLemmas.{HasBadDivisor-multiple, IsZeroDirection-multiple}
use Rattle.gens_sys.proofs.system.GensSys.store.Goals as goal

pub push_primitive-requires-clause-wide : goal.push_primitive-requires-clause-wide
push_primitive-requires-clause-wide c =
    FitDimension-wide _ _ c.self.invariant (omega (arith, c.requires.wide, ap (λ (gs : Generators). gs.dim) c.self.view_is))

pub invariant_of-self-2 : goal.invariant_of-self-2
invariant_of-self-2 c =
    let gained = c.in_ok-push_primitive.ensures in
    let multiple = gained.primitive.multiple in
    let same_dim : c.self.inside.dim ≡ c.args.self.now.dim = ap (λ (gs : Generators). gs.dim) c.self.view_is in
    rw gained.list
    (FitDimension-push c.self.inside.dim _ (gained.stored, c.args.kind) c.self.invariant
    (record {
      wide = omega (arith, gained.wide, c.requires.wide, same_dim);
      in_range = gained.in_range;
      primitive = gained.primitive.primitive;
      divisor = λ bad. c.requires.divisor (subst (λ (d : ℕ). HasBadDivisor c.args.kind (cell c.args.row.now d)) same_dim (HasBadDivisor-multiple c.args.kind c.args.row.now gained.stored c.self.inside.dim multiple bad));
      nonzero = λ zero. c.requires.nonzero (IsZeroDirection-multiple c.args.kind c.args.row.now gained.stored multiple zero);
    }))

pub invariant_of-self : goal.invariant_of-self
invariant_of-self c = rw c.in_err-push_primitive.ensures c.self.invariant

pub returns-in_err-push_primitive : goal.returns-in_err-push_primitive
returns-in_err-push_primitive c = record {
  dim = ap (λ (gs : Generators). gs.dim) c.self.view_is;
  list = MatchResult-from_err c.from_residual.result _ _ c.from_residual.ensures.0 (λ _. c.in_err-push_primitive.ensures ∙ ap (λ (gs : Generators). gs.list) c.self.view_is);
}

pub returns : goal.returns
returns c =
    let gained = c.in_ok-push_primitive.ensures in
    record {
      dim = ap (λ (gs : Generators). gs.dim) c.self.view_is;
      list = record {
        stored = gained.stored;
        primitive = gained.primitive;
        list = gained.list ∙ ap (λ (gs : Generators). gs.list ++ (gained.stored, c.args.kind) ∷ []) c.self.view_is;
      };
    }
