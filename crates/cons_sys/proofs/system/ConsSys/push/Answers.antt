use Rattle.std.specs.Prelude.{[], ◌∷◌, ◌++◌}
use Rattle.std.proofs.Common.{arith, ap, ◌∙◌}
use Rattle.std.proofs.lemmas.Result.{MatchResult-from_err}
use Rattle.cons_sys.specs.Constraints.{Constraints}
use Rattle.cons_sys.proofs.SystemLemmas.{FitDimension-push}
use Rattle.cons_sys.proofs.RowLemmas.{FitDimension-wide}
use Rattle.cons_sys.proofs.system.ConsSys.push.Goals as goal

pub push_primitive-requires-clause-wide : goal.push_primitive-requires-clause-wide
push_primitive-requires-clause-wide c =
    FitDimension-wide _ _ c.self.invariant (omega (arith, c.requires.wide, ap (λ (cs : Constraints). cs.dim) c.self.view_is))

pub invariant_of-self-2 : goal.invariant_of-self-2
invariant_of-self-2 c =
    let gained = c.in_ok-push_primitive.ensures in
    rw gained.list
    (FitDimension-push c.self.inside.dim _ (gained.stored, c.args.kind) c.self.invariant
    (record { wide = omega (arith, gained.wide, c.requires.wide, ap (λ (cs : Constraints). cs.dim) c.self.view_is); in_range = gained.in_range; primitive = gained.primitive.primitive }))

pub invariant_of-self : goal.invariant_of-self
invariant_of-self c = rw c.in_err-push_primitive.ensures c.self.invariant

pub returns-in_err-push_primitive : goal.returns-in_err-push_primitive
returns-in_err-push_primitive c = record {
  dim = ap (λ (cs : Constraints). cs.dim) c.self.view_is;
  list = MatchResult-from_err c.from_residual.result _ _ c.from_residual.ensures.0 (λ _. c.in_err-push_primitive.ensures ∙ ap (λ (cs : Constraints). cs.list) c.self.view_is);
}

pub returns : goal.returns
returns c =
    let gained = c.in_ok-push_primitive.ensures in
    record {
      dim = ap (λ (cs : Constraints). cs.dim) c.self.view_is;
      list = record {
        stored = gained.stored;
        primitive = gained.primitive;
        list = gained.list ∙ ap (λ (cs : Constraints). cs.list ++ (gained.stored, c.args.kind) ∷ []) c.self.view_is;
      };
    }
