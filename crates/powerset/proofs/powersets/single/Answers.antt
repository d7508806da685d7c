use Rattle.std.proofs.Common.{List, ◌∷◌, [], ◌++◌, inl, inr, sym, ap, ◌∙◌}
use Rattle.std.proofs.lemmas.Bool.{false≢true}
use Rattle.std.proofs.lemmas.Result.{err_from_is_err_and}
use Rattle.poly_pair.specs.Polyhedra.{Polyhedron}
use Rattle.powerset.proofs.powersets.single.Goals as goal

pub returns-then-is_empty-clause-members : goal.returns-then-is_empty-clause-members
returns-then-is_empty-clause-members c = inl (c.is_empty.ensures.empty.0 c.if-is_empty.true, c.new-members.ensures.items)

pub returns-clause-members : goal.returns-clause-members
returns-clause-members c = inr (
  (λ none. false≢true (sym c.if-is_empty.false ∙ c.is_empty.ensures.empty.1 none)),
  c.in_ok-push.ensures.items ∙ ap (λ (ps : List Polyhedron). ps ++ c.in_ok-try_copy.field-0 ∷ []) c.new-members.ensures.items ∙ ap (λ (p : Polyhedron). p ∷ []) c.in_ok-try_copy.ensures,
)

pub returns-in_err-try_copy : goal.returns-in_err-try_copy
returns-in_err-try_copy c = let p = err_from_is_err_and c.from_residual.result c.from_residual.ensures.1 in rw p.1 (record { members = tt; each = tt })

pub returns-in_err-push : goal.returns-in_err-push
returns-in_err-push c = let p = err_from_is_err_and c.from_residual-in_err-push.result c.from_residual-in_err-push.ensures.1 in rw p.1 (record { members = tt; each = tt })
