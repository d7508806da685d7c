use Rattle.std.proofs.Common.{ℕ, ◌+◌, List, ℤ, [], ◌∷◌, ◌++◌, length, append_assoc, sym, ap, ◌∙◌, subst, arith}
use Rattle.row_core.specs.Range.{AllInRange}
use Rattle.row_core.specs.Content.{IsPrimitive}
use Rattle.std.proofs.lemmas.Result.{err_from_is_err_and, on_ok_weaker}
use Rattle.cons_sys.specs.declared.kind.ConKind.{ConKind}
use Rattle.cons_sys.specs.declared.kind.ConKind.TheVariants.{Ge}
use Rattle.cons_sys.specs.Constraints.{Constraint}
use Rattle.cover_search.specs.Inequalities.{halves}
use Rattle.cover_search.proofs.ResultLemmas.{on_ok_first}
use Rattle.cover_search.proofs.inequalities.push_halves.Goals as goal

pub push_primitive-requires-in-Eq-clause-primitive : goal.push_primitive-requires-in-Eq-clause-primitive
push_primitive-requires-in-Eq-clause-primitive c = subst IsPrimitive (sym c.cells.ensures.value) (c.in_ok-turned-in-Eq.ensures.primitive c.requires.primitive)

pub returns-in_err-push_primitive-in-Eq-clause-list : goal.returns-in_err-push_primitive-in-Eq-clause-list
returns-in_err-push_primitive-in-Eq-clause-list c = let p = err_from_is_err_and c.from_residual.result c.from_residual.ensures.1 in rw p.1 tt

pub returns-in_err-turned-in-Eq-clause-list : goal.returns-in_err-turned-in-Eq-clause-list
returns-in_err-turned-in-Eq-clause-list c = let p = err_from_is_err_and c.from_residual-in_err-turned-in-Eq.result c.from_residual-in_err-turned-in-Eq.ensures.1 in rw p.1 tt

pub negated-requires : goal.negated-requires
negated-requires c = record {
  in_range = c.requires.in_range;
  narrow = omega (arith, c.requires.wide, c.in_ok-push_primitive-in-Eq.ensures.dim, c.dim-narrow.ensures.narrow);
}

pub push_primitive-requires-in-Eq-clause-wide : goal.push_primitive-requires-in-Eq-clause-wide
push_primitive-requires-in-Eq-clause-wide c =
    ap (λ (v : List ℤ). length v) c.cells.ensures.value ∙ c.in_ok-turned-in-Eq.ensures.width ∙ c.requires.wide ∙ ap (λ (n : ℕ). n + 1) (sym c.in_ok-push_primitive-in-Eq.ensures.dim)

pub push_primitive-requires-in-Eq-clause-in_range : goal.push_primitive-requires-in-Eq-clause-in_range
push_primitive-requires-in-Eq-clause-in_range c = subst AllInRange (sym c.cells.ensures.value) c.cells.ensures.in_range

pub returns-in_ok-turned-in-Eq-clause-list : goal.returns-in_ok-turned-in-Eq-clause-list
returns-in_ok-turned-in-Eq-clause-list c =
    let old = c.args.system.now.list in
    let row = c.args.row.now in
    let cells = c.cells.result.now in
    let both = ap (λ (cs : List Constraint). cs ++ (cells, Ge) ∷ []) c.in_ok-push_primitive-in-Eq.ensures.list
    ∙ append_assoc old ((row, Ge) ∷ []) ((cells, Ge) ∷ [])
    ∙ ap (λ (v : List ℤ). old ++ (row, Ge) ∷ (v, Ge) ∷ []) (c.cells.ensures.value ∙ c.in_ok-turned-in-Eq.ensures.value)
    ∙ ap (λ (k : ConKind). old ++ halves (row, k)) (sym c.in-Eq.is) in
    on_ok_weaker c.push_primitive-in-Eq.result (λ e. e ∙ both) (on_ok_first _ _ c.push_primitive-in-Eq.result c.push_primitive-in-Eq.ensures.list)
