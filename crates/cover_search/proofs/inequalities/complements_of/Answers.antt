use Rattle.std.proofs.Common.{◌≡◌, ℕ, ◌+◌, ◌≤◌, List, ℤ, [], ◌∷◌, ◌++◌, length, map, take, sym, ap, ◌∙◌, subst, arith}
use Rattle.std.proofs.lemmas.List.{map_more, take_all}
use Rattle.row_core.specs.Range.{AllInRange}
use Rattle.row_core.specs.Content.{IsPrimitive}
use Rattle.std.proofs.lemmas.Result.{err_from_is_err_and}
use Rattle.cone_laws.specs.Cones.{negated}
use Rattle.cons_sys.specs.declared.kind.ConKind.{ConKind}
use Rattle.cons_sys.specs.declared.kind.ConKind.TheVariants.{Eq}
use Rattle.cons_sys.specs.Constraints.{Constraint, row_at, constraint_at}
use Rattle.cover_search.specs.Inequalities.{opposite, complement}
use Rattle.cover_search.proofs.inequalities.complements_of.Goals as goal

pub push_primitive-requires-clause-primitive : goal.push_primitive-requires-clause-primitive
push_primitive-requires-clause-primitive c = subst IsPrimitive (sym c.cells.ensures.value) (c.in_ok-turned.ensures.primitive (subst IsPrimitive (sym c.row.ensures.value) c.row.ensures.primitive))

pub returns-in_err-push_primitive : goal.returns-in_err-push_primitive
returns-in_err-push_primitive c = let p = err_from_is_err_and c.from_residual-in_err-push_primitive.result c.from_residual-in_err-push_primitive.ensures.1 in rw p.1 (record { dim = tt; list = tt })

pub returns-in_err-turned : goal.returns-in_err-turned
returns-in_err-turned c = let p = err_from_is_err_and c.from_residual.result c.from_residual.ensures.1 in rw p.1 (record { dim = tt; list = tt })

pub negated-requires : goal.negated-requires
negated-requires c = record {
  in_range = subst AllInRange (sym c.row.ensures.value) c.row.ensures.in_range;
  narrow = omega (arith, ap (λ (v : List ℤ). length v) c.row.ensures.value, c.row.ensures.wide, c.row.ensures.narrow);
}

pub push_primitive-requires-clause-wide : goal.push_primitive-requires-clause-wide
push_primitive-requires-clause-wide c =
    ap (λ (v : List ℤ). length v) c.cells.ensures.value ∙ c.in_ok-turned.ensures.width ∙ ap (λ (v : List ℤ). length v) c.row.ensures.value ∙ c.row.ensures.wide ∙ ap (λ (n : ℕ). n + 1) (sym c.loop-index.invariant.dim)

pub push_primitive-requires-clause-in_range : goal.push_primitive-requires-clause-in_range
push_primitive-requires-clause-in_range c = subst AllInRange (sym c.cells.ensures.value) c.cells.ensures.in_range

pub loop-index-preserved : goal.loop-index-preserved
loop-index-preserved c =
    let list = c.args.rows.now.list in
    let place = c.loop-index.index in
    let same : (c.cells.result.now, c.opposite.result) ≡ complement (constraint_at list place) =
    ap (λ (v : List ℤ). (v, c.opposite.result)) (c.cells.ensures.value ∙ c.in_ok-turned.ensures.value ∙ ap negated c.row.ensures.value)
    ∙ ap (λ (k : ConKind). (negated (row_at list place), k)) (c.opposite.ensures ∙ ap opposite c.kind.ensures) in
    record {
      dim = c.in_ok-push_primitive.ensures.dim ∙ c.loop-index.invariant.dim;
      list =
          c.in_ok-push_primitive.ensures.list
          ∙ ap (λ (cs : List Constraint). cs ++ (c.cells.result.now, c.opposite.result) ∷ []) c.loop-index.invariant.list
          ∙ ap (λ (con : Constraint). map complement (take place list) ++ con ∷ []) same
          ∙ sym (map_more complement list place ([], Eq) (omega arith));
    }

pub returns-clause-list : goal.returns-clause-list
returns-clause-list c = c.loop-index.invariant.list ∙ ap (λ (cs : List Constraint). map complement cs) (take_all c.loop-index.index c.args.rows.now.list (subst (λ (n : ℕ). n ≤ c.loop-index.index) c.len-index-end.ensures c.loop-index-test.false))
