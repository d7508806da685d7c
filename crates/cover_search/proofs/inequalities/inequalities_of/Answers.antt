use Rattle.std.proofs.Common.{◌≡◌, ℕ, ◌+◌, ◌≤◌, List, ℤ, [], ◌++◌, length, take, flat_map, sym, ap, ◌∙◌, subst, arith}
use Rattle.std.proofs.lemmas.List.{flat_map_more, take_all, take_more}
use Rattle.row_core.specs.Range.{AllInRange}
use Rattle.row_core.specs.Content.{IsPrimitive}
use Rattle.cons_sys.specs.declared.kind.ConKind.{ConKind}
use Rattle.cons_sys.specs.declared.kind.ConKind.TheVariants.{Eq}
use Rattle.cons_sys.specs.Constraints.{Constraint, row_at, constraint_at}
use Rattle.cover_search.specs.Inequalities.{halves}
use Rattle.cover_search.proofs.inequalities.inequalities_of.Goals as goal

pub push_halves-requires-clause-primitive : goal.push_halves-requires-clause-primitive
push_halves-requires-clause-primitive c = subst IsPrimitive (sym c.row.ensures.value) c.row.ensures.primitive

pub push_halves-requires-clause-wide : goal.push_halves-requires-clause-wide
push_halves-requires-clause-wide c = ap (λ (v : List ℤ). length v) c.row.ensures.value ∙ c.row.ensures.wide ∙ ap (λ (n : ℕ). n + 1) (sym c.loop-index.invariant.dim)

pub push_halves-requires-clause-in_range : goal.push_halves-requires-clause-in_range
push_halves-requires-clause-in_range c = subst AllInRange (sym c.row.ensures.value) c.row.ensures.in_range

pub loop-index-preserved : goal.loop-index-preserved
loop-index-preserved c =
    let list = c.args.cons.now.list in
    let place = c.loop-index.index in
    let same : (c.row.result.now, c.kind.result) ≡ constraint_at list place =
    ap (λ (v : List ℤ). (v, c.kind.result)) c.row.ensures.value ∙ ap (λ (k : ConKind). (row_at list place, k)) c.kind.ensures in
    record {
      dim = c.in_ok-push_halves.ensures.dim ∙ c.loop-index.invariant.dim;
      list =
          c.in_ok-push_halves.ensures.list
          ∙ ap (λ (cs : List Constraint). cs ++ halves (c.row.result.now, c.kind.result)) c.loop-index.invariant.list
          ∙ ap (λ (con : Constraint). flat_map halves (take place list) ++ halves con) same
          ∙ flat_map_more halves [] (take place list) (constraint_at list place)
          ∙ ap (λ (cs : List Constraint). flat_map halves cs) (sym (take_more list place ([], Eq) (omega arith)));
    }

pub returns : goal.returns
returns c =
    let system = c.loop-index.system in
    let cons = c.args.cons.now in
    ap (λ (n : ℕ). record { dim = n; list = system.list }) c.loop-index.invariant.dim
    ∙ ap (λ (cs : List Constraint). record { dim = cons.dim; list = cs }) (c.loop-index.invariant.list ∙ ap (λ (cs : List Constraint). flat_map halves cs) (take_all c.loop-index.index cons.list (subst (λ (n : ℕ). n ≤ c.loop-index.index) c.len-index-end.ensures c.loop-index-test.false)))
