use Rattle.std.proofs.Common.{Bool, List, ℤ, ◌∷◌, [], ◌++◌, length, map, filter, take, get_or, sym, ap, ◌∙◌, subst, arith}
use Rattle.std.proofs.lemmas.List.{map-append, take_all, take_more}
use Rattle.std.proofs.lemmas.List.Elements.{filter-append}
use Rattle.row_core.specs.Range.{AllInRange}
use Rattle.row_core.specs.Lists.{Row}
use Rattle.cons_sys.specs.Kinds.{is_equality}
use Rattle.cons_sys.specs.declared.kind.ConKind.TheVariants.{Eq}
use Rattle.cons_sys.specs.Constraints.{Constraint, row_at}
use Rattle.stored_systems.specs.WorkLists.{constraint_row}
use Rattle.stored_systems.specs.Marks.{has_mark}
use Rattle.stored_systems.proofs.parts.constraint_rows.Goals as goal

pub loop-index-preserved : goal.loop-index-preserved
loop-index-preserved c =
    let list = c.args.cons.now.list in
    let place = c.loop-index.index in
    let first = take place list in
    let next = get_or list place ([], Eq) in
    let marked : List Row → List Row = λ (rows : List Row). filter (has_mark c.args.equalities) rows in
    record {
      width = c.in_ok-push_marked.ensures.width ∙ c.loop-index.invariant.width;
      rows =
          c.in_ok-push_marked.ensures.rows
          ∙ ap (λ (rows : List Row). rows ++ marked ((c.row.result.now, c.is_equality_kind.result) ∷ [])) c.loop-index.invariant.rows
          ∙ ap (λ (row : List ℤ). marked (map constraint_row first) ++ marked ((row, c.is_equality_kind.result) ∷ [])) c.row.ensures.value
          ∙ ap (λ (eq : Bool). marked (map constraint_row first) ++ marked ((row_at list place, eq) ∷ [])) (c.is_equality_kind.ensures ∙ ap is_equality c.kind.ensures)
          ∙ sym (ap (λ (cs : List Constraint). marked (map constraint_row cs)) (take_more list place ([], Eq) (omega arith)) ∙ ap marked (map-append constraint_row first (next ∷ [])) ∙ filter-append (has_mark c.args.equalities) (map constraint_row first) (constraint_row next ∷ []));
    }

pub returns : goal.returns
returns c = record {
  width = c.loop-index.invariant.width;
  rows = c.loop-index.invariant.rows ∙ ap (λ (cs : List Constraint). filter (has_mark c.args.equalities) (map constraint_row cs)) (take_all c.loop-index.index c.args.cons.now.list (omega arith));
}

pub push_marked-requires : goal.push_marked-requires
push_marked-requires c = record {
  width = ap (λ (v : List ℤ). length v) c.row.ensures.value ∙ c.row.ensures.wide ∙ sym c.loop-index.invariant.width;
  in_range = subst AllInRange (sym c.row.ensures.value) c.row.ensures.in_range;
}
