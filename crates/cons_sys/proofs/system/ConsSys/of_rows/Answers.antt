use Rattle.std.specs.Prelude.{◌≡◌, ◌<◌, List, [], ◌∷◌, ◌++◌, false, length, map, take, slice_index_or}
use Rattle.std.proofs.Common.{arith, sym, ap, ◌∙◌, subst}
use Rattle.std.proofs.lemmas.List.{map_more}
use Rattle.row_core.specs.Lists.{Row}
use Rattle.row_core.specs.MarkedCells.{remarked}
use Rattle.cons_sys.specs.Constraints.{Constraint, constraint_of, FitDimension}
use Rattle.cons_sys.specs.declared.kind.ConKind.{ConKind}
use Rattle.cons_sys.proofs.RowLemmas.{kind_of_row, kind_of_row-is, remarked-all_kinds, FitDimension-of_rows}
use Rattle.cons_sys.proofs.system.ConsSys.of_rows.Goals as goal

pub loop-index-preserved : goal.loop-index-preserved
loop-index-preserved c =
    let rows = c.args.rows.rows in
    let index = c.loop-index.index in
    let within : index < length rows = omega (arith, c.loop-index-test.true, c.len-index-end.ensures) in
    let last = kind_of_row-is (slice_index_or rows index ([], false)) c.is_eq.result c.kind_of.result c.is_eq.ensures c.kind_of.ensures in
    record {
      count = omega (arith, c.push_reserved.ensures.len, c.loop-index.invariant.count);
      room = omega (arith, c.push_reserved.ensures.capacity, c.loop-index.invariant.room);
      kinds = c.push_reserved.ensures.items ∙
          (ap (λ (kinds : List ConKind). kinds ++ c.kind_of.result ∷ []) c.loop-index.invariant.kinds ∙
          (ap (λ (kind : ConKind). map kind_of_row (take index rows) ++ kind ∷ []) last ∙
          sym (map_more kind_of_row rows index ([], false) within)));
    }

all_constraints : (c : goal.After-with_marks-rows) → c.with_marks-rows.result ≡ map constraint_of c.args.rows.rows
all_constraints c =
    c.with_marks-rows.ensures ∙ (ap (λ (rows : List Row). remarked rows c.loop-index.kinds.items) c.into_marked.ensures.value ∙
    remarked-all_kinds c.args.rows.rows c.loop-index.kinds.items c.loop-index.index (omega (arith, c.loop-index-test.false, c.len-index-end.ensures)) c.loop-index.invariant.kinds)

pub invariant_of-result : goal.invariant_of-result
invariant_of-result c =
    subst (λ (list : List Constraint). FitDimension (record { dim = c.args.dim; list = list })) (sym (all_constraints c))
    (FitDimension-of_rows c.args.rows c.args.dim c.into_marked.ensures.fit c.requires.narrow c.requires.wide c.requires.primitive)

pub returns-clause-list : goal.returns-clause-list
returns-clause-list c = all_constraints c
