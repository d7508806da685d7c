use Rattle.std.proofs.Common.{◌≡◌, ◌<◌, ◌+◌, [], ◌∷◌, ◌++◌, length, map, take, arith, ap, sym, subst, rules}
use Rattle.std.proofs.lemmas.Grind.{common_steps}
use Rattle.std.specs.Prelude.{Contains}
use Rattle.grammar.specs.Rows.{rows_of, shapes_of}
use Rattle.grammar.specs.SameRows.{SameRows}
use Rattle.grammar.specs.Shape.{shape}
use Rattle.grammar.proofs.SameRowSteps.{same_more, same_repeat}
use Rattle.grammar.proofs.distinct.copy_distinct.Goals as goal
use Rattle.grammar.proofs.distinct.copy_distinct.Goals.{then-not-has_row+in_ok-push, else-not-has_row}

pub loop-index-preserved : goal.loop-index-preserved
loop-index-preserved c =
    let within : c.loop-index.index < length (rows_of c.args.rows.now) = omega arith in
    elim c.if-not-has_row.branch [
      | then-not-has_row+in_ok-push w ↦
          (let pushed : shapes_of c.if-not-has_row.out ≡ shapes_of c.loop-index.out ++ map shape c.row-row.result.now ∷ [] = grind (arith, common_steps, w.out-is, w.in_ok-push.ensures) in
          subst (λ x. SameRows (take (c.loop-index.index + 1) (shapes_of c.args.rows.now)) x) (sym pushed)
          (same_more (rows_of c.args.rows.now) c.loop-index.index c.row-row.result.now (shapes_of c.loop-index.out) within c.row-row.ensures c.loop-index.invariant))
      | else-not-has_row w ↦
          (let kept : shapes_of c.if-not-has_row.out ≡ shapes_of c.loop-index.out = ap shapes_of w.out-is in
          let has : Contains (shapes_of c.loop-index.out) (map shape c.row-row.result.now) = search rules in
          subst (λ x. SameRows (take (c.loop-index.index + 1) (shapes_of c.args.rows.now)) x) (sym kept)
          (same_repeat (rows_of c.args.rows.now) c.loop-index.index c.row-row.result.now (shapes_of c.loop-index.out) within c.row-row.ensures c.loop-index.invariant has))
    ]
