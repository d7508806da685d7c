use Rattle.std.proofs.Common.{◌≡◌, ◌<◌, [], length, map, take, ◌∷◌, ap, subst, sym, ◌∙◌, arith, take_all, rules}
use Rattle.grammar.specs.Shape.{shape}
use Rattle.grammar.specs.Rows.{rows_of, shapes_of}
use Rattle.grammar.proofs.Columns.{Means, means_start, means_step, column_within, column_behind, matches_from_end}
use Rattle.grammar.proofs.Lives.{shape_lives}
use Rattle.grammar.proofs.RowSteps.{no_rows}
use Rattle.grammar.proofs.column.column_from.Goals as goal

pub loop-index-init : goal.loop-index-init
loop-index-init c =
    let start : shapes_of c.push.new.self ≡ (shape c.args.form.now ∷ []) ∷ [] = search rules in
    record {
      means = subst (λ x. Means (shape c.args.form.now) [] x) (sym start) (means_start (shape c.args.form.now) (shape_lives c.args.form.now));
      some = λ (e : shapes_of c.push.new.self ≡ []). cc;
    }

pub returns-then-is_empty : goal.returns-then-is_empty
returns-then-is_empty c =
    let within : c.loop-index.index < length c.args.text.now = omega arith in
    let gone : rows_of c.advance.new.rows ≡ [] = search rules in
    column_within (shape c.args.form.now) c.args.text.now c.loop-index.index (shapes_of c.loop-index.rows) (shapes_of c.advance.new.rows) within
    c.loop-index.invariant.means c.loop-index.invariant.some
    (means_step (shape c.args.form.now) c.args.text.now c.loop-index.index (shapes_of c.loop-index.rows) (shapes_of c.advance.new.rows) within
    c.loop-index.invariant.means c.in_ok-advance.ensures)
    (ap (λ x. map (map shape) x) gone)

pub loop-index-preserved : goal.loop-index-preserved
loop-index-preserved c =
    let within : c.loop-index.index < length c.args.text.now = omega arith in
    record {
      means = means_step (shape c.args.form.now) c.args.text.now c.loop-index.index (shapes_of c.loop-index.rows) (shapes_of c.advance.new.rows) within
          c.loop-index.invariant.means c.in_ok-advance.ensures;
      some = λ (e : shapes_of c.advance.new.rows ≡ []). (let none : rows_of c.advance.new.rows ≡ [] = no_rows (rows_of c.advance.new.rows) e in search rules);
    }

pub returns-then-some_ends : goal.returns-then-some_ends
returns-then-some_ends c =
    let whole : take c.loop-index.index c.args.text.now ≡ c.args.text.now = take_all c.loop-index.index c.args.text.now (omega arith) in
    matches_from_end (shape c.args.form.now) c.args.text.now (shapes_of c.loop-index.rows)
    (subst (λ x. Means (shape c.args.form.now) x (shapes_of c.loop-index.rows)) whole c.loop-index.invariant.means) (sym c.some_ends.ensures ∙ c.if-some_ends.true)

pub returns-else-some_ends : goal.returns-else-some_ends
returns-else-some_ends c =
    let whole : take c.loop-index.index c.args.text.now ≡ c.args.text.now = take_all c.loop-index.index c.args.text.now (omega arith) in
    column_behind (shape c.args.form.now) c.args.text.now (shapes_of c.loop-index.rows)
    (subst (λ x. Means (shape c.args.form.now) x (shapes_of c.loop-index.rows)) whole c.loop-index.invariant.means)
    c.loop-index.invariant.some (sym c.some_ends.ensures ∙ c.if-some_ends.false)
