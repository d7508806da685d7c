use Rattle.std.specs.Prelude.{◌<◌, ℕ, true, false, length, replicate, refl}
use Rattle.std.proofs.Common.{sym, subst, arith}
use Rattle.std.proofs.lemmas.List.{get_or-replicate}
use Rattle.sat_matrix.proofs.TableLemmas.{IsColumnUpto, column_start, column_more, column_end, narrower, widened_count, last_of, large_set}
use Rattle.sat_matrix.proofs.zeros.fill_column.Goals as goal

pub loop-row-init : goal.loop-row-init
loop-row-init c = record {
  column = λ before wide.
      let P : ℕ → Type 0 = λ last. IsColumnUpto (replicate (length before.rows) true) before c.args.zeros.now last 0 in
      subst P (sym (last_of before c.args.zeros.now _ wide c.columns-last.ensures.value)) (column_start (replicate (length before.rows) true) before c.args.zeros.now wide);
  kept = record { columns = refl; as_many = refl; spare = refl };
}

pub loop-row-preserved : goal.loop-row-preserved
loop-row-preserved c = record {
  column = λ before wide.
      let inside : c.loop-row.row < length before.rows = omega (arith, widened_count before c.args.zeros.now wide) in
      column_more (replicate (length before.rows) true) before c.loop-row.zeros c.set.new.self _ c.loop-row.row true (narrower before c.args.zeros.now wide c.columns-last.ensures.rectangular) (last_of before c.args.zeros.now _ wide c.columns-last.ensures.value) inside
      (sym (get_or-replicate (length before.rows) c.loop-row.row true false inside)) (c.loop-row.invariant.column before wide) c.set.ensures;
  kept = large_set c.args.zeros.now c.loop-row.zeros c.set.new.self c.loop-row.row _ c.loop-row.invariant.kept c.set.ensures;
}

pub returns-clause-column : goal.returns-clause-column
returns-clause-column c = λ before wide.
    let P : ℕ → Type 0 = λ last. IsColumnUpto (replicate (length before.rows) true) before c.loop-row.zeros last c.loop-row.row in
    column_end (replicate (length before.rows) true) before c.loop-row.zeros c.loop-row.row (omega (arith, widened_count before c.args.zeros.now wide)) (subst P (last_of before c.args.zeros.now _ wide c.columns-last.ensures.value) (c.loop-row.invariant.column before wide))

pub set-requires-clause-row : goal.set-requires-clause-row
set-requires-clause-row c = omega (arith, c.loop-row.invariant.kept.as_many)

pub set-requires-clause-column : goal.set-requires-clause-column
set-requires-clause-column c = omega (arith, c.requires, c.columns-last.ensures.value, c.loop-row.invariant.kept.columns)
