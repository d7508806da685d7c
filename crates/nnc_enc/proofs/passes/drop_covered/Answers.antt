use Rattle.std.proofs.Common.{ℕ, length, refl, sym, ◌∙◌, subst, arith}
use Rattle.std.proofs.lemmas.Result.{err_from_is_err_and}
use Rattle.sat_matrix.specs.Tables.{bits_of}
use Rattle.nnc_enc.specs.Passes.{IsPassed}
use Rattle.nnc_enc.proofs.PassLemmas.{passed_of_more}
use Rattle.nnc_enc.proofs.passes.drop_covered.Goals as goal

pub drop_in_order-requires : goal.drop_in_order-requires
drop_in_order-requires c = record {
  level = omega (arith, c.in_ok-table.ensures.as_many, c.len.ensures);
  marks = c.requires.marks ∙ sym c.requires.keep;
  keep = omega (arith, c.in_ok-table.ensures.as_many, c.requires.keep);
}

pub returns-clause-passed : goal.returns-clause-passed
returns-clause-passed c =
    passed_of_more c.args.level.now c.args.marks.now c.args.sat.now.rows c.in_ok-table.table.rows c.in_ok-table.ensures c.requires.marks c.args.keep.now c.drop_in_order.new.keep
    (subst (λ (n : ℕ). IsPassed (bits_of c.in_ok-table.table.rows (length c.args.sat.now.rows)) c.args.marks.now c.in_ok-table.table.rows c.args.keep.now c.drop_in_order.new.keep n) c.requires.keep
    (subst (λ (k : ℕ). IsPassed (bits_of c.in_ok-table.table.rows k) c.args.marks.now c.in_ok-table.table.rows c.args.keep.now c.drop_in_order.new.keep (length c.args.keep.now)) c.len.ensures c.drop_in_order.ensures.passed))

pub returns-in_err-table : goal.returns-in_err-table
returns-in_err-table c = let p = err_from_is_err_and c.from_residual.result c.from_residual.ensures.1 in rw p.1 (record { length = refl; passed = tt })
