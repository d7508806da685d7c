use Rattle.std.proofs.Common.{◌≡◌, ◌<◌, ℕ, false, List, length, replicate, arith, ap, sym, subst, ◌∙◌}
use Rattle.std.proofs.lemmas.Result.{IfOk-from_err}
use Rattle.sat_bits.specs.Places.{place}
use Rattle.sat_matrix.proofs.BitRows.{bit_seen, true_within}
use Rattle.sat_matrix.proofs.Columns.{IsTurned, none_turned, one_turned, turned_whole}
use Rattle.sat_matrix.proofs.matrix.SatMatrix.transpose.Goals as goal

pub loop-row-preserved : goal.loop-row-preserved
loop-row-preserved c =
    let within : c.loop-row.row < length c.args.self.now.rows = omega arith in
    one_turned c.args.self.now c.loop-row.turned c.mark_column.new.self c.loop-row.row c.row.result.now c.loop-row.invariant c.mark_column.ensures
    (λ i h. ap (λ (r : List ℕ). place r i) c.row.ensures.value ∙ bit_seen c.self.inside.columns c.self.inside.words c.args.self.now c.loop-row.row i c.self.view_is within h)

pub returns : goal.returns
returns c =
    let all : c.loop-row.row ≡ length c.args.self.now.rows = omega arith in
    turned_whole c.args.self.now c.loop-row.turned c.columns-columns.ensures.rectangular (subst (λ (k : ℕ). IsTurned c.args.self.now c.loop-row.turned k) all c.loop-row.invariant)

pub loop-row-init : goal.loop-row-init
loop-row-init c =
    let wide : c.columns.result ≡ c.args.self.now.columns = c.columns.ensures.value in
    let high : c.len.result ≡ length c.args.self.now.rows = c.len.ensures in
    none_turned c.args.self.now c.in_ok-turned.turned (c.in_ok-turned.ensures.columns ∙ high) (c.in_ok-turned.ensures.rows ∙ ap (λ (n : ℕ). replicate c.columns.result (replicate n false)) high ∙ ap (λ (n : ℕ). replicate n (replicate (length c.args.self.now.rows) false)) wide) c.in_ok-turned.ensures.spare

pub mark_column-requires : goal.mark_column-requires
mark_column-requires c =
    let within : c.loop-row.row < length c.args.self.now.rows = omega (arith, c.loop-row-test.true, c.len-row-end.ensures) in
    record {
      column = omega (arith, within, c.loop-row.invariant.columns);
      within = λ i t. rw c.loop-row.invariant.count (true_within c.self.inside.columns c.self.inside.words c.args.self.now c.loop-row.row i c.self.invariant c.self.view_is within (ap (λ (r : List ℕ). place r i) (sym c.row.ensures.value) ∙ t));
    }

pub returns-in_err-turned : goal.returns-in_err-turned
returns-in_err-turned c = IfOk-from_err c.from_residual.result _ c.from_residual.ensures.0
