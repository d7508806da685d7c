use Rattle.std.proofs.Common.{◌<◌, ◌≤◌, ◌+◌, ℕ, List, [], ◌∷◌, ◌++◌, length, map, take, ap, sym, ◌∙◌, arith}
use Rattle.std.proofs.lemmas.List.{map_more, take_all}
use Rattle.std.proofs.lemmas.Result.{IfOk-from_err}
use Rattle.flat_rows.specs.Flat.{fitted}
use Rattle.flat_rows.proofs.words.widened.Goals as goal

pub returns-in_err-width : goal.returns-in_err-width
returns-in_err-width c =
    let err = c.from_residual.ensures.0 in
    record { width = IfOk-from_err c.from_residual.result _ err; rows = IfOk-from_err c.from_residual.result _ err; spare = IfOk-from_err c.from_residual.result _ err }

pub returns-in_err-reserve : goal.returns-in_err-reserve
returns-in_err-reserve c =
    let err = c.from_residual-in_err-reserve.ensures.0 in
    record { width = IfOk-from_err c.from_residual-in_err-reserve.result _ err; rows = IfOk-from_err c.from_residual-in_err-reserve.result _ err; spare = IfOk-from_err c.from_residual-in_err-reserve.result _ err }

pub push_fitted-requires : goal.push_fitted-requires
push_fitted-requires c = omega (arith, c.loop-i.invariant.spare, c.loop-i-test.true, c.len-i-end.ensures)

pub loop-i-preserved : goal.loop-i-preserved
loop-i-preserved c =
    let rows : List (List ℕ) = c.args.rows.now.rows in
    let i : ℕ = c.loop-i.i in
    let width : ℕ = c.loop-i.wider.width in
    let within : i < length rows = omega (arith, c.loop-i-test.true, c.len-i-end.ensures) in
    record {
      width = omega (arith, c.push_fitted.ensures.width, c.loop-i.invariant.width);
      rows = c.push_fitted.ensures.rows
          ∙ ap (λ (l : List (List ℕ)). l ++ fitted width 0 c.row.result.now ∷ []) c.loop-i.invariant.rows
          ∙ ap (λ (r : List ℕ). map (fitted width 0) (take i rows) ++ fitted width 0 r ∷ []) c.row.ensures.value
          ∙ sym (map_more (fitted width 0) rows i [] within)
          ∙ ap (λ (w : ℕ). map (fitted w 0) (take (i + 1) rows)) (sym c.push_fitted.ensures.width);
      spare = omega (arith, c.push_fitted.ensures.spare, c.loop-i.invariant.spare);
    }

pub returns : goal.returns
returns c =
    let all : length c.args.rows.now.rows ≤ c.loop-i.i = omega (arith, c.loop-i-test.false, c.len-i-end.ensures) in
    record {
      width = c.loop-i.invariant.width;
      rows = c.loop-i.invariant.rows ∙ ap (λ (l : List (List ℕ)). map (fitted c.loop-i.wider.width 0) l) (take_all c.loop-i.i c.args.rows.now.rows all);
      spare = omega (arith, c.loop-i.invariant.spare, all);
    }
