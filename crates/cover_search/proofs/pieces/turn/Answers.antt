use Rattle.std.proofs.Common.{◌≡◌, ◌∙◌, inl, inr, Some, refl, sym, ap, rules, arith, subst}
use Rattle.std.specs.Prelude.{slice_get}
use Rattle.std.proofs.lemmas.Option.{slice_get-get_or}
use Rattle.row_core.specs.Refusals.{IsOverflowIn}
use Rattle.cover_search.specs.Pieces.{LeavesInTurn}
use Rattle.cover_search.proofs.TurnLemmas.{next_leaves}
use Rattle.std.proofs.lemmas.Result.{err_from_is_err_and}
use Rattle.cover_search.specs.Inequalities.{AreInequalities}
use Rattle.cover_search.proofs.pieces.turn.Goals as goal

pub returns-in_err-split-clause-overflow : goal.returns-in_err-split-clause-overflow
returns-in_err-split-clause-overflow g c =
    let rows = c.index-systems-passed.result in
    let at : slice_get c.args.systems.now c.args.piece.passed ≡ Some rows = slice_get-get_or c.args.systems.now c.args.piece.passed rows (omega arith) ∙ ap Some (sym c.index-systems-passed.is) in
    let known : IsOverflowIn (LeavesInTurn c.args.systems.now c.args.piece) c.in_err-split.field-0.0 = next_leaves c.args.systems.now c.args.piece rows c.in_err-split.field-0.0 at c.in_err-split.ensures.overflow in
    search (rules, known, c.from_residual-in_err-split.ensures)

pub returns-clause-turn : goal.returns-clause-turn
returns-clause-turn g c =
    let rows = c.index-systems-passed.result in
    let at : slice_get c.args.systems.now c.args.piece.passed ≡ Some rows = slice_get-get_or c.args.systems.now c.args.piece.passed rows (omega arith) ∙ ap Some (sym c.index-systems-passed.is) in
    inr (rows, at, c.in_ok-split.ensures.parts)

pub returns-in_err-point-clause-turn : goal.returns-in_err-point-clause-turn
returns-in_err-point-clause-turn g c = let p = err_from_is_err_and c.from_residual.result c.from_residual.ensures.1 in rw p.1 tt

pub returns-in_err-split-clause-turn : goal.returns-in_err-split-clause-turn
returns-in_err-split-clause-turn g c = let p = err_from_is_err_and c.from_residual-in_err-split.result c.from_residual-in_err-split.ensures.1 in rw p.1 tt

pub returns-in-None-clause-turn : goal.returns-in-None-clause-turn
returns-in-None-clause-turn g c = inl (inl (rw c.in-None.is at c.in_ok-point.ensures), refl)

pub returns-then-piece-systems-clause-turn : goal.returns-then-piece-systems-clause-turn
returns-then-piece-systems-clause-turn g c = record { all = c.if-piece-systems.true; point = rw c.in-Some.is at c.in_ok-point.ensures }

pub returns-then-lies_in_some-clause-turn : goal.returns-then-lies_in_some-clause-turn
returns-then-lies_in_some-clause-turn g c = inl (inr (c.lies_in_some.ensures c.if-lies_in_some.true), refl)

pub split-requires-clause-row : goal.split-requires-clause-row
split-requires-clause-row g c =
    let rows = c.index-systems-passed.result in
    c.requires.within.row rows (slice_get-get_or c.args.systems.now c.args.piece.passed rows (omega arith) ∙ ap Some (sym c.index-systems-passed.is))

pub split-requires-clause-inequalities : goal.split-requires-clause-inequalities
split-requires-clause-inequalities g c = subst AreInequalities (sym c.index-systems-passed.is) (c.requires.inequalities c.args.piece.passed c.index-systems-passed.result (omega arith))

pub returns-in_err-point-clause-conversion : goal.returns-in_err-point-clause-conversion
returns-in_err-point-clause-conversion g c = let p = err_from_is_err_and c.from_residual.result c.from_residual.ensures.1 in rw (p.1, p.2) (inl (refl, refl))

pub returns-in-None-clause-conversion : goal.returns-in-None-clause-conversion
returns-in-None-clause-conversion g c = inl (refl, refl)

pub returns-then-lies_in_some-clause-conversion : goal.returns-then-lies_in_some-clause-conversion
returns-then-lies_in_some-clause-conversion g c = inl (refl, refl)

pub returns-in_err-split-clause-conversion : goal.returns-in_err-split-clause-conversion
returns-in_err-split-clause-conversion g c =
    let rows = c.index-systems-passed.result in
    let at : slice_get c.args.systems.now c.args.piece.passed ≡ Some rows = slice_get-get_or c.args.systems.now c.args.piece.passed rows (omega arith) ∙ ap Some (sym c.index-systems-passed.is) in
    let p = err_from_is_err_and c.from_residual-in_err-split.result c.from_residual-in_err-split.ensures.1 in
    rw (p.1, p.2) (inr (record { point = c.in-Some.point; within = rw c.in-Some.is at c.in_ok-point.ensures; rows = rows; at = at; split = c.in_err-split.ensures.conversion }))

pub returns-clause-conversion : goal.returns-clause-conversion
returns-clause-conversion g c =
    let rows = c.index-systems-passed.result in
    let at : slice_get c.args.systems.now c.args.piece.passed ≡ Some rows = slice_get-get_or c.args.systems.now c.args.piece.passed rows (omega arith) ∙ ap Some (sym c.index-systems-passed.is) in
    inr (record { point = c.in-Some.point; within = rw c.in-Some.is at c.in_ok-point.ensures; rows = rows; at = at; split = c.in_ok-split.ensures.conversion })
