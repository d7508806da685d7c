use Rattle.std.proofs.Common.{◌<◌, inl, inr, length, refl, arith}
use Rattle.cover_search.specs.Pieces.{within, inner_alone}
use Rattle.cover_search.proofs.SplitLemmas.{split_outside, no_inner, no_outer}
use Rattle.std.proofs.lemmas.Result.{err_from_is_err_and}
use Rattle.cover_search.proofs.ConversionLemmas.{outer_counted}
use Rattle.cover_search.proofs.pieces.split.Goals as goal

pub returns-then-piece-len-clause-parts : goal.returns-then-piece-len-clause-parts
returns-then-piece-len-clause-parts g c = within (omega arith)

pub returns-then-is_outside-clause-parts : goal.returns-then-is_outside-clause-parts
returns-then-is_outside-clause-parts g c =
    let below : c.args.piece.row < length c.args.walls.now.list = omega arith in
    split_outside c.args.walls.now c.args.piece c.args.pending.now.items c.push_outer.new.pending.items below (no_inner c.args.walls.now c.args.piece c.requires.inequalities below (c.if-is_outside.ensures refl)) c.in_ok-push_outer.ensures.part

pub returns-then-is_inside-clause-parts : goal.returns-then-is_inside-clause-parts
returns-then-is_inside-clause-parts g c =
    let below : c.args.piece.row < length c.args.walls.now.list = omega arith in
    inner_alone below (no_outer c.args.walls.now c.args.piece c.requires.inequalities below (c.if-is_inside.ensures refl)) c.in_ok-push_inner.ensures.part

pub returns-in_err-push_inner-clause-parts : goal.returns-in_err-push_inner-clause-parts
returns-in_err-push_inner-clause-parts g c = let p = err_from_is_err_and c.from_residual-in_err-push_inner.result c.from_residual-in_err-push_inner.ensures.1 in rw p.1 tt

pub returns-in_err-push_outer-clause-parts : goal.returns-in_err-push_outer-clause-parts
returns-in_err-push_outer-clause-parts g c = let p = err_from_is_err_and c.from_residual.result c.from_residual.ensures.1 in rw p.1 tt

pub returns-then-piece-len-clause-conversion : goal.returns-then-piece-len-clause-conversion
returns-then-piece-len-clause-conversion g c = inl (inl (refl, refl))

pub returns-in_err-push_outer-clause-conversion : goal.returns-in_err-push_outer-clause-conversion
returns-in_err-push_outer-clause-conversion g c =
    let below : c.args.piece.row < length c.args.walls.now.list = omega arith in
    let p = err_from_is_err_and c.from_residual.result c.from_residual.ensures.1 in
    rw (p.1, p.2) (inr (inl (below, c.in_err-push_outer.ensures.conversion)))

pub returns-then-is_outside-clause-conversion : goal.returns-then-is_outside-clause-conversion
returns-then-is_outside-clause-conversion g c =
    let below : c.args.piece.row < length c.args.walls.now.list = omega arith in
    outer_counted c.args.walls.now c.args.piece below c.args.pending.now.items _ _ _ c.args.pending.now.items c.push_outer.new.pending.items (inl (refl, refl)) c.in_ok-push_outer.ensures.part c.in_ok-push_outer.ensures.conversion

pub returns-in_err-push_inner-clause-conversion : goal.returns-in_err-push_inner-clause-conversion
returns-in_err-push_inner-clause-conversion g c =
    let h = c.in_err-push_inner.ensures.conversion in
    let p = err_from_is_err_and c.from_residual-in_err-push_inner.result c.from_residual-in_err-push_inner.ensures.1 in
    rw (p.1, p.2) (inr (inr (h.0, inl h.1)))

pub returns-then-is_inside-clause-conversion : goal.returns-then-is_inside-clause-conversion
returns-then-is_inside-clause-conversion g c = inl c.in_ok-push_inner.ensures.conversion
