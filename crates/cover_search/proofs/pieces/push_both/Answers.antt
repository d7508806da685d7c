use Rattle.cover_search.proofs.SplitLemmas.{split_across}
use Rattle.std.proofs.Common.{◌∙◌, ◌++◌, ◌∷◌, [], inl, inr, refl, ap}
use Rattle.std.proofs.lemmas.Result.{err_from_is_err_and}
use Rattle.cover_search.specs.declared.pieces.Piece.{Piece}
use Rattle.cover_search.specs.Pieces.{outer_part}
use Rattle.cover_search.proofs.ConversionLemmas.{outer_of_same, outer_counted, outer_broken}
use Rattle.cover_search.proofs.pieces.push_both.Goals as goal

pub returns-clause-parts : goal.returns-clause-parts
returns-clause-parts g c = split_across c.args.walls.now c.args.piece c.in_ok-copy.copy c.args.pending.now.items c.push_inner.new.pending.items c.push_outer.new.pending.items c.requires.row c.in_ok-push_inner.ensures.part c.in_ok-copy.ensures c.in_ok-push_outer.ensures.part

pub returns-in_err-copy-clause-conversion : goal.returns-in_err-copy-clause-conversion
returns-in_err-copy-clause-conversion g c = let p = err_from_is_err_and c.from_residual.result c.from_residual.ensures.1 in rw (p.1, p.2) (inl (refl, refl))

pub returns-in_err-push_inner-clause-conversion : goal.returns-in_err-push_inner-clause-conversion
returns-in_err-push_inner-clause-conversion g c =
    let p = err_from_is_err_and c.from_residual-in_err-push_inner.result c.from_residual-in_err-push_inner.ensures.1 in
    let h = c.in_err-push_inner.ensures.conversion in
    rw (p.1, p.2) (inr (inr (h.0, inl h.1)))

pub returns-in_err-push_outer-clause-conversion : goal.returns-in_err-push_outer-clause-conversion
returns-in_err-push_outer-clause-conversion g c =
    let p = err_from_is_err_and c.from_residual-in_err-push_outer.result c.from_residual-in_err-push_outer.ensures.1 in
    let same = outer_of_same c.args.walls.now _ c.args.piece _ _ _ c.in_ok-copy.ensures c.in_err-push_outer.ensures.conversion in
    rw (p.1, p.2) (outer_broken c.args.walls.now c.args.piece c.requires.row c.args.pending.now.items _ _ _ c.push_inner.new.pending.items _ c.in_ok-push_inner.ensures.conversion same)

pub returns-clause-conversion : goal.returns-clause-conversion
returns-clause-conversion g c =
    let same = outer_of_same c.args.walls.now _ c.args.piece _ _ _ c.in_ok-copy.ensures c.in_ok-push_outer.ensures.conversion in
    outer_counted c.args.walls.now c.args.piece c.requires.row c.args.pending.now.items _ _ _ c.push_inner.new.pending.items c.push_outer.new.pending.items c.in_ok-push_inner.ensures.conversion
    (c.in_ok-push_outer.ensures.part ∙ ap (λ (p : Piece). c.push_inner.new.pending.items ++ outer_part c.args.walls.now p ∷ []) c.in_ok-copy.ensures) same
