use Rattle.std.proofs.Common.{inl, refl, arith}
use Rattle.cover_search.specs.Pieces.{ended}
use Rattle.cover_search.proofs.SplitLemmas.{goes_on_with}
use Rattle.std.proofs.lemmas.Result.{err_from_is_err_and}
use Rattle.cover_search.proofs.ConversionLemmas.{inner_counted}
use Rattle.cover_search.proofs.pieces.push_inner.Goals as goal

pub returns-then-piece-end-clause-part : goal.returns-then-piece-end-clause-part
returns-then-piece-end-clause-part g c = ended (omega arith)

pub returns-clause-part : goal.returns-clause-part
returns-clause-part g c = goes_on_with c.args.walls.now c.args.piece c.in_ok-inner.inner c.args.pending.now.items c.push.new.self.items c.in_ok-inner.ensures.part (omega arith) c.in_ok-push.ensures.items

pub returns-then-piece-end-clause-conversion : goal.returns-then-piece-end-clause-conversion
returns-then-piece-end-clause-conversion g c = inl (refl, refl)

pub returns-in_err-inner-clause-conversion : goal.returns-in_err-inner-clause-conversion
returns-in_err-inner-clause-conversion g c = let p = err_from_is_err_and c.from_residual.result c.from_residual.ensures.1 in rw (p.1, p.2) (omega arith, c.in_err-inner.ensures.conversion)

pub returns-in_err-push-clause-conversion : goal.returns-in_err-push-clause-conversion
returns-in_err-push-clause-conversion g c = let p = err_from_is_err_and c.from_residual-in_err-push.result c.from_residual-in_err-push.ensures.1 in rw (p.1, p.2) (omega arith, c.in_ok-inner.ensures.conversion)

pub returns-clause-conversion : goal.returns-clause-conversion
returns-clause-conversion g c = inner_counted c.args.walls.now c.args.piece c.in_ok-inner.inner c.args.pending.now.items c.push.new.self.items _ _ c.in_ok-inner.ensures.part (omega arith) c.in_ok-push.ensures.items c.in_ok-inner.ensures.conversion
