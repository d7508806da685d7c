use Rattle.std.proofs.Common.{◌∙◌}
use Rattle.std.proofs.lemmas.Result.{err_from_is_err_and}
use Rattle.row_core.proofs.RefusalLemmas.{overflow_weaker}
use Rattle.bd_shape.specs.Suprema.{IsFinding, LeavesInSuprema}
use Rattle.bd_shape.proofs.suprema.find_row.Goals as goal

pub loop-j-preserved : goal.loop-j-preserved
loop-j-preserved c = record { places = c.in_ok-find.ensures.places ∙ c.loop-j.invariant.places; finding = λ f. c.in_ok-find.ensures.found (c.loop-j.invariant.finding f) }

pub returns-in_err-find : goal.returns-in_err-find
returns-in_err-find c = let p = err_from_is_err_and c.from_residual.result c.from_residual.ensures.1 in rw (p.1, p.2) (record { places = c.in_err-find.ensures.places ∙ c.loop-j.invariant.places; found = tt; overflow = overflow_weaker (λ over. IsFinding c.args.p.now c.loop-j.bounds c.args.i c.loop-j.j → LeavesInSuprema c.args.p.now over) (λ over. IsFinding c.args.p.now c.args.bounds.now c.args.i 0 → LeavesInSuprema c.args.p.now over) (λ over h f. h (c.loop-j.invariant.finding f)) _ c.in_err-find.ensures.overflow })
