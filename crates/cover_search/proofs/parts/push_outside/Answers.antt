use Rattle.std.proofs.lemmas.Result.{err_from_is_err_and}
use Rattle.cover_search.proofs.parts.push_outside.Goals as goal

pub returns-clause-part : goal.returns-clause-part
returns-clause-part g c = record {
  part = record { region = c.in_ok-region.region; met = c.in_ok-met.met };
  cut = c.in_ok-region.ensures.region;
  same = c.in_ok-met.ensures.items;
  joined = c.in_ok-push.ensures.items;
}

pub returns-in_err-region-clause-conversion : goal.returns-in_err-region-clause-conversion
returns-in_err-region-clause-conversion g c = let p = err_from_is_err_and c.from_residual.result c.from_residual.ensures.1 in rw (p.1, p.2) c.in_err-region.ensures.conversion

pub returns-in_err-met-clause-conversion : goal.returns-in_err-met-clause-conversion
returns-in_err-met-clause-conversion g c = let p = err_from_is_err_and c.from_residual-in_err-met.result c.from_residual-in_err-met.ensures.1 in rw (p.1, p.2) c.in_ok-region.ensures.conversion

pub returns-in_err-push-clause-conversion : goal.returns-in_err-push-clause-conversion
returns-in_err-push-clause-conversion g c = let p = err_from_is_err_and c.from_residual-in_err-push.result c.from_residual-in_err-push.ensures.1 in rw (p.1, p.2) c.in_ok-region.ensures.conversion

pub returns-clause-conversion : goal.returns-clause-conversion
returns-clause-conversion g c = c.in_ok-region.ensures.conversion
