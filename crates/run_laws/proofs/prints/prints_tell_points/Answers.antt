use Rattle.run_laws.proofs.UniquePrints.{prints_tell_points}
use Rattle.run_laws.proofs.prints.prints_tell_points.Goals as goal

pub returns : goal.returns
returns c = prints_tell_points (record {
  unique = c.stored_is_unique.ensures;
  closed = c.stored_is_closed.ensures;
  pair = c.kept_is_pair.ensures;
  cons = c.constraints_are_read_back.ensures;
  gens = c.generators_are_read_back.ensures;
})
