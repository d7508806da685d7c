use Rattle.run_laws.proofs.OneSet.{one_entry}
use Rattle.run_laws.proofs.SetLaws.{as_commanded}
use Rattle.run_laws.proofs.laws.sets_are_as_commanded.Goals as goal

pub returns-clause-sets : goal.returns-clause-sets
returns-clause-sets c = as_commanded c.names_stay_distinct.ensures.step c.names_stay_distinct.ensures.empty (record {
  cons = c.one_answer.ensures.cons;
  gens = c.one_answer.ensures.gens;
  frac = c.one_answer.ensures.frac;
  stored = c.stored_is_unique.ensures;
  pair = c.kept_is_pair.ensures;
  empty = c.kept_is_empty.ensures;
  joined = c.joined_sets_are_same.ensures;
  widening = c.one_widening.ensures;
  limit = c.one_limit.ensures;
  reach = c.one_reach.ensures;
  ine = c.one_answer-2.ensures.constraints;
  ext = c.one_answer-2.ensures.generators;
})

pub returns-clause-unique : goal.returns-clause-unique
returns-clause-unique c = one_entry (record {
  cons = c.one_answer.ensures.cons;
  gens = c.one_answer.ensures.gens;
  frac = c.one_answer.ensures.frac;
  stored = c.stored_is_unique.ensures;
  pair = c.kept_is_pair.ensures;
  empty = c.kept_is_empty.ensures;
  joined = c.joined_sets_are_same.ensures;
  widening = c.one_widening.ensures;
  limit = c.one_limit.ensures;
  reach = c.one_reach.ensures;
  ine = c.one_answer-2.ensures.constraints;
  ext = c.one_answer-2.ensures.generators;
})
