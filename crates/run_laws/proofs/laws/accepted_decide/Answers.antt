use Rattle.run_laws.proofs.OneForm.{OneForm}
use Rattle.run_laws.proofs.AcceptedLaws.{accepted_decide}
use Rattle.run_laws.proofs.TruthLaws.{ReadBack}
use Rattle.run_laws.proofs.laws.accepted_decide.Goals as goal

pub returns : goal.returns
returns c =
    let form : OneForm = record {
      cons = c.one_answer.ensures.cons;
      gens = c.one_answer.ensures.gens;
      frac = c.one_answer.ensures.frac;
      stored = c.stored_is_unique.ensures;
      pair = c.kept_is_pair.ensures;
      empty = c.kept_is_empty.ensures;
      joined = c.joined_sets_are_same.ensures;
      widening = c.one_widening.ensures;
      limit = c.one_limit.ensures;
      reach = c.one_reach.ensures;
      ine = c.one_answer-2.ensures.constraints;
      ext = c.one_answer-2.ensures.generators;
    } in
    let read : ReadBack = record { cons = c.constraints_are_read_back.ensures; gens = c.generators_are_read_back.ensures; pair = c.kept_is_pair.ensures; witness = c.generator_is_witness.ensures; ranking = c.printed_function_ranks.ensures } in
    accepted_decide c.names_stay_distinct.ensures.step c.names_stay_distinct.ensures.empty (record { spells = c.one_command.ensures; point = c.one_answer.ensures.point; constraint = c.one_answer.ensures.con; expression = c.one_answer.ensures.expr; bound = c.one_sup.ensures; form = form }) read
