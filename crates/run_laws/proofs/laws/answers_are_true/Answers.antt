use Rattle.run_laws.proofs.TruthLaws.{answers_true}
use Rattle.run_laws.proofs.laws.answers_are_true.Goals as goal

pub returns : goal.returns
returns c =
    answers_true c.names_stay_distinct.ensures.step c.names_stay_distinct.ensures.empty (record { cons = c.constraints_are_read_back.ensures; gens = c.generators_are_read_back.ensures; pair = c.kept_is_pair.ensures; witness = c.generator_is_witness.ensures; ranking = c.printed_function_ranks.ensures })
