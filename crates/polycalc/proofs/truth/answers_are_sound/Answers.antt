use Rattle.soundness.proofs.TextCases.{text_laws}
use Rattle.polycalc.proofs.SoundRuns.{answers_sound}
use Rattle.polycalc.proofs.truth.answers_are_sound.Goals as goal

pub returns : goal.returns
returns c = answers_sound (record {
  texts = text_laws c.variables_are_listed.ensures;
  poly = record { pair = c.kept_is_pair.ensures; empty = c.kept_is_empty.ensures; cons = c.constraints_are_read_back.ensures; gens = c.generators_are_read_back.ensures; witness = c.generator_is_witness.ensures; widening = c.widening_includes.ensures };
  unions = record { join = c.join_is_union.ensures; meet = c.pair_meet_is_intersection.ensures };
  ranking = c.printed_function_ranks.ensures;
})
