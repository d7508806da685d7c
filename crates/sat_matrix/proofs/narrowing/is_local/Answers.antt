use Rattle.sat_matrix.proofs.Unions.{in_words}
use Rattle.sat_matrix.proofs.narrowing.is_local.Goals as goal

pub unite-requires-clause-outer : goal.unite-requires-clause-outer
unite-requires-clause-outer c = λ p inside. in_words c.args.search.now.zeros.now c.words.result.now c.words.ensures _ (c.requires.outer_rises.within p inside)
