use Rattle.cdd_reading.proofs.TokenCuts.{tokens-no_gap, tokens-at_gap}
use Rattle.cdd_reading.proofs.cuts.split_part.Goals as goal

pub returns-in-None-clause-parts : goal.returns-in-None-clause-parts
returns-in-None-clause-parts c = tokens-no_gap c.args.line.now c.in-None.ensures

pub returns-in-Some-clause-parts : goal.returns-in-Some-clause-parts
returns-in-Some-clause-parts c = tokens-at_gap c.args.line.now c.in-Some.at c.in-Some.ensures
