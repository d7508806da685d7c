use Rattle.cdd_reading.proofs.SlashCuts.{no_divisor, at_divisor}
use Rattle.cdd_reading.proofs.numbers.split_slash.Goals as goal

pub returns-in-None-clause-divisor : goal.returns-in-None-clause-divisor
returns-in-None-clause-divisor c = no_divisor c.args.token.now c.in-None.ensures

pub returns-in-Some-clause-divisor : goal.returns-in-Some-clause-divisor
returns-in-Some-clause-divisor c = at_divisor c.args.token.now c.in-Some.at c.in-Some.ensures
