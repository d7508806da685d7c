use Rattle.std.proofs.Common.{◌+◌}
use Rattle.cdd_reading.proofs.FewTokens.{few_tokens}
use Rattle.cdd_reading.proofs.tokens.Tokens.behind_line.Goals as goal

pub returns-clause-few : goal.returns-clause-few
returns-clause-few c = few_tokens (c.args.number + 1) c.args.after.now
