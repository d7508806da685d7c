use Rattle.std.proofs.Common.{rules}
use Rattle.cdd_reading.specs.Tokens.{tokens}
use Rattle.cdd_reading.proofs.Roles.{linearity_role}
use Rattle.cdd_reading.proofs.head.role_of_list.Goals as goal

pub returns-then-are_indices : goal.returns-then-are_indices
returns-then-are_indices c = linearity_role c.args.token.now (tokens c.args.behind.now) c.requires (search rules) (search rules)
