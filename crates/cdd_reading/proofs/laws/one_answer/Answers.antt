use Rattle.cdd_reading.proofs.OneAnswers.{ine_once, ext_once, fault_once, passes_or_fails}
use Rattle.cdd_reading.proofs.laws.one_answer.Goals as goal

pub returns-clause-constraints : goal.returns-clause-constraints
returns-clause-constraints c = ine_once

pub returns-clause-generators : goal.returns-clause-generators
returns-clause-generators c = ext_once

pub returns-clause-fault : goal.returns-clause-fault
returns-clause-fault c = fault_once

pub returns-clause-excludes : goal.returns-clause-excludes
returns-clause-excludes c = passes_or_fails
