use Rattle.cdd_text.proofs.ReadBackLaws.{constraints_back, constraints_pass}
use Rattle.cdd_text.proofs.laws.constraints_are_read_back.Goals as goal

pub returns : goal.returns
returns c = λ cs fit small few strict. (constraints_back cs fit small few strict, λ linear. constraints_pass cs fit small few linear)
