use Rattle.cdd_text.proofs.ReadBackLaws.{generators_back, generators_pass}
use Rattle.cdd_text.proofs.laws.generators_are_read_back.Goals as goal

pub returns : goal.returns
returns c = λ gs fit small few closed some. (generators_back gs fit small few closed some, λ linear. generators_pass gs fit small few closed linear)
