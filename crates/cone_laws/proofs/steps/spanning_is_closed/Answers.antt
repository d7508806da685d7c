use Rattle.cone_laws.proofs.Spanning.{sum_is_spanned, multiple_is_spanned, spans_of_spanned, at_least_zero_on_spanned}
use Rattle.cone_laws.proofs.steps.spanning_is_closed.Goals as goal

pub returns : goal.returns
returns c = record { sum = sum_is_spanned; multiple = multiple_is_spanned; through = spans_of_spanned; at_least_zero = at_least_zero_on_spanned }
