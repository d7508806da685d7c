use Rattle.term_text.proofs.Unique.{one_expr, one_frac, one_con, one_cons, one_point}
use Rattle.term_text.proofs.laws.one_reading.Goals as goal

pub returns : goal.returns
returns c = record { expr = one_expr; frac = one_frac; con = one_con; cons = one_cons; point = one_point }
