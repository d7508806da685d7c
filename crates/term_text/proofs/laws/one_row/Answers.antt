use Rattle.term_text.proofs.Unique.{one_expr_row, one_frac_row, one_con_row, one_point_row}
use Rattle.term_text.proofs.laws.one_row.Goals as goal

pub returns-clause-expr : goal.returns-clause-expr
returns-clause-expr c = one_expr_row

pub returns-clause-frac : goal.returns-clause-frac
returns-clause-frac c = one_frac_row

pub returns-clause-con : goal.returns-clause-con
returns-clause-con c = one_con_row

pub returns-clause-point : goal.returns-clause-point
returns-clause-point c = one_point_row
