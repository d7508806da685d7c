use Rattle.sat_matrix.proofs.TableLemmas.{narrower, zeros_told}
use Rattle.sat_matrix.proofs.zeros.mark_zeros.Goals as goal

pub returns-clause-column : goal.returns-clause-column
returns-clause-column c = λ before wide. zeros_told c.args.values.now before c.args.zeros.now c.mark_last.new.self wide (narrower before c.args.zeros.now wide c.columns-columns.ensures.rectangular) c.requires.as_many c.mark_last.ensures

pub returns-clause-kept : goal.returns-clause-kept
returns-clause-kept c = c.mark_last.ensures.large
