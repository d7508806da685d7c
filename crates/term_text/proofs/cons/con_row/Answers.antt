use Rattle.std.proofs.Common.{◌∙◌, ℕ, subst}
use Rattle.std.proofs.lemmas.Result.{err_from_is_err_and}
use Rattle.term_text.specs.Terms.{AreWithin}
use Rattle.term_text.specs.Reading.{start, terms_read}
use Rattle.term_text.proofs.RowSums.{too_large}
use Rattle.term_text.proofs.cons.con_row.Goals as goal

pub scan-requires : goal.scan-requires
scan-requires c = c.in_ok-sum.ensures.1

pub returns-in_err-sum : goal.returns-in_err-sum
returns-in_err-sum c = let p = err_from_is_err_and c.from_residual.result c.from_residual.ensures.1 in rw (p.1, p.2, c.in_err-sum.ensures) tt

pub returns-in_err-state : goal.returns-in_err-state
returns-in_err-state c =
    let p = err_from_is_err_and c.from_residual-in_err-state.result c.from_residual-in_err-state.ensures.1 in
    rw (p.1, p.2, c.in_err-state.ensures.0) (subst (λ (d : ℕ). ¬ (AreWithin d (terms_read start c.args.text.now))) c.in_ok-sum.ensures.0 c.in_err-state.ensures.1)

pub returns-in_default : goal.returns-in_default
returns-in_default c = too_large c.args.dim (terms_read start c.args.text.now) c.scan.new.sum c.in_ok-state.ensures.0 (c.in_ok-state.ensures.1 ∙ c.in_ok-sum.ensures.0) c.in_default.ensures
