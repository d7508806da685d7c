use Rattle.std.proofs.Common.{◌≡◌, rules}
use Rattle.term_text.specs.Terms.{AreWithin}
use Rattle.term_text.specs.Reading.{ended}
use Rattle.term_text.specs.declared.terms.ValueErr.TheVariants.{OutOfRange}
use Rattle.term_text.proofs.scan.State.push.Goals as goal

pub returns-in_err-turn-in-61-clause-sum : goal.returns-in_err-turn-in-61-clause-sum
returns-in_err-turn-in-61-clause-sum c =
    let refused : (c.in_err-turn-in-61.field-0.0 ≡ OutOfRange) × ¬ (AreWithin c.args.sum.now.dim (ended c.args.self.now c.args.byte)) = rw c.in-61.is c.in_err-turn-in-61.ensures.sum in
    search rules
