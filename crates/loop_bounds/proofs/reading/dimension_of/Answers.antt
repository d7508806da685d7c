use Rattle.std.proofs.Common.{rules, ℕ, Result, MatchResult, sym, subst, inr}
use Rattle.reply_text.specs.declared.faults.ReadErr.{ReadErr}
use Rattle.loop_bounds.specs.Reading.{IsDimension, IsDimensionFault, IsRefusedFor}
use Rattle.loop_bounds.proofs.ReadingLemmas.{dimension_read, wrong_number}
use Rattle.loop_bounds.proofs.reading.dimension_of.Goals as goal
use Rattle.loop_bounds.proofs.reading.dimension_of.Goals.{in_default-2, in_default}

pub returns-in-Ok : goal.returns-in-Ok
returns-in-Ok c = dimension_read c.args.part.now c.in_ok-row.row c.in-Ok.dim c.in_ok-row.ensures (search rules) (search rules)

pub returns : goal.returns
returns c = elim c.match-try_from.branch [
  | in_default-2 w ↦ subst (λ (r : Result ℕ ReadErr). MatchResult r (λ dim. IsDimension dim c.args.part.now) (IsRefusedFor (IsDimensionFault c.args.part.now))) (sym w.result-is) (wrong_number c.args.part.now c.in_ok-row.row c.in_ok-row.ensures (inr (search rules)))
  | in_default w ↦ subst (λ (r : Result ℕ ReadErr). MatchResult r (λ dim. IsDimension dim c.args.part.now) (IsRefusedFor (IsDimensionFault c.args.part.now))) (sym w.result-is) (wrong_number c.args.part.now c.in_ok-row.row c.in_ok-row.ensures (search rules))
]
