use Rattle.std.specs.Prelude.{ℕ, List, ◌++◌, pos, get_or}
use Rattle.std.specs.Fmt.{signed_decimal}
use Rattle.std.specs.Int.{w128}
use Rattle.std.proofs.Common.{rules, ap, ◌∙◌}
use Rattle.std.proofs.lemmas.Int.{to_z-of_z}
use mir.Val.{SFits}
use Rattle.reply_text.proofs.JoinLemmas.{entry_appended, first_appended}
use Rattle.reply_text.proofs.printing.push_row.Goals as goal
use Rattle.reply_text.proofs.printing.push_row.Goals.{then-j-gt0+in_ok-push, else-j-gt0}

pub loop-j-preserved : goal.loop-j-preserved
loop-j-preserved c =
    let fits : SFits w128 (get_or c.args.row.now c.loop-j.j (pos 0)) = search rules in
    let pushed = simp to_z-of_z at c.in_ok-push_signed.ensures in
    elim c.if-j-gt0.branch [
      | then-j-gt0+in_ok-push w ↦ entry_appended c.args.row.now c.loop-j.j c.args.text.now c.loop-j.text c.if-j-gt0.text c.push_signed.new.self w.if-j-gt0.true c.loop-j-test.true c.loop-j.invariant (w.text-is ∙ w.in_ok-push.ensures) pushed
      | else-j-gt0 w ↦ first_appended c.args.row.now c.loop-j.j c.args.text.now c.loop-j.text c.push_signed.new.self w.if-j-gt0.false c.loop-j-test.true c.loop-j.invariant (pushed ∙ ap (λ (t : List ℕ). t ++ signed_decimal (get_or c.args.row.now c.loop-j.j (pos 0))) w.text-is)
    ]
