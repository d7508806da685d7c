use Rattle.std.proofs.Common.{◌≡◌, ◌<◌, ◌≤◌, ℕ, List, length, Option, Some, Err, IsTrue, ◌↔◌, sym, ap, subst, arith}
use Rattle.std.specs.Option.{option_copied}
use Rattle.trans_sys.specs.Systems.{TransitionSystem}
use Rattle.name_table.specs.Table.{HasNoRoomForAll}
use Rattle.line_values.specs.Meaning.{on_one}
use Rattle.line_values.specs.Performed.{IsPerformed}
use Rattle.line_values.proofs.PerformedLemmas.{not_so, leaves}
use Rattle.fixpoint.specs.Commands.{fixpoint}
use Rattle.fixpoint.proofs.CommandLemmas.{run_passes}
use Rattle.fixpoint.proofs.commands.fixpoint.Goals as goal

pub returns-in-Err : goal.returns-in-Err
returns-in-Err g c =
    let s : TransitionSystem = c.in-Some.system.now in
    let at = subst (λ (w : List ℕ). IsTrue c.in_ok-has_no_room_for_all.field-0 ↔ HasNoRoomForAll c.args.names.now w c.locs.result) c.bytes.ensures c.in_ok-has_no_room_for_all.ensures in
    let room = not_so c.in_ok-has_no_room_for_all.field-0 (HasNoRoomForAll c.args.names.now c.args.prefix.now (length s.initial)) (subst (λ (n : ℕ). IsTrue c.in_ok-has_no_room_for_all.field-0 ↔ HasNoRoomForAll c.args.names.now c.args.prefix.now n) c.locs.ensures.value at) c.if-branch.false in
    let short : c.args.delay ≤ 1000000 = c.if-is_too_long.ensures in
    let passes = run_passes c.args.names.now c.args.delay c.args.prefix.now s (λ (k : 1000000 < c.args.delay). omega (arith, k, short)) room in
    let found : option_copied c.args.system ≡ Some s = ap option_copied c.in-Some.is in
    subst (λ (o : Option TransitionSystem). IsPerformed (on_one o (fixpoint c.args.names.now c.args.delay c.args.prefix.now)) (Err c.from.result)) (sym found)
    (rw c.from.ensures (leaves (fixpoint c.args.names.now c.args.delay c.args.prefix.now s) c.in-Err.cause passes c.in-Err.ensures.overflow))
