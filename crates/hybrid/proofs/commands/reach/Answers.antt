use Rattle.std.proofs.Common.{◌≡◌, ◌∙◌, ◌<◌, ◌≤◌, ℕ, List, length, Option, Some, Err, IsTrue, ◌↔◌, sym, ap, subst, arith}
use Rattle.std.specs.Option.{option_copied}
use Rattle.trans_sys.specs.Systems.{TransitionSystem}
use Rattle.hybrid.specs.Systems.{HybridAutomaton}
use Rattle.name_table.specs.Table.{HasNoRoomForAll}
use Rattle.line_values.specs.Meaning.{on_one}
use Rattle.line_values.specs.Performed.{IsPerformed}
use Rattle.line_values.proofs.PerformedLemmas.{not_so, leaves}
use Rattle.hybrid.specs.Commands.{reach}
use Rattle.hybrid.proofs.CommandLemmas.{reach_passes}
use Rattle.hybrid.proofs.commands.reach.Goals as goal

pub returns-in-Err : goal.returns-in-Err
returns-in-Err g c =
    let h : HybridAutomaton = c.in-Some.h.now in
    let locations : c.locs.result ≡ length h.system.initial = c.locs.ensures.value ∙ ap (λ (s : TransitionSystem). length s.initial) c.system.ensures.value in
    let at = subst (λ (w : List ℕ). IsTrue c.in_ok-has_no_room_for_all.field-0 ↔ HasNoRoomForAll c.args.names.now w c.locs.result) c.bytes.ensures c.in_ok-has_no_room_for_all.ensures in
    let room = not_so c.in_ok-has_no_room_for_all.field-0 (HasNoRoomForAll c.args.names.now c.args.prefix.now (length h.system.initial)) (subst (λ (n : ℕ). IsTrue c.in_ok-has_no_room_for_all.field-0 ↔ HasNoRoomForAll c.args.names.now c.args.prefix.now n) locations at) c.if-branch.false in
    let short : c.args.delay ≤ 1000000 = c.if-is_too_long.ensures in
    let passes = reach_passes c.args.names.now c.args.delay c.args.prefix.now h (λ (k : 1000000 < c.args.delay). omega (arith, k, short)) room in
    let found : option_copied c.args.h ≡ Some h = ap option_copied c.in-Some.is in
    subst (λ (o : Option HybridAutomaton). IsPerformed (on_one o (reach c.args.names.now c.args.delay c.args.prefix.now)) (Err c.from.result)) (sym found)
    (rw c.from.ensures (leaves (reach c.args.names.now c.args.delay c.args.prefix.now h) c.in-Err.cause passes c.in-Err.ensures.overflow))
