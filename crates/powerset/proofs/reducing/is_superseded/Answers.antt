use Rattle.std.proofs.Common.{◌≡◌, inl, inr, Bool, MatchBool, slice_get, Some, refl, subst, rules, arith, ltb}
use Rattle.std.specs.Prelude.{IsTrue}
use Rattle.std.proofs.lemmas.Option.{slice_get_read}
use Rattle.row_core.specs.Refusals.{IsOverflowIn}
use Rattle.powerset.specs.Reductions.{Supersedes, LeavesAt}
use Rattle.powerset.proofs.ReductionLemmas.{is_superseded_by, none_more, not_by, not_superseded, stops_at, decided_by, decided_more, asking_leaves}
use Rattle.powerset.proofs.reducing.is_superseded.Goals.{then-other-index+in_ok-superseded+else-superseded, else-other-index}
use Rattle.powerset.proofs.reducing.is_superseded.Goals as goal

pub returns-in_err-superseded-clause-overflow : goal.returns-in_err-superseded-clause-overflow
returns-in_err-superseded-clause-overflow c =
    let members = c.args.members.now in
    let at_one : slice_get members c.args.index ≡ Some c.index-members-index.result = slice_get_read members _ c.args.index c.index-members-index.result refl c.requires.index c.index-members-index.is in
    let at_other : slice_get members c.loop-other.other ≡ Some c.index-members-other.result = slice_get_read members _ c.loop-other.other c.index-members-other.result refl (omega arith) c.index-members-other.is in
    let known : IsOverflowIn (LeavesAt members c.args.index) c.in_err-superseded.field-0.0 = asking_leaves members c.args.index c.loop-other.other c.index-members-index.result c.index-members-other.result c.in_err-superseded.field-0.0 at_one at_other c.if-other-index.true c.loop-other.invariant.decided c.in_err-superseded.ensures.overflow in
    search (rules, known, c.from_residual.ensures)

pub returns-then-superseded-clause-answer : goal.returns-then-superseded-clause-answer
returns-then-superseded-clause-answer c p at =
    let members = c.args.members.now in
    let at_one : slice_get members c.args.index ≡ Some c.index-members-index.result = slice_get_read members _ c.args.index c.index-members-index.result refl c.requires.index c.index-members-index.is in
    let at_other : slice_get members c.loop-other.other ≡ Some c.index-members-other.result = slice_get_read members _ c.loop-other.other c.index-members-other.result refl (omega arith) c.index-members-other.is in
    let test = λ (b : Bool). MatchBool b (Supersedes c.index-members-index.result c.index-members-other.result (IsTrue (ltb c.loop-other.other c.args.index))) (¬ (Supersedes c.index-members-index.result c.index-members-other.result (IsTrue (ltb c.loop-other.other c.args.index)))) in
    is_superseded_by members c.args.index c.loop-other.other c.index-members-index.result c.index-members-other.result p at_one at_other c.if-other-index.true (subst test c.if-superseded.true c.in_ok-superseded.ensures.answer) at

pub returns-then-superseded-clause-asked : goal.returns-then-superseded-clause-asked
returns-then-superseded-clause-asked c p at =
    let members = c.args.members.now in
    let at_one : slice_get members c.args.index ≡ Some c.index-members-index.result = slice_get_read members _ c.args.index c.index-members-index.result refl c.requires.index c.index-members-index.is in
    let at_other : slice_get members c.loop-other.other ≡ Some c.index-members-other.result = slice_get_read members _ c.loop-other.other c.index-members-other.result refl (omega arith) c.index-members-other.is in
    let test = λ (b : Bool). MatchBool b (Supersedes c.index-members-index.result c.index-members-other.result (IsTrue (ltb c.loop-other.other c.args.index))) (¬ (Supersedes c.index-members-index.result c.index-members-other.result (IsTrue (ltb c.loop-other.other c.args.index)))) in
    record {
      upto = c.loop-other.other;
      decided = c.loop-other.invariant.decided p at;
      ends = inr (inl (stops_at members c.args.index c.loop-other.other c.index-members-index.result c.index-members-other.result p at_one at_other (subst test c.if-superseded.true c.in_ok-superseded.ensures.answer) at));
    }

pub loop-other-preserved : goal.loop-other-preserved
loop-other-preserved c = record {
  none = none_more c.args.members.now c.args.index c.loop-other.other c.loop-other.invariant.none (elim c.if-other-index.branch [
    | then-other-index+in_ok-superseded+else-superseded w ↦ λ ne p q at_p at_q.
        let members = c.args.members.now in
        let at_one : slice_get members c.args.index ≡ Some w.index-members-index.result = slice_get_read members _ c.args.index w.index-members-index.result refl c.requires.index w.index-members-index.is in
        let at_other : slice_get members c.loop-other.other ≡ Some w.index-members-other.result = slice_get_read members _ c.loop-other.other w.index-members-other.result refl (omega arith) w.index-members-other.is in
        let test = λ (b : Bool). MatchBool b (Supersedes w.index-members-index.result w.index-members-other.result (IsTrue (ltb c.loop-other.other c.args.index))) (¬ (Supersedes w.index-members-index.result w.index-members-other.result (IsTrue (ltb c.loop-other.other c.args.index)))) in
        not_by members c.args.index c.loop-other.other w.index-members-index.result w.index-members-other.result p q at_one at_other (subst test w.if-superseded.false w.in_ok-superseded.ensures.answer) at_p at_q
    | else-other-index w ↦ λ ne p q at_p at_q. absurd (ne w.if-other-index.false)
  ]);
  decided = decided_more c.args.members.now c.args.index c.loop-other.other c.loop-other.invariant.decided (elim c.if-other-index.branch [
    | then-other-index+in_ok-superseded+else-superseded w ↦ λ ne p q at_p at_q.
        let members = c.args.members.now in
        let at_one : slice_get members c.args.index ≡ Some w.index-members-index.result = slice_get_read members _ c.args.index w.index-members-index.result refl c.requires.index w.index-members-index.is in
        let at_other : slice_get members c.loop-other.other ≡ Some w.index-members-other.result = slice_get_read members _ c.loop-other.other w.index-members-other.result refl (omega arith) w.index-members-other.is in
        decided_by members c.args.index c.loop-other.other w.index-members-index.result w.index-members-other.result p q at_one at_other w.in_ok-superseded.ensures.decided at_p at_q
    | else-other-index w ↦ λ ne p q at_p at_q. absurd (ne w.if-other-index.false)
  ]);
}

pub returns-clause-answer : goal.returns-clause-answer
returns-clause-answer c p at = not_superseded c.args.members.now c.args.index c.loop-other.other p (omega arith) c.loop-other.invariant.none at

pub returns-clause-asked : goal.returns-clause-asked
returns-clause-asked c p at = record {
  upto = c.loop-other.other;
  decided = c.loop-other.invariant.decided p at;
  ends = inr (inr (omega arith));
}
