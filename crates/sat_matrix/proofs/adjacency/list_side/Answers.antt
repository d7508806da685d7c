use Rattle.std.specs.Prelude.{◌≡◌, ◌+◌, ℕ, List, [], ◌∷◌, length, pos}
use Rattle.std.specs.Int.{w128}
use Rattle.std.proofs.Common.{arith, sym, subst, ap, ◌∙◌, get_or, ℕ}
use Rattle.std.proofs.lemmas.Int.{to_z-of_z}
use Rattle.std.proofs.lemmas.List.{length-append}
use Rattle.std.proofs.lemmas.List.Elements.{All-get_or}
use Rattle.row_core.specs.Range.{InRange}
use Rattle.row_core.proofs.SignTests.{fits}
use Rattle.row_core.specs.Pairs.{value_at}
use Rattle.sat_matrix.specs.Pairs.{is_on, AreOn}
use Rattle.sat_matrix.proofs.Sides.{on_none, on_push, on_pass}
use native.Mathlib.Nat.{le_antisymm}
use Rattle.sat_matrix.proofs.adjacency.list_side.Goals as goal
use Rattle.sat_matrix.proofs.adjacency.list_side.Goals.{then-has, else-has}

pub loop-index-init : goal.loop-index-init
loop-index-init c =
    let P : List ℕ → Type 0 = λ indices. AreOn c.args.side c.args.values.now 0 indices in
    let items : c.reserve.new.self.items ≡ [] = c.reserve.ensures.items ∙ c.clear.ensures.items in
    record {
      len = omega (arith, ap length items);
      room = omega (arith, ap length items, c.in_ok-reserve.ensures.ok);
      sides = subst P (sym items) (on_none c.args.side c.args.values.now);
    }

pub push_reserved-requires : goal.push_reserved-requires
push_reserved-requires c =
    omega (arith, c.loop-index.invariant.len, c.loop-index.invariant.room, c.loop-index-test.true)

pub loop-index-preserved : goal.loop-index-preserved
loop-index-preserved c =
    let side = c.args.side in
    let values = c.args.values.now in
    let index = c.loop-index.index in
    let old = c.loop-index.indices.items in
    let P : List ℕ → Type 0 = λ indices. AreOn c.args.side c.args.values.now (c.loop-index.index + 1) indices in
    let value = get_or c.args.values.now c.loop-index.index (pos 0) in
    let answer : is_on c.args.side (value_at c.args.values.now c.loop-index.index) ≡ c.has.result = ap (λ z. is_on c.args.side z) (sym (to_z-of_z w128 value (fits value (All-get_or InRange values index (pos 0) c.loop-index-test.true c.requires.in_range)))) ∙ sym c.has.ensures in
    record {
      len = elim c.if-has.branch [
        | then-has w ↦ omega (arith, ap (λ v. length v.items) w.indices-is, ap length w.push_reserved.ensures.items, length-append old (index ∷ []), c.loop-index.invariant.len)
        | else-has w ↦ omega (arith, ap (λ v. length v.items) w.indices-is, c.loop-index.invariant.len)
      ];
      room = elim c.if-has.branch [
        | then-has w ↦ omega (arith, ap (λ v. v.capacity) w.indices-is, w.push_reserved.ensures.capacity, c.loop-index.invariant.room)
        | else-has w ↦ omega (arith, ap (λ v. v.capacity) w.indices-is, c.loop-index.invariant.room)
      ];
      sides = elim c.if-has.branch [
        | then-has w ↦ subst P (sym (ap (λ v. v.items) w.indices-is ∙ w.push_reserved.ensures.items)) (on_push side values index old c.loop-index.invariant.sides (answer ∙ w.if-has.true))
        | else-has w ↦ subst P (sym (ap (λ v. v.items) w.indices-is)) (on_pass side values index old c.loop-index.invariant.sides (answer ∙ w.if-has.false))
      ];
    }

pub returns : goal.returns
returns c = subst (λ (n : ℕ). AreOn c.args.side c.args.values.now n c.loop-index.indices.items) (le_antisymm c.loop-index.auto.index-end c.loop-index-test.false) c.loop-index.invariant.sides
