use Rattle.std.specs.Prelude.{◌≡◌, ◌<◌, Bool, List, [], ℤ, pos}
use Rattle.std.specs.Int.{w128}
use Rattle.std.proofs.Common.{◌∙◌, sym, subst, refl, get_or, arith, length, ℕ, ap}
use Rattle.std.proofs.lemmas.Int.{to_z-of_z}
use Rattle.std.proofs.lemmas.List.Elements.{All-get_or, All-same}
use mir.Val.{SFits}
use Rattle.row_core.specs.Range.{InRange, AllInRange}
use Rattle.row_core.specs.Sizes.{HaveBits}
use Rattle.row_core.proofs.SizeLemmas.{HaveBits-more}
use Rattle.row_core.specs.Content.{IsPrimitive}
use Rattle.row_core.specs.Lists.{Row, AreMarked}
use Rattle.row_core.specs.Combinations.{CombinationLeaves, IsCombined}
use Rattle.row_core.specs.Pairs.{value_at}
use Rattle.row_store.specs.Changes.{AreLowered}
use Rattle.row_core.proofs.SignTests.{fits}
use Rattle.row_core.proofs.RowListLemmas.{vector_at-vectors, length-vectors, marked_push}
use Rattle.row_store.proofs.ChangeLemmas.{lowered_more, lowered_none}
use native.Mathlib.Nat.{le_antisymm, le_refl}
use Rattle.row_store.proofs.line_steps.lower_range.Goals as goal

pub push_lowered-lowered-requires-clause-vector : goal.push_lowered-lowered-requires-clause-vector
push_lowered-lowered-requires-clause-vector g c =
    let here : c.loop-index.index < length c.args.lowering.list.now.rows = omega (arith, c.requires.bounds.1) in (
      subst AllInRange (sym c.row-vector.ensures.value) c.row-vector.ensures.in_range,
      subst IsPrimitive (vector_at-vectors c.args.lowering.list.now.rows c.loop-index.index ∙ sym c.row-vector.ensures.value)
          (c.requires.primitive c.loop-index.index [] (omega (arith, length-vectors c.args.lowering.list.now.rows))),
    )

pub returns-in-Err-clause-lowered : goal.returns-in-Err-clause-lowered
returns-in-Err-clause-lowered g c =
    let value_fits : SFits w128 (get_or c.args.lowering.values.now c.loop-index.index (pos 0)) = fits (get_or c.args.lowering.values.now c.loop-index.index (pos 0)) (All-get_or InRange c.args.lowering.values.now c.loop-index.index (pos 0) (omega (arith, c.requires.bounds.1, c.requires.as_many)) c.requires.in_range.0) in
    let line_fits : SFits w128 c.args.lowering.crossing.value = fits c.args.lowering.crossing.value c.requires.in_range.1 in
    let P : List ℤ → Type 0 = λ w. CombinationLeaves c.args.lowering.crossing.value (value_at c.args.lowering.values.now c.loop-index.index) c.args.lowering.crossing.line.now w c.in-Err.column in (
      refl,
      refl,
      c.loop-index.invariant.above,
      c.loop-index-test.true,
      subst P (c.row-vector.ensures.value ∙ sym (vector_at-vectors c.args.lowering.list.now.rows c.loop-index.index)) (simp to_z-of_z at c.in-Err.ensures.combined).1,
    )

pub loop-index-preserved : goal.loop-index-preserved
loop-index-preserved g c =
    let value_fits : SFits w128 (get_or c.args.lowering.values.now c.loop-index.index (pos 0)) = fits (get_or c.args.lowering.values.now c.loop-index.index (pos 0)) (All-get_or InRange c.args.lowering.values.now c.loop-index.index (pos 0) (omega (arith, c.requires.bounds.1, c.requires.as_many)) c.requires.in_range.0) in
    let line_fits : SFits w128 c.args.lowering.crossing.value = fits c.args.lowering.crossing.value c.requires.in_range.1 in
    let gained = simp to_z-of_z at c.in_default.ensures.combined in
    let P : List ℤ → Type 0 = λ w. IsCombined c.args.lowering.crossing.value (value_at c.args.lowering.values.now c.loop-index.index) c.args.lowering.crossing.line.now w gained.vector in
    let one = subst P c.row-vector.ensures.value gained.is in
    let inv = c.loop-index.invariant in
    let marked = marked_push c.is_equality-eq.result c.loop-index.into.rows gained.vector (subst (λ (eq : Bool). AreMarked eq c.loop-index.into.rows) (sym c.is_equality-eq.ensures) inv.marked) in
    record {
      above = omega (arith, inv.above);
      width = gained.width ∙ inv.width;
      spare = omega (arith, inv.spare, gained.spare);
      no_fewer = omega (arith, inv.no_fewer, c.push_lowered-lowered.ensures.counted);
      no_more = omega (arith, inv.no_more, c.push_lowered-lowered.ensures.counted);
      lowered = rw gained.rows (lowered_more c.args.lowering.crossing.value c.args.lowering.crossing.line.now c.args.lowering.values.now c.args.lowering.list.now.rows c.args.from c.loop-index.index c.args.into.now.rows c.loop-index.into.rows gained.vector c.is_equality-eq.result inv.above inv.lowered one);
      marked = subst (λ (eq : Bool). AreMarked eq c.push_lowered-lowered.new.self.rows) c.is_equality-eq.ensures (All-same (λ (row : Row). row.1 ≡ c.is_equality-eq.result) c.push_lowered-lowered.new.self.rows _ gained.rows marked);
    }

pub push_lowered-lowered-requires-clause-alike : goal.push_lowered-lowered-requires-clause-alike
push_lowered-lowered-requires-clause-alike g c = subst (λ (eq : Bool). AreMarked eq c.loop-index.into.rows) (sym c.is_equality-eq.ensures) c.loop-index.invariant.marked

pub push_lowered-lowered-requires-clause-spare : goal.push_lowered-lowered-requires-clause-spare
push_lowered-lowered-requires-clause-spare g c = omega (arith, c.loop-index.invariant.spare, c.requires.spare)

pub returns-clause-lowered : goal.returns-clause-lowered
returns-clause-lowered g c =
    subst (λ (n : ℕ). AreLowered c.args.lowering.crossing.value c.args.lowering.crossing.line.now c.args.lowering.values.now c.args.lowering.list.now.rows c.args.from n c.args.into.now.rows c.loop-index.into.rows) (le_antisymm (c.loop-index.auto.index-end c.requires.bounds.0) c.loop-index-test.false) c.loop-index.invariant.lowered

pub loop-index-init : goal.loop-index-init
loop-index-init g c = record {
  above = le_refl _;
  width = refl;
  spare = refl;
  no_fewer = le_refl _;
  no_more = le_refl _;
  lowered = lowered_none c.args.lowering.crossing.value c.args.lowering.crossing.line.now c.args.lowering.values.now c.args.lowering.list.now.rows c.args.from c.args.into.now.rows;
  marked = c.requires.marked;
}

pub push_lowered-lowered-requires-clause-in_range : goal.push_lowered-lowered-requires-clause-in_range
push_lowered-lowered-requires-clause-in_range g c =
    let here = All-get_or InRange c.args.lowering.values.now c.loop-index.index (pos 0) (omega (arith, c.requires.bounds.1, c.requires.as_many)) c.requires.in_range.0 in (
      subst InRange (sym (to_z-of_z w128 _ (fits c.args.lowering.crossing.value c.requires.in_range.1))) c.requires.in_range.1,
      subst InRange (sym (to_z-of_z w128 _ (fits (get_or c.args.lowering.values.now c.loop-index.index (pos 0)) here))) here,
    )

pub push_lowered-lowered-requires-clause-line : goal.push_lowered-lowered-requires-clause-line
push_lowered-lowered-requires-clause-line g c = c.requires.line ∙ sym c.loop-index.invariant.width

pub push_lowered-lowered-requires-clause-wide : goal.push_lowered-lowered-requires-clause-wide
push_lowered-lowered-requires-clause-wide g c =
    ap (λ (v : List ℤ). length v) c.row-vector.ensures.value ∙ c.row-vector.ensures.wide ∙ c.requires.wide ∙ sym c.loop-index.invariant.width

pub push_lowered-lowered-requires-clause-line_bits : goal.push_lowered-lowered-requires-clause-line_bits
push_lowered-lowered-requires-clause-line_bits g c = HaveBits-more c.args.lowering.crossing.bits c.max-bits.result c.args.lowering.crossing.line.now (omega (arith, c.max-bits.ensures)) c.requires.bits

pub push_lowered-lowered-requires-clause-vector_bits : goal.push_lowered-lowered-requires-clause-vector_bits
push_lowered-lowered-requires-clause-vector_bits g c =
    let here : c.loop-index.index < length c.args.lowering.list.now.rows = omega (arith, c.requires.bounds.1) in
    HaveBits-more c.bits.result c.max-bits.result c.row-vector.result.now (omega (arith, c.max-bits.ensures)) (subst (HaveBits c.bits.result) (sym c.row-vector.ensures.value) (c.bits.ensures c.loop-index.index here))
