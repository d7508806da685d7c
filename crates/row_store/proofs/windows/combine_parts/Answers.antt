use Rattle.std.specs.Prelude.{◌≡◌, ℕ, ℤ, List, ◌+◌, ◌-◌, ◌++◌, ◌≤◌, length, take, drop}
use Rattle.std.proofs.Common.{arith, sym, ap, subst, ◌∙◌, length-append, length-take}
use Rattle.std.proofs.lemmas.Result.{IfOk-weaker}
use Rattle.std.proofs.lemmas.List.Elements.{All-append, All-take, All-drop}
use Rattle.row_core.specs.Range.{InRange, AllInRange}
use Rattle.row_core.specs.Sizes.{HaveBits}
use Rattle.flat_rows.specs.Flat.{window, with_window}
use Rattle.flat_rows.proofs.Flat.{take-drop-append, length-window}
use Rattle.row_store.proofs.Parts.{moved_outcome, with_window_in_front, window_in_back, with_window_in_back}
use Rattle.row_store.proofs.windows.combine_parts.Goals as goal

pub returns-then-to-from-clause-combined : goal.returns-then-to-from-clause-combined
returns-then-to-from-clause-combined g c =
    let front = c.split_at_mut-front.result.0.now in
    let back = c.split_at_mut-front.result.1.now in
    let cells = c.args.cells.now in
    let value : cells ≡ front ++ back = c.split_at_mut-front.ensures.value in
    let within : c.args.to.at + c.args.to.width ≤ length front = omega (arith, c.split_at_mut-front.ensures.front_len, c.requires.apart, c.if-to-from.true) in
    let e : window c.args.to.at c.args.to.width front ≡ window c.args.to.at c.args.to.width cells = sym (take-drop-append c.args.to.width c.args.to.at front back within) ∙ ap (λ (r : List ℤ). window c.args.to.at c.args.to.width r) (sym value) in
    moved_outcome c.args.to.at c.args.to.at c.args.to.width c.args.factors.0 c.args.factors.1 front (take c.args.to.width back) c.combine_part.new.cells cells (window c.args.from c.args.to.width cells) (c.combine_part.new.cells ++ back) c.combine_part.result e (ap (λ (r : List ℤ). take c.args.to.width r) c.split_at_mut-front.ensures.back)
    (λ row w. ap (λ (r : List ℤ). r ++ back) w ∙ with_window_in_front c.args.to.at c.args.to.width row front back within ∙ ap (λ (r : List ℤ). with_window c.args.to.at c.args.to.width row r) (sym value))
    (λ w. ap (λ (r : List ℤ). r ++ back) w ∙ sym value) c.combine_part.ensures.combined

pub returns-else-to-from-clause-combined : goal.returns-else-to-from-clause-combined
returns-else-to-from-clause-combined g c =
    let front = c.split_at_mut-front-else-to-from.result.0.now in
    let back = c.split_at_mut-front-else-to-from.result.1.now in
    let cells = c.args.cells.now in
    let value : cells ≡ front ++ back = c.split_at_mut-front-else-to-from.ensures.value in
    let front_len : length front ≡ c.args.to.at = c.split_at_mut-front-else-to-from.ensures.front_len in
    let within : c.args.from + c.args.to.width ≤ length front = omega (arith, front_len, c.requires.apart, c.if-to-from.false, c.requires.second) in
    let e : window 0 c.args.to.width back ≡ window c.args.to.at c.args.to.width cells = window_in_back c.args.to.at c.args.to.width front back front_len ∙ ap (λ (r : List ℤ). window c.args.to.at c.args.to.width r) (sym value) in
    let f : take (c.args.from + c.args.to.width - c.args.from) (drop c.args.from front) ≡ window c.args.from c.args.to.width cells
    = ap (λ (n : ℕ). take n (drop c.args.from front)) (omega arith) ∙ sym (take-drop-append c.args.to.width c.args.from front back within) ∙ ap (λ (r : List ℤ). window c.args.from c.args.to.width r) (sym value) in
    moved_outcome c.args.to.at 0 c.args.to.width c.args.factors.0 c.args.factors.1 back _ c.combine_part-else-to-from.new.cells cells (window c.args.from c.args.to.width cells) (front ++ c.combine_part-else-to-from.new.cells) c.combine_part-else-to-from.result e f
    (λ row w. ap (λ (r : List ℤ). front ++ r) w ∙ with_window_in_back c.args.to.at c.args.to.width row front back front_len ∙ ap (λ (r : List ℤ). with_window c.args.to.at c.args.to.width row r) (sym value))
    (λ w. ap (λ (r : List ℤ). front ++ r) w ∙ sym value) c.combine_part-else-to-from.ensures.combined

pub returns-else-to-from-clause-in_range : goal.returns-else-to-from-clause-in_range
returns-else-to-from-clause-in_range g c = λ h.
    All-append InRange c.split_at_mut-front-else-to-from.result.0.now c.combine_part-else-to-from.new.cells
    (subst AllInRange (sym c.split_at_mut-front-else-to-from.ensures.front) (All-take InRange c.args.to.at c.args.cells.now h))
    (c.combine_part-else-to-from.ensures.in_range (subst AllInRange (sym c.split_at_mut-front-else-to-from.ensures.back) (All-drop InRange c.args.to.at c.args.cells.now h)))

pub returns-then-to-from-clause-in_range : goal.returns-then-to-from-clause-in_range
returns-then-to-from-clause-in_range g c = λ h.
    All-append InRange c.combine_part.new.cells c.split_at_mut-front.result.1.now
    (c.combine_part.ensures.in_range (subst AllInRange (sym c.split_at_mut-front.ensures.front) (All-take InRange c.args.from c.args.cells.now h)))
    (subst AllInRange (sym c.split_at_mut-front.ensures.back) (All-drop InRange c.args.from c.args.cells.now h))

pub combine_part-requires : goal.combine_part-requires
combine_part-requires g c =
    let front = c.split_at_mut-front.result.0.now in
    let back = c.split_at_mut-front.result.1.now in
    let front_len : length front ≡ c.args.from = c.split_at_mut-front.ensures.front_len in
    let whole : length c.args.cells.now ≡ length front + length back = ap length c.split_at_mut-front.ensures.value ∙ length-append front back in
    let within : c.args.to.at + c.args.to.width ≤ length front = omega (arith, front_len, c.requires.apart, c.if-to-from.true) in
    let e : window c.args.to.at c.args.to.width c.args.cells.now ≡ window c.args.to.at c.args.to.width front = ap (λ (r : List ℤ). window c.args.to.at c.args.to.width r) c.split_at_mut-front.ensures.value ∙ take-drop-append c.args.to.width c.args.to.at front back within in
    record {
      within = within;
      same_width = omega (arith, length-take c.args.to.width back, whole, front_len, c.requires.second);
      narrow = c.requires.narrow;
      bits = (
        subst (HaveBits c.args.bits) e c.requires.first_bits,
        subst (HaveBits c.args.bits) (sym (ap (λ (r : List ℤ). take c.args.to.width r) c.split_at_mut-front.ensures.back)) c.requires.second_bits,
      );
    }

pub combine_part-requires-else-to-from : goal.combine_part-requires-else-to-from
combine_part-requires-else-to-from g c =
    let front = c.split_at_mut-front-else-to-from.result.0.now in
    let back = c.split_at_mut-front-else-to-from.result.1.now in
    let front_len : length front ≡ c.args.to.at = c.split_at_mut-front-else-to-from.ensures.front_len in
    let value : c.args.cells.now ≡ front ++ back = c.split_at_mut-front-else-to-from.ensures.value in
    let whole : length c.args.cells.now ≡ length front + length back = ap length value ∙ length-append front back in
    let within : c.args.from + c.args.to.width ≤ length front = omega (arith, front_len, c.requires.apart, c.if-to-from.false) in
    let e : window c.args.to.at c.args.to.width c.args.cells.now ≡ window 0 c.args.to.width back = ap (λ (r : List ℤ). window c.args.to.at c.args.to.width r) value ∙ sym (window_in_back c.args.to.at c.args.to.width front back front_len) in
    let f : window c.args.from c.args.to.width c.args.cells.now ≡ take (c.args.from + c.args.to.width - c.args.from) (drop c.args.from front)
    = ap (λ (r : List ℤ). window c.args.from c.args.to.width r) value ∙ take-drop-append c.args.to.width c.args.from front back within ∙ ap (λ (n : ℕ). take n (drop c.args.from front)) (omega arith) in
    record {
      within = omega (arith, front_len, whole, c.requires.first);
      same_width = ap (λ (n : ℕ). length (window c.args.from n front)) (omega arith) ∙ length-window c.args.from c.args.to.width front (omega (arith, front_len, c.requires.apart, c.if-to-from.false));
      narrow = c.requires.narrow;
      bits = (
        subst (HaveBits c.args.bits) e c.requires.first_bits,
        subst (HaveBits c.args.bits) f c.requires.second_bits,
      );
    }

pub returns-then-to-from-clause-bits : goal.returns-then-to-from-clause-bits
returns-then-to-from-clause-bits g c =
    let front = c.split_at_mut-front.result.0.now in
    let back = c.split_at_mut-front.result.1.now in
    let new = c.combine_part.new.cells in
    let long : length new ≡ length front = c.combine_part.auto.cells in
    let within : c.args.to.at + c.args.to.width ≤ length new = omega (arith, long, c.split_at_mut-front.ensures.front_len, c.requires.apart, c.if-to-from.true) in
    let e : window c.args.to.at c.args.to.width new ≡ window c.args.to.at c.args.to.width (new ++ back) = sym (take-drop-append c.args.to.width c.args.to.at new back within) in
    IfOk-weaker c.combine_part.result _ _ (λ bits all. subst (HaveBits bits) e all) c.combine_part.ensures.bits

pub returns-else-to-from-clause-bits : goal.returns-else-to-from-clause-bits
returns-else-to-from-clause-bits g c =
    let front = c.split_at_mut-front-else-to-from.result.0.now in
    let new = c.combine_part-else-to-from.new.cells in
    let e : window 0 c.args.to.width new ≡ window c.args.to.at c.args.to.width (front ++ new) = window_in_back c.args.to.at c.args.to.width front new c.split_at_mut-front-else-to-from.ensures.front_len in
    IfOk-weaker c.combine_part-else-to-from.result _ _ (λ bits all. subst (HaveBits bits) e all) c.combine_part-else-to-from.ensures.bits
