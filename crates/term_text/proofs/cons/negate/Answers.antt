use Rattle.std.proofs.Common.{◌≡◌, ℕ, ◌+◌, ◌<◌, ◌⊎◌, List, length, zero, suc, sym, ◌∙◌, ap, subst, inl, inr, arith}
use Rattle.std.specs.Prelude.{◌≢◌, ℤ, pos, negsuc, ◌-ℤ◌}
use Rattle.std.specs.Int.{w128}
use Rattle.std.proofs.Math.IntN.{neg_ℤ}
use Rattle.std.proofs.Math.ListN.{set}
use Rattle.std.proofs.lemmas.Int.{ints}
use Rattle.std.proofs.lemmas.Bool.{cases_eq}
use Rattle.std.proofs.lemmas.List.{get_or-set_same, get_or-set_other}
use Rattle.std.proofs.lemmas.List.Elements.{All-get_or, All-set}
use mir.Val.{of_z, to_z}
use Rattle.row_core.specs.Vectors.{cell}
use Rattle.row_core.specs.Range.{InRange}
use Rattle.term_text.proofs.RowSums.{read_back}
use Rattle.term_text.proofs.cons.negate.Goals as goal

negated_in_range : (z : ℤ) → InRange z → InRange (neg_ℤ z)
negated_in_range (pos zero) h = h
negated_in_range (pos (suc n)) h = record { size = h.size }
negated_in_range (negsuc n) h = record { size = h.size }

zero_less : (z : ℤ) → pos 0 -ℤ z ≡ neg_ℤ z
zero_less z = omega (arith, ints)

-- the number that the code stores
stored : (z : ℤ) → InRange z → to_z w128 (of_z w128 (pos 0 -ℤ to_z w128 (of_z w128 z))) ≡ neg_ℤ z
stored z h = ap (λ (x : ℤ). to_z w128 (of_z w128 (pos 0 -ℤ x))) (read_back z h) ∙ ap (λ (x : ℤ). to_z w128 (of_z w128 x)) (zero_less z) ∙ read_back (neg_ℤ z) (negated_in_range z h)

one_more : (old cells : List ℤ) (i j : ℕ) (v : ℤ) → i < length cells → v ≡ neg_ℤ (cell old i) → (j < i → cell cells j ≡ neg_ℤ (cell old j)) → j < i + 1 → (j ≡ i) ⊎ (j ≢ i) → cell (set cells i v) j ≡ neg_ℤ (cell old j)
one_more old cells i j v below is done lt (inl e) = rw e (get_or-set_same cells i v (pos 0) below ∙ is)
one_more old cells i j v below is done lt (inr ne) = get_or-set_other cells i j v (pos 0) ne ∙ done (omega arith)

pub loop-cell-preserved : goal.loop-cell-preserved
loop-cell-preserved c =
    let cells = c.loop-cell.cells in
    let i = c.loop-cell.cell-index in
    let below : i < length cells = omega arith in
    let own : InRange (cell cells i) = All-get_or InRange cells i (pos 0) below c.loop-cell.invariant.in_range in
    let value = stored (cell cells i) own in
    let left = c.loop-cell.invariant.left i (omega arith) in
    record {
      in_range = All-set InRange cells i _ (subst InRange (sym value) (negated_in_range (cell cells i) own)) c.loop-cell.invariant.in_range;
      done = λ j lt. one_more c.args.cells.now cells i j _ below (value ∙ ap neg_ℤ left) (c.loop-cell.invariant.done j) lt (cases_eq j i);
      left = λ j le. get_or-set_other cells i j _ (pos 0) (omega arith) ∙ c.loop-cell.invariant.left j (omega arith);
    }
