use Rattle.std.specs.Prelude.{◌≡◌, ◌+◌, Bool, IsTrue, ◌↔◌, List, ℤ, ℕ, pos, length}
use Rattle.std.specs.Int.{w128}
use Rattle.std.proofs.Common.{arith, ap, sym, subst, ◌∙◌, get_or}
use Rattle.std.proofs.lemmas.Int.{to_z-of_z}
use Rattle.std.proofs.lemmas.List.{length_push}
use Rattle.std.proofs.lemmas.List.Elements.{All-get_or}
use mir.Val.{SFits}
use native.Mathlib.Nat.{le_antisymm}
use borrow.Author.Count.{below_none}
use Rattle.row_core.specs.Vectors.{cell}
use Rattle.row_core.specs.Range.{InRange, AllInRange}
use Rattle.row_core.specs.Lists.{row_at}
use Rattle.row_core.proofs.SignTests.{fits}
use Rattle.nnc_enc.specs.Marks.{Tells, AreTold, flag}
use Rattle.nnc_enc.proofs.MarkLemmas.{told_more}
use Rattle.nnc_enc.proofs.marks.marks.Goals as goal

pub loop-index-preserved : goal.loop-index-preserved
loop-index-preserved c =
    let inv = c.loop-index.invariant.told in
    let items = c.push_reserved.ensures.items in
    let wide : length c.row-row.result.now ≡ c.args.dim + 2 = ap (λ (v : List ℤ). length v) c.row-row.ensures.value ∙ c.row-row.ensures.wide ∙ c.requires in
    let all : AllInRange c.row-row.result.now = subst AllInRange (sym c.row-row.ensures.value) c.row-row.ensures.in_range in
    let height_fits : SFits w128 (get_or c.row-row.result.now c.args.dim (pos 0)) = fits _ (All-get_or InRange c.row-row.result.now c.args.dim (pos 0) (omega (arith, wide)) all) in
    let divisor_fits : SFits w128 (get_or c.row-row.result.now (c.args.dim + 1) (pos 0)) = fits _ (All-get_or InRange c.row-row.result.now (c.args.dim + 1) (pos 0) (omega (arith, wide)) all) in
    let told = simp to_z-of_z at c.tells.ensures in
    record {
      told = record {
        as_many = ap (λ (bs : List Bool). length bs) items ∙ length_push c.loop-index.marks.items c.tells.result ∙ ap (λ (n : ℕ). n + 1) inv.as_many;
        each = told_more (λ (i : ℕ). Tells c.args.mark (cell (row_at c.args.list.now.rows i) c.args.dim) (cell (row_at c.args.list.now.rows i) (c.args.dim + 1))) c.loop-index.marks.items c.push_reserved.new.self.items c.loop-index.index c.tells.result items inv.as_many inv.each
            (subst (λ (v : List ℤ). IsTrue c.tells.result ↔ Tells c.args.mark (cell v c.args.dim) (cell v (c.args.dim + 1))) c.row-row.ensures.value told);
      };
      len = omega (arith, c.push_reserved.ensures.len, c.loop-index.invariant.len);
      room = omega (arith, c.push_reserved.ensures.capacity, c.loop-index.invariant.room);
    }

pub loop-index-init : goal.loop-index-init
loop-index-init c = record {
  told = record {
    as_many = ap (λ (bs : List Bool). length bs) c.in_ok-marks.ensures.items;
    each = below_none (λ (i : ℕ). IsTrue (flag c.in_ok-marks.marks.items i) ↔ Tells c.args.mark (cell (row_at c.args.list.now.rows i) c.args.dim) (cell (row_at c.args.list.now.rows i) (c.args.dim + 1)));
  };
  len = c.in_ok-marks.ensures.len;
  room = omega (arith, c.in_ok-marks.ensures.capacity, c.len.ensures);
}

pub push_reserved-requires : goal.push_reserved-requires
push_reserved-requires c = omega (arith, c.loop-index.invariant.len, c.loop-index.invariant.room, c.loop-index-test.true, c.len-index-end.ensures)

pub returns : goal.returns
returns c =
    subst (λ (n : ℕ). AreTold c.args.mark c.args.dim c.args.list.now.rows c.loop-index.marks.items n) (le_antisymm c.loop-index.auto.index-end c.loop-index-test.false ∙ c.len-index-end.ensures) c.loop-index.invariant.told
