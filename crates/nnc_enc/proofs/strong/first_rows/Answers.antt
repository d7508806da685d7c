use Rattle.std.proofs.Common.{arith, subst, ℕ, ◌+◌, ◌∙◌, ap, List, length}
use Rattle.std.proofs.lemmas.List.{length_push}
use Rattle.nnc_enc.specs.Strong.{StaysAtFirst, AreFirstRows}
use Rattle.nnc_enc.proofs.MarkLemmas.{told_more}
use native.Mathlib.Nat.{le_antisymm}
use borrow.Author.Count.{below_none}
use Rattle.std.specs.Prelude.{Bool, IsTrue, ◌↔◌}
use Rattle.nnc_enc.specs.Marks.{flag}
use Rattle.nnc_enc.proofs.strong.first_rows.Goals as goal

pub loop-index-preserved : goal.loop-index-preserved
loop-index-preserved c =
    let inv = c.loop-index.invariant.first in
    let items = c.push_reserved.ensures.items in
    record {
      first = record {
        as_many = ap (λ (bs : List Bool). length bs) items ∙ length_push c.loop-index.keep.items c.stays_at_first.result ∙ ap (λ (n : ℕ). n + 1) inv.as_many;
        each = told_more (StaysAtFirst c.args.dim c.args.rays.now.rows c.args.strict.now c.args.places.now c.args.sat.now.rows) c.loop-index.keep.items c.push_reserved.new.self.items c.loop-index.index c.stays_at_first.result items inv.as_many inv.each c.stays_at_first.ensures;
      };
      len = omega (arith, c.push_reserved.ensures.len, c.loop-index.invariant.len);
      room = omega (arith, c.push_reserved.ensures.capacity, c.loop-index.invariant.room);
    }

pub push_reserved-requires : goal.push_reserved-requires
push_reserved-requires c = omega (arith, c.loop-index.invariant.len, c.loop-index.invariant.room, c.loop-index-test.true, c.len-index-end.ensures)

pub returns : goal.returns
returns c =
    subst (λ (n : ℕ). AreFirstRows c.args.dim c.args.rays.now.rows c.args.strict.now c.args.places.now c.args.sat.now.rows c.loop-index.keep.items n) (le_antisymm c.loop-index.auto.index-end c.loop-index-test.false ∙ c.len-index-end.ensures) c.loop-index.invariant.first

pub loop-index-init : goal.loop-index-init
loop-index-init c = record {
  first = record {
    as_many = ap (λ (bs : List Bool). length bs) c.in_ok-keep.ensures.items;
    each = below_none (λ (i : ℕ). IsTrue (flag c.in_ok-keep.keep.items i) ↔ StaysAtFirst c.args.dim c.args.rays.now.rows c.args.strict.now c.args.places.now c.args.sat.now.rows i);
  };
  len = c.in_ok-keep.ensures.len;
  room = omega (arith, c.in_ok-keep.ensures.capacity, c.len.ensures);
}
