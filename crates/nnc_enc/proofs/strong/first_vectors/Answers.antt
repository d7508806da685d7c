use Rattle.std.proofs.Common.{arith, ℕ, ◌+◌, List, Bool, ap, ◌∙◌, subst}
use Rattle.std.specs.Prelude.{IsTrue, ◌↔◌, length}
use Rattle.std.proofs.lemmas.List.{length_push}
use borrow.Author.Count.{below_none}
use Rattle.sat_matrix.specs.Tables.{bits_of}
use Rattle.nnc_enc.specs.Marks.{flag}
use Rattle.nnc_enc.specs.Passes.{IsClear}
use Rattle.nnc_enc.proofs.MarkLemmas.{told_more, told_not}
use native.Mathlib.Nat.{le_antisymm}
use Rattle.nnc_enc.specs.Strong.{AreFirstVectors}
use Rattle.nnc_enc.proofs.strong.first_vectors.Goals as goal

pub loop-index-preserved : goal.loop-index-preserved
loop-index-preserved c =
    let inv = c.loop-index.invariant.first in
    let items = c.push_reserved.ensures.items in
    record {
      first = record {
        as_many = ap (λ (bs : List Bool). length bs) items ∙ length_push c.loop-index.keep.items _ ∙ ap (λ (n : ℕ). n + 1) inv.as_many;
        each = told_more (λ (i : ℕ). ¬ (IsTrue (flag c.args.places.now i) × IsClear c.args.strict.now (bits_of c.args.sat.now.rows i) (length c.args.strict.now))) c.loop-index.keep.items c.push_reserved.new.self.items c.loop-index.index _ items inv.as_many inv.each (told_not c.is_marked_clear.result _ c.is_marked_clear.ensures);
      };
      len = omega (arith, c.push_reserved.ensures.len, c.loop-index.invariant.len);
      room = omega (arith, c.push_reserved.ensures.capacity, c.loop-index.invariant.room);
    }

pub loop-index-init : goal.loop-index-init
loop-index-init c = record {
  first = record {
    as_many = ap (λ (bs : List Bool). length bs) c.in_ok-keep.ensures.items;
    each = below_none (λ (i : ℕ). IsTrue (flag c.in_ok-keep.keep.items i) ↔ (¬ (IsTrue (flag c.args.places.now i) × IsClear c.args.strict.now (bits_of c.args.sat.now.rows i) (length c.args.strict.now))));
  };
  len = c.in_ok-keep.ensures.len;
  room = omega (arith, c.in_ok-keep.ensures.capacity, c.len.ensures);
}

pub push_reserved-requires : goal.push_reserved-requires
push_reserved-requires c = omega (arith, c.loop-index.invariant.len, c.loop-index.invariant.room, c.loop-index-test.true, c.len-index-end.ensures)

pub returns : goal.returns
returns c =
    subst (λ (n : ℕ). AreFirstVectors c.args.places.now c.args.strict.now c.args.sat.now.rows c.loop-index.keep.items n) (le_antisymm c.loop-index.auto.index-end c.loop-index-test.false ∙ c.len-index-end.ensures) c.loop-index.invariant.first
