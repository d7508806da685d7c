use Rattle.std.proofs.Common.{arith, ℕ, ◌+◌, List, ◌∙◌, ap, length}
use Rattle.std.proofs.lemmas.List.{length_push}
use Rattle.row_core.specs.Lists.{row_at}
use Rattle.nnc_enc.specs.StrongRows.{HasVariable}
use Rattle.std.specs.Prelude.{IsTrue, ◌↔◌, Bool}
use Rattle.std.proofs.Common.{subst}
use Rattle.nnc_enc.proofs.MarkLemmas.{told_more}
use native.Mathlib.Nat.{le_antisymm}
use borrow.Author.Count.{below_none}
use Rattle.nnc_enc.specs.Marks.{flag}
use Rattle.nnc_enc.specs.Decoding.{HaveVariables}
use Rattle.nnc_enc.proofs.decoding.with_variables.Goals as goal

pub loop-index-preserved : goal.loop-index-preserved
loop-index-preserved c =
    let inv = c.loop-index.invariant.variables in
    let items = c.push_reserved.ensures.items in
    record {
      variables = record {
        as_many = ap (λ (bs : List Bool). length bs) items ∙ length_push c.loop-index.keep.items c.has_variable.result ∙ ap (λ (n : ℕ). n + 1) inv.as_many;
        each = told_more (λ (i : ℕ). HasVariable c.args.dim (row_at c.args.rays.now.rows i)) c.loop-index.keep.items c.push_reserved.new.self.items c.loop-index.index c.has_variable.result items inv.as_many inv.each (subst (λ v. IsTrue c.has_variable.result ↔ HasVariable c.args.dim v) c.row.ensures.value c.has_variable.ensures);
      };
      len = omega (arith, c.push_reserved.ensures.len, c.loop-index.invariant.len);
      room = omega (arith, c.push_reserved.ensures.capacity, c.loop-index.invariant.room);
    }

pub push_reserved-requires : goal.push_reserved-requires
push_reserved-requires c = omega (arith, c.loop-index.invariant.len, c.loop-index.invariant.room, c.loop-index-test.true, c.len-index-end.ensures)

pub returns : goal.returns
returns c =
    subst (λ (n : ℕ). HaveVariables c.args.dim c.args.rays.now.rows c.loop-index.keep.items n) (le_antisymm c.loop-index.auto.index-end c.loop-index-test.false ∙ c.len-index-end.ensures) c.loop-index.invariant.variables

pub loop-index-init : goal.loop-index-init
loop-index-init c = record {
  variables = record {
    as_many = ap (λ (bs : List Bool). length bs) c.in_ok-keep.ensures.items;
    each = below_none (λ (i : ℕ). IsTrue (flag c.in_ok-keep.keep.items i) ↔ HasVariable c.args.dim (row_at c.args.rays.now.rows i));
  };
  len = c.in_ok-keep.ensures.len;
  room = omega (arith, c.in_ok-keep.ensures.capacity, c.len.ensures);
}
