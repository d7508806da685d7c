use Rattle.std.specs.Int.{w128}
use Rattle.std.proofs.Common.{◌≡◌, ℕ, ◌+◌, ◌≤◌, ◌++◌, ◌∷◌, [], List, ℤ, length, map, sym, ap, ◌∙◌, subst, arith}
use Rattle.std.proofs.lemmas.Int.{to_z-of_z}
use Rattle.std.proofs.lemmas.List.{take_all}
use mir.Val.{to_z, of_z}
use Rattle.row_core.specs.Range.{InRange, AllInRange}
use Rattle.row_core.proofs.SignTests.{fits}
use Rattle.cons_sys.specs.Constraints.{Constraint}
use Rattle.nnc_enc.specs.Encoding.{raised, encoded_constraint}
use Rattle.nnc_enc.proofs.EncodeLemmas.{constraints_more}
use Rattle.nnc_enc.proofs.encoding.push_constraints.Goals as goal

pub push_raised-requires : goal.push_raised-requires
push_raised-requires c = record {
  list = c.loop-index.invariant.width ∙ c.requires ∙ ap (λ (n : ℕ). n + 2) (sym c.dim-dim.ensures.value);
  wide = ap (λ (v : List ℤ). length v) c.row.ensures.value ∙ c.row.ensures.wide ∙ ap (λ (n : ℕ). n + 1) (sym c.dim-dim.ensures.value);
  in_range = subst AllInRange (sym c.row.ensures.value) c.row.ensures.in_range;
  height = subst InRange (sym (to_z-of_z w128 c.height_of.result (fits _ c.height_of.ensures.in_range))) c.height_of.ensures.in_range;
}

pub loop-index-preserved : goal.loop-index-preserved
loop-index-preserved c =
    let same : to_z w128 (of_z w128 c.height_of.result) ≡ c.height_of.result = to_z-of_z w128 c.height_of.result (fits _ c.height_of.ensures.in_range) in
    let pushed = c.in_ok-push_raised.ensures.rows ∙ ap (λ (z : ℤ). c.loop-index.list.rows ++ (raised c.dim-dim.result c.row.result.now z, c.is_equality.result) ∷ []) same in
    record {
      width = c.in_ok-push_raised.ensures.width ∙ c.loop-index.invariant.width;
      rows = constraints_more c.dim-dim.result c.args.cons.now.dim c.args.cons.now.list c.loop-index.index c.args.list.now.rows c.loop-index.list.rows c.push_raised.new.list.rows c.row.result.now c.kind-kind.result c.height_of.result c.is_equality.result c.dim-dim.ensures.value (omega arith) c.loop-index.invariant.rows pushed c.row.ensures.value c.kind-kind.ensures c.height_of.ensures.value c.is_equality.ensures;
    }

pub returns-clause-rows : goal.returns-clause-rows
returns-clause-rows c =
    c.loop-index.invariant.rows ∙ ap (λ (l : List Constraint). c.args.list.now.rows ++ map (encoded_constraint c.args.cons.now.dim) l) (take_all c.loop-index.index c.args.cons.now.list (subst (λ (n : ℕ). n ≤ c.loop-index.index) c.len-index-end.ensures c.loop-index-test.false))
