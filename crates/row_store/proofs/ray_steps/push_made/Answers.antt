use Rattle.std.specs.Prelude.{◌≡◌, List, ℕ, false}
use Rattle.std.proofs.Common.{subst, ◌∙◌, arith, rules}
use Rattle.std.proofs.lemmas.List.{take_all, length_push}
use Rattle.std.proofs.lemmas.List.Elements.{All-same, Contains-get_or}
use Rattle.std.proofs.lemmas.Result.{err_from_is_err_and}
use Rattle.row_core.specs.Lists.{Row}
use Rattle.row_core.specs.Pairs.{pair_at}
use Rattle.row_store.specs.Changes.{HasMade}
use Rattle.row_core.proofs.RowListLemmas.{marked_push}
use Rattle.row_store.proofs.ChangeLemmas.{has_made_none, has_made_more, pair_before}
use Rattle.row_store.proofs.FaultLemmas.{pair_fault_before}
use Rattle.row_store.proofs.ray_steps.push_made.Goals as goal

pub loop-index-init : goal.loop-index-init
loop-index-init g c = record {
  width = search rules;
  spare = omega (arith, c.requires.spare);
  as_many = omega (arith, c.requires.as_many);
  no_fewer = omega arith;
  no_more = omega arith;
  made = has_made_none c.args.values.now c.args.rays.now.rows c.args.rays.now.rows;
  marked = c.requires.marked;
}

pub loop-index-preserved : goal.loop-index-preserved
loop-index-preserved g c =
    let inv = c.loop-index.invariant in
    let old = c.args.rays.now.rows in
    let cur = c.loop-index.rays.rows in
    let pair = pair_at c.args.pairs.now c.loop-index.index in
    let opposite = c.requires.opposite c.loop-index.index c.loop-index-test.true in
    let gained = c.in_ok-push_pair.ensures.combined in
    let one = pair_before c.args.values.now old cur pair gained.vector (inv.made.made, inv.made.result) (omega (arith, opposite.first, c.requires.as_many)) (omega (arith, opposite.second, c.requires.as_many)) gained.is in
    record {
      width = gained.width ∙ inv.width;
      spare = omega (arith, inv.spare, gained.spare);
      as_many = rw gained.rows (omega (arith, inv.as_many, length_push cur (gained.vector, false)));
      no_fewer = omega (arith, inv.no_fewer, c.push_pair.ensures.counted);
      no_more = omega (arith, inv.no_more, c.push_pair.ensures.counted);
      made = rw gained.rows (has_made_more c.args.values.now old c.args.pairs.now c.loop-index.index old cur gained.vector false c.loop-index-test.true inv.made one);
      marked = All-same (λ (row : Row). row.1 ≡ false) c.push_pair.new.rays.rows _ gained.rows (marked_push false cur gained.vector inv.marked);
    }

pub returns-in_err-push_pair-clause-made : goal.returns-in_err-push_pair-clause-made
returns-in_err-push_pair-clause-made g c =
    let inv = c.loop-index.invariant in
    let pair = pair_at c.args.pairs.now c.loop-index.index in
    let opposite = c.requires.opposite c.loop-index.index c.loop-index-test.true in
    let p = err_from_is_err_and c.from_residual.result c.from_residual.ensures.1 in
    rw (p.1, p.2)
    (pair_fault_before c.args.values.now c.args.pairs.now pair c.args.rays.now.rows c.loop-index.rays.rows c.in_err-push_pair.field-0.0 (inv.made.made, inv.made.result)
    (Contains-get_or c.args.pairs.now c.loop-index.index (0, 0) c.loop-index-test.true) (omega (arith, opposite.first, c.requires.as_many)) (omega (arith, opposite.second, c.requires.as_many)) c.in_err-push_pair.ensures.combined.1)

pub returns-in_err-push_pair-clause-grown : goal.returns-in_err-push_pair-clause-grown
returns-in_err-push_pair-clause-grown g c = (c.loop-index.invariant.made.made, c.in_err-push_pair.ensures.combined.0.rows ∙ c.loop-index.invariant.made.result)

pub returns-in_err-push_pair-clause-width : goal.returns-in_err-push_pair-clause-width
returns-in_err-push_pair-clause-width g c = c.in_err-push_pair.ensures.combined.0.width ∙ c.loop-index.invariant.width

pub returns-in_err-push_pair-clause-marked : goal.returns-in_err-push_pair-clause-marked
returns-in_err-push_pair-clause-marked g c = All-same (λ (row : Row). row.1 ≡ false) c.push_pair.new.rays.rows _ c.in_err-push_pair.ensures.combined.0.rows c.loop-index.invariant.marked

pub returns-clause-grown : goal.returns-clause-grown
returns-clause-grown g c = (c.loop-index.invariant.made.made, c.loop-index.invariant.made.result)

pub returns-clause-made : goal.returns-clause-made
returns-clause-made g c =
    let P : List (ℕ × ℕ) → Type 0 = λ pairs. HasMade c.args.values.now c.args.rays.now.rows pairs c.args.rays.now.rows c.loop-index.rays.rows in
    subst P (take_all c.loop-index.index c.args.pairs.now (omega arith)) c.loop-index.invariant.made
