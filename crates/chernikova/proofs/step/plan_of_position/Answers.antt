use Rattle.std.specs.Prelude.{ℕ, ℤ, List, Bool, true, ◌++◌, map, replicate}
use Rattle.std.proofs.Common.{ap, subst, ◌∙◌, arith, length}
use Rattle.row_core.specs.Lists.{row_at, is_eq_at, vectors}
use Rattle.row_core.specs.Signs.{stays}
use Rattle.chernikova.specs.declared.plan.Position.{Position}
use Rattle.sat_matrix.specs.Pairs.{AreAllCrosses}
use Rattle.chernikova.specs.Plans.{lists_of, IsPosition, IsCutting, HasValues}
use Rattle.chernikova.proofs.CountLemmas.{counts_decide}
use Rattle.chernikova.proofs.Positions.{has_values}
use Rattle.chernikova.proofs.step.plan_of_position.Goals as goal

pub returns-in_ok-mark_pairs-in-Cutting : goal.returns-in_ok-mark_pairs-in-Cutting
returns-in_ok-mark_pairs-in-Cutting c =
    let P : Position → Type 0 = λ p. IsPosition c.args.rows.now.rows c.args.k c.args.cone.now (lists_of c.args.scratch.now) p in
    let cutting : IsCutting (row_at c.args.rows.now.rows c.args.k, is_eq_at c.args.rows.now.rows c.args.k) c.args.cone.now c.args.scratch.now.ray_values.items = subst P c.in-Cutting.is c.requires.position in
    let Q : List ℤ → Type 0 = λ vs. AreAllCrosses vs c.args.cone.now.sat c.crossings.new.lists.pairs.items in
    record {
      cutting = cutting;
      are_marks = c.in_ok-mark_pairs-in-Cutting.ensures ∙ ap (λ (ps : List (ℕ × ℕ)). c.marks.new.place.items ++ replicate (length ps) true) c.as_slice.ensures ∙ ap (λ (ms : List Bool). ms ++ replicate (length c.crossings.new.lists.pairs.items) true) (c.in_ok-marks-in-Cutting.ensures ∙ ap (λ vs. map (λ value. stays c.is_eq.result value) vs) c.as_slice-values.ensures ∙ ap (λ (eq : Bool). map (λ value. stays eq value) c.args.scratch.now.ray_values.items) c.is_eq.ensures);
      crosses = subst Q c.as_slice-values.ensures c.in_ok-crossings-in-Cutting.ensures;
    }

pub crossings-requires-clause-decide : goal.crossings-requires-clause-decide
crossings-requires-clause-decide c = counts_decide c.args.rows.now.width c.args.rows.now.rows c.args.cone.now.lines.rows c.args.k (vectors c.args.cone.now.rays.rows) c.args.cone.now.sat c.least_shared-least.result (omega (arith, c.requires.row)) c.requires.state.system c.requires.state.zeros (omega (arith, c.least_shared-least.ensures, c.width.ensures.value, c.len.ensures))

pub crossings-requires-clause-as_many : goal.crossings-requires-clause-as_many
crossings-requires-clause-as_many c =
    let P : Position → Type 0 = λ p. HasValues (length c.args.cone.now.sat.rows) (lists_of c.args.scratch.now) p in
    ap (λ (vs : List ℤ). length vs) c.as_slice-values.ensures ∙ subst P c.in-Cutting.is (has_values c.args.rows.now.width c.args.rows.now.rows c.args.k c.args.cone.now (lists_of c.args.scratch.now) c.args.position c.requires.state c.requires.position)
