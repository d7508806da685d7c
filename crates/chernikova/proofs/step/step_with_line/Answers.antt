use Rattle.std.specs.Prelude.{◌≡◌, ◌≢◌, ◌+◌, ◌<◌, ℕ, ℤ, pos, List, Bool, length, All}
use Rattle.std.proofs.Common.{refl, sym, ap, subst, arith, ◌∙◌}
use Rattle.std.proofs.lemmas.Result.{err_from_is_err_and}
use Rattle.row_core.specs.Lists.{Row, row_at, vectors}
use Rattle.row_core.specs.Pairs.{value_at}
use Rattle.row_core.specs.Range.{InRange}
use Rattle.row_core.proofs.RowListLemmas.{length-vectors}
use Rattle.cone_laws.specs.Steps.{IsLineStep, IsLastCrossing}
use Rattle.row_store.specs.Vectors.{Vectors, as_rows}
use Rattle.row_store.specs.Values.{values_on}
use Rattle.row_store.proofs.ValueLemmas.{length-values_on, value_at-values_on}
use Rattle.sat_matrix.specs.TableSteps.{HasLineStep}
use Rattle.row_core.specs.MarkedLists.{AreLists}
use Rattle.row_store.specs.Changes.{IsLineChange}
use Rattle.chernikova.specs.Conversion.{IsState}
use Rattle.chernikova.proofs.StateLemmas.{line_step_from}
use Rattle.chernikova.proofs.StepLemmas.{line_fault_at}
use Rattle.chernikova.proofs.NextStates.{line_state}
use Rattle.chernikova.proofs.step.step_with_line.Goals as goal

-- as many values as vectors
values_size : (a : List ℤ) (list : List Row) (values : List ℤ) → values ≡ values_on a (vectors list) → length values ≡ length list
values_size a list values e = ap length e ∙ length-values_on a (vectors list) ∙ length-vectors list

-- a line of the list, on which the row isn't 0
crosses_at : (a : List ℤ) (lines : List Row) (values : List ℤ) (index : ℕ) → values ≡ values_on a (vectors lines) → IsLastCrossing a (vectors lines) index → (index < length lines) × (value_at values index ≢ pos 0)
crosses_at a lines values index e h = (
  omega (arith, h.below, length-vectors lines),
  (λ z. h.crosses (sym (ap (λ vs. value_at vs index) e ∙ value_at-values_on a (vectors lines) index h.below) ∙ z)),
)

pub line_step-requires-clause-room : goal.line_step-requires-clause-room
line_step-requires-clause-room g c = c.requires.ready.room.vectors

pub line_step-requires-clause-widths : goal.line_step-requires-clause-widths
line_step-requires-clause-widths g c = c.requires.ready.state.lists.lines_wide ∙ sym c.requires.ready.state.lists.rays_wide

pub line_step-requires-clause-as_many : goal.line_step-requires-clause-as_many
line_step-requires-clause-as_many g c =
    let plan = c.requires.ready.planned in (
      values_size (row_at c.args.rows.now.rows c.args.k) c.args.cone.now.lines.rows c.as_slice.result.now (c.as_slice.ensures ∙ plan.are_line_values),
      values_size (row_at c.args.rows.now.rows c.args.k) c.args.cone.now.rays.rows c.as_slice-2.result.now (c.as_slice-2.ensures ∙ plan.are_ray_values),
    )

pub line_step-requires-clause-in_range : goal.line_step-requires-clause-in_range
line_step-requires-clause-in_range g c =
    let P : List ℤ → Type 0 = λ vs. All InRange vs in
    (subst P (sym c.as_slice.ensures) c.requires.ready.planned.lines_in_range, subst P (sym c.as_slice-2.ensures) c.requires.ready.planned.rays_in_range)

pub line_step-requires-clause-crossing : goal.line_step-requires-clause-crossing
line_step-requires-clause-crossing g c =
    let plan = c.requires.ready.planned in
    crosses_at (row_at c.args.rows.now.rows c.args.k) c.args.cone.now.lines.rows c.as_slice.result.now c.args.index (c.as_slice.ensures ∙ plan.are_line_values) plan.crossing

pub line_step-requires-clause-primitive : goal.line_step-requires-clause-primitive
line_step-requires-clause-primitive g c = (c.requires.ready.state.system.primitive_lines, c.requires.ready.state.system.primitive_rays)

pub after_line_step-requires-clause-columns : goal.after_line_step-requires-clause-columns
after_line_step-requires-clause-columns g c = omega (arith, c.requires.ready.column.columns)

pub after_line_step-requires-clause-spare : goal.after_line_step-requires-clause-spare
after_line_step-requires-clause-spare g c = omega (arith, c.requires.ready.room.zeros)

pub returns-clause-no_fewer : goal.returns-clause-no_fewer
returns-clause-no_fewer g c = c.line_step.ensures.counted.0

pub returns-clause-counted : goal.returns-clause-counted
returns-clause-counted g c = omega (arith, c.line_step.ensures.counted.1)

pub returns-in_err-line_step-clause-no_fewer : goal.returns-in_err-line_step-clause-no_fewer
returns-in_err-line_step-clause-no_fewer g c = c.line_step.ensures.counted.0

pub returns-in_err-line_step-clause-counted : goal.returns-in_err-line_step-clause-counted
returns-in_err-line_step-clause-counted g c = omega (arith, c.line_step.ensures.counted.1)

pub returns-in_err-line_step-clause-state : goal.returns-in_err-line_step-clause-state
returns-in_err-line_step-clause-state g c =
    let plan = c.requires.ready.planned in
    let rows = c.args.rows.now.rows in
    let lines = vectors c.args.cone.now.lines.rows in
    let rays = vectors c.args.cone.now.rays.rows in
    let p = err_from_is_err_and c.from_residual.result c.from_residual.ensures.1 in
    rw (p.1, p.2)
    (line_fault_at rows c.args.k (row_at rows c.args.k) lines rays c.as_slice.result.now c.as_slice-2.result.now c.args.index c.in_err-line_step.field-0.0 refl
    (c.as_slice.ensures ∙ plan.are_line_values) (c.as_slice-2.ensures ∙ plan.are_ray_values) plan.crossing c.in_err-line_step.ensures.change)

pub returns-clause-state : goal.returns-clause-state
returns-clause-state g c =
    let ready = c.requires.ready in
    let plan = ready.planned in
    let rows = c.args.rows.now.rows in
    let cone = c.args.cone.now in
    let new_lines = c.line_step.new.new_lines in
    let new_rays = c.line_step.new.new_rays in
    let A : List ℤ → Type 0 = λ vs. IsLineChange c.args.index vs c.as_slice-2.result.now c.is_eq-eq.result c.args.cone.now.lines.rows c.args.cone.now.rays.rows c.line_step.new.new_lines.rows c.line_step.new.new_rays.rows in
    let B : List ℤ → Type 0 = λ vs. IsLineChange c.args.index (values_on (row_at c.args.rows.now.rows c.args.k) (vectors c.args.cone.now.lines.rows)) vs c.is_eq-eq.result c.args.cone.now.lines.rows c.args.cone.now.rays.rows c.line_step.new.new_lines.rows c.line_step.new.new_rays.rows in
    let W : ℕ → Type 0 = λ width. AreLists width (as_rows c.line_step.new.new_lines) (as_rows c.line_step.new.new_rays) in
    let E : Bool → Type 0 = λ eq. IsLineStep (row_at c.args.rows.now.rows c.args.k, eq) (vectors c.args.cone.now.lines.rows) (vectors c.args.cone.now.rays.rows) (vectors c.line_step.new.new_lines.rows) (vectors c.line_step.new.new_rays.rows) in
    let Z : Bool → Type 0 = λ eq. HasLineStep eq c.requires.ready.before c.after_line_step.new.zeros in
    let L : Vectors → Type 0 = λ lines. IsState c.args.rows.now.width c.args.rows.now.rows (c.args.k + 1) (record { lines = lines; rays = c.swap-2.new.x; sat = c.after_line_step.new.zeros }) in
    let R : Vectors → Type 0 = λ rays. IsState c.args.rows.now.width c.args.rows.now.rows (c.args.k + 1) (record { lines = c.line_step.new.new_lines; rays = rays; sat = c.after_line_step.new.zeros }) in
    subst L (sym c.swap.ensures.x_after) (subst R (sym c.swap-2.ensures.x_after)
    (line_state c.args.rows.now.width rows c.args.k (record cone { sat = ready.before }) new_lines new_rays c.after_line_step.new.zeros c.requires.row ready.state
    (record {
      lists = subst W ready.state.lists.lines_wide c.in_ok-line_step.ensures.lists;
      step = subst E c.is_eq-eq.ensures
          (line_step_from (row_at rows c.args.k) c.is_eq-eq.result c.args.index cone.lines.rows cone.rays.rows new_lines.rows new_rays.rows plan.crossing
          (subst B (c.as_slice-2.ensures ∙ plan.are_ray_values) (subst A (c.as_slice.ensures ∙ plan.are_line_values) c.in_ok-line_step.ensures.change)));
    })
    (subst Z c.is_eq-eq.ensures (c.after_line_step.ensures ready.before ready.column))))
