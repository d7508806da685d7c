use Rattle.std.specs.Prelude.{◌≡◌, ◌+◌, ◌++◌, ℕ, ℤ, List, Bool, true, length, map, replicate, All}
use Rattle.std.proofs.Common.{refl, sym, ap, subst, arith, ◌∙◌, length-append}
use Rattle.std.proofs.lemmas.List.{length-map, length-replicate}
use Rattle.std.proofs.lemmas.Result.{err_from_is_err_and}
use Rattle.row_core.specs.Lists.{Row, row_at, is_eq_at, vectors}
use Rattle.row_core.specs.Range.{InRange}
use Rattle.row_core.proofs.RowListLemmas.{length-vectors}
use Rattle.row_core.specs.Signs.{stays}
use Rattle.sat_matrix.specs.Tables.{Table}
use Rattle.sat_matrix.specs.TableSteps.{HasRayStep, HasFalseColumn, AreWithin}
use Rattle.row_store.specs.Changes.{IsRayChange, ArePairs}
use Rattle.row_store.specs.Values.{values_on}
use Rattle.row_store.proofs.ValueLemmas.{length-values_on}
use Rattle.sat_matrix.specs.Pairs.{AreAllCrosses}
use Rattle.chernikova.specs.Plans.{marks_of}
use Rattle.chernikova.proofs.StepLemmas.{pair_fault_at}
use Rattle.chernikova.proofs.NextStates.{ray_state}
use Rattle.chernikova.proofs.step.step_with_pairs.Goals as goal

-- as many values as rays
values_size : (a : List ℤ) (rays : List Row) (values : List ℤ) → values ≡ values_on a (vectors rays) → length values ≡ length rays
values_size a rays values e = ap length e ∙ length-values_on a (vectors rays) ∙ length-vectors rays

-- a mark for each value and for each pair
marks_size : (P : ℤ → Bool) (values : List ℤ) (pairs : ℕ) → length (map P values ++ replicate pairs true) ≡ length values + pairs
marks_size P values pairs = omega (arith, length-append (map P values) (replicate pairs true), length-map values P, length-replicate pairs true)

-- the table with a column more has as many rows
table_size : (before sat : Table) → HasFalseColumn before sat → length sat.rows ≡ length before.rows
table_size before sat h = ap length h.rows ∙ length-map before.rows _

pub ray_step-requires-clause-spare : goal.ray_step-requires-clause-spare
ray_step-requires-clause-spare g c = omega (arith, c.requires.ready.room.rays, ap (λ (ps : List (ℕ × ℕ)). length ps) c.as_slice-pairs.ensures)

pub ray_step-requires-clause-as_many : goal.ray_step-requires-clause-as_many
ray_step-requires-clause-as_many g c =
    values_size (row_at c.args.rows.now.rows c.args.k) c.args.cone.now.rays.rows c.as_slice-values.result.now (c.as_slice-values.ensures ∙ c.requires.ready.planned.cutting.0.are_values)

pub ray_step-requires-clause-marks : goal.ray_step-requires-clause-marks
ray_step-requires-clause-marks g c =
    let plan = c.requires.ready.planned in
    omega (
      arith,
      ap (λ (ms : List Bool). length ms) (c.as_slice-marks.ensures ∙ plan.are_marks),
      marks_size (stays (is_eq_at c.args.rows.now.rows c.args.k)) c.args.scratch.now.ray_values.items (length c.args.scratch.now.pair_lists.pairs.items),
      values_size (row_at c.args.rows.now.rows c.args.k) c.args.cone.now.rays.rows c.args.scratch.now.ray_values.items plan.cutting.0.are_values,
      ap (λ (ps : List (ℕ × ℕ)). length ps) c.as_slice-pairs.ensures,
    )

pub ray_step-requires-clause-in_range : goal.ray_step-requires-clause-in_range
ray_step-requires-clause-in_range g c = subst (λ (vs : List ℤ). All InRange vs) (sym c.as_slice-values.ensures) c.requires.ready.planned.cutting.0.in_range

pub ray_step-requires-clause-opposite : goal.ray_step-requires-clause-opposite
ray_step-requires-clause-opposite g c =
    let V : List ℤ → Type 0 = λ vs. ArePairs vs c.as_slice-pairs.result.now in
    let Q : List (ℕ × ℕ) → Type 0 = λ pairs. ArePairs c.args.scratch.now.ray_values.items pairs in
    subst V (sym c.as_slice-values.ensures) (subst Q (sym c.as_slice-pairs.ensures) (λ i below. (c.requires.ready.planned.crosses.each i below).pair))

pub ray_step-requires-clause-marked : goal.ray_step-requires-clause-marked
ray_step-requires-clause-marked g c = c.requires.ready.state.lists.rays_marked

pub after_ray_step-requires-clause-columns : goal.after_ray_step-requires-clause-columns
after_ray_step-requires-clause-columns g c = omega (arith, c.requires.ready.column.columns)

pub after_ray_step-requires-clause-spare : goal.after_ray_step-requires-clause-spare
after_ray_step-requires-clause-spare g c = omega (arith, c.requires.ready.room.zeros, ap (λ (ps : List (ℕ × ℕ)). length ps) c.as_slice-pairs.ensures)

pub after_ray_step-requires-clause-as_many : goal.after_ray_step-requires-clause-as_many
after_ray_step-requires-clause-as_many g c =
    let ready = c.requires.ready in
    omega (arith, ap (λ (vs : List ℤ). length vs) (c.as_slice-values.ensures ∙ ready.planned.cutting.0.are_values), length-values_on (row_at c.args.rows.now.rows c.args.k) (vectors c.args.cone.now.rays.rows), table_size ready.before c.args.cone.now.sat ready.column, ready.state.zeros.each.as_many)

pub after_ray_step-requires-clause-marks : goal.after_ray_step-requires-clause-marks
after_ray_step-requires-clause-marks g c =
    let ready = c.requires.ready in
    omega (
      arith,
      ap (λ (ms : List Bool). length ms) (c.as_slice-marks.ensures ∙ ready.planned.are_marks),
      marks_size (stays (is_eq_at c.args.rows.now.rows c.args.k)) c.args.scratch.now.ray_values.items (length c.args.scratch.now.pair_lists.pairs.items),
      ap (λ (ps : List (ℕ × ℕ)). length ps) c.as_slice-pairs.ensures,
      ap (λ (vs : List ℤ). length vs) ready.planned.cutting.0.are_values,
      length-values_on (row_at c.args.rows.now.rows c.args.k) (vectors c.args.cone.now.rays.rows),
      table_size ready.before c.args.cone.now.sat ready.column,
      ready.state.zeros.each.as_many,
    )

pub after_ray_step-requires-clause-pairs : goal.after_ray_step-requires-clause-pairs
after_ray_step-requires-clause-pairs g c =
    let ready = c.requires.ready in
    let size : length c.args.scratch.now.ray_values.items ≡ length c.args.cone.now.sat.rows =
    ap (λ (vs : List ℤ). length vs) ready.planned.cutting.0.are_values ∙ length-values_on (row_at c.args.rows.now.rows c.args.k) (vectors c.args.cone.now.rays.rows) ∙ sym ready.state.zeros.each.as_many ∙ sym (table_size ready.before c.args.cone.now.sat ready.column) in
    let W : ℕ → Type 0 = λ n. AreWithin n c.as_slice-pairs.result.now in
    let Q : List (ℕ × ℕ) → Type 0 = λ pairs. AreWithin (length c.args.scratch.now.ray_values.items) pairs in
    subst W size (subst Q (sym c.as_slice-pairs.ensures) (λ i below. let pair = (c.requires.ready.planned.crosses.each i below).pair in (pair.first, pair.second)))

pub returns-clause-no_fewer : goal.returns-clause-no_fewer
returns-clause-no_fewer g c = c.ray_step.ensures.counted.0

pub returns-clause-counted : goal.returns-clause-counted
returns-clause-counted g c = omega (arith, c.ray_step.ensures.counted.1, ap (λ (ps : List (ℕ × ℕ)). length ps) c.as_slice-pairs.ensures)

pub returns-in_err-ray_step-clause-no_fewer : goal.returns-in_err-ray_step-clause-no_fewer
returns-in_err-ray_step-clause-no_fewer g c = c.ray_step.ensures.counted.0

pub returns-in_err-ray_step-clause-counted : goal.returns-in_err-ray_step-clause-counted
returns-in_err-ray_step-clause-counted g c = omega (arith, c.ray_step.ensures.counted.1, ap (λ (ps : List (ℕ × ℕ)). length ps) c.as_slice-pairs.ensures)

pub returns-in_err-ray_step-clause-state : goal.returns-in_err-ray_step-clause-state
returns-in_err-ray_step-clause-state g c =
    let ready = c.requires.ready in
    let plan = ready.planned in
    let rows = c.args.rows.now.rows in
    let lines = vectors c.args.cone.now.lines.rows in
    let rays = vectors c.args.cone.now.rays.rows in
    let V : List ℤ → Type 0 = λ vs. AreAllCrosses vs c.requires.ready.before c.as_slice-pairs.result.now in
    let Q : List (ℕ × ℕ) → Type 0 = λ pairs. AreAllCrosses c.args.scratch.now.ray_values.items c.requires.ready.before pairs in
    let p = err_from_is_err_and c.from_residual.result c.from_residual.ensures.1 in
    rw (p.1, p.2)
    (pair_fault_at rows c.args.k (row_at rows c.args.k) lines rays c.as_slice-values.result.now c.as_slice-pairs.result.now ready.before c.in_err-ray_step.field-0.0 refl (c.as_slice-values.ensures ∙ plan.cutting.0.are_values) plan.cutting.0.flat
    ready.state.zeros (subst V (sym c.as_slice-values.ensures) (subst Q (sym c.as_slice-pairs.ensures) plan.crosses)) c.in_err-ray_step.ensures.change)

pub returns-clause-state : goal.returns-clause-state
returns-clause-state g c =
    let ready = c.requires.ready in
    let plan = ready.planned in
    let rows = c.args.rows.now.rows in
    let marks : List Bool = map (λ value. stays (is_eq_at c.args.rows.now.rows c.args.k) value) c.args.scratch.now.ray_values.items in
    let keep : c.as_slice-marks.result.now ≡ marks ++ replicate (length c.as_slice-pairs.result.now) true =
    c.as_slice-marks.ensures ∙ plan.are_marks ∙ ap (λ (ps : List (ℕ × ℕ)). marks_of (is_eq_at c.args.rows.now.rows c.args.k) c.args.scratch.now.ray_values.items (length ps)) (sym c.as_slice-pairs.ensures) in
    let V : List ℤ → Type 0 = λ vs. IsRayChange vs (map (λ value. stays (is_eq_at c.args.rows.now.rows c.args.k) value) c.args.scratch.now.ray_values.items) c.as_slice-pairs.result.now c.args.cone.now.rays.rows c.ray_step.new.rays.rows in
    let Q : List (ℕ × ℕ) → Type 0 = λ ps. IsRayChange c.args.scratch.now.ray_values.items (map (λ value. stays (is_eq_at c.args.rows.now.rows c.args.k) value) c.args.scratch.now.ray_values.items) ps c.args.cone.now.rays.rows c.ray_step.new.rays.rows in
    let S : List ℤ → Type 0 = λ vs. HasRayStep vs (map (λ value. stays (is_eq_at c.args.rows.now.rows c.args.k) value) c.args.scratch.now.ray_values.items) c.as_slice-pairs.result.now c.requires.ready.before c.after_ray_step.new.zeros in
    let T : List (ℕ × ℕ) → Type 0 = λ ps. HasRayStep c.args.scratch.now.ray_values.items (map (λ value. stays (is_eq_at c.args.rows.now.rows c.args.k) value) c.args.scratch.now.ray_values.items) ps c.requires.ready.before c.after_ray_step.new.zeros in
    ray_state c.args.rows.now.width rows c.args.k (record c.args.cone.now { sat = ready.before }) c.ray_step.new.rays c.args.scratch.now.ray_values.items marks c.args.scratch.now.pair_lists.pairs.items c.after_ray_step.new.zeros c.requires.row ready.state
    (record {
      lists = record {
        lines_wide = ready.state.lists.lines_wide;
        rays_wide = c.ray_step.ensures.width ∙ ready.state.lists.rays_wide;
        lines_marked = ready.state.lists.lines_marked;
        rays_marked = c.ray_step.ensures.marked;
      };
      flat = plan.cutting.0.flat;
      is_values = plan.cutting.0.are_values;
      is_marks = refl;
      crosses = plan.crosses;
      step = subst Q c.as_slice-pairs.ensures (subst V c.as_slice-values.ensures (c.in_ok-ray_step.ensures.change marks keep));
    })
    (subst T c.as_slice-pairs.ensures (subst S c.as_slice-values.ensures (c.after_ray_step.ensures ready.before marks ready.column keep)))
