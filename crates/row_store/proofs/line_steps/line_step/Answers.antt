use Rattle.std.specs.Prelude.{◌≡◌, ◌≢◌, ◌<◌, ℕ, ℤ, pos, List, [], All, length, false}
use Rattle.std.specs.Int.{w128}
use Rattle.std.proofs.Common.{sym, subst, ◌∙◌, get_or, arith, ap}
use Rattle.std.proofs.lemmas.Int.{to_z-of_z}
use Rattle.std.proofs.lemmas.List.Elements.{All-get_or, All-same}
use mir.Val.{SFits, to_z, of_z}
use Rattle.row_core.specs.Range.{InRange, AllInRange}
use Rattle.std.proofs.lemmas.Result.{err_from_is_err_and}
use Rattle.row_core.specs.Lists.{Row, vector_at, vectors}
use Rattle.row_store.specs.declared.fault.Part.TheVariants.{Rays}
use Rattle.row_core.specs.Sizes.{HaveBits}
use Rattle.row_core.specs.Pairs.{value_at}
use Rattle.row_store.specs.Changes.{AreLowered}
use Rattle.row_store.specs.Faults.{IsLowerFault, IsOtherFault}
use Rattle.row_core.proofs.SignTests.{fits}
use Rattle.row_core.proofs.RowListLemmas.{vector_at-vectors, length-vectors}
use Rattle.row_store.proofs.FaultLemmas.{line_fault_from_line, line_fault_from_ray}
use Rattle.row_store.proofs.ChangeLemmas.{line_change, marked_with_upward, marked_none}
use Rattle.row_store.proofs.line_steps.line_step.Goals as goal

-- a value in the range is itself where it is passed on
fits_at : (values : List ℤ) (index : ℕ) → index < length values → All InRange values → SFits w128 (get_or values index (pos 0))
fits_at values index below h = fits (get_or values index (pos 0)) (All-get_or InRange values index (pos 0) below h)

-- and so is in the range
passed_in_range : (values : List ℤ) (index : ℕ) → index < length values → All InRange values → InRange (to_z w128 (of_z w128 (get_or values index (pos 0))))
passed_in_range values index below h = subst InRange (sym (to_z-of_z w128 _ (fits_at values index below h))) (All-get_or InRange values index (pos 0) below h)

-- and isn't 0 where the value isn't
passed_nonzero : (values : List ℤ) (index : ℕ) → index < length values → All InRange values → value_at values index ≢ pos 0 → to_z w128 (of_z w128 (get_or values index (pos 0))) ≢ pos 0
passed_nonzero values index below h nonzero = λ e. nonzero (sym (to_z-of_z w128 _ (fits_at values index below h)) ∙ e)

pub returns-in_err-lower_range-clause-change : goal.returns-in_err-lower_range-clause-change
returns-in_err-lower_range-clause-change g c =
    let lines = c.args.system.lines.now.rows in
    let rays = c.args.system.rays.now.rows in
    let value_fits = fits_at c.args.system.line_values.now c.args.index (omega (arith, c.requires.crossing.0, c.requires.as_many.0)) c.requires.in_range.0 in
    let p = err_from_is_err_and c.from_residual-in_err-lower_range.result c.from_residual-in_err-lower_range.ensures.1 in
    let line : c.row.result.now ≡ vector_at (vectors lines) c.args.index = c.row.ensures.value ∙ sym (vector_at-vectors lines c.args.index) in
    let P : List ℤ → Type 0 = λ w. IsLowerFault (value_at c.args.system.line_values.now c.args.index) c.args.index w Rays 0 c.len-count.result c.args.system.ray_values.now (vectors rays) c.in_err-lower_range.field-0.0 in
    rw (p.1, p.2) (line_fault_from_ray c.args.index c.args.system.line_values.now c.args.system.ray_values.now (vectors lines) (vectors rays) c.len-count.result c.in_err-lower_range.field-0.0 (c.len-count.ensures ∙ sym (length-vectors rays)) (subst P line (simp to_z-of_z at c.in_err-lower_range.ensures.lowered)))

pub returns-clause-lists : goal.returns-clause-lists
returns-clause-lists g c = record {
  lines_wide = c.in_ok-lower_lines.ensures.width ∙ c.requires.room.lines_width;
  rays_wide = c.push_upward.ensures.width ∙ c.in_ok-lower_range.ensures.width ∙ c.requires.room.rays_width;
  lines_marked = c.in_ok-lower_lines.ensures.marked;
  rays_marked = marked_with_upward c.args.eq _ _ c.lower_range.new.into.rows c.push_upward.new.rays.rows c.push_upward.ensures.rows c.in_ok-lower_range.ensures.marked;
}

pub lower_lines-requires-clause-in_range : goal.lower_lines-requires-clause-in_range
lower_lines-requires-clause-in_range g c = (c.requires.in_range.0, passed_in_range c.args.system.line_values.now c.args.index (subst (λ (n : ℕ). c.args.index < n) (sym c.requires.as_many.0) c.requires.crossing.0) c.requires.in_range.0)

pub lower_lines-requires-clause-nonzero : goal.lower_lines-requires-clause-nonzero
lower_lines-requires-clause-nonzero g c = passed_nonzero c.args.system.line_values.now c.args.index (subst (λ (n : ℕ). c.args.index < n) (sym c.requires.as_many.0) c.requires.crossing.0) c.requires.in_range.0 c.requires.crossing.1

pub lower_range-requires-clause-in_range : goal.lower_range-requires-clause-in_range
lower_range-requires-clause-in_range g c = (c.requires.in_range.1, passed_in_range c.args.system.line_values.now c.args.index (subst (λ (n : ℕ). c.args.index < n) (sym c.requires.as_many.0) c.requires.crossing.0) c.requires.in_range.0)

pub lower_range-requires-clause-nonzero : goal.lower_range-requires-clause-nonzero
lower_range-requires-clause-nonzero g c = passed_nonzero c.args.system.line_values.now c.args.index (subst (λ (n : ℕ). c.args.index < n) (sym c.requires.as_many.0) c.requires.crossing.0) c.requires.in_range.0 c.requires.crossing.1

pub push_upward-requires-clause-nonzero : goal.push_upward-requires-clause-nonzero
push_upward-requires-clause-nonzero g c =
    let value_fits = fits_at c.args.system.line_values.now c.args.index (subst (λ (n : ℕ). c.args.index < n) (sym c.requires.as_many.0) c.requires.crossing.0) c.requires.in_range.0 in
    simp to_z-of_z c.requires.crossing.1

pub returns-in_err-lower_lines-clause-change : goal.returns-in_err-lower_lines-clause-change
returns-in_err-lower_lines-clause-change g c =
    let lines = c.args.system.lines.now.rows in
    let rays = c.args.system.rays.now.rows in
    let value_fits = fits_at c.args.system.line_values.now c.args.index (omega (arith, c.requires.crossing.0, c.requires.as_many.0)) c.requires.in_range.0 in
    let p = err_from_is_err_and c.from_residual.result c.from_residual.ensures.1 in
    let line : c.row.result.now ≡ vector_at (vectors lines) c.args.index = c.row.ensures.value ∙ sym (vector_at-vectors lines c.args.index) in
    let P : List ℤ → Type 0 = λ w. IsOtherFault (value_at c.args.system.line_values.now c.args.index) c.args.index w c.args.system.line_values.now (vectors lines) c.in_err-lower_lines.field-0.0 in
    rw (p.1, p.2) (line_fault_from_line c.args.index c.args.system.line_values.now c.args.system.ray_values.now (vectors lines) (vectors rays) c.in_err-lower_lines.field-0.0 (subst P line (simp to_z-of_z at c.in_err-lower_lines.ensures.lowered)))

pub push_upward-requires-clause-in_range : goal.push_upward-requires-clause-in_range
push_upward-requires-clause-in_range g c =
    let below : c.args.index < length c.args.system.line_values.now = omega (arith, c.requires.crossing.0, c.requires.as_many.0) in
    let value_fits = fits_at c.args.system.line_values.now c.args.index below c.requires.in_range.0 in (
      subst AllInRange (sym c.row.ensures.value) c.row.ensures.in_range,
      simp to_z-of_z (All-get_or InRange c.args.system.line_values.now c.args.index (pos 0) below c.requires.in_range.0),
    )

pub returns-clause-change : goal.returns-clause-change
returns-clause-change g c =
    let value_fits = fits_at c.args.system.line_values.now c.args.index (omega (arith, c.requires.crossing.0, c.requires.as_many.0)) c.requires.in_range.0 in
    let u : ℤ = to_z w128 (of_z w128 (get_or c.args.system.line_values.now c.args.index (pos 0))) in
    let P : ℕ → List Row → Type 0 = λ n old. AreLowered u c.row.result.now c.args.system.ray_values.now c.args.system.rays.now.rows 0 n old c.lower_range.new.into.rows in
    let lowered = subst (P c.len-count.result) c.requires.room.no_rays c.in_ok-lower_range.ensures.lowered in
    line_change c.args.index c.args.system.line_values.now c.args.system.ray_values.now c.args.eq c.args.system.lines.now.rows c.args.system.rays.now.rows c.lower_lines.new.into.rows c.lower_range.new.into.rows c.push_upward.new.rays.rows u c.row.result.now (to_z-of_z w128 _ value_fits) c.row.ensures.value
    c.in_ok-lower_lines.ensures.lowered (subst (λ (n : ℕ). P n []) c.len-count.ensures lowered) (simp to_z-of_z at c.push_upward.ensures.rows)

pub lower_lines-requires-clause-line : goal.lower_lines-requires-clause-line
lower_lines-requires-clause-line g c = ap (λ (v : List ℤ). length v) c.row.ensures.value ∙ c.row.ensures.wide ∙ sym c.requires.room.lines_width

pub lower_range-requires-clause-line : goal.lower_range-requires-clause-line
lower_range-requires-clause-line g c = ap (λ (v : List ℤ). length v) c.row.ensures.value ∙ c.row.ensures.wide ∙ sym c.requires.room.rays_width

pub lower_range-requires-clause-wide : goal.lower_range-requires-clause-wide
lower_range-requires-clause-wide g c = sym c.requires.widths ∙ sym c.requires.room.rays_width

pub push_upward-requires-clause-wide : goal.push_upward-requires-clause-wide
push_upward-requires-clause-wide g c = ap (λ (v : List ℤ). length v) c.row.ensures.value ∙ c.row.ensures.wide ∙ sym c.requires.room.rays_width ∙ sym c.in_ok-lower_range.ensures.width

pub lower_range-requires-clause-as_many : goal.lower_range-requires-clause-as_many
lower_range-requires-clause-as_many g c = c.requires.as_many.1

pub lower_lines-requires-clause-bits : goal.lower_lines-requires-clause-bits
lower_lines-requires-clause-bits g c = subst (HaveBits c.bits.result) (sym c.row.ensures.value) (c.bits.ensures c.args.index c.requires.crossing.0)

pub lower_range-requires-clause-bits : goal.lower_range-requires-clause-bits
lower_range-requires-clause-bits g c = subst (HaveBits c.bits.result) (sym c.row.ensures.value) (c.bits.ensures c.args.index c.requires.crossing.0)

pub lower_range-requires-clause-spare : goal.lower_range-requires-clause-spare
lower_range-requires-clause-spare g c = omega (arith, c.requires.room.ray_room, c.len-count.ensures)

pub lower_range-requires-clause-marked : goal.lower_range-requires-clause-marked
lower_range-requires-clause-marked g c = All-same (λ (row : Row). row.1 ≡ false) c.args.new_rays.now.rows [] c.requires.room.no_rays (marked_none false)

pub lower_lines-requires-clause-spare : goal.lower_lines-requires-clause-spare
lower_lines-requires-clause-spare g c = c.requires.room.line_room

pub lower_lines-requires-clause-empty : goal.lower_lines-requires-clause-empty
lower_lines-requires-clause-empty g c = c.requires.room.no_lines

pub lower_lines-requires-clause-wide : goal.lower_lines-requires-clause-wide
lower_lines-requires-clause-wide g c = sym c.requires.room.lines_width

pub lower_lines-requires-clause-index : goal.lower_lines-requires-clause-index
lower_lines-requires-clause-index g c = c.requires.crossing.0

pub lower_lines-requires-clause-as_many : goal.lower_lines-requires-clause-as_many
lower_lines-requires-clause-as_many g c = c.requires.as_many.0

pub lower_lines-requires-clause-primitive : goal.lower_lines-requires-clause-primitive
lower_lines-requires-clause-primitive g c = c.requires.primitive.0

pub lower_range-requires-clause-bounds : goal.lower_range-requires-clause-bounds
lower_range-requires-clause-bounds g c = (omega arith, omega (arith, c.len-count.ensures))

pub lower_range-requires-clause-primitive : goal.lower_range-requires-clause-primitive
lower_range-requires-clause-primitive g c = c.requires.primitive.1

pub push_upward-requires-clause-spare : goal.push_upward-requires-clause-spare
push_upward-requires-clause-spare g c = omega (arith, c.in_ok-lower_range.ensures.spare, c.requires.room.ray_room, c.len-count.ensures)

pub push_upward-requires-clause-marked : goal.push_upward-requires-clause-marked
push_upward-requires-clause-marked g c = c.in_ok-lower_range.ensures.marked

pub returns-clause-counted : goal.returns-clause-counted
returns-clause-counted g c = (omega (arith, c.in_ok-lower_lines.ensures.no_fewer, c.in_ok-lower_range.ensures.counted), omega (arith, c.in_ok-lower_lines.ensures.counted, c.in_ok-lower_range.ensures.counted, c.len-count.ensures))

pub returns-in_err-lower_lines-clause-counted : goal.returns-in_err-lower_lines-clause-counted
returns-in_err-lower_lines-clause-counted g c = (c.in_err-lower_lines.ensures.no_fewer, omega (arith, c.in_err-lower_lines.ensures.counted))

pub returns-in_err-lower_range-clause-counted : goal.returns-in_err-lower_range-clause-counted
returns-in_err-lower_range-clause-counted g c = (omega (arith, c.in_ok-lower_lines.ensures.no_fewer, c.in_err-lower_range.ensures.counted), omega (arith, c.in_ok-lower_lines.ensures.counted, c.in_err-lower_range.ensures.counted, c.len-count.ensures))
