-- Room that is made for a step.
use Rattle.std.specs.Prelude.{◌≡◌, ℕ, ◌<◌, List, length, true, false, ℤ, pos}
use Rattle.std.proofs.Common.{sym, ap, ◌∙◌, subst}
use Rattle.std.proofs.lemmas.List.Elements.{All-same}
use Rattle.row_core.specs.Lists.{Row, row_at, is_eq_at, vectors, vector_at}
use Rattle.sat_matrix.specs.ZeroTables.{IsZeroTable}
use Rattle.cone_laws.specs.Cones.{Upto}
use Rattle.cone_laws.specs.Canon.{IsSystem}
use Rattle.row_core.specs.Vectors.{dot}
use Rattle.cone_laws.specs.Steps.{IsLastCrossing}
use Rattle.chernikova.specs.declared.system.System.{System}
use Rattle.chernikova.specs.declared.plan.Plan.{Plan}
use Rattle.chernikova.specs.declared.plan.Plan.TheVariants as plan
use Rattle.row_store.specs.Values.{values_on}
use Rattle.chernikova.specs.Conversion.{IsState}
use Rattle.chernikova.specs.Plans.{StepLists, IsPlan, IsFlat}
use Rattle.chernikova.specs.Rooms.{HasSameVectors}

-- the system with room, with the table of before, is that of the same rows
pub same_state : (width : ℕ) (rows : List Row) (k : ℕ) (old new : System) → HasSameVectors old new → IsState width rows k old → IsState width rows k (record new { sat = old.sat })
same_state width rows k old new same state =
    let L : List Row → Type 0 = λ ls. IsSystem (Upto width rows k) (vectors ls) (vectors old.rays.rows) in
    let R : List Row → Type 0 = λ rs. IsSystem (Upto width rows k) (vectors new.lines.rows) (vectors rs) in
    let Z : List Row → Type 0 = λ rs. IsZeroTable rows k (vectors rs) old.sat in
    record {
      narrow = state.narrow;
      lists = record {
        lines_wide = same.lines.width ∙ state.lists.lines_wide;
        rays_wide = same.rays.width ∙ state.lists.rays_wide;
        lines_marked = All-same (λ (row : Row). row.1 ≡ true) new.lines.rows old.lines.rows same.lines.rows state.lists.lines_marked;
        rays_marked = All-same (λ (row : Row). row.1 ≡ false) new.rays.rows old.rays.rows same.rays.rows state.lists.rays_marked;
      };
      system = subst R (sym same.rays.rows) (subst L (sym same.lines.rows) state.system);
      zeros = subst Z (sym same.rays.rows) state.zeros;
    }

same_flat : (row : Row) (old new : System) (values : List ℤ) → HasSameVectors old new → IsFlat row old values → IsFlat row (record new { sat = old.sat }) values
same_flat row old new values same h = record {
  flat = let P : List Row → Type 0 = λ ls. (i : ℕ) → i < length (vectors ls) → dot row.0 (vector_at (vectors ls) i) ≡ pos 0 in subst P (sym same.lines.rows) h.flat;
  are_values = h.are_values ∙ ap (λ (rs : List Row). values_on row.0 (vectors rs)) (sym same.rays.rows);
  in_range = h.in_range;
}

-- and the plan is the same
pub same_plan : (rows : List Row) (k : ℕ) (old new : System) (lists : StepLists) (step : Plan) → HasSameVectors old new → IsPlan rows k old lists step → IsPlan rows k (record new { sat = old.sat }) lists step
same_plan rows k old new lists (plan.Line index) same h = record {
  crossing = let P : List Row → Type 0 = λ ls. IsLastCrossing (row_at rows k) (vectors ls) index in subst P (sym same.lines.rows) h.crossing;
  are_line_values = h.are_line_values ∙ ap (λ (ls : List Row). values_on (row_at rows k) (vectors ls)) (sym same.lines.rows);
  are_ray_values = h.are_ray_values ∙ ap (λ (rs : List Row). values_on (row_at rows k) (vectors rs)) (sym same.rays.rows);
  lines_in_range = h.lines_in_range;
  rays_in_range = h.rays_in_range;
}
same_plan rows k old new lists plan.Same same h = (same_flat (row_at rows k, is_eq_at rows k) old new lists.ray_values same h.0, h.1)
same_plan rows k old new lists plan.Ray same h = record {
  cutting = (same_flat (row_at rows k, is_eq_at rows k) old new lists.ray_values same h.cutting.0, h.cutting.1);
  are_marks = h.are_marks;
  crosses = h.crosses;
}
