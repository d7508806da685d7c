use Rattle.std.specs.Prelude.{◌≡◌, ℕ, ◌+◌, ◌^◌, ◌<◌, Bool, false, List, [], ◌∷◌, ◌++◌, length, map, ℤ, pos, ◌≤ℤ◌}
use Rattle.std.proofs.Common.{refl, sym, ap, ◌∙◌, subst, arith, inl, inr, get_or, set, replicate}
use Rattle.std.proofs.lemmas.List.{get_or_default, length-map, length_push, get_or_past, length-set, length-replicate, get_or-replicate, get_or-set_same, get_or-set_other, set-set, set-get_or}
use Rattle.std.proofs.lemmas.Bool.{cases_lt}
use Rattle.row_core.specs.Vectors.{cell, dot}
use Rattle.row_core.specs.Lists.{Row, Rows, row_at, is_eq_at, vectors, Pointwise, vector_at}
use Rattle.sat_matrix.specs.Tables.{Table}
use Rattle.sat_matrix.specs.ZeroTables.{TellsZeros, IsZeroTable}
use Rattle.row_store.specs.Vectors.{Vectors, as_rows}
use Rattle.cone_laws.specs.Cones.{Upto}
use Rattle.cone_laws.specs.Canon.{IsSystem}
use Rattle.cone_laws.specs.Steps.{IsRowAt, AreUnits, IsRayStep}
use Rattle.row_core.specs.Signs.{stays}
use Rattle.cone_laws.proofs.UptoRows.{asks_least, both_zero}
use Rattle.cone_laws.proofs.NextSystems.{units_system, line_step_system, ray_step_system}
use Rattle.chernikova.specs.declared.system.System.{System}
use Rattle.chernikova.specs.declared.cone.Cone.{Cone}
use Rattle.row_store.specs.Values.{values_on}
use Rattle.sat_matrix.specs.TableSteps.{HasLineStep, HasRayStep}
use Rattle.row_core.specs.MarkedLists.{AreLists}
use Rattle.row_store.specs.Changes.{IsRayChange}
use Rattle.sat_matrix.specs.Pairs.{AreAllCrosses}
use Rattle.chernikova.specs.Conversion.{IsState, IsReopened, IsLineOutcome, IsRayOutcome}
use Rattle.row_core.proofs.RowListLemmas.{length-vectors, vector_at-vectors, row_at-push_before, row_at-push_last}
use Rattle.chernikova.proofs.StateLemmas.{zeros_after_line, ray_step_from}
use Rattle.row_store.proofs.ValueLemmas.{length-values_on}
use Rattle.chernikova.proofs.RayTables.{zeros_after_ray}

pub row_is_at : (rows : List Row) (k : ℕ) → k < length rows → IsRowAt rows k (row_at rows k, is_eq_at rows k)
row_is_at rows k below = record { below = below; same = get_or_default rows k (row_at rows k, is_eq_at rows k) ([], false) below }

-- the first rows are 0 on each line of their system
lines_flat : (width : ℕ) (rows : List Row) (k : ℕ) (lines rays : List (List ℤ)) → IsSystem (Upto width rows k) lines rays → (i j : ℕ) → i < length lines → j < k → dot (row_at rows j) (vector_at lines i) ≡ pos 0
lines_flat width rows k lines rays system i j inside below =
    let both = system.generates.lines_within i [] inside in
    both_zero width rows k (vector_at lines i) both.0 both.1 j ([], false) below

-- they are at least 0 on each ray
rays_least : (width : ℕ) (rows : List Row) (k : ℕ) (lines : List (List ℤ)) (rays : List Row) → IsSystem (Upto width rows k) lines (vectors rays) → (i j : ℕ) → i < length rays → j < k → pos 0 ≤ℤ dot (row_at rows j) (row_at rays i)
rays_least width rows k lines rays system i j inside below =
    let within = system.generates.rays_within i [] (omega (arith, inside, length-vectors rays)) in
    subst (λ (v : List ℤ). pos 0 ≤ℤ dot (row_at rows j) v) (vector_at-vectors rays i)
    (asks_least (is_eq_at rows j) (dot (row_at rows j) (vector_at (vectors rays) i)) (within.meets j ([], false) (omega arith) below))

pub rays_wide : (width : ℕ) (rows : List Row) (k : ℕ) (lines : List (List ℤ)) (rays : List Row) → IsSystem (Upto width rows k) lines (vectors rays) → (i : ℕ) → i < length rays → length (row_at rays i) ≡ width
rays_wide width rows k lines rays system i inside =
    ap length (sym (vector_at-vectors rays i)) ∙ (system.generates.rays_within i [] (omega (arith, inside, length-vectors rays))).wide

pub line_state : (width : ℕ) (rows : List Row) (k : ℕ) (cone : System) (lines rays : Vectors) (sat : Table) → k < length rows → IsState width rows k cone → IsLineOutcome width (row_at rows k, is_eq_at rows k) cone lines rays → HasLineStep (is_eq_at rows k) cone.sat sat → IsState width rows (k + 1) (record { lines = lines; rays = rays; sat = sat })
line_state width rows k cone lines rays sat below state outcome table = record {
  narrow = state.narrow;
  lists = outcome.lists;
  system = line_step_system width rows k (row_at rows k, is_eq_at rows k) (vectors cone.lines.rows) (vectors cone.rays.rows) (vectors lines.rows) (vectors rays.rows) (row_is_at rows k below) state.system outcome.step;
  zeros = zeros_after_line rows k (row_at rows k) (is_eq_at rows k) (vectors cone.lines.rows) (vectors cone.rays.rows) (vectors lines.rows) (vectors rays.rows) cone.sat sat refl (lines_flat width rows k (vectors cone.lines.rows) (vectors cone.rays.rows) state.system) state.zeros outcome.step table;
}

pub ray_state : (width : ℕ) (rows : List Row) (k : ℕ) (cone : System) (rays : Vectors) (values : List ℤ) (marks : List Bool) (pairs : List (ℕ × ℕ)) (sat : Table) → k < length rows → IsState width rows k cone → IsRayOutcome width (row_at rows k, is_eq_at rows k) cone rays values marks pairs → HasRayStep values marks pairs cone.sat sat → IsState width rows (k + 1) (record { lines = cone.lines; rays = rays; sat = sat })
ray_state width rows k cone rays values marks pairs sat below state outcome table =
    let a : List ℤ = row_at rows k in
    let eq : Bool = is_eq_at rows k in
    let old : List Row = cone.rays.rows in
    let is_marks : marks ≡ map (λ value. stays eq value) (values_on a (vectors old)) = outcome.is_marks ∙ ap (λ vs. map (λ value. stays eq value) vs) outcome.is_values in
    let P : List ℤ → Type 0 = λ vs. AreAllCrosses vs cone.sat pairs in
    let Q : List ℤ → Type 0 = λ vs. IsRayChange vs marks pairs old rays.rows in
    let R : List Bool → Type 0 = λ ms. IsRayChange (values_on a (vectors old)) ms pairs old rays.rows in
    let step : IsRayStep rows k (a, eq) (vectors old) (vectors rays.rows) =
    ray_step_from width rows k a eq old rays.rows cone.sat pairs (rays_wide width rows k (vectors cone.lines.rows) old state.system) state.zeros (subst P outcome.is_values outcome.crosses) (subst R is_marks (subst Q outcome.is_values outcome.step)) in
    let marked_size : length marks ≡ length old = ap length is_marks ∙ length-map (values_on a (vectors old)) (λ value. stays eq value) ∙ length-values_on a (vectors old) ∙ length-vectors old in
    record {
      narrow = state.narrow;
      lists = outcome.lists;
      system = ray_step_system width rows k (a, eq) (vectors cone.lines.rows) (vectors old) (vectors rays.rows) (row_is_at rows k below) outcome.flat state.system step;
      zeros = zeros_after_ray rows k a old rays.rows values marks pairs cone.sat sat refl (rays_least width rows k (vectors cone.lines.rows) old state.system) state.zeros outcome.is_values outcome.crosses outcome.step table marked_size;
    }

-- ---- the start
abbrev pub unit : ℕ → ℕ → List ℤ
unit width column = set (replicate width (pos 0)) column (pos 1)

zero_cells : (width j : ℕ) → get_or (replicate width (pos 0)) j (pos 0) ≡ pos 0
zero_cells width j = elim (cases_lt j width) [ inl less ↦ get_or-replicate width j (pos 0) (pos 0) less | inr more ↦ get_or_past (replicate width (pos 0)) j (pos 0) (omega (arith, length-replicate width (pos 0))) ]

-- the rows of the first columns' unit vectors
pub record AreUnitsUpto (width column : ℕ) (rows : List Row) : Type 0 where
  pub as_many : length rows ≡ column
  pub each : (i : ℕ) → i < column → row_at rows i ≡ unit width i

pub units_more : (width column : ℕ) (rows : List Row) (v : List ℤ) (eq : Bool) → AreUnitsUpto width column rows → v ≡ unit width column → AreUnitsUpto width (column + 1) (rows ++ (v, eq) ∷ [])
units_more width column rows v eq h is = record {
  as_many = omega (arith, length_push rows (v, eq), h.as_many);
  each = λ i below. elim (cases_lt i column) [
    | inl less ↦ row_at-push_before rows (v, eq) i (omega (arith, h.as_many)) ∙ h.each i less
    | inr more ↦
        let here : i ≡ column = omega arith in
        row_at-push_last rows (v, eq) i (omega (arith, h.as_many)) ∙ is ∙ ap (λ m. unit width m) (sym here)
  ];
}

pub units_all : (width : ℕ) (rows : List Row) → AreUnitsUpto width width rows → AreUnits width (vectors rows)
units_all width rows h =
    let at : (i : ℕ) → i < width → vector_at (vectors rows) i ≡ unit width i = λ i below. vector_at-vectors rows i ∙ h.each i below in
    let size : length (replicate width (pos 0)) ≡ width = length-replicate width (pos 0) in
    record {
      as_many = length-vectors rows ∙ h.as_many;
      wide = λ i below. ap length (at i below) ∙ length-set (replicate width (pos 0)) i (pos 1) ∙ size;
      one = λ i below. ap (λ v. cell v i) (at i below) ∙ get_or-set_same (replicate width (pos 0)) i (pos 1) (pos 0) (omega (arith, size));
      zeros = λ i j below ne. ap (λ v. cell v j) (at i below) ∙ get_or-set_other (replicate width (pos 0)) i j (pos 1) (pos 0) (λ e. ne (sym e)) ∙ zero_cells width j;
    }

pub start_state : (width : ℕ) (rows : List Row) (lines rays : Vectors) (sat : Table) → width < 2 ^ 32 → AreLists width (as_rows lines) (as_rows rays) → AreUnits width (vectors lines.rows) → rays.rows ≡ [] → sat.columns ≡ 0 → sat.rows ≡ [] → IsState width rows 0 (record { lines = lines; rays = rays; sat = sat })
start_state width rows lines rays sat narrow lists units no_rays columns no_rows =
    let P : List Row → Type 0 = λ rs. IsSystem (Upto width rows 0) (vectors lines.rows) (vectors rs) in
    record {
      narrow = narrow;
      lists = lists;
      system = subst P (sym no_rays) (units_system width rows (vectors lines.rows) units);
      zeros = record {
        columns = columns;
        each = record {
          as_many = ap length no_rows ∙ sym (ap (λ rs. length (vectors rs)) no_rays);
          each = λ i d e below. absurd (omega (arith, below, ap (λ rs. length (vectors rs)) no_rays));
        };
      };
    }

pub zeros_back : (width i : ℕ) (items : List ℤ) → items ≡ replicate width (pos 0) → set (set items i (pos 1)) i (pos 0) ≡ replicate width (pos 0)
zeros_back width i items e =
    set-set items i (pos 1) (pos 0) ∙ ap (λ xs. set xs i (pos 0)) e ∙ ap (λ z. set (replicate width (pos 0)) i z) (sym (zero_cells width i)) ∙ set-get_or (replicate width (pos 0)) i (pos 0)

-- the system that a conversion gave, with its lists in another form
pub reopened_state : (width : ℕ) (rows : List Row) (k : ℕ) (cone : Cone) (system : System) → width < 2 ^ 32 → AreLists width cone.lines cone.rays → IsSystem (Upto width rows k) (vectors cone.lines.rows) (vectors cone.rays.rows) → IsZeroTable rows k (vectors cone.rays.rows) cone.sat → IsReopened cone system → IsState width rows k system
reopened_state width rows k cone system narrow lists canon zeros same =
    let L : Rows → Type 0 = λ ls. AreLists width ls cone.rays in
    let R : Rows → Type 0 = λ rs. AreLists width (as_rows system.lines) rs in
    let M : Rows → Type 0 = λ ls. IsSystem (Upto width rows k) (vectors ls.rows) (vectors cone.rays.rows) in
    let S : Rows → Type 0 = λ rs. IsSystem (Upto width rows k) (vectors system.lines.rows) (vectors rs.rows) in
    let Z : Rows → Type 0 = λ rs. Pointwise (TellsZeros rows k) (vectors rs.rows) cone.sat.rows in
    let T : List (List Bool) → Type 0 = λ bs. Pointwise (TellsZeros rows k) (vectors system.rays.rows) bs in
    record {
      narrow = narrow;
      lists = subst R (sym same.rays) (subst L (sym same.lines) lists);
      system = subst S (sym same.rays) (subst M (sym same.lines) canon);
      zeros = record { columns = same.columns ∙ zeros.columns; each = subst T (sym same.zeros) (subst Z (sym same.rays) zeros.each) };
    }
