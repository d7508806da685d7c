-- How a row lies to a system, and whether it changes it.
use Rattle.std.specs.Prelude.{◌≡◌, ℕ, suc, ◌+◌, ◌<◌, Bool, true, false, List, [], ◌∷◌, length, map, replicate, ℤ, pos, ◌<ℤ◌, ◌≤ℤ◌}
use Rattle.std.specs.Ordering.{int_eq}
use Rattle.std.proofs.Common.{refl, sym, ap, ◌∙◌, subst, arith}
use Rattle.std.proofs.lemmas.Int.{ints}
use Rattle.std.proofs.lemmas.List.{append-nil}
use Rattle.row_core.specs.Lists.{Row, row_at, is_eq_at, vectors}
use Rattle.flat_rows.specs.Flat.{marked}
use Rattle.sat_matrix.specs.Tables.{Table}
use Rattle.cone_laws.specs.Cones.{Upto}
use Rattle.cone_laws.specs.Canon.{IsSystem}
use Rattle.cone_laws.specs.Steps.{IsRayStep}
use Rattle.row_core.specs.Signs.{stays}
use Rattle.cone_laws.proofs.RaySteps.{stays_asks}
use Rattle.cone_laws.proofs.NextSystems.{ray_step_system}
use Rattle.chernikova.specs.declared.system.System.{System}
use Rattle.chernikova.specs.declared.plan.Position.{Position}
use Rattle.chernikova.specs.declared.plan.Position.TheVariants as position
use Rattle.row_store.specs.Values.{values_on, AllStay}
use Rattle.sat_matrix.specs.TableSteps.{HasColumn, HasRayStep}
use Rattle.row_core.specs.Pairs.{value_at}
use Rattle.row_store.specs.Changes.{IsRayChange}
use Rattle.sat_matrix.specs.Pairs.{AreAllCrosses}
use Rattle.chernikova.specs.Conversion.{IsState, IsRayOutcome}
use Rattle.chernikova.specs.Plans.{StepLists, IsMet, IsPosition, HasValues}
use Rattle.chernikova.proofs.StateLemmas.{ray_step_from}
use Rattle.row_store.proofs.ValueLemmas.{length-values_on}
use Rattle.flat_rows.proofs.Marked.{marked_all}
use Rattle.chernikova.proofs.NextStates.{row_is_at, rays_wide, ray_state}

-- ---- a row that each ray meets
all_marked : (eq : Bool) (values : List ℤ) → AllStay eq values → map (λ value. stays eq value) values ≡ replicate (length values) true
all_marked eq [] h = refl
all_marked eq (v ∷ vs) h =
    ap (λ b. b ∷ map (λ value. stays eq value) vs) (h 0 (omega arith)) ∙ ap (λ bs. true ∷ bs) (all_marked eq vs (λ i below. h (suc i) (omega (arith, below))))

stays_least : (eq : Bool) (v : ℤ) → stays eq v ≡ true → ¬ (v <ℤ pos 0)
stays_least true v e below = let z : v ≡ pos 0 = stays_asks true v e in omega (arith, ints, z, below)
stays_least false v e below = let z : pos 0 ≤ℤ v = stays_asks false v e in omega (arith, ints, z, below)

-- no two rays cross
no_crosses : (eq : Bool) (values : List ℤ) (table : Table) → AllStay eq values → AreAllCrosses values table []
no_crosses eq values table h = record {
  each = λ i below. absurd (omega (arith, below));
  all = λ p n is. absurd (stays_least eq (value_at values n) (h n is.pair.second) is.pair.below);
  distinct = λ i j first second. absurd (omega (arith, first));
}

column_is_step : (values : List ℤ) (marks : List Bool) (old new : Table) → marks ≡ replicate (length values) true → length old.rows ≡ length values → HasColumn (map (λ value. int_eq value (pos 0)) values) old new → HasRayStep values marks [] old new
column_is_step values marks old new all same column = record {
  first = new;
  second = new;
  column = column;
  has_pairs = record { columns = refl; as_many = omega arith; before = λ i below. refl; each = λ i below. absurd (omega (arith, below)) };
  columns = refl;
  kept = sym (ap (λ ms. marked ms new.rows) (append-nil marks ∙ all) ∙ marked_all (length values) new.rows (omega (arith, column.as_many, same)));
}

-- all rays are kept, and none is made
no_change : (eq : Bool) (values : List ℤ) (rays : List Row) → AllStay eq values → length values ≡ length (vectors rays) → IsRayChange values (map (λ value. stays eq value) values) [] rays rays
no_change eq values rays h size = record {
  made = [];
  is_made = record { as_many = refl; each = λ i inside. absurd (omega (arith, inside)) };
  result = sym (append-nil (marked (map (λ value. stays eq value) values) (vectors rays)) ∙ ap (λ ms. marked ms (vectors rays)) (all_marked eq values h) ∙ marked_all (length values) (vectors rays) size);
}

-- the system is that of the row too
pub met_system : (width : ℕ) (rows : List Row) (k : ℕ) (cone : System) (values : List ℤ) → k < length rows → IsState width rows k cone → IsMet (row_at rows k, is_eq_at rows k) cone values → IsSystem (Upto width rows (k + 1)) (vectors cone.lines.rows) (vectors cone.rays.rows)
met_system width rows k cone values below state met =
    let a : List ℤ = row_at rows k in
    let eq : Bool = is_eq_at rows k in
    let old : List Row = cone.rays.rows in
    let all : AllStay eq (values_on a (vectors old)) = subst (λ (vs : List ℤ). AllStay eq vs) met.0.are_values met.1 in
    let step : IsRayStep rows k (a, eq) (vectors old) (vectors old) =
    ray_step_from width rows k a eq old old cone.sat [] (rays_wide width rows k (vectors cone.lines.rows) old state.system) state.zeros (no_crosses eq (values_on a (vectors old)) cone.sat all) (no_change eq (values_on a (vectors old)) old all (length-values_on a (vectors old))) in
    ray_step_system width rows k (a, eq) (vectors cone.lines.rows) (vectors old) (vectors old) (row_is_at rows k below) met.0.flat state.system step

pub met_state : (width : ℕ) (rows : List Row) (k : ℕ) (cone : System) (values : List ℤ) (sat : Table) → k < length rows → IsState width rows k cone → IsMet (row_at rows k, is_eq_at rows k) cone values → HasColumn (map (λ value. int_eq value (pos 0)) values) cone.sat sat → IsState width rows (k + 1) (record { lines = cone.lines; rays = cone.rays; sat = sat })
met_state width rows k cone values sat below state met column =
    let eq : Bool = is_eq_at rows k in
    let marks : List Bool = map (λ value. stays eq value) values in
    let size : length values ≡ length (vectors cone.rays.rows) = ap length met.0.are_values ∙ length-values_on (row_at rows k) (vectors cone.rays.rows) in
    let outcome : IsRayOutcome width (row_at rows k, is_eq_at rows k) cone cone.rays values marks [] = record {
      lists = state.lists;
      flat = met.0.flat;
      is_values = met.0.are_values;
      is_marks = refl;
      crosses = no_crosses eq values cone.sat met.1;
      step = no_change eq values cone.rays.rows met.1 size;
    } in
    ray_state width rows k cone cone.rays values marks [] sat below state outcome (column_is_step values marks cone.sat sat (all_marked eq values met.1) (omega (arith, state.zeros.each.as_many, size)) column)

-- ---- values
pub has_values : (width : ℕ) (rows : List Row) (k : ℕ) (cone : System) (lists : StepLists) (p : Position) → IsState width rows k cone → IsPosition rows k cone lists p → HasValues (length cone.sat.rows) lists p
has_values width rows k cone lists (position.Crossing index) state is = tt
has_values width rows k cone lists position.Met state is = tt
has_values width rows k cone lists position.Cutting state is =
    omega (arith, ap length is.0.are_values, length-values_on (row_at rows k) (vectors cone.rays.rows), state.zeros.each.as_many)
