-- Whether rows change a system.
use Rattle.std.specs.Prelude.{◌≡◌, ℕ, ◌+◌, ◌<◌, ◌≤◌, Bool, true, false, ◌||◌, List, [], length, ℤ}
use Rattle.std.proofs.Common.{sym, ap, ◌∙◌, arith}
use Rattle.std.proofs.lemmas.Bool.{false≢true}
use Rattle.std.proofs.lemmas.List.Elements.{AllWithin-upto}
use Rattle.row_core.specs.Vectors.{dot}
use Rattle.row_core.specs.Lists.{Row, row_at, is_eq_at, vectors, vector_at}
use Rattle.cone_laws.specs.Cones.{Upto, Meets}
use Rattle.row_core.specs.Signs.{stays}
use Rattle.cone_laws.specs.UniqueLaws.{AdmitSame}
use Rattle.cone_laws.proofs.MemberLemmas.{spanned_within}
use Rattle.cone_laws.proofs.RaySteps.{asks_stays}
use Rattle.cone_laws.proofs.UptoRows.{both_zero, upto_less, upto_row}
use Rattle.chernikova.specs.declared.system.System.{System}
use Rattle.chernikova.specs.declared.plan.Plan.{Plan}
use Rattle.chernikova.specs.declared.plan.Plan.TheVariants as plan
use Rattle.row_core.specs.Pairs.{value_at}
use Rattle.chernikova.specs.Conversion.{IsState, TellsChange}
use Rattle.chernikova.specs.Plans.{StepLists, IsLinePlan, IsMet, IsCutting, IsPlan, changes_system}
use Rattle.row_store.proofs.ValueLemmas.{length-values_on, value_at-values_on}
use Rattle.chernikova.proofs.NextStates.{row_is_at}
use Rattle.chernikova.proofs.Positions.{met_system}

-- ---- one row
met_same : (width : ℕ) (rows : List Row) (k : ℕ) (cone : System) (values : List ℤ) → k < length rows → IsState width rows k cone → IsMet (row_at rows k, is_eq_at rows k) cone values → AdmitSame width rows k rows (k + 1)
met_same width rows k cone values below state met = record {
  first = λ v u. spanned_within width rows (k + 1) (vectors cone.lines.rows) (vectors cone.rays.rows) v (met_system width rows k cone values below state met).generates u.wide (state.system.generates.spans v u);
  second = upto_less width rows k;
}

-- a line on which the row isn't 0, and its negative, don't both meet it
line_changes : (width : ℕ) (rows : List Row) (k : ℕ) (cone : System) (lists : StepLists) (index : ℕ) → IsState width rows k cone → IsLinePlan (row_at rows k, is_eq_at rows k) cone lists index → ¬ (AdmitSame width rows k rows (k + 1))
line_changes width rows k cone lists index state is same =
    let line : List ℤ = vector_at (vectors cone.lines.rows) index in
    let both = state.system.generates.lines_within index [] is.crossing.below in
    is.crossing.crosses (both_zero width rows (k + 1) line (same.first _ both.0) (same.first _ both.1) k ([], false) (omega arith))

-- a ray that doesn't meet the row
cut_changes : (width : ℕ) (rows : List Row) (k : ℕ) (cone : System) (values : List ℤ) → k < length rows → IsState width rows k cone → IsCutting (row_at rows k, is_eq_at rows k) cone values → ¬ (AdmitSame width rows k rows (k + 1))
cut_changes width rows k cone values below state is same =
    let i : ℕ = is.1.0 in
    let ray : List ℤ = vector_at (vectors cone.rays.rows) i in
    let inside : i < length (vectors cone.rays.rows) = omega (arith, is.1.1, ap length is.0.are_values, length-values_on (row_at rows k) (vectors cone.rays.rows)) in
    let value : value_at values i ≡ dot (row_at rows k) ray = ap (λ vs. value_at vs i) is.0.are_values ∙ value_at-values_on (row_at rows k) (vectors cone.rays.rows) i inside in
    let meets = upto_row width rows k (row_at rows k, is_eq_at rows k) ray (row_is_at rows k below) (same.first ray (state.system.generates.rays_within i [] inside)) in
    false≢true (sym is.1.2 ∙ ap (λ v. stays (is_eq_at rows k) v) value ∙ asks_stays (is_eq_at rows k) (dot (row_at rows k) ray) meets)

-- what a plan says of the change
pub plan_tells : (width : ℕ) (rows : List Row) (k : ℕ) (cone : System) (lists : StepLists) (p : Plan) → k < length rows → IsState width rows k cone → IsPlan rows k cone lists p → TellsChange width rows k (k + 1) (changes_system p)
plan_tells width rows k cone lists (plan.Line index) below state is = line_changes width rows k cone lists index state is
plan_tells width rows k cone lists plan.Same below state is = met_same width rows k cone lists.ray_values below state is
plan_tells width rows k cone lists plan.Ray below state is = cut_changes width rows k cone lists.ray_values below state is.cutting

-- ---- many rows
back : (width : ℕ) (rows : List Row) (from k : ℕ) → from ≤ k → (v : List ℤ) → Upto width rows k v → Upto width rows from v
back width rows from k least v u = record { wide = u.wide; meets = AllWithin-upto (Meets v) rows 0 k from least u.meets }

both_same : (width : ℕ) (rows : List Row) (from k n : ℕ) → AdmitSame width rows from rows k → AdmitSame width rows k rows n → AdmitSame width rows from rows n
both_same width rows from k n a b = record { first = λ v u. b.first v (a.first v u); second = λ v u. a.second v (b.second v u) }

-- where the rows up to k change nothing, those before change nothing
same_before : (width : ℕ) (rows : List Row) (from k n : ℕ) → from ≤ k → k ≤ n → AdmitSame width rows from rows n → AdmitSame width rows from rows k
same_before width rows from k n least most h = record { first = λ v u. back width rows k n most v (h.first v u); second = back width rows from k least }

same_behind : (width : ℕ) (rows : List Row) (from k n : ℕ) → from ≤ k → k ≤ n → AdmitSame width rows from rows n → AdmitSame width rows k rows n
same_behind width rows from k n least most h = record { first = λ v u. h.first v (back width rows from k least v u); second = back width rows k n most }

pub none_told : (width : ℕ) (rows : List Row) (from : ℕ) → TellsChange width rows from from false
none_told width rows from = record { first = λ v u. u; second = λ v u. u }

pub tells_more : (width : ℕ) (rows : List Row) (from k : ℕ) (before now : Bool) → from ≤ k → TellsChange width rows from k before → TellsChange width rows k (k + 1) now → TellsChange width rows from (k + 1) (before || now)
tells_more width rows from k true now least a b = λ same. a (same_before width rows from k (k + 1) least (omega arith) same)
tells_more width rows from k false true least a b = λ same. b (same_behind width rows from k (k + 1) least (omega arith) same)
tells_more width rows from k false false least a b = both_same width rows from k (k + 1) a b
