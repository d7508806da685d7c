-- The system of a list is that of its rows at the front of a longer one.
use Rattle.std.specs.Prelude.{◌≡◌, ℕ, ◌^◌, ◌<◌, ◌≤◌, ◌↔◌, List, [], ◌++◌, length, ℤ, pos, IsTrue, false, slice_index_or}
use Rattle.std.proofs.Common.{sym, subst, ap, arith}
use Rattle.std.proofs.lemmas.List.{get_or_append_left}
use Rattle.row_core.specs.Vectors.{dot}
use Rattle.row_core.specs.Lists.{Row, row_at, vectors}
use Rattle.row_core.specs.declared.errors.ConvErr.{ConvErr}
use Rattle.row_core.specs.declared.errors.ConvErr.TheVariants.{Overflow, Memory}
use Rattle.sat_matrix.specs.Tables.{Table}
use Rattle.sat_matrix.specs.ZeroTables.{IsZeroTable}
use Rattle.cone_laws.specs.Cones.{Upto, Meets}
use Rattle.cone_laws.specs.Canon.{IsSystem}
use Rattle.cone_laws.specs.UniqueLaws.{AdmitSame}
use Rattle.cone_laws.proofs.MemberLemmas.{same_cone}
use Rattle.chernikova.proofs.NextStates.{reopened_state}
use Rattle.chernikova.specs.declared.cone.Cone.{Cone}
use Rattle.chernikova.specs.declared.system.System.{System}
use Rattle.chernikova.specs.Conversion.{IsState, IsConverted, IsReopened, IsAtStep, IsRealOverflow, IsRealOverflowFrom}

-- the vectors that the rows at the front admit
front_admits : (width : ℕ) (taken more : List Row) → AdmitSame width taken (length taken) (taken ++ more) (length taken)
front_admits width taken more = record {
  first = λ v u. record { wide = u.wide; meets = λ m d low high. subst (λ (r : Row). Meets v r) (sym (get_or_append_left taken more d m high)) (u.meets m d low high) };
  second = λ v u. record { wide = u.wide; meets = λ m d low high. subst (λ (r : Row). Meets v r) (get_or_append_left taken more d m high) (u.meets m d low high) };
}

pub front_zeros : (taken more : List Row) (rays : List (List ℤ)) (table : Table) → IsZeroTable taken (length taken) rays table → IsZeroTable (taken ++ more) (length taken) rays table
front_zeros taken more rays table z = record {
  columns = z.columns;
  each = record {
    as_many = z.each.as_many;
    each = λ i d e below.
        let t = z.each.each i d e below in
        record {
          wide = t.wide;
          zeros = λ j h.
              let same : row_at taken j ≡ row_at (taken ++ more) j = ap (λ (r : Row). r.0) (sym (get_or_append_left taken more ([], false) j h)) in
              let P : List ℤ → Type 0 = λ v. IsTrue (slice_index_or (slice_index_or table.rows i e) j false) ↔ (dot v (slice_index_or rays i d) ≡ pos 0) in
              subst P same (t.zeros j h);
        };
  };
}

pub front_system : (width : ℕ) (taken more : List Row) (lines rays : List (List ℤ)) → IsSystem (Upto width taken (length taken)) lines rays → IsSystem (Upto width (taken ++ more) (length taken)) lines rays
front_system width taken more lines rays = (same_cone width taken (length taken) (taken ++ more) (length taken) lines rays (front_admits width taken more)).0

-- what a conversion gave, as the state of a longer list
pub front_state : (width : ℕ) (taken more : List Row) (cone : Cone) (system : System) → width < 2 ^ 32 → IsConverted width taken cone → IsReopened cone system → IsState width (taken ++ more) (length taken) system
front_state width taken more cone system narrow c same =
    reopened_state width (taken ++ more) (length taken) cone system narrow c.lists (front_system width taken more (vectors cone.lines.rows) (vectors cone.rays.rows) c.canon.system) (front_zeros taken more (vectors cone.rays.rows) cone.sat c.sat) same

-- the same state, under other names
pub state_moved : (w width : ℕ) (rs rows : List Row) (n m : ℕ) (old new : System) → w ≡ width → rs ≡ rows → n ≡ m → old ≡ new → IsState w rs n old → IsState width rows m new
state_moved w width rs rows n m old new e f g i h =
    subst (λ (s : System). IsState width rows m s) i (subst (λ (v : ℕ). IsState v rows m old) e (subst (λ (xs : List Row). IsState w xs m old) f (subst (λ (k : ℕ). IsState w rs k old) g h)))

-- an overflow at the step with row k
pub overflow_from : (width : ℕ) (rows : List Row) (from k : ℕ) (error : ConvErr) → from ≤ k → IsAtStep k error → IsRealOverflow width rows error → IsRealOverflowFrom width rows from error
overflow_from width rows from k (Overflow over) least at real = (real, omega (arith, least, at))
overflow_from width rows from k Memory least at real = real

pub overflow_any : (width : ℕ) (rows : List Row) (from : ℕ) (error : ConvErr) → IsRealOverflowFrom width rows from error → IsRealOverflow width rows error
overflow_any width rows from (Overflow over) real = real.0
overflow_any width rows from Memory real = real
