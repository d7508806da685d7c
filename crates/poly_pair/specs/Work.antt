use Rattle.std.specs.Prelude.{ℕ, ◌+◌, ◌-◌, ◌≤◌, List, [], ◌∷◌, length, Option, Some, None, Result, Ok, Err, IfSome}
use Rattle.row_core.specs.Lists.{Row}
use Rattle.row_core.specs.declared.errors.Overflow.{Overflow}
use Rattle.row_core.specs.declared.errors.ConvErr.{ConvErr}
use Rattle.row_core.specs.declared.errors.Memory.{Memory}
use Rattle.row_core.specs.declared.errors.ConvErr.TheVariants as conversion
use Rattle.cone_laws.specs.Leaves.{Leaves}
use Rattle.chernikova.specs.Conversion.{IsCountedBetween}
use Rattle.cons_sys.specs.Constraints.{Constraints}
use Rattle.gens_sys.specs.Generators.{Generator, Generators}
use Rattle.stored_systems.specs.WorkLists.{LeavesOn, LeavesOnSecond, constraint_list}
use Rattle.poly_pair.specs.declared.topology.Topology.{Topology}
use Rattle.poly_pair.specs.declared.topology.Topology.TheVariants.{Closed, Nnc}
use Rattle.poly_pair.specs.declared.errors.GenErr.{GenErr}
use Rattle.poly_pair.specs.declared.errors.GenErr.TheVariants as generators
use Rattle.poly_pair.specs.Polyhedra.{Polyhedron}
use Rattle.poly_pair.specs.TopologyLists.{list_width, constraints_of, generators_of}
use Rattle.poly_pair.specs.Parts.{AreStoredOfRows}
use Rattle.poly_pair.specs.Additions.{with_constraints, with_generators}
use Rattle.poly_pair.specs.Conversions.{IsCountedFrom, IsCountedAfter, IsCountedBeforeEnd, IsCountedBeforeOverflow}

-- ---- what is converted
-- a list of rows, its columns and the one of the divisor; the system of the rows before `from` is
-- known
pub record Work : Type 0 where
  pub width : ℕ
  pub column : ℕ
  pub rows : List Row
  pub from : ℕ

abbrev pub rows_work : ℕ → ℕ → List Row → ℕ → Work
rows_work width column rows from =
    record { width = width; column = column; rows = rows; from = from }

-- the list of a system, from its first row on
abbrev pub cons_work : Topology → Constraints → Work
cons_work t cs =
    record { width = list_width t cs.dim; column = cs.dim; rows = constraints_of t cs; from = 0 }

abbrev pub gens_work : Topology → Generators → Work
gens_work t gs =
    record { width = list_width t gs.dim; column = gs.dim; rows = generators_of t gs; from = 0 }

-- how many rows needn't be converted: those of a closed polyhedron with a point, and none of
-- another
abbrev pub known_rows : Topology → List Generator → ℕ → ℕ
known_rows Closed (g ∷ gs) n = n
known_rows Closed [] n = 0
known_rows Nnc gs n = 0

-- the list of constraints that begin with those of a polyhedron: its row of the divisor is known
-- too
abbrev pub begun_cons : Polyhedron → Constraints → Work
begun_cons p cs = record (cons_work p.topology cs)
    { from = known_rows p.topology p.gens.list (length p.cons.list + 1) }

-- of generators
abbrev pub begun_gens : Polyhedron → Generators → Work
begun_gens p gs = record (gens_work p.topology gs)
    { from = known_rows p.topology p.gens.list (length p.gens.list) }

-- the list of a polyhedron with further constraints
abbrev pub added_cons : Polyhedron → Constraints → Work
added_cons p more = begun_cons p (with_constraints p more)

-- with further generators
abbrev pub added_gens : Polyhedron → Generators → Work
added_gens p more = begun_gens p (with_generators p more)

-- ---- what is stored of it
-- the systems that a polyhedron of the topology stores are those of the list, as far as it is a
-- list of constraints
abbrev pub AreStored : Topology → Work → Polyhedron → Type 0
AreStored t work p = AreStoredOfRows t work.column work.rows p

-- ---- the overflow that a call was refused with, if it was
abbrev pub conv_overflow : ConvErr → Option Overflow
conv_overflow (conversion.Overflow over) = Some over
conv_overflow conversion.Memory = None

abbrev pub gen_overflow : GenErr → Option Overflow
gen_overflow generators.NoPoint = None
gen_overflow (generators.Overflow over) = Some over
gen_overflow generators.Memory = None

abbrev pub overflow_in : {T E : Type 0} → (E → Option Overflow) → Result T E → Option Overflow
overflow_in over_of (Ok x) = None
overflow_in over_of (Err e) = over_of e

-- ---- what a conversion costs and shows
-- of a list, and of its second list
pub record IsConversion (work : Work) (old new : ℕ) (over : Option Overflow) : Type 0 where
  -- an overflow shows a number outside the range in the conversion of the list, or of its second
  -- list
  pub overflow : IfSome over (LeavesOn work.width work.column work.rows)
  -- the count of combinations never falls
  pub no_fewer : old ≤ new
  -- it grows by at most the sizes of the systems of the list from that row on, and what making the
  -- second system takes
  pub counted : IsCountedFrom work.width work.column work.rows work.from (new - old)
  -- at an overflow by those up to its step
  pub counted_before : IfSome over
      (IsCountedBeforeOverflow work.width work.column work.rows work.from (new - old))

-- of the list alone
pub record IsFirstConversion (work : Work) (old new : ℕ) (over : Option Overflow) : Type 0 where
  -- an overflow shows a number outside the range in the conversion of the list
  pub overflow : IfSome over (Leaves work.width work.rows)
  -- the count of combinations never falls
  pub no_fewer : old ≤ new
  -- it grows by at most the sizes of the systems of the list from that row on
  pub counted : IsCountedBetween work.width work.rows work.from (length work.rows) (new - old)
  -- at an overflow by those up to its step
  pub counted_before : IfSome over
      (λ o. IsCountedBetween work.width work.rows work.from (o.step + 1) (new - old))

-- of the second list alone, where the system of the list is known
pub record IsSecondListConversion (width column : ℕ) (list : List Row) (old new : ℕ)
    (over : Option Overflow) : Type 0 where
  -- an overflow shows a number outside the range in the conversion of the second list
  pub overflow : IfSome over (LeavesOnSecond width column list)
  -- the count of combinations never falls
  pub no_fewer : old ≤ new
  -- it grows by at most what making the second system takes
  pub counted : IsCountedAfter width column list (new - old)
  -- at an overflow by what it takes up to its step
  pub counted_before : IfSome over (IsCountedBeforeEnd width column list (new - old))

-- what a call costs and shows that converts both lists
abbrev pub Converts : {T : Type 0} → Work → ℕ → ℕ → Result T ConvErr → Type 0
Converts work old new result = IsConversion work old new (overflow_in conv_overflow result)

-- one of generators
abbrev pub GenConverts : {T : Type 0} → Work → ℕ → ℕ → Result T GenErr → Type 0
GenConverts work old new result = IsConversion work old new (overflow_in gen_overflow result)

-- one that converts the first list alone
abbrev pub ConvertsFirst : {T : Type 0} → Work → ℕ → ℕ → Result T ConvErr → Type 0
ConvertsFirst work old new result =
    IsFirstConversion work old new (overflow_in conv_overflow result)

-- one that converts the second list alone
abbrev pub ConvertsSecondList : {T : Type 0} → ℕ → ℕ → List Row → ℕ → ℕ → Result T ConvErr → Type 0
ConvertsSecondList width column list old new result =
    IsSecondListConversion width column list old new (overflow_in conv_overflow result)

-- ---- constraints with generators that are the system of their list
-- only the second list can be left to convert
abbrev pub IsPairConversion : Constraints → ℕ → ℕ → Option Overflow → Type 0
IsPairConversion cs old new over =
    IsSecondListConversion (cs.dim + 1) cs.dim (constraint_list cs) old new over

-- that conversion was given up at an overflow
pub record IsPairGivenUp (cs : Constraints) (old new : ℕ) : Type 0 where
  pub over : Overflow
  pub conversion : IsPairConversion cs old new (Some over)

-- what a call costs and shows that gives nothing at an overflow
abbrev pub ConvertsPair : {T : Type 0} → Constraints → ℕ → ℕ → Result (Option T) Memory → Type 0
ConvertsPair cs old new (Ok None) = IsPairGivenUp cs old new
ConvertsPair cs old new (Ok (Some x)) = IsPairConversion cs old new None
ConvertsPair cs old new (Err e) = IsPairConversion cs old new None
