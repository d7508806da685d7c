-- What conversions cost and show: parts and cases.
use Rattle.std.proofs.Common.{◌≡◌, inl, inr, ℕ, ◌+◌, ◌-◌, ◌*◌, ◌≤◌, List, [], ◌∷◌, length, ℤ, Option, Some, None, Result, Ok, Err, refl, subst, arith}
use Rattle.std.specs.Prelude.{IfErr}
use Rattle.row_core.specs.Lists.{Row}
use Rattle.minimise.specs.Lefts.{IsLeft}
use Rattle.stored_systems.specs.WorkLists.{constraint_list, IsSecondList}
use Rattle.row_core.specs.declared.errors.Overflow.{Overflow}
use Rattle.row_core.specs.declared.errors.Memory.{Memory}
use Rattle.row_core.specs.declared.errors.ConvErr.{ConvErr}
use Rattle.row_core.specs.declared.errors.ConvErr.TheVariants as conversion
use Rattle.poly_pair.specs.declared.errors.GenErr.{GenErr}
use Rattle.poly_pair.specs.declared.errors.GenErr.TheVariants as generators
use Rattle.cons_sys.specs.Constraints.{Constraints}
use Rattle.gens_sys.specs.Generators.{Generator, Generators}
use Rattle.poly_pair.specs.declared.topology.Topology.{Topology}
use Rattle.poly_pair.specs.declared.topology.Topology.TheVariants.{Closed, Nnc}
use Rattle.poly_pair.specs.Polyhedra.{Polyhedron}
use Rattle.chernikova.specs.Conversion.{ConvertsRows, ConvertsFrom}
use Rattle.chernikova.proofs.Counts.{counted_start_from}
use Rattle.poly_pair.specs.Starts.{CanStart}
use Rattle.poly_pair.specs.Refusals.{as_gen_err, IsOverflowOn, IsCountedBeforeOnFrom, IsGenOverflowOn}
use Rattle.poly_pair.specs.Work.{Work, rows_work, cons_work, begun_cons, known_rows, added_cons, added_gens, conv_overflow, gen_overflow, IsConversion, IsFirstConversion, IsSecondListConversion, IsPairConversion, Converts, ConvertsPair, GenConverts, ConvertsFirst, ConvertsSecondList}
use Rattle.poly_pair.proofs.CountLemmas.{after_none, after_simplified, after_left, counted_first, counted_both, none_between}
use Rattle.poly_pair.proofs.Additions.{moved, from_none, closed_fewer, closed_generators_fewer}

-- ---- parts
-- nothing was converted
pub unconverted : (work : Work) (steps : ℕ) → work.from ≤ length work.rows → IsConversion work steps steps None
unconverted work steps below = record { overflow = tt; no_fewer = omega arith; counted = from_none work.width work.column work.rows work.from (steps - steps) below (omega arith); counted_before = tt }

-- all was converted, and what came after was refused for another cause
pub converted : (work : Work) (old new : ℕ) (over : Option Overflow) → IsConversion work old new over → IsConversion work old new None
converted work old new over h = record { overflow = tt; no_fewer = h.no_fewer; counted = h.counted; counted_before = tt }

-- what holds at a width and from a row on holds at those that are equal to them
pub work_moved : (w width column : ℕ) (rows : List Row) (start from old new : ℕ) (over : Option Overflow) → w ≡ width → start ≡ from → IsConversion (rows_work w column rows start) old new over → IsConversion (rows_work width column rows from) old new over
work_moved w width column rows start from old new over e f h = subst (λ (n : ℕ). IsConversion (rows_work n column rows from) old new over) e (subst (λ (n : ℕ). IsConversion (rows_work w column rows n) old new over) f h)

-- a refusal shows the same as one of generators
pub same_overflow : (e : ConvErr) → conv_overflow e ≡ gen_overflow (as_gen_err e)
same_overflow (conversion.Overflow over) = refl
same_overflow conversion.Memory = refl

-- the same of a call that converts the first list alone
pub first_unconverted : (work : Work) (steps : ℕ) → work.from ≤ length work.rows → IsFirstConversion work steps steps None
first_unconverted work steps below = record { overflow = tt; no_fewer = omega arith; counted = counted_start_from work.width work.rows work.from (steps - steps) below (omega arith); counted_before = tt }

pub first_of_rows : {T : Type 0} (width column : ℕ) (rows : List Row) (old new : ℕ) (r : Result T ConvErr) → ConvertsRows width rows old new r → ConvertsFirst (rows_work width column rows 0) old new r
first_of_rows width column rows old new (Ok x) h = record { overflow = tt; no_fewer = h.no_fewer; counted = h.counted; counted_before = tt }
first_of_rows width column rows old new (Err (conversion.Overflow over)) h = record { overflow = h.overflow; no_fewer = h.no_fewer; counted = h.counted; counted_before = h.counted_before }
first_of_rows width column rows old new (Err conversion.Memory) h = record { overflow = tt; no_fewer = h.no_fewer; counted = h.counted; counted_before = tt }

pub first_of_from : {T : Type 0} (width column : ℕ) (rows : List Row) (from old new : ℕ) (r : Result T ConvErr) → ConvertsFrom width rows from old new r → ConvertsFirst (rows_work width column rows from) old new r
first_of_from width column rows from old new (Ok x) h = record { overflow = tt; no_fewer = h.no_fewer; counted = h.counted; counted_before = tt }
first_of_from width column rows from old new (Err (conversion.Overflow over)) h = record { overflow = h.overflow.0; no_fewer = h.no_fewer; counted = h.counted; counted_before = h.counted_before }
first_of_from width column rows from old new (Err conversion.Memory) h = record { overflow = tt; no_fewer = h.no_fewer; counted = h.counted; counted_before = tt }

-- of one that converts the second list alone
pub second_unconverted : (width column : ℕ) (list : List Row) (steps : ℕ) → IsSecondListConversion width column list steps steps None
second_unconverted width column list steps = record { overflow = tt; no_fewer = omega arith; counted = after_none width column list (steps - steps) (omega arith); counted_before = tt }

pub second_simplified : (width column : ℕ) (list : List Row) (low high : ℕ) → low ≤ high → high ≤ low + 2 * (length list * width) → IsSecondListConversion width column list low high None
second_simplified width column list low high p h = record { overflow = tt; no_fewer = p; counted = after_simplified width column list low high h; counted_before = tt }

module _ (width column : ℕ) (list second : List Row) (left right : List ℤ) (at low middle high : ℕ) (p : low ≤ middle) (h : middle ≤ low + 2 * (length list * width)) (l : IsLeft width list left right at) (s : IsSecondList width column list second) where
  pub second_left : {T : Type 0} (r : Result T ConvErr) → ConvertsRows width second middle high r → ConvertsSecondList width column list low high r
  second_left (Ok x) c = record { overflow = tt; no_fewer = omega (arith, p, c.no_fewer); counted = after_left width column list second left right at low middle high p c.no_fewer h l s c.counted; counted_before = tt }
  second_left (Err (conversion.Overflow over)) c = record {
    overflow = record { second = second; is_second = s; leaves = c.overflow };
    no_fewer = omega (arith, p, c.no_fewer);
    counted = after_left width column list second left right at low middle high p c.no_fewer h l s c.counted;
    counted_before = record {
      simplified = middle - low;
      second = high - middle;
      sum = omega (arith, p, c.no_fewer);
      bounded = omega (arith, h);
      left = left;
      right = right;
      at = at;
      is_left = l;
      rows = second;
      is_second = s;
      leaves = c.overflow;
      second_counted = c.counted_before;
    };
  }
  second_left (Err conversion.Memory) c = record { overflow = tt; no_fewer = omega (arith, p, c.no_fewer); counted = after_left width column list second left right at low middle high p c.no_fewer h l s c.counted; counted_before = tt }

pub second_moved : (width column : ℕ) (list : List Row) (low middle high : ℕ) (over : Option Overflow) → low ≤ middle → middle - low ≡ 0 → IsSecondListConversion width column list middle high over → IsSecondListConversion width column list low high over
second_moved width column list low middle high over p e c = subst (λ (n : ℕ). IsSecondListConversion width column list n high over) (omega (arith, p, e)) c

-- of the list of a system
pub second_at : (cs : Constraints) (width dim : ℕ) (list : List Row) (old new : ℕ) (over : Option Overflow) → width ≡ cs.dim + 1 → dim ≡ cs.dim → list ≡ constraint_list cs → IsSecondListConversion width dim list old new over → IsPairConversion cs old new over
second_at cs width dim list old new over w d l h =
    subst (λ (n : ℕ). IsSecondListConversion (cs.dim + 1) n (constraint_list cs) old new over) d
    (moved (λ n rs. IsSecondListConversion n dim rs old new over) width (cs.dim + 1) list (constraint_list cs) w l h)

-- a conversion of the rows behind all of them
pub none_left : {T : Type 0} (width column : ℕ) (list : List Row) (old new : ℕ) (r : Result T ConvErr) → ConvertsFrom width list (length list) old new r → ConvertsSecondList width column list old new r
none_left width column list old new (Ok x) h = record { overflow = tt; no_fewer = h.no_fewer; counted = after_none width column list (new - old) (none_between width list (length list) (new - old) h.counted); counted_before = tt }
none_left width column list old new (Err (conversion.Overflow over)) h = absurd (omega (arith, h.overflow.0.step, h.overflow.1))
none_left width column list old new (Err conversion.Memory) h = record { overflow = tt; no_fewer = h.no_fewer; counted = after_none width column list (new - old) (none_between width list (length list) (new - old) h.counted); counted_before = tt }

-- ---- both lists
-- the first alone
pub first_is_all : (work : Work) (old new : ℕ) (over : Option Overflow) → IsFirstConversion work old new over → IsConversion work old new over
first_is_all work old new None h = record { overflow = tt; no_fewer = h.no_fewer; counted = counted_first work.width work.column work.rows work.from (new - old) h.counted; counted_before = tt }
first_is_all work old new (Some over) h = record {
  overflow = inl h.overflow;
  no_fewer = h.no_fewer;
  counted = counted_first work.width work.column work.rows work.from (new - old) h.counted;
  counted_before = inl (record { leaves = h.overflow; counted = h.counted_before });
}

-- and then the second
pub both_are_all : (work : Work) (low middle high : ℕ) (over : Option Overflow) → IsFirstConversion work low middle None → IsSecondListConversion work.width work.column work.rows middle high over → IsConversion work low high over
both_are_all work low middle high None f s = record {
  overflow = tt;
  no_fewer = omega (arith, f.no_fewer, s.no_fewer);
  counted = counted_both work.width work.column work.rows work.from low middle high f.no_fewer s.no_fewer f.counted s.counted;
  counted_before = tt;
}
both_are_all work low middle high (Some over) f s = record {
  overflow = inr s.overflow;
  no_fewer = omega (arith, f.no_fewer, s.no_fewer);
  counted = counted_both work.width work.column work.rows work.from low middle high f.no_fewer s.no_fewer f.counted s.counted;
  counted_before = inr (record { first = middle - low; rest = high - middle; sum = omega (arith, f.no_fewer, s.no_fewer); first_counted = f.counted; rest_counted = s.counted_before });
}

-- ---- what it promises of each clause
-- of a refusal
pub refused_overflow : (work : Work) (old new : ℕ) (e : ConvErr) → IsConversion work old new (conv_overflow e) → IsOverflowOn work.width work.column work.rows e
refused_overflow work old new (conversion.Overflow over) h = h.overflow
refused_overflow work old new conversion.Memory h = tt

-- of a result
pub overflow_clause : {T : Type 0} (work : Work) (old new : ℕ) (r : Result T ConvErr) → Converts work old new r → IfErr r (IsOverflowOn work.width work.column work.rows)
overflow_clause work old new (Ok x) h = tt
overflow_clause work old new (Err (conversion.Overflow over)) h = h.overflow
overflow_clause work old new (Err conversion.Memory) h = tt

pub before_clause : {T : Type 0} (work : Work) (old new : ℕ) (r : Result T ConvErr) → Converts work old new r → IfErr r (IsCountedBeforeOnFrom work.width work.column work.rows work.from (new - old))
before_clause work old new (Ok x) h = tt
before_clause work old new (Err (conversion.Overflow over)) h = h.counted_before
before_clause work old new (Err conversion.Memory) h = tt

-- of a call on generators
pub gen_overflow_clause : {T : Type 0} (work : Work) (old new : ℕ) (r : Result T GenErr) → GenConverts work old new r → IfErr r (IsGenOverflowOn work.width work.column work.rows)
gen_overflow_clause work old new (Ok x) h = tt
gen_overflow_clause work old new (Err generators.NoPoint) h = tt
gen_overflow_clause work old new (Err (generators.Overflow over)) h = h.overflow
gen_overflow_clause work old new (Err generators.Memory) h = tt

-- ---- the row where it starts
known : (t : Topology) (gs : List Generator) (n : ℕ) → t ≡ Closed → ¬ (gs ≡ []) → known_rows t gs n ≡ n
known Closed (g ∷ gs) n e some = refl
known Closed [] n e some = absurd (some refl)
known Nnc gs n e some = absurd (let never : Nnc ≡ Closed = e in cc)

not_known : (t : Topology) (gs : List Generator) (n : ℕ) → (t ≡ Closed → ¬ (¬ (gs ≡ []))) → known_rows t gs n ≡ 0
not_known Closed (g ∷ gs) n never_starts = absurd (never_starts refl (λ e. let never : g ∷ gs ≡ [] = e in cc))
not_known Closed [] n never_starts = refl
not_known Nnc gs n never_starts = refl

known_below : (t : Topology) (gs : List Generator) (n m : ℕ) → (t ≡ Closed → n ≤ m) → known_rows t gs n ≤ m
known_below Closed (g ∷ gs) n m h = h refl
known_below Closed [] n m h = omega arith
known_below Nnc gs n m h = omega arith

pub starts : (p : Polyhedron) (n : ℕ) → CanStart p → known_rows p.topology p.gens.list n ≡ n
starts p n s = known p.topology p.gens.list n s.closed s.some

pub starts_not : (p : Polyhedron) (n : ℕ) → ¬ (CanStart p) → known_rows p.topology p.gens.list n ≡ 0
starts_not p n never_starts = not_known p.topology p.gens.list n (λ e some. never_starts (record { closed = e; some = some }))

pub cons_below : (p : Polyhedron) (more : Constraints) → (added_cons p more).from ≤ length (added_cons p more).rows
cons_below p more = known_below p.topology p.gens.list (length p.cons.list + 1) (length (added_cons p more).rows) (closed_fewer p more)

pub gens_below : (p : Polyhedron) (more : Generators) → (added_gens p more).from ≤ length (added_gens p more).rows
gens_below p more = known_below p.topology p.gens.list (length p.gens.list) (length (added_gens p more).rows) (closed_generators_fewer p more)

-- constraints that begin with those of a closed polyhedron
known_work : (t : Topology) (gs : List Generator) (n : ℕ) (cs : Constraints) → t ≡ Closed → ¬ (gs ≡ []) → rows_work (cs.dim + 1) cs.dim (constraint_list cs) n ≡ record (cons_work t cs) { from = known_rows t gs n }
known_work Closed (g ∷ gs) n cs e some = refl
known_work Closed [] n cs e some = absurd (some refl)
known_work Nnc gs n cs e some = absurd (let never : Nnc ≡ Closed = e in cc)

unknown_work : (t : Topology) (gs : List Generator) (n : ℕ) (cs : Constraints) → t ≡ Closed → gs ≡ [] → cons_work Closed cs ≡ record (cons_work t cs) { from = known_rows t gs n }
unknown_work Closed (g ∷ gs) n cs e none = absurd (let never : g ∷ gs ≡ [] = none in cc)
unknown_work Closed [] n cs e none = refl
unknown_work Nnc gs n cs e none = absurd (let never : Nnc ≡ Closed = e in cc)

pub begun_known : (p : Polyhedron) (cs : Constraints) → p.topology ≡ Closed → ¬ (p.gens.list ≡ []) → rows_work (cs.dim + 1) cs.dim (constraint_list cs) (length p.cons.list + 1) ≡ begun_cons p cs
begun_known p cs e some = known_work p.topology p.gens.list (length p.cons.list + 1) cs e some

pub begun_unknown : (p : Polyhedron) (cs : Constraints) → p.topology ≡ Closed → p.gens.list ≡ [] → cons_work Closed cs ≡ begun_cons p cs
begun_unknown p cs e none = unknown_work p.topology p.gens.list (length p.cons.list + 1) cs e none

-- ---- constraints with generators that are the system of their list
pub pair_fewer : {T : Type 0} (cs : Constraints) (old new : ℕ) (r : Result (Option T) Memory) → ConvertsPair cs old new r → old ≤ new
pair_fewer cs old new (Ok None) h = h.conversion.no_fewer
pair_fewer cs old new (Ok (Some x)) h = h.no_fewer
pair_fewer cs old new (Err e) h = h.no_fewer
