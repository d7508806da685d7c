-- The numbers of a file that were read, and its rows.
use Prim.Native.Nat.{◌∣◌}
use Rattle.std.specs.Prelude.{◌≡◌, ℕ, ◌+◌, ◌*◌, ◌/◌, ◌<◌, ◌≤◌, ◌^◌, List, [], ◌∷◌, length, take, drop, Bool, true, ℤ, pos, ◌<ℤ◌, Option, Some, min, MatchOption, ◌++◌}
use Rattle.row_core.specs.Range.{InRange, AllInRange}
use Rattle.row_core.specs.Lists.{Row}
use Rattle.reply_text.specs.declared.faults.Fault.{Fault}
use Rattle.reply_text.specs.declared.faults.Fault.TheVariants as fault
use Rattle.reply_text.specs.declared.faults.ReadErr.{ReadErr}
use Rattle.reply_text.specs.declared.faults.ReadErr.TheVariants.{Input, Memory}
use Rattle.gens_sys.specs.Generators.{Generator}
use Rattle.std.specs.List.{AllZip}
use Rattle.cdd_reading.specs.Files.{IsFile, Contents, IsContents, IsVectorOf, with_origin, values, indices, marks}
use Rattle.cdd_reading.specs.Fractions.{gcd, lcm, lowest, numerator, denominator, signed, all_integers, AllDivide, IsSmall, FitRange}
use Rattle.cdd_reading.specs.Headings.{indices_of}
use Rattle.cdd_reading.specs.Tokens.{Token, texts, is_negative}
use Rattle.cdd_reading.specs.Refusals.{Test, AllName, AreShort, other, IsVectorFault, HaveNoFault, form_tests, table_tests, NoneOf}
use Rattle.cdd_reading.specs.declared.format.Format.{Format}
use Rattle.cdd_reading.specs.declared.body.BodyErr.{BodyErr}
use Rattle.cdd_reading.specs.declared.body.BodyErr.TheVariants.{Wrong, OtherType}
use Rattle.cdd_reading.specs.declared.values.Numeral.{Numeral}
use Rattle.cdd_reading.specs.declared.values.IntegerErr.{IntegerErr}
use Rattle.cdd_reading.specs.declared.values.IntegerErr.TheVariants as value
use Rattle.cdd_reading.specs.declared.marks.MarkErr.{MarkErr}
use Rattle.cdd_reading.specs.declared.marks.MarkErr.TheVariants as mark
use Rattle.cdd_reading.specs.declared.table.Table.{Table}
use Rattle.cdd_reading.specs.declared.table.TheConstants.{MAX_WIDTH}

-- the number, where it is below 2^127
abbrev pub IsWithinLimit : ℕ → Option ℕ → Type 0
IsWithinLimit n result = MatchOption result (2 ^ 127 ≤ n) (λ l. (l ≡ n) × (l < 2 ^ 127))

-- the integer, where it is in the range
abbrev pub IsWithinRange : ℤ → Option ℤ → Type 0
IsWithinRange z result = MatchOption result (¬ (InRange z)) (λ v. (v ≡ z) × InRange v)

-- the integers of numbers in rows of one width, where no denominator is 0 and all are in the range
abbrev pub AreIntegers : ℕ → List (List ℕ) → List ℤ → Type 0
AreIntegers width numbers list =
    (list ≡ all_integers width numbers) × AllDivide numbers × FitRange width numbers

-- why numbers, as rows of one width, have no integers
abbrev pub IsIntegerErr : ℕ → List (List ℕ) → IntegerErr → Type 0
IsIntegerErr width numbers value.ZeroDivisor = ¬ (AllDivide numbers)
IsIntegerErr width numbers value.TooLarge = AllDivide numbers × ¬ (FitRange width numbers)
IsIntegerErr width numbers value.Memory = Unit {0}

-- nothing is made of numbers that don't fit
abbrev pub IsTooLarge : Type 0 → IntegerErr → Type 0
IsTooLarge Fit value.ZeroDivisor = ⊥
IsTooLarge Fit value.TooLarge = ¬ Fit
IsTooLarge Fit value.Memory = Unit {0}

-- nothing is made of numbers that can't be divided or don't fit
abbrev pub IsRowErr : Type 0 → Type 0 → IntegerErr → Type 0
IsRowErr Divide Fit value.ZeroDivisor = ¬ Divide
IsRowErr Divide Fit value.TooLarge = ¬ (Divide × Fit)
IsRowErr Divide Fit value.Memory = Unit {0}

-- the number of a token, as it is written
abbrev pub fraction_of : List ℕ → Numeral
fraction_of t = record {
  negative = is_negative t;
  numerator = numerator t;
  denominator = denominator t;
}

-- its denominator in lowest terms
abbrev pub lowest_of : Numeral → ℕ
lowest_of f = f.denominator / gcd f.numerator f.denominator

-- n times the number
abbrev pub times_of : ℕ → Numeral → ℤ
times_of n f = signed f.negative (n * f.numerator / f.denominator)

-- n times the number is an integer
pub record IsIntegral (n : ℕ) (f : Numeral) : Type 0 where
  pub positive : 0 < f.denominator
  pub multiple : lowest_of f ∣ n

-- the number can follow numbers whose denominators in lowest terms have this least common multiple
pub record CanFollow (n : ℕ) (t : List ℕ) : Type 0 where
  pub divides : 0 < denominator t
  pub small : IsSmall t
  pub common : lcm (lowest t) n < 2 ^ 127

abbrev pub IsMarkErr : ℕ → List ℕ → MarkErr → Type 0
IsMarkErr m is mark.OutOfBounds = ¬ (AllName m is)
IsMarkErr m is mark.Memory = Unit {0}

-- the lines of a file, none of them too long, and the number of the line that ends it
pub record IsOpened (bytes : List ℕ) (file rest : List (List ℕ)) (end : ℕ) : Type 0 where
  pub is_file : IsFile bytes file rest
  pub short : AreShort file
  pub number : end ≡ length file + 1

-- the form was read: the kind, the linearity line or an empty line, d, for which 2^127 stands where
-- it is greater, and the numbers
pub record IsFormRead (bytes : List ℕ) (named : Option Format) (linear : List ℕ) (d : ℕ)
    (numbers : List Token) : Type 0 where
  pub contents : Contents
  pub says : IsContents bytes contents
  pub kind : named ≡ contents.heading.kind
  pub indices : indices_of linear ≡ indices contents
  pub read : texts numbers ≡ contents.numbers
  pub columns : d ≡ min contents.sizes.columns (2 ^ 127)
  pub passed : NoneOf (form_tests bytes)

-- the fault that stands for why tokens are no body of integers or fractions
abbrev pub fault_of : BodyErr → Fault
fault_of (Wrong at) = fault.CddSyntax at
fault_of OtherType = fault.NumberType

-- the file names the other kind, or has too many columns
abbrev pub IsLimitFault : Format → Option Format → ℕ → Fault → Type 0
IsLimitFault want named d fault.WrongKind = named ≡ Some (other want)
IsLimitFault want named d fault.TooManyDims = ¬ (named ≡ Some (other want)) × (MAX_WIDTH < d)
IsLimitFault want named d f = ⊥

-- one row for each mark, cut off the numbers one behind the other
abbrev pub rows_of : ℕ → List Bool → List ℤ → List Row
rows_of width [] numbers = []
rows_of width (marked ∷ more) numbers =
    (take width numbers, marked) ∷ rows_of width more (drop width numbers)

-- the marks have rows of this width, whose numbers are of the range
pub record FitTable (width : ℕ) (marked : List Bool) (numbers : List ℤ) : Type 0 where
  pub some : 0 < width
  pub narrow : width ≤ MAX_WIDTH
  pub count : length numbers ≡ length marked * width
  pub in_range : AllInRange numbers

-- the file passes the tests up to those of its rows, and its rows are these
pub record IsTable (want : Format) (bytes : List ℕ) (width : ℕ) (marked : List Bool)
    (numbers : List ℤ) : Type 0 where
  pub contents : Contents
  pub says : IsContents bytes contents
  pub columns : width ≡ contents.sizes.columns
  pub rows : marked ≡ marks (indices contents) contents.sizes.rows
  pub read : numbers ≡ values contents
  pub fit : FitTable width marked numbers
  pub passed : NoneOf (table_tests want bytes)

-- the faults that the first number of a row shows
abbrev pub IsFirstFault : Bool → ℤ → Fault → Type 0
IsFirstFault marked t fault.NegativeFirst = t <ℤ pos 0
IsFirstFault marked t fault.LinearityOnVertex = (pos 0 <ℤ t) × (marked ≡ true)
IsFirstFault marked t f = ⊥

-- the rows of a table
abbrev pub rows_in : Table → List Row
rows_in table = rows_of table.width table.marks.items table.values.items

-- the row has no fault, and is stored as a generator
abbrev pub IsAdded : Row → List Generator → List Generator → Type 0
IsAdded row old new =
    (g : Generator) × IsVectorOf row g × (new ≡ old ++ g ∷ [])
    × ((f : Fault) → ¬ (IsVectorFault row.1 row.0 f))

-- the rows have no fault, and are these generators
pub record AreStored (rows : List Row) (list : List Generator) : Type 0 where
  pub each : AllZip IsVectorOf rows list
  pub faultless : HaveNoFault rows

-- likewise, with the origin where it is wanted
pub record AreVectors (rows : List Row) (dim : ℕ) (list : List Generator) : Type 0 where
  pub given : List Generator
  pub each : AllZip IsVectorOf rows given
  pub whole : list ≡ with_origin dim given
  pub faultless : HaveNoFault rows

-- no generators are made, for this test
abbrev pub IsRefusedBy : Test → ReadErr → Type 0
IsRefusedBy test (Input f) = test f
IsRefusedBy test Memory = Unit {0}
