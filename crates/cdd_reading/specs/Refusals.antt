-- Why a file is refused.
use Rattle.std.specs.Prelude.{◌≡◌, ℕ, ◌+◌, ◌<◌, ◌≤◌, ◌⊎◌, List, [], ◌∷◌, ◌++◌, length, Bool, true, Some, All, ℤ, pos, ◌<ℤ◌}
use Rattle.std.specs.Str.Lines.{lines}
use Rattle.row_core.specs.Lists.{Row}
use Rattle.row_core.specs.Vectors.{cell}
use Rattle.reply_text.specs.declared.faults.Fault.{Fault}
use Rattle.reply_text.specs.declared.faults.Fault.TheVariants as fault
use Rattle.reply_text.specs.declared.faults.ReadErr.{ReadErr}
use Rattle.reply_text.specs.declared.faults.ReadErr.TheVariants.{Input, Memory}
use Rattle.cdd_reading.specs.Tokens.{Token, numbered}
use Rattle.cdd_reading.specs.FirstWrong.{IsFirstWrong}
use Rattle.cdd_reading.specs.Fractions.{AllDivide, FitRange}
use Rattle.cdd_reading.specs.Headings.{Heading, IsHead, HasNoHead}
use Rattle.cdd_reading.specs.Bodies.{HasNoSizes, HasType, HasNoBody}
use Rattle.cdd_reading.specs.Files.{IsEnd, IsFile, Contents, IsContents, AreRows, indices}
use Rattle.cdd_reading.specs.declared.format.Format.{Format}
use Rattle.cdd_reading.specs.declared.format.Format.TheVariants.{Ine, Ext}
use Rattle.cdd_reading.specs.declared.format.NumberType.TheVariants.{Real}
use Rattle.cdd_reading.specs.declared.table.TheConstants.{MAX_WIDTH}

-- a test, by the faults that it finds
abbrev pub Test : Type 1
Test = Fault → Type 0

-- the fault is one of the first test that finds any
abbrev pub IsFirstOf : List Test → Fault → Type 0
IsFirstOf [] f = ⊥
IsFirstOf (test ∷ tests) f = test f ⊎ (((g : Fault) → ¬ (test g)) × IsFirstOf tests f)

abbrev pub NoneOf : List Test → Type 0
NoneOf [] = Unit {0}
NoneOf (test ∷ tests) = ((g : Fault) → ¬ (test g)) × NoneOf tests

-- the lines of the file, and behind its heading tokens; and the number of the line that ends it
abbrev pub OfTokens : List ℕ → (List Token → ℕ → Type 0) → Type 0
OfTokens bytes P =
    (file : List (List ℕ)) × (rest : List (List ℕ)) × IsFile bytes file rest
    × ((h : Heading) × (before : List (List ℕ)) × (behind : List (List ℕ))
    × IsHead file h before behind × P (numbered (length before + 2) behind) (length file + 1))

abbrev pub OfContents : List ℕ → (Contents → Type 0) → Type 0
OfContents bytes P = (c : Contents) × IsContents bytes c × P c

abbrev pub OfFile : List ℕ → (List (List ℕ) → Type 0) → Type 0
OfFile bytes P = (file : List (List ℕ)) × (rest : List (List ℕ)) × IsFile bytes file rest × P file

-- no line ends the file
abbrev pub truncated : List ℕ → Test
truncated bytes f = (f ≡ fault.Truncated) × All (λ line. ¬ (IsEnd line)) (lines bytes)

abbrev pub AreShort : List (List ℕ) → Type 0
AreShort file = All (λ line. length line ≤ 65535) file

abbrev pub line_too_long : List ℕ → Test
line_too_long bytes f = (f ≡ fault.LineTooLong) × OfFile bytes (λ file. ¬ (AreShort file))

-- the lines before `begin`, and the sizes
abbrev pub no_sizes : List ℕ → Test
no_sizes bytes f =
    (n : ℕ) × (f ≡ fault.CddSyntax n)
    × (OfFile bytes (λ file. HasNoHead file n) ⊎ OfTokens bytes (λ ts end. HasNoSizes ts end n))

abbrev pub number_type : List ℕ → Test
number_type bytes f = (f ≡ fault.NumberType) × OfTokens bytes (λ ts end. HasType ts Real)

abbrev pub no_body : List ℕ → Test
no_body bytes f = (n : ℕ) × (f ≡ fault.CddSyntax n) × OfTokens bytes (λ ts end. HasNoBody ts end n)

abbrev pub other : Format → Format
other Ine = Ext
other Ext = Ine

abbrev pub wrong_kind : Format → List ℕ → Test
wrong_kind want bytes f =
    (f ≡ fault.WrongKind) × OfContents bytes (λ c. c.heading.kind ≡ Some (other want))

abbrev pub too_many_dims : List ℕ → Test
too_many_dims bytes f =
    (f ≡ fault.TooManyDims) × OfContents bytes (λ c. MAX_WIDTH < c.sizes.columns)

abbrev pub zero_divisor : List ℕ → Test
zero_divisor bytes f = (f ≡ fault.ZeroDivisor) × OfContents bytes (λ c. ¬ (AllDivide c.numbers))

abbrev pub too_large : List ℕ → Test
too_large bytes f =
    (f ≡ fault.NumberTooLarge) × OfContents bytes (λ c. ¬ (FitRange c.sizes.columns c.numbers))

-- each index names one of so many rows
abbrev pub AllName : ℕ → List ℕ → Type 0
AllName m is = All (λ i. (0 < i) × (i ≤ m)) is

abbrev pub bad_index : List ℕ → Test
bad_index bytes f =
    (f ≡ fault.LinearityIndex) × OfContents bytes (λ c. ¬ (AllName c.sizes.rows (indices c)))

-- the faults of a row of generators
abbrev pub IsVectorFault : Bool → List ℤ → Test
IsVectorFault marked row fault.NegativeFirst = cell row 0 <ℤ pos 0
IsVectorFault marked row fault.LinearityOnVertex = (pos 0 <ℤ cell row 0) × (marked ≡ true)
IsVectorFault marked row fault.ZeroVector = All (λ z. z ≡ pos 0) row
IsVectorFault marked row f = ⊥

-- no row has a fault
abbrev pub HaveNoFault : List Row → Type 0
HaveNoFault rows = All (λ (row : Row). (f : Fault) → ¬ (IsVectorFault row.1 row.0 f)) rows

-- the fault of the first row that has one
pub record IsRowsFault (rows : List Row) (f : Fault) : Type 0 where
  pub before : List Row
  pub row : Row
  pub first : IsFirstWrong HaveNoFault rows before row
  pub is : IsVectorFault row.1 row.0 f

abbrev pub bad_row : List ℕ → Test
bad_row bytes f = OfContents bytes (λ c. (rows : List Row) × AreRows c rows × IsRowsFault rows f)

-- the tests of the lines and tokens of a file
abbrev pub form_tests : List ℕ → List Test
form_tests bytes =
    truncated bytes ∷ line_too_long bytes ∷ no_sizes bytes ∷ number_type bytes ∷ no_body bytes ∷ []

-- the tests of what a file says, where it is taken for one of this kind
abbrev pub content_tests : Format → List ℕ → List Test
content_tests want bytes =
    wrong_kind want bytes ∷ too_many_dims bytes ∷ zero_divisor bytes ∷ too_large bytes
    ∷ bad_index bytes ∷ []

-- those of its rows
abbrev pub row_tests : Format → List ℕ → List Test
row_tests Ine bytes = []
row_tests Ext bytes = bad_row bytes ∷ []

abbrev pub table_tests : Format → List ℕ → List Test
table_tests want bytes = form_tests bytes ++ content_tests want bytes

-- all tests, in order
abbrev pub tests : Format → List ℕ → List Test
tests want bytes = table_tests want bytes ++ row_tests want bytes

-- nothing is read, for this
abbrev pub IsRefusal : List Test → ReadErr → Type 0
IsRefusal ts (Input f) = IsFirstOf ts f
IsRefusal ts Memory = Unit {0}
