-- The format of files: lines of words, a head, rows of numbers between `begin` and `end`.
use Rattle.std.specs.Prelude.{◌≡◌, ◌≢◌, ◌<◌, ◌≤◌, ◌+◌, ◌⊎◌, ◌==◌, ℕ, List, [], ◌∷◌, ◌++◌, length, slice_index_or, map, Bool, true, false, not, if◌then◌else◌, codes, decimal, ℤ, pos, ◌*ℤ◌, ◌<ℤ◌, All}
use Rattle.std.proofs.Math.IntN.{neg_ℤ}
use Rattle.std.specs.List.{flat_map, list_any, AllZip}
use Rattle.std.specs.Str.Lines.{lines}
use Rattle.row_core.specs.Vectors.{cell}
use Rattle.cons_sys.specs.Constraints.{Constraint}
use Rattle.cons_sys.specs.declared.kind.ConKind.TheVariants.{Eq, Ge}
use Rattle.gens_sys.specs.Generators.{Generator}
use Rattle.gens_sys.specs.declared.kind.GenKind.TheVariants.{Line, Ray, Point, ClosurePoint}
use Rattle.cdd_reading.specs.Tokens.{tokens, IsOnly}
use Rattle.cdd_reading.specs.Files.{IsEnd}
use Rattle.cdd_text.specs.Written.{line_of}
use Rattle.soundness.specs.TextsNumbers.{IsNumber}

-- ---- numbers
-- digits with at most one sign before them
pub data IsInteger : List ℕ → ℤ → Type 0 where
  whole : (w : List ℕ) (n : ℕ) → IsNumber w n → IsInteger w (pos n)
  plus : (w : List ℕ) (n : ℕ) → IsNumber w n → IsInteger (codes "+" ++ w) (pos n)
  minus : (w : List ℕ) (n : ℕ) → IsNumber w n → IsInteger (codes "-" ++ w) (neg_ℤ (pos n))

-- an integer, or an integer and behind `/` a number above 0; with the numerator and the denominator
pub data IsFraction : List ℕ → ℤ → ℕ → Type 0 where
  integer : (w : List ℕ) (z : ℤ) → IsInteger w z → IsFraction w z 1
  fraction : (w u : List ℕ) (z : ℤ) (d : ℕ) → IsInteger w z → IsNumber u d → 0 < d →
      IsFraction (w ++ (codes "/" ++ u)) z d

-- so many times the entry is so many times the number of the word
abbrev pub IsTimes : ℕ → ℕ → List ℕ → ℤ → Type 0
IsTimes left right w z = (num : ℤ) × (den : ℕ) × IsFraction w num den
    × (pos left *ℤ z *ℤ pos den ≡ pos right *ℤ num)

-- ---- rows
-- the entries are a positive multiple of the numbers, of which the first one goes to the end
pub record AreNumbersOf (words : List (List ℕ)) (row : List ℤ) : Type 0 where
  pub first : List ℕ
  pub others : List (List ℕ)
  pub words_are : words ≡ first ∷ others
  pub left : ℕ
  pub right : ℕ
  pub left_positive : 0 < left
  pub right_positive : 0 < right
  pub each : AllZip (IsTimes left right) (others ++ first ∷ []) row

-- `b a1 .. an` is `a1*x1 + .. + an*xn + b >= 0`, or an equality where it is marked
abbrev pub IsRowOf : Bool → List (List ℕ) → Constraint → Type 0
IsRowOf marked words c = AreNumbersOf words c.0 × (c.1 ≡ (if marked then Eq else Ge))

-- the vector is a direction: its last entry is 0, and not all of its entries are
abbrev pub IsDirection : ℕ → List ℤ → Type 0
IsDirection dim v = (cell v dim ≡ pos 0) × ¬ (All (λ z. z ≡ pos 0) v)

-- `t x1 .. xn` is the point (x1/t, .., xn/t) where t is above 0; where t is 0 it is a ray, or a
-- line if it is marked
abbrev pub IsVectorOf : ℕ → Bool → List (List ℕ) → Generator → Type 0
IsVectorOf dim marked words (v, Point) =
    AreNumbersOf words v × (pos 0 <ℤ cell v dim) × (marked ≡ false)
IsVectorOf dim marked words (v, Ray) =
    AreNumbersOf words v × IsDirection dim v × (marked ≡ false)
IsVectorOf dim marked words (v, Line) =
    AreNumbersOf words v × IsDirection dim v × (marked ≡ true)
IsVectorOf dim marked words (v, ClosurePoint) = ⊥

-- row i says the first of the list, the next row the next, and so on; these numbers are marked
abbrev pub AreRows : {A : Type 0} → (Bool → List (List ℕ) → A → Type 0) → List ℕ → ℕ →
    List (List (List ℕ)) → List A → Type 0
AreRows Says marked i [] list = list ≡ []
AreRows Says marked i (row ∷ rows) [] = ⊥
AreRows Says marked i (row ∷ rows) (a ∷ list) =
    Says (list_any (λ k. k == i) marked) row a × AreRows Says marked (i + 1) rows list

-- ---- files that are read
-- the name of a kind of files: of generators, or of constraints
abbrev pub kind_name : Bool → List ℕ
kind_name false = codes "H-representation"
kind_name true = codes "V-representation"

-- a line before `begin`: it isn't that line, and doesn't name the other kind
abbrev pub IsBeforeBegin : Bool → List ℕ → Type 0
IsBeforeBegin ext line = ¬ (IsOnly (codes "begin") line) × ¬ (IsOnly (kind_name (not ext)) line)

-- the type of the words of the rows: integers alone, or fractions too
abbrev pub IsTypeOf : List (List (List ℕ)) → List ℕ → Type 0
IsTypeOf rows type = (type ≡ codes "rational") ⊎ ((type ≡ codes "integer")
    × All (λ row. All (λ w. (z : ℤ) × IsInteger w z) row) rows)

-- the first word of the line is another than `linearity`
abbrev pub NamesNoRow : List ℕ → Type 0
NamesNoRow line = (others : List (List ℕ)) → tokens line ≢ codes "linearity" ∷ others

-- `linearity`, how many rows are marked, and their numbers, where the first row has the number 1
pub record NamesRows (line : List ℕ) (marked : List ℕ) : Type 0 where
  pub count : List ℕ
  pub numbers : List (List ℕ)
  pub words : tokens line ≡ codes "linearity" ∷ count ∷ numbers
  pub counted : IsNumber count (length marked)
  pub each : AllZip IsNumber numbers marked

-- at most one of the lines names rows, and these are marked
abbrev pub HaveMarks : List (List ℕ) → List ℕ → Type 0
HaveMarks [] marked = marked ≡ []
HaveMarks (line ∷ head) marked = (NamesNoRow line × HaveMarks head marked)
    ⊎ (NamesRows line marked × All NamesNoRow head)

-- how many rows and columns there are, the type of the numbers, and the numbers, row by row
pub record AreTableWords (words : List (List ℕ)) (columns : ℕ)
    (rows : List (List (List ℕ))) : Type 0 where
  pub m : List ℕ
  pub d : List ℕ
  pub type : List ℕ
  pub is : words ≡ m ∷ d ∷ type ∷ flat_map (λ row. row) rows
  pub rows_counted : IsNumber m (length rows)
  pub columns_counted : IsNumber d columns
  pub typed : IsTypeOf rows type
  pub wide : All (λ (row : List (List ℕ)). length row ≡ columns) rows

-- the file, of generators or of constraints, has these marks and rows: the lines of its head,
-- `begin`, those of its table, and the first line `end`; none has more than 65,535 bytes
pub record IsFile (ext : Bool) (bytes marked : List ℕ) (columns : ℕ)
    (rows : List (List (List ℕ))) : Type 0 where
  pub head : List (List ℕ)
  pub begin : List ℕ
  pub table : List (List ℕ)
  pub end : List ℕ
  pub behind : List (List ℕ)
  pub cut : lines bytes ≡ head ++ begin ∷ (table ++ end ∷ behind)
  pub before : All (IsBeforeBegin ext) head
  pub marks : HaveMarks head marked
  pub begins : IsOnly (codes "begin") begin
  pub each : All (λ line. (length line ≤ 65535) × ¬ (IsEnd line)) (head ++ begin ∷ table)
  pub words : AreTableWords (flat_map tokens table) columns rows
  pub ends : IsEnd end

-- ---- files that are written
-- the first word of the row is `1` or `0`
abbrev pub BeginsSo : List (List ℕ) → Type 0
BeginsSo row = (slice_index_or row 0 [] ≡ codes "1") ⊎ (slice_index_or row 0 [] ≡ codes "0")

-- the line that names the marked rows; none where no row is
abbrev pub marks_text : List ℕ → List ℕ
marks_text marked = if length marked == 0 then []
    else line_of (codes "linearity" ∷ decimal (length marked) ∷ map decimal marked)

-- the lines of a file, with one space between two words
abbrev pub file_text : Bool → List ℕ → ℕ → List ℕ → List (List (List ℕ)) → List ℕ
file_text ext marked columns type rows = line_of (kind_name ext ∷ []) ++ marks_text marked
    ++ line_of (codes "begin" ∷ []) ++ line_of (decimal (length rows) ∷ decimal columns ∷ type ∷ [])
    ++ flat_map line_of rows ++ line_of (codes "end" ∷ [])
