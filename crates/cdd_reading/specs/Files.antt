-- What files say.
use Rattle.std.specs.Prelude.{◌≡◌, ℕ, ◌+◌, ◌≤◌, ◌==◌, ◌&&◌, not, List, [], ◌∷◌, ◌++◌, length, map, Bool, true, false, if◌then◌else◌, unwrap_or, codes, All, ℤ, pos, ◌<ℤ◌, replicate}
use Rattle.std.specs.Str.{bytes_eq}
use Rattle.std.specs.List.{flat_map, list_any, range_with_len, AllZip}
use Rattle.std.specs.Str.Lines.{lines}
use Rattle.row_core.specs.Content.{IsPrimitiveOf}
use Rattle.row_core.specs.Lists.{Row}
use Rattle.row_core.specs.Vectors.{cell}
use Rattle.cons_sys.specs.Constraints.{Constraint, Constraints}
use Rattle.cons_sys.specs.declared.kind.ConKind.TheVariants.{Eq, Ge}
use Rattle.gens_sys.specs.Generators.{Generator, Generators}
use Rattle.gens_sys.specs.Kinds as kind
use Rattle.gens_sys.specs.declared.kind.GenKind.{GenKind}
use Rattle.gens_sys.specs.declared.kind.GenKind.TheVariants.{Line, Ray, Point, ClosurePoint}
use Rattle.cdd_reading.specs.Tokens.{IsOnly, texts, numbered, has_some}
use Rattle.cdd_reading.specs.Fractions.{all_integers}
use Rattle.cdd_reading.specs.Headings.{Heading, IsHead}
use Rattle.cdd_reading.specs.Bodies.{Sizes, IsBody}

-- a line that ends a file
abbrev pub IsEnd : List ℕ → Type 0
IsEnd line = (length line ≤ 65535) × IsOnly (codes "end") line

-- the lines before the first that ends the file, and those behind it; that one has the number
-- length file + 1
pub record IsFile (bytes : List ℕ) (file behind : List (List ℕ)) : Type 0 where
  pub last : List ℕ
  pub cut : lines bytes ≡ file ++ last ∷ behind
  pub unended : All (λ line. ¬ (IsEnd line)) file
  pub ends : IsEnd last

-- what a file says
pub record Contents : Type 0 where
  pub heading : Heading
  pub sizes : Sizes
  pub numbers : List (List ℕ)

-- the lines say this: a heading, and behind it a body
pub record AreContents (file : List (List ℕ)) (c : Contents) : Type 0 where
  pub before : List (List ℕ)
  pub behind : List (List ℕ)
  pub head : IsHead file c.heading before behind
  pub body : IsBody (texts (numbered (length before + 2) behind)) c.sizes c.numbers

abbrev pub IsContents : List ℕ → Contents → Type 0
IsContents bytes c =
    (file : List (List ℕ)) × (behind : List (List ℕ)) × IsFile bytes file behind
    × AreContents file c

-- the numbers, each row times the least common multiple of its denominators
abbrev pub values : Contents → List ℤ
values c = all_integers c.sizes.columns c.numbers

-- the indices of the linearity line, counted from 1
abbrev pub indices : Contents → List ℕ
indices c = unwrap_or c.heading.linearity []

-- for each of so many rows, whether the indices name it
abbrev pub marks : List ℕ → ℕ → List Bool
marks is m = map (λ i. list_any (λ k. k == i) is) (range_with_len 1 m)

-- the rows of the file as integers, one behind the other, each with whether the linearity line
-- names it
pub record AreRows (c : Contents) (rows : List Row) : Type 0 where
  pub marked : map (λ (row : Row). row.1) rows ≡ marks (indices c) c.sizes.rows
  pub wide : All (λ (row : Row). length row.0 ≡ c.sizes.columns) rows
  pub numbers : flat_map (λ (row : Row). row.0) rows ≡ values c

-- the first number goes to the end
abbrev pub turned : List ℤ → List ℤ
turned [] = []
turned (b ∷ row) = row ++ b ∷ []

-- `b a1 .. an` is `a1*x1 + .. + an*xn + b >= 0`, or an equality where it is marked
abbrev pub IsRowOf : Row → Constraint → Type 0
IsRowOf row c = IsPrimitiveOf (turned row.0) c.0 × (c.1 ≡ (if row.1 then Eq else Ge))

-- `t x1 .. xn` is a point with divisor t where t is positive; where t is 0 it is a ray, and a line
-- where it is marked
abbrev pub IsKind : Bool → ℤ → GenKind → Type 0
IsKind marked t Point = (pos 0 <ℤ t) × (marked ≡ false)
IsKind marked t Ray = (t ≡ pos 0) × (marked ≡ false)
IsKind marked t Line = (t ≡ pos 0) × (marked ≡ true)
IsKind marked t ClosurePoint = ⊥

abbrev pub IsVectorOf : Row → Generator → Type 0
IsVectorOf row g = IsPrimitiveOf (turned row.0) g.0 × IsKind row.1 (cell row.0 0) g.1

-- whether a generator is a point
abbrev pub is_point : Generator → Bool
is_point g = kind.is_point g.1

-- the vector of the origin
abbrev pub origin : ℕ → List ℤ
origin dim = replicate dim (pos 0) ++ pos 1 ∷ []

-- with the origin as a further point, where there are generators and no point
abbrev pub with_origin : ℕ → List Generator → List Generator
with_origin dim gs =
    if has_some gs && not (list_any is_point gs) then gs ++ (origin dim, Point) ∷ [] else gs

-- the file holds these constraints
pub record IsIneFile (bytes : List ℕ) (cs : Constraints) : Type 0 where
  pub contents : Contents
  pub says : IsContents bytes contents
  pub rows : List Row
  pub are_rows : AreRows contents rows
  pub over : contents.sizes.columns ≡ cs.dim + 1
  pub each : AllZip IsRowOf rows cs.list

-- the file holds these generators
pub record IsExtFile (bytes : List ℕ) (gs : Generators) : Type 0 where
  pub contents : Contents
  pub says : IsContents bytes contents
  pub rows : List Row
  pub are_rows : AreRows contents rows
  pub over : contents.sizes.columns ≡ gs.dim + 1
  pub given : List Generator
  pub each : AllZip IsVectorOf rows given
  pub list : gs.list ≡ with_origin gs.dim given

-- `linearity` stands as a token behind the file
abbrev pub HasLinearityAfter : List ℕ → Type 0
HasLinearityAfter bytes =
    (file : List (List ℕ)) × (behind : List (List ℕ)) × IsFile bytes file behind
    × (list_any (λ t. bytes_eq t (codes "linearity")) (texts (numbered 1 behind)) ≡ true)
