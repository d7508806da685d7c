-- What texts mean as rows.
use Rattle.std.specs.Prelude.{Bool, true, false, if◌then◌else◌, ◌≡◌, ℕ, ◌+◌, ◌^◌, ◌<◌, ◌≤◌, List, length, ℤ, pos}
use Rattle.std.proofs.Math.IntN.{neg_ℤ}
use Rattle.row_core.specs.Vectors.{cell}
use Rattle.grammar.specs.Form.{Form, Matches}
use Rattle.grammar.specs.Grammar.{alone}
use Rattle.grammar.specs.Cases.{expr_cases, frac_cases, point_cases}
use Rattle.term_text.specs.declared.terms.Term.{Term}
use Rattle.term_text.specs.declared.terms.Relation.{Relation}
use Rattle.term_text.specs.declared.terms.Relation.TheVariants.{Equal, AtLeast, AtMost, Above, Below}
use Rattle.term_text.specs.declared.terms.ValueErr.{ValueErr}
use Rattle.term_text.specs.declared.terms.ValueErr.TheVariants.{OutOfRange, TooLarge, ZeroDivisor, Memory}
use Rattle.term_text.specs.Terms.{AreWithin, total, Stay, IsRow}
use Rattle.term_text.specs.Values.{Ratio, Comparison, expr_by, frac_by, point_by, alone_by}

-- the text has the form, with blanks around it, and P holds of what it says
pub record Says {A : Type 0} (f : Form) (by : (w : List ℕ) → Matches f w → A) (text : List ℕ)
    (P : A → Type 0) : Type 0 where
  pub form : Matches (alone f) text
  pub holds : P (alone_by f by text form)

-- the terms have this row
pub record IsRowOf (dim : ℕ) (ts : List Term) (row : List ℤ) : Type 0 where
  pub within : AreWithin dim ts
  pub stay : Stay dim ts
  pub sums : IsRow dim ts row

-- the terms have no row, and this is the first cause that holds
abbrev pub IsRowOfFault : ℕ → List Term → ValueErr → Type 0
IsRowOfFault dim ts OutOfRange = ¬ (AreWithin dim ts)
IsRowOfFault dim ts TooLarge = AreWithin dim ts × ¬ (Stay dim ts)
IsRowOfFault dim ts ZeroDivisor = ⊥
IsRowOfFault dim ts Memory = Unit {0}

-- no number on the way to the row and no divisor is too large
pub record RatioStays (dim : ℕ) (r : Ratio) : Type 0 where
  pub terms : Stay dim r.terms
  pub divisor : r.divisor < 2 ^ 127

-- the number is this divisor
pub record IsDivisor (n : ℕ) (divisor : ℤ) : Type 0 where
  pub small : n < 2 ^ 127
  pub positive : 0 < n
  pub same : divisor ≡ pos n

-- the number is no divisor, and this is the first cause that holds
abbrev pub IsDivisorFault : ℕ → ValueErr → Type 0
IsDivisorFault n OutOfRange = ⊥
IsDivisorFault n TooLarge = ¬ (n < 2 ^ 127)
IsDivisorFault n ZeroDivisor = n ≡ 0
IsDivisorFault n Memory = ⊥

-- the row of the expression, and the divisor
pub record IsFracOf (dim : ℕ) (r : Ratio) (row : List ℤ) (divisor : ℤ) : Type 0 where
  pub within : AreWithin dim r.terms
  pub stay : RatioStays dim r
  pub positive : 0 < r.divisor
  pub sums : IsRow dim r.terms row
  pub same : divisor ≡ pos r.divisor

-- in each column but the last the sum of the coordinate's terms, and last the divisor
pub record IsPointOf (dim : ℕ) (r : Ratio) (row : List ℤ) : Type 0 where
  pub within : AreWithin dim r.terms
  pub stay : RatioStays dim r
  pub positive : 0 < r.divisor
  pub wide : length row ≡ dim + 1
  pub coordinates : (j : ℕ) → j < dim → cell row j ≡ total dim r.terms j
  pub last : cell row dim ≡ pos r.divisor

-- there is no such row, and this is the first cause that holds
abbrev pub IsRatioFault : ℕ → Ratio → ValueErr → Type 0
IsRatioFault dim r OutOfRange = ¬ (AreWithin dim r.terms)
IsRatioFault dim r TooLarge = AreWithin dim r.terms × ¬ (RatioStays dim r)
IsRatioFault dim r ZeroDivisor = AreWithin dim r.terms × RatioStays dim r × (r.divisor ≡ 0)
IsRatioFault dim r Memory = Unit {0}

-- E <= F and E < F are read as F - E
abbrev pub turns : Relation → Bool
turns Equal = false
turns AtLeast = false
turns AtMost = true
turns Above = false
turns Below = true

-- the number, with its sign changed for <= and <
abbrev pub facing : Relation → ℤ → ℤ
facing relation z = if turns relation then neg_ℤ z else z

-- in each column the sum of the constraint's terms, as its relation faces
pub record IsConRow (dim : ℕ) (c : Comparison) (row : List ℤ) : Type 0 where
  pub wide : length row ≡ dim + 1
  pub cells : (j : ℕ) → j ≤ dim → cell row j ≡ facing c.relation (total dim c.terms j)

-- the text is an expression, and this is its row
abbrev pub IsExpr : ℕ → List ℕ → List ℤ → Type 0
IsExpr dim text row = Says expr_cases expr_by text (λ ts. IsRowOf dim ts row)

-- the text is an expression without a row, for this cause
abbrev pub IsExprFault : ℕ → List ℕ → ValueErr → Type 0
IsExprFault dim text fault = Says expr_cases expr_by text (λ ts. IsRowOfFault dim ts fault)

-- the text is an expression with a divisor, and these are its row and the divisor
abbrev pub IsFrac : ℕ → List ℕ → List ℤ → ℤ → Type 0
IsFrac dim text row divisor = Says frac_cases frac_by text (λ r. IsFracOf dim r row divisor)

-- the text is such an expression without a value, for this cause
abbrev pub IsFracFault : ℕ → List ℕ → ValueErr → Type 0
IsFracFault dim text fault = Says frac_cases frac_by text (λ r. IsRatioFault dim r fault)

-- the text is a point, and this is its vector
abbrev pub IsPoint : ℕ → List ℕ → List ℤ → Type 0
IsPoint dim text row = Says point_cases point_by text (λ r. IsPointOf dim r row)

-- the text is a point without a vector, for this cause
abbrev pub IsPointFault : ℕ → List ℕ → ValueErr → Type 0
IsPointFault dim text fault = Says point_cases point_by text (λ r. IsRatioFault dim r fault)
