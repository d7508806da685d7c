-- Expressions: a row has the coefficients of the variables in order, and then the constant.
use Rattle.std.specs.Prelude.{ℕ, ◌-◌, ◌^◌, ◌<◌, min, List, [], ◌∷◌, ◌++◌, codes, replicate, ℤ, pos, negsuc}
use Rattle.row_core.specs.Vectors.{add, scale}
use Rattle.soundness.specs.TextsNumbers.{Tokens, IsNumber, IsVariable, IsText}

-- the column of a variable; column 2^32, where no set has a variable, stands for all later ones too
abbrev pub column : ℕ → ℕ
column j = min j (2 ^ 32)

-- the row that is n at column j and 0 elsewhere; column dim is the last
abbrev pub at_column : ℕ → ℕ → ℤ → List ℤ
at_column dim j n = replicate j (pos 0) ++ n ∷ replicate (dim - j) (pos 0)

-- each entry with its sign changed
abbrev pub opposite : List ℤ → List ℤ
opposite row = scale (negsuc 0) row

-- the entries of the first minus those of the second
abbrev pub difference : List ℤ → List ℤ → List ℤ
difference u v = add u (opposite v)

-- a variable, or a number times a variable: `A`, `3*A`
pub data IsMultiple (dim : ℕ) : Tokens → List ℤ → Type 0 where
  variable : (w : List ℕ) (j : ℕ) → IsVariable w j → column j < dim →
      IsMultiple dim (w ∷ []) (at_column dim (column j) (pos 1))
  product : (w u : List ℕ) (n j : ℕ) → IsNumber w n → IsVariable u j → column j < dim →
      IsMultiple dim (w ∷ codes "*" ∷ u ∷ []) (at_column dim (column j) (pos n))

-- such a multiple, or a number
pub data IsTerm (dim : ℕ) : Tokens → List ℤ → Type 0 where
  multiple : (ts : Tokens) (row : List ℤ) → IsMultiple dim ts row → IsTerm dim ts row
  constant : (w : List ℕ) (n : ℕ) → IsNumber w n → IsTerm dim (w ∷ []) (at_column dim dim (pos n))

-- a term or - and a term, and then any number of terms with + or - before them
pub data IsSum (Means : Tokens → List ℤ → Type 0) : Tokens → List ℤ → Type 0 where
  one : (ts : Tokens) (u : List ℤ) → Means ts u → IsSum Means ts u
  minus_one : (ts : Tokens) (u : List ℤ) → Means ts u → IsSum Means (codes "-" ∷ ts) (opposite u)
  plus : (ss ts : Tokens) (u v : List ℤ) → IsSum Means ss u → Means ts v →
      IsSum Means (ss ++ codes "+" ∷ ts) (add u v)
  minus : (ss ts : Tokens) (u v : List ℤ) → IsSum Means ss u → Means ts v →
      IsSum Means (ss ++ codes "-" ∷ ts) (difference u v)

-- an expression is a sum of terms
abbrev pub IsExpression : ℕ → Tokens → List ℤ → Type 0
IsExpression dim ts row = IsSum (IsTerm dim) ts row

-- the coordinates of a point or a direction: 0, or a sum of multiples of variables
pub data AreCoordinates (dim : ℕ) : Tokens → List ℤ → Type 0 where
  origin : AreCoordinates dim (codes "0" ∷ []) (at_column dim dim (pos 0))
  sum : (ts : Tokens) (row : List ℤ) → IsSum (IsMultiple dim) ts row → AreCoordinates dim ts row

-- what Means tells, or that in brackets over a number above 0, the divisor; with the divisor
pub data IsQuotient (Means : Tokens → List ℤ → Type 0) : Tokens → List ℤ × ℕ → Type 0 where
  whole : (ts : Tokens) (row : List ℤ) → Means ts row → IsQuotient Means ts (row, 1)
  divided : (ts : Tokens) (w : List ℕ) (row : List ℤ) (n : ℕ) → Means ts row → IsNumber w n →
      0 < n → IsQuotient Means (codes "(" ∷ ts ++ codes ")" ∷ codes "/" ∷ w ∷ []) (row, n)

-- the text is an expression, and this is its row
abbrev pub ExpressionText : ℕ → List ℕ → List ℤ → Type 0
ExpressionText dim text row = IsText (IsExpression dim) text row

-- the text is an expression or one over a divisor, and these are its row and the divisor
abbrev pub FractionText : ℕ → List ℕ → List ℤ → ℕ → Type 0
FractionText dim text row divisor = IsText (IsQuotient (IsExpression dim)) text (row, divisor)
