-- Constraints, points, generators and lists of variables.
use Rattle.std.specs.Prelude.{ℕ, List, [], ◌∷◌, ◌++◌, codes, ℤ, pos, negsuc}
use Rattle.row_core.specs.Vectors.{add}
use Rattle.cons_sys.specs.Constraints.{Constraint}
use Rattle.cons_sys.specs.declared.kind.ConKind.TheVariants.{Eq, Ge, Gt}
use Rattle.gens_sys.specs.Generators.{Generator}
use Rattle.gens_sys.specs.declared.kind.GenKind.TheVariants.{Line, Ray, Point, ClosurePoint}
use Rattle.soundness.specs.TextsNumbers.{Tokens, IsVariable, IsText}
use Rattle.soundness.specs.TextsExpressions.{at_column, difference, IsExpression, AreCoordinates, IsQuotient}

-- that the difference of two sides, the greater one first, is 0, is at least 0, or is above 0
pub data SaysConstraint (dim : ℕ) : Tokens → Constraint → Type 0 where
  equal : (ss ts : Tokens) (u v : List ℤ) → IsExpression dim ss u → IsExpression dim ts v →
      SaysConstraint dim (ss ++ codes "=" ∷ ts) (difference u v, Eq)
  at_least : (ss ts : Tokens) (u v : List ℤ) → IsExpression dim ss u → IsExpression dim ts v →
      SaysConstraint dim (ss ++ codes ">=" ∷ ts) (difference u v, Ge)
  at_most : (ss ts : Tokens) (u v : List ℤ) → IsExpression dim ss u → IsExpression dim ts v →
      SaysConstraint dim (ss ++ codes "<=" ∷ ts) (difference v u, Ge)
  above : (ss ts : Tokens) (u v : List ℤ) → IsExpression dim ss u → IsExpression dim ts v →
      SaysConstraint dim (ss ++ codes ">" ∷ ts) (difference u v, Gt)
  below : (ss ts : Tokens) (u v : List ℤ) → IsExpression dim ss u → IsExpression dim ts v →
      SaysConstraint dim (ss ++ codes "<" ∷ ts) (difference v u, Gt)

-- one or more, with commas between
pub data AreListed {A : Type 0} (Means : Tokens → A → Type 0) : Tokens → List A → Type 0 where
  last : (ts : Tokens) (a : A) → Means ts a → AreListed Means ts (a ∷ [])
  next : (ts us : Tokens) (a : A) (others : List A) → Means ts a → AreListed Means us others →
      AreListed Means (ts ++ codes "," ∷ us) (a ∷ others)

-- `true` for no constraint, `false` for -1 >= 0, or constraints with commas between
pub data AreConstraints (dim : ℕ) : Tokens → List Constraint → Type 0 where
  always : AreConstraints dim (codes "true" ∷ []) []
  never : AreConstraints dim (codes "false" ∷ []) ((at_column dim dim (negsuc 0), Ge) ∷ [])
  constraints : (ts : Tokens) (cs : List Constraint) → AreListed (SaysConstraint dim) ts cs →
      AreConstraints dim ts cs

-- the coordinates, and the divisor last
abbrev pub with_divisor : ℕ → List ℤ → ℕ → List ℤ
with_divisor dim coordinates divisor = add coordinates (at_column dim dim (pos divisor))

-- a point, a closure point, a ray or a line; last stands the divisor of a point, 0 of a direction
pub data IsGenerator (dim : ℕ) : Tokens → Generator → Type 0 where
  point : (ts : Tokens) (u : List ℤ) (n : ℕ) → IsQuotient (AreCoordinates dim) ts (u, n) →
      IsGenerator dim (codes "p(" ∷ ts ++ codes ")" ∷ []) (with_divisor dim u n, Point)
  closure_point : (ts : Tokens) (u : List ℤ) (n : ℕ) → IsQuotient (AreCoordinates dim) ts (u, n) →
      IsGenerator dim (codes "c(" ∷ ts ++ codes ")" ∷ []) (with_divisor dim u n, ClosurePoint)
  ray : (ts : Tokens) (u : List ℤ) → AreCoordinates dim ts u →
      IsGenerator dim (codes "r(" ∷ ts ++ codes ")" ∷ []) (u, Ray)
  straight : (ts : Tokens) (u : List ℤ) → AreCoordinates dim ts u →
      IsGenerator dim (codes "l(" ∷ ts ++ codes ")" ∷ []) (u, Line)

-- `none`, or generators with commas between
pub data AreGenerators (dim : ℕ) : Tokens → List Generator → Type 0 where
  no_generator : AreGenerators dim (codes "none" ∷ []) []
  generators : (ts : Tokens) (gs : List Generator) → AreListed (IsGenerator dim) ts gs →
      AreGenerators dim ts gs

-- one token, a variable
pub data IsOneVariable : Tokens → ℕ → Type 0 where
  variable : (w : List ℕ) (j : ℕ) → IsVariable w j → IsOneVariable (w ∷ []) j

-- the text is this constraint, over so many variables
abbrev pub ConstraintText : ℕ → List ℕ → Constraint → Type 0
ConstraintText dim text c = IsText (SaysConstraint dim) text c

-- the text is these constraints
abbrev pub ConstraintsText : ℕ → List ℕ → List Constraint → Type 0
ConstraintsText dim text cs = IsText (AreConstraints dim) text cs

-- the text is this point: its coordinates, and the divisor last
abbrev pub PointText : ℕ → List ℕ → List ℤ → Type 0
PointText dim text row = IsText (IsGenerator dim) text (row, Point)

-- the text is these generators
abbrev pub GeneratorsText : ℕ → List ℕ → List Generator → Type 0
GeneratorsText dim text gs = IsText (AreGenerators dim) text gs

-- the text is these variables, with commas between
abbrev pub VariablesText : List ℕ → List ℕ → Type 0
VariablesText text vs = IsText (AreListed IsOneVariable) text vs
