use Rattle.std.specs.Prelude.{◌≡◌, ℕ, List, [], ◌∷◌, ◌++◌, ℤ, pos, negsuc}
use Rattle.row_core.specs.Content.{IsPrimitiveOf}
use Rattle.row_core.specs.Lists.{Pointwise}
use Rattle.cons_sys.specs.declared.kind.ConKind.TheVariants.{Ge}
use Rattle.cons_sys.specs.Constraints.{Constraint, Constraints}
use Rattle.sample_rows.specs.Draws.{drawn_rows}

-- each of the three variables is from 0 to 10
abbrev pub sides : List (List ℤ)
sides =
    (pos 1 ∷ pos 0 ∷ pos 0 ∷ pos 0 ∷ []) ∷ (negsuc 0 ∷ pos 0 ∷ pos 0 ∷ pos 10 ∷ [])
    ∷ (pos 0 ∷ pos 1 ∷ pos 0 ∷ pos 0 ∷ []) ∷ (pos 0 ∷ negsuc 0 ∷ pos 0 ∷ pos 10 ∷ [])
    ∷ (pos 0 ∷ pos 0 ∷ pos 1 ∷ pos 0 ∷ []) ∷ (pos 0 ∷ pos 0 ∷ negsuc 0 ∷ pos 10 ∷ [])
    ∷ []

-- the rows of the sample of n draws of a row
abbrev pub sample_rows : ℕ → List (List ℤ)
sample_rows n = sides ++ drawn_rows n

-- the constraint says that the row is at least 0, with the row made primitive
pub record IsInequalityOf (row : List ℤ) (c : Constraint) : Type 0 where
  pub primitive : IsPrimitiveOf row c.0
  pub kind : c.1 ≡ Ge

-- the constraints are the inequalities of the sample's rows, in order
pub record IsSample (n : ℕ) (cs : Constraints) : Type 0 where
  pub dim : cs.dim ≡ 3
  pub list : Pointwise IsInequalityOf (sample_rows n) cs.list
