use Rattle.std.specs.Prelude.{◌≡◌, ◌≢◌, ◌↔◌, ℕ, List, length, ℤ, pos, neg_ℤ, ◌<ℤ◌}
use Rattle.std.proofs.Math.IntN.{◌*ℤ◌}
use Rattle.row_core.specs.Vectors.{cell, dot}
use Rattle.row_core.specs.Content.{IsPrimitiveOf}
use Rattle.row_core.specs.Lists.{Row, Pointwise}
use Rattle.cone_laws.specs.Canon.{IsEchelon, IsSystem}
use Rattle.cone_laws.specs.Members.{ConeOf}
use Rattle.minimise.specs.MinimalForms.{IsMinimalForm}

-- each column of the result for a vector of the one width is the value of a row, and the result has
-- the other width
pub record IsLinearOn (from to : ℕ) (f : List ℤ → List ℤ) : Type 0 where
  pub rows : ℕ → List ℤ
  pub values : (v : List ℤ) → length v ≡ from → (j : ℕ) → cell (f v) j ≡ dot (rows j) v
  pub wide : (v : List ℤ) → length v ≡ from → length (f v) ≡ to

-- the map h of the map f of a vector is a positive multiple of it, one for all vectors of the width
pub record Undoes (width : ℕ) (h f : List ℤ → List ℤ) : Type 0 where
  pub times : ℤ
  pub positive : pos 0 <ℤ times
  pub same : (v : List ℤ) → length v ≡ width → (j : ℕ) → cell (h (f v)) j ≡ times *ℤ cell v j

-- two linear maps of which each undoes the other
pub record AreInverse (width : ℕ) (f h : List ℤ → List ℤ) : Type 0 where
  pub first_linear : IsLinearOn width width f
  pub second_linear : IsLinearOn width width h
  pub second_undoes : Undoes width h f
  pub first_undoes : Undoes width f h

-- the new vectors are the maps of the old ones, each made primitive
abbrev pub AreCarried : (List ℤ → List ℤ) → List (List ℤ) → List (List ℤ) → Type 0
AreCarried f old new = Pointwise (λ v w. IsPrimitiveOf (f v) w) old new

-- the others admit the vectors that the map takes to vectors which the rows admit
abbrev pub AdmitSources : ℕ → ℕ → (List ℤ → List ℤ) → List Row → List Row → Type 0
AdmitSources from to h rows others =
    (v : List ℤ) → length v ≡ to → ConeOf to others v ↔ ConeOf from rows (h v)

-- a map that can be undone takes the system of a cone to one of the cone's image, where what it
-- gives is in reduced echelon form
abbrev pub SystemIsCarried : Type 0
SystemIsCarried = (width : ℕ) (f h : List ℤ → List ℤ) (rows others : List Row)
    (lines rays new_lines new_rays : List (List ℤ)) → AreInverse width f h
    → AdmitSources width width h rows others → AreCarried f lines new_lines
    → AreCarried f rays new_rays → IsEchelon new_lines new_rays
    → IsSystem (ConeOf width rows) lines rays → IsSystem (ConeOf width others) new_lines new_rays

-- a map that can be undone takes the system of a cone to a minimal form of the cone's image
abbrev pub MinimalIsCarried : Type 0
MinimalIsCarried = (width : ℕ) (f h : List ℤ → List ℤ) (rows others : List Row)
    (lines rays new_lines new_rays : List (List ℤ)) → AreInverse width f h
    → AdmitSources width width h rows others → AreCarried f lines new_lines
    → AreCarried f rays new_rays → IsSystem (ConeOf width rows) lines rays
    → IsMinimalForm (ConeOf width others) new_lines new_rays

-- the map that replaces the variable by the row over the size undoes the one that replaces it by
-- the expression over the divisor
pub record IsInverseRow (var : ℕ) (expr : List ℤ) (den : ℤ) (row : List ℤ) (size : ℤ) : Type 0 where
  pub sign : ℤ
  pub size_is : size ≡ sign *ℤ cell expr var
  pub positive : pos 0 <ℤ size
  pub wide : length row ≡ length expr
  pub own : cell row var ≡ sign *ℤ den
  pub others : (j : ℕ) → j ≢ var → cell row j ≡ neg_ℤ (sign *ℤ cell expr j)
