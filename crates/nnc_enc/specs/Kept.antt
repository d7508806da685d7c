use Rattle.std.specs.Prelude.{◌≡◌, ◌≢◌, ◌↔◌, ℕ, ◌+◌, ◌<◌, Bool, false, List, length, ℤ}
use Rattle.row_core.specs.Lists.{Row, vectors}
use Rattle.row_core.specs.Points.{IsPoint}
use Rattle.cone_laws.specs.Members.{ConeOf}
use Rattle.cone_laws.specs.Canon.{IsSystem}
use Rattle.cons_sys.specs.Constraints.{Constraint, Constraints, Satisfies, In, constraint_at}
use Rattle.nnc_enc.specs.Encoding.{HaveWidth, Codes, IsEncodedDual}
use Rattle.nnc_enc.specs.StrongRows.{kept_at, IsSpare, IsAdmittedVector}
use Rattle.nnc_enc.specs.Strong.{IsStrictPass}
use Rattle.nnc_enc.specs.Decoding.{AreConstraintsOf, AreKept}

-- the constraints of what is kept hold exactly at the points that the cone codes
abbrev pub KeptConstraintsCode : Type 0
KeptConstraintsCode = (dim : ℕ) (gens lines rays : List Row) (keep : List Bool) (order : List ℕ)
    (cs : Constraints) (p : List ℤ) → HaveWidth (dim + 2) gens
    → IsSystem (ConeOf (dim + 2) gens) (vectors lines) (vectors rays)
    → IsEncodedDual dim (ConeOf (dim + 2) gens)
    → ((i : ℕ) → i < length (vectors rays) → kept_at keep i ≡ false
    → IsSpare dim gens (vectors rays) keep i)
    → AreKept keep order (length rays) → AreConstraintsOf dim lines rays order cs.list
    → IsPoint dim p → In cs p ↔ Codes dim (IsAdmittedVector (dim + 2) gens) p

-- constraint i doesn't hold at all points at which the others hold
abbrev pub IsNeededConstraint : ℕ → List Constraint → ℕ → Type 0
IsNeededConstraint dim list i = ¬ ((p : List ℤ) → IsPoint dim p
    → ((m : ℕ) → m < length list → m ≢ i → Satisfies p (constraint_at list m))
    → Satisfies p (constraint_at list i))

-- no constraint of a strong pass can be left out
abbrev pub KeptConstraintsAreNeeded : Type 0
KeptConstraintsAreNeeded = (dim : ℕ) (gens lines rays : List Row) (keep : List Bool)
    (order : List ℕ) (list : List Constraint) → HaveWidth (dim + 2) gens
    → IsSystem (ConeOf (dim + 2) gens) (vectors lines) (vectors rays)
    → IsEncodedDual dim (ConeOf (dim + 2) gens) → IsStrictPass dim gens (vectors rays) keep
    → AreKept keep order (length rays) → AreConstraintsOf dim lines rays order list
    → (i : ℕ) → i < length list → IsNeededConstraint dim list i
