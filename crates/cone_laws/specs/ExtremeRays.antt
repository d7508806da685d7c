use Rattle.std.specs.Prelude.{◌≡◌, ℕ, ◌<◌, ◌⊎◌, List, [], ◌∷◌, length, ℤ, pos, ◌+ℤ◌, ◌≤ℤ◌, ◌<ℤ◌, filter}
use Rattle.std.specs.Ordering.{int_eq}
use Rattle.std.proofs.Math.IntN.{◌*ℤ◌}
use Rattle.row_core.specs.Vectors.{cell, dot}
use Rattle.row_core.specs.Content.{IsPrimitive}
use Rattle.row_core.specs.Lists.{Row, row_at, vector_at}
use Rattle.cone_laws.specs.Cones.{Upto, Spans, Generates}
use Rattle.cone_laws.specs.Canon.{IsEchelon, IsSystem}
use Rattle.cone_laws.specs.Members.{ConeOf}

-- the rays of a system are extreme: of two members whose sum is a multiple of a ray,
-- each with a positive factor in the sum is spanned by the lines and that ray
abbrev pub RaysAreExtreme : Type 0
RaysAreExtreme = (width : ℕ) (rows : List Row) (k : ℕ) (lines rays : List (List ℤ)) (i : ℕ)
    (m t : ℤ) (s z : List ℤ) →
    IsSystem (Upto width rows k) lines rays →
    i < length rays →
    pos 0 <ℤ t →
    Upto width rows k s →
    Upto width rows k z →
    ((j : ℕ) → m *ℤ cell (vector_at rays i) j ≡ t *ℤ cell s j +ℤ cell z j) →
    Spans lines (vector_at rays i ∷ []) s

-- the second vector is 0 on each row on which the first is
abbrev pub IsZeroWhere : List Row → List ℤ → List ℤ → Type 0
IsZeroWhere rows f s = (m : ℕ) → m < length rows →
    dot (row_at rows m) f ≡ pos 0 →
    dot (row_at rows m) s ≡ pos 0

-- a member that is 0 on each row on which a ray of the system is 0
-- is spanned by the lines and that ray
abbrev pub FaceOfRay : Type 0
FaceOfRay = (width : ℕ) (rows : List Row) (lines rays : List (List ℤ)) (i : ℕ) (s : List ℤ) →
    IsSystem (ConeOf width rows) lines rays →
    i < length rays →
    ConeOf width rows s →
    IsZeroWhere rows (vector_at rays i) s →
    Spans lines (vector_at rays i ∷ []) s

-- the first vector is 0 on some row on which the second is positive
pub record Touches (rows : List Row) (f s : List ℤ) : Type 0 where
  pub index : ℕ
  pub below : index < length rows
  pub zero : dot (row_at rows index) f ≡ pos 0
  pub positive : pos 0 <ℤ dot (row_at rows index) s

-- a ray of the system is 0 on some row on which a given member is positive,
-- or that member is spanned by the lines and the ray
abbrev pub RayTouches : Type 0
RayTouches = (width : ℕ) (rows : List Row) (lines rays : List (List ℤ)) (i : ℕ) (s : List ℤ) →
    IsSystem (ConeOf width rows) lines rays →
    i < length rays →
    ConeOf width rows s →
    Touches rows (vector_at rays i) s ⊎ Spans lines (vector_at rays i ∷ []) s

-- of the vectors other than 0 that the lines and one ray span,
-- that ray is the only primitive one that is 0 at the pivots
abbrev pub LikeRayIsSame : Type 0
LikeRayIsSame = (lines rays : List (List ℤ)) (i : ℕ) (v : List ℤ) (e : IsEchelon lines rays) →
    i < length rays →
    length v ≡ length (vector_at rays i) →
    IsPrimitive v →
    IsPrimitive (vector_at rays i) →
    ((x : ℕ) → x < length lines → cell v (e.pivot x) ≡ pos 0) →
    ¬ ((j : ℕ) → cell v j ≡ pos 0) →
    Spans lines (vector_at rays i ∷ []) v →
    v ≡ vector_at rays i

-- a member on which a valid row is 0 is spanned by the lines and those rays on which the row is 0
abbrev pub ZeroIsSpanned : Type 0
ZeroIsSpanned = (width : ℕ) (rows : List Row) (k : ℕ) (lines rays : List (List ℤ)) (a v : List ℤ) →
    Generates (Upto width rows k) lines rays →
    ((x : List ℤ) → Upto width rows k x → pos 0 ≤ℤ dot a x) →
    Upto width rows k v →
    dot a v ≡ pos 0 →
    Spans lines (filter (λ r. int_eq (dot a r) (pos 0)) rays) v
