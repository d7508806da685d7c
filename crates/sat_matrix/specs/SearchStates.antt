use Rattle.std.specs.Prelude.{◌≡◌, ◌⊎◌, ℕ, List, []}
use Rattle.sat_matrix.specs.Tables.{HasThird}
use Rattle.sat_matrix.specs.Pairs.{index_at, AreFound}
use Rattle.sat_matrix.specs.Near.{IsSearch}
use Rattle.sat_matrix.specs.Levels.{IsNearAt}
use Rattle.sat_matrix.specs.Ranking.{AreRanked}
use Rattle.sat_matrix.specs.declared.adjacency.Search.{Search}
use Rattle.sat_matrix.specs.declared.narrowing.Level.{Level}
use Rattle.sat_matrix.specs.declared.ranking.NearRay.{NearRay}

-- what the search relies on holds
abbrev pub IsReady : Search → Type 0
IsReady search = IsSearch search.zeros.now search.outer.now search.inner.now search.least

-- the adjacent pairs at positions before the bound and next were found, each once
abbrev pub HasFound : Search → ℕ → ℕ → List (ℕ × ℕ) → Type 0
HasFound search bound next pairs =
    AreFound search.side search.zeros.now search.outer.now search.inner.now bound next pairs

-- there is a third ray between the rays at two positions
abbrev pub HasThirdAt : Search → ℕ → ℕ → Type 0
HasThirdAt search position next =
    HasThird search.zeros.now (index_at search.outer.now position) (index_at search.inner.now next)

-- the lists of a level are near to the outer rays from one position up to another
abbrev pub AreNear : Search → ℕ → ℕ → Level → List ℕ → List ℕ → Type 0
AreNear search from to level positions rays =
    IsNearAt search.zeros.now search.outer.now search.inner.now search.least from to level
    positions rays

-- a list that isn't empty is a ranking of the rays near to that at a position
abbrev pub IsRankedIfAny : Search → ℕ → List NearRay → Type 0
IsRankedIfAny search position list =
    (list ≡ []) ⊎
    AreRanked search.zeros.now (index_at search.outer.now position) search.least list
