use Rattle.std.specs.Prelude.{◌≡◌, ℕ, ◌≤◌, List, length, IsTrue}
use Rattle.std.specs.List.{range_with_len}
use Rattle.sat_matrix.specs.Tables.{Table}
use Rattle.sat_matrix.specs.Near.{IsNear}
use Rattle.sat_matrix.specs.declared.narrowing.Level.{Level}

-- the list has all rays of the table, where rays are listed
abbrev pub HasAll : Table → Level → List ℕ → Type 0
HasAll table level all = IsTrue level.whole → all ≡ range_with_len 0 (length table.rows)

-- from where its lists begin, a group has the near inner rays, and all near rays if listed
pub record IsNearAt (table : Table) (outer inner : List ℕ) (least from to : ℕ) (level : Level)
    (positions rays : List ℕ) : Type 0 where
  pub inner_start : level.inner ≤ length positions
  pub rays_start : level.rays ≤ length rays
  pub near : IsNear table outer inner least from to level.inner positions
  pub near_rays : IsTrue level.whole →
      IsNear table outer (range_with_len 0 (length table.rows)) least from to level.rays rays
