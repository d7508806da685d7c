use Rattle.std.specs.Prelude.{◌≡◌, ℕ, true, false}
use Rattle.row_core.specs.Lists.{Rows, AreMarked}

-- two lists of the width, the lines marked as equalities and the rays as inequalities
pub record AreLists (width : ℕ) (lines rays : Rows) : Type 0 where
  pub lines_wide : lines.width ≡ width
  pub rays_wide : rays.width ≡ width
  pub lines_marked : AreMarked true lines.rows
  pub rays_marked : AreMarked false rays.rows
