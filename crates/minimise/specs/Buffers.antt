use Rattle.std.specs.Prelude.{◌≡◌, length}
use Rattle.minimise.specs.declared.bases.GrowingBasis.{GrowingBasis}

-- the rows on which the basis works are as wide as its lines
pub record HasBuffers (basis : GrowingBasis) : Type 0 where
  pub reduced : length basis.reduced.items ≡ basis.lines.width
  pub cleared : length basis.cleared.items ≡ basis.lines.width
  pub scratch : length basis.scratch.items ≡ basis.lines.width
