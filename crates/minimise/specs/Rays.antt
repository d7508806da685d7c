use Rattle.std.specs.Prelude.{ℕ, List, map}
use Rattle.row_core.specs.Lists.{Rows}
use Rattle.ray_order.specs.RowOrders.{row_of}
use Rattle.minimise.specs.declared.rays.Rays.{Rays}
use Rattle.minimise.specs.declared.rays.Rays.TheVariants.{Listed, Reduced}

-- the rows of a list at some places
abbrev pub placed_rows : Rows → List ℕ → Rows
placed_rows list places = record { width = list.width; rows = map (row_of list.rows) places }

-- the rays of the rows at the places
abbrev pub rays_from : Rows → List ℕ → Rays → Rows
rays_from list places Listed = placed_rows list places
rays_from list places (Reduced rays) = rays
