use Rattle.difference_bounds.proofs.Triangles.{tight_by_triangles}
use Rattle.difference_bounds.proofs.laws.triangles.Goals as goal

pub returns : goal.returns
returns c = tight_by_triangles
