use Rattle.bd_shape.proofs.Canonical.{returns_shape, includes_polyhedron}
use Rattle.bd_shape.proofs.laws.there_and_back.Goals as goal

pub returns : goal.returns
returns c = record { same = returns_shape; includes = includes_polyhedron }
