-- What each polyhedron of a table keeps.
use Rattle.cons_sys.specs.Constraints as cons
use Rattle.gens_sys.specs.Generators as gens
use Rattle.poly_pair.specs.Polyhedra.{Polyhedron, IsKept}

-- the two systems that are stored of its set, with rows that fit the dimension and the range
pub record IsProper (p : Polyhedron) : Type 0 where
  pub kept : IsKept p
  pub cons : cons.FitDimension p.cons
  pub gens : gens.FitDimension p.gens
