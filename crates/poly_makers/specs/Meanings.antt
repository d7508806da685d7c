-- What each maker of a polyhedron means, and what is made by an addition.
use Rattle.std.specs.Prelude.{ℕ, List, Bool, Option}
use Rattle.poly_pair.specs.Polyhedra.{Polyhedron}
use Rattle.poly_pair.specs.declared.topology.Topology.{Topology}
use Rattle.line_values.specs.Meaning.{Meaning, on_one, on_two}
use Rattle.line_values.specs.Operands.{topology_of}
use Rattle.command_tasks.specs.declared.on_polyhedra.Maker.{Maker}
use Rattle.command_tasks.specs.declared.on_polyhedra.Maker.TheVariants as maker
use Rattle.command_tasks.specs.declared.on_polyhedra.Given.{Given}
use Rattle.command_tasks.specs.declared.on_polyhedra.Given.TheVariants as given
use Rattle.command_tasks.specs.declared.on_polyhedra.OfOne.{OfOne}
use Rattle.command_tasks.specs.declared.on_polyhedra.OfOne.TheVariants as one
use Rattle.command_tasks.specs.declared.on_polyhedra.OfTwo.{OfTwo}
use Rattle.command_tasks.specs.declared.on_polyhedra.OfTwo.TheVariants as two
use Rattle.command_tasks.specs.declared.on_polyhedra.Addition.{Addition}
use Rattle.command_tasks.specs.declared.on_polyhedra.Addition.TheVariants as addition
use Rattle.poly_makers.specs.Makers.{cons, gens, space_of, copy, closure, add, addgen}
use Rattle.poly_makers.specs.Operators.{operated, extended}
use Rattle.poly_makers.specs.Widening.{widen}
use Rattle.poly_makers.specs.Affine.{mapped_by, remove}

-- what words and a part make alone
abbrev pub made_alone : Given → Bool → Topology → ℕ → Meaning Polyhedron
made_alone (given.Cons part) full topology n = cons full topology n part
made_alone (given.Gens part) full topology n = gens full topology n part
made_alone (given.Space space) full topology n = space_of space full topology n

-- what is made of one polyhedron
abbrev pub made_of_one : OfOne → Bool → Polyhedron → Meaning Polyhedron
made_of_one one.Copy full = copy full
made_of_one one.Closure full = closure full
made_of_one (one.Map by v rel part) full = mapped_by by full v rel part
made_of_one (one.Extend by n) full = extended by full n
made_of_one (one.Remove vars) full = remove full vars

-- what is made of two
abbrev pub made_of_two : OfTwo → Bool → Polyhedron → Polyhedron → Meaning Polyhedron
made_of_two (two.Operate op) full = operated op full
made_of_two two.Widen full = widen full

-- what a maker makes, where names stand for polyhedra or not
abbrev pub made : (List ℕ → Option Polyhedron) → Bool → Maker → Meaning Polyhedron
made find full (maker.Given top n by) = made_alone by full (topology_of top) n
made find full (maker.OfOne p by) = on_one (find p) (made_of_one by full)
made find full (maker.OfTwo p q by) = on_two (find p) (find q) (made_of_two by full)

-- what is made by an addition
abbrev pub added : Addition → Polyhedron → Meaning Polyhedron
added (addition.Cons part) = add part
added (addition.Gens part) = addgen part
