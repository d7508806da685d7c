-- What the commands mean that make, copy or change polyhedra.
use Rattle.std.specs.Prelude.{◌≡◌, ℕ, ◌++◌, Bool}
use Rattle.cons_sys.specs.Constraints.{Constraints}
use Rattle.gens_sys.specs.Generators.{Generators}
use Rattle.reply_text.specs.declared.faults.Fault.TheVariants as fault
use Rattle.stored_systems.specs.WorkLists.{LeavesOn}
use Rattle.poly_pair.specs.Polyhedra.{Polyhedron, IsUniverse, IsEmpty}
use Rattle.poly_pair.specs.TopologyLists.{list_width}
use Rattle.poly_pair.specs.FirstLists.{LacksPoint}
use Rattle.poly_pair.specs.declared.topology.Topology.{Topology}
use Rattle.lattice_ops.specs.Sets.{closure_list}
use Rattle.script_text.specs.declared.command.Part.{Part}
use Rattle.script_text.specs.declared.command.Space.{Space}
use Rattle.script_text.specs.declared.command.Space.TheVariants.{Universe, Empty}
use Rattle.line_values.specs.Order.{Conditions}
use Rattle.poly_makers.specs.Results.{IsResultOfConstraints, IsResultOfGenerators, IsResultOfClosure}
use Rattle.line_values.specs.Meaning.{Meaning, no_fault, no_overflow, room, small}
use Rattle.line_values.specs.Texts.{constraints_fault, generators_fault, with_text, SaysConstraints, SaysGenerators}
use Rattle.line_values.specs.Overflows.{LeavesOnConstraints, LeavesOnGenerators}

-- ---- systems
-- the constraints of the one, and then those of the other
abbrev pub more_constraints : Constraints → Constraints → Constraints
more_constraints old new = record { dim = old.dim; list = old.list ++ new.list }

-- the generators of the one, and then those of the other
abbrev pub more_generators : Generators → Generators → Generators
more_generators old new = record { dim = old.dim; list = old.list ++ new.list }

-- the generators aren't none, and none of them is a point
abbrev pub no_point : Type 0 → Conditions → Conditions
no_point Lacks others fault.NoPoint = Lacks
no_point Lacks others other = others other

-- ---- commands
-- cons OUT TOP N : CONS
abbrev pub cons : Bool → Topology → ℕ → Part → Meaning Polyhedron
cons full topology n part = record {
  conditions = small n (with_text (constraints_fault topology n part) (room full));
  overflows = λ over. SaysConstraints n part (λ cs. LeavesOnConstraints topology cs over);
  does = λ r. SaysConstraints n part (λ cs. IsResultOfConstraints topology cs r);
}

-- gens OUT TOP N : GENS
abbrev pub gens : Bool → Topology → ℕ → Part → Meaning Polyhedron
gens full topology n part = record {
  conditions =
      small n
      (with_text (generators_fault topology n part)
      (no_point (SaysGenerators n part (λ gs. LacksPoint gs.list)) (room full)));
  overflows = λ over. SaysGenerators n part (λ gs. LeavesOnGenerators topology gs over);
  does = λ r. SaysGenerators n part (λ gs. IsResultOfGenerators topology gs r);
}

-- all points, or none
abbrev pub IsSpace : Space → Topology → ℕ → Polyhedron → Type 0
IsSpace Universe topology n = IsUniverse topology n
IsSpace Empty topology n = IsEmpty topology n

-- universe or empty OUT TOP N
abbrev pub space_of : Space → Bool → Topology → ℕ → Meaning Polyhedron
space_of space full topology n = record {
  conditions = small n (room full);
  overflows = no_overflow;
  does = IsSpace space topology n;
}

-- copy OUT P
abbrev pub copy : Bool → Polyhedron → Meaning Polyhedron
copy full p = record { conditions = room full; overflows = no_overflow; does = λ r. r ≡ p }

-- closure OUT P
abbrev pub closure : Bool → Polyhedron → Meaning Polyhedron
closure full p = record {
  conditions = room full;
  overflows = LeavesOn (list_width p.topology p.cons.dim) p.cons.dim (closure_list p);
  does = IsResultOfClosure p;
}

-- add P : CONS
abbrev pub add : Part → Polyhedron → Meaning Polyhedron
add part p = record {
  conditions = with_text (constraints_fault p.topology p.cons.dim part) no_fault;
  overflows =
      λ over. SaysConstraints p.cons.dim part
      (λ cs. LeavesOnConstraints p.topology (more_constraints p.cons cs) over);
  does =
      λ r. SaysConstraints p.cons.dim part
      (λ cs. IsResultOfConstraints p.topology (more_constraints p.cons cs) r);
}

-- addgen P : GENS
abbrev pub addgen : Part → Polyhedron → Meaning Polyhedron
addgen part p = record {
  conditions =
      with_text (generators_fault p.topology p.gens.dim part)
      (no_point
      (SaysGenerators p.gens.dim part (λ gs. LacksPoint (p.gens.list ++ gs.list))) no_fault);
  overflows =
      λ over. SaysGenerators p.gens.dim part
      (λ gs. LeavesOnGenerators p.topology (more_generators p.gens gs) over);
  does =
      λ r. SaysGenerators p.gens.dim part
      (λ gs. IsResultOfGenerators p.topology (more_generators p.gens gs) r);
}
