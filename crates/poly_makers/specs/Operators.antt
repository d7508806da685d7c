-- What the commands mean that make a polyhedron of two others, or of one and further variables.
use Rattle.std.specs.Prelude.{◌≡◌, ◌≢◌, ℕ, ◌+◌, ◌≤◌, Bool, true, false}
use Rattle.row_core.specs.declared.errors.Overflow.{Overflow}
use Rattle.reply_text.specs.declared.faults.Fault.TheVariants as fault
use Rattle.stored_systems.specs.WorkLists.{LeavesOn}
use Rattle.poly_pair.specs.Polyhedra.{Polyhedron}
use Rattle.poly_pair.specs.Parts.{AreStoredOfRows, AreStoredOfGenerators}
use Rattle.poly_pair.specs.TopologyLists.{list_width, generators_of}
use Rattle.poly_pair.specs.declared.topology.TheConstants.{MAX_DIM}
use Rattle.lattice_ops.specs.Sets.{IsMeet, IsHull, both_generators, meet_list}
use Rattle.mapped_systems.specs.Maps.{with_zeros, without}
use Rattle.dimensions.specs.Results.{IsPreimage, IsProjection, IsProduct, IsStoredOfMapped, IsStoredOfPulled, IsStoredOfJoined}
use Rattle.dimensions.specs.Refusals.{LeavesOnMapped, LeavesOnPulled, LeavesOnJoined}
use Rattle.elapse.specs.Elapses.{IsElapse, AreStoredOfElapse, LeavesOnElapse}
use Rattle.script_text.specs.declared.command.Operator.{Operator}
use Rattle.script_text.specs.declared.command.Operator.TheVariants.{Meet, Hull, Concat, Elapse}
use Rattle.script_text.specs.declared.command.Extension.{Extension}
use Rattle.script_text.specs.declared.command.Extension.TheVariants.{Embed, Project}
use Rattle.line_values.specs.Order.{Conditions}
use Rattle.poly_makers.specs.Results.{IsResult}
use Rattle.line_values.specs.Meaning.{Meaning, room, small, alike}

-- ---- two operands
-- two operands have one topology
abbrev pub of_one_topology : Polyhedron → Polyhedron → Conditions → Conditions
of_one_topology p q others fault.TopologyMismatch = p.topology ≢ q.topology
of_one_topology p q others other = others other

-- whether the operator adds the dimensions of its operands; others take two of one dimension
abbrev pub adds_dims : Operator → Bool
adds_dims Concat = true
adds_dims other = false

-- what is asked of two operands whose dimensions are added, or not
abbrev pub fitting_by : Bool → Polyhedron → Polyhedron → Conditions → Conditions
fitting_by true p q others = of_one_topology p q (small (p.cons.dim + q.cons.dim) others)
fitting_by false p q others = alike p q others

-- what the operator asks of its operands
abbrev pub fitting : Operator → Polyhedron → Polyhedron → Conditions → Conditions
fitting op p q others = fitting_by (adds_dims op) p q others

-- the sum of the dimensions is within the limit, or they are one
abbrev pub FitDimsBy : Bool → Polyhedron → Polyhedron → Type 0
FitDimsBy true p q = p.cons.dim + q.cons.dim ≤ MAX_DIM
FitDimsBy false p q = p.cons.dim ≡ q.cons.dim

-- the dimensions fit the operator
abbrev pub FitDims : Operator → Polyhedron → Polyhedron → Type 0
FitDims op p q = FitDimsBy (adds_dims op) p q

-- the operands fit the operator
abbrev pub Fits : Operator → Polyhedron → Polyhedron → Type 0
Fits op p q = (p.topology ≡ q.topology) × FitDims op p q

-- the set that the operator makes of two
abbrev pub IsSetBy : Operator → Polyhedron → Polyhedron → Polyhedron → Type 0
IsSetBy Meet p q = IsMeet p q
IsSetBy Hull p q = IsHull p q
IsSetBy Concat p q = IsProduct p q
IsSetBy Elapse p q = IsElapse p q

-- what is stored of it: of the list of the constraints, or of the generators, of both
abbrev pub IsStoredBy : Operator → Polyhedron → Polyhedron → Polyhedron → Type 0
IsStoredBy Meet p q = AreStoredOfRows p.topology p.cons.dim (meet_list p q)
IsStoredBy Hull p q = AreStoredOfGenerators p.topology (both_generators p q)
IsStoredBy Concat p q = IsStoredOfJoined p q
IsStoredBy Elapse p q = AreStoredOfElapse p q

-- a result of the operator
abbrev pub IsMadeBy : Operator → Polyhedron → Polyhedron → Polyhedron → Type 0
IsMadeBy op p q = IsResult (IsSetBy op p q) (IsStoredBy op p q)

-- the overflow is one of the conversion of the operator's list, or of its second list
abbrev pub LeavesBy : Operator → Polyhedron → Polyhedron → Overflow → Type 0
LeavesBy Meet p q = LeavesOn (list_width p.topology p.cons.dim) p.cons.dim (meet_list p q)
LeavesBy Hull p q =
    LeavesOn (list_width p.topology p.cons.dim) p.cons.dim
    (generators_of p.topology (both_generators p q))
LeavesBy Concat p q = LeavesOnJoined p q
LeavesBy Elapse p q = LeavesOnElapse p q

-- meet, hull, concat or elapse OUT P Q
abbrev pub operated : Operator → Bool → Polyhedron → Polyhedron → Meaning Polyhedron
operated op full p q = record {
  conditions = fitting op p q (room full);
  overflows = LeavesBy op p q;
  does = IsMadeBy op p q;
}

-- ---- further variables
-- the points that are in it without their last n variables, or its points with n more that are 0
abbrev pub IsExtensionBy : Extension → ℕ → Polyhedron → Polyhedron → Type 0
IsExtensionBy Embed n p = IsPreimage (without p.cons.dim (p.cons.dim + n)) (p.cons.dim + n) p
IsExtensionBy Project n p = IsProjection n p

-- what is stored of it: of the list of the constraints, or of the generators, with n more columns
abbrev pub IsStoredOfExtension : Extension → ℕ → Polyhedron → Polyhedron → Type 0
IsStoredOfExtension Embed n p = IsStoredOfPulled (with_zeros p.cons.dim n) (p.cons.dim + n) p
IsStoredOfExtension Project n p = IsStoredOfMapped (with_zeros p.cons.dim n) (p.cons.dim + n) p

-- a result of the extension
abbrev pub IsExtended : Extension → ℕ → Polyhedron → Polyhedron → Type 0
IsExtended by n p = IsResult (IsExtensionBy by n p) (IsStoredOfExtension by n p)

-- the overflow is one of the conversion of that list, or of its second list
abbrev pub LeavesInExtension : Extension → ℕ → Polyhedron → Overflow → Type 0
LeavesInExtension Embed n p = LeavesOnPulled (with_zeros p.cons.dim n) (p.cons.dim + n) p
LeavesInExtension Project n p = LeavesOnMapped (with_zeros p.cons.dim n) (p.cons.dim + n) p

-- embed or project OUT P N
abbrev pub extended : Extension → Bool → ℕ → Polyhedron → Meaning Polyhedron
extended by full n p = record {
  conditions = small (p.cons.dim + n) (room full);
  overflows = LeavesInExtension by n p;
  does = IsExtended by n p;
}
