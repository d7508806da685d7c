-- What the commands mean that make, combine, ask and print bounded-difference shapes.
use Rattle.std.specs.Prelude.{◌≡◌, ◌≢◌, ◌↔◌, ℕ, Bool, true, false, List, ℤ, None, IfSome}
use Rattle.row_core.specs.Points.{IsPoint}
use Rattle.row_core.specs.declared.errors.Overflow.{Overflow}
use Rattle.reply_text.specs.declared.faults.Fault.TheVariants as fault
use Rattle.cons_sys.specs.Constraints.{Constraints, In}
use Rattle.expr_text.specs.Printed.{constraints_text}
use Rattle.poly_pair.specs.Polyhedra.{Polyhedron, HasNoPoint}
use Rattle.poly_pair.specs.declared.topology.Topology.TheVariants.{Closed}
use Rattle.difference_bounds.specs.Tables.{bounds_of}
use Rattle.bd_shape.specs.Shapes.{DifferenceShape, IsIn, Includes, IsMeet, IsHull}
use Rattle.bd_shape.specs.Suprema.{AreSuprema, IsSmallest, AreFound, LeavesInSuprema}
use Rattle.bd_shape.specs.Given.{HasOther}
use Rattle.bd_shape.specs.Refusals.{LeavesInConstraints}
use Rattle.bd_shape.specs.Overflows.{LeavesInHull, LeavesInInclusion, LeavesInMeet}
use Rattle.bd_shape.specs.Rows.{shape_constraints}
use Rattle.bd_shape.specs.Laws.{HasPointsOf}
use Rattle.bd_shape.specs.declared.refusal.ShapeErr.{ShapeErr}
use Rattle.bd_shape.specs.declared.refusal.ShapeErr.TheVariants as unmade
use Rattle.script_text.specs.declared.command.Part.{Part}
use Rattle.line_values.specs.declared.refusal.StepErr.{StepErr}
use Rattle.line_values.specs.declared.refusal.StepErr.TheVariants as err
use Rattle.script_text.specs.declared.command.ShapeOperator.{ShapeOperator}
use Rattle.script_text.specs.declared.command.ShapeOperator.TheVariants.{Meet, Hull}
use Rattle.line_values.specs.Order.{Conditions}
use Rattle.line_values.specs.Texts.{constraints_fault, with_text, SaysConstraints}
use Rattle.line_values.specs.Overflows.{LeavesOnConstraints}
use Rattle.line_values.specs.Meaning.{line, says, Meaning, no_fault, room, small, IsTold}

-- ---- making
-- a set isn't closed
abbrev pub closed : Polyhedron → Conditions → Conditions
closed p others fault.NotClosed = p.topology ≢ Closed
closed p others other = others other

-- the smallest shape that includes the set: its bounds are all the suprema of differences
pub record IsShapeOfSet (p : Polyhedron) (s : DifferenceShape) : Type 0 where
  pub dim : s.dim ≡ p.cons.dim
  pub empty : (s.bounds ≡ None) ↔ HasNoPoint p
  pub suprema : IfSome s.bounds (λ t. AreSuprema p (bounds_of t))
  pub smallest : IsSmallest p s
  pub found : AreFound p

-- shape OUT P
abbrev pub shape : Bool → Polyhedron → Meaning DifferenceShape
shape full p = record {
  conditions = closed p (room full);
  overflows = LeavesInSuprema p;
  does = IsShapeOfSet p;
}

-- some constraint bounds no difference
abbrev pub no_difference : Type 0 → Conditions → Conditions
no_difference Has others fault.NotDifference = Has
no_difference Has others other = others other

-- the points at which the constraints hold
pub record IsShapeOfConstraints (cs : Constraints) (s : DifferenceShape) : Type 0 where
  pub dim : s.dim ≡ cs.dim
  pub points : (p : List ℤ) → IsIn s p ↔ (IsPoint cs.dim p × In cs p)

-- bounds OUT N : CONS
abbrev pub bounds : Bool → ℕ → Part → Meaning DifferenceShape
bounds full n part = record {
  conditions =
      small n
      (no_difference (SaysConstraints n part (λ cs. HasOther cs))
      (with_text (constraints_fault Closed n part) (room full)));
  overflows = λ over. SaysConstraints n part (λ cs. LeavesInConstraints cs over);
  does = λ s. SaysConstraints n part (λ cs. IsShapeOfConstraints cs s);
}

-- the refusal of a command whose constraints give no shape, where the table is full or not
abbrev pub refusal_of_shape : ShapeErr → Bool → StepErr
refusal_of_shape unmade.NotDifference full = err.Input fault.NotDifference
refusal_of_shape (unmade.Overflow over) true = err.Input fault.TooManyNames
refusal_of_shape (unmade.Overflow over) false = err.Overflow over
refusal_of_shape unmade.Memory full = err.Memory

-- ---- two shapes
-- two shapes have one dimension
abbrev pub of_one_dim : DifferenceShape → DifferenceShape → Conditions → Conditions
of_one_dim s t others fault.DimMismatch = s.dim ≢ t.dim
of_one_dim s t others other = others other

-- the points of both, or the smallest shape that includes both
abbrev pub IsSetOfShapes : ShapeOperator → DifferenceShape → DifferenceShape → DifferenceShape
    → Type 0
IsSetOfShapes Meet s t r = IsMeet s t r
IsSetOfShapes Hull s t r = IsHull s t r

-- the overflows that it may show
abbrev pub LeavesInShapes : ShapeOperator → DifferenceShape → DifferenceShape → Overflow → Type 0
LeavesInShapes Meet s t over = LeavesInMeet s t over
LeavesInShapes Hull s t over = LeavesInHull s t over

-- this set, of their dimension
pub record IsShapeBy (op : ShapeOperator) (s t r : DifferenceShape) : Type 0 where
  pub dim : r.dim ≡ s.dim
  pub set : IsSetOfShapes op s t r

-- smeet OUT S T, shull OUT S T
abbrev pub of_two_shapes : ShapeOperator → Bool → DifferenceShape → DifferenceShape
    → Meaning DifferenceShape
of_two_shapes op full s t = record {
  conditions = of_one_dim s t (room full);
  overflows = LeavesInShapes op s t;
  does = IsShapeBy op s t;
}

-- scontains S T
abbrev pub shape_contains : DifferenceShape → DifferenceShape → Meaning (List ℕ)
shape_contains s t = record {
  conditions = of_one_dim s t no_fault;
  overflows = LeavesInInclusion s t;
  does = IsTold (Includes s t);
}

-- ---- one shape
-- sprint S
abbrev pub shape_print : DifferenceShape → Meaning (List ℕ)
shape_print s = says (line (constraints_text (shape_constraints s)))

-- the closed polyhedron of the shape's points
pub record IsPolyOfShape (s : DifferenceShape) (p : Polyhedron) : Type 0 where
  pub topology : p.topology ≡ Closed
  pub dim : p.cons.dim ≡ s.dim
  pub points : HasPointsOf p s

-- spoly OUT S
abbrev pub shape_poly : Bool → DifferenceShape → Meaning Polyhedron
shape_poly full s = record {
  conditions = room full;
  overflows = LeavesOnConstraints Closed (shape_constraints s);
  does = IsPolyOfShape s;
}
