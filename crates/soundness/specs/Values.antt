-- What names stand for.
use Rattle.std.specs.Prelude.{ℕ, List, Bool}
use Rattle.name_table.specs.Table.{Table}
use Rattle.soundness.specs.Points.{PointSet}

-- a transition between two locations: its relation has the variables of a state, and then those of
-- its successor
pub record Transition : Type 0 where
  pub source : ℕ
  pub target : ℕ
  pub relation : PointSet

-- a transition system: the number of variables of a state, the initial states of each location, and
-- transitions
pub record TransitionSystem : Type 0 where
  pub dim : ℕ
  pub initial : List PointSet
  pub transitions : List Transition

-- a hybrid automaton: a transition system, and for each location the states in which it may stay,
-- and the velocities with which a state moves there
pub record HybridAutomaton : Type 0 where
  pub system : TransitionSystem
  pub invariants : List PointSet
  pub flows : List PointSet

-- a powerset, the union of its members: whether these may lack points of their boundary, the number
-- of their variables, and the members
pub record Powerset : Type 0 where
  pub nnc : Bool
  pub dim : ℕ
  pub members : List PointSet

-- a value of a name
pub data Value : Type 0 where
  Polyhedron : PointSet → Value
  System : TransitionSystem → Value
  Union : Powerset → Value
  Shape : PointSet → Value
  Automaton : HybridAutomaton → Value

-- names, and what each stands for, in the order in which the names were made
abbrev pub Names : Type 0
Names = Table Value
