-- When the faults of a part's text hold, and what it says.
use Rattle.std.specs.Prelude.{◌≡◌, ◌⊎◌, ℕ, ◌+◌, ◌<◌, ◌≤◌, ℤ, List, [], ◌∷◌, length, Bool, true}
use Rattle.row_core.specs.Points.{IsPoint as IsPointRow}
use Rattle.cons_sys.specs.Constraints.{Constraints}
use Rattle.cons_sys.specs.declared.kind.ConKind.{ConKind}
use Rattle.gens_sys.specs.Generators.{Generators}
use Rattle.reply_text.specs.declared.faults.Fault.{Fault}
use Rattle.reply_text.specs.declared.faults.Fault.TheVariants as fault
use Rattle.term_text.specs.declared.terms.ValueErr.{ValueErr}
use Rattle.term_text.specs.declared.terms.ValueErr.TheVariants as value
use Rattle.term_text.specs.Texts.{IsExpr, IsExprFault, IsFrac, IsFracFault, IsPoint, IsPointFault}
use Rattle.term_text.specs.Systems.{IsCon, IsConFault, IsCons, IsConsFault}
use Rattle.expr_text.specs.GeneratorSystems.{IsGens, IsGensFault}
use Rattle.reply_text.specs.declared.faults.ReadErr.{ReadErr}
use Rattle.reply_text.specs.declared.faults.ReadErr.TheVariants as unread
use Rattle.poly_pair.specs.TopologyLists.{AreConstraintsFor, AreGeneratorsFor}
use Rattle.poly_pair.specs.declared.topology.Topology.{Topology}
use Rattle.poly_pair.specs.declared.topology.Topology.TheVariants.{Closed, Nnc}
use Rattle.script_text.specs.declared.command.Part.{Part}
use Rattle.script_text.specs.declared.command.Rel.{Rel}
use Rattle.script_text.specs.declared.command.Rel.TheVariants as rel
use Rattle.line_values.specs.declared.refusal.StepErr.{StepErr}
use Rattle.line_values.specs.declared.refusal.StepErr.TheVariants as err
use Rattle.line_values.specs.Refusals.{refusal_of_reading}
use Rattle.line_values.specs.Order.{Conditions, IsFirstOf, NoneOf}

-- ---- faults
-- a strict relation or a closure point stands in the part, for a closed polyhedron
abbrev pub IsStrictIn : Topology → Part → Type 0
IsStrictIn Closed part = part.strict ≡ true
IsStrictIn Nnc part = ⊥

-- of a text of constraints over so many variables
abbrev pub constraints_fault : Topology → ℕ → Part → Conditions
constraints_fault topology dim part fault.OutOfRange = IsConsFault dim part.text value.OutOfRange
constraints_fault topology dim part fault.NumberTooLarge = IsConsFault dim part.text value.TooLarge
constraints_fault topology dim part fault.StrictInClosed = IsStrictIn topology part
constraints_fault topology dim part other = ⊥

-- of a text of generators
abbrev pub generators_fault : Topology → ℕ → Part → Conditions
generators_fault topology dim part fault.OutOfRange = IsGensFault dim part.text fault.OutOfRange
generators_fault topology dim part fault.NumberTooLarge =
    IsGensFault dim part.text fault.NumberTooLarge
generators_fault topology dim part fault.ZeroDivisor = IsGensFault dim part.text fault.ZeroDivisor
generators_fault topology dim part fault.StrictInClosed = IsStrictIn topology part
generators_fault topology dim part fault.ZeroVector = IsGensFault dim part.text fault.ZeroVector
generators_fault topology dim part other = ⊥

-- of a text of a point
abbrev pub point_fault : ℕ → Part → Conditions
point_fault dim part fault.OutOfRange = IsPointFault dim part.text value.OutOfRange
point_fault dim part fault.NumberTooLarge = IsPointFault dim part.text value.TooLarge
point_fault dim part fault.ZeroDivisor = IsPointFault dim part.text value.ZeroDivisor
point_fault dim part other = ⊥

-- of a text that says one value, by the causes why it says none
abbrev pub value_fault : (ValueErr → Type 0) → Conditions
value_fault Lacks fault.OutOfRange = Lacks value.OutOfRange
value_fault Lacks fault.NumberTooLarge = Lacks value.TooLarge
value_fault Lacks fault.ZeroDivisor = Lacks value.ZeroDivisor
value_fault Lacks other = ⊥

-- of a text of one constraint, which may be strict for either topology
abbrev pub constraint_fault : ℕ → Part → Conditions
constraint_fault dim part = value_fault (IsConFault dim part.text)

-- of a text of an expression
abbrev pub expression_fault : ℕ → Part → Conditions
expression_fault dim part = value_fault (IsExprFault dim part.text)

-- the relation is strict and the set closed
abbrev pub IsStrictFor : Topology → Rel → Type 0
IsStrictFor Closed rel.Gt = Unit {0}
IsStrictFor Closed rel.Lt = Unit {0}
IsStrictFor topology rel = ⊥

-- of a variable of a set, a relation, and the text of the fraction to which the variable stands so
abbrev pub fraction_fault : Topology → ℕ → ℕ → Rel → Part → Conditions
fraction_fault topology dim v rel part fault.OutOfRange =
    (dim ≤ v) ⊎ IsFracFault dim part.text value.OutOfRange
fraction_fault topology dim v rel part fault.NumberTooLarge =
    IsFracFault dim part.text value.TooLarge
fraction_fault topology dim v rel part fault.ZeroDivisor =
    IsFracFault dim part.text value.ZeroDivisor
fraction_fault topology dim v rel part fault.StrictInClosed = IsStrictFor topology rel
fraction_fault topology dim v rel part other = ⊥

-- the faults of a text, and others before and behind them
abbrev pub with_text : Conditions → Conditions → Conditions
with_text text others fault.OutOfRange = text fault.OutOfRange
with_text text others fault.NumberTooLarge = text fault.NumberTooLarge
with_text text others fault.ZeroDivisor = text fault.ZeroDivisor
with_text text others fault.StrictInClosed = text fault.StrictInClosed
with_text text others fault.NotDifference = text fault.NotDifference
with_text text others fault.ZeroVector = text fault.ZeroVector
with_text text others other = others other

-- ---- what came of a text
-- the order of the tests of a text
abbrev pub text_order : List Fault
text_order =
    fault.OutOfRange ∷ fault.NumberTooLarge ∷ fault.ZeroDivisor ∷ fault.StrictInClosed
    ∷ fault.NotDifference ∷ fault.ZeroVector ∷ []

-- the text is refused for the first of its faults, or memory ran out
abbrev pub IsTextRefusal : Conditions → StepErr → Type 0
IsTextRefusal text (err.Input fault) = IsFirstOf text_order text fault
IsTextRefusal text (err.Overflow over) = ⊥
IsTextRefusal text err.Memory = Unit {0}

-- the refusal of generators that were not read: a refused closure point precedes a zero vector
abbrev pub refusal_of_unread : ReadErr → Bool → StepErr
refusal_of_unread (unread.Input fault.ZeroVector) true = err.Input fault.StrictInClosed
refusal_of_unread cause strict = refusal_of_reading cause

-- the part's text has no fault for the topology, and says this system of constraints
pub record ReadsConstraints (topology : Topology) (dim : ℕ) (part : Part)
    (system : Constraints) : Type 0 where
  pub faultless : NoneOf text_order (constraints_fault topology dim part)
  pub read : IsCons dim part.text system
  pub kinds : AreConstraintsFor topology system

-- the same of generators
pub record ReadsGenerators (topology : Topology) (dim : ℕ) (part : Part)
    (system : Generators) : Type 0 where
  pub faultless : NoneOf text_order (generators_fault topology dim part)
  pub read : IsGens dim part.text system
  pub kinds : AreGeneratorsFor topology system

-- the text has no fault, and says this point
pub record ReadsPoint (dim : ℕ) (part : Part) (row : List ℤ) : Type 0 where
  pub faultless : NoneOf text_order (point_fault dim part)
  pub read : IsPoint dim part.text row
  pub point : IsPointRow dim row

-- the text has no fault, and says this constraint
pub record ReadsConstraint (dim : ℕ) (part : Part) (row : List ℤ) (kind : ConKind) : Type 0 where
  pub faultless : NoneOf text_order (constraint_fault dim part)
  pub read : IsCon dim part.text row kind
  pub wide : length row ≡ dim + 1

-- the text has no fault, and says the expression with this row
pub record ReadsExpression (dim : ℕ) (part : Part) (row : List ℤ) : Type 0 where
  pub faultless : NoneOf text_order (expression_fault dim part)
  pub read : IsExpr dim part.text row
  pub wide : length row ≡ dim + 1

-- the variable is below the dimension, and the text, without a fault, says this fraction
pub record ReadsFraction (topology : Topology) (dim v : ℕ) (rel : Rel) (part : Part) (expr : List ℤ)
    (divisor : ℤ) : Type 0 where
  pub faultless : NoneOf text_order (fraction_fault topology dim v rel part)
  pub within : v < dim
  pub read : IsFrac dim part.text expr divisor

-- ---- systems
-- the text says a system of constraints with this property
pub record SaysConstraints (dim : ℕ) (part : Part) (P : Constraints → Type 0) : Type 0 where
  pub system : Constraints
  pub read : IsCons dim part.text system
  pub holds : P system

-- the text says a system of generators with this property
pub record SaysGenerators (dim : ℕ) (part : Part) (P : Generators → Type 0) : Type 0 where
  pub system : Generators
  pub read : IsGens dim part.text system
  pub holds : P system
