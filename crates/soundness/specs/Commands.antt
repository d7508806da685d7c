-- What each command makes, changes or answers.
use Rattle.std.specs.Prelude.{◌≡◌, ℕ, List, [], ◌++◌, length, map, Some, codes, decimal}
use Rattle.std.specs.Map.{keys_of}
use Rattle.name_table.specs.Table.{entry_of, put, put_each, without, numbered_entries}
use Rattle.name_table.specs.Listing.{spaced}
use Rattle.script_text.specs.declared.command.Command.{Command}
use Rattle.script_text.specs.declared.command.Command.TheVariants as command
use Rattle.script_text.specs.declared.command.Comparison.TheVariants as comparison
use Rattle.soundness.specs.Points.{PointSet, HasNoPoint}
use Rattle.soundness.specs.Values.{Value, Polyhedron, System, Union, Shape, Automaton, Names}
use Rattle.soundness.specs.Sets.{IsOfConstraints, IsOfGenerators, IsSpace, IsCopy, IsAdded, IsJoined, IsClosure, IsOfTwo, IsWidening, IsExtended, IsRemoved, IsMapped}
use Rattle.soundness.specs.Answers.{as_line, ok, Tells, TellsWhether, TellsHowTheyLie, TellsRelation, TellsExtreme, TellsConstraints, TellsSystem, TellsSize}
use Rattle.soundness.specs.Unions.{IsOfOne, IsCombined, IsMember, TellsMembers, TellsCover, AreRankings, TellsRanking}
use Rattle.soundness.specs.Shapes.{IsOfBounds, IsSmallestShape, IsOfTwoShapes}
use Rattle.soundness.specs.Systems.{IsEmptySystem, IsWithInitial, IsWithTransition, IsStill, IsWithPart, AreInvariant, AreReached}
use Rattle.soundness.specs.Files.{TellsFile}

-- ---- operands and results
-- what stands under the names before, the reply, and what stands under them after it
abbrev pub Act : Type 1
Act = Names → List ℕ → Names → Type 0

-- the name stands for a value of the kind, and with it this is done
pub record OfOne {A : Type 0} (kind : A → Value) (name : List ℕ) (With : A → Act) (old : Names)
    (reply : List ℕ) (new : Names) : Type 0 where
  pub operand : A
  pub stands : entry_of old name ≡ Some (kind operand)
  pub is : With operand old reply new

-- two names stand for values of the kind, and with these this is done
pub record OfTwo {A : Type 0} (kind : A → Value) (one other : List ℕ) (With : A → A → Act)
    (old : Names) (reply : List ℕ) (new : Names) : Type 0 where
  pub first : A
  pub second : A
  pub first_stands : entry_of old one ≡ Some (kind first)
  pub second_stands : entry_of old other ≡ Some (kind second)
  pub is : With first second old reply new

-- a value of the kind with this property is put under the name; the reply is ok
pub record Makes {A : Type 0} (kind : A → Value) (out : List ℕ) (Is : A → Type 0) (old : Names)
    (reply : List ℕ) (new : Names) : Type 0 where
  pub made : A
  pub is : Is made
  pub names : new ≡ put old out (kind made)
  pub said : reply ≡ ok

-- sets with this property are put under the prefix with the numbers 0, 1, ..; the reply is ok
pub record MakesEach (prefix : List ℕ) (Are : List PointSet → Type 0) (old : Names) (reply : List ℕ)
    (new : Names) : Type 0 where
  pub sets : List PointSet
  pub are : Are sets
  pub names : new ≡ put_each old (numbered_entries prefix 0 (map Polyhedron sets))
  pub said : reply ≡ ok

-- nothing changes, and this is true of the reply
abbrev pub Asks : (List ℕ → Type 0) → Act
Asks Is old reply new = (new ≡ old) × Is reply

-- the name is taken out
pub record TakesOut (name : List ℕ) (old : Names) (reply : List ℕ) (new : Names) : Type 0 where
  pub value : Value
  pub stands : entry_of old name ≡ Some value
  pub names : new ≡ without old name
  pub said : reply ≡ ok

-- `names`, their number, and each name
pub record TellsNames (old : Names) (reply : List ℕ) (new : Names) : Type 0 where
  pub same : new ≡ old
  pub said : reply ≡ as_line (codes "names " ++ decimal (length old) ++ spaced (keys_of old))

-- ---- commands
-- what each command does
abbrev pub Does : Command → Act
Does command.Nothing = Asks (λ reply. reply ≡ [])
Does (command.Cons out nnc n part) = Makes Polyhedron out (IsOfConstraints nnc n part.text)
Does (command.Gens out nnc n part) = Makes Polyhedron out (IsOfGenerators nnc n part.text)
Does (command.Space space out nnc n) = Makes Polyhedron out (IsSpace space nnc n)
Does (command.Copy out p) = OfOne Polyhedron p (λ x. Makes Polyhedron out (IsCopy x))
Does (command.Drop name) = TakesOut name
Does (command.Add p part) = OfOne Polyhedron p (λ x. Makes Polyhedron p (IsAdded part x))
Does (command.Addgen p part) = OfOne Polyhedron p (λ x. Makes Polyhedron p (IsJoined part x))
Does (command.Has p part) = OfOne Polyhedron p (λ x. Asks (TellsWhether part x))
Does (command.Size p) = OfOne Polyhedron p (λ x. Asks (TellsSize x))
Does (command.Print side p) = OfOne Polyhedron p (λ x. Asks (TellsSystem side x))
Does command.Names = TellsNames
Does (command.OfTwo op out p q) =
    OfTwo Polyhedron p q (λ x y. Makes Polyhedron out (IsOfTwo op x y))
Does (command.Closure out p) = OfOne Polyhedron p (λ x. Makes Polyhedron out (IsClosure x))
Does (command.Compare by p q) = OfTwo Polyhedron p q (λ x y. Asks (TellsHowTheyLie by x y))
Does (command.Isempty p) = OfOne Polyhedron p (λ x. Asks (Tells (HasNoPoint x)))
Does (command.Relation p part) = OfOne Polyhedron p (λ x. Asks (TellsRelation part x))
Does (command.Bound extremum p part) = OfOne Polyhedron p (λ x. Asks (TellsExtreme extremum part x))
Does (command.Map by out p var rel part) =
    OfOne Polyhedron p (λ x. Makes Polyhedron out (IsMapped by var rel part x))
Does (command.Extend by out p n) =
    OfOne Polyhedron p (λ x. Makes Polyhedron out (IsExtended by n x))
Does (command.Remove out p vars) = OfOne Polyhedron p (λ x. Makes Polyhedron out (IsRemoved vars x))
Does (command.Widen out p q) = OfTwo Polyhedron p q (λ x y. Makes Polyhedron out (IsWidening x y))
Does (command.Read out ext) = Asks (λ reply. reply ≡ [])
Does (command.Write p ext) = OfOne Polyhedron p (λ x. Asks (TellsFile ext x))
Does (command.System out n locations) = Makes System out (IsEmptySystem n locations)
Does (command.Init s location p) =
    OfOne System s (λ x. OfOne Polyhedron p (λ y. Makes System s (IsWithInitial location x y)))
Does (command.Trans s from into r) =
    OfOne System s (λ x. OfOne Polyhedron r (λ y. Makes System s (IsWithTransition from into x y)))
Does (command.Fixpoint s delay prefix) = OfOne System s (λ x. MakesEach prefix (AreInvariant x))
Does (command.Pset out p) = OfOne Polyhedron p (λ x. Makes Union out (IsOfOne x))
Does (command.OfTwoPowersets op out s t) =
    OfTwo Union s t (λ x y. Makes Union out (IsCombined op x y))
Does (command.Member out s i) = OfOne Union s (λ x. Makes Polyhedron out (IsMember i x))
Does (command.Psize s) = OfOne Union s (λ x. Asks (TellsMembers x))
Does (command.Covers s t) = OfTwo Union s t (λ x y. Asks (TellsCover x y))
Does (command.Rank out r) = OfOne Polyhedron r (λ x. Makes Polyhedron out (AreRankings x))
Does (command.Ranking r) = OfOne Polyhedron r (λ x. Asks (TellsRanking x))
Does (command.ShapeOf out p) = OfOne Polyhedron p (λ x. Makes Shape out (IsSmallestShape x))
Does (command.Bounds out n part) = Makes Shape out (IsOfBounds n part.text)
Does (command.OfTwoShapes op out s t) =
    OfTwo Shape s t (λ x y. Makes Shape out (IsOfTwoShapes op x y))
Does (command.ShapeContains s t) =
    OfTwo Shape s t (λ x y. Asks (TellsHowTheyLie comparison.Contains x y))
Does (command.ShapePrint s) = OfOne Shape s (λ x. Asks (TellsConstraints x))
Does (command.ShapePoly out s) = OfOne Shape s (λ x. Makes Polyhedron out (IsCopy x))
Does (command.Hybrid out s) = OfOne System s (λ x. Makes Automaton out (IsStill x))
Does (command.SetPart part h location p) = OfOne Automaton h
    (λ x. OfOne Polyhedron p (λ y. Makes Automaton h (IsWithPart part location x y)))
Does (command.Reach h delay prefix) = OfOne Automaton h (λ x. MakesEach prefix (AreReached x))
