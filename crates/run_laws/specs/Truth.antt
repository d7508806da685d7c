-- When the answers of a run are true of the sets that accepted commands and files give.
use Rattle.std.specs.Prelude.{◌≡◌, ◌↔◌, ◌⊎◌, ℕ, ◌+◌, ◌/◌, ◌<◌, ℤ, length, List, [], ◌∷◌, ◌++◌, Bool, true, false, IsTrue, Ok, Some, codes, decimal}
use Rattle.row_core.specs.Points.{IsPoint as IsPointRow}
use Rattle.cons_sys.specs.Constraints.{Constraints, In}
use Rattle.cons_sys.specs.declared.kind.ConKind.{ConKind}
use Rattle.gens_sys.specs.Generators.{Generators, row_at}
use Rattle.gens_sys.specs.Spans.{Span}
use Rattle.term_text.specs.Texts.{IsPoint, IsExpr}
use Rattle.term_text.specs.Systems.{IsCon, IsCons}
use Rattle.expr_text.specs.GeneratorSystems.{IsGens}
use Rattle.expr_text.specs.Printed.{constraints_text, generators_text}
use Rattle.stored_systems.specs.PointSets.{HoldSame}
use Rattle.poly_pair.specs.Polyhedra.{Polyhedron, HasNoPoint, IsIncluded, HaveSamePoints, AreAlike}
use Rattle.poly_pair.specs.declared.topology.Topology.TheVariants.{Closed}
use Rattle.lattice_ops.specs.Sets.{AreDisjoint}
use Rattle.optimum.specs.Relations.{IsRelation}
use Rattle.optimum.specs.Suprema.{SupAnswer, IsTrueSup}
use Rattle.optimum.specs.Laws.{IsWitness}
use Rattle.optimum.specs.declared.outcome.Relation.{Relation as Flags}
use Rattle.optimum.specs.declared.outcome.Sup.{Sup}
use Rattle.optimum.specs.declared.outcome.Sup.TheVariants as sup
use Rattle.powerset.specs.Powersets.{FinitePowerset}
use Rattle.powerset.specs.Covers.{IsCover}
use Rattle.powerset.specs.declared.covering.Cover.{Cover}
use Rattle.ranking.specs.Rankings.{IsRankingSet}
use Rattle.ranking.specs.PrintedRankings.{IsRankingText}
use Rattle.ranking.specs.Laws.{IsWithoutRanking, IsOfRanking}
use Rattle.difference_bounds.specs.Tables.{Table, bounds_of}
use Rattle.bd_shape.specs.Shapes.{DifferenceShape, IsIn, Includes}
use Rattle.bd_shape.specs.Rows.{shape_constraints}
use Rattle.bd_shape.specs.Laws.{IsGreatestAt}
use Rattle.script_text.specs.declared.command.Part.{Part}
use Rattle.script_text.specs.declared.command.Comparison.{Comparison}
use Rattle.script_text.specs.declared.command.Comparison.TheVariants as comparison
use Rattle.script_text.specs.declared.command.Command.{Command}
use Rattle.script_text.specs.declared.command.Command.TheVariants.{Nothing, Has, Size, Print, Names, Compare, Isempty, Relation, Bound, Read, Write, Psize, Covers, Ranking, ShapeContains, ShapePrint}
use Rattle.calc_state.specs.declared.entry.Entry.{Entry}
use Rattle.calc_state.specs.declared.entry.Entry.TheVariants as entry
use Rattle.line_values.specs.Meaning.{answer_line, line}
use Rattle.poly_questions.specs.Questions.{size_text}
use Rattle.name_table.specs.Listing.{spaced}
use Rattle.poly_questions.specs.Optima.{relation_text, bound_text}
use Rattle.line_values.specs.Operands.{is_max}
use Rattle.powerset.specs.Commands.{members_text, cover_line}
use Rattle.poly_questions.specs.Files.{file_of}
use Rattle.line_values.specs.Effects.{ok_line}
use Rattle.run_laws.specs.Acts.{Act, Did, Took, Accepted, acts}
use Rattle.run_laws.specs.Sets.{IsMade, AreAlikePowersets, HaveOneDim, IsEntryOf, names_of}

-- the reply says whether the point of the text is in the polyhedron
pub record SaysWhether (part : Part) (reply : List ℕ) (p : Polyhedron) : Type 0 where
  pub point : List ℤ
  pub read : IsPoint p.cons.dim part.text point
  pub holds : Bool
  pub said : reply ≡ answer_line holds
  pub true_of_point : IsTrue holds ↔ In p.cons point

-- the reply is the printed form of the stored constraints; it is read as these, and they hold
-- exactly at the points of the polyhedron
pub record SaysSystem (reply : List ℕ) (p : Polyhedron) : Type 0 where
  pub text : List ℕ
  pub said : reply ≡ line text
  pub system : Constraints
  pub printed : text ≡ constraints_text system
  pub read : IsCons p.cons.dim text system
  pub stored : system ≡ p.cons
  pub points : HoldSame system p.cons

-- the reply is the printed form of the stored generators; it is read as these, and they generate
-- exactly the points of the polyhedron
pub record SaysGeneration (reply : List ℕ) (p : Polyhedron) : Type 0 where
  pub text : List ℕ
  pub said : reply ≡ line text
  pub system : Generators
  pub printed : text ≡ generators_text system
  pub read : IsGens p.cons.dim text system
  pub stored : system ≡ p.gens
  pub points : (v : List ℤ) → IsPointRow p.cons.dim v → Span system v ↔ In p.cons v

-- the reply is true of what is under the name
pub record IsTrueOf {A : Type 0} (kind : A → Entry) (commands : List Act) (name : List ℕ)
    (Says : A → Type 0) : Type 0 where
  pub operand : A
  pub given : IsEntryOf commands name (kind operand)
  pub says : Says operand

-- the reply is true of what is under two names, which fit each other
pub record IsTrueOfTwo {A : Type 0} (kind : A → Entry) (Fit : A → A → Type 0) (commands : List Act)
    (one other : List ℕ) (Says : A → A → Type 0) : Type 0 where
  pub first : A
  pub second : A
  pub given_first : IsEntryOf commands one (kind first)
  pub given_second : IsEntryOf commands other (kind second)
  pub fit : Fit first second
  pub says : Says first second

-- the reply says whether the statement is true
pub record SaysTruth (reply : List ℕ) (Statement : Type 0) : Type 0 where
  pub holds : Bool
  pub said : reply ≡ answer_line holds
  pub true_of : IsTrue holds ↔ Statement

-- what is asked of how two polyhedra lie
abbrev pub LieSo : Comparison → Polyhedron → Polyhedron → Type 0
LieSo comparison.Contains p q = IsIncluded q p
LieSo comparison.Equal p q = HaveSamePoints p q
LieSo comparison.Disjoint p q = AreDisjoint p q

-- the reply says how the points of the polyhedron lie to the constraint of the text
pub record SaysHowItLies (part : Part) (reply : List ℕ) (p : Polyhedron) : Type 0 where
  pub row : List ℤ
  pub kind : ConKind
  pub read : IsCon p.cons.dim part.text row kind
  pub flags : Flags
  pub said : reply ≡ line (relation_text flags)
  pub true_of : IsRelation p.cons row kind flags

-- the generator that a bound numbers lies in the closure of the set, and in the set exactly where
-- the bound is attained, and has the bound as its value
abbrev pub IsShownBy : Bool → List ℤ → Polyhedron → Sup → Type 0
IsShownBy up row p sup.Empty = Unit {0}
IsShownBy up row p sup.Unbounded = Unit {0}
IsShownBy up row p (sup.At num den attained index) =
    IsWitness up row p num den attained (row_at p.gens.list index)

-- the reply says the bound of the expression of the text on the points of the polyhedron, and the
-- first stored generator that shows it, a point before a closure point
pub record SaysExtremum (up : Bool) (part : Part) (reply : List ℕ) (p : Polyhedron) : Type 0 where
  pub row : List ℤ
  pub read : IsExpr p.cons.dim part.text row
  pub bound : Sup
  pub said : reply ≡ line (bound_text p.gens bound)
  pub true_of : IsTrueSup up row p bound
  pub shown : IsShownBy up row p bound
  pub first : SupAnswer up row p.gens (Ok bound)

-- each constraint, or each generator, that is stored is said
abbrev pub SaysSide : Bool → List ℕ → Polyhedron → Type 0
SaysSide false reply p = SaysSystem reply p
SaysSide true reply p = SaysGeneration reply p

-- the reply says that each point of the second union is in the first, or shows a primitive point of
-- the second that is in no member of the first
pub record SaysCover (reply : List ℕ) (s t : FinitePowerset) : Type 0 where
  pub answer : Cover
  pub said : reply ≡ cover_line s.dim answer
  pub true_of : IsCover s t answer

-- the reply is a function that ranks the closed relation, the first stored point of the polyhedron
-- of these functions, or `none` where no affine function does
pub record SaysRanking (reply : List ℕ) (r : Polyhedron) : Type 0 where
  pub closed : r.topology ≡ Closed
  pub text : List ℕ
  pub said : reply ≡ line text
  pub true_of : IsWithoutRanking (r.cons.dim / 2) r.cons text
      ⊎ IsOfRanking (r.cons.dim / 2) r.cons text
  pub functions : Polyhedron
  pub made : IsMade (IsRankingSet (r.cons.dim / 2) r) functions
  pub first : IsRankingText functions text

-- each bound of a shape is the greatest difference of its two places on the points of the shape
abbrev pub AreGreatest : DifferenceShape → Type 0
AreGreatest s = (t : Table) → s.bounds ≡ Some t → (i j : ℕ) → i < s.dim + 1 → j < s.dim + 1
    → IsGreatestAt s i j (bounds_of t i j)

-- the reply is the printed form of the bounds of the shape; it is read as these constraints, and
-- they hold exactly at its points
pub record SaysBounds (reply : List ℕ) (s : DifferenceShape) : Type 0 where
  pub text : List ℕ
  pub said : reply ≡ line text
  pub printed : text ≡ constraints_text (shape_constraints s)
  pub read : IsCons s.dim text (shape_constraints s)
  pub points : (v : List ℤ) → (IsPointRow s.dim v × In (shape_constraints s) v) ↔ IsIn s v
  pub greatest : AreGreatest s

-- after these accepted commands the answer to a question is true: to `size` it is the dimension and
-- the numbers of stored constraints and generators, to `psize` the number of members, to `names`
-- the number of names and the names, and to `write` the file of the stored constraints or
-- generators of a closed set; a line without a command and one that opens a file are answered by
-- nothing, and each other command by `ok`
abbrev pub IsTruthful : List Act → Command → List ℕ → Type 0
IsTruthful earlier (Has name part) reply = IsTrueOf entry.Poly earlier name (SaysWhether part reply)
IsTruthful earlier (Size name) reply =
    IsTrueOf entry.Poly earlier name (λ p. reply ≡ line (size_text p))
IsTruthful earlier (Print side name) reply = IsTrueOf entry.Poly earlier name (SaysSide side reply)
IsTruthful earlier Names reply =
    reply ≡ line (codes "names " ++ decimal (length (names_of earlier))
    ++ spaced (names_of earlier))
IsTruthful earlier (Compare by one other) reply =
    IsTrueOfTwo entry.Poly AreAlike earlier one other (λ p q. SaysTruth reply (LieSo by p q))
IsTruthful earlier (Isempty name) reply =
    IsTrueOf entry.Poly earlier name (λ p. SaysTruth reply (HasNoPoint p))
IsTruthful earlier (Relation name part) reply =
    IsTrueOf entry.Poly earlier name (SaysHowItLies part reply)
IsTruthful earlier (Bound extremum name part) reply =
    IsTrueOf entry.Poly earlier name (SaysExtremum (is_max extremum) part reply)
IsTruthful earlier (Write name form) reply =
    IsTrueOf entry.Poly earlier name (λ p. (p.topology ≡ Closed) × (reply ≡ file_of form p))
IsTruthful earlier (Read out form) reply = reply ≡ []
IsTruthful earlier Nothing reply = reply ≡ []
IsTruthful earlier (Psize name) reply =
    IsTrueOf entry.Powerset earlier name (λ u. reply ≡ line (members_text u))
IsTruthful earlier (Covers one other) reply =
    IsTrueOfTwo entry.Powerset AreAlikePowersets earlier one other (SaysCover reply)
IsTruthful earlier (Ranking name) reply = IsTrueOf entry.Poly earlier name (SaysRanking reply)
IsTruthful earlier (ShapeContains one other) reply =
    IsTrueOfTwo entry.Shape HaveOneDim earlier one other (λ s t. SaysTruth reply (Includes s t))
IsTruthful earlier (ShapePrint name) reply = IsTrueOf entry.Shape earlier name (SaysBounds reply)
IsTruthful earlier other reply = reply ≡ ok_line

-- the answer to a command is true of what was accepted before it; a file that was read is answered
-- by `ok`
abbrev pub IsTrueAnswer : List Act → Act → List ℕ → Type 0
IsTrueAnswer earlier (Did c) reply = IsTruthful earlier c reply
IsTrueAnswer earlier (Took file) reply = reply ≡ ok_line

-- of what was accepted, the last first: each answer is true of what was accepted before it
abbrev pub AreTruthful : List Accepted → Type 0
AreTruthful [] = Unit {0}
AreTruthful (a ∷ earlier) = IsTrueAnswer (acts earlier) a.act a.answer × AreTruthful earlier
