-- The sets that commands make, by their points.
use Rattle.std.specs.Prelude.{◌≡◌, ◌≢◌, ◌≤◌, ◌<◌, ◌⊎◌, ◌+◌, ℕ, List, [], ◌++◌, length, drop, slice_set, ℤ, pos, ◌≤ℤ◌, ◌<ℤ◌, Bool, false, All}
use Rattle.std.proofs.Math.IntN.{◌*ℤ◌}
use Rattle.row_core.specs.Vectors.{cell, dot, scale}
use Rattle.row_core.specs.Points.{IsPoint}
use Rattle.cons_sys.specs.Constraints.{Constraint, Constraints, In}
use Rattle.gens_sys.specs.Generators.{Generator, Generators}
use Rattle.gens_sys.specs.declared.kind.GenKind.TheVariants.{ClosurePoint}
use Rattle.gens_sys.specs.Kinds.{HasBadDivisor}
use Rattle.gens_sys.specs.Spans.{Span}
use Rattle.stored_systems.specs.PointSets.{IsWithin}
use Rattle.elapse.specs.ElapsedPoints.{IsElapsed}
use Rattle.mapped_systems.specs.Maps.{without, kept_variables, remaining}
use Rattle.mapped_systems.specs.Sources.{HasSource}
use Rattle.script_text.specs.declared.command.Part.{Part}
use Rattle.script_text.specs.declared.command.Space.{Space}
use Rattle.script_text.specs.declared.command.Space.TheVariants.{Universe, Empty}
use Rattle.script_text.specs.declared.command.Operator.{Operator}
use Rattle.script_text.specs.declared.command.Operator.TheVariants.{Meet, Hull, Concat, Elapse}
use Rattle.script_text.specs.declared.command.Extension.{Extension}
use Rattle.script_text.specs.declared.command.Extension.TheVariants.{Embed, Project}
use Rattle.script_text.specs.declared.command.Mapping.{Mapping}
use Rattle.script_text.specs.declared.command.Mapping.TheVariants.{Image, Preimage}
use Rattle.script_text.specs.declared.command.Rel.{Rel}
use Rattle.script_text.specs.declared.command.Rel.TheVariants as rel
use Rattle.soundness.specs.Points.{PointSet, LackStrict, IsOver, IsSetOf, AreAlike, HasNoPoint, Includes, IsInSmallest}
use Rattle.soundness.specs.TextsExpressions.{FractionText}
use Rattle.soundness.specs.TextsSystems.{ConstraintsText, GeneratorsText}

-- ---- systems
-- constraints, over so many variables
abbrev pub constraints : ℕ → List Constraint → Constraints
constraints dim list = record { dim = dim; list = list }

-- generators, over so many variables
abbrev pub generators : ℕ → List Generator → Generators
generators dim list = record { dim = dim; list = list }

-- none of the generators is a closure point if they are to be those of a closed set
abbrev pub LackClosurePoints : Bool → List Generator → Type 0
LackClosurePoints nnc list = nnc ≡ false → All (λ (g : Generator). g.1 ≢ ClosurePoint) list

-- the points at which the constraints of the text hold
pub record IsOfConstraints (nnc : Bool) (dim : ℕ) (text : List ℕ) (s : PointSet) : Type 0 where
  pub list : List Constraint
  pub says : ConstraintsText dim text list
  pub kinds : LackStrict nnc list
  pub set : IsSetOf nnc dim (In (constraints dim list)) s

-- the points that the generators of the text generate: none where there is no point among them
pub record IsOfGenerators (nnc : Bool) (dim : ℕ) (text : List ℕ) (s : PointSet) : Type 0 where
  pub list : List Generator
  pub says : GeneratorsText dim text list
  pub kinds : LackClosurePoints nnc list
  pub set : IsSetOf nnc dim (Span (generators dim list)) s

-- all points, or none
abbrev pub IsSpace : Space → Bool → ℕ → PointSet → Type 0
IsSpace Universe nnc dim s = IsSetOf nnc dim (IsPoint dim) s
IsSpace Empty nnc dim s = IsSetOf nnc dim (λ v. ⊥) s

-- ---- one operand
-- the points of the operand
abbrev pub IsCopy : PointSet → PointSet → Type 0
IsCopy p s = IsSetOf p.nnc p.cons.dim (In p.cons) s

-- its points at which the constraints of the text hold too
pub record IsAdded (part : Part) (p s : PointSet) : Type 0 where
  pub list : List Constraint
  pub text : ConstraintsText p.cons.dim part.text list
  pub kinds : LackStrict p.nnc list
  pub set : IsSetOf p.nnc p.cons.dim (λ v. In p.cons v × In (constraints p.cons.dim list) v) s

-- a vector over so many variables, whose last entry fits its kind
pub record IsGeneratorFor (dim : ℕ) (g : Generator) : Type 0 where
  pub wide : length g.0 ≡ dim + 1
  pub divisor : ¬ (HasBadDivisor g.1 (cell g.0 dim))

-- the generators generate the points of the set. Where it has no point there is none: rays alone
-- generate no point, but they would generate some with a point of the text
pub record Generate (list : List Generator) (p : PointSet) : Type 0 where
  pub each : All (IsGeneratorFor p.cons.dim) list
  pub set : IsSetOf p.nnc p.cons.dim (Span (generators p.cons.dim list)) p
  pub none : HasNoPoint p → list ≡ []

-- what generators of the operand and those of the text generate
pub record IsJoined (part : Part) (p s : PointSet) : Type 0 where
  pub list : List Generator
  pub text : GeneratorsText p.cons.dim part.text list
  pub kinds : LackClosurePoints p.nnc list
  pub own : List Generator
  pub generate : Generate own p
  pub set : IsSetOf p.nnc p.cons.dim (Span (generators p.cons.dim (own ++ list))) s

-- the smallest closed set that includes the operand
abbrev pub IsClosure : PointSet → PointSet → Type 0
IsClosure p s = IsSetOf p.nnc p.cons.dim (IsInSmallest false p.cons.dim (IsWithin p.cons)) s

-- ---- two operands
-- of operands of one kind, and but for concat over the same variables: the points that are in both;
-- the smallest set that includes both; the points whose first variables are in the one and whose
-- others are in the other; the smallest set that includes all x + t*y with x in the one, y in the
-- other and t at least 0
abbrev pub IsOfTwo : Operator → PointSet → PointSet → PointSet → Type 0
IsOfTwo Meet p q s =
    AreAlike p q × IsSetOf p.nnc p.cons.dim (λ v. In p.cons v × In q.cons v) s
IsOfTwo Hull p q s = AreAlike p q × IsSetOf p.nnc p.cons.dim
    (IsInSmallest p.nnc p.cons.dim (λ v. IsWithin p.cons v ⊎ IsWithin q.cons v)) s
IsOfTwo Concat p q s = (p.nnc ≡ q.nnc) × IsSetOf p.nnc (p.cons.dim + q.cons.dim)
    (λ v. In p.cons (without p.cons.dim (p.cons.dim + q.cons.dim) v) × In q.cons
    (drop p.cons.dim v)) s
IsOfTwo Elapse p q s = AreAlike p q × IsSetOf p.nnc p.cons.dim
    (IsInSmallest p.nnc p.cons.dim (IsElapsed p.cons q.cons)) s

-- a widening of two closed sets, the first of which is included in the second: it includes both
pub record IsWidening (p q s : PointSet) : Type 0 where
  pub alike : AreAlike p q
  pub closed : p.nnc ≡ false
  pub nested : Includes q p
  pub same : IsOver p.nnc p.cons.dim s
  pub first : Includes s p
  pub second : Includes s q

-- ---- variables
-- behind the operand's own variables stand others, and without these the point is in the operand
abbrev pub IsFrontIn : PointSet → ℕ → List ℤ → Type 0
IsFrontIn p n v = In p.cons (without p.cons.dim (p.cons.dim + n) v)

-- the operand with n variables more, which are free, or are all 0
abbrev pub IsExtended : Extension → ℕ → PointSet → PointSet → Type 0
IsExtended Embed n p s = IsSetOf p.nnc (p.cons.dim + n) (IsFrontIn p n) s
IsExtended Project n p s = IsSetOf p.nnc (p.cons.dim + n)
    (λ v. IsFrontIn p n v × ((j : ℕ) → p.cons.dim ≤ j → j < p.cons.dim + n → cell v j ≡ pos 0)) s

-- the points of the operand without some of its variables
pub record IsRemoved (vars : List ℕ) (p s : PointSet) : Type 0 where
  pub below : All (λ v. v < p.cons.dim) vars
  pub set : IsSetOf p.nnc (length (kept_variables p.cons.dim vars))
      (HasSource (remaining p.cons.dim vars) p.cons) s

-- ---- assignments
-- the one number stands in the relation to the other
abbrev pub Stands : Rel → ℤ → ℤ → Type 0
Stands rel.Eq x y = x ≡ y
Stands rel.Ge x y = y ≤ℤ x
Stands rel.Le x y = x ≤ℤ y
Stands rel.Gt x y = y <ℤ x
Stands rel.Lt x y = x <ℤ y

-- some point of the set has the values of all other variables, and the variable's value stands in
-- the relation to that of the expression over the divisor at this point; all is multiplied out by
-- the divisors
pub record IsImage (rel : Rel) (var : ℕ) (expr : List ℤ) (divisor : ℤ) (cs : Constraints)
    (v : List ℤ) : Type 0 where
  pub source : List ℤ
  pub within : IsWithin cs source
  pub others : (j : ℕ) → j < cs.dim → j ≢ var →
      cell v j *ℤ cell source cs.dim ≡ cell source j *ℤ cell v cs.dim
  pub stands : Stands rel (cell v var *ℤ (divisor *ℤ cell source cs.dim))
      (dot expr source *ℤ cell v cs.dim)

-- with some fraction as the variable's value, which stands in the relation to that of the
-- expression over the divisor at the point, the point is in the set
pub record IsPreimage (rel : Rel) (var : ℕ) (expr : List ℤ) (divisor : ℤ) (cs : Constraints)
    (v : List ℤ) : Type 0 where
  pub num : ℤ
  pub den : ℤ
  pub positive : pos 0 <ℤ den
  pub stands : Stands rel (num *ℤ (divisor *ℤ cell v cs.dim)) (dot expr v *ℤ den)
  pub within : In cs (slice_set (scale den v) var (num *ℤ cell v cs.dim))

-- the vector comes of a point of the set by the assignment, or a point of the set of the vector
abbrev pub ComesOf : Mapping → Rel → ℕ → List ℤ → ℤ → Constraints → List ℤ → Type 0
ComesOf Image rel var expr divisor cs v = IsImage rel var expr divisor cs v
ComesOf Preimage rel var expr divisor cs v = IsPreimage rel var expr divisor cs v

-- where the text is the fraction, and the variable one of the operand's
pub record IsMapped (by : Mapping) (var : ℕ) (rel : Rel) (part : Part)
    (p s : PointSet) : Type 0 where
  pub below : var < p.cons.dim
  pub expr : List ℤ
  pub divisor : ℕ
  pub positive : 0 < divisor
  pub text : FractionText p.cons.dim part.text expr divisor
  pub set : IsSetOf p.nnc p.cons.dim (ComesOf by rel var expr (pos divisor) p.cons) s
