-- The sample of a number of rows, and its line.
use Rattle.std.specs.Prelude.{◌≡◌, ◌⊎◌, ℕ, List, length, [], ◌∷◌, ◌++◌, ℤ, pos, negsuc, true, Result, Ok, decimal, codes}
use Rattle.std.specs.Fmt.{signed_decimal}
use Rattle.row_core.specs.declared.errors.Overflow.{Overflow}
use Rattle.cons_sys.specs.Constraints.{Constraints}
use Rattle.stored_systems.specs.StoredLaws.{IsPair}
use Rattle.poly_pair.specs.Polyhedra.{Polyhedron, IsOfConstraints}
use Rattle.poly_pair.specs.declared.topology.Topology.TheVariants.{Closed}
use Rattle.optimum.specs.Suprema.{SupAnswer, IsTrueSup}
use Rattle.optimum.specs.declared.outcome.Sup.{Sup}
use Rattle.optimum.specs.declared.outcome.Sup.TheVariants as sup
use Rattle.sample_rows.specs.Samples.{IsSample}
use Rattle.line_values.specs.Overflows.{LeavesOnConstraints}
use Rattle.poly_questions.specs.Optima.{SearchLeaves, ShowsValues}
use Rattle.line_values.specs.Meaning.{line}
use Rattle.line_values.specs.Proper.{IsProper}
use Rattle.line_values.specs.Replies.{Reply, Answered, Refused, Overflows, GivesReply}
use Rattle.line_values.specs.declared.refusal.StepErr.{StepErr}

-- the row of B - A
abbrev pub difference : List ℤ
difference = negsuc 0 ∷ pos 1 ∷ pos 0 ∷ pos 0 ∷ []

-- the closed polyhedron of the sample's points, by the two systems that are stored of them
pub record IsOfSample (n : ℕ) (p : Polyhedron) : Type 0 where
  pub system : Constraints
  pub sample : IsSample n system
  pub set : IsOfConstraints Closed system p
  pub proper : IsProper p
  pub pair : IsPair p.cons p.gens

-- ---- the line
-- a least upper bound
abbrev pub maximum_text : Sup → List ℕ
maximum_text sup.Empty = codes "empty"
maximum_text sup.Unbounded = codes "unbounded"
maximum_text (sup.At num den attained index) = signed_decimal num ++ codes "/" ++ signed_decimal den

-- the number of rows, and how many constraints and how many generators are stored
abbrev pub counts_text : ℕ → ℕ → ℕ → List ℕ
counts_text n constraints generators =
    codes "sample " ++ decimal n ++ codes " constraints " ++ decimal constraints
    ++ codes " generators " ++ decimal generators

-- these, and the maximum
abbrev pub sample_text : ℕ → ℕ → ℕ → Sup → List ℕ
sample_text n constraints generators maximum =
    counts_text n constraints generators ++ codes " max " ++ maximum_text maximum

-- the text is the line of the sample: of its polyhedron, and of the maximum of B - A on it
pub record IsSampleLine (n : ℕ) (text : List ℕ) : Type 0 where
  pub polyhedron : Polyhedron
  pub of_sample : IsOfSample n polyhedron
  pub maximum : Sup
  pub answer : SupAnswer true difference polyhedron.gens (Ok maximum)
  pub true_of : IsTrueSup true difference polyhedron maximum
  pub text_is : text
      ≡ line (sample_text n (length polyhedron.cons.list) (length polyhedron.gens.list) maximum)

-- ---- overflows
-- of the conversion of the sample's constraint list, or of its second list
pub record LeavesOnRows (n : ℕ) (over : Overflow) : Type 0 where
  pub system : Constraints
  pub sample : IsSample n system
  pub leaves : LeavesOnConstraints Closed system over

-- of the search for the maximum: the pair that it comes to
pub record LeavesOnMaximum (n : ℕ) (over : Overflow) : Type 0 where
  pub polyhedron : Polyhedron
  pub of_sample : IsOfSample n polyhedron
  pub leaves : ShowsValues
      (SearchLeaves true difference polyhedron.gens) difference polyhedron.gens over

-- of either
abbrev pub LeavesOnSample : ℕ → Overflow → Type 0
LeavesOnSample n over = LeavesOnRows n over ⊎ LeavesOnMaximum n over

-- ---- answers
-- what is answered to the number of a sample
abbrev pub SamplesTo : ℕ → Reply → Type 0
SamplesTo n (Answered text) = IsSampleLine n text
SamplesTo n (Refused f) = ⊥
SamplesTo n (Overflows over) = LeavesOnSample n over

-- what was given is such a reply, or memory ran out
abbrev pub GivesSample : ℕ → Result (List ℕ) StepErr → Type 0
GivesSample n given = GivesReply (SamplesTo n) given

-- no list of the sample's conversion and no pair of its maximum has an overflow
abbrev pub MustSample : ℕ → Type 0
MustSample n = (over : Overflow) → ¬ (LeavesOnSample n over)
