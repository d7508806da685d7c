-- What is answered to the number of a sample.
use Rattle.std.proofs.Common.{◌≡◌, ℕ, List, [], length, Err, refl, sym, subst, inr, true, arith}
use Rattle.std.specs.Prelude.{Ok}
use Rattle.row_core.specs.declared.errors.Overflow.{Overflow}
use Rattle.row_core.specs.declared.errors.PairOver.{PairOver}
use Rattle.cons_sys.specs.Constraints as cons
use Rattle.cons_sys.specs.Constraints.{Constraints}
use Rattle.gens_sys.specs.Generators as gens
use Rattle.stored_systems.specs.PointSets.{IsClosedKind}
use Rattle.poly_pair.specs.KeptLaws.{KeptIsPair}
use Rattle.poly_pair.specs.Polyhedra.{Polyhedron, IsKept, IsOfConstraints}
use Rattle.poly_pair.specs.TopologyLists.{AreConstraintsFor}
use Rattle.poly_pair.specs.declared.topology.Topology.TheVariants.{Closed}
use Rattle.optimum.specs.Suprema.{SupAnswer, IsTrueSup}
use Rattle.optimum.specs.declared.outcome.Sup.{Sup}
use Rattle.sample_rows.specs.Samples.{IsSample}
use Rattle.optimum.specs.Showing.{shown_values}
use Rattle.line_values.specs.Meaning.{line}
use Rattle.line_values.specs.Replies.{Reply, Answered, Refused, Overflows, is_answer}
use Rattle.job_texts.specs.Samples.{difference, sample_text, IsOfSample, IsSampleLine, LeavesOnSample, SamplesTo, MustSample}

-- a sample that must be answered is
pub must_sample : (n : ℕ) (reply : Reply) → SamplesTo n reply → MustSample n → is_answer reply ≡ true
must_sample n (Answered text) is m = refl
must_sample n (Refused f) is m = absurd is
must_sample n (Overflows over) leaves m = absurd (m over leaves)

-- ---- the constraints
-- they aren't strict
pub sample_is_closed : (n : ℕ) (cs : Constraints) → IsSample n cs → AreConstraintsFor Closed cs
sample_is_closed n cs s = λ k d h. subst IsClosedKind (sym (s.list.each k [] d (omega (arith, s.list.as_many, h))).kind) tt

-- ---- the polyhedron
pub polyhedron_of : KeptIsPair → (n : ℕ) (system : Constraints) (p : Polyhedron) → IsSample n system → IsOfConstraints Closed system p → IsKept p → cons.FitDimension p.cons → gens.FitDimension p.gens → IsOfSample n p
polyhedron_of law n system p sample set kept fit fits = record {
  system = system;
  sample = sample;
  set = set;
  proper = record { kept = kept; cons = fit; gens = fits };
  pair = law p kept;
}

-- ---- the maximum
-- the line of a polyhedron of the sample
pub sample_told : (n : ℕ) (p : Polyhedron) (maximum : Sup) (text : List ℕ) → IsOfSample n p → SupAnswer true difference p.gens (Ok maximum) → IsTrueSup true difference p maximum
    → text ≡ line (sample_text n (length p.cons.list) (length p.gens.list) maximum) → IsSampleLine n text
sample_told n p maximum text is answer true_of said = record { polyhedron = p; of_sample = is; maximum = maximum; answer = answer; true_of = true_of; text_is = said }

-- the pair that the search comes to
pub maximum_leaves : (n : ℕ) (p : Polyhedron) (pair : PairOver) (over : Overflow) → IsOfSample n p → SupAnswer true difference p.gens (Err pair) → over ≡ shown_values difference p.gens pair → LeavesOnSample n over
maximum_leaves n p pair over is leaves shown = inr (record { polyhedron = p; of_sample = is; leaves = record { pair = pair; leaves = (is.proper.gens, leaves); shown = shown } })
