-- What came of the questions how polyhedra lie.
use Rattle.std.proofs.Common.{◌≡◌, ℕ, List, Ok, Err, Result, MatchResult, Bool, false, IsTrue, ◌↔◌}
use Rattle.row_core.specs.declared.errors.ConvErr.{ConvErr}
use Rattle.row_core.specs.declared.errors.ConvErr.TheVariants as conversion
use Rattle.row_core.specs.declared.errors.Overflow.{Overflow}
use Rattle.row_core.specs.declared.errors.PairOver.{PairOver}
use Rattle.poly_pair.specs.Polyhedra.{Polyhedron, HasNoPoint}
use Rattle.poly_pair.specs.Work.{conv_overflow, IsFirstConversion}
use Rattle.lattice_ops.specs.Sets.{meet_work}
use Rattle.lattice_ops.specs.Questions.{Answers, LeavesRange}
use Rattle.line_values.specs.declared.refusal.StepErr.{StepErr}
use Rattle.line_values.specs.declared.refusal.StepErr.TheVariants as err
use Rattle.line_values.specs.Order.{Passes}
use Rattle.line_values.specs.Meaning.{alike, no_fault, answer_line, IsTold}
use Rattle.line_values.specs.Performed.{IsPerformed}
use Rattle.line_values.specs.Refusals.{refusal_of_conversion}
use Rattle.line_values.proofs.PerformedLemmas.{answered}
use Rattle.poly_questions.specs.Lattice.{disjoint, isempty, IsTested}
use Rattle.line_values.specs.Pairs.{ShowsRows, shown_rows}
use Rattle.line_values.proofs.PairLemmas.{shows}

-- two operands that are alike
pub alike_pass : (p q : Polyhedron) → p.topology ≡ q.topology → p.cons.dim ≡ q.cons.dim → Passes (alike p q no_fault)
alike_pass p q topology dim = (λ k. k, (λ k. k topology, (λ k. k, (λ k. k dim, (λ k. k, (λ k. k, (λ k. k, (λ k. k, (λ k. k, (λ k. k, (λ k. k, (λ k. k, (λ k. k, (λ k. k, tt))))))))))))))

pub told : (Statement : Type 0) (holds : Bool) (text : List ℕ) → IsTrue holds ↔ Statement → text ≡ answer_line holds → IsTold Statement text
told Statement holds text true_of said = record { holds = holds; true_of = true_of; said = said }

pub tested : (Answer : Result Bool PairOver → Type 0) (Statement : Type 0) (holds : Bool) (text : List ℕ) → Answer (Ok holds) → IsTrue holds ↔ Statement → text ≡ answer_line holds → IsTested Answer Statement text
tested Answer Statement holds text answer true_of said = record { told = record { holds = holds; true_of = true_of; said = said }; tested = answer }

-- whether there is no point was told
pub empty_told : (p : Polyhedron) (holds : Bool) (result : Result (List ℕ) StepErr) → IsTrue holds ↔ HasNoPoint p → MatchResult result (λ text. text ≡ answer_line holds) (λ cause. cause ≡ err.Memory) → IsPerformed (isempty p) result
empty_told p holds result true_of is = answered (isempty p) (λ (text : List ℕ). text ≡ answer_line holds) result (λ text said. ((λ k. k, (λ k. k, (λ k. k, (λ k. k, (λ k. k, (λ k. k, (λ k. k, (λ k. k, (λ k. k, (λ k. k, (λ k. k, (λ k. k, (λ k. k, (λ k. k, tt)))))))))))))), told (HasNoPoint p) holds text true_of said)) is

-- the conversion of the list of both left the range
pub disjoint_leaves : (p q : Polyhedron) (old new : ℕ) (e : ConvErr) → Passes (alike p q no_fault) → IsFirstConversion (meet_work p q) old new (conv_overflow e) → IsPerformed (disjoint p q) (Err (refusal_of_conversion e))
disjoint_leaves p q old new (conversion.Overflow over) passes converts = (passes, converts.overflow)
disjoint_leaves p q old new conversion.Memory passes converts = tt

-- the rows of a pair of the first operand's constraints
pub shows_first : (p q : Polyhedron) (pair : PairOver) (over : Overflow) → LeavesRange p.cons.list q.gens.list false pair → over ≡ shown_rows p.cons q.gens pair → ShowsRows (Answers p.cons.list q.gens.list false) p q over
shows_first p q pair over leaves shown = shows (Answers p.cons.list q.gens.list false) p q pair false over leaves leaves.turned shown
