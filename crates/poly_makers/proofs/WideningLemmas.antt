-- What came of a command that makes the widening.
use Rattle.std.proofs.Common.{◌≡◌, Ok, Err, Result, Bool, true, false, inl, inr}
use Rattle.row_core.specs.declared.errors.Overflow.{Overflow}
use Rattle.row_core.specs.declared.errors.PairOver.{PairOver}
use Rattle.row_core.specs.declared.errors.ConvErr.{ConvErr}
use Rattle.row_core.specs.declared.errors.ConvErr.TheVariants as conversion
use Rattle.poly_pair.specs.declared.topology.Topology.TheVariants.{Closed}
use Rattle.poly_pair.specs.Polyhedra.{Polyhedron, IsIncluded}
use Rattle.lattice_ops.specs.Questions.{Answers, HasOneAnswer}
use Rattle.widening.specs.Widenings.{IsWidening}
use Rattle.widening.specs.Overflows.{IsWideningOverflow}
use Rattle.line_values.specs.declared.refusal.StepErr.TheVariants as err
use Rattle.line_values.specs.Refusals.{refusal_of_conversion}
use Rattle.line_values.specs.Order.{Passes}
use Rattle.line_values.specs.Meaning.{alike, room}
use Rattle.line_values.specs.Pairs.{shown_rows}
use Rattle.line_values.specs.Performed.{IsPerformed}
use Rattle.poly_makers.specs.Widening.{nested, widen}
use Rattle.line_values.proofs.PairLemmas.{shows}

-- what passes the other tests, where there is room
pub other_tests : (p q : Polyhedron) → p.topology ≡ q.topology → p.cons.dim ≡ q.cons.dim → Passes (alike p q (room false))
other_tests p q topology dim =
    (λ x. x, (λ ne. ne topology, (λ x. x, (λ ne. ne dim, (λ x. x, (λ x. x, (λ x. x, (λ x. x, (λ x. x, (λ x. x, (λ x. x, (λ x. x, (λ e. cc, (λ x. x, tt))))))))))))))

module _ (one : HasOneAnswer) (p q : Polyhedron) (tests : Passes (alike p q (room false))) (closed : p.topology ≡ Closed) where
  -- the test of pairs has another answer than no
  passes : (r : Result Bool PairOver) → Answers q.cons.list p.gens.list false r → (r ≡ Ok false → ⊥) → Passes (nested p q (room false))
  passes r answer never =
      (tests.0, (tests.1.0, (λ ne. ne closed, (tests.1.1.1.0, (tests.1.1.1.1.0, (tests.1.1.1.1.1.0, (tests.1.1.1.1.1.1.0, (tests.1.1.1.1.1.1.1.0, (tests.1.1.1.1.1.1.1.1.0, (tests.1.1.1.1.1.1.1.1.1.0, (tests.1.1.1.1.1.1.1.1.1.1.0, (tests.1.1.1.1.1.1.1.1.1.1.1.0, (tests.1.1.1.1.1.1.1.1.1.1.1.1.0, (λ other. never (one q.cons.list p.gens.list false r (Ok false) answer other), tt))))))))))))))

  pub widened : (made : Polyhedron) → Answers q.cons.list p.gens.list false (Ok true) → IsIncluded p q → IsWidening p q made → IsPerformed (widen false p q) (Ok made)
  widened made answer included is = (passes (Ok true) answer (λ e. cc), record { tested = answer; nested = included; widening = is })

  pub overflows : (cause : ConvErr) → Answers q.cons.list p.gens.list false (Ok true) → IsWideningOverflow p q cause → IsPerformed (widen false p q) (Err (refusal_of_conversion cause))
  overflows (conversion.Overflow over) answer is = (passes (Ok true) answer (λ e. cc), inr (record { tested = answer; leaves = is }))
  overflows conversion.Memory answer is = tt

  pub shows_pair : (pair : PairOver) (over : Overflow) → Answers q.cons.list p.gens.list false (Err pair) → over ≡ shown_rows q.cons p.gens pair → IsPerformed (widen false p q) (Err (err.Overflow over))
  shows_pair pair over answer shown = (passes (Err pair) answer (λ e. cc), inl (shows (Answers q.cons.list p.gens.list false) q p pair false over answer answer.turned shown))
