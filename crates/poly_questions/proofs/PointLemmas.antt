-- What came of the question whether a point is in a polyhedron.
use Rattle.std.proofs.Common.{◌≡◌, ℕ, List, Ok, Err, Bool, IsTrue, ◌↔◌}
use Rattle.std.specs.Prelude.{ℤ}
use Rattle.cons_sys.specs.Constraints.{In}
use Rattle.cons_sys.specs.Testing.{Answers}
use Rattle.poly_pair.specs.Polyhedra.{Polyhedron}
use Rattle.script_text.specs.declared.command.Part.{Part}
use Rattle.line_values.specs.declared.refusal.StepErr.{StepErr}
use Rattle.line_values.specs.Order.{NoneOf, Passes}
use Rattle.line_values.specs.Texts.{point_fault, IsTextRefusal, ReadsPoint}
use Rattle.line_values.specs.Meaning.{answer_line}
use Rattle.poly_questions.specs.Questions.{has}
use Rattle.line_values.specs.Performed.{IsPerformed}
use Rattle.line_values.proofs.FaultOrder.{early, refused_by_text, all_pass}

has_early : (part : Part) (p : Polyhedron) → NoneOf early (has part p).conditions
has_early part p = (λ k. k, (λ k. k, (λ k. k, (λ k. k, (λ k. k, tt)))))

pub has_refused : (part : Part) (p : Polyhedron) (e : StepErr) → IsTextRefusal (point_fault p.cons.dim part) e → IsPerformed (has part p) (Err e)
has_refused part p e is = refused_by_text (has part p) e (has_early part p) is

has_passes : (part : Part) (p : Polyhedron) (point : List ℤ) → ReadsPoint p.cons.dim part point → Passes (has part p).conditions
has_passes part p point read = all_pass (has part p).conditions (has_early part p) read.faultless (λ k. k, (λ k. k, (λ k. k, tt)))

pub has_told : (part : Part) (p : Polyhedron) (point : List ℤ) (holds : Bool) (text : List ℕ) → ReadsPoint p.cons.dim part point → Answers p.cons.list point (Ok holds) → IsTrue holds ↔ In p.cons point → text ≡ answer_line holds → IsPerformed (has part p) (Ok text)
has_told part p point holds text read tested true_of said =
    (has_passes part p point read, record { point = point; read = read.read; holds = record { holds = holds; tested = tested; true_of_point = true_of; said = said } })
