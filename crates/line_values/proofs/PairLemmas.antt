-- What came of a test of pairs of rows whose arithmetic left the range.
use Rattle.std.proofs.Common.{◌≡◌, ◌∙◌, Err, Result, Bool, sym, ap}
use Rattle.row_core.specs.declared.errors.Overflow.{Overflow}
use Rattle.row_core.specs.declared.errors.PairOver.{PairOver}
use Rattle.cons_sys.specs.Constraints.{Constraints}
use Rattle.gens_sys.specs.Generators.{Generators}
use Rattle.poly_pair.specs.Polyhedra.{Polyhedron}
use Rattle.line_values.specs.declared.refusal.StepErr.{StepErr}
use Rattle.line_values.specs.declared.refusal.StepErr.TheVariants as err
use Rattle.line_values.specs.Meaning.{Meaning}
use Rattle.line_values.specs.Pairs.{ShowsRows, shown_rows, shown_on, IsRefusalOfPair}
use Rattle.line_values.specs.Performed.{IsPerformed}

-- the rows of a pair, by whose constraint and whose generator it has
pub shows : (Answer : Result Bool PairOver → Type 0) (p q : Polyhedron) (pair : PairOver) (turned : Bool) (over : Overflow) → Answer (Err pair) → pair.turned ≡ turned → over ≡ shown_on turned p q pair → ShowsRows Answer p q over
shows Answer p q pair turned over leaves e shown = record { pair = pair; leaves = leaves; shown = shown ∙ ap (λ (side : Bool). shown_on side p q pair) (sym e) }

-- the rows of a pair were shown, or memory ran out
pub pair_refused : {A : Type 0} (m : Meaning A) (cs : Constraints) (gs : Generators) (pair : PairOver) (e : StepErr) → ((over : Overflow) → over ≡ shown_rows cs gs pair → IsPerformed m (Err (err.Overflow over))) → IsRefusalOfPair cs gs pair e → IsPerformed m (Err e)
pair_refused m cs gs pair (err.Input fault) shown is = absurd is
pair_refused m cs gs pair (err.Overflow over) shown is = shown over is
pair_refused m cs gs pair err.Memory shown is = tt
