-- What came of the commands on powersets.
use Rattle.std.proofs.Common.{◌≡◌, ℕ, Bool, IsTrue, List, Ok}
use Rattle.powerset.specs.Powersets.{FinitePowerset}
use Rattle.powerset.specs.Covers.{IsCover}
use Rattle.powerset.specs.declared.covering.Cover.{Cover}
use Rattle.line_values.specs.Order.{Passes}
use Rattle.line_values.specs.Meaning.{room, no_fault}
use Rattle.powerset.specs.Commands.{alike_unions, cover_line, covers}
use Rattle.line_values.specs.Performed.{IsPerformed}

-- two unions that are alike, and a name for which there is room
pub unions_pass : (s t : FinitePowerset) (full : Bool) → s.topology ≡ t.topology → s.dim ≡ t.dim → ¬ (IsTrue full) → Passes (alike_unions s t (room full))
unions_pass s t full topology dim free = (λ k. k, (λ k. k topology, (λ k. k, (λ k. k dim, (λ k. k, (λ k. k, (λ k. k, (λ k. k, (λ k. k, (λ k. k, (λ k. k, (λ k. k, (free, (λ k. k, tt))))))))))))))

pub compared : (s t : FinitePowerset) → s.topology ≡ t.topology → s.dim ≡ t.dim → Passes (alike_unions s t no_fault)
compared s t topology dim = (λ k. k, (λ k. k topology, (λ k. k, (λ k. k dim, (λ k. k, (λ k. k, (λ k. k, (λ k. k, (λ k. k, (λ k. k, (λ k. k, (λ k. k, (λ k. k, (λ k. k, tt))))))))))))))

-- whether the one covers the other was told
pub told : (s t : FinitePowerset) (answer : Cover) (text : List ℕ) → s.topology ≡ t.topology → s.dim ≡ t.dim → IsCover s t answer → text ≡ cover_line s.dim answer → IsPerformed (covers s t) (Ok text)
told s t answer text topology dim true_of said = (compared s t topology dim, record { answer = answer; true_of = true_of; said = said })
