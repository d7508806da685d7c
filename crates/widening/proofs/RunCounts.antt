-- What runs count.
use Rattle.std.proofs.Common.{ℕ, List, None, refl, inl}
use Rattle.poly_pair.specs.Polyhedra.{Polyhedron}
use Rattle.widening.specs.Runs.{TurnList, start}
use Rattle.widening.specs.RunConversions as counts
use Rattle.widening.specs.RunConversions.{IsRunConversion}

-- no turn is taken
pub no_turn : (turns : TurnList) (initial : List Polyhedron) (delay n : ℕ) → IsRunConversion turns initial delay n n None
no_turn turns initial delay n = record {
  before = start initial delay;
  counted = n;
  rounds = counts.none;
  last = record { index = 0; between = start initial delay; counted = n; round = counts.begins; rest = inl (refl, refl) };
}
