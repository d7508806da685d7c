use Rattle.grammar.proofs.AvoidedByte.{avoids_sound}
use Rattle.grammar.proofs.laws.avoided_bytes.Goals as goal

pub returns : goal.returns
returns c = avoids_sound
