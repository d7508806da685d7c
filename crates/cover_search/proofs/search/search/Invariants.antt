use Rattle.std.specs.Prelude.{All}
use Rattle.cover_search.specs.Parts.{IsPart, all_to_come, all_rows}
use Rattle.cover_search.proofs.PartLemmas.{AreAllTold}
use Rattle.cover_search.proofs.ConversionLemmas.{AreFreeTurnsTo}
use Rattle.cover_search.proofs.search.search.Given as goal

abbrev pub invariant-loop-part : goal.invariant-loop-part
invariant-loop-part g l = record {
  parts : All (IsPart l.fn.first l.systems) l.pending.items;
  told : AreAllTold l.fn.first l.systems l.pending.items;
  counted : AreFreeTurnsTo l.fn.first l.systems l.fn.steps l.pending.items l.steps;
}

abbrev pub decreases-loop-part : goal.decreases-loop-part
decreases-loop-part g l = all_to_come (all_rows l.systems) l.pending.items
