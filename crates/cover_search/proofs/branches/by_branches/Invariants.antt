use Rattle.std.specs.Prelude.{All, ◌∷◌, []}
use Rattle.cover_search.specs.Pieces.{IsPiece, all_still}
use Rattle.cover_search.specs.Conversions.{IsCountedTurn, whole}
use Rattle.cover_search.proofs.TurnLemmas.{AreAllTold}
use Rattle.cover_search.proofs.ConversionLemmas.{AreTurnsTo}
use Rattle.cover_search.proofs.branches.by_branches.Given as goal

abbrev pub invariant-loop-piece : goal.invariant-loop-piece
invariant-loop-piece g l = record {
  pieces : All (IsPiece l.fn.first l.systems) l.pending.items;
  told : AreAllTold l.fn.first l.systems l.pending.items;
  counted : AreTurnsTo (IsCountedTurn l.systems) l.fn.first (whole l.fn.first ∷ []) l.fn.steps l.pending.items l.steps;
}

abbrev pub decreases-loop-piece : goal.decreases-loop-piece
decreases-loop-piece g l = all_still l.systems l.pending.items
