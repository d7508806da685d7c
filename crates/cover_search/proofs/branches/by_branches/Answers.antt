use Rattle.std.proofs.Common.{◌≡◌, ◌<◌, inl, inr, None, refl, [], ◌∷◌, ◌++◌, sym, ◌∙◌, subst, ap, rules, List, true, false}
use Rattle.std.specs.Prelude.{All, is_some}
use Rattle.std.proofs.lemmas.List.Elements.{All-nil, All-push, All-head}
use Rattle.cons_sys.specs.Constraints.{Constraints}
use Rattle.cover_search.specs.declared.pieces.Piece.{Piece}
use Rattle.row_core.specs.Refusals.{IsOverflowIn}
use Rattle.cover_search.specs.Branches.{LeavesOnBranch}
use Rattle.cover_search.specs.Pieces.{IsPiece, all_still}
use Rattle.cover_search.proofs.InequalityLemmas.{all_left, all_right}
use Rattle.cover_search.proofs.TurnLemmas.{AreAllTold, first_piece, first_told, is_within, turn_pieces, turn_told, turn_falls, turn_leaves, first_leaves, answered, went_on}
use Rattle.std.proofs.lemmas.Result.{err_from_is_err_and}
use Rattle.cover_search.specs.Conversions.{IsCountedTurn, IsTurnConversion, whole}
use Rattle.cover_search.proofs.ConversionLemmas.{no_turns, one_turn, turns_end, turn_counts, found_counts_turn}
use Rattle.cover_search.proofs.branches.by_branches.Goals as goal

pub returns-in_err-region-clause-overflow : goal.returns-in_err-region-clause-overflow
returns-in_err-region-clause-overflow g c = let known : IsOverflowIn (LeavesOnBranch c.args.first.now c.args.systems.now) c.in_err-region.field-0.0 = first_leaves c.args.first.now c.args.systems.now c.in_err-region.field-0.0 c.in_err-region.ensures.overflow in search (rules, known, c.from_residual.ensures)

pub loop-piece-init : goal.loop-piece-init
loop-piece-init g c =
    let items : c.push.new.self.items ≡ [] ++ record { region = c.in_ok-region.region; passed = 0; row = 0 } ∷ [] = c.in_ok-push.ensures.items ∙ ap (λ (ps : List Piece). ps ++ record { region = c.in_ok-region.region; passed = 0; row = 0 } ∷ []) c.new-pending.ensures.items in
    record {
      pieces = subst (All (IsPiece c.args.first.now c.args.systems.now)) (sym items) (All-push (IsPiece c.args.first.now c.args.systems.now) [] (record { region = c.in_ok-region.region; passed = 0; row = 0 }) (All-nil (IsPiece c.args.first.now c.args.systems.now)) (first_piece c.args.first.now c.args.systems.now c.in_ok-region.region c.in_ok-region.ensures.region));
      told = first_told c.args.first.now c.args.systems.now c.in_ok-region.region c.push.new.self.items c.in_ok-region.ensures.region items;
      counted = no_turns (IsCountedTurn c.args.systems.now) (IsTurnConversion c.args.systems.now) c.args.first.now (whole c.args.first.now ∷ []) c.args.steps.now c.push.new.self.items _ (items ∙ ap (λ (cs : Constraints). whole cs ∷ []) c.in_ok-region.ensures.region) c.in_ok-region.ensures.conversion;
    }

pub turn-requires-clause-within : goal.turn-requires-clause-within
turn-requires-clause-within g c =
    let all : All (IsPiece c.args.first.now c.args.systems.now) (c.pop.new.self.items ++ c.in-Some.piece ∷ []) = subst (All (IsPiece c.args.first.now c.args.systems.now)) c.in-Some.ensures.items c.loop-piece.invariant.pieces in
    is_within c.args.first.now c.args.systems.now c.in-Some.piece (All-head (IsPiece c.args.first.now c.args.systems.now) c.in-Some.piece [] (all_right (IsPiece c.args.first.now c.args.systems.now) c.pop.new.self.items (c.in-Some.piece ∷ []) all)) c.requires.dims

pub loop-piece-preserved : goal.loop-piece-preserved
loop-piece-preserved g c =
    let all : All (IsPiece c.args.first.now c.args.systems.now) (c.pop.new.self.items ++ c.in-Some.piece ∷ []) = subst (All (IsPiece c.args.first.now c.args.systems.now)) c.in-Some.ensures.items c.loop-piece.invariant.pieces in
    let p = All-head (IsPiece c.args.first.now c.args.systems.now) c.in-Some.piece [] (all_right (IsPiece c.args.first.now c.args.systems.now) c.pop.new.self.items (c.in-Some.piece ∷ []) all) in
    let none : is_some c.in_ok-found.found ≡ false = cc in
    let t = went_on c.args.first.now c.args.systems.now c.requires.inequalities c.in-Some.piece p c.pop.new.self.items c.turn.new.pending.items c.in_ok-found.found none c.in_ok-found.ensures.turn in
    record {
      pieces = turn_pieces c.args.first.now c.args.systems.now c.in-Some.piece p c.pop.new.self.items c.turn.new.pending.items t (all_left (IsPiece c.args.first.now c.args.systems.now) c.pop.new.self.items (c.in-Some.piece ∷ []) all);
      told = turn_told c.args.first.now c.args.systems.now c.in-Some.piece p c.requires.inequalities c.pop.new.self.items c.turn.new.pending.items t (subst (AreAllTold c.args.first.now c.args.systems.now) c.in-Some.ensures.items c.loop-piece.invariant.told);
      counted = one_turn (IsCountedTurn c.args.systems.now) (IsTurnConversion c.args.systems.now) c.args.first.now (whole c.args.first.now ∷ []) c.args.steps.now c.loop-piece.pending.items c.pop.new.self.items c.turn.new.pending.items c.in-Some.piece _ _ c.loop-piece.invariant.counted c.in-Some.ensures.items
          (turn_counts c.args.systems.now c.in-Some.piece c.pop.new.self.items c.turn.new.pending.items _ _ c.in_ok-found.found none t c.in_ok-found.ensures.conversion);
    }

pub loop-piece-smaller : goal.loop-piece-smaller
loop-piece-smaller g c =
    let all : All (IsPiece c.args.first.now c.args.systems.now) (c.pop.new.self.items ++ c.in-Some.piece ∷ []) = subst (All (IsPiece c.args.first.now c.args.systems.now)) c.in-Some.ensures.items c.loop-piece.invariant.pieces in
    let p = All-head (IsPiece c.args.first.now c.args.systems.now) c.in-Some.piece [] (all_right (IsPiece c.args.first.now c.args.systems.now) c.pop.new.self.items (c.in-Some.piece ∷ []) all) in
    let none : is_some c.in_ok-found.found ≡ false = cc in
    let t = went_on c.args.first.now c.args.systems.now c.requires.inequalities c.in-Some.piece p c.pop.new.self.items c.turn.new.pending.items c.in_ok-found.found none c.in_ok-found.ensures.turn in
    let falls : all_still c.args.systems.now c.turn.new.pending.items < all_still c.args.systems.now c.loop-piece.pending.items = subst (λ (ps : List Piece). all_still c.args.systems.now c.turn.new.pending.items < all_still c.args.systems.now ps) (sym c.in-Some.ensures.items) (turn_falls c.args.first.now c.args.systems.now c.in-Some.piece p c.pop.new.self.items c.turn.new.pending.items t) in
    falls

pub returns-in_err-found-clause-overflow : goal.returns-in_err-found-clause-overflow
returns-in_err-found-clause-overflow g c =
    let all : All (IsPiece c.args.first.now c.args.systems.now) (c.pop.new.self.items ++ c.in-Some.piece ∷ []) = subst (All (IsPiece c.args.first.now c.args.systems.now)) c.in-Some.ensures.items c.loop-piece.invariant.pieces in
    let p = All-head (IsPiece c.args.first.now c.args.systems.now) c.in-Some.piece [] (all_right (IsPiece c.args.first.now c.args.systems.now) c.pop.new.self.items (c.in-Some.piece ∷ []) all) in
    let known : IsOverflowIn (LeavesOnBranch c.args.first.now c.args.systems.now) c.in_err-found.field-0.0 = turn_leaves c.args.first.now c.args.systems.now c.in-Some.piece p c.in_err-found.field-0.0 c.in_err-found.ensures.overflow in
    search (rules, known, c.from_residual-in_err-found.ensures)

pub returns-then-is_some-clause-found : goal.returns-then-is_some-clause-found
returns-then-is_some-clause-found g c =
    let all : All (IsPiece c.args.first.now c.args.systems.now) (c.pop.new.self.items ++ c.in-Some.piece ∷ []) = subst (All (IsPiece c.args.first.now c.args.systems.now)) c.in-Some.ensures.items c.loop-piece.invariant.pieces in
    let p = All-head (IsPiece c.args.first.now c.args.systems.now) c.in-Some.piece [] (all_right (IsPiece c.args.first.now c.args.systems.now) c.pop.new.self.items (c.in-Some.piece ∷ []) all) in
    let some : is_some c.in_ok-found.found ≡ true = sym c.is_some.ensures ∙ c.if-is_some.true in
    answered c.args.first.now c.args.systems.now c.requires.inequalities c.in-Some.piece p c.pop.new.self.items c.turn.new.pending.items c.in_ok-found.found some c.in_ok-found.ensures.turn

pub returns-in_err-found-clause-found : goal.returns-in_err-found-clause-found
returns-in_err-found-clause-found g c = let p = err_from_is_err_and c.from_residual-in_err-found.result c.from_residual-in_err-found.ensures.1 in rw p.1 tt

pub returns-in_err-push-clause-found : goal.returns-in_err-push-clause-found
returns-in_err-push-clause-found g c = let p = err_from_is_err_and c.from_residual-in_err-push.result c.from_residual-in_err-push.ensures.1 in rw p.1 tt

pub returns-in_err-region-clause-found : goal.returns-in_err-region-clause-found
returns-in_err-region-clause-found g c = let p = err_from_is_err_and c.from_residual.result c.from_residual.ensures.1 in rw p.1 tt

pub loop-piece-preserved-else-is_some : goal.loop-piece-preserved-else-is_some
loop-piece-preserved-else-is_some g c =
    let all : All (IsPiece c.args.first.now c.args.systems.now) (c.pop.new.self.items ++ c.in-Some.piece ∷ []) = subst (All (IsPiece c.args.first.now c.args.systems.now)) c.in-Some.ensures.items c.loop-piece.invariant.pieces in
    let p = All-head (IsPiece c.args.first.now c.args.systems.now) c.in-Some.piece [] (all_right (IsPiece c.args.first.now c.args.systems.now) c.pop.new.self.items (c.in-Some.piece ∷ []) all) in
    let none : is_some c.in_ok-found.found ≡ false = sym c.is_some.ensures ∙ c.if-is_some.false in
    let t = went_on c.args.first.now c.args.systems.now c.requires.inequalities c.in-Some.piece p c.pop.new.self.items c.turn.new.pending.items c.in_ok-found.found none c.in_ok-found.ensures.turn in
    record {
      pieces = turn_pieces c.args.first.now c.args.systems.now c.in-Some.piece p c.pop.new.self.items c.turn.new.pending.items t (all_left (IsPiece c.args.first.now c.args.systems.now) c.pop.new.self.items (c.in-Some.piece ∷ []) all);
      told = turn_told c.args.first.now c.args.systems.now c.in-Some.piece p c.requires.inequalities c.pop.new.self.items c.turn.new.pending.items t (subst (AreAllTold c.args.first.now c.args.systems.now) c.in-Some.ensures.items c.loop-piece.invariant.told);
      counted = one_turn (IsCountedTurn c.args.systems.now) (IsTurnConversion c.args.systems.now) c.args.first.now (whole c.args.first.now ∷ []) c.args.steps.now c.loop-piece.pending.items c.pop.new.self.items c.turn.new.pending.items c.in-Some.piece _ _ c.loop-piece.invariant.counted c.in-Some.ensures.items
          (turn_counts c.args.systems.now c.in-Some.piece c.pop.new.self.items c.turn.new.pending.items _ _ c.in_ok-found.found none t c.in_ok-found.ensures.conversion);
    }

pub returns-in_err-region-clause-conversion : goal.returns-in_err-region-clause-conversion
returns-in_err-region-clause-conversion g c = let p = err_from_is_err_and c.from_residual.result c.from_residual.ensures.1 in rw (p.1, p.2) (inl c.in_err-region.ensures.conversion)

pub returns-in_err-push-clause-conversion : goal.returns-in_err-push-clause-conversion
returns-in_err-push-clause-conversion g c = let p = err_from_is_err_and c.from_residual-in_err-push.result c.from_residual-in_err-push.ensures.1 in rw (p.1, p.2) (inl c.in_ok-region.ensures.conversion)

pub returns-in_err-found-clause-conversion : goal.returns-in_err-found-clause-conversion
returns-in_err-found-clause-conversion g c =
    let p = err_from_is_err_and c.from_residual-in_err-found.result c.from_residual-in_err-found.ensures.1 in
    rw (p.1, p.2) (inr (turns_end (IsCountedTurn c.args.systems.now) (IsTurnConversion c.args.systems.now) c.args.first.now (whole c.args.first.now ∷ []) c.args.steps.now c.loop-piece.pending.items c.loop-piece.steps _ _ c.loop-piece.invariant.counted
    (inr (record { before = c.pop.new.self.items; taken = c.in-Some.piece; is_last = c.in-Some.ensures.items; conversion = c.in_err-found.ensures.conversion }))))

pub returns-then-is_some-clause-conversion : goal.returns-then-is_some-clause-conversion
returns-then-is_some-clause-conversion g c =
    let some : is_some c.in_ok-found.found ≡ true = sym c.is_some.ensures ∙ c.if-is_some.true in
    inr (turns_end (IsCountedTurn c.args.systems.now) (IsTurnConversion c.args.systems.now) c.args.first.now (whole c.args.first.now ∷ []) c.args.steps.now c.loop-piece.pending.items c.loop-piece.steps _ None c.loop-piece.invariant.counted
    (inl (found_counts_turn c.args.systems.now c.in-Some.piece c.pop.new.self.items c.turn.new.pending.items _ _ c.in_ok-found.found some c.in_ok-found.ensures.conversion, refl)))

pub returns-clause-conversion : goal.returns-clause-conversion
returns-clause-conversion g c = inr (turns_end (IsCountedTurn c.args.systems.now) (IsTurnConversion c.args.systems.now) c.args.first.now (whole c.args.first.now ∷ []) c.args.steps.now c.loop-piece.pending.items c.loop-piece.steps _ None c.loop-piece.invariant.counted (inl (refl, refl)))
