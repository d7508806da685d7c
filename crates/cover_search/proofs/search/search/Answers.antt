use Rattle.std.proofs.Common.{◌≡◌, ◌<◌, inl, inr, None, refl, [], ◌∷◌, ◌++◌, sym, ◌∙◌, subst, ap, List, true, false}
use Rattle.std.specs.Prelude.{All, is_some}
use Rattle.std.proofs.lemmas.List.Elements.{All-nil, All-push, All-head}
use Rattle.cover_search.specs.declared.parts.Part.{Part}
use Rattle.cover_search.specs.Parts.{IsPart, all_rows, all_to_come}
use Rattle.cover_search.proofs.InequalityLemmas.{all_left, all_right}
use Rattle.cover_search.proofs.PartLemmas.{AreAllTold, first_part, first_told, own_part, own_dims, turn_parts, turn_told, turn_falls, answered, went_on}
use Rattle.std.proofs.lemmas.Result.{err_from_is_err_and}
use Rattle.cover_search.proofs.ConversionLemmas.{no_free_turns, one_free_turn, free_turns_end, part_counts, found_counts_part}
use Rattle.cover_search.proofs.search.search.Goals as goal

pub loop-part-init : goal.loop-part-init
loop-part-init g c =
    let part : Part = record { region = c.in_ok-region.region; met = c.in_ok-met.met } in
    let items : c.push.new.self.items ≡ [] ++ part ∷ [] = c.in_ok-push.ensures.items ∙ ap (λ (ps : List Part). ps ++ part ∷ []) c.new-pending.ensures.items in
    record {
      parts = subst (All (IsPart c.args.first.now c.args.systems.now)) (sym items) (All-push (IsPart c.args.first.now c.args.systems.now) [] part (All-nil (IsPart c.args.first.now c.args.systems.now)) (first_part c.args.first.now c.args.systems.now part c.in_ok-region.ensures.region c.in_ok-met.ensures.below c.in_ok-met.ensures.all));
      told = first_told c.args.first.now c.args.systems.now part c.push.new.self.items c.in_ok-region.ensures.region items;
      counted = no_free_turns c.args.first.now c.args.systems.now c.args.steps.now part c.push.new.self.items _ c.in_ok-region.ensures.region c.in_ok-met.ensures.as_many items c.in_ok-region.ensures.conversion;
    }

pub settle-requires-clause-dims : goal.settle-requires-clause-dims
settle-requires-clause-dims g c =
    let all : All (IsPart c.args.first.now c.args.systems.now) (c.pop.new.self.items ++ c.in-Some.part ∷ []) = subst (All (IsPart c.args.first.now c.args.systems.now)) c.in-Some.ensures.items c.loop-part.invariant.parts in
    own_dims c.args.first.now c.args.systems.now c.in-Some.part (All-head (IsPart c.args.first.now c.args.systems.now) c.in-Some.part [] (all_right (IsPart c.args.first.now c.args.systems.now) c.pop.new.self.items (c.in-Some.part ∷ []) all)) c.requires.dims

pub settle-requires-clause-part : goal.settle-requires-clause-part
settle-requires-clause-part g c =
    let all : All (IsPart c.args.first.now c.args.systems.now) (c.pop.new.self.items ++ c.in-Some.part ∷ []) = subst (All (IsPart c.args.first.now c.args.systems.now)) c.in-Some.ensures.items c.loop-part.invariant.parts in
    own_part c.args.first.now c.args.systems.now c.in-Some.part (All-head (IsPart c.args.first.now c.args.systems.now) c.in-Some.part [] (all_right (IsPart c.args.first.now c.args.systems.now) c.pop.new.self.items (c.in-Some.part ∷ []) all))

pub loop-part-preserved : goal.loop-part-preserved
loop-part-preserved g c =
    let all : All (IsPart c.args.first.now c.args.systems.now) (c.pop.new.self.items ++ c.in-Some.part ∷ []) = subst (All (IsPart c.args.first.now c.args.systems.now)) c.in-Some.ensures.items c.loop-part.invariant.parts in
    let p = All-head (IsPart c.args.first.now c.args.systems.now) c.in-Some.part [] (all_right (IsPart c.args.first.now c.args.systems.now) c.pop.new.self.items (c.in-Some.part ∷ []) all) in
    let none : is_some c.in_ok-found.found ≡ false = cc in
    let s = went_on c.args.first.now c.args.systems.now c.in-Some.part p c.pop.new.self.items c.settle.new.pending.items c.in_ok-found.found none c.in_ok-found.ensures.settled in
    record {
      parts = turn_parts c.args.first.now c.args.systems.now c.in-Some.part p c.pop.new.self.items c.settle.new.pending.items s (all_left (IsPart c.args.first.now c.args.systems.now) c.pop.new.self.items (c.in-Some.part ∷ []) all);
      told = turn_told c.args.first.now c.args.systems.now c.in-Some.part p c.pop.new.self.items c.settle.new.pending.items s (subst (AreAllTold c.args.first.now c.args.systems.now) c.in-Some.ensures.items c.loop-part.invariant.told);
      counted = one_free_turn c.args.first.now c.args.systems.now c.args.steps.now c.loop-part.pending.items c.pop.new.self.items c.settle.new.pending.items c.in-Some.part _ _ c.loop-part.invariant.counted c.in-Some.ensures.items
          (part_counts c.args.systems.now c.in-Some.part c.pop.new.self.items c.settle.new.pending.items _ _ c.in_ok-found.found none c.in_ok-found.ensures.conversion);
    }

pub loop-part-smaller : goal.loop-part-smaller
loop-part-smaller g c =
    let all : All (IsPart c.args.first.now c.args.systems.now) (c.pop.new.self.items ++ c.in-Some.part ∷ []) = subst (All (IsPart c.args.first.now c.args.systems.now)) c.in-Some.ensures.items c.loop-part.invariant.parts in
    let p = All-head (IsPart c.args.first.now c.args.systems.now) c.in-Some.part [] (all_right (IsPart c.args.first.now c.args.systems.now) c.pop.new.self.items (c.in-Some.part ∷ []) all) in
    let none : is_some c.in_ok-found.found ≡ false = cc in
    let s = went_on c.args.first.now c.args.systems.now c.in-Some.part p c.pop.new.self.items c.settle.new.pending.items c.in_ok-found.found none c.in_ok-found.ensures.settled in
    let falls : all_to_come (all_rows c.args.systems.now) c.settle.new.pending.items < all_to_come (all_rows c.args.systems.now) c.loop-part.pending.items = subst (λ (ps : List Part). all_to_come (all_rows c.args.systems.now) c.settle.new.pending.items < all_to_come (all_rows c.args.systems.now) ps) (sym c.in-Some.ensures.items) (turn_falls c.args.first.now c.args.systems.now c.in-Some.part p c.pop.new.self.items c.settle.new.pending.items s) in
    falls

pub returns-then-is_some-clause-found : goal.returns-then-is_some-clause-found
returns-then-is_some-clause-found g c =
    let all : All (IsPart c.args.first.now c.args.systems.now) (c.pop.new.self.items ++ c.in-Some.part ∷ []) = subst (All (IsPart c.args.first.now c.args.systems.now)) c.in-Some.ensures.items c.loop-part.invariant.parts in
    let p = All-head (IsPart c.args.first.now c.args.systems.now) c.in-Some.part [] (all_right (IsPart c.args.first.now c.args.systems.now) c.pop.new.self.items (c.in-Some.part ∷ []) all) in
    let some : is_some c.in_ok-found.found ≡ true = sym c.is_some.ensures ∙ c.if-is_some.true in
    answered c.args.first.now c.args.systems.now c.in-Some.part p c.pop.new.self.items c.settle.new.pending.items c.in_ok-found.found some c.in_ok-found.ensures.settled

pub returns-in_err-found-clause-found : goal.returns-in_err-found-clause-found
returns-in_err-found-clause-found g c = let p = err_from_is_err_and c.from_residual-in_err-found.result c.from_residual-in_err-found.ensures.1 in rw p.1 tt

pub returns-in_err-met-clause-found : goal.returns-in_err-met-clause-found
returns-in_err-met-clause-found g c = let p = err_from_is_err_and c.from_residual-in_err-met.result c.from_residual-in_err-met.ensures.1 in rw p.1 tt

pub returns-in_err-push-clause-found : goal.returns-in_err-push-clause-found
returns-in_err-push-clause-found g c = let p = err_from_is_err_and c.from_residual-in_err-push.result c.from_residual-in_err-push.ensures.1 in rw p.1 tt

pub returns-in_err-region-clause-found : goal.returns-in_err-region-clause-found
returns-in_err-region-clause-found g c = let p = err_from_is_err_and c.from_residual.result c.from_residual.ensures.1 in rw p.1 tt

pub loop-part-preserved-else-is_some : goal.loop-part-preserved-else-is_some
loop-part-preserved-else-is_some g c =
    let all : All (IsPart c.args.first.now c.args.systems.now) (c.pop.new.self.items ++ c.in-Some.part ∷ []) = subst (All (IsPart c.args.first.now c.args.systems.now)) c.in-Some.ensures.items c.loop-part.invariant.parts in
    let p = All-head (IsPart c.args.first.now c.args.systems.now) c.in-Some.part [] (all_right (IsPart c.args.first.now c.args.systems.now) c.pop.new.self.items (c.in-Some.part ∷ []) all) in
    let none : is_some c.in_ok-found.found ≡ false = sym c.is_some.ensures ∙ c.if-is_some.false in
    let s = went_on c.args.first.now c.args.systems.now c.in-Some.part p c.pop.new.self.items c.settle.new.pending.items c.in_ok-found.found none c.in_ok-found.ensures.settled in
    record {
      parts = turn_parts c.args.first.now c.args.systems.now c.in-Some.part p c.pop.new.self.items c.settle.new.pending.items s (all_left (IsPart c.args.first.now c.args.systems.now) c.pop.new.self.items (c.in-Some.part ∷ []) all);
      told = turn_told c.args.first.now c.args.systems.now c.in-Some.part p c.pop.new.self.items c.settle.new.pending.items s (subst (AreAllTold c.args.first.now c.args.systems.now) c.in-Some.ensures.items c.loop-part.invariant.told);
      counted = one_free_turn c.args.first.now c.args.systems.now c.args.steps.now c.loop-part.pending.items c.pop.new.self.items c.settle.new.pending.items c.in-Some.part _ _ c.loop-part.invariant.counted c.in-Some.ensures.items
          (part_counts c.args.systems.now c.in-Some.part c.pop.new.self.items c.settle.new.pending.items _ _ c.in_ok-found.found none c.in_ok-found.ensures.conversion);
    }

pub returns-in_err-region-clause-conversion : goal.returns-in_err-region-clause-conversion
returns-in_err-region-clause-conversion g c = let p = err_from_is_err_and c.from_residual.result c.from_residual.ensures.1 in rw (p.1, p.2) (inl c.in_err-region.ensures.conversion)

pub returns-in_err-met-clause-conversion : goal.returns-in_err-met-clause-conversion
returns-in_err-met-clause-conversion g c = let p = err_from_is_err_and c.from_residual-in_err-met.result c.from_residual-in_err-met.ensures.1 in rw (p.1, p.2) (inl c.in_ok-region.ensures.conversion)

pub returns-in_err-push-clause-conversion : goal.returns-in_err-push-clause-conversion
returns-in_err-push-clause-conversion g c = let p = err_from_is_err_and c.from_residual-in_err-push.result c.from_residual-in_err-push.ensures.1 in rw (p.1, p.2) (inl c.in_ok-region.ensures.conversion)

pub returns-in_err-found-clause-conversion : goal.returns-in_err-found-clause-conversion
returns-in_err-found-clause-conversion g c =
    let p = err_from_is_err_and c.from_residual-in_err-found.result c.from_residual-in_err-found.ensures.1 in
    rw (p.1, p.2) (inr (free_turns_end c.args.first.now c.args.systems.now c.args.steps.now c.loop-part.pending.items c.loop-part.steps _ _ c.loop-part.invariant.counted
    (inr (record { before = c.pop.new.self.items; taken = c.in-Some.part; is_last = c.in-Some.ensures.items; conversion = c.in_err-found.ensures.conversion }))))

pub returns-then-is_some-clause-conversion : goal.returns-then-is_some-clause-conversion
returns-then-is_some-clause-conversion g c =
    let some : is_some c.in_ok-found.found ≡ true = sym c.is_some.ensures ∙ c.if-is_some.true in
    inr (free_turns_end c.args.first.now c.args.systems.now c.args.steps.now c.loop-part.pending.items c.loop-part.steps _ None c.loop-part.invariant.counted
    (inl (found_counts_part c.args.systems.now c.in-Some.part c.pop.new.self.items c.settle.new.pending.items _ _ c.in_ok-found.found some c.in_ok-found.ensures.conversion, refl)))

pub returns-clause-conversion : goal.returns-clause-conversion
returns-clause-conversion g c = inr (free_turns_end c.args.first.now c.args.systems.now c.args.steps.now c.loop-part.pending.items c.loop-part.steps _ None c.loop-part.invariant.counted (inl (refl, refl)))
