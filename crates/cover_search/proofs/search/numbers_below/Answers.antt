use Rattle.std.proofs.Common.{◌≡◌, ℕ, ◌+◌, ◌<◌, ◌++◌, ◌∷◌, [], List, length, sym, ◌∙◌, subst, ap, arith}
use Rattle.std.specs.Prelude.{All, Contains}
use Rattle.std.proofs.lemmas.List.{length_push}
use Rattle.std.proofs.lemmas.Result.{err_from_is_err_and}
use native.Mathlib.Nat.{le_antisymm}
use Rattle.std.proofs.lemmas.List.Elements.{All-nil, All-push, Contains-append_left, Contains-push}
use Rattle.cover_search.proofs.KeptRows.{upto_next}
use Rattle.cover_search.proofs.search.numbers_below.Goals as goal

pub loop-number-preserved : goal.loop-number-preserved
loop-number-preserved c =
    let items = c.in_ok-push.ensures.items in
    record {
      below = subst (All (λ (i : ℕ). i < c.args.count)) (sym items) (All-push (λ (i : ℕ). i < c.args.count) c.loop-number.numbers.items c.loop-number.number c.loop-number.invariant.below c.loop-number-test.true);
      as_many = ap (λ (xs : List ℕ). length xs) items ∙ length_push c.loop-number.numbers.items c.loop-number.number ∙ ap (λ (n : ℕ). n + 1) c.loop-number.invariant.as_many;
      all = subst (λ (xs : List ℕ). (i : ℕ) → i < c.loop-number.number + 1 → Contains xs i) (sym items)
          (upto_next (λ (i : ℕ). Contains (c.loop-number.numbers.items ++ c.loop-number.number ∷ []) i) c.loop-number.number (λ i b. Contains-append_left c.loop-number.numbers.items (c.loop-number.number ∷ []) i (c.loop-number.invariant.all i b)) (Contains-push c.loop-number.numbers.items c.loop-number.number));
    }

pub loop-number-init : goal.loop-number-init
loop-number-init c = record {
  below = subst (All (λ (i : ℕ). i < c.args.count)) (sym c.new-numbers.ensures.items) (All-nil (λ (i : ℕ). i < c.args.count));
  as_many = ap (λ (xs : List ℕ). length xs) c.new-numbers.ensures.items;
  all = λ i h. absurd (omega (arith, h));
}

pub returns : goal.returns
returns c =
    let end : c.loop-number.number ≡ c.args.count = le_antisymm c.loop-number.auto.number-end c.loop-number-test.false in
    record {
      below = c.loop-number.invariant.below;
      all = λ i h. c.loop-number.invariant.all i (subst (λ (n : ℕ). i < n) (sym end) h);
      as_many = c.loop-number.invariant.as_many ∙ end;
    }

pub returns-in_err-push : goal.returns-in_err-push
returns-in_err-push c = let p = err_from_is_err_and c.from_residual.result c.from_residual.ensures.1 in rw p.1 (record { below = tt; all = tt; as_many = tt })
