use Rattle.std.proofs.Common.{refl, ℕ, subst, sym, List, arith, []}
use Rattle.nnc_enc.specs.StrongRows.{kept_at}
use Rattle.nnc_enc.proofs.DecodeLemmas.{kept_step, rise_step, kept_none}
use Rattle.std.proofs.lemmas.Result.{err_from_is_err_and}
use native.Mathlib.Nat.{le_antisymm}
use Rattle.nnc_enc.specs.Decoding.{AreKept, Rise}
use Rattle.nnc_enc.proofs.decoding.kept.Goals as goal

-- no index is kept
none_rises : Rise []
none_rises i m l h = absurd (omega (arith, h))

pub loop-index-preserved : goal.loop-index-preserved
loop-index-preserved c = record {
  kept = kept_step c.args.keep.now c.loop-index.kept.items c.push_if.new.kept.items c.loop-index.index (kept_at c.args.keep.now c.loop-index.index) c.loop-index.invariant.kept refl c.in_ok-push_if.ensures;
  rising = rise_step c.args.keep.now c.loop-index.kept.items c.push_if.new.kept.items c.loop-index.index (kept_at c.args.keep.now c.loop-index.index) c.loop-index.invariant.kept c.loop-index.invariant.rising c.in_ok-push_if.ensures;
}

pub returns-in_err-kept : goal.returns-in_err-kept
returns-in_err-kept c = let p = err_from_is_err_and c.from_residual.result c.from_residual.ensures.1 in rw p.1 (record { kept = tt; rising = tt })

pub returns-in_err-push_if : goal.returns-in_err-push_if
returns-in_err-push_if c = let p = err_from_is_err_and c.from_residual-in_err-push_if.result c.from_residual-in_err-push_if.ensures.1 in rw p.1 (record { kept = tt; rising = tt })

pub returns-clause-kept : goal.returns-clause-kept
returns-clause-kept c = subst (λ (n : ℕ). AreKept c.args.keep.now c.loop-index.kept.items n) (le_antisymm c.loop-index.auto.index-end c.loop-index-test.false) c.loop-index.invariant.kept

pub loop-index-init : goal.loop-index-init
loop-index-init c = record {
  kept = subst (λ (order : List ℕ). AreKept c.args.keep.now order 0) (sym c.in_ok-kept.ensures.items) (kept_none c.args.keep.now);
  rising = subst Rise (sym c.in_ok-kept.ensures.items) none_rises;
}
