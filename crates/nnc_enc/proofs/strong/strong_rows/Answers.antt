use Rattle.std.specs.Prelude.{List, ℕ, Bool, length, ◌<◌}
use Rattle.std.proofs.Common.{sym, subst, ◌∙◌}
use Rattle.nnc_enc.specs.Decoding.{index_at, AreKept, AreConstraintsOf}
use Rattle.nnc_enc.specs.Sorting.{IsOrdered, AreStrongRows}
use Rattle.nnc_enc.proofs.MarkLemmas.{length-vectors}
use Rattle.nnc_enc.proofs.OrderLemmas.{within_permutation}
use Rattle.std.proofs.lemmas.Result.{err_from_is_err_and, IfOk-weaker}
use Rattle.nnc_enc.proofs.strong.strong_rows.Goals as goal

pub constraints_of-requires-clause-within : goal.constraints_of-requires-clause-within
constraints_of-requires-clause-within c =
    let kept : AreKept c.in_ok-keep.keep.items c.in_ok-kept.kept.items (length c.args.rays.now.rows) =
    subst (λ (n : ℕ). AreKept c.in_ok-keep.keep.items c.in_ok-kept.kept.items n) (c.in_ok-keep.ensures.as_many ∙ length-vectors c.args.rays.now.rows) (subst (λ (k : List Bool). AreKept k c.in_ok-kept.kept.items (length k)) c.deref.ensures.value c.in_ok-kept.ensures.kept) in
    let ordered : IsOrdered c.args.dim c.args.rays.now.rows c.in_ok-kept.kept.items c.in_ok-order.order.items = subst (λ (l : List ℕ). IsOrdered c.args.dim c.args.rays.now.rows l c.in_ok-order.order.items) c.deref-2.ensures.value c.in_ok-order.ensures in
    subst (λ (l : List ℕ). (i : ℕ) → i < length l → index_at l i < length c.args.rays.now.rows) (sym c.deref-3.ensures) (within_permutation (length c.args.rays.now.rows) c.in_ok-keep.keep.items c.in_ok-kept.kept.items c.in_ok-order.order.items ordered.permutation kept)

pub returns-in_err-keep : goal.returns-in_err-keep
returns-in_err-keep c = let p = err_from_is_err_and c.from_residual.result c.from_residual.ensures.1 in rw p.1 (record { dim = tt; list = tt })

pub returns-in_err-kept : goal.returns-in_err-kept
returns-in_err-kept c = let p = err_from_is_err_and c.from_residual-in_err-kept.result c.from_residual-in_err-kept.ensures.1 in rw p.1 (record { dim = tt; list = tt })

pub returns-in_err-order : goal.returns-in_err-order
returns-in_err-order c = let p = err_from_is_err_and c.from_residual-in_err-order.result c.from_residual-in_err-order.ensures.1 in rw p.1 (record { dim = tt; list = tt })

pub ordered-requires-clause-within : goal.ordered-requires-clause-within
ordered-requires-clause-within c =
    let kept : AreKept c.in_ok-keep.keep.items c.in_ok-kept.kept.items (length c.args.rays.now.rows) =
    subst (λ (n : ℕ). AreKept c.in_ok-keep.keep.items c.in_ok-kept.kept.items n) (c.in_ok-keep.ensures.as_many ∙ length-vectors c.args.rays.now.rows) (subst (λ (k : List Bool). AreKept k c.in_ok-kept.kept.items (length k)) c.deref.ensures.value c.in_ok-kept.ensures.kept) in
    subst (λ (l : List ℕ). (i : ℕ) → i < length l → index_at l i < length c.args.rays.now.rows) (sym c.deref-2.ensures.value) (λ i h. (kept.each i h).0)

pub returns-clause-list : goal.returns-clause-list
returns-clause-list c =
    let kept : AreKept c.in_ok-keep.keep.items c.in_ok-kept.kept.items (length c.args.rays.now.rows) =
    subst (λ (n : ℕ). AreKept c.in_ok-keep.keep.items c.in_ok-kept.kept.items n) (c.in_ok-keep.ensures.as_many ∙ length-vectors c.args.rays.now.rows) (subst (λ (k : List Bool). AreKept k c.in_ok-kept.kept.items (length k)) c.deref.ensures.value c.in_ok-kept.ensures.kept) in
    let ordered : IsOrdered c.args.dim c.args.rays.now.rows c.in_ok-kept.kept.items c.in_ok-order.order.items = subst (λ (l : List ℕ). IsOrdered c.args.dim c.args.rays.now.rows l c.in_ok-order.order.items) c.deref-2.ensures.value c.in_ok-order.ensures in
    IfOk-weaker c.constraints_of.result (λ cons. AreConstraintsOf c.args.dim c.args.lines.now.rows c.args.rays.now.rows c.deref-3.result.now cons.list) (λ cons. AreStrongRows c.args.dim c.args.gens.now.rows c.args.lines.now.rows c.args.rays.now.rows cons.list)
    (λ cons h. record {
      keep = c.in_ok-keep.keep.items;
      kept = c.in_ok-kept.kept.items;
      order = c.in_ok-order.order.items;
      pass = c.in_ok-keep.ensures;
      are_kept = kept;
      ordered = ordered;
      listed = subst (λ (l : List ℕ). AreConstraintsOf c.args.dim c.args.lines.now.rows c.args.rays.now.rows l cons.list) c.deref-3.ensures h;
    }) c.constraints_of.ensures.list
