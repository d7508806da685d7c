use Rattle.std.specs.Prelude.{ℕ, ◌<◌, Bool, true, List, length, ◌≡◌}
use Rattle.std.proofs.Common.{ap, sym, subst, ◌∙◌, replicate}
use Rattle.std.proofs.lemmas.List.{length-replicate}
use Rattle.std.proofs.lemmas.Result.{IfOk-weaker}
use Rattle.nnc_enc.specs.Decoding.{index_at, AreKept, AreGeneratorsOf, AreDecodedVectors}
use Rattle.nnc_enc.proofs.DecodeLemmas.{all_true}
use Rattle.nnc_enc.specs.StrongRows.{kept_at}
use Rattle.nnc_enc.proofs.decoding.decoded_vectors.Goals as goal

-- the numbers that are kept of a list of marks that are all true
all_kept : (count n : ℕ) (marks keep : List Bool) (order : List ℕ) → marks ≡ keep → keep ≡ replicate count true → count ≡ n → AreKept marks order (length marks) → AreKept keep order n
all_kept count n marks keep order same all as_many h =
    subst (λ (m : ℕ). AreKept keep order m) (ap (λ (bs : List Bool). length bs) all ∙ length-replicate count true ∙ as_many) (subst (λ (bs : List Bool). AreKept bs order (length bs)) same h)

pub generators_of-requires-clause-within : goal.generators_of-requires-clause-within
generators_of-requires-clause-within c =
    let kept : AreKept c.in_ok-keep.keep.items c.in_ok-order.order.items (length c.args.rays.now.rows) = all_kept c.len.result (length c.args.rays.now.rows) c.deref.result.now c.in_ok-keep.keep.items c.in_ok-order.order.items c.deref.ensures.value c.in_ok-keep.ensures c.len.ensures c.in_ok-order.ensures.kept in
    subst (λ (l : List ℕ). (i : ℕ) → i < length l → index_at l i < length c.args.rays.now.rows) (sym c.deref-2.ensures.value) (λ i h. (kept.each i h).0)

pub returns-clause-list : goal.returns-clause-list
returns-clause-list c =
    let kept : AreKept c.in_ok-keep.keep.items c.in_ok-order.order.items (length c.args.rays.now.rows) = all_kept c.len.result (length c.args.rays.now.rows) c.deref.result.now c.in_ok-keep.keep.items c.in_ok-order.order.items c.deref.ensures.value c.in_ok-keep.ensures c.len.ensures c.in_ok-order.ensures.kept in
    IfOk-weaker c.generators_of.result (λ gens. AreGeneratorsOf c.args.dim c.args.lines.now.rows c.args.rays.now.rows c.deref-2.result.now gens.list) (λ gens. AreDecodedVectors c.args.dim c.args.lines.now.rows c.args.rays.now.rows gens.list)
    (λ gens h. record {
      keep = c.in_ok-keep.keep.items;
      order = c.in_ok-order.order.items;
      all = λ i below. subst (λ (bs : List Bool). kept_at bs i ≡ true) (sym c.in_ok-keep.ensures) (all_true c.len.result i (subst (λ (n : ℕ). i < n) (sym c.len.ensures) below));
      kept = kept;
      rising = c.in_ok-order.ensures.rising;
      listed = subst (λ (l : List ℕ). AreGeneratorsOf c.args.dim c.args.lines.now.rows c.args.rays.now.rows l gens.list) c.deref-2.ensures.value h;
    }) c.generators_of.ensures.list
