use Rattle.std.proofs.Common.{◌≡◌, inl, inr, ℕ, ◌+◌, ◌<◌, List, length, None, sym, ap, ◌∙◌, subst, arith, All}
use Rattle.std.proofs.lemmas.Result.{IfOk-weaker, IfErr-weaker, err_from_is_err_and}
use Rattle.row_core.specs.declared.errors.ConvErr.{ConvErr}
use Rattle.row_core.specs.declared.errors.ConvErr.TheVariants as conversion
use Rattle.mapped_systems.specs.Maps.{with_zeros, without, remaining, kept_variables}
use Rattle.dimensions.specs.Results.{IsImage, IsPreimage}
use Rattle.row_core.specs.Refusals.{IsOverflowIn}
use Rattle.row_core.proofs.RefusalLemmas.{overflow_weaker}
use Rattle.dimensions.specs.Refusals.{LeavesOnPulled, LeavesOnMapped, IsMappedConversion}
use Rattle.dimensions.specs.PairConversions.{IsEmbeddingConversion}
use Rattle.lattice_ops.specs.Sequences.{IsOneOrNone}
use Rattle.poly_pair.specs.Work.{conv_overflow, overflow_in}
use Rattle.hybrid.proofs.Conversions.{mapped_fewer}
use Rattle.dimensions.proofs.MappedResults.{mapped_clause}
use Rattle.affine_maps.specs.Posts.{IsPost}
use Rattle.hybrid.specs.Steps.{IsEmbedded, behind, LeavesOnMeet, LeavesOnEmbedding}
use Rattle.hybrid.proofs.PostSets.{behind_below, pairs_dim, post_of}
use Rattle.hybrid.proofs.posts.post_of_embedded.Goals as goal

pub remove_dims-requires : goal.remove_dims-requires
remove_dims-requires g c =
    let n = c.args.set.now.cons.dim in
    let is : c.deref.result.now ≡ behind n = c.deref.ensures.value ∙ c.in_ok-vars.ensures ∙ ap behind c.dim-dim.ensures.value in
    let embedded : IsEmbedded c.args.set.now c.in-Ok.embedded = subst (λ (k : ℕ). IsPreimage (without n (n + k)) (n + k) c.args.set.now c.in-Ok.embedded) c.dim-dim.ensures.value c.in-Ok.ensures.points in
    let twice : c.in-Ok-part_in.pairs.cons.dim ≡ n + n = pairs_dim c.args.set.now c.args.relation.now c.in-Ok.embedded c.in-Ok-part_in.pairs c.requires.set c.requires.relation embedded c.in-Ok-part_in.ensures.part in
    subst (All (λ (i : ℕ). i < c.in-Ok-part_in.pairs.cons.dim)) (sym is) (behind_below n c.in-Ok-part_in.pairs.cons.dim (omega (arith, twice)))

pub returns-clause-post : goal.returns-clause-post
returns-clause-post g c = IfOk-weaker c.remove_dims.result (IsImage (remaining c.in-Ok-part_in.pairs.cons.dim c.deref.result.now) (length (kept_variables c.in-Ok-part_in.pairs.cons.dim c.deref.result.now)) c.in-Ok-part_in.pairs) (IsPost c.args.set.now c.args.relation.now)
    (λ post i. post_of c.args.set.now c.args.relation.now c.in-Ok.embedded c.in-Ok-part_in.pairs c.requires.set c.requires.relation embedded c.in-Ok-part_in.ensures.part post (subst (λ (xs : List ℕ). IsImage (remaining c.in-Ok-part_in.pairs.cons.dim xs) (length (kept_variables c.in-Ok-part_in.pairs.cons.dim xs)) c.in-Ok-part_in.pairs post) is i))
    c.remove_dims.ensures.points
  where
    is : c.deref.result.now ≡ behind c.args.set.now.cons.dim
    is = c.deref.ensures.value ∙ c.in_ok-vars.ensures ∙ ap behind c.dim-dim.ensures.value

    embedded : IsEmbedded c.args.set.now c.in-Ok.embedded
    embedded = subst (λ (k : ℕ). IsPreimage (without c.args.set.now.cons.dim (c.args.set.now.cons.dim + k)) (c.args.set.now.cons.dim + k) c.args.set.now c.in-Ok.embedded) c.dim-dim.ensures.value c.in-Ok.ensures.points

pub returns-clause-overflow : goal.returns-clause-overflow
returns-clause-overflow g c = IfErr-weaker c.remove_dims.result (IsOverflowIn (LeavesOnMapped (remaining c.in-Ok-part_in.pairs.cons.dim c.deref.result.now) (length (kept_variables c.in-Ok-part_in.pairs.cons.dim c.deref.result.now)) c.in-Ok-part_in.pairs)) (IsOverflowIn (LeavesOnEmbedding c.args.set.now c.args.relation.now)) by (mapped_clause (remaining c.in-Ok-part_in.pairs.cons.dim c.deref.result.now) (length (kept_variables c.in-Ok-part_in.pairs.cons.dim c.deref.result.now)) c.in-Ok-part_in.pairs c.part_in.new.steps c.remove_dims.new.steps c.remove_dims.result c.remove_dims.ensures.conversion)
  where
    is : c.deref.result.now ≡ behind c.args.set.now.cons.dim
    is = c.deref.ensures.value ∙ c.in_ok-vars.ensures ∙ ap behind c.dim-dim.ensures.value

    embedded : IsEmbedded c.args.set.now c.in-Ok.embedded
    embedded = subst (λ (k : ℕ). IsPreimage (without c.args.set.now.cons.dim (c.args.set.now.cons.dim + k)) (c.args.set.now.cons.dim + k) c.args.set.now c.in-Ok.embedded) c.dim-dim.ensures.value c.in-Ok.ensures.points

    by : (e : ConvErr) → IsOverflowIn (LeavesOnMapped (remaining c.in-Ok-part_in.pairs.cons.dim c.deref.result.now) (length (kept_variables c.in-Ok-part_in.pairs.cons.dim c.deref.result.now)) c.in-Ok-part_in.pairs) e → IsOverflowIn (LeavesOnEmbedding c.args.set.now c.args.relation.now) e
    by (conversion.Overflow over) l = inr (inr (record {
      embedded = c.in-Ok.embedded;
      is_embedded = embedded;
      embedded_kept = c.dim-kept.ensures.kept;
      pairs = c.in-Ok-part_in.pairs;
      are_pairs = c.in-Ok-part_in.ensures.part;
      leaves = subst (λ (xs : List ℕ). LeavesOnMapped (remaining c.in-Ok-part_in.pairs.cons.dim xs) (length (kept_variables c.in-Ok-part_in.pairs.cons.dim xs)) c.in-Ok-part_in.pairs over) is l;
    }))
    by conversion.Memory l = tt

pub returns-in_err-vars : goal.returns-in_err-vars
returns-in_err-vars g c = let p = err_from_is_err_and c.from_residual.result c.from_residual.ensures.1 in rw (p.1, p.2) (record {
  post = tt;
  overflow = tt;
  no_fewer = omega (arith, c.in-Ok.ensures.no_fewer, c.in-Ok-part_in.ensures.conversion.no_fewer);
  conversion = inr (record {
    between = c.embed.new.steps;
    first = subst (λ (k : ℕ). IsOneOrNone (IsEmbeddingConversion k c.args.set.now) c.args.steps.now c.embed.new.steps None) c.dim-dim.ensures.value c.in-Ok.ensures.conversion;
    second = inl (record {
      embedded = c.in-Ok.embedded;
      is_embedded = subst (λ (k : ℕ). IsPreimage (without c.args.set.now.cons.dim (c.args.set.now.cons.dim + k)) (c.args.set.now.cons.dim + k) c.args.set.now c.in-Ok.embedded) c.dim-dim.ensures.value c.in-Ok.ensures.points;
      embedded_kept = c.dim-kept.ensures.kept;
      conversion = c.in-Ok-part_in.ensures.conversion;
    });
  });
})

pub returns-in-Err-clause-overflow : goal.returns-in-Err-clause-overflow
returns-in-Err-clause-overflow g c =
    let set = c.args.set.now in
    let n = set.cons.dim in
    overflow_weaker (LeavesOnPulled (with_zeros n n) (n + n) set) (LeavesOnEmbedding set c.args.relation.now) (λ over l. inl l) c.in-Err.cause
    (subst (λ (k : ℕ). IsOverflowIn (LeavesOnPulled (with_zeros n k) (n + k) set) c.in-Err.cause) c.dim-dim.ensures.value c.in-Err.ensures.overflow)

pub returns-in-Err-part_in-clause-overflow : goal.returns-in-Err-part_in-clause-overflow
returns-in-Err-part_in-clause-overflow g c =
    let n = c.args.set.now.cons.dim in
    let embedded : IsEmbedded c.args.set.now c.in-Ok.embedded = subst (λ (k : ℕ). IsPreimage (without n (n + k)) (n + k) c.args.set.now c.in-Ok.embedded) c.dim-dim.ensures.value c.in-Ok.ensures.points in
    overflow_weaker (LeavesOnMeet c.in-Ok.embedded c.args.relation.now) (LeavesOnEmbedding c.args.set.now c.args.relation.now)
    (λ over l. inr (inl (record { embedded = c.in-Ok.embedded; is_embedded = embedded; embedded_kept = c.dim-kept.ensures.kept; leaves = l }))) c.in-Err-part_in.cause c.in-Err-part_in.ensures.overflow

pub returns-in-Err-clause-conversion : goal.returns-in-Err-clause-conversion
returns-in-Err-clause-conversion g c = inl (subst (λ (k : ℕ). IsOneOrNone (IsEmbeddingConversion k c.args.set.now) c.args.steps.now c.embed.new.steps (conv_overflow c.in-Err.cause)) c.dim-dim.ensures.value c.in-Err.ensures.conversion)

pub returns-in-Err-part_in-clause-conversion : goal.returns-in-Err-part_in-clause-conversion
returns-in-Err-part_in-clause-conversion g c = inr (record {
  between = c.embed.new.steps;
  first = subst (λ (k : ℕ). IsOneOrNone (IsEmbeddingConversion k c.args.set.now) c.args.steps.now c.embed.new.steps None) c.dim-dim.ensures.value c.in-Ok.ensures.conversion;
  second = inl (record {
    embedded = c.in-Ok.embedded;
    is_embedded = subst (λ (k : ℕ). IsPreimage (without c.args.set.now.cons.dim (c.args.set.now.cons.dim + k)) (c.args.set.now.cons.dim + k) c.args.set.now c.in-Ok.embedded) c.dim-dim.ensures.value c.in-Ok.ensures.points;
    embedded_kept = c.dim-kept.ensures.kept;
    conversion = c.in-Err-part_in.ensures.conversion;
  });
})

pub returns-in-Err-part_in-clause-no_fewer : goal.returns-in-Err-part_in-clause-no_fewer
returns-in-Err-part_in-clause-no_fewer g c = omega (arith, c.in-Ok.ensures.no_fewer, c.in-Err-part_in.ensures.conversion.no_fewer)

pub returns-clause-conversion : goal.returns-clause-conversion
returns-clause-conversion g c = inr (record {
  between = c.embed.new.steps;
  first = subst (λ (k : ℕ). IsOneOrNone (IsEmbeddingConversion k c.args.set.now) c.args.steps.now c.embed.new.steps None) c.dim-dim.ensures.value c.in-Ok.ensures.conversion;
  second = inr (record {
    between = c.part_in.new.steps;
    first = record { embedded = c.in-Ok.embedded; is_embedded = embedded; embedded_kept = c.dim-kept.ensures.kept; conversion = c.in-Ok-part_in.ensures.conversion };
    second = record {
      embedded = c.in-Ok.embedded;
      is_embedded = embedded;
      embedded_kept = c.dim-kept.ensures.kept;
      pairs = c.in-Ok-part_in.pairs;
      are_pairs = c.in-Ok-part_in.ensures.part;
      conversion = subst (λ (xs : List ℕ). IsOneOrNone (IsMappedConversion (remaining c.in-Ok-part_in.pairs.cons.dim xs) (length (kept_variables c.in-Ok-part_in.pairs.cons.dim xs)) c.in-Ok-part_in.pairs) c.part_in.new.steps c.remove_dims.new.steps (overflow_in conv_overflow c.remove_dims.result)) is c.remove_dims.ensures.conversion;
    };
  });
})
  where
    is : c.deref.result.now ≡ behind c.args.set.now.cons.dim
    is = c.deref.ensures.value ∙ c.in_ok-vars.ensures ∙ ap behind c.dim-dim.ensures.value

    embedded : IsEmbedded c.args.set.now c.in-Ok.embedded
    embedded = subst (λ (k : ℕ). IsPreimage (without c.args.set.now.cons.dim (c.args.set.now.cons.dim + k)) (c.args.set.now.cons.dim + k) c.args.set.now c.in-Ok.embedded) c.dim-dim.ensures.value c.in-Ok.ensures.points

pub returns-clause-no_fewer : goal.returns-clause-no_fewer
returns-clause-no_fewer g c = omega (arith, c.in-Ok.ensures.no_fewer, c.in-Ok-part_in.ensures.conversion.no_fewer, mapped_fewer (remaining c.in-Ok-part_in.pairs.cons.dim c.deref.result.now) (length (kept_variables c.in-Ok-part_in.pairs.cons.dim c.deref.result.now)) c.in-Ok-part_in.pairs _ _ _ c.remove_dims.ensures.conversion)
