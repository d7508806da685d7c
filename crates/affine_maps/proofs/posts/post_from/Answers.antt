use Rattle.std.proofs.Common.{◌≡◌, ℕ, ◌<◌, ◌≤◌, List, length, inl, inr, refl, sym, ◌∙◌, subst, ap, All, IfOk}
use Rattle.std.proofs.lemmas.Result.{IfOk-weaker, err_from_is_err_and}
use Rattle.poly_pair.specs.declared.topology.Topology.TheVariants.{Closed}
use Rattle.poly_pair.specs.declared.topology.TheConstants.{MAX_DIM}
use Rattle.mapped_systems.specs.Maps.{picked}
use Rattle.affine_maps.specs.Shadows.{IsShadow, IsShadowConversion}
use Rattle.poly_pair.specs.Work.{begun_cons, conv_overflow, overflow_in}
use Rattle.affine_maps.specs.Posts.{IsPost}
use Rattle.affine_maps.specs.PostLists.{later}
use Rattle.affine_maps.proofs.PairSets.{lent_steps, later_many, later_below, successors_of_shadow, turned, turned_pairs, steps_closed, pairs_closed, post_of_steps}
use Rattle.affine_maps.proofs.posts.post_from.Goals as goal

pub shadow_from-requires-clause-kinds : goal.shadow_from-requires-clause-kinds
shadow_from-requires-clause-kinds g c =
    let p = c.args.p.now in
    let relation = c.args.relation.now in
    let pairs = c.in_ok-pairs.pairs in
    let s = lent_steps p.cons relation.cons c.cons.result.now c.cons-2.result.now pairs c.cons.ensures.value c.cons-2.ensures.value c.in_ok-pairs.ensures in
    steps_closed p.cons relation.cons pairs s (pairs_closed p relation (turned p.cons relation.cons pairs s) c.requires.closed c.requires.closed_relation c.cons.ensures.kept c.cons-2.ensures.kept (turned_pairs p.cons relation.cons pairs s))

pub shadow_from-requires-clause-begins : goal.shadow_from-requires-clause-begins
shadow_from-requires-clause-begins g c =
    let s = lent_steps c.args.p.now.cons c.args.relation.now.cons c.cons.result.now c.cons-2.result.now c.in_ok-pairs.pairs c.cons.ensures.value c.cons-2.ensures.value c.in_ok-pairs.ensures in
    record { same_dim = s.same_dim; others = s.front; joined = s.joined }

pub shadow_from-requires-clause-columns : goal.shadow_from-requires-clause-columns
shadow_from-requires-clause-columns g c =
    let s = lent_steps c.args.p.now.cons c.args.relation.now.cons c.cons.result.now c.cons-2.result.now c.in_ok-pairs.pairs c.cons.ensures.value c.cons-2.ensures.value c.in_ok-pairs.ensures in
    let is : c.deref.result.now ≡ later c.args.p.now.cons.dim = c.deref.ensures.value ∙ c.in_ok-columns.ensures ∙ ap later c.dim-2.ensures.value in
    subst (All (λ (j : ℕ). j < c.in_ok-pairs.pairs.dim)) (sym is) (later_below c.args.p.now.cons.dim c.in_ok-pairs.pairs.dim (s.same_dim ∙ c.requires.dim))

pub shadow_from-requires-clause-narrow : goal.shadow_from-requires-clause-narrow
shadow_from-requires-clause-narrow g c =
    let is : c.deref.result.now ≡ later c.args.p.now.cons.dim = c.deref.ensures.value ∙ c.in_ok-columns.ensures ∙ ap later c.dim-2.ensures.value in
    let many : length c.deref.result.now ≡ c.dim-2.result = ap (λ (columns : List ℕ). length columns) is ∙ later_many c.args.p.now.cons.dim ∙ sym c.dim-2.ensures.value in
    subst (λ (n : ℕ). n ≤ MAX_DIM) (sym many) c.dim-2.ensures.narrow

pub returns-clause-points : goal.returns-clause-points
returns-clause-points g c =
    let p = c.args.p.now in
    let relation = c.args.relation.now in
    let pairs = c.in_ok-pairs.pairs in
    let s = lent_steps p.cons relation.cons c.cons.result.now c.cons-2.result.now pairs c.cons.ensures.value c.cons-2.ensures.value c.in_ok-pairs.ensures in
    let is : c.deref.result.now ≡ later p.cons.dim = c.deref.ensures.value ∙ c.in_ok-columns.ensures ∙ ap later c.dim-2.ensures.value in
    IfOk-weaker c.shadow_from.result (IsShadow Closed (picked (later p.cons.dim) pairs.dim) (length (later p.cons.dim)) pairs) (IsPost p relation)
    (λ r shadow. post_of_steps p relation pairs c.requires.dim s r (successors_of_shadow p.cons.dim pairs (s.same_dim ∙ c.requires.dim) r shadow))
    (subst (λ (columns : List ℕ). IfOk c.shadow_from.result (IsShadow Closed (picked columns pairs.dim) (length columns) pairs)) is c.shadow_from.ensures.points)

pub returns-clause-conversion : goal.returns-clause-conversion
returns-clause-conversion g c =
    let p = c.args.p.now in
    let relation = c.args.relation.now in
    let pairs = c.in_ok-pairs.pairs in
    let s = lent_steps p.cons relation.cons c.cons.result.now c.cons-2.result.now pairs c.cons.ensures.value c.cons-2.ensures.value c.in_ok-pairs.ensures in
    let is : c.deref.result.now ≡ later p.cons.dim = c.deref.ensures.value ∙ c.in_ok-columns.ensures ∙ ap later c.dim-2.ensures.value in
    let shown = overflow_in conv_overflow c.shadow_from.result in
    inr (record {
      steps = pairs;
      are_steps = s;
      conversion =
          subst (λ (n : ℕ). IsShadowConversion (begun_cons relation pairs) Closed (picked (later p.cons.dim) pairs.dim) n pairs c.args.steps.now c.shadow_from.new.steps shown) (later_many p.cons.dim)
          (subst (λ (columns : List ℕ). IsShadowConversion (begun_cons relation pairs) Closed (picked columns pairs.dim) (length columns) pairs c.args.steps.now c.shadow_from.new.steps shown) is c.shadow_from.ensures.conversion);
    })

pub returns-in_err-pairs-clause-conversion : goal.returns-in_err-pairs-clause-conversion
returns-in_err-pairs-clause-conversion g c = let p = err_from_is_err_and c.from_residual.result c.from_residual.ensures.1 in rw (p.1, p.2) (inl (refl, refl))

pub returns-in_err-columns-clause-conversion : goal.returns-in_err-columns-clause-conversion
returns-in_err-columns-clause-conversion g c = let p = err_from_is_err_and c.from_residual-in_err-columns.result c.from_residual-in_err-columns.ensures.1 in rw (p.1, p.2) (inl (refl, refl))
