use Rattle.std.proofs.Common.{◌≡◌, ℕ, ◌<◌, ◌≤◌, List, length, inl, inr, refl, sym, ◌∙◌, subst, ap, All, IfOk}
use Rattle.std.proofs.lemmas.Result.{IfOk-weaker, err_from_is_err_and}
use Rattle.poly_pair.specs.declared.topology.Topology.TheVariants.{Closed}
use Rattle.poly_pair.specs.declared.topology.TheConstants.{MAX_DIM}
use Rattle.mapped_systems.specs.Maps.{picked}
use Rattle.affine_maps.specs.Shadows.{SpanShadowIfAny}
use Rattle.affine_maps.specs.Posts.{SpanPostIfAny}
use Rattle.affine_maps.specs.PostLists.{later, AreOfStepsIfAny}
use Rattle.affine_maps.proofs.PairSets.{lent_steps, later_many, later_below, turned, turned_pairs, steps_closed, pairs_closed, spans_post, of_steps}
use Rattle.affine_maps.proofs.posts.post_generators.Goals as goal

pub shadow_generators_from-requires-clause-kinds : goal.shadow_generators_from-requires-clause-kinds
shadow_generators_from-requires-clause-kinds g c =
    let p = c.args.p.now in
    let relation = c.args.relation.now in
    let pairs = c.in_ok-pairs.pairs in
    let s = lent_steps p.cons relation.cons c.cons.result.now c.cons-2.result.now pairs c.cons.ensures.value c.cons-2.ensures.value c.in_ok-pairs.ensures in
    steps_closed p.cons relation.cons pairs s (pairs_closed p relation (turned p.cons relation.cons pairs s) c.requires.closed c.requires.closed_relation c.cons.ensures.kept c.cons-2.ensures.kept (turned_pairs p.cons relation.cons pairs s))

pub shadow_generators_from-requires-clause-begins : goal.shadow_generators_from-requires-clause-begins
shadow_generators_from-requires-clause-begins g c =
    let s = lent_steps c.args.p.now.cons c.args.relation.now.cons c.cons.result.now c.cons-2.result.now c.in_ok-pairs.pairs c.cons.ensures.value c.cons-2.ensures.value c.in_ok-pairs.ensures in
    record { same_dim = s.same_dim; others = s.front; joined = s.joined }

pub shadow_generators_from-requires-clause-columns : goal.shadow_generators_from-requires-clause-columns
shadow_generators_from-requires-clause-columns g c =
    let s = lent_steps c.args.p.now.cons c.args.relation.now.cons c.cons.result.now c.cons-2.result.now c.in_ok-pairs.pairs c.cons.ensures.value c.cons-2.ensures.value c.in_ok-pairs.ensures in
    let is : c.deref.result.now ≡ later c.args.p.now.cons.dim = c.deref.ensures.value ∙ c.in_ok-columns.ensures ∙ ap later c.dim-2.ensures.value in
    subst (All (λ (j : ℕ). j < c.in_ok-pairs.pairs.dim)) (sym is) (later_below c.args.p.now.cons.dim c.in_ok-pairs.pairs.dim (s.same_dim ∙ c.requires.dim))

pub shadow_generators_from-requires-clause-narrow : goal.shadow_generators_from-requires-clause-narrow
shadow_generators_from-requires-clause-narrow g c =
    let is : c.deref.result.now ≡ later c.args.p.now.cons.dim = c.deref.ensures.value ∙ c.in_ok-columns.ensures ∙ ap later c.dim-2.ensures.value in
    let many : length c.deref.result.now ≡ c.dim-2.result = ap (λ (columns : List ℕ). length columns) is ∙ later_many c.args.p.now.cons.dim ∙ sym c.dim-2.ensures.value in
    subst (λ (n : ℕ). n ≤ MAX_DIM) (sym many) c.dim-2.ensures.narrow

pub returns-clause-generators : goal.returns-clause-generators
returns-clause-generators g c =
    let p = c.args.p.now in
    let relation = c.args.relation.now in
    let pairs = c.in_ok-pairs.pairs in
    let s = lent_steps p.cons relation.cons c.cons.result.now c.cons-2.result.now pairs c.cons.ensures.value c.cons-2.ensures.value c.in_ok-pairs.ensures in
    let is : c.deref.result.now ≡ later p.cons.dim = c.deref.ensures.value ∙ c.in_ok-columns.ensures ∙ ap later c.dim-2.ensures.value in
    IfOk-weaker c.shadow_generators_from.result (SpanShadowIfAny Closed (picked (later p.cons.dim) pairs.dim) (length (later p.cons.dim)) pairs) (SpanPostIfAny p relation)
    (spans_post p relation pairs c.requires.dim s)
    (subst (λ (columns : List ℕ). IfOk c.shadow_generators_from.result (SpanShadowIfAny Closed (picked columns pairs.dim) (length columns) pairs)) is c.shadow_generators_from.ensures.generators)

pub returns-clause-conversion : goal.returns-clause-conversion
returns-clause-conversion g c =
    let p = c.args.p.now in
    let relation = c.args.relation.now in
    let pairs = c.in_ok-pairs.pairs in
    let s = lent_steps p.cons relation.cons c.cons.result.now c.cons-2.result.now pairs c.cons.ensures.value c.cons-2.ensures.value c.in_ok-pairs.ensures in
    inr (record { steps = pairs; are_steps = s; conversion = c.shadow_generators_from.ensures.conversion })

pub returns-in_err-pairs-clause-conversion : goal.returns-in_err-pairs-clause-conversion
returns-in_err-pairs-clause-conversion g c = let p = err_from_is_err_and c.from_residual.result c.from_residual.ensures.1 in rw (p.1, p.2) (inl (refl, refl))

pub returns-in_err-columns-clause-conversion : goal.returns-in_err-columns-clause-conversion
returns-in_err-columns-clause-conversion g c = let p = err_from_is_err_and c.from_residual-in_err-columns.result c.from_residual-in_err-columns.ensures.1 in rw (p.1, p.2) (inl (refl, refl))

pub returns-clause-system : goal.returns-clause-system
returns-clause-system g c =
    let p = c.args.p.now in
    let relation = c.args.relation.now in
    let pairs = c.in_ok-pairs.pairs in
    let s = lent_steps p.cons relation.cons c.cons.result.now c.cons-2.result.now pairs c.cons.ensures.value c.cons-2.ensures.value c.in_ok-pairs.ensures in
    let is : c.deref.result.now ≡ later p.cons.dim = c.deref.ensures.value ∙ c.in_ok-columns.ensures ∙ ap later c.dim-2.ensures.value in
    IfOk-weaker c.shadow_generators_from.result (SpanShadowIfAny Closed (picked (later p.cons.dim) pairs.dim) (length (later p.cons.dim)) pairs) (AreOfStepsIfAny p relation)
    (of_steps p relation pairs c.requires.dim s)
    (subst (λ (columns : List ℕ). IfOk c.shadow_generators_from.result (SpanShadowIfAny Closed (picked columns pairs.dim) (length columns) pairs)) is c.shadow_generators_from.ensures.generators)
