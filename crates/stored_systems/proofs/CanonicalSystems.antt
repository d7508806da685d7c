-- Each list has a canonical system.
use Rattle.std.specs.Prelude.{◌≡◌, ◌⊎◌, ℕ, ◌+◌, ⊤, List, [], ◌∷◌, length, ℤ, All, IsPermutation}
use Prim.Native.Nat.{suc, zero}
use Rattle.std.proofs.Common.{inl, inr, sym, ◌∙◌, subst, arith}
use Rattle.std.proofs.lemmas.List.Elements.{All-head, All-tail}
use Rattle.std.proofs.lemmas.List.Sorted.{IsPermutation-refl, IsPermutation-cons, IsPermutation-trans, IsPermutation-insert, All-permutation}
use Rattle.row_core.specs.Lists.{Row}
use Rattle.row_core.specs.Orders.{IsGreater, AreInOrder}
use Rattle.cone_laws.specs.Canon.{Canon, vector_at}
use Rattle.cone_laws.specs.Members.{ConeOf}
use Rattle.cone_laws.specs.SystemLaws.{HasSystem}
use Rattle.row_core.proofs.OrderLemmas.{compare_vectors, IsGreater-self, IsGreater-trans}
use Rattle.cone_laws.proofs.StepExistence.{every_prefix}
use Rattle.cone_laws.proofs.UniqueSystems.{upto_canon_from_sorted, upto_cone}

-- ---- sorted lists
-- the first of the list isn't greater
abbrev StartsBelow : List ℤ → List (List ℤ) → Type 0
StartsBelow u [] = ⊤
StartsBelow u (v ∷ vs) = ¬ (IsGreater v u)

order_starts : (v : List ℤ) (vs : List (List ℤ)) → AreInOrder (v ∷ vs) → StartsBelow v vs
order_starts v [] h = tt
order_starts v (w ∷ vs) h = h zero (omega arith)

order_rest : (v : List ℤ) (vs : List (List ℤ)) → AreInOrder (v ∷ vs) → AreInOrder vs
order_rest v vs h i l =
    let same : suc i + 1 ≡ suc (i + 1) = omega arith in
    subst (λ (k : ℕ). ¬ (IsGreater (vector_at (v ∷ vs) k) (vector_at vs i))) same (h (suc i) (omega (arith, l)))

order_more : (v : List ℤ) (vs : List (List ℤ)) → StartsBelow v vs → AreInOrder vs → AreInOrder (v ∷ vs)
order_more v [] s h i l = absurd (omega (arith, l))
order_more v (w ∷ vs) s h zero l = s
order_more v (w ∷ vs) s h (suc i) l =
    let same : suc (i + 1) ≡ suc i + 1 = omega arith in
    subst (λ (k : ℕ). ¬ (IsGreater (vector_at (v ∷ w ∷ vs) k) (vector_at (w ∷ vs) i))) same (h i (omega (arith, l)))

-- the vector has its place in the list
record IsPlaced (v : List ℤ) (vs : List (List ℤ)) : Type 0 where
  list : List (List ℤ)
  permutation : IsPermutation (v ∷ vs) list
  in_order : AreInOrder list
  starts : (u : List ℤ) → ¬ (IsGreater v u) → StartsBelow u vs → StartsBelow u list

at_front : (v : List ℤ) (vs : List (List ℤ)) → StartsBelow v vs → AreInOrder vs → IsPlaced v vs
at_front v vs s h = record { list = v ∷ vs; permutation = IsPermutation-refl (v ∷ vs); in_order = order_more v vs s h; starts = λ u below starts. below }

behind_first : (v w : List ℤ) (vs : List (List ℤ)) → IsGreater w v → AreInOrder (w ∷ vs) → IsPlaced v vs → IsPlaced v (w ∷ vs)
behind_first v w vs g h r = record {
  list = w ∷ r.list;
  permutation = IsPermutation-trans (v ∷ w ∷ vs) (w ∷ v ∷ vs) (w ∷ r.list) (IsPermutation-insert (w ∷ vs) 1 v) (IsPermutation-cons w (v ∷ vs) r.list r.permutation);
  in_order = order_more w r.list (r.starts w (λ k. IsGreater-self v (IsGreater-trans v w v k g)) (order_starts w vs h)) r.in_order;
  starts = λ u below starts. starts;
}

placed : (width : ℕ) (v : List ℤ) (vs : List (List ℤ)) → length v ≡ width → All (λ w. length w ≡ width) vs → AreInOrder vs → IsPlaced v vs
placed width v [] wide all h = at_front v [] tt h
placed width v (w ∷ vs) wide all h =
    by_order (compare_vectors v w (wide ∙ sym (All-head (λ (u : List ℤ). length u ≡ width) w vs all)))
    (placed width v vs wide (All-tail (λ (u : List ℤ). length u ≡ width) w vs all) (order_rest w vs h))
  where
    by_order : (v ≡ w) ⊎ (IsGreater v w ⊎ IsGreater w v) → IsPlaced v vs → IsPlaced v (w ∷ vs)
    by_order (inl e) rest = at_front v (w ∷ vs) (λ g. IsGreater-self v (subst (λ (u : List ℤ). IsGreater u v) (sym e) g)) h
    by_order (inr (inl g)) rest = at_front v (w ∷ vs) (λ k. IsGreater-self v (IsGreater-trans v w v g k)) h
    by_order (inr (inr g)) rest = behind_first v w vs g h rest

record HasOrder (vs : List (List ℤ)) : Type 0 where
  sorted : List (List ℤ)
  permutation : IsPermutation vs sorted
  in_order : AreInOrder sorted

has_order : (width : ℕ) (vs : List (List ℤ)) → All (λ w. length w ≡ width) vs → HasOrder vs
has_order width [] all = record { sorted = []; permutation = IsPermutation-refl []; in_order = λ i l. absurd (omega (arith, l)) }
has_order width (v ∷ vs) all =
    let wide : List ℤ → Type 0 = λ w. length w ≡ width in
    let rest : HasOrder vs = has_order width vs (All-tail wide v vs all) in
    let place : IsPlaced v rest.sorted = placed width v rest.sorted (All-head wide v vs all) (All-permutation wide vs rest.sorted rest.permutation (All-tail wide v vs all)) rest.in_order in
    record {
      sorted = place.list;
      permutation = IsPermutation-trans (v ∷ vs) (v ∷ rest.sorted) place.list (IsPermutation-cons v vs rest.sorted rest.permutation) place.permutation;
      in_order = place.in_order;
    }

-- ---- canonical systems
pub record HasCanon (width : ℕ) (list : List Row) : Type 0 where
  pub lines : List (List ℤ)
  pub rays : List (List ℤ)
  pub canon : Canon (ConeOf width list) lines rays

pub has_canon : (width : ℕ) (list : List Row) → HasCanon width list
has_canon width list =
    let s : HasSystem width list (length list) = every_prefix width list (length list) (omega arith) in
    let wide : All (λ w. length w ≡ width) s.rays = λ i d h. (upto_cone width list (length list)).wide _ (s.system.generates.rays_within i d h) in
    let order : HasOrder s.rays = has_order width s.rays wide in
    record { lines = s.lines; rays = order.sorted; canon = upto_canon_from_sorted width list (length list) s.lines s.rays order.sorted s.system order.permutation order.in_order }
