-- Lists of vectors of which some are left out: in descending order still, and put back beside another list.
use Rattle.std.proofs.Common.{◌≡◌, zero, suc, Bool, true, false, cond, List, [], ◌∷◌, filter, remove, ℤ, ◌⊎◌, inl, inr, refl, sym, ap, ◌∙◌, subst, arith}
use Rattle.std.specs.Prelude.{All, Contains}
use Rattle.std.proofs.lemmas.Bool.{false≢true}
use Rattle.std.proofs.lemmas.List.{get_or_default, nil_from_length}
use Rattle.std.proofs.lemmas.List.Elements.{All-head, All-tail, Contains-get_or}
use Rattle.row_core.specs.Lists.{Pointwise, vector_at}
use Rattle.row_core.specs.Orders.{IsGreater}
use Rattle.row_core.proofs.PointwiseLemmas.{pointwise_nil, pointwise_tail, pointwise_cons}
use Rattle.cone_laws.specs.Canon.{IsIrredundant}
use Rattle.cone_laws.specs.Cones.{Spans}
use Rattle.cone_laws.proofs.SortedLists.{IsDescending, IsWithin, Contains-first, Contains-later, Contains-cases, Contains-nil}
use Rattle.std.proofs.lemmas.List.Elements.{All-contains_itself}
use Rattle.stored_systems.proofs.RemovedElements.{all_filter_contained, from_filtered, more_spans}

-- ---- members
pub within_filter : (keep : List ℤ → Bool) (vs : List (List ℤ)) → IsWithin (filter keep vs) vs
within_filter keep vs u (k, l, e) = subst (Contains vs) e (all_filter_contained keep vs k u l)

pub filter_contains : (keep : List ℤ → Bool) (vs : List (List ℤ)) (u : List ℤ) → Contains vs u → keep u ≡ true → Contains (filter keep vs) u
filter_contains keep [] u m e = absurd (Contains-nil u m)
filter_contains keep (v ∷ vs) u m e = by_test (keep v) refl (Contains-cases v u vs m) (λ rest. filter_contains keep vs u rest e)
  where
    by_test : (b : Bool) → keep v ≡ b → (v ≡ u) ⊎ Contains vs u → (Contains vs u → Contains (filter keep vs) u) → Contains (cond b (v ∷ filter keep vs) (filter keep vs)) u
    by_test true t (inl same) later = subst (Contains (v ∷ filter keep vs)) same (Contains-first v (filter keep vs))
    by_test true t (inr rest) later = Contains-later v u (filter keep vs) (later rest)
    by_test false t (inl same) later = absurd (false≢true (sym t ∙ ap keep same ∙ e))
    by_test false t (inr rest) later = later rest

-- ---- order
descending_cons : (v : List ℤ) (ws : List (List ℤ)) → ((u : List ℤ) → Contains ws u → IsGreater v u) → IsDescending ws → IsDescending (v ∷ ws)
descending_cons v ws head d zero zero h l = absurd (omega (arith, h))
descending_cons v ws head d zero (suc k) h l = head (vector_at ws k) (Contains-get_or ws k [] (omega (arith, l)))
descending_cons v ws head d (suc i) zero h l = absurd (omega (arith, h))
descending_cons v ws head d (suc i) (suc k) h l = d i k (omega (arith, h)) (omega (arith, l))

pub descending_filter : (keep : List ℤ → Bool) (vs : List (List ℤ)) → IsDescending vs → IsDescending (filter keep vs)
descending_filter keep [] d = λ i k h l. absurd (omega (arith, l))
descending_filter keep (v ∷ vs) d = by_test (keep v) (descending_filter keep vs (λ i k h l. d (suc i) (suc k) (omega (arith, h)) (omega (arith, l))))
  where
    first : (u : List ℤ) → Contains vs u → IsGreater v u
    first u (k, l, e) = subst (λ (w : List ℤ). IsGreater v w) (get_or_default vs k [] u l ∙ e) (d zero (suc k) (omega arith) (omega (arith, l)))

    by_test : (b : Bool) → IsDescending (filter keep vs) → IsDescending (cond b (v ∷ filter keep vs) (filter keep vs))
    by_test true rest = descending_cons v (filter keep vs) (λ u m. first u (within_filter keep vs u m)) rest
    by_test false rest = rest

-- ---- irredundant rays
pub irredundant_filter : (keep : List ℤ → Bool) (lines rays : List (List ℤ)) → IsIrredundant lines rays → IsIrredundant lines (filter keep rays)
irredundant_filter keep lines rays s k h spanned =
    let f = from_filtered keep rays k h in
    s f.place f.below (subst (λ (v : List ℤ). Spans lines (remove rays f.place) v) (sym f.same) (more_spans lines (remove (filter keep rays) k) lines (remove rays f.place) (vector_at (filter keep rays) k) (All-contains_itself lines) f.others spanned))

-- ---- put back
-- vectors related to all of a list, of which those that are kept are another list
pub record IsRefilled (keep : List ℤ → Bool) (R : List ℤ → List ℤ → Type 0) (xs zs : List (List ℤ)) : Type 0 where
  pub all : List (List ℤ)
  pub related : Pointwise R xs all
  pub kept : filter keep all ≡ zs

module _ (keep : List ℤ → Bool) (R : List ℤ → List ℤ → Type 0) (d : List ℤ) (left_out : keep d ≡ false) (related : (x : List ℤ) → keep x ≡ false → R x d) where
  one_kept : (x z : List ℤ) (xs zs : List (List ℤ)) → keep z ≡ true → R x z → IsRefilled keep R xs zs → IsRefilled keep R (x ∷ xs) (z ∷ zs)
  one_kept x z xs zs t r f = record {
    all = z ∷ f.all;
    related = pointwise_cons R x xs z f.all r f.related;
    kept = ap (λ (b : Bool). cond b (z ∷ filter keep f.all) (filter keep f.all)) t ∙ ap (λ (vs : List (List ℤ)). z ∷ vs) f.kept;
  }

  one_dropped : (x : List ℤ) (xs zs : List (List ℤ)) → keep x ≡ false → IsRefilled keep R xs zs → IsRefilled keep R (x ∷ xs) zs
  one_dropped x xs zs t f = record {
    all = d ∷ f.all;
    related = pointwise_cons R x xs d f.all (related x t) f.related;
    kept = ap (λ (b : Bool). cond b (d ∷ filter keep f.all) (filter keep f.all)) left_out ∙ f.kept;
  }

  pub refilled : (xs zs : List (List ℤ)) → All (λ (z : List ℤ). keep z ≡ true) zs → Pointwise R (filter keep xs) zs → IsRefilled keep R xs zs
  refilled [] zs all p = record { all = []; related = pointwise_nil R; kept = sym (nil_from_length zs p.as_many) }
  refilled (x ∷ xs) zs all p = by_test (keep x) refl zs all p (refilled xs)
    where
      by_list : (zs : List (List ℤ)) → All (λ (z : List ℤ). keep z ≡ true) zs → Pointwise R (x ∷ filter keep xs) zs → ((zs : List (List ℤ)) → All (λ (z : List ℤ). keep z ≡ true) zs → Pointwise R (filter keep xs) zs → IsRefilled keep R xs zs) → IsRefilled keep R (x ∷ xs) zs
      by_list [] all p later = absurd (omega (arith, p.as_many))
      by_list (z ∷ zs) all p later =
          one_kept x z xs zs (All-head (λ (z : List ℤ). keep z ≡ true) z zs all) (p.each 0 x z (omega arith))
          (later zs (All-tail (λ (z : List ℤ). keep z ≡ true) z zs all) (pointwise_tail R x (filter keep xs) z zs p))

      by_test : (b : Bool) → keep x ≡ b → (zs : List (List ℤ)) → All (λ (z : List ℤ). keep z ≡ true) zs → Pointwise R (cond b (x ∷ filter keep xs) (filter keep xs)) zs → ((zs : List (List ℤ)) → All (λ (z : List ℤ). keep z ≡ true) zs → Pointwise R (filter keep xs) zs → IsRefilled keep R xs zs) → IsRefilled keep R (x ∷ xs) zs
      by_test true t zs all p later = by_list zs all p later
      by_test false t zs all p later = one_dropped x xs zs t (later zs all p)
