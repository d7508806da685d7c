-- The best of a list of points, with one generator more.
use Rattle.std.specs.Prelude.{◌≡◌, ◌⊎◌, ℕ, ◌<◌, ◌+◌, List, length, ℤ, pos, ◌<ℤ◌, Bool}
use Rattle.std.proofs.Math.IntN.{◌*ℤ◌}
use Rattle.std.proofs.Common.{arith, sym, refl, subst, inl, inr, below_more}
use Rattle.std.proofs.lemmas.Bool.{cases_order}
use Rattle.row_core.specs.Vectors.{cell, dot}
use Rattle.gens_sys.specs.Kinds.{HasBadDivisor}
use Rattle.gens_sys.specs.Generators.{Generators, row_at, kind_at, FitDimension}
use Rattle.gens_sys.specs.declared.kind.GenKind.{GenKind}
use Rattle.gens_sys.specs.declared.kind.GenKind.TheVariants.{Line, Ray, Point, ClosurePoint}
use Rattle.optimum.specs.Search.{IsPointKind, IsShortOf, IsAtMostOf, Goes, IsBest, NoneYet, Replaces}
use Rattle.set_laws.proofs.Members.{fits_at, one_or_above}
use Rattle.optimum.proofs.Fractions.{most_most, most_short, short_most, most_self, most_same, short_weak, short_not_most, most_if_not, short_if_other}

-- ---- kinds
pub goes_point : (k g : GenKind) (i b : ℕ) → Goes k g i b → IsPointKind k
goes_point Line g i b h = h
goes_point Ray g i b h = h
goes_point Point g i b h = tt
goes_point ClosurePoint g i b h = tt

goes_self : (k : GenKind) (i : ℕ) → Goes k k i i → ⊥
goes_self Line i h = h
goes_self Ray i h = h
goes_self Point i h = omega (arith, h)
goes_self ClosurePoint i h = omega (arith, h)

-- what comes before a later Point comes before a ClosurePoint
goes_over : (k : GenKind) (i n b : ℕ) → Goes k Point i n → Goes k ClosurePoint i b
goes_over Line i n b h = absurd h
goes_over Ray i n b h = absurd h
goes_over Point i n b h = tt
goes_over ClosurePoint i n b h = absurd h

-- one of two points comes before the other
goes_or : (k g : GenKind) (i b : ℕ) → i < b → IsPointKind k → IsPointKind g → Goes k g i b ⊎ Goes g k b i
goes_or Line g i b h p q = absurd p
goes_or Ray g i b h p q = absurd p
goes_or Point Line i b h p q = absurd q
goes_or Point Ray i b h p q = absurd q
goes_or Point Point i b h p q = inl h
goes_or Point ClosurePoint i b h p q = inl tt
goes_or ClosurePoint Line i b h p q = absurd q
goes_or ClosurePoint Ray i b h p q = absurd q
goes_or ClosurePoint Point i b h p q = inr tt
goes_or ClosurePoint ClosurePoint i b h p q = inl h

-- a later generator comes before only as a Point before a ClosurePoint
goes_later : (k g : GenKind) (n b : ℕ) → b < n → Goes k g n b → (k ≡ Point) × (g ≡ ClosurePoint)
goes_later Line g n b l h = absurd h
goes_later Ray g n b l h = absurd h
goes_later Point Line n b l h = absurd h
goes_later Point Ray n b l h = absurd h
goes_later Point Point n b l h = absurd (omega (arith, l, h))
goes_later Point ClosurePoint n b l h = (refl, refl)
goes_later ClosurePoint Line n b l h = absurd h
goes_later ClosurePoint Ray n b l h = absurd h
goes_later ClosurePoint Point n b l h = absurd h
goes_later ClosurePoint ClosurePoint n b l h = absurd (omega (arith, l, h))

module _ (up : Bool) (row : List ℤ) (gs : Generators) (fits : FitDimension gs) where
  pub point_divisor : (i : ℕ) → i < length gs.list → IsPointKind (kind_at gs.list i) → pos 0 <ℤ cell (row_at gs.list i) gs.dim
  point_divisor i h p = by (kind_at gs.list i) refl p
    where
      by : (k : GenKind) → kind_at gs.list i ≡ k → IsPointKind k → pos 0 <ℤ cell (row_at gs.list i) gs.dim
      by Line e q = absurd q
      by Ray e q = absurd q
      by Point e q = one_or_above (cell (row_at gs.list i) gs.dim) (subst (λ (k : GenKind). ¬ (HasBadDivisor k (cell (row_at gs.list i) gs.dim))) e (fits_at gs fits i h).divisor)
      by ClosurePoint e q = one_or_above (cell (row_at gs.list i) gs.dim) (subst (λ (k : GenKind). ¬ (HasBadDivisor k (cell (row_at gs.list i) gs.dim))) e (fits_at gs fits i h).divisor)

  abbrev Best_at : ℕ → ℕ → Type 0
  Best_at n b = IsBest up row gs.dim gs.list n b

  abbrev Short_of : ℕ → ℕ → Type 0
  Short_of i b = IsShortOf up row gs.dim gs.list i b

  abbrev Most_of : ℕ → ℕ → Type 0
  Most_of i b = IsAtMostOf up row gs.dim gs.list i b

  abbrev IsPointAt : ℕ → Type 0
  IsPointAt i = IsPointKind (kind_at gs.list i)

  abbrev value_of : ℕ → ℤ
  value_of i = dot row (row_at gs.list i)

  abbrev divisor_of : ℕ → ℤ
  divisor_of i = cell (row_at gs.list i) gs.dim

  -- no two are the best
  pub best_once : (n a b : ℕ) → Best_at n a → Best_at n b → a ≡ b
  best_once n a b p q =
      elim (cases_order a b) [
        | inl e ↦ e
        | inr (inl less) ↦ absurd (apart a b less p q (goes_or (kind_at gs.list a) (kind_at gs.list b) a b less p.kind q.kind))
        | inr (inr more) ↦ absurd (apart b a more q p (goes_or (kind_at gs.list b) (kind_at gs.list a) b a more q.kind p.kind))
      ]
    where
      apart : (a b : ℕ) → a < b → Best_at n a → Best_at n b → Goes (kind_at gs.list a) (kind_at gs.list b) a b ⊎ Goes (kind_at gs.list b) (kind_at gs.list a) b a → ⊥
      apart a b l p q (inl g) = short_not_most up (value_of a *ℤ divisor_of b) (value_of b *ℤ divisor_of a) (q.first a p.below g) (p.most b q.below q.kind)
      apart a b l p q (inr g) = short_not_most up (value_of b *ℤ divisor_of a) (value_of a *ℤ divisor_of b) (p.first b q.below g) (q.most a p.below p.kind)

  -- the first point
  pub first_best : (n : ℕ) → NoneYet gs.list n → IsPointAt n → Best_at (n + 1) n
  first_best n none p = record {
    below = omega arith;
    kind = p;
    most = below_more (λ i. IsPointAt i → Most_of i n) n (λ i l k. absurd (none i l k)) (λ k. most_self up (value_of n *ℤ divisor_of n));
    first = below_more (λ i. Goes (kind_at gs.list i) (kind_at gs.list n) i n → Short_of i n) n (λ i l g. absurd (none i l (goes_point (kind_at gs.list i) (kind_at gs.list n) i n g))) (λ g. absurd (goes_self (kind_at gs.list n) n g));
  }

  -- the best stays
  pub same_best : (n b : ℕ) → Best_at n b → (IsPointAt n → Most_of n b) → (Goes (kind_at gs.list n) (kind_at gs.list b) n b → Short_of n b) → Best_at (n + 1) b
  same_best n b p m f = record {
    below = omega (arith, p.below);
    kind = p.kind;
    most = below_more (λ i. IsPointAt i → Most_of i b) n p.most m;
    first = below_more (λ i. Goes (kind_at gs.list i) (kind_at gs.list b) i b → Short_of i b) n p.first f;
  }

  module _ (n b : ℕ) (h : n < length gs.list) (p : Best_at n b) (k : IsPointAt n) where
    b_divisor : pos 0 <ℤ divisor_of b
    b_divisor = point_divisor b (omega (arith, p.below, h)) p.kind

    n_divisor : pos 0 <ℤ divisor_of n
    n_divisor = point_divisor n h k

    i_divisor : (i : ℕ) → i < n → IsPointAt i → pos 0 <ℤ divisor_of i
    i_divisor i l q = point_divisor i (omega (arith, l, h)) q

    -- a better point
    better_best : Short_of b n → Best_at (n + 1) n
    better_best s = record {
      below = omega arith;
      kind = k;
      most = below_more (λ i. IsPointAt i → Most_of i n) n (λ i l q. short_weak up (value_of i *ℤ divisor_of n) (value_of n *ℤ divisor_of i) (shorter i l q)) (λ q. most_self up (value_of n *ℤ divisor_of n));
      first = below_more (λ i. Goes (kind_at gs.list i) (kind_at gs.list n) i n → Short_of i n) n (λ i l g. shorter i l (goes_point (kind_at gs.list i) (kind_at gs.list n) i n g)) (λ g. absurd (goes_self (kind_at gs.list n) n g));
    }
      where
        shorter : (i : ℕ) → i < n → IsPointAt i → Short_of i n
        shorter i l q = most_short up (value_of i) (divisor_of i) (value_of b) (divisor_of b) (value_of n) (divisor_of n) (i_divisor i l q) b_divisor n_divisor (p.most i l q) s

    -- a Point in place of a ClosurePoint
    point_best : value_of b *ℤ divisor_of n ≡ value_of n *ℤ divisor_of b → kind_at gs.list n ≡ Point → kind_at gs.list b ≡ ClosurePoint → Best_at (n + 1) n
    point_best e f g = record {
      below = omega arith;
      kind = k;
      most = below_more (λ i. IsPointAt i → Most_of i n) n (λ i l q. most_most up (value_of i) (divisor_of i) (value_of b) (divisor_of b) (value_of n) (divisor_of n) (i_divisor i l q) b_divisor n_divisor (p.most i l q) same) (λ q. most_self up (value_of n *ℤ divisor_of n));
      first = below_more (λ i. Goes (kind_at gs.list i) (kind_at gs.list n) i n → Short_of i n) n shorter (λ w. absurd (goes_self (kind_at gs.list n) n w));
    }
      where
        same : Most_of b n
        same = most_same up (value_of b *ℤ divisor_of n) (value_of n *ℤ divisor_of b) e

        shorter : (i : ℕ) → i < n → Goes (kind_at gs.list i) (kind_at gs.list n) i n → Short_of i n
        shorter i l w =
            short_most up (value_of i) (divisor_of i) (value_of b) (divisor_of b) (value_of n) (divisor_of n) (i_divisor i l (goes_point (kind_at gs.list i) (kind_at gs.list n) i n w)) b_divisor n_divisor
            (p.first i l (subst (λ (x : GenKind). Goes (kind_at gs.list i) x i b) (sym g) (goes_over (kind_at gs.list i) i n b (subst (λ (x : GenKind). Goes (kind_at gs.list i) x i n) f w)))) same

    abbrev Replacing : Type 0
    Replacing = Replaces up (value_of b *ℤ divisor_of n) (value_of n *ℤ divisor_of b) (kind_at gs.list n) (kind_at gs.list b)

    pub replaced_best : Replacing → Best_at (n + 1) n
    replaced_best (inl s) = better_best s
    replaced_best (inr (e, f, g)) = point_best e f g

    pub kept_best : ¬ Replacing → Best_at (n + 1) b
    kept_best r = same_best n b p (λ q. most) (λ g. short_if_other up (value_of n *ℤ divisor_of b) (value_of b *ℤ divisor_of n) most (λ e. other e (goes_later (kind_at gs.list n) (kind_at gs.list b) n b p.below g)))
      where
        most : Most_of n b
        most = most_if_not up (value_of b *ℤ divisor_of n) (value_of n *ℤ divisor_of b) (λ s. r (inl s))

        other : value_of b *ℤ divisor_of n ≡ value_of n *ℤ divisor_of b → (kind_at gs.list n ≡ Point) × (kind_at gs.list b ≡ ClosurePoint) → ⊥
        other e w = r (inr (e, w.0, w.1))
