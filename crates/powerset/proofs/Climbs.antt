-- An order on finitely many places leads from each place up to one that ends it.
use Rattle.std.proofs.Common.{◌≡◌, ◌≢◌, ◌⊎◌, inl, inr, ℕ, zero, suc, ◌+◌, ◌-◌, ◌<◌, ◌≤◌, List, length, get_or, slice_get, Some, sym, ◌∙◌, subst, arith}
use Rattle.std.specs.Prelude.{Contains}
use Rattle.std.specs.List.{remove, range_with_len}
use Rattle.std.proofs.lemmas.Bool.{cases_lt}
use Rattle.std.proofs.lemmas.Option.{slice_get-get_or}
use Rattle.std.proofs.lemmas.List.Edits.{length-remove, get_or-remove_below, get_or-remove_above}
use Rattle.std.proofs.lemmas.List.FromFn.{get_or-range_with_len, length-range_with_len}
use Rattle.cover_search.proofs.BranchLemmas.{same_at}

-- ---- numbers that are left
at_place : (xs : List ℕ) (x : ℕ) (c : Contains xs x) → slice_get xs c.0 ≡ Some x
at_place xs x c = subst (λ (y : ℕ). slice_get xs c.0 ≡ Some y) c.2 (slice_get-get_or xs c.0 x c.1)

-- a number stays where another is taken out
still_listed : (xs : List ℕ) (x y : ℕ) → x ≢ y → (c : Contains xs x) (d : Contains xs y) → Contains (remove xs d.0) x
still_listed xs x y ne c d = by_case (cases_lt c.0 d.0)
  where
    behind : (m : ℕ) → d.0 ≤ m → m + 1 ≡ c.0 → Contains (remove xs d.0) x
    behind m le e = (m, omega (arith, c.1, length-remove xs d.0 d.1), get_or-remove_above xs d.0 x m le d.1 ∙ subst (λ (k : ℕ). get_or xs k x ≡ x) (sym e) c.2)

    apart : c.0 ≢ d.0
    apart e = ne (same_at xs c.0 d.0 x y e (at_place xs x c) (at_place xs y d))

    later : d.0 ≤ c.0 → d.0 < c.0
    later le = let f : c.0 ≢ d.0 = apart in omega (arith, f)

    by_case : (c.0 < d.0) ⊎ (d.0 ≤ c.0) → Contains (remove xs d.0) x
    by_case (inl l) = (c.0, omega (arith, l, d.1, length-remove xs d.0 d.1), get_or-remove_below xs d.0 x c.0 l d.1 ∙ c.2)
    by_case (inr l) = behind (c.0 - 1) (omega (arith, later l)) (omega (arith, later l))

all_listed : (n j : ℕ) → j < n → Contains (range_with_len 0 n) j
all_listed n j b = (j, omega (arith, b, length-range_with_len 0 n), get_or-range_with_len 0 n j j b ∙ omega arith)

-- ---- climbing
module _ (n : ℕ) (Above : ℕ → ℕ → Type 0) (Held Good : ℕ → Type 0) (through : (i j k : ℕ) → Above j i → Above k j → Above k i) (strict : (i : ℕ) → ¬ (Above i i)) where
  -- a place above that is held too
  abbrev Next : ℕ → Type 0
  Next i = (j : ℕ) × (j < n) × Above j i × Held j

  abbrev Top : Type 0
  Top = (j : ℕ) × (j < n) × Good j

  after : (i : ℕ) → i < n → Good i ⊎ Next i → (Next i → Top) → Top
  after i b (inl g) go = (i, b, g)
  after i b (inr s) go = go s

  fewer : (i : ℕ) (free : List ℕ) (all : (j : ℕ) → j < n → Above j i → Contains free j) (s : Next i) → (j : ℕ) → j < n → Above j s.0 → Contains (remove free (all s.0 s.1 s.2).0) j
  fewer i free all s j b up = still_listed free j s.0 (λ e. strict s.0 (subst (λ (k : ℕ). Above k s.0) e up)) (all j b (through i s.0 j s.2 up)) (all s.0 s.1 s.2)

  climb : ((i : ℕ) → i < n → Held i → Good i ⊎ Next i) → (fuel : ℕ) (free : List ℕ) → length free ≡ fuel → (i : ℕ) → i < n → Held i → ((j : ℕ) → j < n → Above j i → Contains free j) → Top
  climb step zero free e i b h all = after i b (step i b h) (λ s. absurd (omega (arith, (all s.0 s.1 s.2).1, e)))
  climb step (suc fuel) free e i b h all = after i b (step i b h) (λ s. climb step fuel (remove free (all s.0 s.1 s.2).0) (omega (arith, e, length-remove free (all s.0 s.1 s.2).0 (all s.0 s.1 s.2).1)) s.0 s.1 s.3 (fewer i free all s))

  -- where each place that is held is good, or is below one that is held, some place is good
  pub climbs : ((i : ℕ) → i < n → Held i → Good i ⊎ Next i) → (i : ℕ) → i < n → Held i → (j : ℕ) × (j < n) × Good j
  climbs step i b h = climb step n (range_with_len 0 n) (length-range_with_len 0 n) i b h (λ j l up. all_listed n j l)
