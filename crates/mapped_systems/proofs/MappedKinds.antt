-- The kinds and the divisors of mapped generators.
use Rattle.std.proofs.Common.{◌≡◌, ◌≢◌, ◌⊎◌, inl, inr, ℕ, zero, suc, ◌+◌, ◌<◌, List, [], ◌∷◌, length, ℤ, pos, ◌*ℤ◌, ◌<ℤ◌, sym, ap, ◌∙◌, subst, arith, All}
use Rattle.std.proofs.lemmas.Int.{ints}
use Rattle.std.proofs.lemmas.List.Elements.{All-nil, All-cons, All-head, All-tail}
use Rattle.row_core.specs.Vectors.{cell}
use Rattle.cone_laws.proofs.Ring.{mul-positive, mul-zero, by_sign}
use Rattle.gens_sys.specs.Kinds.{HasBadDivisor, IsZeroDirection}
use Rattle.gens_sys.specs.declared.kind.GenKind.{GenKind}
use Rattle.gens_sys.specs.declared.kind.GenKind.TheVariants.{Line, Ray, Point, ClosurePoint}
use Rattle.gens_sys.specs.Generators.{Generator, IsGenerator, kind_at}
use Rattle.stored_systems.specs.PointSets.{IsClosedGenKind}
use Rattle.mapped_systems.specs.MappedLists.{AreMapped, nothing, left_out, kept}
use Rattle.mapped_systems.proofs.LinearMaps.{IsLinearMap}

-- ---- what a mapped vector may be
one_or_above : (x : ℤ) → ¬ (x <ℤ pos 1) → pos 0 <ℤ x
one_or_above x g = by (by_sign x)
  where
    by : (pos 0 <ℤ x) ⊎ ((x <ℤ pos 0) ⊎ (x ≡ pos 0)) → pos 0 <ℤ x
    by (inl p) = p
    by (inr (inl n)) = absurd (g (omega (arith, ints, n)))
    by (inr (inr z)) = absurd (g (omega (arith, ints, z)))

still_above : (t d x : ℤ) → pos 0 <ℤ t → x ≡ t *ℤ d → ¬ (d <ℤ pos 1) → ¬ (x <ℤ pos 1)
still_above t d x p e g h = let m = mul-positive t d p (one_or_above d g) in omega (arith, ints, m, e, h)

still_zero : (t d x : ℤ) → x ≡ t *ℤ d → d ≡ pos 0 → x ≡ pos 0
still_zero t d x e f = e ∙ ap (λ (z : ℤ). t *ℤ z) f ∙ mul-zero t

kept_divisor : (kind : GenKind) (t d x : ℤ) → pos 0 <ℤ t → x ≡ t *ℤ d → ¬ (HasBadDivisor kind d) → ¬ (HasBadDivisor kind x)
kept_divisor Line t d x p e g h = g (λ f. h (still_zero t d x e f))
kept_divisor Ray t d x p e g h = g (λ f. h (still_zero t d x e f))
kept_divisor Point t d x p e g h = still_above t d x p e g h
kept_divisor ClosurePoint t d x p e g h = still_above t d x p e g h

pub mapped_divisor : (dim to : ℕ) (f : List ℤ → List ℤ) → IsLinearMap dim to f → (v : List ℤ) (kind : GenKind) → length v ≡ dim + 1 → ¬ (HasBadDivisor kind (cell v dim)) → ¬ (HasBadDivisor kind (cell (f v) to))
mapped_divisor dim to f lin v kind w g = kept_divisor kind lin.divisor (cell v dim) (cell (f v) to) lin.positive (lin.last v w) g

pub step_divisor : (dim to n : ℕ) (f : List ℤ → List ℤ) → IsLinearMap dim to f → (g : Generator) → IsGenerator dim g → (row : List ℤ) (kind : GenKind) → n ≡ to → row ≡ f g.0 → kind ≡ g.1 → ¬ (HasBadDivisor kind (cell row n))
step_divisor dim to n f lin g is row kind e r k =
    subst (λ (c : GenKind). ¬ (HasBadDivisor c (cell row n))) (sym k)
    (subst (λ (m : ℕ). ¬ (HasBadDivisor g.1 (cell row m))) (sym e)
    (subst (λ (w : List ℤ). ¬ (HasBadDivisor g.1 (cell w to))) (sym r) (mapped_divisor dim to f lin g.0 g.1 is.wide is.divisor)))

pub step_wide : (dim to n : ℕ) (f : List ℤ → List ℤ) → IsLinearMap dim to f → (g : Generator) → IsGenerator dim g → (row : List ℤ) → n ≡ to → row ≡ f g.0 → length row ≡ n + 1
step_wide dim to n f lin g is row e r = let w = lin.wide g.0 is.wide in ap length r ∙ omega (arith, w, e)

-- ---- kinds
-- none of the list is a point
abbrev pub HaveNoPoint : List Generator → Type 0
HaveNoPoint list = (i : ℕ) → i < length list → kind_at list i ≢ Point

module _ (f : List ℤ → List ℤ) where
  abbrev IsClosed : Generator → Type 0
  IsClosed g = IsClosedGenKind g.1

  pub closed_gen_kinds : (old new : List Generator) → AreMapped f old new → All IsClosed old → All IsClosed new
  closed_gen_kinds [] [] nothing h = All-nil IsClosed
  closed_gen_kinds [] (_ ∷ new) a h = elim a [ ]
  closed_gen_kinds (g ∷ old) new (left_out z a) h = closed_gen_kinds old new a (All-tail IsClosed g old h)
  closed_gen_kinds ((v, kind) ∷ old) ((stored, kind2) ∷ new) (kept n p a) h = All-cons IsClosed (stored, kind) new (All-head IsClosed (v, kind) old h) (closed_gen_kinds old new a (All-tail IsClosed (v, kind) old h))

  -- ---- a point is kept
  no_first : (g : Generator) (list : List Generator) → HaveNoPoint (g ∷ list) → HaveNoPoint list
  no_first g list h i l = h (suc i) (omega (arith, l))

  pub none_before : (old new : List Generator) → AreMapped f old new → HaveNoPoint new → HaveNoPoint old
  none_before [] new a h i l e = absurd (omega (arith, l))
  none_before (g ∷ old) new (left_out z a) h zero l e = points_stay g z e
    where
      points_stay : (g : Generator) → IsZeroDirection g.1 (f g.0) → g.1 ≡ Point → ⊥
      points_stay g z e = subst (λ (c : GenKind). IsZeroDirection c (f g.0)) e z
  none_before (g ∷ old) new (left_out z a) h (suc i) l e = none_before old new a h i (omega (arith, l)) e
  none_before ((v, kind) ∷ old) ((stored, kind2) ∷ new) (kept n p a) h zero l e = h 0 (omega arith) e
  none_before ((v, kind) ∷ old) ((stored, kind2) ∷ new) (kept n p a) h (suc i) l e = none_before old new a (no_first (stored, kind) new h) i (omega (arith, l)) e

  pub nothing_new : (new : List Generator) → AreMapped f [] new → ¬ (0 < length new)
  nothing_new [] a l = absurd (omega (arith, l))
  nothing_new (_ ∷ new) a l = elim a [ ]
