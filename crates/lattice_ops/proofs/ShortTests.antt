-- Tests where the numbers have few bits: no pair is refused, so they come to their answer in any order.
use Rattle.std.proofs.Common.{◌≡◌, ◌⊎◌, inl, inr, ℕ, zero, suc, ◌+◌, ◌<◌, ◌≤◌, List, [], length, Bool, true, false, refl, subst, arith, below_more}
use Rattle.std.specs.Prelude.{◌↔◌, All, Ok, IsTrue}
use Rattle.std.specs.List.{Contains}
use Rattle.std.proofs.lemmas.Bool.{false≢true}
use Rattle.std.proofs.lemmas.List.Elements.{All-contains, All-get_or, All-from_get_or}
use Rattle.row_core.specs.Vectors.{dot}
use Rattle.row_core.specs.Sizes.{AllHaveBits}
use Rattle.row_core.proofs.SizeLemmas.{AllStay-short_dot}
use Rattle.cons_sys.specs.declared.kind.ConKind.TheVariants.{Eq}
use Rattle.cons_sys.specs.Constraints.{Constraint, Constraints, constraint_at, row_at, kind_at, Satisfies, FitDimension as FitConstraints}
use Rattle.cons_sys.proofs.SystemLemmas.{IsConstraint-at}
use Rattle.gens_sys.specs.declared.kind.GenKind.TheVariants.{Line}
use Rattle.gens_sys.specs.Generators.{Generator, Generators, generator_at, FitDimension}
use Rattle.gens_sys.proofs.SystemLemmas.{IsGenerator-at}
use Rattle.set_laws.specs.Asking.{MeetsOn}
use Rattle.set_laws.proofs.Counters.{asks_or_not}
use Rattle.poly_pair.specs.Polyhedra.{Polyhedron, IsKept}
use Rattle.lattice_ops.specs.Questions.{Stays, PassesAll, Fails, Answers}
use Rattle.lattice_ops.proofs.PairAnswers.{fails_by}
use Rattle.lattice_ops.proofs.KeptSets.{valid_met}

-- ---- a polyhedron's own constraints
-- its generators have what these ask
pub own_met : (q : Polyhedron) (cs : Constraints) → IsKept q → FitDimension q.gens → cs ≡ q.cons → (c : Constraint) → Contains cs.list c → All (MeetsOn c) q.gens.list
own_met q cs k fit e c h = valid_met q k fit c (λ v pt w. All-contains (Satisfies v) q.cons.list c w (subst (λ (x : Constraints). Contains x.list c) e h))

-- ---- the range
-- the dot of each pair stays in it
pub pair_stays : (cs : Constraints) (gs : Generators) → FitConstraints cs → FitDimension gs → cs.dim ≡ gs.dim → (a b : ℕ) → AllHaveBits a cs.list → AllHaveBits b gs.list → a + b ≤ 95 → (j i : ℕ) → j < length gs.list → i < length cs.list → Stays cs.list gs.list j i
pair_stays cs gs fit_cs fit_gs e a b left right short j i h l =
    let u = (IsConstraint-at cs i fit_cs l).wide in
    let v = (IsGenerator-at gs j fit_gs h).wide in
    AllStay-short_dot a b (row_at cs.list i) (generator_at gs.list j).0 (omega (arith, u, v, e)) (left i ([], Eq) l) (right j ([], Line) h) (omega (arith, u, fit_cs.narrow)) short

-- ---- the first that fails
-- of n numbers, the first that lacks the property
record FirstToLack (P : ℕ → Type 0) (n : ℕ) : Type 0 where
  index : ℕ
  below : index < n
  before : (i : ℕ) → i < index → P i
  lacks : ¬ (P index)

all_or_first : (P : ℕ → Type 0) → ((i : ℕ) → P i ⊎ ¬ (P i)) → (n : ℕ) → ((i : ℕ) → i < n → P i) ⊎ FirstToLack P n
all_or_first P d zero = inl (λ i h. absurd (omega (arith, h)))
all_or_first P d (suc n) = by (all_or_first P d n) (d n)
  where
    by : ((i : ℕ) → i < n → P i) ⊎ FirstToLack P n → P n ⊎ ¬ (P n) → ((i : ℕ) → i < suc n → P i) ⊎ FirstToLack P (suc n)
    by (inl all) (inl p) = inl (λ i h. below_more P n all p i (omega (arith, h)))
    by (inl all) (inr q) = inr (record { index = n; below = omega arith; before = all; lacks = q })
    by (inr f) d = inr (record { index = f.index; below = omega (arith, f.below); before = f.before; lacks = f.lacks })

module _ (cs : List Constraint) (gs : List Generator) (stays : (j i : ℕ) → j < length gs → i < length cs → Stays cs gs j i) where
  abbrev Meets : ℕ → ℕ → Type 0
  Meets j i = MeetsOn (constraint_at cs i) (generator_at gs j)

  abbrev MeetsEach : ℕ → Type 0
  MeetsEach j = (i : ℕ) → i < length cs → Meets j i

  each_or_first : (j : ℕ) → MeetsEach j ⊎ FirstToLack (Meets j) (length cs)
  each_or_first j = all_or_first (Meets j) (λ i. asks_or_not (kind_at cs i) (generator_at gs j).1 (dot (row_at cs i) (generator_at gs j).0)) (length cs)

  each_or_not : (j : ℕ) → MeetsEach j ⊎ ¬ (MeetsEach j)
  each_or_not j = by (each_or_first j)
    where
      by : MeetsEach j ⊎ FirstToLack (Meets j) (length cs) → MeetsEach j ⊎ ¬ (MeetsEach j)
      by (inl each) = inl each
      by (inr f) = inr (λ each. f.lacks (each f.index f.below))

  passes : (j : ℕ) → j < length gs → MeetsEach j → PassesAll cs gs j
  passes j h each = record { each = λ i l. record { stays = stays j i h l; meets = each i l } }

  -- the first generator that fails, and the first constraint that it fails
  first_pair : FirstToLack MeetsEach (length gs) → (j : ℕ) × (i : ℕ) × Fails cs gs j i
  first_pair f = by (each_or_first f.index)
    where
      by : MeetsEach f.index ⊎ FirstToLack (Meets f.index) (length cs) → (j : ℕ) × (i : ℕ) × Fails cs gs j i
      by (inl each) = absurd (f.lacks each)
      by (inr c) = (
        f.index,
        c.index,
        fails_by cs gs f.index c.index f.below (λ l h. passes l (omega (arith, h, f.below)) (f.before l h)) (record {
          constraint = c.below;
          reached = λ k h. record { stays = stays f.index k f.below (omega (arith, h, c.below)); meets = c.before k h };
          stays = stays f.index c.index f.below c.below;
          fails = c.lacks;
        }),
      )

  -- where each pair stays in the range, a test in any order comes to what one in order answers
  pub answer_in_any_order : (turned b : Bool) → IsTrue b ↔ All (λ c. All (MeetsOn c) gs) cs → Answers cs gs turned (Ok b)
  answer_in_any_order turned true h = λ j l. passes j l (λ i k. All-get_or (MeetsOn (constraint_at cs i)) gs j ([], Line) l (All-get_or (λ c. All (MeetsOn c) gs) cs i ([], Eq) k (h.0 refl)))
  answer_in_any_order turned false h = by (all_or_first MeetsEach each_or_not (length gs))
    where
      by : ((j : ℕ) → j < length gs → MeetsEach j) ⊎ FirstToLack MeetsEach (length gs) → (j : ℕ) × (i : ℕ) × Fails cs gs j i
      by (inl all) = absurd (false≢true (h.1 (All-from_get_or (λ c. All (MeetsOn c) gs) cs ([], Eq) (λ i k. All-from_get_or (MeetsOn (constraint_at cs i)) gs ([], Line) (λ j l. all j l i k)))))
      by (inr f) = first_pair f
