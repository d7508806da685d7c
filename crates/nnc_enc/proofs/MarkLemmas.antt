use Rattle.std.proofs.Common.{◌≡◌, ◌≢◌, ◌⊎◌, inl, inr, ℕ, zero, suc, ◌+◌, ◌<◌, Bool, true, false, List, [], ◌∷◌, ◌++◌, length, refl, sym, ap, ◌∙◌, subst, arith, ℤ, pos}
use Rattle.std.specs.Prelude.{IsTrue, ◌↔◌, not}
use Rattle.std.proofs.lemmas.List.{get_or_append_left, get_or_push, length-map, get_or-map, get_or_past}
use Rattle.std.proofs.lemmas.Bool.{false≢true, cases_lt}
use Rattle.std.proofs.Math.Nat.{eq-or-lt_of_le}
use Rattle.cone_laws.proofs.ThirdRay.{same_number}
use Rattle.cone_laws.proofs.Ring.{same_or_not}
use Rattle.cone_laws.specs.Canon.{vector_at}
use Rattle.row_core.specs.Vectors.{cell}
use Rattle.row_core.specs.Lists.{Row, row_at, vectors}
use Rattle.nnc_enc.specs.StrongRows.{HasVariable, HasNoVariable}
use Rattle.nnc_enc.specs.Marks.{flag}
use Rattle.nnc_enc.specs.Passes.{IsClear}

pub length-vectors : (rows : List Row) → length (vectors rows) ≡ length rows
length-vectors rows = length-map rows (λ (row : Row). row.0)

pub vector_at-vectors : (rows : List Row) (i : ℕ) → vector_at (vectors rows) i ≡ row_at rows i
vector_at-vectors rows i =
    elim (cases_lt i (length rows)) [
      | inl within ↦ get_or-map (λ (row : Row). row.0) rows i ([], false) [] within
      | inr past ↦ get_or_past (vectors rows) i [] (omega (arith, length-vectors rows)) ∙ ap (λ (row : Row). row.0) (sym (get_or_past rows i ([], false) past))
    ]

-- one truth value more
pub told_more : (P : ℕ → Type 0) (marks new : List Bool) (k : ℕ) (b : Bool) → new ≡ marks ++ b ∷ [] → length marks ≡ k → ((i : ℕ) → i < k → IsTrue (flag marks i) ↔ P i) → (IsTrue b ↔ P k) → (i : ℕ) → i < k + 1 → IsTrue (flag new i) ↔ P i
told_more P marks new k b e l f g i h = by_number (same_number i k)
  where
    by_number : (i ≡ k) ⊎ (i ≢ k) → IsTrue (flag new i) ↔ P i
    by_number (inl s) = subst (λ (m : ℕ). IsTrue (flag new m) ↔ P m) (sym s) (subst (λ (c : Bool). IsTrue c ↔ P k) (sym (ap (λ (m : List Bool). flag m k) e ∙ get_or_push marks b false k l)) g)
    by_number (inr d) = subst (λ (c : Bool). IsTrue c ↔ P i) (sym (ap (λ (m : List Bool). flag m i) e ∙ get_or_append_left marks (b ∷ []) false i (omega (arith, h, d, l)))) (f i (omega (arith, h, d)))

pub bool_or_not : (b : Bool) → IsTrue b ⊎ (¬ (IsTrue b))
bool_or_not true = inl refl
bool_or_not false = inr (λ e. false≢true e)

-- some column below k is marked, and the list is true there
pub record IsUnclear (columns bits : List Bool) (k : ℕ) : Type 0 where
  pub column : ℕ
  pub below : column < k
  pub marked : IsTrue (flag columns column)
  pub bit : IsTrue (flag bits column)

pub clear_or_not : (columns bits : List Bool) (k : ℕ) → IsClear columns bits k ⊎ IsUnclear columns bits k
clear_or_not columns bits zero = inl (λ c h. absurd (omega (arith, h)))
clear_or_not columns bits (suc k) = with_last (clear_or_not columns bits k) (bool_or_not (flag columns k)) (bool_or_not (flag bits k))
  where
    longer : IsClear columns bits k → (IsTrue (flag columns k) → ¬ (IsTrue (flag bits k))) → IsClear columns bits (suc k)
    longer f g c h m = by_number (same_number c k)
      where
        by_number : (c ≡ k) ⊎ (c ≢ k) → ¬ (IsTrue (flag bits c))
        by_number (inl s) = λ t. g (subst (λ (n : ℕ). IsTrue (flag columns n)) s m) (subst (λ (n : ℕ). IsTrue (flag bits n)) s t)
        by_number (inr d) = f c (omega (arith, h, d)) m

    with_last : IsClear columns bits k ⊎ IsUnclear columns bits k → IsTrue (flag columns k) ⊎ (¬ (IsTrue (flag columns k))) → IsTrue (flag bits k) ⊎ (¬ (IsTrue (flag bits k))) → IsClear columns bits (suc k) ⊎ IsUnclear columns bits (suc k)
    with_last (inr u) m t = inr (record { column = u.column; below = omega (arith, u.below); marked = u.marked; bit = u.bit })
    with_last (inl f) (inl m) (inl t) = inr (record { column = k; below = omega arith; marked = m; bit = t })
    with_last (inl f) (inl m) (inr n) = inl (longer f (λ m2. n))
    with_last (inl f) (inr n) t = inl (longer f (λ m2. absurd (n m2)))

-- some marked column below k: the first list is true there, and the second isn't
pub record IsUncovered (level first second : List Bool) (k : ℕ) : Type 0 where
  pub column : ℕ
  pub below : column < k
  pub marked : IsTrue (flag level column)
  pub bit : IsTrue (flag first column)
  pub other : ¬ (IsTrue (flag second column))

abbrev pub CoversUpto : List Bool → List Bool → List Bool → ℕ → Type 0
CoversUpto level first second k = (c : ℕ) → c < k → IsTrue (flag level c) → IsTrue (flag first c) → IsTrue (flag second c)

pub covered_or_not : (level first second : List Bool) (k : ℕ) → CoversUpto level first second k ⊎ IsUncovered level first second k
covered_or_not level first second zero = inl (λ c h. absurd (omega (arith, h)))
covered_or_not level first second (suc k) = with_last (covered_or_not level first second k) (bool_or_not (flag level k)) (bool_or_not (flag first k)) (bool_or_not (flag second k))
  where
    longer : CoversUpto level first second k → (IsTrue (flag level k) → IsTrue (flag first k) → IsTrue (flag second k)) → CoversUpto level first second (suc k)
    longer f g c h m t = by_number (same_number c k)
      where
        by_number : (c ≡ k) ⊎ (c ≢ k) → IsTrue (flag second c)
        by_number (inl s) = subst (λ (n : ℕ). IsTrue (flag second n)) (sym s) (g (subst (λ (n : ℕ). IsTrue (flag level n)) s m) (subst (λ (n : ℕ). IsTrue (flag first n)) s t))
        by_number (inr d) = f c (omega (arith, h, d)) m t

    with_last : CoversUpto level first second k ⊎ IsUncovered level first second k → IsTrue (flag level k) ⊎ (¬ (IsTrue (flag level k))) → IsTrue (flag first k) ⊎ (¬ (IsTrue (flag first k))) → IsTrue (flag second k) ⊎ (¬ (IsTrue (flag second k))) → CoversUpto level first second (suc k) ⊎ IsUncovered level first second (suc k)
    with_last (inr u) m t s = inr (record { column = u.column; below = omega (arith, u.below); marked = u.marked; bit = u.bit; other = u.other })
    with_last (inl f) (inl m) (inl t) (inr n) = inr (record { column = k; below = omega arith; marked = m; bit = t; other = n })
    with_last (inl f) (inl m) (inl t) (inl s) = inl (longer f (λ m2 t2. s))
    with_last (inl f) (inl m) (inr n) s = inl (longer f (λ m2 t2. absurd (n t2)))
    with_last (inl f) (inr n) t s = inl (longer f (λ m2 t2. absurd (n m2)))

pub variable_or_not : (a : List ℤ) (n : ℕ) → HasVariable n a ⊎ HasNoVariable n a
variable_or_not a zero = inr (λ j l. absurd (omega (arith, l)))
variable_or_not a (suc n) = with_last (variable_or_not a n) (same_or_not (cell a n) (pos 0))
  where
    with_last : HasVariable n a ⊎ HasNoVariable n a → (cell a n ≡ pos 0) ⊎ (cell a n ≢ pos 0) → HasVariable (suc n) a ⊎ HasNoVariable (suc n) a
    with_last (inl v) e = inl (record { column = v.column; below = omega (arith, v.below); other = v.other })
    with_last (inr z) (inr ne) = inl (record { column = n; below = omega arith; other = ne })
    with_last (inr z) (inl e) = inr (λ j l. by_place j (eq-or-lt_of_le l))
      where
        by_place : (j : ℕ) → (suc j ≡ suc n) ⊎ (suc j < suc n) → cell a j ≡ pos 0
        by_place j (inl q) = subst (λ (m : ℕ). cell a m ≡ pos 0) (omega (arith, q)) e
        by_place j (inr l) = z j (omega (arith, l))

pub told_not : (b : Bool) (P : Type 0) → (IsTrue b ↔ P) → IsTrue (not b) ↔ (¬ P)
told_not true P f = (λ e. absurd (false≢true e), λ n. absurd (n (f.0 refl)))
told_not false P f = (λ e p. false≢true (f.1 p), λ n. refl)
