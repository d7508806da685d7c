-- The numbers of a list that are appended to it.
use mir.Val.{bool_byte}
use Rattle.std.specs.Prelude.{Bool, true, false, ◌≡◌, ℕ, ◌+◌, ◌<◌, ◌≤◌, List, [], ◌∷◌, ◌++◌, ◌⊎◌, length, take, slice_set}
use Rattle.std.proofs.Common.{leb, refl, sym, ap, ◌∙◌, subst, arith, inl, inr, get_or}
use Rattle.std.proofs.lemmas.List.{get_or_append_left, get_or_push, length_push, take-append-le, take_all, get_or-take, get_or_default, length-take, take-set, take_more_set}
use Rattle.std.proofs.lemmas.Bool.{cases_lt, leb-false}
use Rattle.sat_matrix.specs.Pairs.{index_at}
use Rattle.sat_matrix.specs.Near.{AreRisingFrom, IsFrom, HasKept}

-- the list after the indices below one were tried
pub record IsKeptUpto (holds : ℕ → Type 0) (start bound upto : ℕ) (old new : List ℕ) : Type 0 where
  pub before : take (length old) new ≡ old
  pub longer : length old ≤ length new
  pub rising : AreRisingFrom (length old) bound new
  pub behind : (j : ℕ) → length old ≤ j → j < length new → (i : ℕ) × (start ≤ i) × (i < upto) × (index_at old i ≡ index_at new j)
  pub all : (i : ℕ) → start ≤ i → i < upto → holds (index_at old i) → IsFrom new (length old) (index_at old i)

-- a number that is read, and was there before
pub read_before : (old new : List ℕ) (i number : ℕ) → i < length old → length old ≤ length new → take (length old) new ≡ old → number ≡ get_or new i number → number ≡ index_at old i
read_before old new i number inside longer e is =
    is ∙ get_or_default new i number 0 (omega (arith, inside, longer)) ∙ sym (get_or-take (length old) new i 0 inside) ∙ ap (λ (list : List ℕ). index_at list i) e

pub read_same : (old new : List ℕ) (i number : ℕ) → i < length old → new ≡ old → number ≡ get_or new i number → number ≡ index_at old i
read_same old new i number inside e is = is ∙ ap (λ (list : List ℕ). get_or list i number) e ∙ get_or_default old i number 0 inside

-- as many as before, at least
pub no_shorter : (old new : List ℕ) → take (length old) new ≡ old → length old ≤ length new
no_shorter old new e = omega (arith, ap length e, length-take (length old) new)

pub kept_none : (holds : ℕ → Type 0) (start bound : ℕ) (old : List ℕ) → IsKeptUpto holds start bound start old old
kept_none holds start bound old = record {
  before = take_all (length old) old (omega arith);
  longer = omega arith;
  rising = record { within = λ i low inside. absurd (omega arith); increasing = λ i j low less inside. absurd (omega arith) };
  behind = λ j low inside. absurd (omega arith);
  all = λ i low less h. absurd (omega arith);
}

module _ (holds : ℕ → Type 0) (start bound upto : ℕ) (old new : List ℕ) (from : start ≤ upto) (inside : upto < length old) (h : IsKeptUpto holds start bound upto old new) where
  -- the number at the next index is appended
  pub kept_push : AreRisingFrom start bound old → IsKeptUpto holds start bound (upto + 1) old (new ++ index_at old upto ∷ [])
  kept_push rising = record {
    before = take-append-le (length old) new (index_at old upto ∷ []) h.longer ∙ h.before;
    longer = omega (arith, h.longer, length_push new (index_at old upto));
    rising = record {
      within = λ j low below. elim (cases_lt j (length new)) [
        | inl less ↦ omega (arith, earlier j less, h.rising.within j low less)
        | inr more ↦ omega (arith, last j (at j below more), rising.within upto from inside)
      ];
      increasing = λ j k low less below. elim (cases_lt k (length new)) [
        | inl inner ↦ omega (arith, earlier j (omega arith), earlier k inner, h.rising.increasing j k low less inner)
        | inr more ↦
            let first : j < length new = omega (arith, at k below more) in
            let f = h.behind j low first in
            omega (arith, earlier j first, last k (at k below more), rising.increasing f.0 upto f.1 f.2 inside, f.3)
      ];
    };
    behind = λ j low below. elim (cases_lt j (length new)) [
      | inl less ↦ let f = h.behind j low less in (f.0, f.1, omega (arith, f.2), f.3 ∙ sym (earlier j less))
      | inr more ↦ (upto, from, omega arith, sym (last j (at j below more)))
    ];
    all = λ i low below is. elim (cases_lt i upto) [
      | inl less ↦ let f = h.all i low less is in (f.0, f.1, omega (arith, f.2, length_push new (index_at old upto)), earlier f.0 f.2 ∙ f.3)
      | inr more ↦ (length new, h.longer, omega (arith, length_push new (index_at old upto)), last (length new) refl ∙ ap (index_at old) (let e : upto ≡ i = omega arith in e))
    ];
  }
    where
      earlier : (j : ℕ) → j < length new → index_at (new ++ index_at old upto ∷ []) j ≡ index_at new j
      earlier j less = get_or_append_left new (index_at old upto ∷ []) 0 j less

      last : (j : ℕ) → length new ≡ j → index_at (new ++ index_at old upto ∷ []) j ≡ index_at old upto
      last j e = get_or_push new (index_at old upto) 0 j e

      at : (j : ℕ) → j < length (new ++ index_at old upto ∷ []) → length new ≤ j → length new ≡ j
      at j below more = omega (arith, length_push new (index_at old upto))

  -- nothing holds for the number at the next index
  pub kept_pass : ¬ (holds (index_at old upto)) → IsKeptUpto holds start bound (upto + 1) old new
  kept_pass none = record {
    before = h.before;
    longer = h.longer;
    rising = h.rising;
    behind = λ j low below. let f = h.behind j low below in (f.0, f.1, omega (arith, f.2), f.3);
    all = λ i low below is. elim (cases_lt i upto) [
      | inl less ↦ h.all i low less is
      | inr more ↦ absurd (none (subst holds (ap (index_at old) (let e : i ≡ upto = omega arith in e)) is))
    ];
  }

pub kept_all : (holds : ℕ → Type 0) (start bound upto : ℕ) (old new : List ℕ) → length old ≤ upto → IsKeptUpto holds start bound upto old new → HasKept holds start bound old new
kept_all holds start bound upto old new end h = record {
  before = h.before;
  rising = h.rising;
  all = λ number f is.
      let g = h.all f.0 f.1 (omega (arith, f.2)) (subst holds (sym f.3) is) in
      (g.0, g.1, g.2, g.3 ∙ f.3);
}

-- the number at the next index is written behind those that are kept, and counts where it is kept
pub kept_written : (holds : ℕ → Type 0) (start bound upto : ℕ) (old xs : List ℕ) (next number more : ℕ) → start ≤ upto → upto < length old → next < length xs → AreRisingFrom start bound old → number ≡ index_at old upto → IsKeptUpto holds start bound upto old (take next xs) →
    (more ≡ 1) ⊎ ((more ≡ 0) × ¬ (holds (index_at old upto))) →
    IsKeptUpto holds start bound (upto + 1) old (take (next + more) (slice_set xs next number))
kept_written holds start bound upto old xs next number more from inside room rising is h (inl one) =
    let K : List ℕ → Type 0 = IsKeptUpto holds start bound (upto + 1) old in
    let all : take (next + more) (slice_set xs next number) ≡ take next xs ++ index_at old upto ∷ [] =
    ap (λ (n : ℕ). take (next + n) (slice_set xs next number)) one ∙ take_more_set xs next number room ∙ ap (λ (n : ℕ). take next xs ++ n ∷ []) is in
    subst K (sym all) (kept_push holds start bound upto old (take next xs) from inside h rising)
kept_written holds start bound upto old xs next number more from inside room rising is h (inr none) =
    let K : List ℕ → Type 0 = IsKeptUpto holds start bound (upto + 1) old in
    let e : next + more ≡ next = omega (arith, none.0) in
    let same : take (next + more) (slice_set xs next number) ≡ take next xs =
    ap (λ (n : ℕ). take n (slice_set xs next number)) e ∙ take-set xs next number in
    subst K (sym same) (kept_pass holds start bound upto old (take next xs) from inside h none.1)

-- whether one number is at most another, as a number
pub one_or_less : (least count n : ℕ) → n ≡ bool_byte (leb least count) → (n ≡ 1) ⊎ ((n ≡ 0) × (count < least))
one_or_less least count n e = by (leb least count) refl e
  where
    by : (b : Bool) → leb least count ≡ b → n ≡ bool_byte b → (n ≡ 1) ⊎ ((n ≡ 0) × (count < least))
    by true is told = inl told
    by false is told = inr (told, leb-false least count is)
