use Rattle.std.proofs.Common.{◌≡◌, ◌≢◌, ◌⊎◌, inl, inr, ℕ, zero, suc, ◌+◌, ◌<◌, Bool, true, false, List, [], ◌∷◌, ◌++◌, length, refl, sym, ap, ◌∙◌, subst, arith, ℤ}
use Rattle.std.specs.Prelude.{slice_index_or, replicate, if◌then◌else◌}
use Rattle.std.proofs.lemmas.List.{get_or_append_left, get_or_push, length_push}
use Rattle.std.proofs.lemmas.Bool.{false≢true}
use Rattle.cone_laws.proofs.ThirdRay.{same_number}
use Rattle.row_core.specs.Content.{IsPrimitiveOf}
use Rattle.row_core.specs.Lists.{Row, row_at}
use Rattle.nnc_enc.specs.Encoding.{lowered}
use Rattle.nnc_enc.specs.StrongRows.{kept_at}
use Rattle.nnc_enc.specs.Decoding.{index_at, Stands, Grew, AreListed, IsNamed, AreKept, Rise}

module _ {K : Type 0} (d : List ℤ × K) (dim : ℕ) where
  pub grew_more : (old cur new : List (List ℤ × K)) (n : ℕ) (row : ℕ → List ℤ) (kind : ℕ → K) (r : List ℤ) (k : K) (stored : List ℤ) → Grew d dim old cur n row kind → r ≡ row n → k ≡ kind n → IsPrimitiveOf (lowered dim r) stored → new ≡ cur ++ (stored, k) ∷ [] → Grew d dim old new (n + 1) row kind
  grew_more old cur new n row kind r k stored g er ek p e = record {
    as_many = ap length e ∙ length_push cur (stored, k) ∙ omega (arith, g.as_many);
    before = λ i h. ap (λ (l : List (List ℤ × K)). slice_index_or l i d) e ∙ get_or_append_left cur ((stored, k) ∷ []) d i (omega (arith, h, g.as_many)) ∙ g.before i h;
    each = λ i h. by_number i h (same_number i n);
  }
    where
      last : slice_index_or new (length old + n) d ≡ (stored, k)
      last = ap (λ (l : List (List ℤ × K)). slice_index_or l (length old + n) d) e ∙ get_or_push cur (stored, k) d (length old + n) g.as_many

      stands : Stands dim (row n) (kind n) (stored, k)
      stands = record { kind = ek; primitive = subst (λ (v : List ℤ). IsPrimitiveOf (lowered dim v) stored) er p }

      by_number : (i : ℕ) → i < n + 1 → (i ≡ n) ⊎ (i ≢ n) → Stands dim (row i) (kind i) (slice_index_or new (length old + i) d)
      by_number i h (inl s) = subst (λ (m : ℕ). Stands dim (row m) (kind m) (slice_index_or new (length old + m) d)) (sym s) (subst (λ (x : List ℤ × K). Stands dim (row n) (kind n) x) (sym last) stands)
      by_number i h (inr ne) = subst (λ (x : List ℤ × K). Stands dim (row i) (kind i) x) (sym (ap (λ (l : List (List ℤ × K)). slice_index_or l (length old + i) d) e ∙ get_or_append_left cur ((stored, k) ∷ []) d (length old + i) (omega (arith, h, ne, g.as_many)))) (g.each i (omega (arith, h, ne)))

  pub listed : (line_kind : K) (ray_kind : List ℤ → K) (lines rays : List Row) (order : List ℕ) (old mid list : List (List ℤ × K)) → old ≡ [] → Grew d dim old mid (length lines) (λ i. row_at lines i) (λ i. line_kind) → Grew d dim mid list (length order) (λ i. row_at rays (index_at order i)) (λ i. ray_kind (row_at rays (index_at order i))) → AreListed d line_kind ray_kind dim lines rays order list
  listed line_kind ray_kind lines rays order old mid list e f g = record {
    as_many = g.as_many ∙ ap (λ (n : ℕ). n + length order) middle;
    line = λ i h. subst (λ (x : List ℤ × K). Stands dim (row_at lines i) line_kind x) (sym (g.before i (omega (arith, h, middle)))) (subst (λ (n : ℕ). Stands dim (row_at lines i) line_kind (slice_index_or mid n d)) (omega (arith, ap length e)) (f.each i h));
    ray = λ i h. subst (λ (n : ℕ). Stands dim (row_at rays (index_at order i)) (ray_kind (row_at rays (index_at order i))) (slice_index_or list (n + i) d)) middle (g.each i h);
  }
    where
      middle : length mid ≡ length lines
      middle = omega (arith, f.as_many, ap length e)

-- ---- the kept indices
pub kept_none : (keep : List Bool) → AreKept keep [] 0
kept_none keep = record { each = λ i h. absurd (omega (arith, h)); all = λ j h k. absurd (omega (arith, h)); once = λ i m h k e. absurd (omega (arith, h)) }

pub kept_skip : (keep : List Bool) (order : List ℕ) (k : ℕ) → AreKept keep order k → kept_at keep k ≡ false → AreKept keep order (k + 1)
kept_skip keep order k a f = record {
  each = λ i h. (omega (arith, (a.each i h).0), (a.each i h).1);
  all = λ j h t. by_number j h t (same_number j k);
  once = a.once;
}
  where
    by_number : (j : ℕ) → j < k + 1 → kept_at keep j ≡ true → (j ≡ k) ⊎ (j ≢ k) → IsNamed order j
    by_number j h t (inl s) = absurd (false≢true (sym f ∙ ap (kept_at keep) (sym s) ∙ t))
    by_number j h t (inr ne) = a.all j (omega (arith, h, ne)) t

pub kept_more : (keep : List Bool) (order new : List ℕ) (k : ℕ) → AreKept keep order k → kept_at keep k ≡ true → new ≡ order ++ k ∷ [] → AreKept keep new (k + 1)
kept_more keep order new k a t e = record { each = each; all = all; once = once }
  where
    size : length new ≡ length order + 1
    size = ap length e ∙ length_push order k

    at_last : index_at new (length order) ≡ k
    at_last = ap (λ (l : List ℕ). index_at l (length order)) e ∙ get_or_push order k 0 (length order) refl

    at_before : (i : ℕ) → i < length order → index_at new i ≡ index_at order i
    at_before i h = ap (λ (l : List ℕ). index_at l i) e ∙ get_or_append_left order (k ∷ []) 0 i h

    each : (i : ℕ) → i < length new → (index_at new i < k + 1) × (kept_at keep (index_at new i) ≡ true)
    each i h = by_number (same_number i (length order))
      where
        by_number : (i ≡ length order) ⊎ (i ≢ length order) → (index_at new i < k + 1) × (kept_at keep (index_at new i) ≡ true)
        by_number (inl s) = subst (λ (m : ℕ). (m < k + 1) × (kept_at keep m ≡ true)) (sym (ap (index_at new) s ∙ at_last)) (omega arith, t)
        by_number (inr ne) =
            let b : i < length order = omega (arith, h, ne, size) in
            subst (λ (m : ℕ). (m < k + 1) × (kept_at keep m ≡ true)) (sym (at_before i b)) (omega (arith, (a.each i b).0), (a.each i b).1)

    all : (j : ℕ) → j < k + 1 → kept_at keep j ≡ true → IsNamed new j
    all j h q = by_number (same_number j k)
      where
        by_number : (j ≡ k) ⊎ (j ≢ k) → IsNamed new j
        by_number (inl s) = record { place = length order; below = omega (arith, size); same = at_last ∙ sym s }
        by_number (inr ne) = (let n = a.all j (omega (arith, h, ne)) q in record { place = n.place; below = omega (arith, n.below, size); same = at_before n.place n.below ∙ n.same })

    once : (i m : ℕ) → i < length new → m < length new → index_at new i ≡ index_at new m → i ≡ m
    once i m h l q = by_numbers (same_number i (length order)) (same_number m (length order))
      where
        by_numbers : (i ≡ length order) ⊎ (i ≢ length order) → (m ≡ length order) ⊎ (m ≢ length order) → i ≡ m
        by_numbers (inl s) (inl u) = s ∙ sym u
        by_numbers (inl s) (inr ne) =
            let b : m < length order = omega (arith, l, ne, size) in
            let z : k ≡ index_at order m = sym (ap (index_at new) s ∙ at_last) ∙ q ∙ at_before m b in
            absurd (omega (arith, z, (a.each m b).0))
        by_numbers (inr ne) (inl u) =
            let b : i < length order = omega (arith, h, ne, size) in
            let z : k ≡ index_at order i = sym (ap (index_at new) u ∙ at_last) ∙ sym q ∙ at_before i b in
            absurd (omega (arith, z, (a.each i b).0))
        by_numbers (inr ne) (inr nu) =
            let b : i < length order = omega (arith, h, ne, size) in
            let d : m < length order = omega (arith, l, nu, size) in
            a.once i m b d (sym (at_before i b) ∙ q ∙ at_before m d)

pub all_true : (n i : ℕ) → i < n → kept_at (replicate n true) i ≡ true
all_true zero i h = absurd (omega (arith, h))
all_true (suc n) zero h = refl
all_true (suc n) (suc i) h = all_true n i (omega (arith, h))

pub kept_step : (keep : List Bool) (order new : List ℕ) (k : ℕ) (b : Bool) → AreKept keep order k → kept_at keep k ≡ b → new ≡ (if b then order ++ k ∷ [] else order) → AreKept keep new (k + 1)
kept_step keep order new k true a t e = kept_more keep order new k a t e
kept_step keep order new k false a f e = subst (λ (o : List ℕ). AreKept keep o (k + 1)) (sym e) (kept_skip keep order k a f)

-- the next index is above those before it
pub rise_step : (keep : List Bool) (order new : List ℕ) (k : ℕ) (b : Bool) → AreKept keep order k → Rise order → new ≡ (if b then order ++ k ∷ [] else order) → Rise new
rise_step keep order new k false a r e = subst Rise (sym e) r
rise_step keep order new k true a r e = λ i m below within. by_number i m below within (same_number m (length order))
  where
    size : length new ≡ length order + 1
    size = ap length e ∙ length_push order k

    at_last : index_at new (length order) ≡ k
    at_last = ap (λ (l : List ℕ). index_at l (length order)) e ∙ get_or_push order k 0 (length order) refl

    at_before : (i : ℕ) → i < length order → index_at new i ≡ index_at order i
    at_before i h = ap (λ (l : List ℕ). index_at l i) e ∙ get_or_append_left order (k ∷ []) 0 i h

    by_number : (i m : ℕ) → i < m → m < length new → (m ≡ length order) ⊎ (m ≢ length order) → index_at new i < index_at new m
    by_number i m below within (inl s) =
        let b : i < length order = omega (arith, below, s) in
        let last : index_at new m ≡ k = ap (index_at new) s ∙ at_last in
        omega (arith, at_before i b, last, (a.each i b).0)
    by_number i m below within (inr ne) =
        let b : m < length order = omega (arith, within, ne, size) in
        omega (arith, at_before i (omega (arith, below, b)), at_before m b, r i m below b)
