-- The systems of the two lists of a closed set with a point, from what is stored.
use Rattle.std.proofs.Common.{◌≡◌, ◌≢◌, ◌⊎◌, inl, inr, ℕ, zero, suc, ◌+◌, ◌<◌, List, [], ◌∷◌, ◌++◌, length, map, not, cond, remove, drop, Bool, true, false, ℤ, pos, refl, sym, ap, ◌∙◌, subst, arith, All, get_or}
use Rattle.std.specs.Prelude.{IsPermutation}
use Rattle.std.proofs.lemmas.List.{get_or_default, get_or-drop, length-drop, length-map, length-append, get_or-map, get_or-append-add}
use Rattle.std.proofs.lemmas.List.Elements.{All-nil, All-cons, All-append, All-map, All-from_get_or, filter_passes}
use Rattle.std.proofs.lemmas.List.Sorted.{IsPermutation-remove}
use Rattle.row_core.specs.Vectors.{dot}
use Rattle.row_core.specs.Lists.{Row, row_at, system_rows}
use Rattle.cone_laws.specs.Canon.{vector_at, IsSystem}
use Rattle.cone_laws.specs.Members.{ConeOf}
use Rattle.cone_laws.proofs.Columns.{dot_comm}
use Rattle.cone_laws.proofs.Rearranging.{irredundant_apart, Contains-remove_place, system_rearranged}
use Rattle.cone_laws.proofs.SystemLists.{zero_on_lines}
use Rattle.sat_matrix.specs.Tables.{Table, bits_of, HasThird, IsThird}
use Rattle.sat_matrix.specs.ZeroTables.{TellsZeros, IsZeroTable}
use Rattle.stored_systems.specs.WorkLists.{divisor_row}
use Rattle.stored_systems.specs.StoredForms.{is_divisor_row, AreClosedSystems}
use Rattle.stored_systems.proofs.DivisorRow.{divisor_is, is_divisor, kept_other, dot_divisor}
use Rattle.stored_systems.proofs.StoredPair.{kept_rows}
use Rattle.stored_systems.proofs.RemovedElements.{from_filtered}
use Rattle.stored_systems.proofs.Divisors.{IsFlatOnRays, HasFlatRow, has_flat_row, no_other_flat}

-- ---- places in a list of two parts
pub rest_place : {X : Type 0} (xs ys : List X) (n k : ℕ) (d : X) → length xs ≡ n → get_or (xs ++ ys) (n + k) d ≡ get_or ys k d
rest_place xs ys n k d e = ap (λ (m : ℕ). get_or (xs ++ ys) (m + k) d) (sym e) ∙ get_or-append-add xs ys k d

-- ---- the row of the divisor in a list
-- the row stands in the list at the index
pub record StandsAt (dim : ℕ) (rows : List (List ℤ)) : Type 0 where
  pub index : ℕ
  pub below : index < length rows
  pub same : vector_at rows index ≡ divisor_row dim

abbrev pub IsOther : ℕ → List ℤ → Type 0
IsOther dim r = not (is_divisor_row dim r) ≡ true

later_stands : (dim : ℕ) (r : List ℤ) (rows : List (List ℤ)) → StandsAt dim rows → StandsAt dim (r ∷ rows)
later_stands dim r rows s = record { index = suc s.index; below = omega (arith, s.below); same = s.same }

pub stands_or_not : (dim : ℕ) (rows : List (List ℤ)) → StandsAt dim rows ⊎ All (IsOther dim) rows
stands_or_not dim [] = inr (All-nil (IsOther dim))
stands_or_not dim (r ∷ rows) = by_first (is_divisor_row dim r) refl (stands_or_not dim rows)
  where
    by_first : (b : Bool) → is_divisor_row dim r ≡ b → StandsAt dim rows ⊎ All (IsOther dim) rows → StandsAt dim (r ∷ rows) ⊎ All (IsOther dim) (r ∷ rows)
    by_first true e rest = inl (record { index = 0; below = omega arith; same = divisor_is dim r e })
    by_first false e (inl s) = inl (later_stands dim r rows s)
    by_first false e (inr h) = inr (All-cons (IsOther dim) r rows (ap not e) h)

kept_first : (dim : ℕ) (r : List ℤ) (rows : List (List ℤ)) (b : Bool) → not (is_divisor_row dim r) ≡ b → kept_rows dim (r ∷ rows) ≡ cond b (r ∷ kept_rows dim rows) (kept_rows dim rows)
kept_first dim r rows b e = ap (λ (x : Bool). cond x (r ∷ kept_rows dim rows) (kept_rows dim rows)) e

-- a list without that row is kept whole
pub kept_all : (dim : ℕ) (rows : List (List ℤ)) → All (IsOther dim) rows → kept_rows dim rows ≡ rows
kept_all dim [] h = refl
kept_all dim (r ∷ rows) h = kept_first dim r rows true (h 0 [] (omega arith)) ∙ ap (λ xs. r ∷ xs) (kept_all dim rows (λ i d l. h (suc i) d (omega (arith, l))))

-- what is kept of a list doesn't change where that row is taken out
pub kept_removed : (dim : ℕ) (rows : List (List ℤ)) (i : ℕ) → i < length rows → vector_at rows i ≡ divisor_row dim → kept_rows dim rows ≡ kept_rows dim (remove rows i)
kept_removed dim [] i h e = absurd (omega (arith, h))
kept_removed dim (r ∷ rows) zero h e = kept_first dim r rows false (ap not (ap (is_divisor_row dim) e ∙ is_divisor dim))
kept_removed dim (r ∷ rows) (suc i) h e = ap (λ xs. cond (not (is_divisor_row dim r)) (r ∷ xs) xs) (kept_removed dim rows i (omega (arith, h)) e)

other_row : (dim : ℕ) (r : List ℤ) → r ≢ divisor_row dim → IsOther dim r
other_row dim r ne = by_test (is_divisor_row dim r) refl
  where
    by_test : (b : Bool) → is_divisor_row dim r ≡ b → not (is_divisor_row dim r) ≡ true
    by_test true e = absurd (ne (divisor_is dim r e))
    by_test false e = ap not e

module _ (dim : ℕ) (lines rays equalities inequalities : List (List ℤ)) (pair : AreClosedSystems dim lines rays equalities inequalities) where
  abbrev e : List ℤ
  e = divisor_row dim

  abbrev kept : List (List ℤ)
  kept = kept_rows dim inequalities

  abbrev list : List Row
  list = system_rows lines rays

  abbrev Sys : List (List ℤ) → Type 0
  Sys more = IsSystem (ConeOf (dim + 1) (system_rows lines rays)) equalities more

  system : IsSystem (ConeOf (dim + 1) (system_rows lines rays)) equalities inequalities
  system = pair.dual.rows.system

  -- ---- where it is among the inequalities
  module _ (s : StandsAt dim inequalities) where
    apart : (i : ℕ) → i < length inequalities → i ≢ s.index → vector_at inequalities i ≢ divisor_row dim
    apart i h ne f = irredundant_apart equalities inequalities system.irredundant i s.index h s.below ne (f ∙ sym s.same)

    removed_other : All (IsOther dim) (remove inequalities s.index)
    removed_other = All-from_get_or (IsOther dim) (remove inequalities s.index) [] (λ k l. by_place k (Contains-remove_place inequalities s.index (get_or (remove inequalities s.index) k []) [] s.below (k, l, get_or_default (remove inequalities s.index) k (get_or (remove inequalities s.index) k []) [] l)))
      where
        by_place : (k : ℕ) → (m : ℕ) × (m < length inequalities) × (m ≢ s.index) × (get_or inequalities m [] ≡ get_or (remove inequalities s.index) k []) → IsOther dim (get_or (remove inequalities s.index) k [])
        by_place k (m, l, ne, f) = subst (IsOther dim) f (other_row dim (vector_at inequalities m) (apart m l ne))

    kept_is : kept_rows dim inequalities ≡ remove inequalities s.index
    kept_is = kept_removed dim inequalities s.index s.below s.same ∙ kept_all dim (remove inequalities s.index) removed_other

    -- it can stand before the others
    pub system_with : IsSystem (ConeOf (dim + 1) (system_rows lines rays)) equalities (divisor_row dim ∷ kept_rows dim inequalities)
    system_with =
        system_rearranged (ConeOf (dim + 1) (system_rows lines rays)) equalities inequalities (divisor_row dim ∷ kept_rows dim inequalities) system
        (subst (λ (xs : List (List ℤ)). IsPermutation inequalities (divisor_row dim ∷ xs)) (sym kept_is)
        (IsPermutation-remove inequalities s.index (divisor_row dim) s.below (sym s.same ∙ get_or_default inequalities s.index [] (divisor_row dim) s.below)))

  -- where it isn't, all are kept
  pub system_without : All (IsOther dim) inequalities → IsSystem (ConeOf (dim + 1) (system_rows lines rays)) equalities (kept_rows dim inequalities)
  system_without h = subst (λ (xs : List (List ℤ)). IsSystem (ConeOf (dim + 1) (system_rows lines rays)) equalities xs) (sym (kept_all dim inequalities h)) system

  -- ---- the table of its zeros
  ray_place : (k : ℕ) → k < length rays → row_at (system_rows lines rays) (length lines + k) ≡ vector_at rays k
  ray_place k h =
      ap (λ (row : Row). row.0) (rest_place (map (λ l. (l, true)) lines) (map (λ r. (r, false)) rays) (length lines) k ([], false) (length-map lines (λ (l : List ℤ). (l, true))))
      ∙ ap (λ (row : Row). row.0) (get_or-map (λ (r : List ℤ). (r, false)) rays k [] ([], false) h)

  ray_below : (k : ℕ) → k < length rays → length lines + k < length (system_rows lines rays)
  ray_below k h =
      let a = length-append {A = Row} (map (λ l. (l, true)) lines) (map (λ r. (r, false)) rays) in
      let b = length-map {B = Row} lines (λ (l : List ℤ). (l, true)) in
      let c = length-map {B = Row} rays (λ (r : List ℤ). (r, false)) in
      omega (arith, a, b, c, h)

  module _ (table : Table) (t : IsZeroTable (system_rows lines rays) (length (system_rows lines rays)) (divisor_row dim ∷ kept_rows dim inequalities) table) where
    tells : (i : ℕ) → i < suc (length (kept_rows dim inequalities)) → TellsZeros (system_rows lines rays) (length (system_rows lines rays)) (vector_at (divisor_row dim ∷ kept_rows dim inequalities) i) (bits_of table.rows i)
    tells i h = t.each.each i [] [] (omega (arith, h))

    rows_many : length table.rows ≡ suc (length (kept_rows dim inequalities))
    rows_many = t.each.as_many ∙ refl

    -- a row of the table that is true wherever the first is stands for an inequality that is 0 on all rays
    third_flat : (m : ℕ) → m < length (kept_rows dim inequalities) → IsThird table 0 0 (suc m) → IsFlatOnRays dim rays (vector_at (kept_rows dim inequalities) m)
    third_flat m h third k b z =
        let j = length lines + k in
        let first = tells 0 (omega arith) in
        let bit = (first.zeros j (ray_below k b)).1 (ap (λ (v : List ℤ). dot v (divisor_row dim)) (ray_place k b) ∙ dot_comm (vector_at rays k) (divisor_row dim) ∙ dot_divisor dim (vector_at rays k) ∙ z) in
        let other = third.covers j (omega (arith, ray_below k b, first.wide)) bit bit in
        dot_comm (vector_at (kept_rows dim inequalities) m) (vector_at rays k) ∙ ap (λ (v : List ℤ). dot v (vector_at (kept_rows dim inequalities) m)) (sym (ray_place k b))
        ∙ ((tells (suc m) (omega (arith, h))).zeros j (ray_below k b)).0 other

    against : StandsAt dim inequalities → (m : ℕ) → m < length (kept_rows dim inequalities) → IsThird table 0 0 (suc m) → ⊥
    against s m h third =
        let from = from_filtered (λ r. not (is_divisor_row dim r)) inequalities m h in
        no_other_flat dim lines rays equalities inequalities pair s.index from.place s.below from.below s.same
        (λ g. kept_other dim (vector_at (kept_rows dim inequalities) m) (filter_passes (λ r. not (is_divisor_row dim r)) inequalities m [] h) (sym from.same ∙ ap (vector_at inequalities) g ∙ s.same))
        (subst (IsFlatOnRays dim rays) (sym from.same) (third_flat m h third))

    -- then it isn't needed
    pub system_spared : HasThird table 0 0 → IsSystem (ConeOf (dim + 1) (system_rows lines rays)) equalities (kept_rows dim inequalities)
    system_spared (zero, third) = absurd (third.not_first refl)
    system_spared (suc m, third) = by_place (stands_or_not dim inequalities)
      where
        by_place : StandsAt dim inequalities ⊎ All (IsOther dim) inequalities → IsSystem (ConeOf (dim + 1) (system_rows lines rays)) equalities (kept_rows dim inequalities)
        by_place (inl s) = absurd (against s m (omega (arith, third.row, rows_many)) third)
        by_place (inr h) = system_without h

    -- ---- where no row is, it is needed
    flat_row : HasFlatRow dim rays inequalities
    flat_row = has_flat_row dim lines rays equalities inequalities pair

    abbrev ZeroWith : Row → Type 0
    ZeroWith row = dot row.0 (divisor_row dim) ≡ pos 0 → dot row.0 (vector_at inequalities flat_row.index) ≡ pos 0

    valid_flat : ConeOf (dim + 1) (system_rows lines rays) (vector_at inequalities flat_row.index)
    valid_flat = system.generates.rays_within flat_row.index [] flat_row.below

    zero_with : All ZeroWith (system_rows lines rays)
    zero_with =
        All-append ZeroWith (map (λ l. (l, true)) lines) (map (λ r. (r, false)) rays)
        (All-map ZeroWith (λ (l : List ℤ). (l, true)) lines (λ i d h z. dot_comm (get_or lines i d) (vector_at inequalities flat_row.index) ∙ zero_on_lines (dim + 1) lines rays (vector_at inequalities flat_row.index) valid_flat i d h))
        (All-map ZeroWith (λ (r : List ℤ). (r, false)) rays (All-from_get_or (λ (r : List ℤ). ZeroWith (r, false)) rays []
        (λ k h z. dot_comm (vector_at rays k) (vector_at inequalities flat_row.index) ∙ flat_row.flat k h (sym (dot_divisor dim (vector_at rays k)) ∙ dot_comm (divisor_row dim) (vector_at rays k) ∙ z))))

    third_of_all : All (IsOther dim) inequalities → HasThird table 0 0
    third_of_all h =
        let same : kept_rows dim inequalities ≡ inequalities = kept_all dim inequalities h in
        let below : flat_row.index < length (kept_rows dim inequalities) = subst (λ (xs : List (List ℤ)). flat_row.index < length xs) (sym same) flat_row.below in
        let first = tells 0 (omega arith) in
        let second = tells (suc flat_row.index) (omega (arith, below)) in (
          suc flat_row.index,
          record {
            row = omega (arith, rows_many, below);
            not_first = λ g. omega (arith, g);
            not_second = λ g. omega (arith, g);
            covers = λ j l a b.
                let inside : j < length (system_rows lines rays) = omega (arith, l, first.wide) in
                (second.zeros j inside).1 (ap (λ (xs : List (List ℤ)). dot (row_at (system_rows lines rays) j) (vector_at xs flat_row.index)) same ∙ zero_with j ([], false) inside ((first.zeros j inside).0 a));
          },
        )

    pub system_needed : ¬ (HasThird table 0 0) → IsSystem (ConeOf (dim + 1) (system_rows lines rays)) equalities (divisor_row dim ∷ kept_rows dim inequalities)
    system_needed none = by_place (stands_or_not dim inequalities)
      where
        by_place : StandsAt dim inequalities ⊎ All (IsOther dim) inequalities → IsSystem (ConeOf (dim + 1) (system_rows lines rays)) equalities (divisor_row dim ∷ kept_rows dim inequalities)
        by_place (inl s) = system_with s
        by_place (inr h) = absurd (none (third_of_all h))

one_more : (i : ℕ) → 1 + i ≡ suc i
one_more i = omega arith

-- the table without its first row
pub table_rest : (rows : List Row) (k : ℕ) (v : List ℤ) (vs : List (List ℤ)) (old new : Table) → IsZeroTable rows k (v ∷ vs) old → new.columns ≡ old.columns → new.rows ≡ drop 1 old.rows → IsZeroTable rows k vs new
table_rest rows k v vs old new t c rest = record {
  columns = c ∙ t.columns;
  each = record {
    as_many = ap length rest ∙ length-drop 1 old.rows ∙ omega (arith, t.each.as_many);
    each = λ i d f h. subst (λ (bits : List Bool). TellsZeros rows k (get_or vs i d) bits) (sym (ap (λ xs. get_or xs i f) rest ∙ get_or-drop 1 old.rows i f ∙ ap (λ (n : ℕ). get_or old.rows n f) (one_more i))) (t.each.each (suc i) d f (omega (arith, h)));
  };
}
