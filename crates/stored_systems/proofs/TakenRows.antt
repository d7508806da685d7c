-- Lists of rows that are taken over as constraints or as generators.
use Rattle.std.proofs.Common.{◌≡◌, ℕ, suc, ◌+◌, ◌-◌, ◌<◌, ◌≤◌, Bool, true, false, not, cond, List, [], ◌∷◌, ◌++◌, length, take, drop, map, filter, get_or, ℤ, refl, sym, ap, ◌∙◌, subst, arith, All}
use Rattle.std.specs.Prelude.{remove}
use Rattle.std.proofs.Math.Seq.{drop-cons, get_or-append_seam}
use Rattle.std.proofs.lemmas.List.{append_assoc, take_more, length-take, map-append}
use Rattle.std.proofs.lemmas.List.Edits.{remove-append_right}
use Rattle.std.proofs.lemmas.List.Elements.{All-nil, All-cons, All-head, All-tail, All-append, All-filter}
use Rattle.row_core.specs.Vectors.{cell}
use Rattle.row_core.specs.Content.{IsPrimitive}
use Rattle.row_core.specs.Lists.{Row, row_at, vectors, AreMarked, IsRow}
use Rattle.cons_sys.specs.declared.kind.ConKind.TheVariants.{Eq, Ge}
use Rattle.cons_sys.specs.Constraints.{Constraint, constraint_of}
use Rattle.gens_sys.specs.declared.kind.GenKind.{GenKind}
use Rattle.gens_sys.specs.declared.kind.GenKind.TheVariants.{Line}
use Rattle.gens_sys.specs.Generators.{Generator, IsGenerator, vector_kind, generator_of}
use Rattle.stored_systems.specs.StoredForms.{is_divisor_row, stored_constraints, stored_generators}
use Rattle.stored_systems.specs.Entries.{is_last_one, FitsKind}
use Rattle.stored_systems.proofs.ListLemmas.{All-left, All-right}
use Rattle.stored_systems.proofs.RowLemmas.{divisor_by_entries}

-- ---- elements taken out, the last one first
module _ {X : Type 0} (keep : X → Bool) (xs : List X) where
  -- the list once the elements from a place on are gone through
  abbrev pub from_place : ℕ → List X
  from_place i = take i xs ++ filter keep (drop i xs)

  taken : (i : ℕ) → i < length xs → length (take i xs) ≡ i
  taken i below = omega (arith, length-take i xs, below)

  rest_of : (i : ℕ) (d : X) → i < length xs → filter keep (drop i xs) ≡ cond (keep (get_or xs i d)) (get_or xs i d ∷ filter keep (drop (i + 1) xs)) (filter keep (drop (i + 1) xs))
  rest_of i d below = ap (filter keep) (drop-cons xs i d below ∙ ap (λ (n : ℕ). get_or xs i d ∷ drop n xs) (let e : suc i ≡ i + 1 = omega arith in e))

  split_at : (i : ℕ) (d : X) → i < length xs → from_place (i + 1) ≡ take i xs ++ get_or xs i d ∷ filter keep (drop (i + 1) xs)
  split_at i d below = ap (λ ys. ys ++ filter keep (drop (i + 1) xs)) (take_more xs i d below) ∙ append_assoc (take i xs) (get_or xs i d ∷ []) (filter keep (drop (i + 1) xs))

  place_kept : (i : ℕ) (d : X) (cur : List X) → i < length xs → cur ≡ from_place (i + 1) → keep (get_or xs i d) ≡ true → cur ≡ from_place i
  place_kept i d cur below e k =
      e ∙ split_at i d below
      ∙ ap (λ ys. take i xs ++ ys) (sym (rest_of i d below ∙ ap (λ (b : Bool). cond b (get_or xs i d ∷ filter keep (drop (i + 1) xs)) (filter keep (drop (i + 1) xs))) k))

  place_removed : (i : ℕ) (d : X) (cur : List X) → i < length xs → cur ≡ from_place (i + 1) → keep (get_or xs i d) ≡ false → remove cur i ≡ from_place i
  place_removed i d cur below e k =
      ap (λ ys. remove ys i) (e ∙ split_at i d below)
      ∙ remove-append_right (take i xs) (get_or xs i d ∷ filter keep (drop (i + 1) xs)) i i (taken i below) (omega arith)
      ∙ ap (λ (n : ℕ). take i xs ++ remove (get_or xs i d ∷ filter keep (drop (i + 1) xs)) n) (let z : i - i ≡ 0 = omega arith in z)
      ∙ ap (λ ys. take i xs ++ ys) (sym (rest_of i d below ∙ ap (λ (b : Bool). cond b (get_or xs i d ∷ filter keep (drop (i + 1) xs)) (filter keep (drop (i + 1) xs))) k))

  at_place : (i : ℕ) (d : X) → i < length xs → get_or (from_place (i + 1)) i d ≡ get_or xs i d
  at_place i d below = ap (λ ys. get_or ys i d) (split_at i d below) ∙ ap (λ (n : ℕ). get_or (take i xs ++ get_or xs i d ∷ filter keep (drop (i + 1) xs)) n d) (sym (taken i below)) ∙ get_or-append_seam (take i xs) (get_or xs i d) (filter keep (drop (i + 1) xs)) d

-- ---- the row of the divisor
abbrev is_kept : ℕ → Row → Bool
is_kept dim row = not (is_divisor_row dim row.0)

module _ (dim : ℕ) (rays cur : List Row) (i j : ℕ) (next : i + 1 ≡ j) (within : j ≤ length rays) (gone : cur ≡ from_place (is_kept dim) rays j) (row : List ℤ) (is : row ≡ row_at cur i) (wide : length row ≡ dim + 1) (b : Bool) (told : b ≡ is_last_one dim row) where
  below : i < length rays
  below = omega (arith, next, within)

  before : cur ≡ from_place (is_kept dim) rays (i + 1)
  before = gone ∙ ap (λ (n : ℕ). from_place (is_kept dim) rays n) (sym next)

  same_row : row ≡ row_at rays i
  same_row = is ∙ ap (λ (r : Row). r.0) (ap (λ (rows : List Row). get_or rows i ([], false)) before ∙ at_place (is_kept dim) rays i ([], false) below)

  kept_unless : is_kept dim (get_or rays i ([], false)) ≡ not b
  kept_unless = ap not (ap (is_divisor_row dim) (sym same_row) ∙ divisor_by_entries dim row wide ∙ sym told)

  pub row_kept_at : b ≡ false → cur ≡ from_place (is_kept dim) rays i
  row_kept_at f = place_kept (is_kept dim) rays i ([], false) cur below before (kept_unless ∙ ap not f)

  pub row_removed_at : b ≡ true → remove cur i ≡ from_place (is_kept dim) rays i
  row_removed_at f = place_removed (is_kept dim) rays i ([], false) cur below before (kept_unless ∙ ap not f)

-- ---- rows with one mark
filtered_one : (b : Bool) (row : Row) (rows : List Row) (kept : List (List ℤ)) → vectors rows ≡ kept → vectors (cond b (row ∷ rows) rows) ≡ cond b (row.0 ∷ kept) kept
filtered_one true row rows kept e = ap (λ (vs : List (List ℤ)). row.0 ∷ vs) e
filtered_one false row rows kept e = e

vectors_filtered : (keep : List ℤ → Bool) (rows : List Row) → vectors (filter (λ (row : Row). keep row.0) rows) ≡ filter keep (vectors rows)
vectors_filtered keep [] = refl
vectors_filtered keep (row ∷ rows) = filtered_one (keep row.0) row (filter (λ (r : Row). keep r.0) rows) (filter keep (vectors rows)) (vectors_filtered keep rows)

abbrev MarkedAs : Bool → Row → Type 0
MarkedAs eq row = row.1 ≡ eq

module _ {K : Type 0} (eq : Bool) (f : Row → List ℤ × K) (kind : List ℤ → K) (same : (v : List ℤ) → f (v, eq) ≡ (v, kind v)) where
  taken_one : (row : Row) → row.1 ≡ eq → f row ≡ (row.0, kind row.0)
  taken_one (v, b) e = ap (λ (x : Bool). f (v, x)) e ∙ same v

  taken_rows : (rows : List Row) → AreMarked eq rows → map f rows ≡ map (λ v. (v, kind v)) (vectors rows)
  taken_rows [] h = refl
  taken_rows (row ∷ rows) h =
      ap (λ x. x ∷ map f rows) (taken_one row (All-head (MarkedAs eq) row rows h))
      ∙ ap (λ xs. (row.0, kind row.0) ∷ xs) (taken_rows rows (All-tail (MarkedAs eq) row rows h))

  All-taken_rows : (P : List ℤ × K → Type 0) (rows : List Row) → AreMarked eq rows → All (λ (row : Row). P (row.0, kind row.0)) rows → All (λ (row : Row). P (f row)) rows
  All-taken_rows P rows marked h i d below = subst P (sym (taken_one (get_or rows i d) (marked i d below))) (h i d below)

-- ---- constraints
abbrev kept_rows : ℕ → List Row → List Row
kept_rows dim rays = filter (is_kept dim) rays

pub taken_constraints : (dim : ℕ) (lines rays : List Row) → AreMarked true lines → AreMarked false rays → map constraint_of (lines ++ kept_rows dim rays) ≡ stored_constraints dim (vectors lines) (vectors rays)
taken_constraints dim lines rays f g =
    map-append constraint_of lines (kept_rows dim rays)
    ∙ ap (λ (cs : List Constraint). cs ++ map constraint_of (kept_rows dim rays)) (taken_rows true constraint_of (λ v. Eq) (λ v. refl) lines f)
    ∙ ap (λ (cs : List Constraint). map (λ l. (l, Eq)) (vectors lines) ++ cs) (taken_rows false constraint_of (λ v. Ge) (λ v. refl) (kept_rows dim rays) (All-filter (is_kept dim) (MarkedAs false) rays g)
    ∙ ap (λ (vs : List (List ℤ)). map (λ r. (r, Ge)) vs) (vectors_filtered (λ r. not (is_divisor_row dim r)) rays))

joined_primitive : (lines rays : List Row) → All IsPrimitive (vectors lines) → All IsPrimitive (vectors rays) → All IsPrimitive (vectors (lines ++ rays))
joined_primitive lines rays f g = subst (All IsPrimitive) (sym (map-append (λ (row : Row). row.0) lines rays)) (All-append IsPrimitive (vectors lines) (vectors rays) f g)

pub kept_primitive : (dim : ℕ) (lines rays : List Row) → All IsPrimitive (vectors lines) → All IsPrimitive (vectors rays) → All IsPrimitive (vectors (lines ++ kept_rows dim rays))
kept_primitive dim lines rays f g =
    joined_primitive lines (kept_rows dim rays) f
    (subst (All IsPrimitive) (sym (vectors_filtered (λ r. not (is_divisor_row dim r)) rays)) (All-filter (λ r. not (is_divisor_row dim r)) IsPrimitive (vectors rays) g))

-- ---- generators
pub taken_generators : (dim : ℕ) (lines rays : List Row) → AreMarked true lines → AreMarked false rays → map (generator_of dim) (lines ++ rays) ≡ stored_generators dim (vectors lines) (vectors rays)
taken_generators dim lines rays f g =
    map-append (generator_of dim) lines rays
    ∙ ap (λ (gs : List Generator). gs ++ map (generator_of dim) rays) (taken_rows true (generator_of dim) (λ v. Line) (λ v. refl) lines f)
    ∙ ap (λ (gs : List Generator). map (λ l. (l, Line)) (vectors lines) ++ gs) (taken_rows false (generator_of dim) (λ v. vector_kind (cell v dim)) (λ v. refl) rays g)

module _ (dim : ℕ) (kind : List ℤ → GenKind) where
  generators_by : (rows : List Row) → All (IsRow (dim + 1)) rows → All IsPrimitive (vectors rows) → All (λ v. FitsKind dim (v, kind v)) (vectors rows) → All (λ (row : Row). IsGenerator dim (row.0, kind row.0)) rows
  generators_by [] h p g = All-nil (λ (row : Row). IsGenerator dim (row.0, kind row.0))
  generators_by (row ∷ rows) h p g =
      let is_row = All-head (IsRow (dim + 1)) row rows h in
      let fits = All-head (λ v. FitsKind dim (v, kind v)) row.0 (vectors rows) g in
      All-cons (λ (row : Row). IsGenerator dim (row.0, kind row.0)) row rows
      (record {
        wide = is_row.wide;
        in_range = is_row.in_range;
        primitive = All-head IsPrimitive row.0 (vectors rows) p;
        divisor = fits.divisor;
        nonzero = fits.nonzero;
      })
      (generators_by rows (All-tail (IsRow (dim + 1)) row rows h) (All-tail IsPrimitive row.0 (vectors rows) p) (All-tail (λ v. FitsKind dim (v, kind v)) row.0 (vectors rows) g))

pub joined_generators : (dim : ℕ) (lines rays : List Row) → AreMarked true lines → AreMarked false rays → All (IsRow (dim + 1)) (lines ++ rays) → All IsPrimitive (vectors lines) → All IsPrimitive (vectors rays) → All (λ l. FitsKind dim (l, Line)) (vectors lines) → All (λ r. FitsKind dim (r, vector_kind (cell r dim))) (vectors rays) → All (λ (row : Row). IsGenerator dim (generator_of dim row)) (lines ++ rays)
joined_generators dim lines rays f g rows p q s t =
    All-append (λ (row : Row). IsGenerator dim (generator_of dim row)) lines rays
    (All-taken_rows true (generator_of dim) (λ v. Line) (λ v. refl) (IsGenerator dim) lines f (generators_by dim (λ v. Line) lines (All-left (IsRow (dim + 1)) lines rays rows) p s))
    (All-taken_rows false (generator_of dim) (λ v. vector_kind (cell v dim)) (λ v. refl) (IsGenerator dim) rays g (generators_by dim (λ v. vector_kind (cell v dim)) rays (All-right (IsRow (dim + 1)) lines rays rows) q t))
