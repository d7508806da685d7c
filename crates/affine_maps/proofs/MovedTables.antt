-- A table of zeros whose rows and columns are moved with the vectors that they stand for.
use Rattle.std.proofs.Common.{◌≡◌, ◌⊎◌, inl, inr, ℕ, ◌+◌, ◌-◌, ◌<◌, ◌≤◌, Bool, false, List, [], ◌++◌, length, ℤ, sym, ap, ◌∙◌, subst, arith}
use Rattle.std.specs.Prelude.{All, slice_index_or}
use Rattle.std.proofs.lemmas.Bool.{cases_lt}
use Rattle.std.proofs.lemmas.List.{get_or_default, get_or_append_left, get_or-append-add, length-append, get_or-map, length-map}
use Rattle.std.proofs.lemmas.List.FromFn.{length-range_with_len}
use Rattle.std.proofs.lemmas.List.Sorted.{length_permutation}
use Rattle.row_core.specs.Vectors.{dot}
use Rattle.row_core.specs.Lists.{Row, Rows, row_at, vector_at, vectors, system_rows}
use Rattle.row_core.proofs.RowListLemmas.{length-vectors, vector_at-vectors}
use Rattle.sat_matrix.specs.Tables.{Table, bits_of}
use Rattle.sat_matrix.specs.ZeroTables.{TellsZeros, IsZeroTable}
use Rattle.stored_systems.proofs.ZeroTables.{vectors-system_rows}
use Rattle.affine_maps.specs.MovedTables.{place_in, AreSortedBy, IsTableMoved}
use Rattle.affine_maps.specs.declared.orders.Order.{Order}

-- ---- places
module _ (front xs ys : List (List ℤ)) (order : Order) (indices : List ℕ) (within : All (λ i. i < length xs) indices) (many : length indices ≡ length xs) (at : (k : ℕ) → k < length xs → vector_at ys k ≡ vector_at xs (slice_index_or indices k 0)) (stay : (i : ℕ) → i < length front → place_in order i ≡ i) (moved : (i : ℕ) → i < length xs → place_in order (length front + i) ≡ length front + slice_index_or indices i 0) where
  behind : (i : ℕ) → length front ≤ i → length front + (i - length front) ≡ i
  behind i h = omega (arith, h)

  pub place_below : (i : ℕ) → i < length (front ++ xs) → place_in order i < length (front ++ xs)
  place_below i h = by_place (cases_lt i (length front))
    where
      by_place : (i < length front) ⊎ (length front ≤ i) → place_in order i < length (front ++ xs)
      by_place (inl l) = omega (arith, stay i l, h)
      by_place (inr g) =
          let k : i - length front < length xs = omega (arith, h, g, length-append front xs) in
          let p : place_in order i ≡ length front + slice_index_or indices (i - length front) 0 = ap (place_in order) (sym (behind i g)) ∙ moved (i - length front) k in
          omega (arith, p, within (i - length front) 0 (omega (arith, k, many)), length-append front xs)

  pub same_at : (i : ℕ) → i < length (front ++ xs) → vector_at (front ++ ys) i ≡ vector_at (front ++ xs) (place_in order i)
  same_at i h = by_place (cases_lt i (length front))
    where
      by_place : (i < length front) ⊎ (length front ≤ i) → vector_at (front ++ ys) i ≡ vector_at (front ++ xs) (place_in order i)
      by_place (inl l) = get_or_append_left front ys [] i l ∙ sym (ap (vector_at (front ++ xs)) (stay i l) ∙ get_or_append_left front xs [] i l)
      by_place (inr g) =
          let k : i - length front < length xs = omega (arith, h, g, length-append front xs) in
          ap (vector_at (front ++ ys)) (sym (behind i g)) ∙ get_or-append-add front ys (i - length front) [] ∙ at (i - length front) k
          ∙ sym (ap (vector_at (front ++ xs)) (ap (place_in order) (sym (behind i g)) ∙ moved (i - length front) k) ∙ get_or-append-add front xs (slice_index_or indices (i - length front) 0) [])

-- ---- tables
pub moved_zeros : (list others : List Row) (vs ws : List (List ℤ)) (old new : Table) (rows columns : Order) → length others ≡ length list → length ws ≡ length vs → ((j : ℕ) → j < length list → (place_in columns j < length list) × (row_at others j ≡ row_at list (place_in columns j))) → ((i : ℕ) → i < length vs → (place_in rows i < length vs) × (vector_at ws i ≡ vector_at vs (place_in rows i))) → IsTableMoved rows columns old new → IsZeroTable list (length list) vs old → IsZeroTable others (length others) ws new
moved_zeros list others vs ws old new rows columns m n column row moved t = record {
  columns = moved.same_columns ∙ t.columns ∙ sym m;
  each = record {
    as_many = moved.as_many ∙ t.each.as_many ∙ sym n;
    each = λ i d e b. told i d e (omega (arith, b, n)) b;
  };
}
  where
    told : (i : ℕ) (d : List ℤ) (e : List Bool) → i < length vs → i < length ws → TellsZeros others (length others) (slice_index_or ws i d) (slice_index_or new.rows i e)
    told i d e b c =
        let in_rows : i < length old.rows = omega (arith, b, t.each.as_many) in
        let in_new : i < length new.rows = omega (arith, in_rows, moved.as_many) in
        let p : ℕ = place_in rows i in
        let o : TellsZeros list (length list) (vector_at vs p) (bits_of old.rows p) = t.each.each p [] [] (row i b).0 in
        subst (λ (w : List ℤ). TellsZeros others (length others) w (slice_index_or new.rows i e)) (sym (row i b).1 ∙ get_or_default ws i [] d c)
        (subst (λ (bits : List Bool). TellsZeros others (length others) (vector_at vs p) bits) (get_or_default new.rows i [] e in_new)
        (record {
          wide = moved.wide i in_rows ∙ t.columns ∙ sym m;
          zeros = λ j l.
              let k : j < length list = omega (arith, l, m) in
              let q : j < old.columns = omega (arith, k, t.columns) in
              let bit : slice_index_or (bits_of new.rows i) j false ≡ slice_index_or (bits_of old.rows p) (place_in columns j) false = moved.bits i j in_rows q in
              let tells = o.zeros (place_in columns j) (column j k).0 in
              let same : dot (row_at others j) (vector_at vs p) ≡ dot (row_at list (place_in columns j)) (vector_at vs p) = ap (λ (a : List ℤ). dot a (vector_at vs p)) (column j k).1 in (
                (λ is. same ∙ tells.0 (sym bit ∙ is)),
                (λ z. bit ∙ tells.1 (sym same ∙ z)),
              );
        }))

-- ---- rows of a system
pub row_of_system : (lines rays : List (List ℤ)) (j : ℕ) → row_at (system_rows lines rays) j ≡ vector_at (lines ++ rays) j
row_of_system lines rays j = sym (vector_at-vectors (system_rows lines rays) j) ∙ ap (λ (vs : List (List ℤ)). vector_at vs j) (vectors-system_rows lines rays)

pub length-system_rows : (lines rays : List (List ℤ)) → length (system_rows lines rays) ≡ length (lines ++ rays)
length-system_rows lines rays = sym (length-vectors (system_rows lines rays)) ∙ ap (λ (vs : List (List ℤ)). length vs) (vectors-system_rows lines rays)

-- ---- sorted rows
module _ (front : ℕ) (rows sorted : Rows) (order : Order) (s : AreSortedBy front rows sorted order) where
  pub indices_many : length s.indices ≡ length (vectors rows.rows)
  indices_many = length_permutation _ s.indices s.is_order.indices ∙ length-range_with_len 0 (length rows.rows) ∙ sym (length-vectors rows.rows)

  pub indices_within : All (λ i. i < length (vectors rows.rows)) s.indices
  indices_within i d h = omega (arith, s.is_order.within i d h, length-vectors rows.rows)

  pub sorted_at : (k : ℕ) → k < length (vectors rows.rows) → vector_at (vectors sorted.rows) k ≡ vector_at (vectors rows.rows) (slice_index_or s.indices k 0)
  sorted_at k h =
      ap (λ (vs : List (List ℤ)). vector_at vs k) s.picked
      ∙ get_or-map (row_at rows.rows) s.indices k 0 [] (omega (arith, h, indices_many))
      ∙ sym (vector_at-vectors rows.rows (slice_index_or s.indices k 0))

  pub moved_at : (i : ℕ) → i < length (vectors rows.rows) → place_in order (front + i) ≡ front + slice_index_or s.indices i 0
  moved_at i h = s.moved i (omega (arith, h, length-vectors rows.rows))

  pub sorted_many : length (vectors sorted.rows) ≡ length (vectors rows.rows)
  sorted_many = ap (λ (vs : List (List ℤ)). length vs) s.picked ∙ length-map s.indices (row_at rows.rows) ∙ indices_many
