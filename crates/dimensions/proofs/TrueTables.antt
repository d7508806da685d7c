-- Tables with more rows or columns, all true, and what they tell.
use Rattle.std.proofs.Common.{◌≡◌, ◌⊎◌, inl, inr, ℕ, zero, suc, ◌+◌, ◌-◌, ◌<◌, ◌≤◌, Bool, true, false, List, [], ◌∷◌, ◌++◌, length, map, replicate, slice_index_or, ℤ, pos, refl, sym, ap, ◌∙◌, subst, arith}
use Rattle.std.specs.Prelude.{◌↔◌, IsTrue}
use Rattle.std.proofs.lemmas.Bool.{cases_lt}
use Rattle.std.proofs.lemmas.List.{ext_get_or, map-append, length-append, length-map, length-replicate, get_or-map, get_or-replicate, get_or_append_left, get_or-append_right, get_or_default}
use Rattle.std.proofs.lemmas.List.FromFn.{length-map-range_with_len, get_or-map-range_with_len}
use Rattle.row_core.specs.Vectors.{dot}
use Rattle.row_core.specs.Lists.{Row, row_at, Pointwise}
use Rattle.row_core.proofs.PointwiseLemmas.{pointwise_append}
use Rattle.cone_laws.specs.Canon.{vector_at}
use Rattle.sat_matrix.specs.Tables.{Table, bits_of, transposed, IsRectangular}
use Rattle.sat_matrix.specs.ZeroTables.{TellsZeros, IsZeroTable}
use Rattle.dimensions.specs.AddedVariables.{HasTrueRows, HasTrueColumns}

is_true : IsTrue true
is_true = search

-- ---- rows
all_zero : (rows : List Row) (k : ℕ) (v : List ℤ) → ((j : ℕ) → j < k → dot (row_at rows j) v ≡ pos 0) → TellsZeros rows k v (replicate k true)
all_zero rows k v z = record {
  wide = length-replicate k true;
  zeros = λ j h. ((λ bit. z j h), (λ e. subst IsTrue (sym (get_or-replicate k j true false h)) is_true));
}

pub more_rows : (rows : List Row) (k : ℕ) (vs extra : List (List ℤ)) (count : ℕ) (old new : Table) → count ≡ length extra → IsZeroTable rows k vs old → HasTrueRows count old new → ((i j : ℕ) → i < length extra → j < k → dot (row_at rows j) (vector_at extra i) ≡ pos 0) → IsZeroTable rows k (vs ++ extra) new
more_rows rows k vs extra count old new many z h zero_on = record {
  columns = h.columns ∙ z.columns;
  each = subst (Pointwise (TellsZeros rows k) (vs ++ extra)) (sym h.rows) (pointwise_append (TellsZeros rows k) vs extra old.rows (replicate count (replicate old.columns true)) z.each rest);
}
  where
    told : (i : ℕ) (d : List ℤ) → i < length extra → TellsZeros rows k (slice_index_or extra i d) (replicate old.columns true)
    told i d b =
        subst (λ (n : ℕ). TellsZeros rows k (slice_index_or extra i d) (replicate n true)) (sym z.columns)
        (all_zero rows k (slice_index_or extra i d) (λ j l. ap (dot (row_at rows j)) (get_or_default extra i d [] b) ∙ zero_on i j b l))

    rest : Pointwise (TellsZeros rows k) extra (replicate count (replicate old.columns true))
    rest = record {
      as_many = length-replicate count (replicate old.columns true) ∙ many;
      each = λ i d e b. subst (TellsZeros rows k (slice_index_or extra i d)) (sym (get_or-replicate count i (replicate old.columns true) e (omega (arith, b, many)))) (told i d b);
    }

-- ---- columns
module _ (rows extra : List Row) (v : List ℤ) (bits : List Bool) (count : ℕ) (many : count ≡ length extra) (t : TellsZeros rows (length rows) v bits) (zero_on : (i : ℕ) → i < length extra → dot (row_at extra i) v ≡ pos 0) where
  more_bits : (j : ℕ) → j < length (rows ++ extra) → (j < length rows) ⊎ (length rows ≤ j) → IsTrue (slice_index_or (bits ++ replicate count true) j false) ↔ (dot (row_at (rows ++ extra) j) v ≡ pos 0)
  more_bits j l (inl h) =
      subst (λ (b : Bool). IsTrue b ↔ (dot (row_at (rows ++ extra) j) v ≡ pos 0)) (sym (get_or_append_left bits (replicate count true) false j (omega (arith, h, t.wide))))
      (subst (λ (r : Row). IsTrue (slice_index_or bits j false) ↔ (dot r.0 v ≡ pos 0)) (sym (get_or_append_left rows extra ([], false) j h)) (t.zeros j h))
  more_bits j l (inr g) =
      let below : j - length rows < length extra = omega (arith, l, g, length-append rows extra) in (
        (λ bit. ap (λ (r : Row). dot r.0 v) (get_or-append_right rows extra (length rows) j ([], false) refl g) ∙ zero_on (j - length rows) below),
        (λ e. subst IsTrue (sym (get_or-append_right bits (replicate count true) (length rows) j false t.wide g ∙ get_or-replicate count (j - length rows) true false (omega (arith, below, many)))) is_true),
      )

  tells_more : TellsZeros (rows ++ extra) (length (rows ++ extra)) v (bits ++ replicate count true)
  tells_more = record {
    wide = omega (arith, length-append bits (replicate count true), length-replicate count true, length-append rows extra, t.wide, many);
    zeros = λ j l. more_bits j l (cases_lt j (length rows));
  }

pub more_columns : (rows extra : List Row) (vs : List (List ℤ)) (count : ℕ) (old new : Table) → count ≡ length extra → IsZeroTable rows (length rows) vs old → HasTrueColumns count old new → ((i j : ℕ) → i < length extra → j < length vs → dot (row_at extra i) (vector_at vs j) ≡ pos 0) → IsZeroTable (rows ++ extra) (length (rows ++ extra)) vs new
more_columns rows extra vs count old new many z h zero_on = record {
  columns = omega (arith, h.columns, z.columns, length-append rows extra, many);
  each = record {
    as_many = ap length h.rows ∙ length-map old.rows (λ (row : List Bool). row ++ replicate count true) ∙ z.each.as_many;
    each = λ i d e b. subst (TellsZeros (rows ++ extra) (length (rows ++ extra)) (slice_index_or vs i d)) (sym (row_is i e b)) (tells_more rows extra (slice_index_or vs i d) (bits_of old.rows i) count many (z.each.each i d [] b) (λ m l. ap (dot (row_at extra m)) (get_or_default vs i d [] b) ∙ zero_on m i l b));
  };
}
  where
    row_is : (i : ℕ) (e : List Bool) → i < length vs → slice_index_or new.rows i e ≡ bits_of old.rows i ++ replicate count true
    row_is i e b = ap (λ (rs : List (List Bool)). slice_index_or rs i e) h.rows ∙ get_or-map (λ (row : List Bool). row ++ replicate count true) old.rows i [] e (omega (arith, b, z.each.as_many))

-- ---- turned, with more rows, and turned back
map-replicate : {A B : Type 0} (f : A → B) (n : ℕ) (x : A) → map f (replicate n x) ≡ replicate n (f x)
map-replicate {A} {B} f zero x = refl
map-replicate {A} {B} f (suc n) x = ap (λ (ys : List B). f x ∷ ys) (map-replicate f n x)

from_zero : (i : ℕ) → 0 + i ≡ i
from_zero i = omega arith

abbrev bit : ℕ → List Bool → Bool
bit j row = slice_index_or row j false

-- column i of the columns is row i
row_again : (old : Table) → IsRectangular old → (i : ℕ) → i < length old.rows → map (bit i) (transposed old.columns old.rows) ≡ bits_of old.rows i
row_again old r i b =
    ext_get_or false (map (bit i) (transposed old.columns old.rows)) (bits_of old.rows i) (long ∙ sym (r i b))
    (λ j l. let c : j < old.columns = omega (arith, l, long) in
    get_or-map (bit i) (transposed old.columns old.rows) j [] false (omega (arith, c, length-map-range_with_len (λ n. map (bit n) old.rows) 0 old.columns))
    ∙ ap (bit i) (get_or-map-range_with_len (λ n. map (bit n) old.rows) 0 old.columns j j [] c (from_zero j))
    ∙ get_or-map (bit j) old.rows i [] false b)
  where
    long : length (map (bit i) (transposed old.columns old.rows)) ≡ old.columns
    long = length-map (transposed old.columns old.rows) (bit i) ∙ length-map-range_with_len (λ n. map (bit n) old.rows) 0 old.columns

pub turned_twice : (count : ℕ) (old turned longer new : Table) → IsRectangular old → turned ≡ record { columns = length old.rows; rows = transposed old.columns old.rows; spare = 0 } → HasTrueRows count turned longer → new ≡ record { columns = length longer.rows; rows = transposed longer.columns longer.rows; spare = 0 } → HasTrueColumns count old new
turned_twice count old turned longer new r t h n = record { columns = columns_are; rows = rows_are }
  where
    columns_is : longer.columns ≡ length old.rows
    columns_is = h.columns ∙ ap (λ (x : Table). x.columns) t

    longer_rows : longer.rows ≡ transposed old.columns old.rows ++ replicate count (replicate (length old.rows) true)
    longer_rows = h.rows ∙ ap (λ (x : Table). x.rows ++ replicate count (replicate x.columns true)) t

    columns_are : new.columns ≡ old.columns + count
    columns_are =
        ap (λ (x : Table). x.columns) n ∙ ap length longer_rows ∙ length-append (transposed old.columns old.rows) (replicate count (replicate (length old.rows) true))
        ∙ omega (arith, length-map-range_with_len (λ m. map (bit m) old.rows) 0 old.columns, length-replicate count (replicate (length old.rows) true))

    one_row : (i : ℕ) → i < length old.rows → map (bit i) longer.rows ≡ bits_of old.rows i ++ replicate count true
    one_row i b =
        ap (map (bit i)) longer_rows
        ∙ map-append (bit i) (transposed old.columns old.rows) (replicate count (replicate (length old.rows) true))
        ∙ ap (λ (xs : List Bool). xs ++ map (bit i) (replicate count (replicate (length old.rows) true))) (row_again old r i b)
        ∙ ap (λ (xs : List Bool). bits_of old.rows i ++ xs) (map-replicate (bit i) count (replicate (length old.rows) true) ∙ ap (replicate count) (get_or-replicate (length old.rows) i true false b))

    rows_are : new.rows ≡ map (λ (row : List Bool). row ++ replicate count true) old.rows
    rows_are =
        ap (λ (x : Table). x.rows) n ∙ ap (λ (m : ℕ). transposed m longer.rows) columns_is
        ∙ ext_get_or [] (transposed (length old.rows) longer.rows) (map (λ (row : List Bool). row ++ replicate count true) old.rows) (many ∙ sym (length-map old.rows (λ (row : List Bool). row ++ replicate count true)))
        (λ i l. let b : i < length old.rows = omega (arith, l, many) in
        get_or-map-range_with_len (λ m. map (bit m) longer.rows) 0 (length old.rows) i i [] b (from_zero i)
        ∙ one_row i b
        ∙ sym (get_or-map (λ (row : List Bool). row ++ replicate count true) old.rows i [] [] b))
      where
        many : length (transposed (length old.rows) longer.rows) ≡ length old.rows
        many = length-map-range_with_len (λ m. map (bit m) longer.rows) 0 (length old.rows)
