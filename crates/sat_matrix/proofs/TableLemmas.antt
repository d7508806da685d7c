use Rattle.std.specs.Prelude.{◌≡◌, ◌≢◌, ℕ, ◌+◌, ◌-◌, ◌<◌, ◌≤◌, Bool, true, false, List, [], ◌∷◌, ◌++◌, length, map, ℤ, pos}
use Rattle.std.specs.Ordering.{int_eq}
use Rattle.sat_matrix.specs.Columns.{HasLastZeros}
use Rattle.std.proofs.Common.{refl, sym, ap, ◌∙◌, arith, inl, inr, get_or, set, take}
use Rattle.std.proofs.lemmas.List.{get_or_append_left, get_or_push, length_push, length-take, length-set, get_or-set_same, get_or-set_other, get_or-map, length-map, get_or-take, set_at}
use Rattle.std.proofs.lemmas.Bool.{cases_lt, cases_eq}
use Rattle.sat_matrix.specs.Tables.{Table, bits_of, conjunction, IsRectangular}
use Rattle.row_core.specs.Pairs.{pair_at}
use Rattle.sat_matrix.specs.TableSteps.{HasFalseColumn, HasColumn, HasPairs, IsAsLarge}

pub bits_of-push_before : (rows : List (List Bool)) (row : List Bool) (i : ℕ) → i < length rows → bits_of (rows ++ row ∷ []) i ≡ bits_of rows i
bits_of-push_before rows row i h = get_or_append_left rows (row ∷ []) [] i h

pub bits_of-push_last : (rows : List (List Bool)) (row : List Bool) (i : ℕ) → length rows ≡ i → bits_of (rows ++ row ∷ []) i ≡ row
bits_of-push_last rows row i h = get_or_push rows row [] i h

-- ---- a column
-- the rows below an index have the column's values, and the others false
pub record IsColumnUpto (column : List Bool) (old new : Table) (last row : ℕ) : Type 0 where
  pub columns : new.columns ≡ last + 1
  pub as_many : length new.rows ≡ length old.rows
  pub done : (i : ℕ) → i < row → bits_of new.rows i ≡ bits_of old.rows i ++ get_or column i false ∷ []
  pub left : (i : ℕ) → row ≤ i → i < length old.rows → bits_of new.rows i ≡ bits_of old.rows i ++ false ∷ []

pub column_start : (column : List Bool) (old new : Table) → HasFalseColumn old new → IsColumnUpto column old new old.columns 0
column_start column old new wide = record {
  columns = wide.columns;
  as_many = ap length wide.rows ∙ length-map old.rows (λ row. row ++ false ∷ []);
  done = λ i h. absurd (omega (arith, h));
  left = λ i low h. ap (λ rs. bits_of rs i) wide.rows ∙ get_or-map (λ (row : List Bool). row ++ false ∷ []) old.rows i [] [] h;
}

-- without the column more, each row is as wide as the table
pub narrower : (old new : Table) → HasFalseColumn old new → IsRectangular new → IsRectangular old
narrower old new wide one i below =
    let size : length new.rows ≡ length old.rows = ap length wide.rows ∙ length-map old.rows (λ row. row ++ false ∷ []) in
    let at : bits_of new.rows i ≡ bits_of old.rows i ++ false ∷ [] = ap (λ rs. bits_of rs i) wide.rows ∙ get_or-map (λ (row : List Bool). row ++ false ∷ []) old.rows i [] [] below in
    omega (arith, one i (omega (arith, size, below)), ap length at, length_push (bits_of old.rows i) false, wide.columns)

pub column_more : (column : List Bool) (old cur new : Table) (last row : ℕ) (bit : Bool) → IsRectangular old → last ≡ old.columns → row < length old.rows → bit ≡ get_or column row false → IsColumnUpto column old cur last row → new ≡ record cur { rows = set cur.rows row (set (bits_of cur.rows row) last bit) } → IsColumnUpto column old new last (row + 1)
column_more column old cur new last row bit wide at inside is_bit h e =
    let written : List Bool = set (bits_of cur.rows row) last (get_or column row false) in
    let rows : new.rows ≡ set cur.rows row written = ap (λ (t : Table). t.rows) e ∙ ap (λ (b : Bool). set cur.rows row (set (bits_of cur.rows row) last b)) is_bit in
    let within : row < length cur.rows = omega (arith, h.as_many, inside) in
    let is : written ≡ bits_of old.rows row ++ get_or column row false ∷ [] =
    ap (λ (bits : List Bool). set bits last (get_or column row false)) (h.left row (omega arith) inside) ∙ set_at (bits_of old.rows row) false [] (get_or column row false) last (wide row inside ∙ sym at) in
    record {
      columns = ap (λ (t : Table). t.columns) e ∙ h.columns;
      as_many = ap length rows ∙ length-set cur.rows row written ∙ h.as_many;
      done = λ i less.
          ap (λ rs. bits_of rs i) rows ∙
          elim (cases_eq i row) as (λ _. bits_of (set cur.rows row written) i ≡ bits_of old.rows i ++ get_or column i false ∷ []) [
            | inl same ↦ rw same (get_or-set_same cur.rows row written [] within ∙ is)
            | inr other ↦ get_or-set_other cur.rows row i written [] other ∙ h.done i (omega (arith, other))
          ];
      left = λ i low below.
          let other : i ≢ row = omega arith in
          ap (λ rs. bits_of rs i) rows ∙ get_or-set_other cur.rows row i written [] other ∙ h.left i (omega arith) below;
    }

pub column_end : (column : List Bool) (old new : Table) (row : ℕ) → row ≡ length old.rows → IsColumnUpto column old new old.columns row → HasColumn column old new
column_end column old new row end h = record {
  columns = h.columns;
  as_many = h.as_many;
  each = λ i inside. h.done i (omega (arith, end));
}

-- a table with a column more has as many rows, and its last column is the number of the columns before
pub widened_count : (old new : Table) → HasFalseColumn old new → length new.rows ≡ length old.rows
widened_count old new wide = ap length wide.rows ∙ length-map old.rows (λ row. row ++ false ∷ [])

pub last_of : (old new : Table) (columns : ℕ) → HasFalseColumn old new → columns ≡ new.columns → columns - 1 ≡ old.columns
last_of old new columns wide e = omega (arith, wide.columns, e)

-- a write leaves a table as large
pub large_set : (old cur new : Table) (row : ℕ) (bits : List Bool) → IsAsLarge old cur → new ≡ record cur { rows = set cur.rows row bits } → IsAsLarge old new
large_set old cur new row bits h e = record {
  columns = ap (λ (t : Table). t.columns) e ∙ h.columns;
  as_many = ap (λ (t : Table). length t.rows) e ∙ length-set cur.rows row bits ∙ h.as_many;
  spare = ap (λ (t : Table). t.spare) e ∙ h.spare;
}

-- ---- rows for pairs

take_pair : (pairs : List (ℕ × ℕ)) (i n : ℕ) → i < n → pair_at (take n pairs) i ≡ pair_at pairs i
take_pair pairs i n h = get_or-take n pairs i (0, 0) h

pub pairs_more : (pairs : List (ℕ × ℕ)) (i p n : ℕ) (old cur : Table) (columns : ℕ) (rows : List (List Bool)) (last : ℕ) → i < length pairs → pair_at pairs i ≡ (p, n) → p < length old.rows → n < length old.rows → HasPairs (take i pairs) old cur → last ≡ old.columns - 1 → columns ≡ cur.columns → (spare : ℕ) → rows ≡ set (cur.rows ++ conjunction (bits_of cur.rows p) (bits_of cur.rows n) ∷ []) (length cur.rows) (set (bits_of (cur.rows ++ conjunction (bits_of cur.rows p) (bits_of cur.rows n) ∷ []) (length cur.rows)) last true) → HasPairs (take (i + 1) pairs) old (record { columns = columns; rows = rows; spare = spare })
pairs_more pairs i p n old cur columns rows last inside is in_p in_n h at same spare e =
    let both : List Bool = conjunction (bits_of cur.rows p) (bits_of cur.rows n) in
    let pushed : List (List Bool) = cur.rows ++ both ∷ [] in
    let written : List Bool = set (bits_of pushed (length cur.rows)) last true in
    let size : length cur.rows ≡ length old.rows + i = omega (arith, h.as_many, length-take i pairs) in
    let more : length pushed ≡ length cur.rows + 1 = length_push cur.rows both in
    let bits : written ≡ set (conjunction (bits_of old.rows p) (bits_of old.rows n)) (old.columns - 1) true =
    ap (λ (row : List Bool). set row last true) (bits_of-push_last cur.rows both (length cur.rows) refl ∙ ap (λ r. conjunction r (bits_of cur.rows n)) (h.before p in_p) ∙ ap (λ r. conjunction (bits_of old.rows p) r) (h.before n in_n)) ∙
    ap (λ l. set (conjunction (bits_of old.rows p) (bits_of old.rows n)) l true) at in
    record {
      columns = same ∙ h.columns;
      as_many = ap length e ∙ length-set pushed (length cur.rows) written ∙ omega (arith, more, size, length-take (i + 1) pairs);
      before = λ k below.
          let other : k ≢ length cur.rows = omega (arith, size) in
          ap (λ rs. bits_of rs k) e ∙ get_or-set_other pushed (length cur.rows) k written [] other ∙ bits_of-push_before cur.rows both k (omega (arith, size)) ∙ h.before k below;
      each = λ k below.
          let W : ℕ × ℕ → List Bool = λ pair. set (conjunction (bits_of old.rows pair.0) (bits_of old.rows pair.1)) (old.columns - 1) true in
          let short : k < i + 1 = omega (arith, below, length-take (i + 1) pairs) in
          ap (λ rs. bits_of rs (length old.rows + k)) e ∙
          elim (cases_lt k i) as (λ _. bits_of (set pushed (length cur.rows) written) (length old.rows + k) ≡ W (pair_at (take (i + 1) pairs) k)) [
            | inl less ↦
                let other : length old.rows + k ≢ length cur.rows = omega (arith, size) in
                get_or-set_other pushed (length cur.rows) (length old.rows + k) written [] other ∙ bits_of-push_before cur.rows both (length old.rows + k) (omega (arith, size)) ∙
                h.each k (omega (arith, less, inside, length-take i pairs)) ∙ ap W (take_pair pairs k i less ∙ sym (take_pair pairs k (i + 1) short))
            | inr more_k ↦
                let there : length old.rows + k ≡ length cur.rows = omega (arith, size) in
                let k_is : k ≡ i = omega arith in
                ap (λ m. bits_of (set pushed (length cur.rows) written) m) there ∙ get_or-set_same pushed (length cur.rows) written [] (omega (arith, more)) ∙ bits ∙ ap W (sym (take_pair pairs k (i + 1) short ∙ ap (λ m. pair_at pairs m) k_is ∙ is))
          ];
    }

-- a write into the row that was appended last
pub last_written : (rows : List (List Bool)) (row : List Bool) (at last : ℕ) (bit : Bool) → length rows ≡ at → set (rows ++ row ∷ []) at (set (bits_of (rows ++ row ∷ []) at) last bit) ≡ rows ++ set row last bit ∷ []
last_written rows row at last bit size =
    set_at rows row [] (set (bits_of (rows ++ row ∷ []) at) last bit) at size ∙ ap (λ r. rows ++ set r last bit ∷ []) (bits_of-push_last rows row at size)

-- a last column that tells of the values whether they are 0, where it was false
pub zeros_told : (values : List ℤ) (before old new : Table) → HasFalseColumn before old → IsRectangular before → length values ≡ length old.rows → HasLastZeros values old new → HasColumn (map (λ value. int_eq value (pos 0)) values) before new
zeros_told values before old new wide narrow as_many told = record {
  columns = told.large.columns ∙ wide.columns;
  as_many = told.large.as_many ∙ widened_count before old wide;
  each = λ i h.
      let zero : Bool = int_eq (get_or values i (pos 0)) (pos 0) in
      let at : bits_of old.rows i ≡ bits_of before.rows i ++ false ∷ [] = ap (λ rs. bits_of rs i) wide.rows ∙ get_or-map (λ (row : List Bool). row ++ false ∷ []) before.rows i [] [] h in
      told.each i (omega (arith, h, widened_count before old wide))
      ∙ ap (λ (r : List Bool). set r (old.columns - 1) zero) at
      ∙ set_at (bits_of before.rows i) false [] zero (old.columns - 1) (omega (arith, narrow i h, wide.columns))
      ∙ ap (λ (b : Bool). bits_of before.rows i ++ b ∷ []) (sym (get_or-map (λ (value : ℤ). int_eq value (pos 0)) values i (pos 0) false (omega (arith, as_many, h, widened_count before old wide))));
}
