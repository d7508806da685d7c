-- The columns of a table as rows.
use Rattle.std.proofs.Common.{◌≡◌, ◌≢◌, ◌↔◌, ◌⊎◌, inl, inr, ℕ, suc, zero, ◌+◌, ◌<◌, Bool, true, false, IsTrue, List, [], length, get_or, map, replicate, refl, sym, ap, ◌∙◌, arith}
use Rattle.std.proofs.lemmas.Bool.{cases_eq}
use Rattle.std.proofs.lemmas.List.{ext_get_or, get_or-map, length-map, length-replicate, get_or-replicate}
use Rattle.std.proofs.lemmas.List.FromFn.{length-map-range_with_len, get_or-map-range_with_len}
use Rattle.sat_bits.specs.Places.{place}
use Rattle.sat_matrix.specs.Tables.{Table, bits_of, bit_at, transposed, IsRectangular}
use Rattle.sat_matrix.specs.Columns.{IsColumnMarked}

-- ---- truth values
not_both : (b : Bool) → IsTrue b → b ≡ false → ⊥
not_both b t f = let e : false ≡ true = sym f ∙ t in grind (arith, e)

pub same_truth : (a b : Bool) → (IsTrue a → IsTrue b) → (IsTrue b → IsTrue a) → a ≡ b
same_truth true b f g = sym (f refl)
same_truth false true f g = g refl
same_truth false false f g = refl

-- ---- the columns as rows
-- the places of the first k rows of a table stand in the columns of the other, and no place else is true
pub record IsTurned (table turned : Table) (k : ℕ) : Type 0 where
  pub columns : turned.columns ≡ length table.rows
  pub spare : turned.spare ≡ 0
  pub count : length turned.rows ≡ table.columns
  pub places : (i j : ℕ) → i < table.columns → IsTrue (bit_at turned.rows i j) ↔ ((j < k) × IsTrue (bit_at table.rows j i))

no_truths : (n j : ℕ) → get_or (replicate n false) j false ≡ false
no_truths zero j = refl
no_truths (suc n) zero = refl
no_truths (suc n) (suc j) = no_truths n j

-- no place is true where there is no row yet
pub none_turned : (table turned : Table) → turned.columns ≡ length table.rows → turned.rows ≡ replicate table.columns (replicate (length table.rows) false) → turned.spare ≡ 0 → IsTurned table turned 0
none_turned table turned columns rows spare = record {
  columns = columns;
  spare = spare;
  count = ap length rows ∙ length-replicate table.columns (replicate (length table.rows) false);
  places = λ i j h.
      let row : bits_of turned.rows i ≡ replicate (length table.rows) false = ap (λ (rs : List (List Bool)). bits_of rs i) rows ∙ get_or-replicate table.columns i (replicate (length table.rows) false) [] h in
      let bit : bit_at turned.rows i j ≡ false = ap (λ (r : List Bool). get_or r j false) row ∙ no_truths (length table.rows) j in
      ((λ t. absurd (not_both (bit_at turned.rows i j) t bit)), (λ w. absurd (omega (arith, w.0))));
}

-- the places of one row more
pub one_turned : (table cur new : Table) (k : ℕ) (words : List ℕ) → IsTurned table cur k → IsColumnMarked k (λ i. IsTrue (place words i)) cur new → ((i : ℕ) → i < table.columns → place words i ≡ bit_at table.rows k i) → IsTurned table new (k + 1)
one_turned table cur new k words so_far marked seen = record {
  columns = marked.columns ∙ so_far.columns;
  spare = marked.spare ∙ so_far.spare;
  count = marked.count ∙ so_far.count;
  places = λ i j h. (from i j h (cases_eq j k), to i j h (cases_eq j k));
}
  where
    named : (i : ℕ) → i < table.columns → (IsTrue (bit_at cur.rows i k) ⊎ IsTrue (place words i)) → IsTrue (bit_at table.rows k i)
    named i h (inl t) = ((so_far.places i k h).0 t).1
    named i h (inr p) = sym (seen i h) ∙ p

    from : (i j : ℕ) → i < table.columns → (j ≡ k) ⊎ (j ≢ k) → IsTrue (bit_at new.rows i j) → (j < k + 1) × IsTrue (bit_at table.rows j i)
    from i j h (inl e) t = (omega (arith, e), ap (λ (n : ℕ). bit_at table.rows n i) e ∙ named i h ((marked.marked i).0 (ap (λ (n : ℕ). bit_at new.rows i n) (sym e) ∙ t)))
    from i j h (inr d) t =
        let old = (so_far.places i j h).0 (sym (marked.others i j d) ∙ t) in
        (omega (arith, old.0), old.1)

    to : (i j : ℕ) → i < table.columns → (j ≡ k) ⊎ (j ≢ k) → (j < k + 1) × IsTrue (bit_at table.rows j i) → IsTrue (bit_at new.rows i j)
    to i j h (inl e) p = ap (λ (n : ℕ). bit_at new.rows i n) e ∙ (marked.marked i).1 (inr (seen i h ∙ ap (λ (n : ℕ). bit_at table.rows n i) (sym e) ∙ p.1))
    to i j h (inr d) p = marked.others i j d ∙ (so_far.places i j h).1 (omega (arith, d, p.0), p.1)

-- all rows
pub turned_whole : (table turned : Table) → IsRectangular turned → IsTurned table turned (length table.rows) → turned ≡ record { columns = length table.rows; rows = transposed table.columns table.rows; spare = 0 }
turned_whole table turned rectangular done = λ p. record { columns = done.columns p; rows = same_rows p; spare = done.spare p }
  where
    read : ℕ → List Bool
    read i = map (λ row. get_or row i false) table.rows

    same_place : (i j : ℕ) → i < table.columns → j < length table.rows → bit_at turned.rows i j ≡ bit_at table.rows j i
    same_place i j h l = same_truth (bit_at turned.rows i j) (bit_at table.rows j i) (λ t. ((done.places i j h).0 t).1) (λ t. (done.places i j h).1 (l, t))

    same_row : (i : ℕ) → i < table.columns → bits_of turned.rows i ≡ read i
    same_row i h =
        let wide : length (bits_of turned.rows i) ≡ length table.rows = rectangular i (omega (arith, h, done.count)) ∙ done.columns in
        ext_get_or false (bits_of turned.rows i) (read i) (wide ∙ sym (length-map table.rows (λ (row : List Bool). get_or row i false)))
        (λ j l.
        let within : j < length table.rows = omega (arith, l, wide) in
        same_place i j h within ∙ sym (get_or-map (λ (row : List Bool). get_or row i false) table.rows j [] false within))

    same_rows : turned.rows ≡ transposed table.columns table.rows
    same_rows =
        ext_get_or [] turned.rows (transposed table.columns table.rows) (done.count ∙ sym (length-map-range_with_len read 0 table.columns))
        (λ i l.
        let within : i < table.columns = omega (arith, l, done.count) in
        same_row i within ∙ sym (get_or-map-range_with_len read 0 table.columns i i [] within (omega arith)))
