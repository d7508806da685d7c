-- Third rays, and how many zeros they share.
use Rattle.std.specs.Prelude.{◌≡◌, ℕ, ◌<◌, ◌≤◌, ◌↔◌, List, length}
use Rattle.std.proofs.Common.{zero, suc, Bool, true, false, [], ◌∷◌, refl, sym, ◌∙◌, arith}
use Rattle.std.proofs.lemmas.Bool.{false≢true}
use Rattle.sat_matrix.specs.Tables.{Table, bits_of, conjunction, Covers, IsThird, HasThird, IsRectangular}
use Rattle.sat_matrix.specs.Counts.{ones}
use Rattle.sat_matrix.specs.Pairs.{index_at, IsAdjacent, pair_of}
use Rattle.sat_matrix.specs.Ranking.{shared_zeros}
use Rattle.sat_matrix.specs.declared.adjacency.Side.{Side}
use Rattle.sat_matrix.specs.declared.adjacency.Side.TheVariants.{Above, Below}

covers_rest : (x y z : Bool) (xs ys zs : List Bool) → Covers (x ∷ xs) (y ∷ ys) (z ∷ zs) → Covers xs ys zs
covers_rest x y z xs ys zs h c inside t s = h (suc c) (omega (arith, inside)) t s

-- a row that is true wherever two are shares no fewer places with the first than the second does
shares_with_first : (xs ys zs : List Bool) → length xs ≡ length ys → length xs ≡ length zs → Covers xs ys zs → ones (conjunction xs ys) ≤ ones (conjunction xs zs)
shares_with_first [] ys zs e f h = omega arith
shares_with_first (x ∷ xs) [] zs e f h = absurd (omega (arith, e))
shares_with_first (x ∷ xs) (y ∷ ys) [] e f h = absurd (omega (arith, f))
shares_with_first (true ∷ xs) (true ∷ ys) (true ∷ zs) e f h = omega (arith, shares_with_first xs ys zs (omega (arith, e)) (omega (arith, f)) (covers_rest true true true xs ys zs h))
shares_with_first (true ∷ xs) (true ∷ ys) (false ∷ zs) e f h = absurd (false≢true (h zero (omega arith) refl refl))
shares_with_first (true ∷ xs) (false ∷ ys) (true ∷ zs) e f h = omega (arith, shares_with_first xs ys zs (omega (arith, e)) (omega (arith, f)) (covers_rest true false true xs ys zs h))
shares_with_first (true ∷ xs) (false ∷ ys) (false ∷ zs) e f h = shares_with_first xs ys zs (omega (arith, e)) (omega (arith, f)) (covers_rest true false false xs ys zs h)
shares_with_first (false ∷ xs) (y ∷ ys) (z ∷ zs) e f h = shares_with_first xs ys zs (omega (arith, e)) (omega (arith, f)) (covers_rest false y z xs ys zs h)

module _ (table : Table) (rectangular : IsRectangular table) where
  -- a third ray shares no fewer zeros with the first ray than the second does
  pub third_is_near : (i j k : ℕ) → i < length table.rows → j < length table.rows → IsThird table i j k → shared_zeros table i j ≤ shared_zeros table i k
  third_is_near i j k in_i in_j third =
      shares_with_first (bits_of table.rows i) (bits_of table.rows j) (bits_of table.rows k) (rectangular i in_i ∙ sym (rectangular j in_j)) (rectangular i in_i ∙ sym (rectangular k third.row)) third.covers

  -- a third ray is one of the two in either order
  third_turned : (i j : ℕ) → i < length table.rows → j < length table.rows → HasThird table i j → HasThird table j i
  third_turned i j in_i in_j h =
      let third : IsThird table i j h.0 = h.1 in
      (h.0, record { row = third.row; not_first = third.not_second; not_second = third.not_first; covers = λ c b u v. third.covers c (omega (arith, b, rectangular i in_i, rectangular j in_j)) v u })

  -- two rays are adjacent whichever of them is on which side
  pub pair_adjacent : (side : Side) (outer inner : List ℕ) (p q : ℕ) → index_at outer p < length table.rows → index_at inner q < length table.rows → (¬ (HasThird table (index_at outer p) (index_at inner q))) ↔ IsAdjacent table (pair_of side outer inner p q)
  pair_adjacent Above outer inner p q in_outer in_inner = ((λ h. h), (λ h. h))
  pair_adjacent Below outer inner p q in_outer in_inner =
      ((λ none third. none (third_turned (index_at inner q) (index_at outer p) in_inner in_outer third)), (λ none third. none (third_turned (index_at outer p) (index_at inner q) in_outer in_inner third)))
