-- Numbers of true places of two rows of the table of zeros, and third rays.
use Rattle.std.proofs.Common.{◌≡◌, ◌≢◌, ℕ, zero, suc, ◌+◌, ◌-◌, ◌<◌, ◌≤◌, Bool, true, false, List, [], ◌∷◌, length, Contains, ℤ, pos, refl, sym, ap, ◌∙◌, subst, arith, get_or}
use Rattle.std.specs.Prelude.{IsTrue}
use Rattle.std.proofs.lemmas.Bool.{false≢true}
use Rattle.std.proofs.lemmas.List.Elements.{Contains-get_or, Contains-append_right}
use Rattle.row_core.specs.Vectors.{dot}
use Rattle.row_core.specs.Lists.{Row, row_at, vectors, vector_at}
use Rattle.sat_matrix.specs.Tables.{Table, bits_of, conjunction, IsThird, HasThird}
use Rattle.cone_laws.specs.Cones.{Upto}
use Rattle.cone_laws.specs.Canon.{IsSystem}
use Rattle.cone_laws.specs.AdjacencyLaws.{IsMinimal, IsOneMore}
use Rattle.cone_laws.proofs.OneMore.{one_more_law}
use Rattle.cone_laws.proofs.TooFew.{too_few_law}
use Rattle.row_core.proofs.RowListLemmas.{length-vectors}
use Rattle.sat_matrix.specs.Counts.{ones}
use Rattle.sat_matrix.proofs.SharedCounts.{fewer_both, both_turned}
use Rattle.sat_matrix.specs.ZeroTables.{TellsZeros, IsZeroTable}
use Rattle.sat_matrix.specs.CountTests.{CountsDecide}
use Rattle.chernikova.proofs.RayTables.{both_true, get_or-conjunction}
use Rattle.chernikova.proofs.StateLemmas.{no_third_from, has_third_to}

-- ---- counts
-- as many in both as in the first: the second is true wherever the first is
as_many_both : (xs ys : List Bool) → length xs ≡ length ys → ones xs ≡ ones (conjunction xs ys) → (j : ℕ) → IsTrue (get_or xs j false) → IsTrue (get_or ys j false)
as_many_both [] ys e h j t = absurd (false≢true t)
as_many_both (x ∷ xs) [] e h j t = absurd (omega arith)
as_many_both (true ∷ xs) (true ∷ ys) e h zero t = t
as_many_both (true ∷ xs) (true ∷ ys) e h (suc j) t = as_many_both xs ys (omega arith) (omega (arith, h)) j t
as_many_both (true ∷ xs) (false ∷ ys) e h j t = absurd (omega (arith, h, fewer_both xs ys))
as_many_both (false ∷ xs) (y ∷ ys) e h zero t = absurd (false≢true t)
as_many_both (false ∷ xs) (y ∷ ys) e h (suc j) t = as_many_both xs ys (omega arith) h j t

-- at one place the first is true and the second isn't, and wherever else the first is, the second is too
record OnlyPlace (xs ys : List Bool) : Type 0 where
  place : ℕ
  below : place < length xs
  first : IsTrue (get_or xs place false)
  second : ¬ (IsTrue (get_or ys place false))
  others : (j : ℕ) → j ≢ place → IsTrue (get_or xs j false) → IsTrue (get_or ys j false)

next_place : (x y : Bool) (xs ys : List Bool) → (IsTrue x → IsTrue y) → OnlyPlace xs ys → OnlyPlace (x ∷ xs) (y ∷ ys)
next_place x y xs ys h o = record { place = suc o.place; below = omega (arith, o.below); first = o.first; second = o.second; others = others }
  where
    others : (j : ℕ) → j ≢ suc o.place → IsTrue (get_or (x ∷ xs) j false) → IsTrue (get_or (y ∷ ys) j false)
    others zero n t = h t
    others (suc j) n t = o.others j (λ e. n (ap suc e)) t

first_place : (xs ys : List Bool) → ((j : ℕ) → IsTrue (get_or xs j false) → IsTrue (get_or ys j false)) → OnlyPlace (true ∷ xs) (false ∷ ys)
first_place xs ys h = record { place = zero; below = omega arith; first = refl; second = λ t. false≢true t; others = others }
  where
    others : (j : ℕ) → j ≢ zero → IsTrue (get_or (true ∷ xs) j false) → IsTrue (get_or (false ∷ ys) j false)
    others zero n t = absurd (n refl)
    others (suc j) n t = h j t

only_place : (xs ys : List Bool) → length xs ≡ length ys → ones xs ≡ ones (conjunction xs ys) + 1 → OnlyPlace xs ys
only_place [] ys e h = absurd (omega arith)
only_place (x ∷ xs) [] e h = absurd (omega arith)
only_place (true ∷ xs) (true ∷ ys) e h = next_place true true xs ys (λ t. t) (only_place xs ys (omega arith) (omega (arith, h)))
only_place (true ∷ xs) (false ∷ ys) e h = first_place xs ys (as_many_both xs ys (omega arith) (omega (arith, h)))
only_place (false ∷ xs) (y ∷ ys) e h = next_place false y xs ys (λ t. absurd (false≢true t)) (only_place xs ys (omega arith) h)

-- ---- the rows at the true places
picked : List Row → List Bool → ℕ → List (List ℤ)
picked rows [] m = []
picked rows (true ∷ bits) m = row_at rows m ∷ picked rows bits (suc m)
picked rows (false ∷ bits) m = picked rows bits (suc m)

length-picked : (rows : List Row) (bits : List Bool) (m : ℕ) → length (picked rows bits m) ≡ ones bits
unfolding picked
length-picked rows [] m = refl
length-picked rows (true ∷ bits) m = one_longer (length (picked rows bits (suc m))) (ones bits) (length-picked rows bits (suc m))
  where
    one_longer : (a b : ℕ) → a ≡ b → suc a ≡ 1 + b
    one_longer a b e = omega arith
length-picked rows (false ∷ bits) m = length-picked rows bits (suc m)

from_zero : (m : ℕ) → 0 + m ≡ m
from_zero m = omega arith

shifted : (m j : ℕ) → suc m + j ≡ m + suc j
shifted m j = omega arith

holds_picked : (rows : List Row) (bits : List Bool) (m j : ℕ) → IsTrue (get_or bits j false) → Contains (picked rows bits m) (row_at rows (m + j))
unfolding picked
holds_picked rows [] m j t = absurd (false≢true t)
holds_picked rows (true ∷ bits) m zero t = subst (λ (i : ℕ). Contains (picked rows (true ∷ bits) m) (row_at rows i)) (omega arith) (Contains-get_or (picked rows (true ∷ bits) m) 0 [] (omega arith))
holds_picked rows (true ∷ bits) m (suc j) t = subst (λ (i : ℕ). Contains (picked rows (true ∷ bits) m) (row_at rows i)) (shifted m j) (Contains-append_right (row_at rows m ∷ []) (picked rows bits (suc m)) (row_at rows (suc m + j)) (holds_picked rows bits (suc m) j t))
holds_picked rows (false ∷ bits) m zero t = absurd (false≢true t)
holds_picked rows (false ∷ bits) m (suc j) t = subst (λ (i : ℕ). Contains (picked rows bits (suc m)) (row_at rows i)) (shifted m j) (holds_picked rows bits (suc m) j t)

-- ---- the table
module _ (width : ℕ) (rows : List Row) (k : ℕ) (lines rays : List (List ℤ)) (table : Table) (fits : k ≤ length rows) (sys : IsSystem (Upto width rows k) lines rays) (zeros : IsZeroTable rows k rays table) where
  minimal : IsMinimal (Upto width rows k) lines rays
  minimal = record { generates = sys.generates; lineality = sys.lineality; irredundant = sys.irredundant }

  in_rays : (i : ℕ) → i < length table.rows → i < length rays
  in_rays i b = omega (arith, b, zeros.each.as_many)

  tells : (i : ℕ) → i < length table.rows → TellsZeros rows k (vector_at rays i) (bits_of table.rows i)
  tells i b = zeros.each.each i [] [] (in_rays i b)

  too_few : (i j : ℕ) → i < length table.rows → j < length table.rows → ones (conjunction (bits_of table.rows i) (bits_of table.rows j)) < width - (length lines + 2) → ¬ (¬ (HasThird table i j))
  too_few i j bi bj few none = too_few_law width rows k lines rays i j (picked rows (conjunction (bits_of table.rows i) (bits_of table.rows j)) 0) fits minimal (in_rays i bi) (in_rays j bj) holds (omega (arith, few, length-picked rows (conjunction (bits_of table.rows i) (bits_of table.rows j)) 0)) (no_third_from rows k rays table i j zeros (in_rays i bi) (in_rays j bj) none)
    where
      holds : (m : ℕ) → m < k → dot (row_at rows m) (vector_at rays i) ≡ pos 0 → dot (row_at rows m) (vector_at rays j) ≡ pos 0 → Contains (picked rows (conjunction (bits_of table.rows i) (bits_of table.rows j)) 0) (row_at rows m)
      holds m b e f = subst (λ (l : ℕ). Contains (picked rows (conjunction (bits_of table.rows i) (bits_of table.rows j)) 0) (row_at rows l)) (from_zero m) (holds_picked rows (conjunction (bits_of table.rows i) (bits_of table.rows j)) 0 m (subst IsTrue (sym (get_or-conjunction (bits_of table.rows i) (bits_of table.rows j) m (omega (arith, b, (tells i bi).wide)) (omega (arith, b, (tells j bj).wide)))) ((both_true (get_or (bits_of table.rows i) m false) (get_or (bits_of table.rows j) m false)).1 (((tells i bi).zeros m b).1 e, ((tells j bj).zeros m b).1 f))))

  one_more : (i j : ℕ) → i < length table.rows → j < length table.rows → ones (bits_of table.rows i) ≡ ones (conjunction (bits_of table.rows i) (bits_of table.rows j)) + 1 → ¬ (HasThird table i j)
  one_more i j bi bj h = has_third_to rows k rays table i j zeros (in_rays i bi) (in_rays j bj) (one_more_law width rows k lines rays i j o.place fits minimal (in_rays i bi) (in_rays j bj) is)
    where
      o : OnlyPlace (bits_of table.rows i) (bits_of table.rows j)
      o = only_place (bits_of table.rows i) (bits_of table.rows j) ((tells i bi).wide ∙ sym (tells j bj).wide) h

      at : o.place < k
      at = omega (arith, o.below, (tells i bi).wide)

      is : IsOneMore rows k (vector_at rays i) (vector_at rays j) o.place
      is = record {
        below = at;
        is_zero = ((tells i bi).zeros o.place at).0 o.first;
        not_zero = λ e. o.second (((tells j bj).zeros o.place at).1 e);
        others = λ m b n e. ((tells j bj).zeros m b).0 (o.others m n (((tells i bi).zeros m b).1 e));
      }

  third_turned : (i j : ℕ) → i < length table.rows → j < length table.rows → HasThird table i j → HasThird table j i
  third_turned i j bi bj h = (h.0, record { row = t.row; not_first = t.not_second; not_second = t.not_first; covers = λ c b u v. t.covers c (omega (arith, b, (tells i bi).wide, (tells j bj).wide)) v u })
    where
      t : IsThird table i j h.0
      t = h.1

  second_more : (i j : ℕ) → i < length table.rows → j < length table.rows → ones (bits_of table.rows j) ≡ ones (conjunction (bits_of table.rows i) (bits_of table.rows j)) + 1 → ¬ (HasThird table i j)
  second_more i j bi bj h third = one_more j i bj bi (h ∙ ap (λ (n : ℕ). n + 1) (both_turned (bits_of table.rows i) (bits_of table.rows j))) (third_turned i j bi bj third)

-- in the table of zeros of a system, counts decide
pub counts_decide : (width : ℕ) (rows lines : List Row) (k : ℕ) (rays : List (List ℤ)) (table : Table) (least : ℕ) → k ≤ length rows → IsSystem (Upto width rows k) (vectors lines) rays → IsZeroTable rows k rays table → least ≡ width - (length lines + 2) → CountsDecide least table
counts_decide width rows lines k rays table least fits sys zeros e =
    subst (λ (n : ℕ). CountsDecide n table) (omega (arith, e, length-vectors lines))
    (record { too_few = too_few width rows k (vectors lines) rays table fits sys zeros; one_more = record { first_more = one_more width rows k (vectors lines) rays table fits sys zeros; second_more = second_more width rows k (vectors lines) rays table fits sys zeros } })
