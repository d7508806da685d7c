-- The pairs of a ray with those of a list of near rays.
use Rattle.std.specs.Prelude.{◌≡◌, ℕ, zero, suc, ◌+◌, ◌-◌, ◌<◌, ◌≤◌, List, length}
use Rattle.std.proofs.Common.{refl, ap, subst, arith, inl, inr}
use Rattle.std.proofs.lemmas.Bool.{cases_lt, cases_eq}
use Rattle.sat_matrix.specs.Tables.{Table}
use Rattle.sat_matrix.specs.Searches.{Shares}
use Rattle.sat_matrix.specs.Pairs.{index_at, AreFound}
use Rattle.sat_matrix.specs.Near.{IsSearch, IsNear}
use Rattle.sat_matrix.specs.declared.adjacency.Side.{Side}
use Rattle.sat_matrix.proofs.Apart.{apart, found_gap}
use Rattle.sat_matrix.proofs.FoundPairs.{found_row}

-- the pairs of the ray at a position with those that the list names below an index
pub record IsFoundUpto (side : Side) (table : Table) (outer inner : List ℕ) (position start upto : ℕ) (list : List ℕ) (pairs : List (ℕ × ℕ)) : Type 0 where
  pub bound : ℕ
  pub found : AreFound side table outer inner position bound pairs
  pub before : (i : ℕ) → start ≤ i → i < upto → index_at list i < bound
  pub behind : (i : ℕ) → upto ≤ i → i < length list → bound ≤ index_at list i
  pub within : bound ≤ length inner

module _ (side : Side) (table : Table) (outer inner : List ℕ) (least : ℕ) (search : IsSearch table outer inner least) where
  -- up to a position below which no further one shares enough zeros
  found_between : (position bound next : ℕ) (pairs : List (ℕ × ℕ)) → position < length outer → bound ≤ next → next ≤ length inner → ((q : ℕ) → bound ≤ q → q < next → ¬ (Shares table.rows (index_at outer position) inner least q)) → AreFound side table outer inner position bound pairs → AreFound side table outer inner position next pairs
  found_between position bound next pairs in_outer low high none h =
      subst (λ (n : ℕ). AreFound side table outer inner position n pairs) (let e : bound + (next - bound) ≡ next = omega arith in e)
      (found_gap side table outer inner position bound (next - bound) pairs
      (λ q a b. apart least table search.decide outer inner position q search.outer_rises search.inner_rises in_outer (omega (arith, b)) side (none q a (omega (arith, b)))) h)

  -- all positions of a ray with which no ray shares enough zeros
  found_apart : (position : ℕ) (pairs : List (ℕ × ℕ)) → position < length outer → ((q : ℕ) → q < length inner → ¬ (Shares table.rows (index_at outer position) inner least q)) → AreFound side table outer inner position 0 pairs → AreFound side table outer inner (position + 1) 0 pairs
  found_apart position pairs in_outer none h =
      found_row side table outer inner position (length inner) pairs (found_between position 0 (length inner) pairs in_outer (omega arith) (omega arith) (λ q a b. none q b) h) refl

  -- so many rays with none of which any ray shares enough zeros
  found_apart_all : (from count : ℕ) (pairs : List (ℕ × ℕ)) → from + count ≤ length outer → ((p q : ℕ) → from ≤ p → p < from + count → q < length inner → ¬ (Shares table.rows (index_at outer p) inner least q)) → AreFound side table outer inner from 0 pairs → AreFound side table outer inner (from + count) 0 pairs
  found_apart_all from zero pairs inside none h = subst (λ (n : ℕ). AreFound side table outer inner n 0 pairs) (let e : from ≡ from + zero = omega arith in e) h
  found_apart_all from (suc count) pairs inside none h =
      subst (λ (n : ℕ). AreFound side table outer inner n 0 pairs) (let e : from + count + 1 ≡ from + suc count = omega arith in e)
      (found_apart (from + count) pairs (omega arith) (λ q b. none (from + count) q (omega arith) (omega arith) b)
      (found_apart_all from count pairs (omega arith) (λ p q a b c. none p q a (omega (arith, b)) c) h))

  -- a group of which no ray is near
  pub found_group : (from to start : ℕ) (list : List ℕ) (pairs : List (ℕ × ℕ)) → from ≤ to → to ≤ length outer → IsNear table outer inner least from to start list → length list ≤ start → AreFound side table outer inner from 0 pairs → AreFound side table outer inner to 0 pairs
  found_group from to start list pairs order inside near empty h =
      subst (λ (n : ℕ). AreFound side table outer inner n 0 pairs) (let e : from + (to - from) ≡ to = omega arith in e)
      (found_apart_all from (to - from) pairs (omega arith) (λ p q a b c shares. let f = near.all p q a (omega (arith, b)) c shares in omega (arith, f.1, f.2)) h)

  -- ---- one ray
  module _ (position start : ℕ) (list : List ℕ) (in_outer : position < length outer) (near : IsNear table outer inner least position (position + 1) start list) where
    pub upto_none : (pairs : List (ℕ × ℕ)) → AreFound side table outer inner position 0 pairs → IsFoundUpto side table outer inner position start start list pairs
    upto_none pairs h = record {
      bound = 0;
      found = h;
      before = λ i low less. absurd (omega arith);
      behind = λ i low below. omega arith;
      within = omega arith;
    }

    -- no ray shares enough zeros before the next one that the list names
    passed : (upto : ℕ) (pairs : List (ℕ × ℕ)) (next : ℕ) → start ≤ upto → (h : IsFoundUpto side table outer inner position start upto list pairs) → ((i : ℕ) → upto ≤ i → i < length list → next ≤ index_at list i) → next ≤ length inner → (q : ℕ) → h.bound ≤ q → q < next → ¬ (Shares table.rows (index_at outer position) inner least q)
    passed upto pairs next from h later inside q low below shares =
        let f = near.all position q (omega arith) (omega arith) (omega arith) shares in
        elim (cases_lt f.0 upto) [
          | inl less ↦ omega (arith, h.before f.0 f.1 less, f.3)
          | inr more ↦ omega (arith, later f.0 more f.2, f.3)
        ]

    module _ (upto : ℕ) (pairs : List (ℕ × ℕ)) (from : start ≤ upto) (h : IsFoundUpto side table outer inner position start upto list pairs) where
      -- the next position that the list names is below it wherever it names further ones
      later_than : upto < length list → (i : ℕ) → upto ≤ i → i < length list → index_at list upto ≤ index_at list i
      later_than inside i low below = elim (cases_eq upto i) [
        | inl e ↦ omega (arith, ap (index_at list) e)
        | inr other ↦ omega (arith, near.rising.increasing upto i from (omega (arith, other)) below)
      ]

      -- up to the next position that the list names
      pub upto_next : upto < length list → AreFound side table outer inner position (index_at list upto) pairs
      upto_next inside =
          let below : index_at list upto < length inner = near.rising.within upto from inside in
          found_between position h.bound (index_at list upto) pairs in_outer (h.behind upto (omega arith) inside) (omega (arith, below))
          (passed upto pairs (index_at list upto) from h (later_than inside) (omega (arith, below))) h.found

      -- past it
      pub upto_more : (new : List (ℕ × ℕ)) → upto < length list → AreFound side table outer inner position (index_at list upto + 1) new → IsFoundUpto side table outer inner position start (upto + 1) list new
      upto_more new inside found = record {
        bound = index_at list upto + 1;
        found = found;
        before = λ i low less. elim (cases_lt i upto) [
          | inl earlier ↦ omega (arith, near.rising.increasing i upto low earlier inside)
          | inr more ↦ omega (arith, ap (index_at list) (let e : i ≡ upto = omega arith in e))
        ];
        behind = λ i low below. omega (arith, near.rising.increasing upto i from (omega (arith, low)) below);
        within = omega (arith, near.rising.within upto from inside);
      }

      -- all positions were tried
      pub upto_all : length list ≤ upto → AreFound side table outer inner (position + 1) 0 pairs
      upto_all end =
          found_row side table outer inner position (length inner) pairs
          (found_between position h.bound (length inner) pairs in_outer h.within (omega arith)
          (passed upto pairs (length inner) from h (λ i low below. absurd (omega (arith, low, below, end))) (omega arith)) h.found) refl
