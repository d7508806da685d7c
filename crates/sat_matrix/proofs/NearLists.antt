-- Lists of the positions of near rays.
use Rattle.std.specs.Prelude.{◌≡◌, ℕ, ◌+◌, ◌<◌, ◌≤◌, List, [], ◌∷◌, ◌++◌, length}
use Rattle.std.specs.List.{range_with_len}
use Rattle.std.proofs.Common.{sym, ap, ◌∙◌, subst, arith}
use Rattle.std.proofs.lemmas.List.FromFn.{get_or-range_with_len, length-range_with_len, map-range_with_len_more}
use Rattle.std.proofs.lemmas.List.{map-id}
use Rattle.flat_rows.specs.Flat.{Flat}
use Rattle.sat_matrix.specs.Tables.{Table}
use Rattle.sat_matrix.specs.Words.{AreWordsOf}
use Rattle.sat_matrix.specs.Pairs.{index_at, AreRising}
use Rattle.sat_matrix.specs.Near.{IsUnionOf, SharesWords, HasKept, IsNear}
use Rattle.sat_matrix.specs.Levels.{IsNearAt}
use Rattle.sat_matrix.specs.declared.narrowing.Level.{Level}
use Rattle.sat_matrix.proofs.Unions.{union_shares}

pub range_more : (n : ℕ) → range_with_len 0 (n + 1) ≡ range_with_len 0 n ++ n ∷ []
range_more n = sym (map-id (range_with_len 0 (n + 1))) ∙ map-range_with_len_more (λ (i : ℕ). i) 0 n n (omega arith) ∙ ap (λ (list : List ℕ). list ++ n ∷ []) (map-id (range_with_len 0 n))

-- all positions
pub near_all : (table : Table) (outer among : List ℕ) (least from to : ℕ) → IsNear table outer among least from to 0 (range_with_len 0 (length among))
near_all table outer among least from to = record {
  rising = record {
    within = λ i low inside. omega (arith, at i (omega (arith, inside, size)), inside, size);
    increasing = λ i j low less inside. omega (arith, at i (omega (arith, less, inside, size)), at j (omega (arith, inside, size)));
  };
  all = λ p q low below inside shares. (q, omega arith, omega (arith, inside, size), at q inside);
}
  where
    size : length (range_with_len 0 (length among)) ≡ length among
    size = length-range_with_len 0 (length among)

    at : (i : ℕ) → i < length among → index_at (range_with_len 0 (length among)) i ≡ i
    at i inside = omega (arith, get_or-range_with_len 0 (length among) i 0 inside)

-- all rays
pub near_all_rays : (table : Table) (outer : List ℕ) (least from to : ℕ) → IsNear table outer (range_with_len 0 (length table.rows)) least from to 0 (range_with_len 0 (length table.rows))
near_all_rays table outer least from to =
    subst (λ (n : ℕ). IsNear table outer (range_with_len 0 (length table.rows)) least from to 0 (range_with_len 0 n)) (length-range_with_len 0 (length table.rows))
    (near_all table outer (range_with_len 0 (length table.rows)) least from to)

-- the list of all rays names rays
pub all_within : (table : Table) (all : List ℕ) → all ≡ range_with_len 0 (length table.rows) → (q : ℕ) → q < length all → index_at all q < length table.rows
all_within table all e q inside =
    let size : length all ≡ length table.rows = ap length e ∙ length-range_with_len 0 (length table.rows) in
    omega (arith, ap (λ (list : List ℕ). index_at list q) e, get_or-range_with_len 0 (length table.rows) q 0 (omega (arith, inside, size)), inside, size)

-- they rise
pub range_rises : (n : ℕ) → AreRising n (range_with_len 0 n)
range_rises n = record {
  within = λ q inside. omega (arith, at q (omega (arith, inside, size)), inside, size);
  increasing = λ q r less inside. omega (arith, at q (omega (arith, less, inside, size)), at r (omega (arith, inside, size)));
}
  where
    size : length (range_with_len 0 n) ≡ n
    size = length-range_with_len 0 n

    at : (i : ℕ) → i < n → index_at (range_with_len 0 n) i ≡ i
    at i inside = omega (arith, get_or-range_with_len 0 n i 0 inside)

module _ (table : Table) (outer among : List ℕ) (least from to start : ℕ) (list : List ℕ) (near : IsNear table outer among least from to start list) where
  -- what is near to a group is near to each part of it
  pub near_part : (first last : ℕ) → from ≤ first → last ≤ to → IsNear table outer among least first last start list
  near_part first last low high = record {
    rising = near.rising;
    all = λ p q above below inside shares. near.all p q (omega (arith, above)) (omega (arith, below)) inside shares;
  }

  -- of these positions, those at which a ray shares enough zeros with the union of the group
  pub near_kept : (words : Flat ℕ) (union new : List ℕ) → AreWordsOf table words → AreRising (length table.rows) outer → AreRising (length table.rows) among → to ≤ length outer → IsUnionOf words.rows outer from to union → HasKept (SharesWords words.rows union among least) start (length among) list new → IsNear table outer among least from to (length list) new
  near_kept words union new are outer_rises among_rises inside is kept = record {
    rising = kept.rising;
    all = λ p q low below in_among shares.
        kept.all q (near.all p q low below in_among shares)
        (union_shares table words are outer among from to least p q union is low below (outer_rises.within p (omega (arith, below, inside))) (among_rises.within q in_among) shares);
  }

-- the lists of a level, for a part of its group
pub level_part : (table : Table) (outer inner : List ℕ) (least from to : ℕ) (level : Level) (positions rays same_positions same_rays : List ℕ) → same_positions ≡ positions → same_rays ≡ rays → (first last : ℕ) → from ≤ first → last ≤ to → IsNearAt table outer inner least from to level positions rays → IsNearAt table outer inner least first last level same_positions same_rays
level_part table outer inner least from to level positions rays same_positions same_rays e f first last low high h =
    let P : List ℕ → Type 0 = λ list. IsNearAt table outer inner least first last level list same_rays in
    let Q : List ℕ → Type 0 = λ list. IsNearAt table outer inner least first last level positions list in
    subst P (sym e) (subst Q (sym f)
    (record {
      inner_start = h.inner_start;
      rays_start = h.rays_start;
      near = near_part table outer inner least from to level.inner positions h.near first last low high;
      near_rays = λ whole. near_part table outer (range_with_len 0 (length table.rows)) least from to level.rays rays (h.near_rays whole) first last low high;
    }))
