use Rattle.std.proofs.Common.{◌≡◌, ◌≢◌, ◌⊎◌, inl, inr, ℕ, ◌+◌, ◌<◌, Bool, true, false, List, [], length, sym, ◌∙◌, subst, arith, ℤ, pos, ◌<ℤ◌}
use Rattle.std.specs.Prelude.{IsTrue, ◌↔◌}
use Rattle.std.proofs.lemmas.Bool.{false≢true}
use Rattle.cone_laws.proofs.Ring.{same_or_not}
use Rattle.row_core.specs.Vectors.{cell, dot}
use Rattle.row_core.specs.Lists.{Row, row_at, vectors}
use Rattle.sat_matrix.specs.Tables.{Table, bits_of}
use Rattle.cone_laws.specs.Canon.{vector_at}
use Rattle.nnc_enc.specs.StrongRows.{HasVariable, HasNoVariable, kept_at, IsSpare, IsSpareVector, IsCovered, IsCoveredPoint, IsBare, IsLoose, HasPlace, IsApart, Covers}
use Rattle.sat_matrix.specs.Tables as tables
use Rattle.nnc_enc.specs.declared.marks.Mark.TheVariants.{Level, Place, Strict, Point}
use Rattle.nnc_enc.specs.Marks.{flag, AreTold}
use Rattle.sat_matrix.specs.ZeroTables.{IsZeroTable}
use Rattle.nnc_enc.specs.Passes.{IsClear, IsCoveredRow, IsPassed}
use Rattle.nnc_enc.specs.Strong.{StaysAtFirst, AreFirstRows, AreFirstVectors, IsStrictPass, IsPointPass, HasStrictRow}
use Rattle.nnc_enc.proofs.MarkLemmas.{length-vectors, vector_at-vectors, bool_or_not, IsUnclear, clear_or_not, IsUncovered, covered_or_not, variable_or_not}

not_kept : (keep : List Bool) (i : ℕ) → kept_at keep i ≡ false → ¬ (IsTrue (flag keep i))
not_kept keep i f t = false≢true (sym f ∙ t)

module _ (dim : ℕ) (list rays : List Row) (sat : Table) (table : IsZeroTable list (length list) (vectors rays) sat) where
  as_many : length sat.rows ≡ length rays
  as_many = table.each.as_many ∙ length-vectors rays

  abbrev ray : ℕ → List ℤ
  ray i = vector_at (vectors rays) i

  bit : (i j : ℕ) → i < length (vectors rays) → j < length list → IsTrue (flag (bits_of sat.rows i) j) ↔ (dot (row_at list j) (vector_at (vectors rays) i) ≡ pos 0)
  bit i j h l = (table.each.each i [] [] h).zeros j l

  below : (i : ℕ) → i < length (vectors rays) → i < length rays
  below i h = omega (arith, h, length-vectors rays)

  -- what a mark says of a ray
  strict_ray : (marks : List Bool) → AreTold Strict dim rays marks (length rays) → (i : ℕ) → i < length (vectors rays) → IsTrue (flag marks i) ↔ (cell (vector_at (vectors rays) i) dim <ℤ pos 0)
  strict_ray marks told i h = subst (λ (v : List ℤ). IsTrue (flag marks i) ↔ (cell v dim <ℤ pos 0)) (sym (vector_at-vectors rays i)) (told.each i (below i h))

  point_ray : (marks : List Bool) → AreTold Point dim rays marks (length rays) → (i : ℕ) → i < length (vectors rays) → IsTrue (flag marks i) ↔ (pos 0 <ℤ cell (vector_at (vectors rays) i) dim)
  point_ray marks told i h = subst (λ (v : List ℤ). IsTrue (flag marks i) ↔ (pos 0 <ℤ cell v dim)) (sym (vector_at-vectors rays i)) (told.each i (below i h))

  place_ray : (marks : List Bool) → AreTold Place dim rays marks (length rays) → (i : ℕ) → i < length (vectors rays) → IsTrue (flag marks i) ↔ ((cell (vector_at (vectors rays) i) dim ≡ pos 0) × (cell (vector_at (vectors rays) i) (dim + 1) ≢ pos 0))
  place_ray marks told i h = subst (λ (v : List ℤ). IsTrue (flag marks i) ↔ ((cell v dim ≡ pos 0) × (cell v (dim + 1) ≢ pos 0))) (sym (vector_at-vectors rays i)) (told.each i (below i h))

  module _ (level : List Bool) (levels : AreTold Level dim list level (length list)) where
    covers_there : (i t : ℕ) → i < length (vectors rays) → t < length (vectors rays) → tables.Covers level (bits_of sat.rows i) (bits_of sat.rows t) → Covers dim list (vector_at (vectors rays) t) (vector_at (vectors rays) i)
    covers_there i t h k f j l z o = (bit t j k l).0 (f j (omega (arith, l, levels.as_many)) ((levels.each j l).1 z) ((bit i j h l).1 o))

    apart_there : (i t : ℕ) → i < length (vectors rays) → t < length (vectors rays) → ¬ (tables.Covers level (bits_of sat.rows i) (bits_of sat.rows t)) → IsApart dim list (vector_at (vectors rays) t) (vector_at (vectors rays) i)
    apart_there i t h k n = by_search (covered_or_not level (bits_of sat.rows i) (bits_of sat.rows t) (length level))
      where
        found : (u : IsUncovered level (bits_of sat.rows i) (bits_of sat.rows t) (length level)) → IsApart dim list (vector_at (vectors rays) t) (vector_at (vectors rays) i)
        found u =
            let l : u.column < length list = omega (arith, u.below, levels.as_many) in
            record {
              number = u.column;
              below = l;
              level = (levels.each u.column l).0 u.marked;
              zero_on = (bit i u.column h l).0 u.bit;
              other = λ e. u.other ((bit t u.column k l).1 e);
            }

        by_search : ((c : ℕ) → c < length level → IsTrue (flag level c) → IsTrue (flag (bits_of sat.rows i) c) → IsTrue (flag (bits_of sat.rows t) c)) ⊎ IsUncovered level (bits_of sat.rows i) (bits_of sat.rows t) (length level) → IsApart dim list (vector_at (vectors rays) t) (vector_at (vectors rays) i)
        by_search (inl f) = absurd (n f)
        by_search (inr u) = found u

    -- two rows that are marked and kept, of which the first isn't covered
    apart_when : (marks keep : List Bool) (i t : ℕ) → i < length (vectors rays) → t < length (vectors rays) → t ≢ i → IsTrue (flag marks t) → IsTrue (flag keep t) → ¬ (IsCoveredRow level marks sat.rows keep i) → IsApart dim list (vector_at (vectors rays) t) (vector_at (vectors rays) i)
    apart_when marks keep i t h k d m s n = apart_there i t h k (λ f. n (t, record { row = omega (arith, k, as_many, length-vectors rays); other = d; marked = m; kept = s; covers = f }))

    module _ (places strict first keep : List Bool) (is_place : AreTold Place dim list places (length list)) (is_strict : AreTold Strict dim rays strict (length rays)) (firsts : AreFirstRows dim rays strict places sat.rows first (length sat.rows)) (same_length : length keep ≡ length first) (passed : IsPassed level strict sat.rows first keep (length sat.rows)) where
      first_at : (i : ℕ) → i < length (vectors rays) → IsTrue (flag first i) ↔ StaysAtFirst dim rays strict places sat.rows i
      first_at i h = firsts.each i (omega (arith, h, as_many, length-vectors rays))

      bare_there : (i : ℕ) → i < length (vectors rays) → IsClear places (bits_of sat.rows i) (length places) → IsBare dim list (vector_at (vectors rays) i)
      bare_there i h f j l z o = by_last (same_or_not (cell (row_at list j) (dim + 1)) (pos 0))
        where
          by_last : (cell (row_at list j) (dim + 1) ≡ pos 0) ⊎ (cell (row_at list j) (dim + 1) ≢ pos 0) → cell (row_at list j) (dim + 1) ≡ pos 0
          by_last (inl e) = e
          by_last (inr n) = absurd (f j (omega (arith, l, is_place.as_many)) ((is_place.each j l).1 (z, n)) ((bit i j h l).1 o))

      covered_there : (i : ℕ) → i < length (vectors rays) → IsCoveredRow level strict sat.rows keep i → IsCovered dim list (vectors rays) keep i
      covered_there i h (t, c) =
          let k : t < length (vectors rays) = omega (arith, c.row, as_many, length-vectors rays) in
          record {
            index = t;
            below = k;
            other = c.other;
            strict = (strict_ray strict is_strict t k).0 c.marked;
            kept = c.kept;
            covers = covers_there i t h k c.covers;
          }

      spare_there : (i : ℕ) → i < length (vectors rays) → kept_at keep i ≡ false → IsSpare dim list (vectors rays) keep i
      spare_there i h f = by_first (bool_or_not (flag first i))
        where
          with_variable : HasVariable dim (vector_at (vectors rays) i) → ¬ (StaysAtFirst dim rays strict places sat.rows i) → IsTrue (flag strict i) ⊎ (¬ (IsTrue (flag strict i))) → IsClear places (bits_of sat.rows i) (length places) ⊎ IsUnclear places (bits_of sat.rows i) (length places) → IsSpare dim list (vectors rays) keep i
          with_variable v n (inl s) (inl c) = inr ((strict_ray strict is_strict i h).0 s, inl (bare_there i h c))
          with_variable v n (inl s) (inr u) = absurd (n (subst (HasVariable dim) (vector_at-vectors rays i) v, λ b. b.1 u.column u.below u.marked u.bit))
          with_variable v n (inr ns) c = absurd (n (subst (HasVariable dim) (vector_at-vectors rays i) v, λ b. ns b.0))

          by_variable : ¬ (StaysAtFirst dim rays strict places sat.rows i) → HasVariable dim (vector_at (vectors rays) i) ⊎ HasNoVariable dim (vector_at (vectors rays) i) → IsSpare dim list (vectors rays) keep i
          by_variable n (inr z) = inl z
          by_variable n (inl v) = with_variable v n (bool_or_not (flag strict i)) (clear_or_not places (bits_of sat.rows i) (length places))

          by_first : IsTrue (flag first i) ⊎ (¬ (IsTrue (flag first i))) → IsSpare dim list (vectors rays) keep i
          by_first (inl t) = (let s = passed.spare i t (not_kept keep i f) in inr ((strict_ray strict is_strict i h).0 s.0, inr (covered_there i h s.1)))
          by_first (inr n) = by_variable (λ s. n ((first_at i h).1 s)) (variable_or_not (vector_at (vectors rays) i) dim)

      place_there : (i : ℕ) → i < length (vectors rays) → kept_at keep i ≡ true → cell (vector_at (vectors rays) i) dim <ℤ pos 0 → HasPlace dim list (vector_at (vectors rays) i)
      place_there i h t s = by_search (clear_or_not places (bits_of sat.rows i) (length places))
        where
          found : IsUnclear places (bits_of sat.rows i) (length places) → HasPlace dim list (vector_at (vectors rays) i)
          found u =
              let l : u.column < length list = omega (arith, u.below, is_place.as_many) in
              record {
                number = u.column;
                below = l;
                level = ((is_place.each u.column l).0 u.marked).0;
                zero_on = (bit i u.column h l).0 u.bit;
                place = ((is_place.each u.column l).0 u.marked).1;
              }

          by_search : IsClear places (bits_of sat.rows i) (length places) ⊎ IsUnclear places (bits_of sat.rows i) (length places) → HasPlace dim list (vector_at (vectors rays) i)
          by_search (inl c) = absurd (((first_at i h).0 (passed.fewer i t)).1 ((strict_ray strict is_strict i h).1 s, c))
          by_search (inr u) = found u

      pub strict_pass_is : IsStrictPass dim list (vectors rays) keep
      strict_pass_is = record {
        as_many = same_length ∙ firsts.as_many ∙ table.each.as_many;
        spare = spare_there;
        variable = λ i h t. subst (HasVariable dim) (sym (vector_at-vectors rays i)) ((first_at i h).0 (passed.fewer i t)).0;
        place = place_there;
        apart = λ i t h k a b d s r. apart_when strict keep i t h k d ((strict_ray strict is_strict t k).1 r) b (passed.apart i (omega (arith, h, as_many, length-vectors rays)) ((strict_ray strict is_strict i h).1 s) a);
      }

    -- ---- generators
    module _ (strict places points first keep : List Bool) (is_strict : AreTold Strict dim list strict (length list)) (is_place : AreTold Place dim rays places (length rays)) (is_point : AreTold Point dim rays points (length rays)) (firsts : AreFirstVectors places strict sat.rows first (length sat.rows)) (same_length : length keep ≡ length first) (passed : IsPassed level points sat.rows first keep (length sat.rows)) where
      first_vector : (i : ℕ) → i < length (vectors rays) → IsTrue (flag first i) ↔ (¬ (IsTrue (flag places i) × IsClear strict (bits_of sat.rows i) (length strict)))
      first_vector i h = firsts.each i (omega (arith, h, as_many, length-vectors rays))

      loose_there : (i : ℕ) → i < length (vectors rays) → IsClear strict (bits_of sat.rows i) (length strict) → IsLoose dim list (vector_at (vectors rays) i)
      loose_there i h f j l s o = f j (omega (arith, l, is_strict.as_many)) ((is_strict.each j l).1 s) ((bit i j h l).1 o)

      covered_point : (i : ℕ) → i < length (vectors rays) → IsCoveredRow level points sat.rows keep i → IsCoveredPoint dim list (vectors rays) keep i
      covered_point i h (t, c) =
          let k : t < length (vectors rays) = omega (arith, c.row, as_many, length-vectors rays) in
          record {
            index = t;
            below = k;
            other = c.other;
            point = (point_ray points is_point t k).0 c.marked;
            kept = c.kept;
            covers = covers_there i t h k c.covers;
          }

      spare_vector : (i : ℕ) → i < length (vectors rays) → kept_at keep i ≡ false → IsSpareVector dim list (vectors rays) keep i
      spare_vector i h f = by_first (bool_or_not (flag first i))
        where
          by_both : ¬ (IsTrue (flag first i)) → IsTrue (flag places i) ⊎ (¬ (IsTrue (flag places i))) → IsClear strict (bits_of sat.rows i) (length strict) ⊎ IsUnclear strict (bits_of sat.rows i) (length strict) → IsSpareVector dim list (vectors rays) keep i
          by_both n (inl p) (inl c) = inr (((place_ray places is_place i h).0 p).0, loose_there i h c)
          by_both n (inl p) (inr u) = absurd (n ((first_vector i h).1 (λ b. b.1 u.column u.below u.marked u.bit)))
          by_both n (inr q) c = absurd (n ((first_vector i h).1 (λ b. q b.0)))

          by_first : IsTrue (flag first i) ⊎ (¬ (IsTrue (flag first i))) → IsSpareVector dim list (vectors rays) keep i
          by_first (inl t) = (let s = passed.spare i t (not_kept keep i f) in inl ((point_ray points is_point i h).0 s.0, covered_point i h s.1))
          by_first (inr n) = by_both n (bool_or_not (flag places i)) (clear_or_not strict (bits_of sat.rows i) (length strict))

      bound_there : (i : ℕ) → i < length (vectors rays) → kept_at keep i ≡ true → cell (vector_at (vectors rays) i) dim ≡ pos 0 → cell (vector_at (vectors rays) i) (dim + 1) ≢ pos 0 → HasStrictRow dim list (vector_at (vectors rays) i)
      bound_there i h t z d = by_search (clear_or_not strict (bits_of sat.rows i) (length strict))
        where
          found : IsUnclear strict (bits_of sat.rows i) (length strict) → HasStrictRow dim list (vector_at (vectors rays) i)
          found u =
              let l : u.column < length list = omega (arith, u.below, is_strict.as_many) in
              record {
                number = u.column;
                below = l;
                strict = (is_strict.each u.column l).0 u.marked;
                zero_on = (bit i u.column h l).0 u.bit;
              }

          by_search : IsClear strict (bits_of sat.rows i) (length strict) ⊎ IsUnclear strict (bits_of sat.rows i) (length strict) → HasStrictRow dim list (vector_at (vectors rays) i)
          by_search (inl c) = absurd ((first_vector i h).0 (passed.fewer i t) ((place_ray places is_place i h).1 (z, d), c))
          by_search (inr u) = found u

      pub point_pass_is : IsPointPass dim list (vectors rays) keep
      point_pass_is = record {
        as_many = same_length ∙ firsts.as_many ∙ table.each.as_many;
        spare = spare_vector;
        bound = bound_there;
        apart = λ i t h k a b d s r. apart_when points keep i t h k d ((point_ray points is_point t k).1 r) b (passed.apart i (omega (arith, h, as_many, length-vectors rays)) ((point_ray points is_point i h).1 s) a);
      }
