use Rattle.std.proofs.Common.{◌≡◌, ◌≢◌, ◌⊎◌, inl, inr, ℕ, ◌+◌, ◌<◌, ◌≤◌, Bool, false, List, length, refl, sym, ap, ◌∙◌, subst, arith}
use Rattle.std.specs.Prelude.{IsTrue, slice_set}
use Rattle.std.proofs.lemmas.List.{get_or-set_same, get_or-set_other, get_or_past}
use Rattle.std.proofs.lemmas.Bool.{false≢true, cases_lt}
use Rattle.cone_laws.proofs.ThirdRay.{same_number}
use Rattle.sat_matrix.specs.Tables.{bits_of, Covers}
use Rattle.nnc_enc.specs.Marks.{flag}
use Rattle.nnc_enc.specs.Passes.{HasMarksRow, IsCover, IsCoveredRow, IsDropped, IsLeft, IsStep, IsPassed}

pub covers_covers : (level a b c : List Bool) → Covers level a b → Covers level b c → Covers level a c
covers_covers level a b c f g n h l t = g n h l (f n h l t)

module _ (level marks : List Bool) (rows : List (List Bool)) (old cur new : List Bool) (i : ℕ) where
  kept_before : i < length cur → new ≡ slice_set cur i false → (j : ℕ) → IsTrue (flag new j) → (j ≢ i) × IsTrue (flag cur j)
  kept_before b w j h = by_number (same_number j i)
    where
      by_number : (j ≡ i) ⊎ (j ≢ i) → (j ≢ i) × IsTrue (flag cur j)
      by_number (inl s) = absurd (false≢true (sym (get_or-set_same cur i false false b) ∙ ap (λ (l : List Bool). flag l i) (sym w) ∙ ap (flag new) (sym s) ∙ h))
      by_number (inr d) = (d, sym (get_or-set_other cur i j false false d) ∙ ap (λ (l : List Bool). flag l j) (sym w) ∙ h)

  still_kept : new ≡ slice_set cur i false → (j : ℕ) → j ≢ i → IsTrue (flag cur j) → IsTrue (flag new j)
  still_kept w j d h = ap (λ (l : List Bool). flag l j) w ∙ get_or-set_other cur i j false false d ∙ h

  module _ (inv : IsPassed level marks rows old cur i) (b : i < length cur) (drop : IsDropped level marks rows cur new i) where
    moved : (j t : ℕ) → t ≢ i → IsCover level marks rows cur j t → IsCover level marks rows new j t
    moved j t d c = record { row = c.row; other = c.other; marked = c.marked; kept = still_kept drop.written t d c.kept; covers = c.covers }

    -- what row i covered is covered by the cover of row i
    passed_on : (j : ℕ) → ¬ (IsTrue (flag cur j)) → IsCoveredRow level marks rows cur j → IsCoveredRow level marks rows new j
    passed_on j n (t, c) = by_number (same_number t i)
      where
        by_number : (t ≡ i) ⊎ (t ≢ i) → IsCoveredRow level marks rows new j
        by_number (inr d) = (t, moved j t d c)
        by_number (inl s) = beyond drop.covered
          where
            beyond : IsCoveredRow level marks rows cur i → IsCoveredRow level marks rows new j
            beyond (u, k) = (
              u,
              record {
                row = k.row;
                other = λ q. n (subst (λ (m : ℕ). IsTrue (flag cur m)) q k.kept);
                marked = k.marked;
                kept = still_kept drop.written u k.other k.kept;
                covers = covers_covers level (bits_of rows j) (bits_of rows i) (bits_of rows u) (subst (λ (m : ℕ). Covers level (bits_of rows j) (bits_of rows m)) s c.covers) k.covers;
              },
            )

    spare_dropped : (j : ℕ) → IsTrue (flag old j) → ¬ (IsTrue (flag new j)) → IsTrue (flag marks j) × IsCoveredRow level marks rows new j
    spare_dropped j o n = by_number (same_number j i)
      where
        by_number : (j ≡ i) ⊎ (j ≢ i) → IsTrue (flag marks j) × IsCoveredRow level marks rows new j
        by_number (inl s) = subst (λ (m : ℕ). IsTrue (flag marks m) × IsCoveredRow level marks rows new m) (sym s) (drop.marked, (drop.covered.0, moved i drop.covered.0 drop.covered.1.other drop.covered.1))
        by_number (inr d) = (let was = inv.spare j o (λ h. n (still_kept drop.written j d h)) in (was.0, passed_on j (λ h. n (still_kept drop.written j d h)) was.1))

    apart_dropped : (j : ℕ) → j < i + 1 → IsTrue (flag marks j) → IsTrue (flag new j) → ¬ (IsCoveredRow level marks rows new j)
    apart_dropped j l m k (t, c) =
        let here = kept_before b drop.written j k in
        let there = kept_before b drop.written t c.kept in
        let apart : j ≢ i = here.0 in
        inv.apart j (omega (arith, l, apart)) m here.1 (t, record { row = c.row; other = c.other; marked = c.marked; kept = there.1; covers = c.covers })

    dropped_more : IsPassed level marks rows old new (i + 1)
    dropped_more = record {
      fewer = λ j h. inv.fewer j (kept_before b drop.written j h).1;
      spare = spare_dropped;
      apart = apart_dropped;
    }

  left_more : IsPassed level marks rows old cur i → IsLeft level marks rows cur cur i → IsPassed level marks rows old cur (i + 1)
  left_more inv left = record { fewer = inv.fewer; spare = inv.spare; apart = all_apart }
    where
      all_apart : (j : ℕ) → j < i + 1 → IsTrue (flag marks j) → IsTrue (flag cur j) → ¬ (IsCoveredRow level marks rows cur j)
      all_apart j l m k = by_number (same_number j i)
        where
          by_number : (j ≡ i) ⊎ (j ≢ i) → ¬ (IsCoveredRow level marks rows cur j)
          by_number (inl s) = subst (λ (n : ℕ). IsTrue (flag marks n) → IsTrue (flag cur n) → ¬ (IsCoveredRow level marks rows cur n)) (sym s) left.bare m k
          by_number (inr d) = inv.apart j (omega (arith, l, d)) m k

pub passed_more : (level marks : List Bool) (rows : List (List Bool)) (old cur new : List Bool) (i : ℕ) → i < length cur → IsPassed level marks rows old cur i → IsStep level marks rows cur new i → IsPassed level marks rows old new (i + 1)
passed_more level marks rows old cur new i b inv (inl drop) = dropped_more level marks rows old cur new i inv b drop
passed_more level marks rows old cur new i b inv (inr left) = subst (λ (l : List Bool). IsPassed level marks rows old l (i + 1)) (sym left.same) (left_more level marks rows old cur cur i inv (record { same = refl; bare = left.bare }))

-- ---- a table with one more row, of the marks
pub flag_within : (marks : List Bool) (t : ℕ) → IsTrue (flag marks t) → t < length marks
flag_within marks t h = by_place (cases_lt t (length marks))
  where
    by_place : (t < length marks) ⊎ (length marks ≤ t) → t < length marks
    by_place (inl l) = l
    by_place (inr n) = absurd (false≢true (sym (get_or_past marks t false n) ∙ h))

module _ (level marks : List Bool) (rows more : List (List Bool)) (has : HasMarksRow level rows more) (as_many : length marks ≡ length rows) where
  covers_level : (a b : List Bool) → Covers (bits_of more (length rows)) a b → Covers level a b
  covers_level a b h c l t = h c (omega (arith, l, has.wide)) (has.marked c ∙ t)

  covers_more : (a b : List Bool) → Covers level a b → Covers (bits_of more (length rows)) a b
  covers_more a b h c l t = h c (omega (arith, l, has.wide)) (sym (has.marked c) ∙ t)

  cover_of_more : (keep : List Bool) (i : ℕ) → i < length rows → IsCoveredRow (bits_of more (length rows)) marks more keep i → IsCoveredRow level marks rows keep i
  cover_of_more keep i h (t, c) =
      let l : t < length rows = omega (arith, flag_within marks t c.marked, as_many) in (
        t,
        record {
          row = l;
          other = c.other;
          marked = c.marked;
          kept = c.kept;
          covers = covers_level (bits_of rows i) (bits_of rows t) (subst (λ (a : List Bool). Covers (bits_of more (length rows)) a (bits_of rows t)) (has.same i h) (subst (λ (b : List Bool). Covers (bits_of more (length rows)) (bits_of more i) b) (has.same t l) c.covers));
        },
      )

  cover_in_more : (keep : List Bool) (i : ℕ) → i < length rows → IsCoveredRow level marks rows keep i → IsCoveredRow (bits_of more (length rows)) marks more keep i
  cover_in_more keep i h (t, c) = (
    t,
    record {
      row = omega (arith, c.row, has.as_many);
      other = c.other;
      marked = c.marked;
      kept = c.kept;
      covers = subst (λ (b : List Bool). Covers (bits_of more (length rows)) (bits_of more i) b) (sym (has.same t c.row)) (subst (λ (a : List Bool). Covers (bits_of more (length rows)) a (bits_of rows t)) (sym (has.same i h)) (covers_more (bits_of rows i) (bits_of rows t) c.covers));
    },
  )

  -- what is passed by the marks of that row is passed by the marks
  pub passed_of_more : (old new : List Bool) → IsPassed (bits_of more (length rows)) marks more old new (length rows) → IsPassed level marks rows old new (length rows)
  passed_of_more old new p = record {
    fewer = p.fewer;
    spare = λ i o n. (let s = p.spare i o n in (s.0, cover_of_more new i (omega (arith, flag_within marks i s.0, as_many)) s.1));
    apart = λ i l m k c. p.apart i l m k (cover_in_more new i l c);
  }
