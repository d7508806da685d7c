-- A strict row that is neither bare nor covered can't be left out.
use Rattle.std.proofs.Common.{◌≡◌, ◌≢◌, ◌⊎◌, inl, inr, ℕ, zero, suc, ◌+◌, ◌<◌, List, [], length, slice_index_or, Bool, true, false, ℤ, pos, ◌+ℤ◌, neg_ℤ, ◌≤ℤ◌, ◌<ℤ◌, sym, ap, ◌∙◌, subst, arith}
use Rattle.std.specs.Prelude.{⊤}
use mathlib.Core.Bool.{true≢false}
use Rattle.std.proofs.lemmas.Int.{ints}
use Rattle.row_core.specs.Vectors.{cell, dot, add}
use Rattle.row_core.specs.Lists.{Row}
use Rattle.cone_laws.specs.Cones.{Upto, negated}
use Rattle.cone_laws.specs.Canon.{vector_at, IsSystem}
use Rattle.cone_laws.proofs.Ring.{by_sign}
use Rattle.cone_laws.proofs.Columns.{value, dot_is, dot_comm, dot-negated, length-add, cell-add, dot-add}
use Rattle.nnc_enc.specs.Encoding.{lowered, IsEncodedDual}
use Rattle.nnc_enc.specs.StrongRows.{HasPlace, IsApart, IsLeftOver, StrictRowsAreNeeded, kept_at}
use Rattle.nnc_enc.proofs.MarkedSums.{same_number}
use Rattle.nnc_enc.proofs.KeptSums.{IsAbove, AreAbove, all_above}
use Rattle.nnc_enc.proofs.Removals.{bool_cases}
use Rattle.nnc_enc.proofs.EncodedRows.{dot_last}
use Rattle.nnc_enc.proofs.ClosedRows.{closed_side, lowered_wide}
use Rattle.nnc_enc.proofs.InnerPoint.{at_level, closed_of, last_closed, last_value, ray_closed}
use Rattle.nnc_enc.proofs.Relaxed.{both_least, cell-remove, last_row, positive_of_other, relaxed, remove_scale, skip_self}

module _ (dim : ℕ) (gens : List Row) (lines rays : List (List ℤ)) (wide : (j : ℕ) → j < length gens → length (slice_index_or gens j ([], false)).0 ≡ dim + 2) (system : IsSystem (Upto (dim + 2) gens (length gens)) lines rays) where
  abbrev gen : ℕ → List ℤ
  gen j = (slice_index_or gens j ([], false)).0

  abbrev D : List ℤ → Type 0
  D = Upto (dim + 2) gens (length gens)

  module _ (enc : IsEncodedDual dim (Upto (dim + 2) gens (length gens))) where
    -- ---- a strict row that can't be left out
    module _ (keep : List Bool) (i : ℕ) (hi : i < length rays) (si : cell (vector_at rays i) dim <ℤ pos 0) (place : HasPlace dim gens (vector_at rays i)) (apart_from : (t : ℕ) → t < length rays → kept_at keep t ≡ true → t ≢ i → cell (vector_at rays t) dim <ℤ pos 0 → IsApart dim gens (vector_at rays t) (vector_at rays i)) where
      -- a vector of the closure on which the row is 0
      record IsOnFace (v : List ℤ) : Type 0 where
        face_wide : length v ≡ dim + 1
        divisor : pos 0 ≤ℤ cell v dim
        lines_zero : (m : ℕ) → m < length lines → dot (lowered dim (vector_at lines m)) v ≡ pos 0
        rays_least : (m : ℕ) → m < length rays → pos 0 ≤ℤ dot (lowered dim (vector_at rays m)) v
        face_zero : dot (lowered dim (vector_at rays i)) v ≡ pos 0

      added_least : (x y z : ℤ) → pos 0 ≤ℤ x → pos 0 ≤ℤ y → z ≡ x +ℤ y → pos 0 ≤ℤ z
      added_least x y z p q e = omega (arith, ints, p, q, e)

      added_zero : (x y z : ℤ) → x ≡ pos 0 → y ≡ pos 0 → z ≡ x +ℤ y → z ≡ pos 0
      added_zero x y z p q e = omega (arith, ints, p, q, e)

      face_add : (u v : List ℤ) → IsOnFace u → IsOnFace v → IsOnFace (add u v)
      face_add u v a b = record {
        face_wide = length-add u v (a.face_wide ∙ sym b.face_wide) ∙ b.face_wide;
        divisor = added_least (cell u dim) (cell v dim) (cell (add u v) dim) a.divisor b.divisor (cell-add u v dim);
        lines_zero = λ m h. added_zero (dot (lowered dim (vector_at lines m)) u) (dot (lowered dim (vector_at lines m)) v) (dot (lowered dim (vector_at lines m)) (add u v)) (a.lines_zero m h) (b.lines_zero m h) (dot-add (lowered dim (vector_at lines m)) u v);
        rays_least = λ m h. added_least (dot (lowered dim (vector_at rays m)) u) (dot (lowered dim (vector_at rays m)) v) (dot (lowered dim (vector_at rays m)) (add u v)) (a.rays_least m h) (b.rays_least m h) (dot-add (lowered dim (vector_at rays m)) u v);
        face_zero = added_zero (dot (lowered dim (vector_at rays i)) u) (dot (lowered dim (vector_at rays i)) v) (dot (lowered dim (vector_at rays i)) (add u v)) a.face_zero b.face_zero (dot-add (lowered dim (vector_at rays i)) u v);
      }

      row_on : (m j : ℕ) → m < length rays → j < length gens → dot (lowered dim (vector_at rays m)) (lowered dim (gen j)) ≡ value (lowered dim (gen j)) (relaxed dim rays (suc m))
      row_on m j h l = dot_comm (lowered dim (vector_at rays m)) (lowered dim (gen j)) ∙ dot_is (lowered dim (gen j)) (lowered dim (vector_at rays m))

      gen_line : (m j : ℕ) → m < length lines → j < length gens → dot (lowered dim (vector_at lines m)) (lowered dim (gen j)) ≡ pos 0
      gen_line m j h l =
          let c = system.generates.lines_within m [] h in
          let a = vector_at lines m in
          let e : dot (lowered dim (gen j)) (lowered dim (negated a)) ≡ neg_ℤ (dot (lowered dim (gen j)) (lowered dim a)) = ap (dot (lowered dim (gen j))) (remove_scale dim (neg_ℤ (pos 1)) a) ∙ dot-negated (lowered dim (gen j)) (lowered dim a) in
          dot_comm (lowered dim a) (lowered dim (gen j))
          ∙ both_least (dot (lowered dim (gen j)) (lowered dim a)) (dot (lowered dim (gen j)) (lowered dim (negated a)))
          (subst (λ (z : ℤ). pos 0 ≤ℤ z) (sym (dot_is (lowered dim (gen j)) (lowered dim a))) (closed_side dim gens lines rays wide system j l (cell (lowered dim a)) (closed_of dim gens lines rays wide system enc a c.0)))
          (subst (λ (z : ℤ). pos 0 ≤ℤ z) (sym (dot_is (lowered dim (gen j)) (lowered dim (negated a)))) (closed_side dim gens lines rays wide system j l (cell (lowered dim (negated a))) (closed_of dim gens lines rays wide system enc (negated a) c.1)))
          e

      gen_on_face : (j : ℕ) → j < length gens → cell (gen j) dim ≡ pos 0 → dot (gen j) (vector_at rays i) ≡ pos 0 → IsOnFace (lowered dim (gen j))
      gen_on_face j l e z = record {
        face_wide = lowered_wide dim gens lines rays wide system (gen j) (wide j l);
        divisor = subst (λ (x : ℤ). pos 0 ≤ℤ x) (sym (dot_is (lowered dim (gen j)) (last_row dim)) ∙ last_value dim gens lines rays wide system enc (lowered dim (gen j))) (closed_side dim gens lines rays wide system j l (relaxed dim rays zero) (last_closed dim gens lines rays wide system enc));
        lines_zero = λ m h. gen_line m j h l;
        rays_least = λ m h. subst (λ (x : ℤ). pos 0 ≤ℤ x) (sym (row_on m j h l)) (closed_side dim gens lines rays wide system j l (relaxed dim rays (suc m)) (ray_closed dim gens lines rays wide system enc m h));
        face_zero = row_on i j hi l ∙ sym (at_level dim gens lines rays wide system enc i j hi l e) ∙ z;
      }

      -- the row d, and the rows
      abbrev wanted_row : ℕ → List ℤ
      wanted_row zero = last_row dim
      wanted_row (suc t) = lowered dim (vector_at rays t)

      abbrev Wanted : ℕ → Type 0
      Wanted zero = ⊤
      Wanted (suc t) = (t < length rays) × (kept_at keep t ≡ true) × (t ≢ i) × (cell (vector_at rays t) dim <ℤ pos 0)

      wanted_least : (t : ℕ) → Wanted t → (v : List ℤ) → IsOnFace v → pos 0 ≤ℤ dot (wanted_row t) v
      wanted_least zero w v f = subst (λ (x : ℤ). pos 0 ≤ℤ x) (sym (dot_last dim v)) f.divisor
      wanted_least (suc t) w v f = f.rays_least t w.0

      place_face : IsOnFace (lowered dim (gen place.number))
      place_face = gen_on_face place.number place.below place.level place.zero_on

      wanted_above : (t : ℕ) → t < suc (length rays) → (¬ (Wanted t)) ⊎ IsAbove IsOnFace (wanted_row t)
      wanted_above zero h = inr (record {
        vector = lowered dim (gen place.number);
        within = place_face;
        above = positive_of_other (dot (last_row dim) (lowered dim (gen place.number))) (wanted_least zero tt (lowered dim (gen place.number)) place_face)
            (λ e. place.place (sym (dot_last dim (lowered dim (gen place.number)) ∙ cell-remove dim (gen place.number) dim ∙ ap (cell (gen place.number)) (skip_self dim ∙ omega arith)) ∙ e));
      })
      wanted_above (suc t) h = by_kept (bool_cases (kept_at keep t)) (same_number t i) (by_sign (cell (vector_at rays t) dim))
        where
          not_strict : (x : ℤ) → pos 0 ≤ℤ x → x <ℤ pos 0 → ⊥
          not_strict x p q = omega (arith, ints, p, q)

          least_of_positive : (x : ℤ) → pos 0 <ℤ x → pos 0 ≤ℤ x
          least_of_positive x p = omega (arith, ints, p)

          least_of_zero : (x : ℤ) → x ≡ pos 0 → pos 0 ≤ℤ x
          least_of_zero x p = omega (arith, ints, p)

          by_apart : t < length rays → IsApart dim gens (vector_at rays t) (vector_at rays i) → IsAbove IsOnFace (lowered dim (vector_at rays t))
          by_apart l a = record {
            vector = lowered dim (gen a.number);
            within = gen_on_face a.number a.below a.level a.zero_on;
            above = positive_of_other (dot (lowered dim (vector_at rays t)) (lowered dim (gen a.number))) ((gen_on_face a.number a.below a.level a.zero_on).rays_least t l)
                (λ e. a.other (at_level dim gens lines rays wide system enc t a.number l a.below a.level ∙ sym (row_on t a.number l a.below) ∙ e));
          }

          by_kept : (kept_at keep t ≡ true) ⊎ (kept_at keep t ≡ false) → (t ≡ i) ⊎ (t ≢ i) → (pos 0 <ℤ cell (vector_at rays t) dim) ⊎ ((cell (vector_at rays t) dim <ℤ pos 0) ⊎ (cell (vector_at rays t) dim ≡ pos 0)) → (¬ (Wanted (suc t))) ⊎ IsAbove IsOnFace (wanted_row (suc t))
          by_kept (inr e) y s = inl (λ w. true≢false (sym w.1 ∙ e))
          by_kept (inl k) (inl e) s = inl (λ w. w.2 e)
          by_kept (inl k) (inr ne) (inl s) = inl (λ w. not_strict (cell (vector_at rays t) dim) (least_of_positive (cell (vector_at rays t) dim) s) w.3)
          by_kept (inl k) (inr ne) (inr (inr s)) = inl (λ w. not_strict (cell (vector_at rays t) dim) (least_of_zero (cell (vector_at rays t) dim) s) w.3)
          by_kept (inl k) (inr ne) (inr (inl s)) = inr (by_apart (omega (arith, h)) (apart_from t (omega (arith, h)) k ne s))

      pub left_over : IsLeftOver dim lines rays keep i
      left_over = finish (all_above IsOnFace face_add (lowered dim (gen place.number)) place_face wanted_row Wanted wanted_least (suc (length rays)) wanted_above)
        where
          finish : AreAbove IsOnFace (suc (length rays)) wanted_row Wanted → IsLeftOver dim lines rays keep i
          finish a = record {
            vector = a.vector;
            point = record { wide = a.within.face_wide; positive = subst (λ (x : ℤ). pos 0 <ℤ x) (dot_last dim a.vector) (a.above zero (omega arith) tt) };
            on_lines = a.within.lines_zero;
            least = a.within.rays_least;
            strict = λ m h k ne s. a.above (suc m) (omega (arith, h)) (h, k, ne, s);
            zero_on = a.within.face_zero;
          }

pub strict_rows_are_needed : StrictRowsAreNeeded
strict_rows_are_needed dim gens lines rays keep i wide system enc hi si place apart_from = left_over dim gens lines rays wide system enc keep i hi si place apart_from
