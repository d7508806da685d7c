-- The constraints of what a strong pass keeps: the same points, and none to spare.
use Rattle.std.proofs.Common.{◌≡◌, ◌≢◌, ◌⊎◌, inl, inr, ℕ, zero, suc, ◌+◌, ◌-◌, ◌<◌, ◌≤◌, List, [], length, slice_index_or, Bool, true, false, ℤ, pos, negsuc, ◌*ℤ◌, ◌≤ℤ◌, ◌<ℤ◌, refl, sym, ap, ◌∙◌, subst, arith}
use Rattle.std.specs.Prelude.{◌↔◌, All}
use Rattle.std.proofs.lemmas.Int.{ints}
use Rattle.std.proofs.lemmas.List.Elements.{All-get_or, All-from_get_or}
use Rattle.std.proofs.lemmas.Bool.{cases_lt}
use Rattle.row_core.specs.Vectors.{cell, dot, scale}
use Rattle.row_core.specs.Content.{IsPrimitiveOf}
use Rattle.row_core.specs.Lists.{Row, row_at, vectors}
use Rattle.row_core.specs.Points.{IsPoint}
use Rattle.cone_laws.specs.Cones.{Upto}
use Rattle.cone_laws.specs.Canon.{vector_at, IsSystem}
use Rattle.cone_laws.proofs.Ring.{mul-zero, mul-positive, mul-at_least_zero, zero_of_mul, at_least_zero_of_mul, positive_of_mul}
use Rattle.cone_laws.proofs.Columns.{dot_comm, dot-scale}
use Rattle.cons_sys.specs.Kinds.{Allows}
use Rattle.cons_sys.specs.Constraints.{Constraint, Satisfies, constraint_at}
use Rattle.cons_sys.specs.declared.kind.ConKind.TheVariants.{Eq}
use Rattle.nnc_enc.specs.Encoding.{lowered, Codes, IsEncodedDual}
use Rattle.nnc_enc.specs.StrongRows.{HoldsAt, RowsHold, kept_at, IsSpare, IsAdmittedVector, IsLeftOver}
use Rattle.nnc_enc.proofs.CodedRows.{rows_are_coded}
use Rattle.nnc_enc.proofs.LeftOutRows.{kept_rows_hold}
use Rattle.nnc_enc.proofs.LevelRows.{level_rows_are_needed}
use Rattle.nnc_enc.proofs.NeededRows.{strict_rows_are_needed}
use Rattle.nnc_enc.proofs.RowHeights.{height_at_most}
use Rattle.nnc_enc.specs.Strong.{IsStrictPass}
use Rattle.nnc_enc.specs.Decoding.{index_at, con_kind, Stands, AreConstraintsOf, AreKept}
use Rattle.nnc_enc.specs.Needs.{IsBesideLine}
use Rattle.nnc_enc.specs.Kept.{KeptConstraintsCode, KeptConstraintsAreNeeded, IsNeededConstraint}
use Rattle.nnc_enc.proofs.MarkLemmas.{length-vectors, vector_at-vectors}
use Rattle.nnc_enc.proofs.NeededLemmas.{beside_line}

positive_times : (n : ℕ) → 0 < n → pos 0 <ℤ pos n
positive_times n h = omega (arith, ints, h)

-- the value of a row is a positive multiple of that of its primitive one
value_of : (r s p : List ℤ) (m : IsPrimitiveOf r s) → dot r p ≡ pos m.multiple.times *ℤ dot s p
value_of r s p m = ap (λ (v : List ℤ). dot v p) m.multiple.same ∙ dot_comm (scale (pos m.multiple.times) s) p ∙ dot-scale p (pos m.multiple.times) s ∙ ap (λ (z : ℤ). pos m.multiple.times *ℤ z) (dot_comm p s)

times_zero : (t x y : ℤ) → x ≡ t *ℤ y → y ≡ pos 0 → x ≡ pos 0
times_zero t x y e z = e ∙ ap (λ (n : ℤ). t *ℤ n) z ∙ mul-zero t

line_satisfied : (dim : ℕ) (r p : List ℤ) (c : Constraint) → Stands dim r Eq c → Satisfies p c ↔ (dot (lowered dim r) p ≡ pos 0)
line_satisfied dim r p c s = (λ h. times_zero (pos s.primitive.multiple.times) (dot (lowered dim r) p) (dot c.0 p) (value_of (lowered dim r) c.0 p s.primitive) (subst (λ k. Allows k (dot c.0 p)) s.kind h), λ z. subst (λ k. Allows k (dot c.0 p)) (sym s.kind) (zero_of_mul (pos s.primitive.multiple.times) (dot c.0 p) (positive_times s.primitive.multiple.times s.primitive.multiple.positive) (sym (value_of (lowered dim r) c.0 p s.primitive) ∙ z)))

-- what the kind asks, by the value of the multiple
asked : (e t x y : ℤ) → pos 0 <ℤ t → x ≡ t *ℤ y → Allows (con_kind e) y ↔ ((pos 0 ≤ℤ x) × (e <ℤ pos 0 → pos 0 <ℤ x))
asked (pos n) t x y h e = (λ a. (subst (λ (z : ℤ). pos 0 ≤ℤ z) (sym e) (least t y h a), λ l. absurd (omega (arith, ints, l))), λ b. at_least_zero_of_mul t y h (subst (λ (z : ℤ). pos 0 ≤ℤ z) e b.0))
  where
    least : (t y : ℤ) → pos 0 <ℤ t → pos 0 ≤ℤ y → pos 0 ≤ℤ (t *ℤ y)
    least t y h a = mul-at_least_zero t y (omega (arith, ints, h)) a
asked (negsuc n) t x y h e = (λ a. (weak (t *ℤ y) x e (mul-positive t y h a), λ l. subst (λ (z : ℤ). pos 0 <ℤ z) (sym e) (mul-positive t y h a)), λ b. positive_of_mul t y h (subst (λ (z : ℤ). pos 0 <ℤ z) e (b.1 (omega (arith, ints)))))
  where
    weak : (z x : ℤ) → x ≡ z → pos 0 <ℤ z → pos 0 ≤ℤ x
    weak z x e p = omega (arith, ints, e, p)

ray_satisfied : (dim : ℕ) (r p : List ℤ) (c : Constraint) → Stands dim r (con_kind (cell r dim)) c → Satisfies p c ↔ HoldsAt dim r p
ray_satisfied dim r p c s =
    let a = asked (cell r dim) (pos s.primitive.multiple.times) (dot (lowered dim r) p) (dot c.0 p) (positive_times s.primitive.multiple.times s.primitive.multiple.positive) (value_of (lowered dim r) c.0 p s.primitive) in
    (λ h. let b = a.0 (subst (λ k. Allows k (dot c.0 p)) s.kind h) in record { least = b.0; strict = b.1 }, λ h. subst (λ k. Allows k (dot c.0 p)) (sym s.kind) (a.1 (h.least, h.strict)))

module _ (dim : ℕ) (gens lines rays : List Row) (keep : List Bool) (order : List ℕ) (list : List Constraint) (wide : (j : ℕ) → j < length gens → length (slice_index_or gens j ([], false)).0 ≡ dim + 2) (system : IsSystem (Upto (dim + 2) gens (length gens)) (vectors lines) (vectors rays)) (enc : IsEncodedDual dim (Upto (dim + 2) gens (length gens))) (kept : AreKept keep order (length rays)) (listed : AreConstraintsOf dim lines rays order list) where
  line_in : (i : ℕ) → i < length (vectors lines) → i < length lines
  line_in i h = omega (arith, h, length-vectors lines)

  ray_in : (i : ℕ) → i < length (vectors rays) → i < length rays
  ray_in i h = omega (arith, h, length-vectors rays)

  line_entry : (i : ℕ) (p : List ℤ) → i < length (vectors lines) → Satisfies p (constraint_at list i) ↔ (dot (lowered dim (vector_at (vectors lines) i)) p ≡ pos 0)
  line_entry i p h = subst (λ (v : List ℤ). Satisfies p (constraint_at list i) ↔ (dot (lowered dim v) p ≡ pos 0)) (sym (vector_at-vectors lines i)) (line_satisfied dim (row_at lines i) p (constraint_at list i) (listed.line i (line_in i h)))

  ray_entry : (k : ℕ) (p : List ℤ) → k < length order → Satisfies p (constraint_at list (length lines + k)) ↔ HoldsAt dim (vector_at (vectors rays) (index_at order k)) p
  ray_entry k p h = subst (λ (v : List ℤ). Satisfies p (constraint_at list (length lines + k)) ↔ HoldsAt dim v p) (sym (vector_at-vectors rays (index_at order k))) (ray_satisfied dim (row_at rays (index_at order k)) p (constraint_at list (length lines + k)) (listed.ray k h))

  ordered_in : (k : ℕ) → k < length order → index_at order k < length (vectors rays)
  ordered_in k h = omega (arith, (kept.each k h).0, length-vectors rays)

  -- each entry is one of a line or of a ray
  pub record IsRayEntry (m : ℕ) : Type 0 where
    pub place : ℕ
    pub below : place < length order
    pub same : m ≡ length lines + place

  entry_cases : (m : ℕ) → m < length list → (m < length (vectors lines)) ⊎ IsRayEntry m
  entry_cases m h = by_place (cases_lt m (length lines))
    where
      by_place : (m < length lines) ⊎ (length lines ≤ m) → (m < length (vectors lines)) ⊎ IsRayEntry m
      by_place (inl l) = inl (omega (arith, l, length-vectors lines))
      by_place (inr l) = inr (record { place = m - length lines; below = omega (arith, l, h, listed.as_many); same = omega (arith, l) })

  -- the kept rays hold where the entries do
  kept_holds : (p : List ℤ) → All (Satisfies p) list → (j : ℕ) → j < length (vectors rays) → kept_at keep j ≡ true → HoldsAt dim (vector_at (vectors rays) j) p
  kept_holds p all j h t =
      let n = kept.all j (ray_in j h) t in
      subst (λ (m : ℕ). HoldsAt dim (vector_at (vectors rays) m) p) n.same ((ray_entry n.place p n.below).0 (All-get_or (Satisfies p) list (length lines + n.place) ([], Eq) (omega (arith, n.below, listed.as_many)) all))

  lines_zero : (p : List ℤ) → All (Satisfies p) list → (i : ℕ) → i < length (vectors lines) → dot (lowered dim (vector_at (vectors lines) i)) p ≡ pos 0
  lines_zero p all i h = (line_entry i p h).0 (All-get_or (Satisfies p) list i ([], Eq) (omega (arith, line_in i h, listed.as_many)) all)

  all_satisfied : (p : List ℤ) → RowsHold dim (vectors lines) (vectors rays) p → (m : ℕ) → m < length list → Satisfies p (constraint_at list m)
  all_satisfied p r m h = by_cases (entry_cases m h)
    where
      by_cases : (m < length (vectors lines)) ⊎ IsRayEntry m → Satisfies p (constraint_at list m)
      by_cases (inl l) = (line_entry m p l).1 (r.on_lines m l)
      by_cases (inr e) = subst (λ (n : ℕ). Satisfies p (constraint_at list n)) (sym e.same) ((ray_entry e.place p e.below).1 (r.on_rays (index_at order e.place) (ordered_in e.place e.below)))

  module _ (spare : (i : ℕ) → i < length (vectors rays) → kept_at keep i ≡ false → IsSpare dim gens (vectors rays) keep i) (p : List ℤ) (point : IsPoint dim p) where
    pub constraints_coded : All (Satisfies p) list ↔ Codes dim (IsAdmittedVector (dim + 2) gens) p
    constraints_coded =
        let coded = rows_are_coded dim gens (vectors lines) (vectors rays) p wide system enc point in (
          λ all. coded.0 (record {
            on_lines = lines_zero p all;
            on_rays = kept_rows_hold dim gens (vectors lines) (vectors rays) keep p wide system enc spare point (lines_zero p all) (kept_holds p all);
          }),
          λ c. All-from_get_or (Satisfies p) list ([], Eq) (all_satisfied p (coded.1 c)),
        )

  -- ---- none to spare
  module _ (pass : IsStrictPass dim gens (vectors rays) keep) where
    -- the other entries hold where the lines are 0 and the other kept rays hold
    module _ (k : ℕ) (hk : k < length order) where
      others_satisfied : (p : List ℤ) → ((i : ℕ) → i < length (vectors lines) → dot (lowered dim (vector_at (vectors lines) i)) p ≡ pos 0) → ((t : ℕ) → t < length (vectors rays) → kept_at keep t ≡ true → t ≢ index_at order k → HoldsAt dim (vector_at (vectors rays) t) p) → (m : ℕ) → m < length list → m ≢ length lines + k → Satisfies p (constraint_at list m)
      others_satisfied p f g m h d = by_cases (entry_cases m h)
        where
          by_cases : (m < length (vectors lines)) ⊎ IsRayEntry m → Satisfies p (constraint_at list m)
          by_cases (inl l) = (line_entry m p l).1 (f m l)
          by_cases (inr e) = subst (λ (n : ℕ). Satisfies p (constraint_at list n)) (sym e.same) ((ray_entry e.place p e.below).1 (g (index_at order e.place) (ordered_in e.place e.below) (kept.each e.place e.below).1 (λ q. d (e.same ∙ ap (λ (n : ℕ). length lines + n) (kept.once e.place k e.below hk q)))))

      abbrev ray : List ℤ
      ray = vector_at (vectors rays) (index_at order k)

      level_needed : cell (vector_at (vectors rays) (index_at order k)) dim ≡ pos 0 → IsNeededConstraint dim list (length lines + k)
      level_needed z f = level_rows_are_needed dim gens (vectors lines) (vectors rays) (index_at order k) wide system enc (ordered_in k hk) (pass.variable (index_at order k) (ordered_in k hk) (kept.each k hk).1) z
          (λ p point on_lines others. ((ray_entry k p hk).0 (f p point (others_satisfied p on_lines (λ t l q d. others t l d)))).least)

      strict_needed : cell (vector_at (vectors rays) (index_at order k)) dim <ℤ pos 0 → IsNeededConstraint dim list (length lines + k)
      strict_needed s f = clash (dot (lowered dim (vector_at (vectors rays) (index_at order k))) w.vector) w.zero_on (((ray_entry k w.vector hk).0 (f w.vector w.point (others_satisfied w.vector w.on_lines (λ t l q d. record { least = w.least t l; strict = w.strict t l q d })))).strict s)
        where
          w : IsLeftOver dim (vectors lines) (vectors rays) keep (index_at order k)
          w = strict_rows_are_needed dim gens (vectors lines) (vectors rays) keep (index_at order k) wide system enc (ordered_in k hk) s (pass.place (index_at order k) (ordered_in k hk) (kept.each k hk).1 s)
              (λ t l q d u. pass.apart (index_at order k) t (ordered_in k hk) l (kept.each k hk).1 q d s u)

          clash : (x : ℤ) → x ≡ pos 0 → pos 0 <ℤ x → ⊥
          clash x e p = omega (arith, ints, e, p)

      by_height : (e : ℤ) → e ≡ cell (vector_at (vectors rays) (index_at order k)) dim → e ≤ℤ pos 0 → IsNeededConstraint dim list (length lines + k)
      by_height (pos zero) e h = level_needed (sym e)
      by_height (pos (suc n)) e h = absurd (omega (arith, ints, h))
      by_height (negsuc n) e h = strict_needed (subst (λ (z : ℤ). z <ℤ pos 0) e (omega (arith, ints)))

      ray_needed : IsNeededConstraint dim list (length lines + k)
      ray_needed = by_height (cell (vector_at (vectors rays) (index_at order k)) dim) refl (height_at_most dim gens (vectors lines) (vectors rays) wide system enc (index_at order k) (ordered_in k hk) (pass.variable (index_at order k) (ordered_in k hk) (kept.each k hk).1))

    line_needed : (i : ℕ) → i < length (vectors lines) → IsNeededConstraint dim list i
    line_needed i h f = b.beside ((line_entry i b.vector h).0 (f b.vector b.point others))
      where
        b : IsBesideLine dim (vectors lines) (vectors rays) i
        b = beside_line dim gens (vectors lines) (vectors rays) wide system enc i h

        others : (m : ℕ) → m < length list → m ≢ i → Satisfies b.vector (constraint_at list m)
        others m l d = by_cases (entry_cases m l)
          where
            by_cases : (m < length (vectors lines)) ⊎ IsRayEntry m → Satisfies b.vector (constraint_at list m)
            by_cases (inl q) = (line_entry m b.vector q).1 (b.on_lines m q d)
            by_cases (inr e) = subst (λ (n : ℕ). Satisfies b.vector (constraint_at list n)) (sym e.same) ((ray_entry e.place b.vector e.below).1 (b.on_rays (index_at order e.place) (ordered_in e.place e.below)))

    pub all_needed : (i : ℕ) → i < length list → IsNeededConstraint dim list i
    all_needed i h = by_cases (entry_cases i h)
      where
        by_cases : (i < length (vectors lines)) ⊎ IsRayEntry i → IsNeededConstraint dim list i
        by_cases (inl l) = line_needed i l
        by_cases (inr e) = subst (IsNeededConstraint dim list) (sym e.same) (ray_needed e.place e.below)

pub kept_constraints_code : KeptConstraintsCode
kept_constraints_code dim gens lines rays keep order cs p wide system enc spare kept listed point = constraints_coded dim gens lines rays keep order cs.list wide system enc kept listed spare p point

pub kept_constraints_are_needed : KeptConstraintsAreNeeded
kept_constraints_are_needed dim gens lines rays keep order list wide system enc pass kept listed i h = all_needed dim gens lines rays keep order list wide system enc kept listed pass i h
