-- Where a valid row is 0, the lines and the rays on which it is 0 span the vector.
use Rattle.std.proofs.Common.{◌≡◌, ℕ, ◌<◌, List, [], length, true, ℤ, pos, ◌*ℤ◌, ◌≤ℤ◌, refl, sym, ap, ◌∙◌, subst, arith}
use Rattle.std.specs.Prelude.{filter}
use Rattle.std.specs.Ordering.{int_eq}
use Rattle.row_core.specs.Vectors.{cell, dot}
use Rattle.row_core.specs.Lists.{Row, vector_at}
use Rattle.cone_laws.specs.Cones.{Upto, Spans, Generates, negated}
use Rattle.cone_laws.proofs.Ring.{mul-zero}
use Rattle.cone_laws.proofs.Sums.{V, SpansBy, same_value, sums_more}
use Rattle.cone_laws.proofs.Columns.{value, value_linear, dot_is, dot-negated}
use Rattle.cone_laws.proofs.Bridge.{In, columns, to_sums, from_sums}
use Rattle.cone_laws.proofs.Face.{OnFace, face}
use Rattle.cone_laws.proofs.Filtered.{passes}
use Rattle.cone_laws.proofs.MemberLemmas.{zero_of_signs}

pub zero_is_spanned : (width : ℕ) (rows : List Row) (k : ℕ) (lines rays : List (List ℤ)) (a v : List ℤ) → Generates (Upto width rows k) lines rays → ((x : List ℤ) → Upto width rows k x → pos 0 ≤ℤ dot a x) → Upto width rows k v → dot a v ≡ pos 0 → Spans lines (filter (λ r. int_eq (dot a r) (pos 0)) rays) v
zero_is_spanned width rows k lines rays a v g f c z =
    from_sums lines (filter (λ r. int_eq (dot a r) (pos 0)) rays) v (record {
      times = s.times;
      positive = s.positive;
      sums = sums_more (λ l m. m) on_face (λ j. s.times *ℤ cell v j) (face (In lines) (In rays) (λ i. value a) (λ i. i < 1) (λ i. value_linear a) flat side (λ j. s.times *ℤ cell v j) s.sums level);
    })
  where
    s : SpansBy (In lines) (In rays) (cell v)
    s = to_sums lines rays v (g.spans v c)

    line_value : (i : ℕ) → i < length lines → dot a (vector_at lines i) ≡ pos 0
    line_value i b = zero_of_signs (dot a (vector_at lines i)) (dot a (negated (vector_at lines i))) (f (vector_at lines i) (g.lines_within i [] b).0) (f (negated (vector_at lines i)) (g.lines_within i [] b).1) (dot-negated a (vector_at lines i))

    flat : (i : ℕ) → i < 1 → (l : V) → In lines l → value a l ≡ pos 0
    flat i o l m = same_value (value a) (value_linear a) l (columns lines m.index) m.same ∙ sym (dot_is a (vector_at lines m.index)) ∙ line_value m.index m.is

    ray_value : (r : V) (m : In rays r) → value a r ≡ dot a (vector_at rays m.index)
    ray_value r m = same_value (value a) (value_linear a) r (columns rays m.index) m.same ∙ sym (dot_is a (vector_at rays m.index))

    side : (i : ℕ) → i < 1 → (r : V) → In rays r → pos 0 ≤ℤ value a r
    side i o r m = subst (λ x. pos 0 ≤ℤ x) (sym (ray_value r m)) (f (vector_at rays m.index) (g.rays_within m.index [] m.is))

    level : (i : ℕ) → i < 1 → value a (λ j. s.times *ℤ cell v j) ≡ pos 0
    level i o = (value_linear a).multiple (λ j. s.times *ℤ cell v j) (cell v) s.times (λ j. refl) ∙ ap (λ x. s.times *ℤ x) (sym (dot_is a v) ∙ z) ∙ mul-zero s.times

    on_face : (r : V) → OnFace (In rays) (λ i. value a) (λ i. i < 1) r → In (filter (λ r. int_eq (dot a r) (pos 0)) rays) r
    on_face r m =
        let e : dot a (vector_at rays m.0.index) ≡ pos 0 = sym (ray_value r m.0) ∙ m.1 0 (omega arith) in
        let t : int_eq (dot a (vector_at rays m.0.index)) (pos 0) ≡ true = ap (λ x. int_eq x (pos 0)) e in
        let p = passes (λ r. int_eq (dot a r) (pos 0)) rays m.0.index m.0.is t in
        record { index = p.index; is = p.below; same = λ j. m.0.same j ∙ ap (λ (u : List ℤ). cell u j) (sym p.same) }
