-- Both kinds of step keep lines and rays primitive.
use Rattle.std.specs.Prelude.{◌≡◌, ◌≢◌, ℕ, ◌<◌, List, [], ◌∷◌, length, Bool, true, false, if◌then◌else◌, ℤ, pos, negsuc, neg_ℤ, All, filter, unsigned_abs, refl}
use Prim.Native.Nat.{suc, zero, ◌∣◌}
use Rattle.std.proofs.Math.IntN.{◌*ℤ◌}
use Rattle.std.proofs.Common.{sym, ◌∙◌, ap, subst, inl, inr, arith}
use Rattle.std.proofs.lemmas.Int.{ints, unsigned_abs-mul}
use Rattle.std.proofs.lemmas.List.Elements.{All-nil, All-cons, All-append, All-filter, All-from_get_or}
use Rattle.row_core.specs.Vectors.{cell, dot, scale}
use Rattle.row_core.specs.Content.{IsPrimitive}
use Rattle.row_core.specs.Lists.{Row, vector_at}
use Rattle.cone_laws.specs.Steps.{upward, IsLineStep, IsMade, IsRayStep}
use Rattle.row_core.specs.Signs.{sign, stays}
use Rattle.row_core.specs.Pairs.{pair_at}
use Rattle.cone_laws.proofs.Columns.{cell-scale, length-scale}
use Rattle.cone_laws.proofs.EchelonForm.{zero_right}

sign_abs : (x z : ℤ) → x ≢ pos 0 → unsigned_abs (sign x *ℤ z) ≡ unsigned_abs z
sign_abs (pos zero) z h = absurd (h refl)
sign_abs (pos (suc n)) z h = ap unsigned_abs (one_is z)
  where
    one_is : (z : ℤ) → pos 1 *ℤ z ≡ z
    one_is z = omega (arith, ints)
sign_abs (negsuc n) z h = unsigned_abs-mul (neg_ℤ (pos 1)) z ∙ omega arith

-- a primitive vector with its sign turned, or not, is primitive
pub sign_primitive : (x : ℤ) (v : List ℤ) → x ≢ pos 0 → IsPrimitive v → IsPrimitive (scale (sign x) v)
sign_primitive x v ne (inl z) = inl (All-from_get_or (λ y. y ≡ pos 0) (scale (sign x) v) (pos 0) (λ i h. cell-scale (sign x) v i ∙ zero_right (sign x) (cell v i) (z i (pos 0) (omega (arith, h, length-scale (sign x) v)))))
sign_primitive x v ne (inr p) = inr (λ d all. p d (All-from_get_or (λ y. d ∣ unsigned_abs y) v (pos 0) (λ i h. subst (λ (n : ℕ). d ∣ n) (ap unsigned_abs (cell-scale (sign x) v i) ∙ sign_abs x (cell v i) ne) (all i (pos 0) (omega (arith, h, length-scale (sign x) v))))))

-- ---- the steps
module _ (row : Row) (lines rays new_lines new_rays : List (List ℤ)) (s : IsLineStep row lines rays new_lines new_rays) where
  abbrev u : List ℤ
  u = upward row.0 (vector_at lines s.index)

  pub line_step_primitive_lines : All IsPrimitive new_lines
  line_step_primitive_lines = All-from_get_or IsPrimitive new_lines [] (λ m h. (s.lines_lowered.each m [] [] (omega (arith, s.lines_lowered.as_many, h))).primitive)

  primitive_by_mark : (eq : Bool) → IsPrimitive u → All IsPrimitive (if eq then [] else (u ∷ []))
  primitive_by_mark true p = All-nil IsPrimitive
  primitive_by_mark false p = All-cons IsPrimitive u [] p (All-nil IsPrimitive)

  pub line_step_primitive_rays : All IsPrimitive lines → All IsPrimitive new_rays
  line_step_primitive_rays p =
      subst (λ (vs : List (List ℤ)). All IsPrimitive vs) (sym s.result)
      (All-append IsPrimitive s.kept (if row.1 then [] else (u ∷ [])) (All-from_get_or IsPrimitive s.kept [] (λ m h. (s.rays_lowered.each m [] [] (omega (arith, s.rays_lowered.as_many, h))).primitive)) (primitive_by_mark row.1 (sign_primitive (dot row.0 (vector_at lines s.index)) (vector_at lines s.index) s.crossing.crosses (p s.index [] s.crossing.below))))

pub ray_step_primitive : (rows : List Row) (k : ℕ) (row : Row) (rays new : List (List ℤ)) → All IsPrimitive rays → IsRayStep rows k row rays new → All IsPrimitive new
ray_step_primitive rows k row rays new p s =
    subst (λ (vs : List (List ℤ)). All IsPrimitive vs) (sym s.result)
    (All-append IsPrimitive (filter (λ r. stays row.1 (dot row.0 r)) rays) s.made (All-filter (λ r. stays row.1 (dot row.0 r)) IsPrimitive rays p) (All-from_get_or IsPrimitive s.made [] (λ m h. (made m h).primitive)))
  where
    made : (m : ℕ) → m < length s.made → IsMade row.0 (vector_at rays (pair_at s.pairs m).0) (vector_at rays (pair_at s.pairs m).1) (vector_at s.made m)
    made m h = s.each_made.each m (0, 0) [] (omega (arith, h, s.each_made.as_many))
