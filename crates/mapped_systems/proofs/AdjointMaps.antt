-- A map of rows beside one of vectors: the value of the new row at a vector is that of the old row at the vector's map.
use Rattle.std.proofs.Common.{◌≡◌, ◌≢◌, ◌⊎◌, inl, inr, ℕ, zero, suc, ◌<◌, ◌≤◌, List, [], length, replicate, set, ℤ, pos, ◌*ℤ◌, refl, sym, ap, ◌∙◌, arith}
use Rattle.std.proofs.lemmas.Int.{ints}
use Rattle.std.proofs.lemmas.Bool.{cases_eq, cases_lt}
use Rattle.std.proofs.lemmas.List.{get_or_past, get_or-set_same, get_or-set_other, length-set, length-replicate}
use Rattle.row_core.specs.Vectors.{cell, dot}
use Rattle.cone_laws.proofs.Columns.{dot_comm, dot-multiple}
use Rattle.cone_laws.proofs.Factors.{single, cell-single_same, cell-single_other}
use Rattle.mapped_systems.specs.CarriedSystems.{IsLinearOn, Undoes, AreInverse}
use Rattle.mapped_systems.proofs.LinearMaps.{dot-single}

-- ---- unit vectors
unit : ℕ → ℕ → List ℤ
unit width i = set (replicate width (pos 0)) i (pos 1)

zeros_cell : (n j : ℕ) → cell (replicate n (pos 0)) j ≡ pos 0
zeros_cell zero j = refl
zeros_cell (suc n) zero = refl
zeros_cell (suc n) (suc j) = zeros_cell n j

once : (x y : ℤ) → x ≡ y → x ≡ pos 1 *ℤ y
once x y e = omega (arith, ints, e)

of_once : (x y z : ℤ) → x ≡ pos 1 *ℤ y → y ≡ pos 1 *ℤ z → x ≡ z
of_once x y z e f = omega (arith, ints, e, f)

module _ (width i : ℕ) (below : i < width) where
  unit_wide : length (unit width i) ≡ width
  unfolding unit
  unit_wide = length-set (replicate width (pos 0)) i (pos 1) ∙ length-replicate width (pos 0)

  unit_cell : (j : ℕ) → (j ≡ i) ⊎ (j ≢ i) → cell (unit width i) j ≡ cell (single i (pos 1)) j
  unfolding unit
  unit_cell j (inl e) = ap (cell (set (replicate width (pos 0)) i (pos 1))) e ∙ get_or-set_same (replicate width (pos 0)) i (pos 1) (pos 0) (omega (arith, below, length-replicate width (pos 0))) ∙ sym (ap (cell (single i (pos 1))) e ∙ cell-single_same i (pos 1))
  unit_cell j (inr ne) = get_or-set_other (replicate width (pos 0)) i j (pos 1) (pos 0) ne ∙ zeros_cell width j ∙ sym (cell-single_other i j (pos 1) ne)

  dot_unit : (a : List ℤ) → dot a (unit width i) ≡ cell a i
  dot_unit a =
      of_once (dot a (unit width i)) (dot a (single i (pos 1))) (cell a i)
      (dot-multiple a (unit width i) (single i (pos 1)) (pos 1) (λ j. once (cell (unit width i) j) (cell (single i (pos 1)) j) (unit_cell j (cases_eq j i))))
      (dot_comm a (single i (pos 1)) ∙ dot-single i (pos 1) a)

-- ---- adjoint maps
-- the value of the row's map at a vector is that of the row at the vector's map
pub record IsAdjoint (width : ℕ) (g h : List ℤ → List ℤ) : Type 0 where
  pub wide : (c : List ℤ) → length c ≡ width → length (g c) ≡ width
  pub value : (c v : List ℤ) → length c ≡ width → length v ≡ width → dot (g c) v ≡ dot c (h v)

past_end : (width : ℕ) (c : List ℤ) (j : ℕ) → length c ≡ width → width ≤ j → cell c j ≡ pos 0
past_end width c j w h = get_or_past c j (pos 0) (omega (arith, w, h))

times_none : (t x y : ℤ) → x ≡ pos 0 → y ≡ pos 0 → x ≡ t *ℤ y
times_none t x y e f = e ∙ sym (ap (λ (z : ℤ). t *ℤ z) f ∙ omega (arith, ints))

row_for : (width : ℕ) (h : List ℤ → List ℤ) (j : ℕ) → (j < width) ⊎ (width ≤ j) → List ℤ
row_for width h j (inl b) = h (unit width j)
row_for width h j (inr p) = []

module _ (width : ℕ) (g h : List ℤ → List ℤ) (adjoint : IsAdjoint width g h) where
  values : (c : List ℤ) → length c ≡ width → (j : ℕ) (b : (j < width) ⊎ (width ≤ j)) → cell (g c) j ≡ dot (row_for width h j b) c
  unfolding row_for
  values c w j (inl b) = sym (dot_unit width j b (g c)) ∙ adjoint.value c (unit width j) w (unit_wide width j b) ∙ dot_comm c (h (unit width j))
  values c w j (inr p) = past_end width (g c) j (adjoint.wide c w) p

  pub adjoint_linear : IsLinearOn width width g
  adjoint_linear = record { rows = λ j. row_for width h j (cases_lt j width); values = λ c w j. values c w j (cases_lt j width); wide = adjoint.wide }

  -- what undoes the map of vectors gives what undoes that of rows
  module _ (k f : List ℤ → List ℤ) (other : IsAdjoint width k f) (lin : IsLinearOn width width f) (undoes : Undoes width h f) where
    same : (c : List ℤ) → length c ≡ width → (j : ℕ) → (j < width) ⊎ (width ≤ j) → cell (k (g c)) j ≡ undoes.times *ℤ cell c j
    same c w j (inl b) =
        sym (dot_unit width j b (k (g c)))
        ∙ other.value (g c) (unit width j) (adjoint.wide c w) (unit_wide width j b)
        ∙ adjoint.value c (f (unit width j)) w (lin.wide (unit width j) (unit_wide width j b))
        ∙ dot-multiple c (h (f (unit width j))) (unit width j) undoes.times (undoes.same (unit width j) (unit_wide width j b))
        ∙ ap (λ (z : ℤ). undoes.times *ℤ z) (dot_unit width j b c)
    same c w j (inr p) = times_none undoes.times (cell (k (g c)) j) (cell c j) (past_end width (k (g c)) j (other.wide (g c) (adjoint.wide c w)) p) (past_end width c j w p)

    pub adjoint_undoes : Undoes width k g
    adjoint_undoes = record { times = undoes.times; positive = undoes.positive; same = λ c w j. same c w j (cases_lt j width) }

-- of two maps of which each undoes the other so do those of rows
pub adjoint_inverse : (width : ℕ) (f h g k : List ℤ → List ℤ) → AreInverse width f h → IsAdjoint width g h → IsAdjoint width k f → AreInverse width g k
adjoint_inverse width f h g k inv of_h of_f = record {
  first_linear = adjoint_linear width g h of_h;
  second_linear = adjoint_linear width k f of_f;
  second_undoes = adjoint_undoes width g h of_h k f of_f inv.first_linear inv.second_undoes;
  first_undoes = adjoint_undoes width k f of_f g h of_h inv.second_linear inv.first_undoes;
}
