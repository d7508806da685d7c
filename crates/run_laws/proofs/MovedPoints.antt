-- Points that lose variables, and points of which one variable is replaced.
use Rattle.std.proofs.Common.{◌≡◌, ℕ, zero, suc, ◌+◌, ◌<◌, ◌≤◌, List, [], ◌∷◌, drop, length, refl, ap, sym, ◌∙◌, subst, arith}
use Rattle.std.specs.Prelude.{ℤ, pos, ◌*ℤ◌, ◌<ℤ◌}
use Rattle.std.proofs.lemmas.List.{get_or-set_other, length-set}
use Rattle.row_core.specs.Vectors.{cell, scale}
use Rattle.row_core.proofs.CellLemmas.{cell-scale, length-scale}
use Rattle.row_core.proofs.Ring.{mul-positive}
use Rattle.row_core.specs.Points.{IsPoint}
use Rattle.affine_maps.specs.Relations.{replaced}
use Rattle.mapped_systems.specs.Maps.{without}
use Rattle.mapped_systems.proofs.ColumnLemmas.{length-without}

-- ---- points that lose variables
cell_dropped : (n j m : ℕ) (v : List ℤ) → m ≡ n + j → cell (drop n v) j ≡ cell v m
cell_dropped zero j m v e = ap (cell v) (omega (arith, e))
cell_dropped (suc n) j zero v e = absurd (omega (arith, e))
cell_dropped (suc n) j (suc m) [] e = refl
cell_dropped (suc n) j (suc m) (x ∷ v) e = cell_dropped n j m v (omega (arith, e))

cell_kept : (column end : ℕ) (v : List ℤ) → column ≤ end → end < length v → cell (without column end v) column ≡ cell v end
cell_kept zero end v h l = cell_dropped end 0 end v (omega arith)
cell_kept (suc column) zero v h l = absurd (omega (arith, h))
cell_kept (suc column) (suc end) [] h l = absurd (omega (arith, l))
cell_kept (suc column) (suc end) (x ∷ v) h l = cell_kept column end v (omega (arith, h)) (omega (arith, l))

length_dropped : (n : ℕ) (v : List ℤ) → n ≤ length v → length (drop n v) + n ≡ length v
length_dropped zero v l = omega arith
length_dropped (suc n) [] l = absurd (omega (arith, l))
length_dropped (suc n) (x ∷ v) l = let e = length_dropped n v (omega (arith, l)) in omega (arith, e)

-- a point without its last variables
pub front_point : (dim count : ℕ) (v : List ℤ) → IsPoint (dim + count) v → IsPoint dim (without dim (dim + count) v)
front_point dim count v is = record {
  wide = (let w = is.wide in let e = length-without dim count v (omega (arith, w)) in omega (arith, w, e));
  positive = (let w = is.wide in subst (λ (z : ℤ). pos 0 <ℤ z) (sym (cell_kept dim (dim + count) v (omega arith) (omega (arith, w)))) is.positive);
}

-- a point without its first variables
pub back_point : (dim count : ℕ) (v : List ℤ) → IsPoint (dim + count) v → IsPoint count (drop dim v)
back_point dim count v is = record {
  wide = (let w = is.wide in let e = length_dropped dim v (omega (arith, w)) in omega (arith, w, e));
  positive = subst (λ (z : ℤ). pos 0 <ℤ z) (sym (cell_dropped dim count (dim + count) v refl)) is.positive;
}

-- ---- a variable replaced
pub replaced_point : (dim var : ℕ) (num below : ℤ) (v : List ℤ) → var < dim → pos 0 <ℤ below → IsPoint dim v → IsPoint dim (replaced dim var num below v)
replaced_point dim var num below v h positive is = record {
  wide = length-set (scale below v) var (num *ℤ cell v dim) ∙ length-scale below v ∙ is.wide;
  positive = subst (λ (z : ℤ). pos 0 <ℤ z) (sym (get_or-set_other (scale below v) var dim (num *ℤ cell v dim) (pos 0) (λ e. omega (arith, e, h)) ∙ cell-scale below v dim)) (mul-positive below (cell v dim) positive is.positive);
}
