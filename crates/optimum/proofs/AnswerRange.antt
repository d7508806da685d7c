-- The numbers of an answer are of the range.
use Rattle.std.specs.Prelude.{◌≡◌, ℕ, ◌+◌, ◌*◌, ◌<◌, ◌≤◌, List, [], length, take, ℤ, pos, ◌*ℤ◌, Bool, unsigned_abs}
use Rattle.std.proofs.Common.{arith, ap, ◌∙◌, subst}
use Rattle.std.proofs.lemmas.Int.{ints, unsigned_abs-mul}
use Rattle.std.proofs.lemmas.List.{take_all}
use Rattle.std.proofs.Math.Nat.{mul-le-mul_left}
use Rattle.row_core.specs.Vectors.{cell, dot}
use Rattle.row_core.specs.Range.{InRange, AllStay, DotStays}
use Rattle.gens_sys.specs.Generators.{row_at, generator_at, IsGenerator, FitDimension}
use Rattle.gens_sys.specs.declared.kind.GenKind.TheVariants.{Line}
use Rattle.poly_pair.specs.Polyhedra.{Polyhedron, IsKept}
use Rattle.poly_pair.proofs.StoredLemmas.{kept_dim}
use Rattle.optimum.specs.Suprema.{IsFound}

times_less : (t x y : ℕ) → 0 < t → y ≡ t * x → x ≤ y
times_less t x y h e = let s : x * 1 ≤ x * t = mul-le-mul_left x h in omega (arith, s, e)

part_in_range : (n : ℕ) (x y : ℤ) → 0 < n → y ≡ pos n *ℤ x → InRange y → InRange x
part_in_range n x y h e r =
    let a : unsigned_abs y ≡ unsigned_abs (pos n) * unsigned_abs x = ap unsigned_abs e ∙ unsigned_abs-mul (pos n) x in
    let b : 0 < unsigned_abs (pos n) = omega (arith, ints, h) in
    let c = times_less (unsigned_abs (pos n)) (unsigned_abs x) (unsigned_abs y) b a in
    let d = r.size in
    record { size = omega (arith, c, d) }

last_stays : (u v : List ℤ) (n : ℕ) → length u ≡ n + 1 → length v ≡ n + 1 → AllStay (DotStays u v) (length u) → InRange (dot u v)
last_stays u v n e f h =
    let s = (h n (omega (arith, e))).sum in
    subst (λ (x : List ℤ). InRange (dot x v)) (take_all (n + 1) u (omega (arith, e))) (subst (λ (x : List ℤ). InRange (dot (take (n + 1) u) x)) (take_all (n + 1) v (omega (arith, f))) s)

module _ (up : Bool) (p : Polyhedron) (k : IsKept p) (fits : FitDimension p.gens) (row : List ℤ) (w : length row ≡ p.cons.dim + 1) where
  pub found_in_range : (num den : ℤ) (attained : Bool) (b : ℕ) → IsFound up row p.gens num den attained b → InRange num × InRange den
  found_in_range num den attained b f =
      let g : IsGenerator p.gens.dim (generator_at p.gens.list b) = fits.each b ([], Line) f.best.below in
      let d = kept_dim p k in
      let t = f.lowest.multiple in
      let value : InRange (dot row (row_at p.gens.list b)) = last_stays row (row_at p.gens.list b) p.cons.dim w (let e = g.wide in omega (arith, e, d)) (f.reached b f.best.below).stays in
      let divisor : InRange (cell (row_at p.gens.list b) p.gens.dim) = g.in_range p.gens.dim (pos 0) (let e = g.wide in omega (arith, e)) in (
        part_in_range t.times num (dot row (row_at p.gens.list b)) t.positive (ap (λ (x : List ℤ). cell x 0) t.same) value,
        part_in_range t.times den (cell (row_at p.gens.list b) p.gens.dim) t.positive (ap (λ (x : List ℤ). cell x 1) t.same) divisor,
      )
