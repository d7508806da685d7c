use Rattle.std.proofs.Common.{◌≡◌, ℕ, List, ℤ, pos, ◌*ℤ◌, ◌≤ℤ◌, ◌<ℤ◌, ap, ◌∙◌, sym, subst, arith}
use Rattle.std.proofs.lemmas.Int.{ints}
use Rattle.row_core.specs.Vectors.{cell, scale, combined}
use Rattle.row_core.specs.Points.{IsSamePoint}
use Rattle.row_core.proofs.Ring.{mul_assoc, mul_left_comm, mul-at_least_zero, mul-positive}
use Rattle.row_core.proofs.CellLemmas.{cell-scale, length-scale, combined-scale}
use Rattle.gens_sys.specs.Kinds.{AllowsFactor}
use Rattle.gens_sys.specs.Generators.{Generators, kind_at, rows_of}
use Rattle.gens_sys.specs.Spans.{Span}
use Rattle.gens_sys.specs.declared.kind.GenKind.{GenKind}
use Rattle.gens_sys.specs.declared.kind.GenKind.TheVariants.{Line, Ray, Point, ClosurePoint}

least_of : (k : ℤ) → pos 0 <ℤ k → pos 0 ≤ℤ k
least_of k h = omega (arith, ints)

-- a positive multiple of a factor is allowed too
AllowsFactor-times : (kind : GenKind) (k f : ℤ) → pos 0 <ℤ k → AllowsFactor kind f → AllowsFactor kind (k *ℤ f)
AllowsFactor-times Line k f h allowed = allowed
AllowsFactor-times Ray k f h allowed = mul-at_least_zero k f (least_of k h) allowed
AllowsFactor-times Point k f h allowed = mul-at_least_zero k f (least_of k h) allowed
AllowsFactor-times ClosurePoint k f h allowed = mul-at_least_zero k f (least_of k h) allowed

-- times the one multiple, the other vector's multiple is the multiplied sum
same_sum : (times left right x y s : ℤ) → left *ℤ x ≡ right *ℤ y → times *ℤ x ≡ s → (times *ℤ right) *ℤ y ≡ left *ℤ s
same_sum times left right x y s e f =
    mul_assoc times right y ∙ (ap (λ (z : ℤ). times *ℤ z) (sym e) ∙ (mul_left_comm times left x ∙ ap (λ (z : ℤ). left *ℤ z) f))

same_cells : (u v : List ℤ) (same : IsSamePoint u v) (j : ℕ) → same.left *ℤ cell u j ≡ same.right *ℤ cell v j
same_cells u v same j = sym (cell-scale same.left u j) ∙ (ap (λ (w : List ℤ). cell w j) same.same ∙ cell-scale same.right v j)

pub Span-same_point : (gs : Generators) (u v : List ℤ) → IsSamePoint u v → Span gs u → Span gs v
Span-same_point gs u v same span = record {
  times = span.times *ℤ same.right;
  positive = mul-positive span.times same.right span.positive same.right_positive;
  factors = scale same.left span.factors;
  one_each = length-scale same.left span.factors ∙ span.one_each;
  allowed = λ i h. subst (AllowsFactor (kind_at gs.list i)) (sym (cell-scale same.left span.factors i)) (AllowsFactor-times (kind_at gs.list i) same.left (cell span.factors i) same.left_positive (span.allowed i h));
  point = record {
    index = span.point.index;
    within = span.point.within;
    kind = span.point.kind;
    positive = subst (λ (z : ℤ). pos 0 <ℤ z) (sym (cell-scale same.left span.factors span.point.index)) (mul-positive same.left (cell span.factors span.point.index) same.left_positive span.point.positive);
  };
  sum = λ j. same_sum span.times same.left same.right (cell u j) (cell v j) (combined span.factors (rows_of gs.list) j) (same_cells u v same j) (span.sum j) ∙ sym (combined-scale same.left span.factors (rows_of gs.list) j);
}
