-- Fractions in lowest terms, and the columns of their sums and comparisons.
use Rattle.std.specs.Prelude.{◌≡◌, ℕ, ◌<◌, List, [], ◌∷◌, length, ℤ, pos, ◌+ℤ◌, ◌<ℤ◌}
use Rattle.std.proofs.Math.IntN.{◌*ℤ◌}
use Rattle.std.proofs.Common.{arith, refl, sym, subst, inr}
use Rattle.std.proofs.lemmas.Int.{ints}
use Rattle.row_core.proofs.Ring.{positive_of_mul}
use Rattle.std.proofs.Math.Nat.{eq-one_of_dvd-one}
use Rattle.row_core.specs.Vectors.{cell}
use Rattle.row_core.specs.Range.{InRange, AllInRange, IsFirstToLeave}
use Rattle.row_core.specs.Content.{IsPrimitive, IsMultipleOf, IsPrimitiveOf}
use Rattle.difference_bounds.specs.declared.fraction.Fraction.{Fraction}
use Rattle.difference_bounds.specs.Fractions.{pair_of, IsFraction, IsLowestOf, sum}

pair_is : (v : List ℤ) → length v ≡ 2 → v ≡ cell v 0 ∷ cell v 1 ∷ []
pair_is [] e = absurd (omega (arith, e))
pair_is (x ∷ []) e = absurd (omega (arith, e))
pair_is (x ∷ y ∷ []) e = refl
pair_is (x ∷ y ∷ z ∷ v) e = absurd (omega (arith, e))

pub lowest_pair : (num den : ℤ) (v : List ℤ) → length v ≡ 2 → IsMultipleOf (num ∷ den ∷ []) v → IsPrimitive v → IsPrimitiveOf (num ∷ den ∷ []) (cell v 0 ∷ cell v 1 ∷ [])
lowest_pair num den v e m p = subst (IsPrimitiveOf (num ∷ den ∷ [])) (pair_is v e) (record { multiple = m; primitive = p })

-- the fraction is a multiple of its lowest terms
pub record IsTimes (f g : Fraction) : Type 0 where
  pub times : ℤ
  pub positive : pos 0 <ℤ times
  pub num : f.num ≡ times *ℤ g.num
  pub den : f.den ≡ times *ℤ g.den

first_of : (a b c d : ℤ) → a ∷ b ∷ [] ≡ c ∷ d ∷ [] → a ≡ c
first_of a b c d e = cc

second_of : (a b c d : ℤ) → a ∷ b ∷ [] ≡ c ∷ d ∷ [] → b ≡ d
second_of a b c d e = cc

above : (n : ℕ) → 0 < n → pos 0 <ℤ pos n
above n h = omega (arith, ints)

pub lowest_times : (f g : Fraction) → IsLowestOf f g → IsTimes f g
lowest_times f g l =
    let k = pos l.multiple.times in
    record {
      times = k;
      positive = above l.multiple.times l.multiple.positive;
      num = first_of f.num f.den (k *ℤ g.num) (k *ℤ g.den) l.multiple.same;
      den = second_of f.num f.den (k *ℤ g.num) (k *ℤ g.den) l.multiple.same;
    }

pub lowest_positive : (f g : Fraction) → pos 0 <ℤ f.den → IsLowestOf f g → pos 0 <ℤ g.den
lowest_positive f g p l = let t = lowest_times f g l in positive_of_mul t.times g.den t.positive (subst (λ (z : ℤ). pos 0 <ℤ z) t.den p)

pub lowest_fraction : (f : Fraction) (v : List ℤ) → pos 0 <ℤ f.den → length v ≡ 2 → IsMultipleOf (f.num ∷ f.den ∷ []) v → IsPrimitive v → AllInRange v → IsFraction (record { num = cell v 0; den = cell v 1 })
lowest_fraction f v p e m q r =
    let l : IsPrimitiveOf (f.num ∷ f.den ∷ []) (cell v 0 ∷ cell v 1 ∷ []) = lowest_pair f.num f.den v e m q in
    record {
      positive = lowest_positive f (record { num = cell v 0; den = cell v 1 }) p l;
      lowest = l.primitive;
      num = r 0 (pos 0) (omega (arith, e));
      den = r 1 (pos 0) (omega (arith, e));
    }

pub first_column : (Stays : ℕ → Type 0) → ¬ (Stays 0) → IsFirstToLeave Stays 2 0
first_column Stays n = record { column = omega arith; leaves = n; before = λ i h. absurd (omega arith) }

pub second_column : (Stays : ℕ → Type 0) → Stays 0 → ¬ (Stays 1) → IsFirstToLeave Stays 2 1
second_column Stays s n = record { column = omega arith; leaves = n; before = λ i h. let e : 0 ≡ i = omega arith in subst Stays e s }

pub sum_answer : (a b : Fraction) (num den : ℤ) (s : Fraction) → num ≡ b.den *ℤ a.num +ℤ a.den *ℤ b.num → den ≡ a.den *ℤ b.den → IsLowestOf (record { num = num; den = den }) s → IsLowestOf (sum a b) s
sum_answer a b num den s e f l =
    subst (λ (z : ℤ). IsPrimitiveOf (z ∷ (a.den *ℤ b.den) ∷ []) (pair_of s)) e (subst (λ (z : ℤ). IsPrimitiveOf (num ∷ z ∷ []) (pair_of s)) f l)

pub whole_fraction : (num den : ℤ) → den ≡ pos 1 → InRange num → IsFraction (record { num = num; den = den })
whole_fraction num den e h = subst (λ (d : ℤ). IsFraction (record { num = num; den = d })) (sym e) (record {
  positive = omega (arith, ints);
  lowest = inr (λ d k. eq-one_of_dvd-one (k 1 (pos 0) (omega arith)));
  num = h;
  den = record { size = omega arith };
})
