-- Every vector has a primitive part: its entries divided by their greatest common divisor.
use Rattle.std.specs.Prelude.{◌≡◌, ℕ, ◌<◌, ◌≤◌, ◌%◌, ◌⊎◌, List, [], ◌∷◌, length, map, ℤ, pos, ◌+ℤ◌, ◌<ℤ◌, unsigned_abs, int_div}
use Prim.Native.Nat.{◌∣◌, suc, zero}
use Rattle.std.specs.Int.{IsGcd}
use Rattle.std.proofs.Math.IntN.{◌*ℤ◌}
use Rattle.std.proofs.Math.Nat.{dvd-zero}
use Rattle.std.proofs.Common.{sym, ◌∙◌, ap, inl, inr, arith}
use Rattle.std.proofs.lemmas.Int.{ints}
use Rattle.std.proofs.lemmas.Bool.{cases_lt}
use Rattle.std.proofs.lemmas.Nat.Gcd.{IsGcd-from_zero, IsGcd-from_mod, dvd_trans}
use Rattle.std.proofs.lemmas.List.{length-map, get_or-map}
use Rattle.std.proofs.lemmas.List.Elements.{All-nil, All-cons, All-head, All-tail, All-weaker}
use Rattle.row_core.specs.Vectors.{cell, scale, add}
use Rattle.row_core.specs.Content.{DividesAll, IsPrimitive, IsPrimitiveOf}
use Rattle.row_core.proofs.CellLemmas.{cell-scale, length-scale, cell-add, length-add}
use Rattle.row_core.proofs.ContentLemmas.{Divides, exact_quotient, scale_from_cells, IsMultipleOf-refl, primitive_as_it_is, primitive_quotient}
use Rattle.cone_laws.proofs.UptoRows.{IsSumOf}

record HasGcd (a b : ℕ) : Type 0 where
  divisor : ℕ
  is : IsGcd a b divisor

gcd_upto : (n a b : ℕ) → b < n → HasGcd a b
gcd_upto zero a b h = absurd (omega arith)
gcd_upto (suc n) a b h =
    elim (cases_lt 0 b) [
      | inr none ↦ record { divisor = a; is = IsGcd-from_zero a b (omega arith) }
      | inl some ↦
          let rest = gcd_upto n b (a % b) (omega arith) in
          record { divisor = rest.divisor; is = IsGcd-from_mod a b rest.divisor rest.is }
    ]

-- the greatest common divisor of the entries
record HasContent (v : List ℤ) : Type 0 where
  divisor : ℕ
  divides : DividesAll divisor v
  greatest : (d : ℕ) → DividesAll d v → d ∣ divisor

content_more : (z : ℤ) (v : List ℤ) (c : HasContent v) → HasGcd (unsigned_abs z) c.divisor → HasContent (z ∷ v)
content_more z v c g = record {
  divisor = g.divisor;
  divides = All-cons (Divides g.divisor) z v g.is.0 (All-weaker (Divides c.divisor) (Divides g.divisor) (λ y p. dvd_trans g.divisor g.is.1 p) v c.divides);
  greatest = λ d all. g.is.2 d (All-head (Divides d) z v all) (c.greatest d (All-tail (Divides d) z v all));
}

content : (v : List ℤ) → HasContent v
content [] = record { divisor = 0; divides = All-nil (Divides 0); greatest = λ d all. dvd-zero d }
content (z ∷ v) = content_more z v (content v) (gcd_upto (suc (content v).divisor) (unsigned_abs z) (content v).divisor (omega arith))

pub record HasPrimitivePart (u : List ℤ) : Type 0 where
  pub part : List ℤ
  pub is : IsPrimitiveOf u part

pub primitive_part : (u : List ℤ) → HasPrimitivePart u
primitive_part u = by_divisor (content u) (cases_lt 0 (content u).divisor)
  where
    by_divisor : (c : HasContent u) → (0 < c.divisor) ⊎ (c.divisor ≤ 0) → HasPrimitivePart u
    by_divisor c (inr none) = record { part = u; is = record { multiple = IsMultipleOf-refl u; primitive = primitive_as_it_is u c.divisor (omega arith) c.divides c.greatest } }
    by_divisor c (inl some) = record {
      part = quotients;
      is = record {
        multiple = record { times = c.divisor; positive = some; same = same };
        primitive = primitive_quotient u quotients c.divisor some same c.greatest;
      };
    }
      where
        quotients : List ℤ
        quotients = map (λ (z : ℤ). int_div z (pos c.divisor)) u

        same : u ≡ scale (pos c.divisor) quotients
        same = scale_from_cells u quotients (pos c.divisor) (sym (length-map u (λ (z : ℤ). int_div z (pos c.divisor))))
            (λ j h. exact_quotient (cell u j) (pos c.divisor) (c.divides j (pos 0) h) ∙ ap (λ (x : ℤ). pos c.divisor *ℤ x) (sym (get_or-map (λ (z : ℤ). int_div z (pos c.divisor)) u j (pos 0) (pos 0) h)))

-- a primitive vector of which a positive multiple is s times x and t times y
pub record HasPrimitiveSum (s : ℤ) (x : List ℤ) (t : ℤ) (y : List ℤ) : Type 0 where
  pub vector : List ℤ
  pub sum : IsSumOf vector s x t y
  pub wide : length vector ≡ length x
  pub primitive : IsPrimitive vector

pub primitive_sum : (s : ℤ) (x : List ℤ) (t : ℤ) (y : List ℤ) → length x ≡ length y → HasPrimitiveSum s x t y
primitive_sum s x t y e = from_part (primitive_part (add (scale s x) (scale t y)))
  where
    positive_z : (n : ℕ) → 0 < n → pos 0 <ℤ pos n
    positive_z n h = omega (arith, ints)

    from_part : HasPrimitivePart (add (scale s x) (scale t y)) → HasPrimitiveSum s x t y
    from_part p = record {
      vector = p.part;
      sum = record {
        times = pos p.is.multiple.times;
        positive = positive_z p.is.multiple.times p.is.multiple.positive;
        same = λ j. sym (cell-scale (pos p.is.multiple.times) p.part j) ∙ ap (λ (v : List ℤ). cell v j) (sym p.is.multiple.same) ∙ cell-add (scale s x) (scale t y) j
            ∙ ap (λ (z : ℤ). z +ℤ cell (scale t y) j) (cell-scale s x j) ∙ ap (λ (z : ℤ). s *ℤ cell x j +ℤ z) (cell-scale t y j);
      };
      wide = sym (length-scale (pos p.is.multiple.times) p.part) ∙ ap (λ (v : List ℤ). length v) (sym p.is.multiple.same)
          ∙ length-add (scale s x) (scale t y) (length-scale s x ∙ e ∙ sym (length-scale t y)) ∙ length-scale t y ∙ sym e;
      primitive = p.is.primitive;
    }
