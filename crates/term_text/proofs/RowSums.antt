-- The row of the first terms, one term further.
use Rattle.std.proofs.Common.{eq-eqb, lit<, ◌≡◌, ◌⊎◌, ℕ, ◌+◌, ◌^◌, ◌<◌, ◌≤◌, List, [], ◌∷◌, ◌++◌, length, take, get_or, refl, sym, ◌∙◌, ap, arith, length-append, subst, inl, inr}
use Rattle.std.specs.Prelude.{◌≢◌, MatchOption, Option, Some, None, unwrap_or, All, Bool, true, false, ℤ, pos, negsuc, ◌+ℤ◌}
use Rattle.std.specs.Int.{w128}
use mir.Val.{of_z, to_z}
use Rattle.std.proofs.lemmas.Int.{ints, to_z-of_z}
use Rattle.std.proofs.lemmas.List.{get_or-set_same, get_or-set_other, append-nil, get_or_push, take-append-le, take_all}
use Rattle.std.proofs.Math.Seq.{take-append_seam}
use Rattle.std.proofs.lemmas.List.Elements.{All-push, All-get_or, All-take}
use Rattle.std.proofs.lemmas.Bool.{cases_lt, cases_eq}
use Rattle.std.proofs.lemmas.Bool.Decides.{nat_tests}
use Rattle.std.proofs.Math.ListN.{set}
use Rattle.row_core.specs.Vectors.{cell}
use Rattle.row_core.specs.Range.{InRange, AllInRange}
use Rattle.term_text.specs.declared.terms.Term.{Term}
use Rattle.term_text.specs.Sums.{Sum, HasSummed, Gains}
use Rattle.term_text.specs.Terms.{column_of, value_of, part, total, Stay, IsRow, FitsBehind, IsSafeRow, IsWithin, AreWithin}

pub read_back : (z : ℤ) → InRange z → to_z w128 (of_z w128 z) ≡ z
read_back (pos a) h = let s = h.size in to_z-of_z w128 (pos a) (record { sfits = omega (arith, s) })
read_back (negsuc a) h = let s = h.size in to_z-of_z w128 (negsuc a) (record { sfits = omega (arith, s) })

pub range_read : (z : ℤ) → InRange z → InRange (to_z w128 (of_z w128 z))
range_read z h = subst InRange (sym (read_back z h)) h

plus_zero : (z : ℤ) → z +ℤ pos 0 ≡ pos 0 +ℤ z
plus_zero z = omega (arith, ints)

plus_assoc : (x y z : ℤ) → x +ℤ (y +ℤ z) ≡ (x +ℤ y) +ℤ z
plus_assoc x y z = omega (arith, ints)

pub total-push : (dim : ℕ) (ts : List Term) (t : Term) (j : ℕ) → total dim (ts ++ t ∷ []) j ≡ total dim ts j +ℤ part dim t j
total-push dim [] t j = plus_zero (part dim t j)
total-push dim (x ∷ ts) t j = ap (λ z. part dim x j +ℤ z) (total-push dim ts t j) ∙ plus_assoc (part dim x j) (total dim ts j) (part dim t j)

sum_push : (dim : ℕ) (ts : List Term) (t : Term) → Stay dim ts → ((j : ℕ) → j ≤ dim → InRange (total dim ts j +ℤ part dim t j)) → (i j : ℕ) → j ≤ dim → (length ts < i) ⊎ (i ≤ length ts) → InRange (total dim (take i (ts ++ t ∷ [])) j)
sum_push dim ts t stay next i j within (inl h) = rw (take_all i (ts ++ t ∷ []) (omega (arith, length-append ts (t ∷ [])))) (rw (total-push dim ts t j) (next j within))
sum_push dim ts t stay next i j within (inr h) = rw (take-append-le i ts (t ∷ []) h) (stay.sums i h j within)

-- one term more stays in the range
stay_push : (dim : ℕ) (ts : List Term) (t : Term) → Stay dim ts → t.size < 2 ^ 127 → ((j : ℕ) → j ≤ dim → InRange (total dim ts j +ℤ part dim t j)) → Stay dim (ts ++ t ∷ [])
stay_push dim ts t stay size next = record {
  numbers = All-push (λ (t : Term). t.size < 2 ^ 127) ts t stay.numbers size;
  sums = λ i le j within. sum_push dim ts t stay next i j within (cases_lt (length ts) i);
}

-- the sum with one term more is in a row that is of the range
next_in_range : (dim : ℕ) (ts : List Term) (t : Term) (row next : List ℤ) → IsRow dim ts row → AllInRange next → length next ≡ dim + 1 → ((j : ℕ) → j ≤ dim → cell next j ≡ cell row j +ℤ part dim t j) → (j : ℕ) → j ≤ dim → InRange (total dim ts j +ℤ part dim t j)
next_in_range dim ts t row next is in_range wide added j within = rw (← is.cells j within, ← added j within) (All-get_or InRange next j (pos 0) (omega arith) in_range)

-- the row of terms, with the next term added
safe_row_push : (dim : ℕ) (ts : List Term) (t : Term) (row next : List ℤ) → IsSafeRow dim ts row → FitsBehind t (cell row (column_of dim t)) → length next ≡ length row → AllInRange next → ((j : ℕ) → j ≤ dim → cell next j ≡ cell row j +ℤ part dim t j) → IsSafeRow dim (ts ++ t ∷ []) next
safe_row_push dim ts t row next safe fits same in_range added =
    let wide : length next ≡ dim + 1 = same ∙ safe.sums.wide in
    record {
      sums = record { wide = wide; cells = λ j within. added j within ∙ ap (λ z. z +ℤ part dim t j) (safe.sums.cells j within) ∙ sym (total-push dim ts t j) };
      stay = stay_push dim ts t safe.stay fits.number (next_in_range dim ts t row next safe.sums in_range wide added);
      in_range = in_range;
    }

last_of : (P : Term → Type 0) (ts : List Term) (t : Term) → All P (ts ++ t ∷ []) → P t
last_of P ts t all = let last : P (get_or (ts ++ t ∷ []) (length ts) t) = All-get_or P (ts ++ t ∷ []) (length ts) t (omega (arith, length-append ts (t ∷ []))) all in subst P (get_or_push ts t t (length ts) refl) last

part-own : (dim : ℕ) (t : Term) → part dim t (column_of dim t) ≡ value_of t
part-own dim t = rw (eq-eqb (column_of dim t) (column_of dim t) refl) refl

-- another column has no part of the term
part-other : (dim : ℕ) (t : Term) (j : ℕ) → j ≢ column_of dim t → part dim t j ≡ pos 0
part-other dim t j ne = grind (arith, nat_tests)

-- a row with the term added in its column
pub added_at : (dim : ℕ) (t : Term) (cells : List ℤ) (k : ℕ) (v : ℤ) → k ≡ column_of dim t → k < length cells → v ≡ cell cells k +ℤ value_of t → (j : ℕ) → cell (set cells k v) j ≡ cell cells j +ℤ part dim t j
added_at dim t cells k v own below e j = by (cases_eq j k)
  where
    none : (z : ℤ) → z ≡ z +ℤ pos 0
    none z = omega (arith, ints)

    by : (j ≡ k) ⊎ (j ≢ k) → cell (set cells k v) j ≡ cell cells j +ℤ part dim t j
    by (inl h) = subst (λ (i : ℕ). cell (set cells k v) i ≡ cell cells i +ℤ part dim t i) (sym h) (get_or-set_same cells k v (pos 0) below ∙ (e ∙ ap (λ z. cell cells k +ℤ z) (sym (ap (part dim t) own ∙ part-own dim t))))
    by (inr ne) = get_or-set_other cells k j v (pos 0) ne ∙ (none (cell cells j) ∙ ap (λ z. cell cells j +ℤ z) (sym (part-other dim t j (λ h. ne (h ∙ sym own)))))

column_within : (dim : ℕ) (variable : Option ℕ) → MatchOption variable (Unit {0}) (λ j. j < dim) → unwrap_or variable dim ≤ dim
column_within dim None within = omega arith
column_within dim (Some j) within = omega arith

-- where the next term can't be added, no row exists
no_row : (dim : ℕ) (ts : List Term) (t : Term) (row : List ℤ) → IsWithin dim t → IsRow dim ts row → ¬ (FitsBehind t (cell row (column_of dim t))) → ¬ (Stay dim (ts ++ t ∷ []))
no_row dim ts t row is_within is fails stay =
    let within : column_of dim t ≤ dim = column_within dim t.variable is_within in
    let j : ℕ = column_of dim t in
    let sum : total dim (ts ++ t ∷ []) j ≡ cell row j +ℤ value_of t = total-push dim ts t j ∙ ap (λ z. z +ℤ part dim t j) (sym (is.cells j within)) ∙ ap (λ z. cell row j +ℤ z) (part-own dim t) in
    let all : total dim (take (length (ts ++ t ∷ [])) (ts ++ t ∷ [])) j ≡ total dim (ts ++ t ∷ []) j = ap (λ x. total dim x j) (take_all (length (ts ++ t ∷ [])) (ts ++ t ∷ []) (omega arith)) in
    fails (record {
      number = last_of (λ (t : Term). t.size < 2 ^ 127) ts t stay.numbers;
      next = rw (← (all ∙ sum)) (stay.sums (length (ts ++ t ∷ [])) (omega arith) j within);
    })

-- the first terms of terms that stay in the range
stay_front : (dim : ℕ) (ts us : List Term) → Stay dim (ts ++ us) → Stay dim ts
stay_front dim ts us stay = record {
  numbers = rw (take-append_seam ts us) at (All-take (λ (t : Term). t.size < 2 ^ 127) (length ts) (ts ++ us) stay.numbers);
  sums = λ i le j within. rw (take-append-le i ts us le) at (stay.sums i (omega (arith, length-append ts us, le)) j within);
}

zero_in_range : InRange (pos 0)
zero_in_range = record { size = lit< tt }

abbrev pub summed : ℕ → List ℤ → Bool → Sum
summed dim row fits = record { dim = dim; row = row; fits = fits }

-- a term was added
pub gains_one : (dim : ℕ) (t : Term) (row next : List ℤ) (fits : Bool) → fits ≡ true → IsWithin dim t → FitsBehind t (cell row (column_of dim t)) → length next ≡ length row → AllInRange next → ((j : ℕ) → j ≤ dim → cell next j ≡ cell row j +ℤ part dim t j) → Gains (t ∷ []) (summed dim row fits) (summed dim next fits)
gains_one dim t row next fits has within behind same in_range added = record {
  over = refl;
  more = λ before h. record {
    within = All-push (IsWithin dim) before t h.within within;
    safe = λ e. safe_row_push dim before t row next (h.safe has) behind same in_range added;
    leaves = λ e. let never : true ≡ false = sym has ∙ e in cc;
  };
}

-- a term leaves the range
pub gains_too_large : (dim : ℕ) (t : Term) (row next : List ℤ) (fits : Bool) → fits ≡ true → IsWithin dim t → ¬ (FitsBehind t (cell row (column_of dim t))) → Gains (t ∷ []) (summed dim row fits) (summed dim next false)
gains_too_large dim t row next fits has within fails = record {
  over = refl;
  more = λ before h. record {
    within = All-push (IsWithin dim) before t h.within within;
    safe = λ e. cc;
    leaves = λ e. no_row dim before t row within (h.safe has).sums fails;
  };
}

-- a term before has left the range
pub gains_still : (dim : ℕ) (t : Term) (row : List ℤ) (fits : Bool) → fits ≡ false → IsWithin dim t → Gains (t ∷ []) (summed dim row fits) (summed dim row fits)
gains_still dim t row fits left within = record {
  over = refl;
  more = λ before h. record {
    within = All-push (IsWithin dim) before t h.within within;
    safe = λ e. let never : true ≡ false = sym e ∙ left in cc;
    leaves = λ e stay. h.leaves left (stay_front dim before (t ∷ []) stay);
  };
}

-- nothing was added
pub gains_none : (s : Sum) → Gains [] s s
gains_none s = record { over = refl; more = λ before h. subst (λ ts. HasSummed ts s) (sym (append-nil before)) h }

-- where the sum doesn't fit, the terms have no row
pub too_large : (dim : ℕ) (ts : List Term) (s : Sum) → HasSummed ts s → s.dim ≡ dim → s.fits ≡ false → AreWithin dim ts × ¬ (Stay dim ts)
too_large dim ts s h over unfit = subst (λ (d : ℕ). AreWithin d ts × ¬ (Stay d ts)) over (h.within, h.leaves unfit)
