-- What words tell of bounds.
use Rattle.std.specs.Prelude.{◌≡◌, ◌≢◌, ◌⊎◌, ℕ, ◌^◌, ◌<◌, List, [], ◌∷◌, length, ℤ, pos, negsuc, neg_ℤ, ◌+ℤ◌, ◌<ℤ◌, ◌≤ℤ◌, ◌↔◌, IsTrue, not, Bool, true, false, Option, Some, None, IfSome, unsigned_abs, slice_index_or, slice_set, get_or}
use Rattle.std.specs.Int.{w64, w128}
use mir.Val.{SFits, of_z, to_z}
use lib.Signed.{lt_z, le_z}
use Rattle.std.proofs.Common.{arith, refl, sym, ◌∙◌, ap, subst, inl, inr}
use Rattle.std.proofs.lemmas.Int.{ints, to_z-of_z}
use Rattle.std.proofs.lemmas.List.{length-set, get_or-set_same, get_or-set_other}
use Rattle.std.proofs.lemmas.List.Elements.{All-set}
use Rattle.std.proofs.lemmas.Bool.{cases_order, false≢true}
use Rattle.std.proofs.Math.Nat.{eq-one_of_dvd-one}
use Rattle.row_core.proofs.OnePrimitive.{IsPrimitiveOf-self}
use Rattle.row_core.specs.Range.{InRange}
use Rattle.row_core.specs.Content.{IsPrimitive}
use Rattle.difference_bounds.specs.declared.fraction.Fraction.{Fraction}
use Rattle.difference_bounds.specs.declared.words.Outcome.TheVariants.{Stays, Falls}
use Rattle.difference_bounds.specs.declared.choosing.Choice.TheVariants.{Lesser, Greater}
use Rattle.difference_bounds.specs.Fractions.{sum, IsBelow, IsFraction, IsLowestOf}
use Rattle.difference_bounds.specs.Walks.{Bound}
use Rattle.difference_bounds.specs.Tables.{Table, IsTable}
use Rattle.difference_bounds.specs.Laws.{IsRelaxed, IsLesser, IsCovered}
use Rattle.difference_bounds.specs.Combining.{PicksAs}
use Rattle.difference_bounds.specs.Words.{absent, other, IsShort, whole, IsWord, IsWithinWords, IsTold, IsCoveredWord, AreWords, IsStep, IsBoundBelow, ComparesAs}
use Rattle.difference_bounds.proofs.FractionLemmas.{sum_answer, whole_fraction}

-- ---- one word
pub none_of : (b : Bound) (w : ℤ) → IsWord b w → w ≡ absent → b ≡ None
none_of None w h e = refl
none_of (Some f) w (inl (s, g)) e = absurd (let m = s.most in omega (arith, ints, m, e))
none_of (Some f) w (inr g) e = absurd (omega (arith, ints, g, e))

short_size : (n : ℤ) → neg_ℤ (pos (2 ^ 60)) <ℤ n → n <ℤ pos (2 ^ 60) → unsigned_abs n < 2 ^ 127
short_size (pos a) h k = omega (arith, ints, k)
short_size (negsuc a) h k = omega (arith, ints, h)

pub short_range : (n : ℤ) → IsShort n → InRange n
short_range n s = record { size = short_size n s.least s.most }

pub short_fraction : (n : ℤ) → IsShort n → IsFraction (whole n)
short_fraction n s = whole_fraction n (pos 1) refl (short_range n s)

pub short_fits : (n : ℤ) → neg_ℤ (pos (2 ^ 60)) <ℤ n → n <ℤ pos (2 ^ 60) → SFits w64 n
short_fits (pos a) h k = record { sfits = omega (arith, ints, k) }
short_fits (negsuc a) h k = record { sfits = omega (arith, ints, h) }

pub short_wide : (n : ℤ) → neg_ℤ (pos (2 ^ 60)) <ℤ n → n <ℤ pos (2 ^ 60) → SFits w128 n
short_wide (pos a) h k = record { sfits = omega (arith, ints, k) }
short_wide (negsuc a) h k = record { sfits = omega (arith, ints, h) }

pub word_sum : (y z : ℤ) → SFits w64 y → SFits w64 z → SFits w64 (y +ℤ z) → to_z w64 (of_z w64 (to_z w64 (of_z w64 y) +ℤ to_z w64 (of_z w64 z))) ≡ y +ℤ z
word_sum y z f g h =
    ap (λ (x : ℤ). to_z w64 (of_z w64 (x +ℤ to_z w64 (of_z w64 z)))) (to_z-of_z w64 y f)
    ∙ (ap (λ (x : ℤ). to_z w64 (of_z w64 (y +ℤ x))) (to_z-of_z w64 z g) ∙ to_z-of_z w64 (y +ℤ z) h)

fits_by : (n : ℤ) → neg_ℤ (pos (2 ^ 63)) ≤ℤ n → n <ℤ pos (2 ^ 63) → SFits w64 n
fits_by (pos a) h k = record { sfits = omega (arith, ints, k) }
fits_by (negsuc a) h k = record { sfits = omega (arith, ints, h) }

below_absent : (w : ℤ) → w ≤ℤ absent → (w ≡ absent → ⊥) → w <ℤ absent
below_absent (pos a) h n = let unlike : a ≢ 2 ^ 62 = λ e. n (ap pos e) in omega (arith, ints, h)
below_absent (negsuc a) h n = omega (arith, ints)

pub words_added : (y z : ℤ) → IsWithinWords y → IsWithinWords z → (y ≡ absent → ⊥) → (z ≡ absent → ⊥) → to_z w64 (of_z w64 (to_z w64 (of_z w64 y) +ℤ to_z w64 (of_z w64 z))) ≡ y +ℤ z
words_added y z h k ny nz =
    let a = h.least in
    let b : y <ℤ absent = below_absent y h.most ny in
    let c = k.least in
    let d : z <ℤ absent = below_absent z k.most nz in
    word_sum y z (fits_by y (omega (arith, ints, a)) (omega (arith, ints, b))) (fits_by z (omega (arith, ints, c)) (omega (arith, ints, d))) (fits_by (y +ℤ z) (omega (arith, ints, a, c)) (omega (arith, ints, b, d)))

pub if_at_most : (x y : ℤ) → le_z x y ≡ true → x ≤ℤ y
if_at_most x y e = grind (arith, ints)

pub unless_at_most : (x y : ℤ) → le_z x y ≡ false → y <ℤ x
unless_at_most x y e = grind (arith, ints)

pub absent_word : (w : ℤ) → SFits w64 w → of_z w64 w ≡ 2 ^ 62 → w ≡ absent
absent_word w f e = sym (to_z-of_z w64 w f) ∙ ap (to_z w64) e

pub word_fits : (b : Bound) (w : ℤ) → IsWord b w → SFits w64 w
word_fits None w e = subst (SFits w64) (sym e) (record { sfits = omega (arith, ints) })
word_fits (Some f) w (inl (s, e)) = short_fits w s.least s.most
word_fits (Some f) w (inr e) = subst (SFits w64) (sym e) (record { sfits = omega (arith, ints) })

pub word_within : (b : Bound) (w : ℤ) → IsWord b w → IsWithinWords w
word_within None w e = record { least = omega (arith, ints, e); most = omega (arith, ints, e) }
word_within (Some f) w (inl (s, e)) = (let l = s.least in let m = s.most in record { least = omega (arith, ints, l); most = omega (arith, ints, m) })
word_within (Some f) w (inr e) = record { least = omega (arith, ints, e); most = omega (arith, ints, e) }

pub told_or_other : (b : Bound) (w : ℤ) → IsWord b w → IsTold w ⊎ (w ≡ other)
told_or_other None w e = inl (inl e)
told_or_other (Some f) w (inl (s, e)) = inl (inr s)
told_or_other (Some f) w (inr e) = inr e

-- ---- the words of cells
pub words_set : (cells : List Bound) (words : List ℤ) (q : ℕ) (b : Bound) (w : ℤ) → AreWords cells words → q < length cells → IsWord b w → AreWords (slice_set cells q b) (slice_set words q w)
words_set cells words q b w h l k = record {
  full = length-set words q w ∙ h.full ∙ sym (length-set cells q b);
  each = λ p lp. by p (subst (λ (n : ℕ). p < n) (length-set cells q b) lp) (cases_order p q);
}
  where
    at : (p : ℕ) → p ≡ q → IsWord (slice_index_or (slice_set cells q b) p None) (get_or (slice_set words q w) p (pos 0))
    at p e =
        let cell : IsWord (slice_index_or (slice_set cells q b) q None) w = subst (λ (o : Bound). IsWord o w) (sym (get_or-set_same cells q b None l)) k in
        let both : IsWord (slice_index_or (slice_set cells q b) q None) (get_or (slice_set words q w) q (pos 0)) = subst (λ (z : ℤ). IsWord (slice_index_or (slice_set cells q b) q None) z) (sym (get_or-set_same words q w (pos 0) (subst (λ (n : ℕ). q < n) (sym h.full) l))) cell in
        subst (λ (n : ℕ). IsWord (slice_index_or (slice_set cells q b) n None) (get_or (slice_set words q w) n (pos 0))) (sym e) both

    aside : (p : ℕ) → p < length cells → (p ≡ q → ⊥) → IsWord (slice_index_or (slice_set cells q b) p None) (get_or (slice_set words q w) p (pos 0))
    aside p lp n =
        subst (λ (z : ℤ). IsWord (slice_index_or (slice_set cells q b) p None) z) (sym (get_or-set_other words q p w (pos 0) n))
        (subst (λ (o : Bound). IsWord o (get_or words p (pos 0))) (sym (get_or-set_other cells q p b None n)) (h.each p lp))

    by : (p : ℕ) → p < length cells → (p ≡ q) ⊎ ((p < q) ⊎ (q < p)) → IsWord (slice_index_or (slice_set cells q b) p None) (get_or (slice_set words q w) p (pos 0))
    by p lp (inl e) = at p e
    by p lp (inr (inl g)) = aside p lp (λ e. omega arith)
    by p lp (inr (inr g)) = aside p lp (λ e. omega arith)

pub table_set : (t : Table) (q : ℕ) (b : Bound) → IsTable t → IfSome b IsFraction → IsTable (record { places = t.places; cells = slice_set t.cells q b })
table_set t q b h f = record {
  full = length-set t.cells q b ∙ h.full;
  fractions = All-set (λ c. IfSome c IsFraction) t.cells q b f h.fractions;
  few = h.few;
}

-- ---- steps
whole_primitive : (n : ℤ) → IsPrimitive (n ∷ pos 1 ∷ [])
whole_primitive n = inr (λ d k. eq-one_of_dvd-one (k 1 (pos 0) (omega arith)))

sum_of_whole : (y z : ℤ) → IsLowestOf (sum (whole y) (whole z)) (whole (y +ℤ z))
sum_of_whole y z = sum_answer (whole y) (whole z) (y +ℤ z) (pos 1) (whole (y +ℤ z)) (omega (arith, ints)) refl (IsPrimitiveOf-self ((y +ℤ z) ∷ pos 1 ∷ []) (whole_primitive (y +ℤ z)))

record AreWhole (b c : Bound) (y z : ℤ) : Type 0 where
  first : b ≡ Some (whole y)
  second : c ≡ Some (whole z)
  first_short : IsShort y
  second_short : IsShort z

-- where the sum of two words is that of no other bound, both are whole numbers
both_whole : (b c : Bound) (y z : ℤ) → IsWord b y → IsWord c z → (y ≡ absent → ⊥) → (z ≡ absent → ⊥) → neg_ℤ (pos (2 ^ 60)) <ℤ (y +ℤ z) → AreWhole b c y z
both_whole None c y z h k n o l = absurd (n h)
both_whole (Some f) None y z h k n o l = absurd (o k)
both_whole (Some f) (Some g) y z (inl (s, e)) (inl (t, d)) n o l = record { first = ap Some e; second = ap Some d; first_short = s; second_short = t }
both_whole (Some f) (Some g) y z (inl (s, e)) (inr d) n o l = absurd (let m = s.most in omega (arith, ints, m, d, l))
both_whole (Some f) (Some g) y z (inr e) (inl (t, d)) n o l = absurd (let m = t.most in omega (arith, ints, m, e, l))
both_whole (Some f) (Some g) y z (inr e) (inr d) n o l = absurd (omega (arith, ints, e, d, l))

module _ (x y z : ℤ) (ny : y ≡ absent → ⊥) (nz : z ≡ absent → ⊥) (nx : x ≡ other → ⊥) (l : neg_ℤ (pos (2 ^ 60)) <ℤ (y +ℤ z)) where
  over_whole : (a b c r : Bound) → AreWhole b c y z → IsRelaxed a (Some (whole y)) (Some (whole z)) r → IsRelaxed a b c r
  over_whole a b c r w h = subst (λ (o : Bound). IsRelaxed a o c r) (sym w.first) (subst (λ (o : Bound). IsRelaxed a (Some (whole y)) o r) (sym w.second) h)

  kept : (a : Bound) → IsWord a x → IsShort y → IsShort z → x ≤ℤ (y +ℤ z) → IsLesser a (whole (y +ℤ z)) a
  kept None e s t h = absurd (let m = s.most in let n = t.most in omega (arith, ints, e, m, n, h))
  kept (Some f) (inl (s, e)) sy sz h = inr (subst (λ (g : Fraction). ¬ (IsBelow (whole (y +ℤ z)) g)) (sym e) (λ k. omega (arith, ints, k, h)), refl)
  kept (Some f) (inr e) sy sz h = absurd (nx e)

  pub stays_by : x ≤ℤ (y +ℤ z) → IsStep x y z Stays
  stays_by h a b c wa wb wc =
      let w = both_whole b c y z wb wc ny nz l in
      over_whole a b c a w (whole (y +ℤ z), sum_of_whole y z, kept a wa w.first_short w.second_short h)

  fallen : (a : Bound) → IsWord a x → (y +ℤ z) <ℤ x → IsLesser a (whole (y +ℤ z)) (Some (whole (y +ℤ z)))
  fallen None e h = refl
  fallen (Some f) (inl (s, e)) h = inl (subst (λ (g : Fraction). IsBelow (whole (y +ℤ z)) g) (sym e) (omega (arith, ints, h)), refl)
  fallen (Some f) (inr e) h = absurd (nx e)

  pub falls_by : (y +ℤ z) <ℤ x → (y +ℤ z) <ℤ pos (2 ^ 60) → IsStep x y z (Falls (y +ℤ z))
  falls_by h m a b c wa wb wc =
      let w = both_whole b c y z wb wc ny nz l in
      (over_whole a b c (Some (whole (y +ℤ z))) w (whole (y +ℤ z), sum_of_whole y z, fallen a wa h), record { least = l; most = m })

-- ---- choices
pub picks_greater : (a b : Bound) (r : Option Bool) → ComparesAs a b r → PicksAs Greater a b r
picks_greater a b None h = tt
picks_greater None b (Some true) h = absurd h
picks_greater (Some x) None (Some true) h = refl
picks_greater (Some x) (Some y) (Some true) h = inl (h, refl)
picks_greater None b (Some false) h = refl
picks_greater (Some x) None (Some false) h = absurd (h tt)
picks_greater (Some x) (Some y) (Some false) h = inr (h, refl)

pub picks_lesser : (a b : Bound) (r : Option Bool) → ComparesAs b a r → PicksAs Lesser a b r
picks_lesser a b None h = tt
picks_lesser a None (Some true) h = absurd h
picks_lesser None (Some y) (Some true) h = refl
picks_lesser (Some x) (Some y) (Some true) h = inl (h, refl)
picks_lesser a None (Some false) h = refl
picks_lesser None (Some y) (Some false) h = absurd (h tt)
picks_lesser (Some x) (Some y) (Some false) h = inr (h, refl)

-- ---- inclusion
below_uncovered : (a b : Bound) → IsBoundBelow a b → ¬ (IsCovered a b)
below_uncovered None b h k = h
below_uncovered (Some x) None h k = k
below_uncovered (Some x) (Some y) h k = k h

not_below_covered : (a b : Bound) → ¬ (IsBoundBelow a b) → IsCovered a b
not_below_covered None b n = tt
not_below_covered (Some x) None n = absurd (n tt)
not_below_covered (Some x) (Some y) n = n

pub covered_by : (a b : Bound) (r : Bool) → ComparesAs a b (Some r) → IsTrue (not r) ↔ IsCovered a b
covered_by a b true h = (λ t. absurd (false≢true t), λ k. absurd (below_uncovered a b h k))
covered_by a b false h = (λ t. not_below_covered a b h, λ k. refl)

unless_less : (x y : ℤ) → lt_z x y ≡ false → y ≤ℤ x
unless_less x y e = grind (arith, ints)

covered_word : (x y : ℤ) → y ≤ℤ x → (y ≡ other → ⊥) → IsCoveredWord x y
covered_word x y h n None b wa wb = tt
covered_word x y h n (Some f) None (inl (s, e)) k = absurd (let m = s.most in omega (arith, ints, m, k, h))
covered_word x y h n (Some f) None (inr e) k = absurd (omega (arith, ints, e, k, h))
covered_word x y h n (Some f) (Some g) wa (inr d) = absurd (n d)
covered_word x y h n (Some f) (Some g) (inr e) (inl (t, d)) = absurd (let m = t.least in omega (arith, ints, m, e, h))
covered_word x y h n (Some f) (Some g) (inl (s, e)) (inl (t, d)) =
    subst (λ (k : Fraction). ¬ (IsBelow k g)) (sym e) (subst (λ (k : Fraction). ¬ (IsBelow (whole x) k)) (sym d) (λ k. omega (arith, ints, k, h)))

pub covered_read : (x y : ℤ) → lt_z (to_z w64 (of_z w64 x)) (to_z w64 (of_z w64 y)) ≡ false → (of_z w64 y ≡ of_z w64 other → ⊥) → IsCoveredWord x y
covered_read x y h n a b wa wb =
    let first = to_z-of_z w64 x (word_fits a x wa) in
    let second = to_z-of_z w64 y (word_fits b y wb) in
    let less : lt_z x y ≡ false = subst (λ (z : ℤ). lt_z z y ≡ false) first (subst (λ (z : ℤ). lt_z (to_z w64 (of_z w64 x)) z ≡ false) second h) in
    covered_word x y (unless_less x y less) (λ e. n (ap (of_z w64) e)) a b wa wb
