-- Rows of fractions while they are read.
use Rattle.std.proofs.Common.{◌≡◌, ℕ, ◌+◌, ◌-◌, ◌*◌, ◌/◌, ◌^◌, ◌<◌, ◌≤◌, suc, List, [], ◌∷◌, ◌++◌, length, map, take, drop, refl, sym, ◌∙◌, ap, subst, arith, inl, inr, ◌⊎◌, length-append, append_assoc}
use Prim.Native.Nat.{◌∣◌}
use Rattle.std.specs.Prelude.{All, ℤ}
use Rattle.std.specs.List.{flat_map}
use Rattle.std.specs.Simd.{first_chunks}
use Rattle.std.proofs.Math.Nat.{div-eq_of_lt, div-eq-sub-div}
use Rattle.std.proofs.Math.Seq.{take-append_seam, drop-append_seam}
use Rattle.std.proofs.lemmas.Bool.{cases_lt}
use Rattle.std.proofs.lemmas.List.{length-map, map-append, append-nil, length-take-le, take-append-drop}
use Rattle.std.proofs.lemmas.List.Elements.{All-nil, All-cons, All-head, All-tail, All-append}
use Rattle.std.proofs.lemmas.Nat.Gcd.{le_of_dvd}
use Rattle.row_core.specs.Range.{InRange, AllInRange}
use Rattle.cdd_reading.specs.Tokens.{texts, Token}
use Rattle.cdd_reading.specs.Fractions.{lcm, lcm_of, denominator, lowest, times, common, integers, cut_rows, all_integers, AllDivide, IsSmall, FitRange}
use Rattle.cdd_reading.specs.Tables.{IsTooLarge, IsRowErr, fraction_of, times_of, IsIntegral, CanFollow}
use Rattle.cdd_reading.specs.declared.values.Numeral.{Numeral}
use Rattle.cdd_reading.specs.declared.values.IntegerErr.{IntegerErr}
use Rattle.cdd_reading.specs.declared.values.IntegerErr.TheVariants as value
use Rattle.cdd_reading.proofs.ListLaws.{All-inside, one_further}
use Rattle.cdd_reading.proofs.Divisors.{lcm_of_is}
use Rattle.cdd_reading.proofs.ValueLaws.{Divide, front_all, all_positive, lowest_positive, push_least}

-- ---- refusals
-- what is refused of a part is refused of the whole
pub refused_more : (D F E G : Type 0) (e : IntegerErr) → (E → D) → (E → G → F) → IsRowErr D F e → IsRowErr E G e
refused_more D F E G value.ZeroDivisor f g h = λ d. h (f d)
refused_more D F E G value.TooLarge f g h = λ both. h (f both.0, g both.0 both.1)
refused_more D F E G value.Memory f g h = tt

-- ---- one row of all
abbrev IsLow : List (List ℕ) → Type 0
IsLow row = common row < 2 ^ 127

rows_with : (w a b n : ℕ) → 0 < w → a ≡ w → n ≡ a + b → n / w ≡ suc (b / w)
rows_with w a b n some e f =
    let h : w ≤ n = omega arith in
    let left : n - w ≡ b = omega arith in
    div-eq-sub-div some h ∙ ap (λ (x : ℕ). x / w + 1) left ∙ plus_one (b / w)
  where
    plus_one : (k : ℕ) → k + 1 ≡ suc k
    plus_one k = omega arith

-- a row off the front
row_off : (w : ℕ) (row rest : List (List ℕ)) → 0 < w → length row ≡ w → cut_rows w (row ++ rest) ≡ row ∷ cut_rows w rest
row_off w row rest some e =
    ap (λ (k : ℕ). first_chunks w k (row ++ rest)) (rows_with w (length row) (length rest) (length (row ++ rest)) some e (length-append row rest))
    ∙ ap (λ (l : List (List ℕ)). l ∷ first_chunks w (length rest / w) (drop w (row ++ rest))) (ap (λ (n : ℕ). take n (row ++ rest)) (sym e) ∙ take-append_seam row rest)
    ∙ ap (λ (l : List (List ℕ)). row ∷ first_chunks w (length rest / w) l) (ap (λ (n : ℕ). drop n (row ++ rest)) (sym e) ∙ drop-append_seam row rest)

no_row : (w : ℕ) → 0 < w → cut_rows w [] ≡ []
no_row w some = ap (λ (k : ℕ). first_chunks w k []) (nothing w some)
  where
    nothing : (w : ℕ) → 0 < w → 0 / w ≡ 0
    nothing w some = div-eq_of_lt some

pub record FitRow (row : List (List ℕ)) : Type 0 where
  pub each : All IsSmall row
  pub common : common row < 2 ^ 127
  pub integers : AllInRange (integers row)

fit_off : (w : ℕ) (row rest : List (List ℕ)) → 0 < w → length row ≡ w → FitRange w (row ++ rest) → FitRow row × FitRange w rest
fit_off w row rest some e fit =
    let cut = row_off w row rest some e in
    let small = front_all IsSmall row rest fit.each in
    let low : All IsLow (row ∷ cut_rows w rest) = subst (λ (l : List (List (List ℕ))). All IsLow l) cut fit.common in
    let range = front_all InRange (integers row) (all_integers w rest) (subst (λ (l : List (List (List ℕ))). AllInRange (flat_map integers l)) cut fit.integers) in (
      record { each = small.0; common = All-head IsLow row (cut_rows w rest) low; integers = range.0 },
      record { each = small.1; common = All-tail IsLow row (cut_rows w rest) low; integers = range.1 },
    )

fit_on : (w : ℕ) (row rest : List (List ℕ)) → 0 < w → length row ≡ w → FitRow row → FitRange w rest → FitRange w (row ++ rest)
fit_on w row rest some e here fit =
    let cut = sym (row_off w row rest some e) in record {
      each = All-append IsSmall row rest here.each fit.each;
      common = subst (λ (l : List (List (List ℕ))). All IsLow l) cut (All-cons IsLow row (cut_rows w rest) here.common fit.common);
      integers = subst (λ (l : List (List (List ℕ))). AllInRange (flat_map integers l)) cut (All-append InRange (integers row) (all_integers w rest) here.integers fit.integers);
    }

-- the least common multiple of a front isn't greater
common_front : (a b : List (List ℕ)) → AllDivide (a ++ b) → common a ≤ common (a ++ b)
common_front a b h =
    let p = lcm_of_is (map lowest (a ++ b)) (all_positive (a ++ b) h) in
    let q = lcm_of_is (map lowest a) (all_positive a (front_all Divide a b h).0) in
    le_of_dvd p.positive (q.least (common (a ++ b)) (front_all (λ d. d ∣ common (a ++ b)) (map lowest a) (map lowest b) (subst (λ (l : List ℕ). All (λ d. d ∣ common (a ++ b)) l) (map-append lowest a b) p.multiple)).0)

common_push : (a : List (List ℕ)) (t : List ℕ) → AllDivide a → 0 < denominator t → common (a ++ t ∷ []) ≡ lcm (lowest t) (common a)
common_push a t h some = ap lcm_of (map-append lowest a (t ∷ [])) ∙ push_least (map lowest a) (lowest t) (all_positive a h) (lowest_positive t some)

-- as many numbers as rows have
at_least : (w n : ℕ) → 0 < w → n ≡ n / w * w → 0 < n → w ≤ n
at_least w n some e more = by (cases_lt n w)
  where
    by : (n < w) ⊎ (w ≤ n) → w ≤ n
    by (inl few) = let none : n / w ≡ 0 = div-eq_of_lt few in let zero_rows : n ≡ 0 * w = e ∙ ap (λ (k : ℕ). k * w) none in absurd (omega arith)
    by (inr h) = h

rows_off : (w n b : ℕ) → 0 < w → n ≡ n / w * w → n ≡ w + b → b ≡ b / w * w
rows_off w n b some e f =
    let one : n / w ≡ suc (b / w) = rows_with w w b n some refl f in
    let all : n ≡ suc (b / w) * w = e ∙ ap (λ (k : ℕ). k * w) one in
    omega arith

-- ---- the rows that were read
-- the values are the integers of the rows before those that are left
pub record AreDone (w : ℕ) (all left : List (List ℕ)) (values : List ℤ) : Type 0 where
  pub integers : values ++ all_integers w left ≡ all_integers w all
  pub rows : length left ≡ length left / w * w
  pub divide : AllDivide all → AllDivide left
  pub divides : AllDivide left → AllDivide all
  pub fit : FitRange w all → FitRange w left
  pub fits : FitRange w left → FitRange w all

-- the row that is read: its numbers so far, and their least common multiple
pub record IsReading (w : ℕ) (all rest : List (List ℕ)) (values : List ℤ) (numbers : List Numeral) (multiple : ℕ) : Type 0 where
  pub left : List (List ℕ)
  pub done : AreDone w all left values
  pub begun : List (List ℕ)
  pub cut : left ≡ begun ++ rest
  pub row : numbers ≡ map fraction_of begun
  pub divide : AllDivide begun
  pub small : All IsSmall begun
  pub common : multiple ≡ common begun
  pub low : multiple < 2 ^ 127

pub at_first : (w : ℕ) (ts : List (List ℕ)) → length ts ≡ length ts / w * w → IsReading w ts ts [] [] 1
at_first w ts rows = record {
  left = ts;
  done = record { integers = refl; rows = rows; divide = λ h. h; divides = λ h. h; fit = λ h. h; fits = λ h. h };
  begun = [];
  cut = refl;
  row = refl;
  divide = All-nil Divide;
  small = All-nil IsSmall;
  common = refl;
  low = omega arith;
}

pub multiple_positive : (w : ℕ) (all rest : List (List ℕ)) (values : List ℤ) (row : List Numeral) (m : ℕ) → IsReading w all rest values row m → 0 < m
multiple_positive w all rest values row m is = subst (λ (n : ℕ). 0 < n) (sym is.common) (lcm_of_is (map lowest is.begun) (all_positive is.begun is.divide)).positive

-- ---- one number more
follows : (w m : ℕ) (left begun more : List (List ℕ)) (t : List ℕ) → 0 < w → length left ≡ length left / w * w → left ≡ begun ++ t ∷ more → length begun < w → m ≡ common begun → AllDivide left → FitRange w left → CanFollow m t
follows w m left begun more t some rows cut short same divide fit =
    let front = begun ++ t ∷ [] in
    let j = w - length front in
    let front_length : length front ≡ length begun + 1 = length-append begun (t ∷ []) in
    let whole : length left ≡ length begun + suc (length more) = ap length cut ∙ length-append begun (t ∷ more) in
    let wide : w ≤ length left = at_least w (length left) some rows (omega arith) in
    let enough : j ≤ length more = omega arith in
    let row_length : length (front ++ take j more) ≡ w = filled (length (front ++ take j more)) (length front) (length (take j more)) w (length-append front (take j more)) (length-take-le j more enough) (omega arith) in
    let row : left ≡ (front ++ take j more) ++ drop j more =
    one_further begun t (t ∷ more) more left cut refl
    ∙ ap (λ (l : List (List ℕ)). front ++ l) (sym (take-append-drop j more))
    ∙ sym (append_assoc front (take j more) (drop j more)) in
    let each : AllDivide (begun ++ t ∷ more) = subst (λ (l : List (List ℕ)). AllDivide l) cut divide in
    let here : FitRow (front ++ take j more) = (fit_off w (front ++ take j more) (drop j more) some row_length (subst (λ (l : List (List ℕ)). FitRange w l) row fit)).0 in
    let divides : AllDivide (front ++ take j more) = (front_all Divide (front ++ take j more) (drop j more) (subst (λ (l : List (List ℕ)). AllDivide l) row divide)).0 in
    let le : common front ≤ common (front ++ take j more) = common_front front (take j more) divides in
    let next : lcm (lowest t) m ≡ common front = ap (λ (n : ℕ). lcm (lowest t) n) same ∙ sym (common_push begun t (front_all Divide begun (t ∷ more) each).0 (All-inside Divide begun t more each)) in
    let low : common (front ++ take j more) < 2 ^ 127 = here.common in record {
      divides = All-inside Divide begun t more each;
      small = All-inside IsSmall begun t more (subst (λ (l : List (List ℕ)). All IsSmall l) cut fit.each);
      common = below (lcm (lowest t) m) (common front) (common (front ++ take j more)) next le low;
    }
  where
    filled : (n a b w : ℕ) → n ≡ a + b → b ≡ w - a → a ≤ w → n ≡ w
    filled n a b w e f h = omega arith

    below : (n a b : ℕ) → n ≡ a → a ≤ b → b < 2 ^ 127 → n < 2 ^ 127
    below n a b e f h = omega arith

pub number_refused : (w : ℕ) (all : List (List ℕ)) (now rest : List Token) (x : Token) (values : List ℤ) (row : List Numeral) (m : ℕ) (e : IntegerErr) → 0 < w → IsReading w all (texts now) values row m → length row < w → now ≡ x ∷ rest → IsRowErr (Divide x.1) (CanFollow m x.1) e → IsRowErr (AllDivide all) (FitRange w all) e
number_refused w all now rest x values row m e some is short next =
    let cut : is.left ≡ is.begun ++ x.1 ∷ texts rest = is.cut ∙ ap (λ (l : List Token). is.begun ++ texts l) next in
    let few : length is.begun < w = subst (λ (n : ℕ). n < w) (ap length is.row ∙ length-map is.begun fraction_of) short in
    refused_more (Divide x.1) (CanFollow m x.1) (AllDivide all) (FitRange w all) e
    (λ h. All-inside Divide is.begun x.1 (texts rest) (subst (λ (l : List (List ℕ)). AllDivide l) cut (is.done.divide h)))
    (λ h fit. follows w m is.left is.begun (texts rest) x.1 some is.done.rows cut few is.common (is.done.divide h) (is.done.fit fit))

pub number_taken : (w : ℕ) (all : List (List ℕ)) (now rest : List Token) (x : Token) (values : List ℤ) (row new : List Numeral) (m l : ℕ) → IsReading w all (texts now) values row m → now ≡ x ∷ rest → new ≡ row ++ fraction_of x.1 ∷ [] → l ≡ lcm (lowest x.1) m → CanFollow m x.1 → IsReading w all (texts rest) values new l
number_taken w all now rest x values row new m l is next pushed same can =
    let common_is : l ≡ common (is.begun ++ x.1 ∷ []) = same ∙ ap (λ (n : ℕ). lcm (lowest x.1) n) is.common ∙ sym (common_push is.begun x.1 is.divide can.divides) in record {
      left = is.left;
      done = is.done;
      begun = is.begun ++ x.1 ∷ [];
      cut = one_further is.begun x.1 (texts now) (texts rest) is.left is.cut (ap texts next);
      row = pushed ∙ ap (λ (f : List Numeral). f ++ fraction_of x.1 ∷ []) is.row ∙ sym (map-append fraction_of is.begun (x.1 ∷ []));
      divide = All-append Divide is.begun (x.1 ∷ []) is.divide (All-cons Divide x.1 [] can.divides (All-nil Divide));
      small = All-append IsSmall is.begun (x.1 ∷ []) is.small (All-cons IsSmall x.1 [] can.small (All-nil IsSmall));
      common = common_is;
      low = subst (λ (n : ℕ). n < 2 ^ 127) (sym same) can.common;
    }

-- ---- a whole row
integral_all : (m : ℕ) (ts : List (List ℕ)) → AllDivide ts → All (λ d. d ∣ m) (map lowest ts) → All (IsIntegral m) (map fraction_of ts)
integral_all m [] h k = All-nil (IsIntegral m)
integral_all m (t ∷ ts) h k =
    All-cons (IsIntegral m) (fraction_of t) (map fraction_of ts)
    (record { positive = All-head Divide t ts h; multiple = All-head (λ d. d ∣ m) (lowest t) (map lowest ts) k })
    (integral_all m ts (All-tail Divide t ts h) (All-tail (λ d. d ∣ m) (lowest t) (map lowest ts) k))

pub row_integral : (w : ℕ) (all rest : List (List ℕ)) (values : List ℤ) (row : List Numeral) (m : ℕ) → IsReading w all rest values row m → All (IsIntegral m) row
row_integral w all rest values row m is =
    subst (λ (f : List Numeral). All (IsIntegral m) f) (sym is.row)
    (integral_all m is.begun is.divide (subst (λ (n : ℕ). All (λ d. d ∣ n) (map lowest is.begun)) (sym is.common) (lcm_of_is (map lowest is.begun) (all_positive is.begun is.divide)).multiple))

times_all : (m : ℕ) (ts : List (List ℕ)) → map (times_of m) (map fraction_of ts) ≡ map (times m) ts
times_all m [] = refl
times_all m (t ∷ ts) = ap (λ (l : List ℤ). times m t ∷ l) (times_all m ts)

row_integers : (m : ℕ) (row : List Numeral) (ts : List (List ℕ)) → row ≡ map fraction_of ts → m ≡ common ts → map (times_of m) row ≡ integers ts
row_integers m row ts e f = ap (λ (l : List Numeral). map (times_of m) l) e ∙ times_all m ts ∙ ap (λ (n : ℕ). map (times n) ts) f

row_length : (row : List Numeral) (ts : List (List ℕ)) (w : ℕ) → row ≡ map fraction_of ts → length row ≡ w → length ts ≡ w
row_length row ts w e f = sym (length-map ts fraction_of) ∙ ap length (sym e) ∙ f

pub row_refused : (w : ℕ) (all rest : List (List ℕ)) (values : List ℤ) (row : List Numeral) (m : ℕ) (e : IntegerErr) → 0 < w → IsReading w all rest values row m → length row ≡ w → IsTooLarge (AllInRange (map (times_of m) row)) e → IsRowErr (AllDivide all) (FitRange w all) e
row_refused w all rest values row m value.ZeroDivisor some is full h = absurd h
row_refused w all rest values row m value.TooLarge some is full h = λ both.
    h (subst (λ (l : List ℤ). AllInRange l) (sym (row_integers m row is.begun is.row is.common))
    (fit_off w is.begun rest some (row_length row is.begun w is.row full) (subst (λ (l : List (List ℕ)). FitRange w l) is.cut (is.done.fit both.1))).0.integers)
row_refused w all rest values row m value.Memory some is full h = tt

pub row_taken : (w : ℕ) (all rest : List (List ℕ)) (values new : List ℤ) (row : List Numeral) (m : ℕ) → 0 < w → IsReading w all rest values row m → length row ≡ w → new ≡ values ++ map (times_of m) row → AllInRange (map (times_of m) row) → IsReading w all rest new [] 1
row_taken w all rest values new row m some is full pushed range =
    let same : map (times_of m) row ≡ integers is.begun = row_integers m row is.begun is.row is.common in
    let wide : length is.begun ≡ w = row_length row is.begun w is.row full in
    let here : FitRow is.begun = record { each = is.small; common = subst (λ (n : ℕ). n < 2 ^ 127) is.common is.low; integers = subst (λ (l : List ℤ). AllInRange l) same range } in record {
      left = rest;
      done = record {
        integers =
            ap (λ (l : List ℤ). l ++ all_integers w rest) (pushed ∙ ap (λ (l : List ℤ). values ++ l) same)
            ∙ append_assoc values (integers is.begun) (all_integers w rest)
            ∙ ap (λ (l : List (List (List ℕ))). values ++ flat_map integers l) (sym (row_off w is.begun rest some wide))
            ∙ ap (λ (l : List (List ℕ)). values ++ all_integers w l) (sym is.cut)
            ∙ is.done.integers;
        rows = rows_off w (length is.left) (length rest) some is.done.rows (ap length is.cut ∙ length-append is.begun rest ∙ ap (λ (n : ℕ). n + length rest) wide);
        divide = λ h. (front_all Divide is.begun rest (subst (λ (l : List (List ℕ)). AllDivide l) is.cut (is.done.divide h))).1;
        divides = λ h. is.done.divides (subst (λ (l : List (List ℕ)). AllDivide l) (sym is.cut) (All-append Divide is.begun rest is.divide h));
        fit = λ h. (fit_off w is.begun rest some wide (subst (λ (l : List (List ℕ)). FitRange w l) is.cut (is.done.fit h))).1;
        fits = λ h. is.done.fits (subst (λ (l : List (List ℕ)). FitRange w l) (sym is.cut) (fit_on w is.begun rest some wide here h));
      };
      begun = [];
      cut = refl;
      row = refl;
      divide = All-nil Divide;
      small = All-nil IsSmall;
      common = refl;
      low = omega arith;
    }

-- ---- the end
pub at_end : (w : ℕ) (all : List (List ℕ)) (now : List Token) (values : List ℤ) (row : List Numeral) (m : ℕ) → 0 < w → IsReading w all (texts now) values row m → now ≡ [] → length row < w → (values ≡ all_integers w all) × AllDivide all × FitRange w all
at_end w all now values row m some is e short =
    let whole : is.left ≡ is.begun = is.cut ∙ ap (λ (l : List Token). is.begun ++ texts l) e ∙ append-nil is.begun in
    let few : length is.begun < w = subst (λ (n : ℕ). n < w) (ap length is.row ∙ length-map is.begun fraction_of) short in
    let none : is.left ≡ [] = no_rows is.left w some is.done.rows (subst (λ (l : List (List ℕ)). length l < w) (sym whole) few) in
    let rows : cut_rows w is.left ≡ [] = ap (λ (l : List (List ℕ)). cut_rows w l) none ∙ no_row w some in (
      sym (append-nil values) ∙ ap (λ (l : List (List (List ℕ))). values ++ flat_map integers l) (sym rows) ∙ is.done.integers,
      is.done.divides (subst (λ (l : List (List ℕ)). AllDivide l) (sym none) (All-nil Divide)),
      is.done.fits (record {
        each = subst (λ (l : List (List ℕ)). All IsSmall l) (sym none) (All-nil IsSmall);
        common = subst (λ (l : List (List (List ℕ))). All IsLow l) (sym rows) (All-nil IsLow);
        integers = subst (λ (l : List (List (List ℕ))). AllInRange (flat_map integers l)) (sym rows) (All-nil InRange);
      }),
    )
  where
    no_rows : (l : List (List ℕ)) (w : ℕ) → 0 < w → length l ≡ length l / w * w → length l < w → l ≡ []
    no_rows [] w some e h = refl
    no_rows (t ∷ l) w some e h = let wide : w ≤ length (t ∷ l) = at_least w (length (t ∷ l)) some e (omega arith) in absurd (omega arith)
