-- Written files have the marks and rows that are said.
use Rattle.std.proofs.Common.{◌≡◌, ℕ, ◌+◌, ◌-◌, ◌*◌, ◌/◌, ◌^◌, ◌<◌, ◌≤◌, ◌==◌, ◌||◌, Bool, true, false, not, List, [], ◌∷◌, ◌++◌, length, map, take, drop, cond, refl, sym, ◌∙◌, ap, subst, arith, inl, inr, codes, suc, zero, length-append, eq-eqb}
use Rattle.std.specs.Prelude.{All, ℤ, pos, negsuc, ◌*ℤ◌, ◌<ℤ◌, unsigned_abs, int_div, decimal, if◌then◌else◌, slice_index_or, IsTrue}
use Rattle.std.proofs.Math.IntN.{neg_ℤ}
use Rattle.std.specs.Fmt.{signed_decimal}
use Rattle.std.specs.List.{list_any, flat_map, AllZip}
use Rattle.std.proofs.Math.Seq.{take-append_seam, drop-append_seam, get_or-append_seam}
use Rattle.std.proofs.Math.Nat.{mul_assoc, mul_comm, div-le_self}
use Rattle.std.proofs.lemmas.Int.{ints}
use Rattle.std.proofs.lemmas.Fmt.{decimal_digit}
use Rattle.std.proofs.lemmas.Bool.Decides.{Decides-eqb}
use Rattle.std.proofs.lemmas.List.{map-append, append-nil, length-map}
use Rattle.std.proofs.lemmas.Bool.{or_parts}
use Rattle.std.proofs.lemmas.List.Elements.{All-nil, All-cons, All-head, All-tail, All-append, All-take, All-drop, All-map}
use Rattle.std.proofs.lemmas.Slice.Zip.{AllZip-long}
use Rattle.row_core.specs.Vectors.{cell}
use Rattle.row_core.specs.Range.{InRange, AllInRange}
use Rattle.row_core.proofs.Ring.{neg-mul, mul-neg}
use Rattle.cons_sys.specs.Constraints as cons
use Rattle.cons_sys.specs.Constraints.{Constraint, Constraints}
use Rattle.cons_sys.specs.declared.kind.ConKind.TheVariants.{Eq, Ge, Gt}
use Rattle.gens_sys.specs.Generators as gens
use Rattle.gens_sys.specs.Generators.{Generator, Generators}
use Rattle.gens_sys.specs.declared.kind.GenKind.TheVariants.{Line, Ray, Point, ClosurePoint}
use Rattle.stored_systems.specs.PointSets.{IsClosedKind, AreClosed, IsClosedGenKind, AreClosedKinds}
use Rattle.plain_text.proofs.Decimals.{decimal_nat, number-decimal}
use Rattle.cdd_reading.specs.Bodies.{type_word}
use Rattle.cdd_reading.specs.Fractions.{gcd}
use Rattle.cdd_reading.proofs.Divisors.{lowest_terms}
use Rattle.cdd_reading.proofs.ListLaws.{zip_push}
use Rattle.cdd_reading.proofs.MarkLaws.{not_same}
use Rattle.cdd_reading.specs.declared.format.NumberType.{NumberType}
use Rattle.cdd_reading.specs.declared.format.NumberType.TheVariants.{Integer, Rational}
use Rattle.cdd_text.specs.Written as old
use Rattle.cdd_text.specs.Written.{line_of, marked_from, turned_back, row_words, divisor_text, fraction_word, point_words, is_equality_constraint, is_line_generator, generator_words, type_of, has_divisor, ine_text, ext_text}
use Rattle.soundness.specs.TextsNumbers.{IsNumber}
use Rattle.soundness.specs.FileLines.{IsInteger, whole, minus, IsFraction, integer, fraction, IsTimes, AreNumbersOf, IsRowOf, IsVectorOf, AreRows, IsTypeOf, kind_name, BeginsSo, file_text}
use Rattle.soundness.proofs.FileNumbers.{digits_number}

-- ---- numbers
pub decimal_is : (n : ℕ) → n < 2 ^ 127 → IsNumber (decimal n) n
decimal_is n small = subst (λ (m : ℕ). IsNumber (decimal n) m) (number-decimal n small) (digits_number (decimal n) (decimal_nat n small))

signed_is : (z : ℤ) → InRange z → IsInteger (signed_decimal z) z
signed_is (pos n) r = whole (decimal n) n (decimal_is n r.size)
signed_is (negsuc n) r = minus (decimal (suc n)) (suc n) (decimal_is (suc n) r.size)

one_times : (z : ℤ) → pos 1 *ℤ z *ℤ pos 1 ≡ pos 1 *ℤ z
one_times z = omega (arith, ints)

integer_entries : (row : List ℤ) → AllInRange row → AllZip (IsTimes 1 1) (map signed_decimal row) row
integer_entries [] h = tt
integer_entries (z ∷ row) h = ((z, 1, integer (signed_decimal z) z (signed_is z (All-head InRange z row h)), one_times z), integer_entries row (All-tail InRange z row h))

-- ---- the last entry
record HasLast (row : List ℤ) : Type 0 where
  front : List ℤ
  last : ℤ
  same : row ≡ front ++ last ∷ []

has_last : (row : List ℤ) → 0 < length row → HasLast row
has_last [] h = absurd (omega (arith, h))
has_last (z ∷ []) h = record { front = []; last = z; same = refl }
has_last (z ∷ y ∷ row) h = let r = has_last (y ∷ row) (omega arith) in record { front = z ∷ r.front; last = r.last; same = ap (λ (l : List ℤ). z ∷ l) r.same }

length_last : (front : List ℤ) (z : ℤ) → length (front ++ z ∷ []) - 1 ≡ length front
length_last front z = omega (arith, length-append front (z ∷ []))

turned_last : (front : List ℤ) (z : ℤ) → turned_back (front ++ z ∷ []) ≡ z ∷ front
turned_last front z =
    let row = front ++ z ∷ [] in
    ap (λ (k : ℕ). drop k row ++ take k row) (length_last front z)
    ∙ ap (λ (l : List ℤ). l ++ take (length front) row) (drop-append_seam front (z ∷ []))
    ∙ ap (λ (l : List ℤ). z ∷ l) (take-append_seam front (z ∷ []))

-- ---- rows of integers
row_by : (front : List ℤ) (z : ℤ) → AllInRange (front ++ z ∷ []) → AreNumbersOf (row_words (front ++ z ∷ [])) (front ++ z ∷ [])
row_by front z h = record {
  first = signed_decimal z;
  others = map signed_decimal front;
  words_are = ap (map signed_decimal) (turned_last front z);
  left = 1;
  right = 1;
  left_positive = omega arith;
  right_positive = omega arith;
  each = subst (λ (ws : List (List ℕ)). AllZip (IsTimes 1 1) ws (front ++ z ∷ [])) (map-append signed_decimal front (z ∷ [])) (integer_entries (front ++ z ∷ []) h);
}

row_numbers : (dim : ℕ) (row : List ℤ) → length row ≡ dim + 1 → AllInRange row → AreNumbersOf (row_words row) row
row_numbers dim row wide h =
    let l = has_last row (omega (arith, wide)) in
    subst (λ (r : List ℤ). AreNumbersOf (row_words r) r) (sym l.same) (row_by l.front l.last (subst AllInRange l.same h))

-- ---- points
-- a number over a divisor, in lowest terms
size_of_negative : (k : ℕ) → unsigned_abs (neg_ℤ (pos k)) ≡ k
size_of_negative zero = refl
size_of_negative (suc k) = refl

crossed : (n d g a e : ℕ) → n ≡ g * a → d ≡ g * e → n * e ≡ d * a
crossed n d g a e f h = ap (λ (k : ℕ). k * e) f ∙ mul_assoc g a e ∙ ap (λ (k : ℕ). g * k) (mul_comm a e) ∙ sym (mul_assoc g e a) ∙ ap (λ (k : ℕ). k * a) (sym h)

one_of : (n : ℕ) → 1 * n ≡ n
one_of n = omega arith

one_negative : (n : ℕ) → pos 1 *ℤ negsuc n ≡ neg_ℤ (pos (suc n))
one_negative n = omega (arith, ints)

record IsQuotient (d : ℕ) (x q : ℤ) (e : ℕ) : Type 0 where
  range : InRange q
  times : pos 1 *ℤ x *ℤ pos e ≡ pos d *ℤ q

quotient : (d : ℕ) (x : ℤ) → InRange x → 0 < d → IsQuotient d x (int_div x (pos (gcd (unsigned_abs x) d))) (d / gcd (unsigned_abs x) d)
quotient d (pos n) r some =
    let g = gcd n d in
    let low = lowest_terms n d some in
    let less : n / g ≤ n = div-le_self n g in
    record { range = record { size = omega (arith, less, r.size) }; times = ap (λ (k : ℕ). pos (k * (d / g))) (one_of n) ∙ ap pos (crossed n d g (n / g) (d / g) low.left low.right) }
quotient d (negsuc n) r some =
    let g = gcd (suc n) d in
    let low = lowest_terms (suc n) d some in
    let less : suc n / g ≤ suc n = div-le_self (suc n) g in
    record {
      range = record { size = subst (λ (k : ℕ). k < 2 ^ 127) (sym (size_of_negative (suc n / g))) (omega (arith, less, r.size)) };
      times =
          ap (λ (z : ℤ). z *ℤ pos (d / g)) (one_negative n)
          ∙ neg-mul (pos (suc n)) (pos (d / g))
          ∙ ap (λ (k : ℕ). neg_ℤ (pos k)) (crossed (suc n) d g (suc n / g) (d / g) low.left low.right)
          ∙ sym (mul-neg (pos d) (pos (suc n / g)));
    }

word_by : (b : Bool) (q : ℤ) (e : ℕ) → (e == 1) ≡ b → InRange q → 0 < e → e < 2 ^ 127 → IsFraction (signed_decimal q ++ cond b [] (47 ∷ decimal e)) q e
word_by true q e f r some small =
    let one : 1 ≡ e = sym ((Decides-eqb e 1).0 f) in
    subst (λ (w : List ℕ). IsFraction w q e) (sym (append-nil (signed_decimal q))) (subst (λ (n : ℕ). IsFraction (signed_decimal q) q n) one (integer (signed_decimal q) q (signed_is q r)))
word_by false q e f r some small = fraction (signed_decimal q) (decimal e) q e (signed_is q r) (decimal_is e small) some

fraction_entry : (d : ℕ) (x : ℤ) → InRange x → 0 < d → d < 2 ^ 127 → IsTimes 1 d (fraction_word d x) x
fraction_entry d x r some small =
    let g = gcd (unsigned_abs x) d in
    let low = lowest_terms (unsigned_abs x) d some in
    let q = int_div x (pos g) in
    let e = d / g in
    let is = quotient d x r some in
    let fewer : e ≤ d = div-le_self d g in (q, e, word_by (e == 1) q e refl is.range low.positive (omega (arith, fewer, small)), is.times)

fraction_entries : (d : ℕ) (row : List ℤ) → AllInRange row → 0 < d → d < 2 ^ 127 → AllZip (IsTimes 1 d) (map (fraction_word d) row) row
fraction_entries d [] h some small = tt
fraction_entries d (x ∷ row) h some small = (fraction_entry d x (All-head InRange x row h) some small, fraction_entries d row (All-tail InRange x row h) some small)

one_is : IsNumber (codes "1") 1
one_is = subst (λ (w : List ℕ). IsNumber w 1) (decimal_digit 1 (omega arith)) (decimal_is 1 (omega arith))

divisor_entry : (d : ℕ) → IsTimes 1 d (codes "1") (pos d)
divisor_entry d = (pos 1, 1, integer (codes "1") (pos 1) (whole (codes "1") 1 one_is), omega (arith, ints))

point_last : (front : List ℤ) (z : ℤ) → point_words (front ++ z ∷ []) ≡ codes "1" ∷ map (fraction_word (unsigned_abs z)) front
point_last front z =
    let row = front ++ z ∷ [] in
    ap (λ (k : ℕ). codes "1" ∷ map (fraction_word (unsigned_abs (cell row k))) (take k row)) (length_last front z)
    ∙ ap (λ (y : ℤ). codes "1" ∷ map (fraction_word (unsigned_abs y)) (take (length front) row)) (get_or-append_seam front z [] (pos 0))
    ∙ ap (λ (l : List ℤ). codes "1" ∷ map (fraction_word (unsigned_abs z)) l) (take-append_seam front (z ∷ []))

front_range : (front : List ℤ) (z : ℤ) → AllInRange (front ++ z ∷ []) → AllInRange front × InRange z
front_range [] z h = (All-nil InRange, All-head InRange z [] h)
front_range (y ∷ front) z h = let p = front_range front z (All-tail InRange y (front ++ z ∷ []) h) in (All-cons InRange y front (All-head InRange y (front ++ z ∷ []) h) p.0, p.1)

point_by : (front : List ℤ) (z : ℤ) → pos 0 <ℤ z → AllInRange (front ++ z ∷ []) → AreNumbersOf (point_words (front ++ z ∷ [])) (front ++ z ∷ [])
point_by front (negsuc n) positive h = absurd (omega (arith, ints, positive))
point_by front (pos d) positive h =
    let p = front_range front (pos d) h in
    let some : 0 < d = omega (arith, ints, positive) in
    record {
      first = codes "1";
      others = map (fraction_word d) front;
      words_are = point_last front (pos d);
      left = 1;
      right = d;
      left_positive = omega arith;
      right_positive = some;
      each = zip_push (IsTimes 1 d) (map (fraction_word d) front) front (codes "1") (pos d) (fraction_entries d front p.0 some p.1.size) (divisor_entry d);
    }

last_cell : (dim : ℕ) (row : List ℤ) → length row ≡ dim + 1 → (l : HasLast row) → cell row dim ≡ l.last
last_cell dim row wide l =
    let n : dim ≡ length l.front = omega (arith, wide, ap (λ (r : List ℤ). length r) l.same, length-append l.front (l.last ∷ [])) in
    ap (λ (r : List ℤ). cell r dim) l.same ∙ ap (λ (k : ℕ). cell (l.front ++ l.last ∷ []) k) n ∙ get_or-append_seam l.front l.last [] (pos 0)

point_numbers : (dim : ℕ) (row : List ℤ) → length row ≡ dim + 1 → pos 0 <ℤ cell row dim → AllInRange row → AreNumbersOf (point_words row) row
point_numbers dim row wide positive h =
    let l = has_last row (omega (arith, wide)) in
    subst (λ (r : List ℤ). AreNumbersOf (point_words r) r) (sym l.same) (point_by l.front l.last (subst (λ (z : ℤ). pos 0 <ℤ z) (last_cell dim row wide l) positive) (subst AllInRange l.same h))

-- ---- how wide rows are
numbers_wide : (words : List (List ℕ)) (row : List ℤ) → AreNumbersOf words row → length words ≡ length row
numbers_wide words row n =
    let entries = AllZip-long (IsTimes n.left n.right) (n.others ++ n.first ∷ []) row n.each in
    let turned = length-append n.others (n.first ∷ []) in
    omega (arith, entries, turned, ap (λ (l : List (List ℕ)). length l) n.words_are)

-- ---- the marked rows
or_same : (a b : Bool) → a ≡ false → (a || b) ≡ b
or_same true b e = cc
or_same false b e = refl

or_first : (a b : Bool) → a ≡ true → (a || b) ≡ true
or_first true b e = refl
or_first false b e = cc

abbrev names : List ℕ → ℕ → Bool
names is j = list_any (λ k. k == j) is

before_marks : (i j : ℕ) (marks : List Bool) → j < i → names (marked_from i marks) j ≡ false
before_marks i j [] h = refl
before_marks i j (true ∷ marks) h = or_same (i == j) (names (marked_from (i + 1) marks) j) (not_same i j (λ e. omega (arith, h, e))) ∙ before_marks (i + 1) j marks (omega (arith, h))
before_marks i j (false ∷ marks) h = before_marks (i + 1) j marks (omega (arith, h))

first_mark : (i : ℕ) (b : Bool) (marks : List Bool) → names (marked_from i (b ∷ marks)) i ≡ b
first_mark i true marks = or_first (i == i) (names (marked_from (i + 1) marks) i) (eq-eqb i i refl)
first_mark i false marks = before_marks (i + 1) i marks (omega arith)

later_mark : (i j : ℕ) (b : Bool) (marks : List Bool) → i < j → names (marked_from i (b ∷ marks)) j ≡ names (marked_from (i + 1) marks) j
later_mark i j true marks h = or_same (i == j) (names (marked_from (i + 1) marks) j) (not_same i j (λ e. omega (arith, h, e)))
later_mark i j false marks h = refl

marks_from : (i : ℕ) (marks : List Bool) → All (λ k. (i ≤ k) × (k < i + length marks)) (marked_from i marks)
marks_from i [] = All-nil (λ k. (i ≤ k) × (k < i + 0))
marks_from i (true ∷ marks) =
    let rest = marks_from (i + 1) marks in
    All-cons (λ k. (i ≤ k) × (k < i + suc (length marks))) i (marked_from (i + 1) marks) (omega arith, omega arith) (λ j d h. let r = rest j d h in (omega (arith, r.0), omega (arith, r.1)))
marks_from i (false ∷ marks) =
    let rest = marks_from (i + 1) marks in λ j d h. let r = rest j d h in (omega (arith, r.0), omega (arith, r.1))

marks_fit : {A : Type 0} (is_marked : A → Bool) (words : A → List (List ℕ)) (list : List A) → All (λ k. (0 < k) × (k ≤ length (map words list))) (marked_from 1 (map is_marked list))
marks_fit is_marked words list =
    let count = length-map list is_marked ∙ sym (length-map list words) in
    let each = marks_from 1 (map is_marked list) in λ j d h. let r = each j d h in (omega (arith, r.0), omega (arith, r.1, count))

module _ {A : Type 0} (P : A → Type 0) (Says : Bool → List (List ℕ) → A → Type 0) (is_marked : A → Bool) (words : A → List (List ℕ)) (step : (a : A) → P a → Says (is_marked a) (words a) a) where
  rows_written : (is : List ℕ) (i : ℕ) (list : List A) → All P list → ((j : ℕ) → i ≤ j → names is j ≡ names (marked_from i (map is_marked list)) j) → AreRows Says is i (map words list) list
  rows_written is i [] h marks = refl
  rows_written is i (a ∷ list) h marks = (
    subst (λ (b : Bool). Says b (words a) a) (sym (marks i (omega arith) ∙ first_mark i (is_marked a) (map is_marked list))) (step a (All-head P a list h)),
    rows_written is (i + 1) list (All-tail P a list h) (λ j less. marks j (omega (arith, less)) ∙ later_mark i j (is_marked a) (map is_marked list) (omega (arith, less))),
  )

-- ---- files
-- a written file with rows that say the list
pub record IsTextOf {A : Type 0} (ext : Bool) (text : List ℕ) (columns : ℕ) (Says : Bool → List (List ℕ) → A → Type 0) (list : List A) : Type 0 where
  pub marked : List ℕ
  pub type : List ℕ
  pub rows : List (List (List ℕ))
  pub typed : IsTypeOf rows type
  pub wide : All (λ (row : List (List ℕ)). length row ≡ columns) rows
  pub begun : IsTrue ext → All BeginsSo rows
  pub marks : All (λ (k : ℕ). (0 < k) × (k ≤ length rows)) marked
  pub text_is : text ≡ file_text ext marked columns type rows
  pub says : AreRows Says marked 1 rows list

abbrev Fits : ℕ → Constraint → Type 0
Fits dim c = cons.IsConstraint dim c × IsClosedKind c.1

constraint_step : (dim : ℕ) (c : Constraint) → Fits dim c → IsRowOf (is_equality_constraint c) (row_words c.0) c
constraint_step dim (row, Eq) h = (row_numbers dim row h.0.wide h.0.in_range, refl)
constraint_step dim (row, Ge) h = (row_numbers dim row h.0.wide h.0.in_range, refl)
constraint_step dim (row, Gt) h = absurd h.1

abbrev FitsGen : ℕ → Generator → Type 0
FitsGen dim g = gens.IsGenerator dim g × IsClosedGenKind g.1

no_other : (z : ℤ) → ¬ (¬ (z ≡ pos 0)) → z ≡ pos 0
no_other (pos zero) h = refl
no_other (pos (suc n)) h = absurd (h (λ e. cc))
no_other (negsuc n) h = absurd (h (λ e. cc))

above_zero : (z : ℤ) → ¬ (z <ℤ pos 1) → pos 0 <ℤ z
above_zero (pos zero) h = absurd (h (omega (arith, ints)))
above_zero (pos (suc n)) h = omega (arith, ints)
above_zero (negsuc n) h = absurd (h (omega (arith, ints)))

generator_step : (dim : ℕ) (g : Generator) → FitsGen dim g → IsVectorOf dim (is_line_generator g) (generator_words g) g
generator_step dim (v, Line) h = (row_numbers dim v h.0.wide h.0.in_range, (no_other (cell v dim) h.0.divisor, h.0.nonzero), refl)
generator_step dim (v, Ray) h = (row_numbers dim v h.0.wide h.0.in_range, (no_other (cell v dim) h.0.divisor, h.0.nonzero), refl)
generator_step dim (v, Point) h = let positive = above_zero (cell v dim) h.0.divisor in (point_numbers dim v h.0.wide positive h.0.in_range, positive, refl)
generator_step dim (v, ClosurePoint) h = absurd h.1

-- the first word of the row of a direction is its last entry, 0
direction_begins : (dim : ℕ) (v : List ℤ) → length v ≡ dim + 1 → cell v dim ≡ pos 0 → BeginsSo (row_words v)
direction_begins dim v wide zero_end =
    let l = has_last v (omega (arith, wide)) in
    let word : signed_decimal l.last ≡ codes "0" = ap signed_decimal (sym (last_cell dim v wide l) ∙ zero_end) ∙ decimal_digit 0 (omega arith) in
    subst (λ (r : List ℤ). BeginsSo (row_words r)) (sym l.same) (inr (ap (λ (r : List ℤ). slice_index_or (map signed_decimal r) 0 []) (turned_last l.front l.last) ∙ word))

generator_begins : (dim : ℕ) (g : Generator) → FitsGen dim g → BeginsSo (generator_words g)
generator_begins dim (v, Line) h = direction_begins dim v h.0.wide (no_other (cell v dim) h.0.divisor)
generator_begins dim (v, Ray) h = direction_begins dim v h.0.wide (no_other (cell v dim) h.0.divisor)
generator_begins dim (v, Point) h = inl refl
generator_begins dim (v, ClosurePoint) h = absurd h.1

constraint_wide : (dim : ℕ) (c : Constraint) → Fits dim c → length (row_words c.0) ≡ dim + 1
constraint_wide dim c h = numbers_wide (row_words c.0) c.0 (row_numbers dim c.0 h.0.wide h.0.in_range) ∙ h.0.wide

generator_wide : (dim : ℕ) (g : Generator) → FitsGen dim g → length (generator_words g) ≡ dim + 1
generator_wide dim (v, Line) h = numbers_wide (generator_words (v, Line)) v (generator_step dim (v, Line) h).0 ∙ h.0.wide
generator_wide dim (v, Ray) h = numbers_wide (generator_words (v, Ray)) v (generator_step dim (v, Ray) h).0 ∙ h.0.wide
generator_wide dim (v, Point) h = numbers_wide (generator_words (v, Point)) v (generator_step dim (v, Point) h).0 ∙ h.0.wide
generator_wide dim (v, ClosurePoint) h = absurd h.1

both : {A : Type 0} (P Q : A → Type 0) (list : List A) → All P list → All Q list → All (λ a. P a × Q a) list
both P Q [] h k = All-nil (λ a. P a × Q a)
both P Q (a ∷ list) h k = All-cons (λ a. P a × Q a) a list (All-head P a list h, All-head Q a list k) (both P Q list (All-tail P a list h) (All-tail Q a list k))

-- ---- words that are integers
abbrev IsIntegerWord : List ℕ → Type 0
IsIntegerWord w = (z : ℤ) × IsInteger w z

row_integers : (row : List ℤ) → AllInRange row → All IsIntegerWord (row_words row)
row_integers row h =
    All-map IsIntegerWord signed_decimal (turned_back row)
    (λ i d l. (slice_index_or (turned_back row) i d, signed_is (slice_index_or (turned_back row) i d) (All-append InRange (drop (length row - 1) row) (take (length row - 1) row) (All-drop InRange (length row - 1) row h) (All-take InRange (length row - 1) row h) i d l)))

-- a number over 1
whole_word : (x : ℤ) → InRange x → IsIntegerWord (fraction_word 1 x)
whole_word x r =
    let g = gcd (unsigned_abs x) 1 in
    let low = lowest_terms (unsigned_abs x) 1 (omega arith) in
    let q = int_div x (pos g) in
    let is = quotient 1 x r (omega arith) in
    let fewer : 1 / g ≤ 1 = div-le_self 1 g in
    let one : 1 ≡ 1 / g = only_one (1 / g) low.positive fewer in
    (q, subst (λ (k : ℕ). IsInteger (signed_decimal q ++ divisor_text k) q) one (subst (λ (w : List ℕ). IsInteger w q) (sym (append-nil (signed_decimal q))) (signed_is q is.range)))
  where
    only_one : (n : ℕ) → 0 < n → n ≤ 1 → 1 ≡ n
    only_one n some most = omega (arith, some, most)

point_integers : (v : List ℤ) → AllInRange v → has_divisor (v, Point) ≡ false → All IsIntegerWord (point_words v)
point_integers v h e =
    let last = length v - 1 in
    let one : 1 ≡ unsigned_abs (cell v last) = sym ((Decides-eqb (unsigned_abs (cell v last)) 1).0 (not_not (unsigned_abs (cell v last) == 1) e)) in
    All-cons IsIntegerWord (codes "1") (map (fraction_word (unsigned_abs (cell v last))) (take last v)) (pos 1, whole (codes "1") 1 one_is)
    (subst (λ (d : ℕ). All IsIntegerWord (map (fraction_word d) (take last v))) one (All-map IsIntegerWord (fraction_word 1) (take last v) (λ i d l. whole_word (slice_index_or (take last v) i d) (All-take InRange last v h i d l))))
  where
    not_not : (b : Bool) → not b ≡ false → b ≡ true
    not_not true f = refl
    not_not false f = cc

generator_integers : (dim : ℕ) (g : Generator) → FitsGen dim g → has_divisor g ≡ false → All IsIntegerWord (generator_words g)
generator_integers dim (v, Line) h e = row_integers v h.0.in_range
generator_integers dim (v, Ray) h e = row_integers v h.0.in_range
generator_integers dim (v, Point) h e = point_integers v h.0.in_range e
generator_integers dim (v, ClosurePoint) h e = absurd h.1

generators_integers : (dim : ℕ) (list : List Generator) → All (FitsGen dim) list → list_any has_divisor list ≡ false → All (λ row. All IsIntegerWord row) (map generator_words list)
generators_integers dim [] h e = All-nil (λ row. All IsIntegerWord row)
generators_integers dim (g ∷ list) h e =
    let p = or_parts (has_divisor g) (list_any has_divisor list) e in
    All-cons (λ row. All IsIntegerWord row) (generator_words g) (map generator_words list) (generator_integers dim g (All-head (FitsGen dim) g list h) p.0) (generators_integers dim list (All-tail (FitsGen dim) g list h) p.1)

text_by : {A : Type 0} (ext : Bool) (dim : ℕ) (t : NumberType) (is_marked : A → Bool) (words : A → List (List ℕ)) (list : List A) → old.file_text (kind_name ext) (map is_marked list) dim t (map words list) ≡ file_text ext (marked_from 1 (map is_marked list)) (dim + 1) (type_word t) (map words list)
text_by ext dim t is_marked words list =
    ap (λ (n : ℕ). line_of (kind_name ext ∷ []) ++ old.linearity_text (map is_marked list) ++ line_of (codes "begin" ∷ []) ++ line_of (decimal n ∷ decimal (dim + 1) ∷ type_word t ∷ []) ++ flat_map line_of (map words list) ++ line_of (codes "end" ∷ []))
    (length-map list is_marked ∙ sym (length-map list words))

no_ext : IsTrue false → ⊥
no_ext h = cc

pub ine_writes : (cs : Constraints) → cons.FitDimension cs → AreClosed cs → IsTextOf false (ine_text cs) (cs.dim + 1) IsRowOf cs.list
ine_writes cs fit closed = record {
  marked = marked_from 1 (map is_equality_constraint cs.list);
  type = codes "integer";
  typed = inr (refl, All-map (λ row. All IsIntegerWord row) (λ c. row_words c.0) cs.list (λ i d h. row_integers (slice_index_or cs.list i d).0 (fit.each i d h).in_range));
  rows = map (λ c. row_words c.0) cs.list;
  wide = All-map (λ (row : List (List ℕ)). length row ≡ cs.dim + 1) (λ c. row_words c.0) cs.list (λ i d h. constraint_wide cs.dim (slice_index_or cs.list i d) (fit.each i d h, closed i d h));
  begun = λ is_ext. absurd (no_ext is_ext);
  marks = marks_fit is_equality_constraint (λ c. row_words c.0) cs.list;
  text_is = text_by false cs.dim Integer is_equality_constraint (λ c. row_words c.0) cs.list;
  says = rows_written (Fits cs.dim) IsRowOf is_equality_constraint (λ c. row_words c.0) (constraint_step cs.dim) (marked_from 1 (map is_equality_constraint cs.list)) 1 cs.list (both (cons.IsConstraint cs.dim) (λ c. IsClosedKind c.1) cs.list fit.each closed) (λ j less. refl);
}

type_is : (dim : ℕ) (list : List Generator) → All (FitsGen dim) list → (b : Bool) → list_any has_divisor list ≡ b → IsTypeOf (map generator_words list) (type_word (if b then Rational else Integer))
type_is dim list h true e = inl refl
type_is dim list h false e = inr (refl, generators_integers dim list h e)

pub ext_writes : (gs : Generators) → gens.FitDimension gs → AreClosedKinds gs → IsTextOf true (ext_text gs) (gs.dim + 1) (IsVectorOf gs.dim) gs.list
ext_writes gs fit closed = record {
  marked = marked_from 1 (map is_line_generator gs.list);
  type = type_word (type_of gs.list);
  typed = type_is gs.dim gs.list (both (gens.IsGenerator gs.dim) (λ g. IsClosedGenKind g.1) gs.list fit.each closed) (list_any has_divisor gs.list) refl;
  rows = map generator_words gs.list;
  wide = All-map (λ (row : List (List ℕ)). length row ≡ gs.dim + 1) generator_words gs.list (λ i d h. generator_wide gs.dim (slice_index_or gs.list i d) (fit.each i d h, closed i d h));
  begun = λ is_ext. All-map BeginsSo generator_words gs.list (λ i d h. generator_begins gs.dim (slice_index_or gs.list i d) (fit.each i d h, closed i d h));
  marks = marks_fit is_line_generator generator_words gs.list;
  text_is = text_by true gs.dim (type_of gs.list) is_line_generator generator_words gs.list;
  says = rows_written (FitsGen gs.dim) (IsVectorOf gs.dim) is_line_generator generator_words (generator_step gs.dim) (marked_from 1 (map is_line_generator gs.list)) 1 gs.list (both (gens.IsGenerator gs.dim) (λ g. IsClosedGenKind g.1) gs.list fit.each closed) (λ j less. refl);
}
