-- A file that passes all tests has the lines, marks and rows that are said.
use Rattle.std.proofs.Common.{◌≡◌, ◌≢◌, ℕ, ◌+◌, ◌-◌, ◌*◌, ◌/◌, ◌<◌, ◌==◌, Bool, true, false, not, List, [], ◌∷◌, ◌++◌, length, map, take, drop, cond, refl, sym, ◌∙◌, ap, subst, arith, inl, inr, ◌⊎◌, codes, append_assoc, suc, zero, replicate, length-drop}
use Rattle.std.specs.Prelude.{All, ℤ, pos, ◌*ℤ◌, ◌<ℤ◌, Option, None, Some, unwrap_or, option_to_list, if◌then◌else◌, ◌&&◌, ◌≤◌}
use Rattle.std.specs.List.{list_all, list_any, flat_map, range_with_len, AllZip}
use Rattle.std.specs.Simd.{first_chunks}
use Rattle.std.specs.Str.{bytes_eq}
use Rattle.std.proofs.Math.Seq.{take-append_seam, drop-append_seam, get_or-append_seam}
use Rattle.std.proofs.Math.Nat.{mul-div_cancel}
use Rattle.std.proofs.Math.Dec.{eqb-suc-zero}
use Rattle.std.proofs.lemmas.Int.{ints}
use Rattle.std.proofs.lemmas.Bool.{and_parts, or_parts}
use Rattle.std.proofs.lemmas.Bool.Decides.{Decides-eqb}
use Rattle.std.proofs.lemmas.Slice.Eq.{bytes_eq-Decides}
use Rattle.std.proofs.lemmas.List.{map-append, take-append-drop, length-take-le, length-map}
use Rattle.std.proofs.lemmas.List.Elements.{All-nil, All-cons, All-head, All-tail, All-append, All-take, All-drop}
use Rattle.row_core.specs.Vectors.{cell, scale}
use Rattle.row_core.specs.Content.{IsPrimitiveOf}
use Rattle.row_core.specs.Lists.{Row}
use Rattle.row_core.proofs.CellLemmas.{cell-scale}
use Rattle.row_core.proofs.Ring.{mul-zero, positive_of_mul, zero_of_mul}
use Rattle.cons_sys.specs.Constraints.{Constraint, Constraints}
use Rattle.gens_sys.specs.Generators.{Generator, Generators}
use Rattle.gens_sys.specs.declared.kind.GenKind.{GenKind}
use Rattle.gens_sys.specs.declared.kind.GenKind.TheVariants.{Line, Ray, Point, ClosurePoint}
use Rattle.reply_text.specs.declared.faults.Fault.{Fault}
use Rattle.reply_text.specs.declared.faults.Fault.TheVariants as fault
use Rattle.plain_text.specs.Digits.{is_nat, number}
use Rattle.cdd_reading.specs.Tokens.{tokens, Token, numbered, texts, has_some, unsigned, is_negative, is_integer}
use Rattle.cdd_reading.specs.Fractions.{is_fraction, numerator, denominator, signed, times, common, integers, cut_rows, AllDivide}
use Rattle.cdd_reading.specs.Scaling as scaling
use Rattle.cdd_reading.specs.Bodies.{is_number, type_word, HasType}
use Rattle.cdd_reading.specs.Headings.{kind_in, linearity_in, are_indices, is_begin}
use Rattle.cdd_reading.specs.Files as old
use Rattle.cdd_reading.specs.Files.{IsEnd, Contents, IsContents, AreContents, indices, turned, IsKind}
use Rattle.cdd_reading.specs.Refusals.{NoneOf, tests, other, IsVectorFault, HaveNoFault, IsRowsFault}
use Rattle.cdd_reading.specs.declared.format.Format.{Format}
use Rattle.cdd_reading.specs.declared.format.Format.TheVariants.{Ine, Ext}
use Rattle.cdd_reading.specs.declared.format.NumberType.{NumberType}
use Rattle.cdd_reading.specs.declared.format.NumberType.TheVariants.{Integer, Rational, Real}
use Rattle.cdd_reading.proofs.ListLaws.{All-inside, zip_push}
use Rattle.cdd_reading.proofs.ValueLaws.{rows_are_scaled, chunk_step}
use Rattle.cdd_reading.proofs.Forms.{sizes_of}
use Rattle.soundness.specs.TextsNumbers.{IsNumber}
use Rattle.gens_sys.specs.Kinds as kinds
use Rattle.poly_pair.specs.FirstLists.{HasNoPointKind, LacksPoint}
use Rattle.soundness.specs.TextsExpressions.{at_column}
use Rattle.soundness.specs.Files.{WithOrigin, as_listed, with_origin}
use Rattle.soundness.specs.FileLines.{IsFraction, IsTimes, AreNumbersOf, IsRowOf, IsVectorOf, AreRows, IsInteger, IsTypeOf, kind_name, IsBeforeBegin, NamesNoRow, NamesRows, HaveMarks, AreTableWords, IsFile}
use Rattle.soundness.proofs.FileNumbers.{digits_number, integer_is, fraction_is, integer_form}
use Rattle.soundness.proofs.Operands.{at_most, below, no_less, all_of}

-- what holds of two lists joined holds of each
parted : {A : Type 0} (P : A → Type 0) (xs ys : List A) → All P (xs ++ ys) → All P xs × All P ys
parted P [] ys h = (All-nil P, h)
parted P (x ∷ xs) ys h = let p = parted P xs ys (All-tail P x (xs ++ ys) h) in (All-cons P x xs (All-head P x (xs ++ ys) h) p.0, p.1)

-- ---- tokens
texts_of : (n : ℕ) (ts : List (List ℕ)) → texts (map (λ t. (n, t)) ts) ≡ ts
texts_of n [] = refl
texts_of n (t ∷ ts) = ap (λ (l : List (List ℕ)). t ∷ l) (texts_of n ts)

texts_numbered : (n : ℕ) (ls : List (List ℕ)) → texts (numbered n ls) ≡ flat_map tokens ls
texts_numbered n [] = refl
texts_numbered n (line ∷ ls) =
    let with_number : List ℕ → Token = λ t. (n, t) in
    map-append (λ (t : Token). t.1) (map with_number (tokens line)) (numbered (n + 1) ls)
    ∙ ap (λ l. l ++ texts (numbered (n + 1) ls)) (texts_of n (tokens line))
    ∙ ap (λ l. tokens line ++ l) (texts_numbered (n + 1) ls)

-- ---- rows
-- the entries of a row are its numbers, so many times
entries : (m k : ℕ) (words : List (List ℕ)) (xs row : List ℤ) → All (λ t. is_fraction t ≡ true) words → AllDivide words → AllZip (scaling.IsTimes m) words xs → xs ≡ scale (pos k) row → AllZip (IsTimes k m) words row
entries m k [] [] [] forms some h e = tt
entries m k [] [] (z ∷ row) forms some h e = cc
entries m k [] (x ∷ xs) row forms some h e = absurd h
entries m k (t ∷ words) [] row forms some h e = absurd h
entries m k (t ∷ words) (x ∷ xs) [] forms some h e = cc
entries m k (t ∷ words) (x ∷ xs) (z ∷ row) forms some (here, h) e =
    let first : x ≡ pos k *ℤ z = cc in
    let rest : xs ≡ scale (pos k) row = cc in
    let is : IsFraction t (signed (is_negative t) (numerator t)) (denominator t) = fraction_is t (All-head (λ t. is_fraction t ≡ true) t words forms) (All-head (λ t. 0 < denominator t) t words some) in (
      (signed (is_negative t) (numerator t), denominator t, is, subst (λ (y : ℤ). y *ℤ pos (denominator t) ≡ pos m *ℤ signed (is_negative t) (numerator t)) first here),
      entries m k words xs row (All-tail (λ t. is_fraction t ≡ true) t words forms) (All-tail (λ t. 0 < denominator t) t words some) h rest,
    )

pushed : {A : Type 0} (P : A → Type 0) (x : A) (xs : List A) → All P (x ∷ xs) → All P (xs ++ x ∷ [])
pushed P x xs h = All-append P xs (x ∷ []) (All-tail P x xs h) (All-cons P x [] (All-head P x xs h) (All-nil P))

numbers_by : (m k : ℕ) (words : List (List ℕ)) (xs row : List ℤ) → 0 < m → 0 < k → 0 < length words → All (λ t. is_fraction t ≡ true) words → AllDivide words → AllZip (scaling.IsTimes m) words xs → turned xs ≡ scale (pos k) row → AreNumbersOf words row
numbers_by m k [] xs row least positive some forms divide h e = absurd (omega arith)
numbers_by m k (t ∷ words) [] row least positive some forms divide h e = absurd h
numbers_by m k (t ∷ words) (x ∷ xs) row least positive some forms divide (here, h) e = record {
  first = t;
  others = words;
  words_are = refl;
  left = k;
  right = m;
  left_positive = positive;
  right_positive = least;
  each = entries m k (words ++ t ∷ []) (xs ++ x ∷ []) row (pushed (λ t. is_fraction t ≡ true) t words forms) (pushed (λ t. 0 < denominator t) t words divide) (zip_push (scaling.IsTimes m) words xs t x h here) e;
}

-- a row that is read
pub record IsReadRow (words : List (List ℕ)) : Type 0 where
  pub forms : All (λ t. is_fraction t ≡ true) words
  pub divide : AllDivide words
  pub some : 0 < length words

numbers_are : (words : List (List ℕ)) (row : List ℤ) → IsReadRow words → IsPrimitiveOf (turned (integers words)) row → AreNumbersOf words row
numbers_are words row is p =
    let s = rows_are_scaled words is.divide in
    numbers_by (common words) p.multiple.times words (integers words) row s.0 p.multiple.positive is.some is.forms is.divide s.1 p.multiple.same

constraint_row : (row : Row) (words : List (List ℕ)) (c : Constraint) → IsReadRow words → row.0 ≡ integers words → old.IsRowOf row c → IsRowOf row.1 words c
constraint_row row words c is e h = (numbers_are words c.0 is (subst (λ (x : List ℤ). IsPrimitiveOf (turned x) c.0) e h.0), h.1)

-- ---- rows one behind the other
fronts : (x y xs ys : List ℤ) → length x ≡ length y → x ++ xs ≡ y ++ ys → (x ≡ y) × (xs ≡ ys)
fronts x y xs ys n e = (
  sym (take-append_seam x xs) ∙ ap (λ (l : List ℤ). take (length x) l) e ∙ ap (λ k. take k (y ++ ys)) n ∙ take-append_seam y ys,
  sym (drop-append_seam x xs) ∙ ap (λ (l : List ℤ). drop (length x) l) e ∙ ap (λ k. drop k (y ++ ys)) n ∙ drop-append_seam y ys,
)

length-integers : (words : List (List ℕ)) → length (integers words) ≡ length words
length-integers words = length-map words (times (common words))

-- ---- rows of zeros
abbrev AreZeros : List ℤ → Type 0
AreZeros v = All (λ z. z ≡ pos 0) v

scaled_zeros : (k : ℤ) (v : List ℤ) → AreZeros v → AreZeros (scale k v)
scaled_zeros k [] h = All-nil (λ z. z ≡ pos 0)
scaled_zeros k (z ∷ v) h = All-cons (λ z. z ≡ pos 0) (k *ℤ z) (scale k v) (ap (λ (y : ℤ). k *ℤ y) (All-head (λ z. z ≡ pos 0) z v h) ∙ mul-zero k) (scaled_zeros k v (All-tail (λ z. z ≡ pos 0) z v h))

turned_zeros : (v : List ℤ) → AreZeros (turned v) → AreZeros v
turned_zeros [] h = h
turned_zeros (b ∷ v) h = let p = parted (λ z. z ≡ pos 0) v (b ∷ []) h in All-cons (λ z. z ≡ pos 0) b v (All-head (λ z. z ≡ pos 0) b [] p.1) p.0

-- the row of a primitive vector of zeros
zeros_of : (v u : List ℤ) → IsPrimitiveOf (turned v) u → AreZeros u → AreZeros v
zeros_of v u p h = turned_zeros v (subst AreZeros (sym p.multiple.same) (scaled_zeros (pos p.multiple.times) u h))

-- a row that isn't refused for its zeros, with its generator
abbrev IsNonzeroVector : Row → Generator → Type 0
IsNonzeroVector row g = old.IsVectorOf row g × ¬ (AreZeros row.0)

-- no row has a fault if none is the first that has one
module _ (all : List Row) (none : (f : Fault) → ¬ (IsRowsFault all f)) where
  faultless_behind : (before rows : List Row) → all ≡ before ++ rows → HaveNoFault before → HaveNoFault rows
  faultless_behind before [] e h = All-nil (λ (row : Row). (f : Fault) → ¬ (IsVectorFault row.1 row.0 f))
  faultless_behind before (row ∷ rows) e h =
      let here : (f : Fault) → ¬ (IsVectorFault row.1 row.0 f) = λ f is.
      none f (record { before = before; row = row; first = record { behind = rows; cut = e; right = h; wrong = λ each. All-inside (λ (r : Row). (g : Fault) → ¬ (IsVectorFault r.1 r.0 g)) before row [] each f is }; is = is }) in
      All-cons (λ (r : Row). (f : Fault) → ¬ (IsVectorFault r.1 r.0 f)) row rows here
      (faultless_behind (before ++ row ∷ []) rows (e ∙ sym (append_assoc before (row ∷ []) rows)) (All-append (λ (r : Row). (f : Fault) → ¬ (IsVectorFault r.1 r.0 f)) before (row ∷ []) h (All-cons (λ (r : Row). (f : Fault) → ¬ (IsVectorFault r.1 r.0 f)) row [] here (All-nil (λ (r : Row). (f : Fault) → ¬ (IsVectorFault r.1 r.0 f))))))

nonzero_rows : (rows : List Row) (list : List Generator) → HaveNoFault rows → AllZip old.IsVectorOf rows list → AllZip IsNonzeroVector rows list
nonzero_rows [] [] h each = tt
nonzero_rows [] (g ∷ list) h each = absurd each
nonzero_rows (row ∷ rows) [] h each = absurd each
nonzero_rows (row ∷ rows) (g ∷ list) h (here, each) = (
  (here, λ zeros. All-head (λ (r : Row). (f : Fault) → ¬ (IsVectorFault r.1 r.0 f)) row rows h fault.ZeroVector zeros),
  nonzero_rows rows list (All-tail (λ (r : Row). (f : Fault) → ¬ (IsVectorFault r.1 r.0 f)) row rows h) each,
)

-- one row, and the rows behind it
vector_row : (dim : ℕ) (row : Row) (words : List (List ℕ)) (g : Generator) → IsReadRow words → length words ≡ dim + 1 → row.0 ≡ integers words → IsNonzeroVector row g → IsVectorOf dim row.1 words g
vector_row dim (v, marked) words (u, kind) is wide e (h, nonzero) =
    by_kind v kind (length-of v (ap (λ (x : List ℤ). length x) e ∙ length-integers words ∙ wide)) (numbers_are words u is (subst (λ (x : List ℤ). IsPrimitiveOf (turned x) u) e h.0)) h.0 (λ zeros. nonzero (zeros_of v u h.0 zeros)) h.1
  where
    length-of : (x : List ℤ) → length x ≡ dim + 1 → length x ≡ dim + 1
    length-of x f = f

    last : (x : List ℤ) → length x ≡ dim + 1 → cell (turned x) dim ≡ cell x 0
    last [] f = absurd (omega (arith, f))
    last (b ∷ x) f =
        let n : dim ≡ length x = omega (arith, f) in
        ap (λ (j : ℕ). cell (x ++ b ∷ []) j) n ∙ get_or-append_seam x b [] (pos 0)

    divisor_of : (x : List ℤ) → length x ≡ dim + 1 → (m : IsPrimitiveOf (turned x) u) → cell x 0 ≡ pos m.multiple.times *ℤ cell u dim
    divisor_of x f m = sym (last x f) ∙ ap (λ (y : List ℤ). cell y dim) m.multiple.same ∙ cell-scale (pos m.multiple.times) u dim

    above : (n : ℕ) → 0 < n → pos 0 <ℤ pos n
    above n f = omega (arith, ints, f)

    by_kind : (x : List ℤ) (k : GenKind) → length x ≡ dim + 1 → AreNumbersOf words u → IsPrimitiveOf (turned x) u → ¬ (AreZeros u) → IsKind marked (cell x 0) k → IsVectorOf dim marked words (u, k)
    by_kind x Point f numbers m some is =
        (numbers, positive_of_mul (pos m.multiple.times) (cell u dim) (above m.multiple.times m.multiple.positive) (subst (λ (z : ℤ). pos 0 <ℤ z) (divisor_of x f m) is.0), is.1)
    by_kind x Ray f numbers m some is = (numbers, (zero_of_mul (pos m.multiple.times) (cell u dim) (above m.multiple.times m.multiple.positive) (sym (divisor_of x f m) ∙ is.0), some), is.1)
    by_kind x Line f numbers m some is = (numbers, (zero_of_mul (pos m.multiple.times) (cell u dim) (above m.multiple.times m.multiple.positive) (sym (divisor_of x f m) ∙ is.0), some), is.1)
    by_kind x ClosurePoint f numbers m some is = absurd is

module _ {A : Type 0} (Old : Row → A → Type 0) (New : Bool → List (List ℕ) → A → Type 0) (d : ℕ) (step : (row : Row) (words : List (List ℕ)) (a : A) → IsReadRow words → length words ≡ d → row.0 ≡ integers words → Old row a → New row.1 words a) where
  -- rows that are cut from the numbers say what the rows of integers say
  rows_say : (is : List ℕ) (i : ℕ) (wss : List (List (List ℕ))) (rows : List Row) (list : List A) → All IsReadRow wss → All (λ (ws : List (List ℕ)). length ws ≡ d) wss → map (λ (row : Row). row.1) rows ≡ map (λ j. list_any (λ k. k == j) is) (range_with_len i (length wss)) → All (λ (row : Row). length row.0 ≡ d) rows → flat_map (λ (row : Row). row.0) rows ≡ flat_map integers wss → AllZip Old rows list → AreRows New is i wss list
  rows_say is i [] [] [] reads wide m lengths e h = refl
  rows_say is i [] [] (a ∷ list) reads wide m lengths e h = absurd h
  rows_say is i [] (x ∷ rows) list reads wide m lengths e h = cc
  rows_say is i (ws ∷ wss) [] list reads wide m lengths e h = cc
  rows_say is i (ws ∷ wss) (x ∷ rows) [] reads wide m lengths e h = absurd h
  rows_say is i (ws ∷ wss) (x ∷ rows) (a ∷ list) reads wide m lengths e (here, h) =
      let first : x.1 ≡ list_any (λ k. k == i) is = cc in
      let others : map (λ (row : Row). row.1) rows ≡ map (λ j. list_any (λ k. k == j) is) (range_with_len (i + 1) (length wss)) = ap (λ (l : List Bool). drop 1 l) m in
      let same : length x.0 ≡ length (integers ws) = All-head (λ (row : Row). length row.0 ≡ d) x rows lengths ∙ sym (length-integers ws ∙ All-head (λ (l : List (List ℕ)). length l ≡ d) ws wss wide) in
      let cut = fronts x.0 (integers ws) (flat_map (λ (row : Row). row.0) rows) (flat_map integers wss) same e in (
        subst (λ (b : Bool). New b ws a) first (step x ws a (All-head IsReadRow ws wss reads) (All-head (λ (l : List (List ℕ)). length l ≡ d) ws wss wide) cut.0 here),
        rows_say is (i + 1) wss rows list (All-tail IsReadRow ws wss reads) (All-tail (λ (l : List (List ℕ)). length l ≡ d) ws wss wide) others (All-tail (λ (row : Row). length row.0 ≡ d) x rows lengths) cut.1 h,
      )

-- numbers cut into rows of one width
record IsCut (d k : ℕ) (numbers : List (List ℕ)) (rows : List (List (List ℕ))) : Type 0 where
  whole : numbers ≡ flat_map (λ (row : List (List ℕ)). row) rows
  count : length rows ≡ k
  wide : All (λ (ws : List (List ℕ)). length ws ≡ d) rows
  reads : All IsReadRow rows

cut_is : (d k : ℕ) (numbers : List (List ℕ)) → 0 < d → length numbers ≡ k * d → All (λ t. is_fraction t ≡ true) numbers → AllDivide numbers → IsCut d k numbers (first_chunks d k numbers)
cut_is d zero [] some e forms divide = record { whole = refl; count = refl; wide = All-nil (λ (ws : List (List ℕ)). length ws ≡ d); reads = All-nil IsReadRow }
cut_is d zero (t ∷ numbers) some e forms divide = absurd (omega (arith, e))
cut_is d (suc k) numbers some e forms divide =
    let s = chunk_step (length numbers) k d e in
    let here : length (take d numbers) ≡ d = length-take-le d numbers s.0 in
    let rest = cut_is d k (drop d numbers) some (length-drop d numbers ∙ s.1) (All-drop (λ t. is_fraction t ≡ true) d numbers forms) (All-drop (λ t. 0 < denominator t) d numbers divide) in
    record {
      whole = sym (take-append-drop d numbers) ∙ ap (λ (l : List (List ℕ)). take d numbers ++ l) rest.whole;
      count = ap suc rest.count;
      wide = All-cons (λ (ws : List (List ℕ)). length ws ≡ d) (take d numbers) (first_chunks d k (drop d numbers)) here rest.wide;
      reads =
          All-cons IsReadRow (take d numbers) (first_chunks d k (drop d numbers))
          (record { forms = All-take (λ t. is_fraction t ≡ true) d numbers forms; divide = All-take (λ t. 0 < denominator t) d numbers divide; some = subst (λ (n : ℕ). 0 < n) (sym here) some }) rest.reads;
    }

-- ---- the head
-- what a line does before `begin`
abbrev LineMarks : List ℕ → Type 0
LineMarks line = ((linearity_in (tokens line) ≡ []) × NamesNoRow line) ⊎ ((linearity_in (tokens line) ≡ None ∷ []) ⊎ ((is : List ℕ) × (linearity_in (tokens line) ≡ Some is ∷ []) × NamesRows line is))

module _ (line : List ℕ) where
  all_numbers : (ws : List (List ℕ)) → list_all is_nat ws ≡ true → AllZip IsNumber ws (map number ws)
  all_numbers [] e = tt
  all_numbers (w ∷ ws) e = let p = and_parts (is_nat w) (list_all is_nat ws) e in (digits_number w p.0, all_numbers ws p.1)

  names_rows : (t : List ℕ) (us : List (List ℕ)) → tokens line ≡ t ∷ us → t ≡ codes "linearity" → are_indices us ≡ true → NamesRows line (map number (drop 1 us))
  names_rows t [] e f h = cc
  names_rows t (k ∷ is) e f h =
      let p = and_parts (is_nat k) (list_all is_nat is && number k == length is) h in
      let q = and_parts (list_all is_nat is) (number k == length is) p.1 in
      record {
        count = k;
        numbers = is;
        words = e ∙ ap (λ (w : List ℕ). w ∷ k ∷ is) f;
        counted = subst (λ (n : ℕ). IsNumber k n) ((Decides-eqb (number k) (length is)).0 q.1 ∙ sym (length-map is number)) (digits_number k p.0);
        each = all_numbers is q.0;
      }

  at_word : (t : List ℕ) (us : List (List ℕ)) (b c : Bool) → tokens line ≡ t ∷ us → bytes_eq t (codes "linearity") ≡ b → are_indices us ≡ c → LineMarks line
  at_word t us false c e f g =
      inl (
        ap linearity_in e ∙ ap (λ (s : Bool). cond s ((if are_indices us then Some (map number (drop 1 us)) else None) ∷ []) []) f,
        λ others h. (let word : t ≡ codes "linearity" = first_word t us others (sym e ∙ h) in let no : false ≡ true = sym f ∙ (bytes_eq-Decides t (codes "linearity")).1 word in cc),
      )
    where
      first_word : (t : List ℕ) (us others : List (List ℕ)) → (t ∷ us) ≡ codes "linearity" ∷ others → t ≡ codes "linearity"
      first_word t us others h = cc
  at_word t us true false e f g =
      inr (inl (ap linearity_in e ∙ ap (λ (s : Bool). cond s ((if are_indices us then Some (map number (drop 1 us)) else None) ∷ []) []) f ∙ ap (λ (s : Bool). (if s then Some (map number (drop 1 us)) else None) ∷ []) g))
  at_word t us true true e f g = inr (inr (
    map number (drop 1 us),
    ap linearity_in e ∙ ap (λ (s : Bool). cond s ((if are_indices us then Some (map number (drop 1 us)) else None) ∷ []) []) f ∙ ap (λ (s : Bool). (if s then Some (map number (drop 1 us)) else None) ∷ []) g,
    names_rows t us e ((bytes_eq-Decides t (codes "linearity")).0 f) g,
  ))

  by_tokens : (ts : List (List ℕ)) → tokens line ≡ ts → LineMarks line
  by_tokens [] e = inl (ap linearity_in e, λ others h. (let no : [] ≡ codes "linearity" ∷ others = sym e ∙ h in cc))
  by_tokens (t ∷ us) e = at_word t us (bytes_eq t (codes "linearity")) (are_indices us) e refl refl

  line_marks : LineMarks line
  line_marks = by_tokens (tokens line) refl

abbrev Gathered : List (List ℕ) → List (Option (List ℕ))
Gathered before = flat_map (λ line. linearity_in (tokens line)) before

named_by : (line : List ℕ) (before : List (List ℕ)) → LineMarks line → Gathered (line ∷ before) ≡ [] → (Gathered before ≡ [] → All NamesNoRow before) → All NamesNoRow (line ∷ before)
named_by line before (inl (f, none)) e rest = All-cons NamesNoRow line before none (rest (ap (λ (l : List (Option (List ℕ))). l ++ Gathered before) (sym f) ∙ e))
named_by line before (inr (inl f)) e rest = let no : None ∷ Gathered before ≡ [] = ap (λ (l : List (Option (List ℕ))). l ++ Gathered before) (sym f) ∙ e in cc
named_by line before (inr (inr (is, f, names))) e rest = let no : Some is ∷ Gathered before ≡ [] = ap (λ (l : List (Option (List ℕ))). l ++ Gathered before) (sym f) ∙ e in cc

none_named : (before : List (List ℕ)) → Gathered before ≡ [] → All NamesNoRow before
none_named [] e = All-nil NamesNoRow
none_named (line ∷ before) e = named_by line before (line_marks line) e (none_named before)

marks_by : (line : List ℕ) (before : List (List ℕ)) (o : Option (List ℕ)) → LineMarks line → Gathered (line ∷ before) ≡ map Some (option_to_list o) → (Gathered before ≡ map Some (option_to_list o) → HaveMarks before (unwrap_or o [])) → HaveMarks (line ∷ before) (unwrap_or o [])
marks_by line before o (inl (f, none)) e rest = inl (none, rest (ap (λ (l : List (Option (List ℕ))). l ++ Gathered before) (sym f) ∙ e))
marks_by line before None (inr (inl f)) e rest = let no : None ∷ Gathered before ≡ [] = ap (λ (l : List (Option (List ℕ))). l ++ Gathered before) (sym f) ∙ e in cc
marks_by line before (Some ks) (inr (inl f)) e rest = let no : None ∷ Gathered before ≡ Some ks ∷ [] = ap (λ (l : List (Option (List ℕ))). l ++ Gathered before) (sym f) ∙ e in cc
marks_by line before None (inr (inr (is, f, names))) e rest = let no : Some is ∷ Gathered before ≡ [] = ap (λ (l : List (Option (List ℕ))). l ++ Gathered before) (sym f) ∙ e in cc
marks_by line before (Some ks) (inr (inr (is, f, names))) e rest =
    let same : Some is ∷ Gathered before ≡ Some ks ∷ [] = ap (λ (l : List (Option (List ℕ))). l ++ Gathered before) (sym f) ∙ e in
    let marked : is ≡ ks = cc in
    let none : Gathered before ≡ [] = ap (λ (l : List (Option (List ℕ))). drop 1 l) same in
    inr (subst (λ (l : List ℕ). NamesRows line l) marked names, none_named before none)

have_marks : (before : List (List ℕ)) (o : Option (List ℕ)) → Gathered before ≡ map Some (option_to_list o) → HaveMarks before (unwrap_or o [])
have_marks [] None e = refl
have_marks [] (Some is) e = cc
have_marks (line ∷ before) o e = marks_by line before o (line_marks line) e (have_marks before o)

-- a line before `begin` isn't that line, and names no other kind
before_begin : (ext : Bool) (f : Format) → kind_in (kind_name (not ext) ∷ []) ≡ f ∷ [] → (before : List (List ℕ)) → All (λ line. is_begin (tokens line) ≡ false) before → All (λ g. g ≢ f) (flat_map (λ line. kind_in (tokens line)) before) → All (IsBeforeBegin ext) before
before_begin ext f k [] h all = All-nil (IsBeforeBegin ext)
before_begin ext f k (line ∷ before) h all =
    let p = parted (λ g. g ≢ f) (kind_in (tokens line)) (flat_map (λ line. kind_in (tokens line)) before) all in
    let here : is_begin (tokens line) ≡ false = All-head (λ line. is_begin (tokens line) ≡ false) line before h in
    All-cons (IsBeforeBegin ext) line before (
      λ only. (let no : false ≡ true = sym here ∙ ap is_begin only in cc),
      λ only. All-head (λ g. g ≢ f) f [] (subst (λ (l : List Format). All (λ g. g ≢ f) l) (ap kind_in only ∙ k) p.0) refl,
    )
    (before_begin ext f k before (All-tail (λ line. is_begin (tokens line) ≡ false) line before h) p.1)

other_kinds : (f : Format) (o : Option Format) → o ≢ Some f → All (λ g. g ≢ f) (option_to_list o)
other_kinds f None n = All-nil (λ g. g ≢ f)
other_kinds f (Some g) n = All-cons (λ g. g ≢ f) g [] (λ e. n (ap Some e)) (All-nil (λ g. g ≢ f))

-- ---- what the tests say
number_forms : (t : NumberType) (numbers : List (List ℕ)) → t ≢ Real → list_all (is_number t) numbers ≡ true → All (λ w. is_fraction w ≡ true) numbers
number_forms t [] n e = All-nil (λ w. is_fraction w ≡ true)
number_forms Integer (w ∷ ws) n e = let p = and_parts (is_number Integer w) (list_all (is_number Integer) ws) e in All-cons (λ w. is_fraction w ≡ true) w ws (integer_form w p.0) (number_forms Integer ws n p.1)
number_forms Rational (w ∷ ws) n e = let p = and_parts (is_number Rational w) (list_all (is_number Rational) ws) e in All-cons (λ w. is_fraction w ≡ true) w ws p.0 (number_forms Rational ws n p.1)
number_forms Real (w ∷ ws) n e = absurd (n refl)

all_divide : (numbers : List (List ℕ)) → ¬ (¬ (AllDivide numbers)) → AllDivide numbers
all_divide numbers h = all_of (λ w. 0 < denominator w) (λ w n. below (denominator w) 0 (λ least. n (no_less (denominator w) 0 least))) numbers h

-- the words of rows of integers
integer_words : (ws : List (List ℕ)) (others : List (List ℕ)) → list_all is_integer (ws ++ others) ≡ true → All (λ w. (z : ℤ) × IsInteger w z) ws × (list_all is_integer others ≡ true)
integer_words [] others e = (All-nil (λ w. (z : ℤ) × IsInteger w z), e)
integer_words (w ∷ ws) others e =
    let p = and_parts (is_integer w) (list_all is_integer (ws ++ others)) e in
    let rest = integer_words ws others p.1 in
    (All-cons (λ w. (z : ℤ) × IsInteger w z) w ws (signed (is_negative w) (number (unsigned w)), integer_is w p.0) rest.0, rest.1)

integer_rows : (rows : List (List (List ℕ))) → list_all is_integer (flat_map (λ (row : List (List ℕ)). row) rows) ≡ true → All (λ row. All (λ w. (z : ℤ) × IsInteger w z) row) rows
integer_rows [] e = All-nil (λ row. All (λ w. (z : ℤ) × IsInteger w z) row)
integer_rows (ws ∷ rows) e =
    let p = integer_words ws (flat_map (λ (row : List (List ℕ)). row) rows) e in
    All-cons (λ row. All (λ w. (z : ℤ) × IsInteger w z) row) ws rows p.0 (integer_rows rows p.1)

abbrev table_of : Contents → List (List (List ℕ))
table_of c = first_chunks c.sizes.columns c.sizes.rows c.numbers

module _ (ext : Bool) (want : Format) (word : kind_in (kind_name (not ext) ∷ []) ≡ other want ∷ []) (bytes : List ℕ) (passes : NoneOf (tests want bytes)) (c : Contents) (says : IsContents bytes c) where
  not_real : c.sizes.number_type ≢ Real
  not_real e =
      let are : AreContents says.0 c = says.3 in
      passes.1.1.1.0 fault.NumberType (
        refl,
        (
          says.0,
          says.1,
          says.2,
          (
            c.heading,
            are.before,
            are.behind,
            are.head,
            subst (λ (t : NumberType). HasType (numbered (length are.before + 2) are.behind) t) e (sizes_of (numbered (length are.before + 2) are.behind) c.sizes c.numbers are.body),
          ),
        ),
      )

  divide : AllDivide c.numbers
  divide = all_divide c.numbers (λ n. passes.1.1.1.1.1.1.1.0 fault.ZeroDivisor (refl, (c, says, n)))

  own_kind : c.heading.kind ≢ Some (other want)
  own_kind e = passes.1.1.1.1.1.0 fault.WrongKind (refl, (c, says, e))

  cut : IsCut c.sizes.columns c.sizes.rows c.numbers (table_of c)
  cut =
      let body = says.3.body in
      cut_is c.sizes.columns c.sizes.rows c.numbers body.sizes.positive body.count (number_forms c.sizes.number_type c.numbers not_real body.forms) divide

  table_words : AreTableWords (flat_map tokens says.3.behind) c.sizes.columns (table_of c)
  table_words =
      let are : AreContents says.0 c = says.3 in
      let body = are.body in record {
        m = body.m;
        d = body.d;
        type = body.t;
        is = sym (texts_numbered (length are.before + 2) are.behind) ∙ body.tokens ∙ ap (λ (l : List (List ℕ)). body.m ∷ body.d ∷ body.t ∷ l) cut.whole;
        rows_counted = subst (λ (n : ℕ). IsNumber body.m n) (sym (cut.count ∙ body.sizes.rows)) (digits_number body.m body.sizes.rows_form);
        columns_counted = subst (λ (n : ℕ). IsNumber body.d n) (sym body.sizes.columns) (digits_number body.d body.sizes.columns_form);
        typed = type_by c.sizes.number_type body.t body.sizes.number_type not_real body.forms;
        wide = cut.wide;
      }
    where
      type_by : (t : NumberType) (w : List ℕ) → w ≡ type_word t → t ≢ Real → list_all (is_number t) c.numbers ≡ true → IsTypeOf (table_of c) w
      type_by Integer w e n forms = inr (e, integer_rows (table_of c) (subst (λ (ts : List (List ℕ)). list_all is_integer ts ≡ true) cut.whole forms))
      type_by Rational w e n forms = inl e
      type_by Real w e n forms = absurd (n refl)

  short : All (λ line. length line ≤ 65535) says.0
  short = all_of (λ line. length line ≤ 65535) (λ line n. at_most 65535 (length line) (λ more. n (λ most. no_less (length line) 65535 most more))) says.0 (λ n. passes.1.0 fault.LineTooLong (refl, (says.0, says.1, says.2, n)))

  -- the lines of the file
  file_is : IsFile ext bytes (indices c) c.sizes.columns (table_of c)
  file_is =
      let are : AreContents says.0 c = says.3 in
      let head = are.head in
      let file = says.2 in record {
        head = are.before;
        begin = head.line;
        table = are.behind;
        end = file.last;
        behind = says.1;
        cut = file.cut ∙ ap (λ (l : List (List ℕ)). l ++ file.last ∷ says.1) head.cut ∙ append_assoc are.before (head.line ∷ are.behind) (file.last ∷ says.1);
        before = before_begin ext (other want) word are.before head.says.without_begin (subst (λ (l : List Format). All (λ g. g ≢ other want) l) (sym head.says.kind) (other_kinds (other want) c.heading.kind own_kind));
        marks = have_marks are.before c.heading.linearity head.says.linearity;
        begins = begins_so (tokens head.line) head.begins;
        each = subst (λ (l : List (List ℕ)). All (λ line. (length line ≤ 65535) × ¬ (IsEnd line)) l) head.cut (λ i d h. (short i d h, file.unended i d h));
        words = table_words;
        ends = file.ends;
      }
    where
      begins_so : (ts : List (List ℕ)) → is_begin ts ≡ true → ts ≡ codes "begin" ∷ []
      begins_so [] e = cc
      begins_so (t ∷ []) e = ap (λ (w : List ℕ). w ∷ []) ((bytes_eq-Decides t (codes "begin")).0 e)
      begins_so (t ∷ u ∷ more) e = cc

  -- its rows say what its rows of integers say
  table_says : {A : Type 0} (Old : Row → A → Type 0) (New : Bool → List (List ℕ) → A → Type 0) → ((row : Row) (words : List (List ℕ)) (a : A) → IsReadRow words → length words ≡ c.sizes.columns → row.0 ≡ integers words → Old row a → New row.1 words a) → (rows : List Row) (list : List A) → old.AreRows c rows → AllZip Old rows list → AreRows New (indices c) 1 (table_of c) list
  table_says Old New step rows list are each =
      let body = says.3.body in
      let same : cut_rows c.sizes.columns c.numbers ≡ table_of c = ap (λ (k : ℕ). first_chunks c.sizes.columns k c.numbers) (ap (λ (n : ℕ). n / c.sizes.columns) body.count ∙ mul-div_cancel c.sizes.rows body.sizes.positive) in
      rows_say Old New c.sizes.columns step (indices c) 1 (table_of c) rows list cut.reads cut.wide (are.marked ∙ ap (λ (n : ℕ). old.marks (indices c) n) (sym cut.count)) are.wide (are.numbers ∙ ap (λ (l : List (List (List ℕ))). flat_map integers l) same) each

-- ---- the two kinds of files
-- a file with rows that say the list
pub record IsFileOf {A : Type 0} (ext : Bool) (bytes : List ℕ) (columns : ℕ) (Says : Bool → List (List ℕ) → A → Type 0) (list : List A) : Type 0 where
  pub marked : List ℕ
  pub rows : List (List (List ℕ))
  pub file : IsFile ext bytes marked columns rows
  pub says : AreRows Says marked 1 rows list

pub ine_reads : (bytes : List ℕ) (cs : Constraints) → NoneOf (tests Ine bytes) → old.IsIneFile bytes cs → IsFileOf false bytes (cs.dim + 1) IsRowOf cs.list
ine_reads bytes cs passes f = record {
  marked = indices f.contents;
  rows = table_of f.contents;
  file = subst (λ (d : ℕ). IsFile false bytes (indices f.contents) d (table_of f.contents)) f.over (file_is false Ine refl bytes passes f.contents f.says);
  says = table_says false Ine refl bytes passes f.contents f.says old.IsRowOf IsRowOf (λ row words c is wide e h. constraint_row row words c is e h) f.rows cs.list f.are_rows f.each;
}

pub ext_reads : (bytes : List ℕ) (gs : Generators) → NoneOf (tests Ext bytes) → (f : old.IsExtFile bytes gs) → IsFileOf true bytes (gs.dim + 1) (IsVectorOf gs.dim) f.given
ext_reads bytes gs passes f = record {
  marked = indices f.contents;
  rows = table_of f.contents;
  file = subst (λ (d : ℕ). IsFile true bytes (indices f.contents) d (table_of f.contents)) f.over (file_is true Ext refl bytes passes f.contents f.says);
  says = table_says true Ext refl bytes passes f.contents f.says IsNonzeroVector (IsVectorOf gs.dim) (λ row words g is wide e h. vector_row gs.dim row words g is (wide ∙ f.over) e h) f.rows f.given f.are_rows
      (nonzero_rows f.rows f.given (faultless_behind f.rows (λ g bad. passes.1.1.1.1.1.1.1.1.1.1.0 g (f.contents, f.says, (f.rows, f.are_rows, bad))) [] f.rows refl (All-nil (λ (row : Row). (g : Fault) → ¬ (IsVectorFault row.1 row.0 g)))) f.each);
}

-- ---- behind the file
other_words : (ws : List (List ℕ)) → list_any (λ t. bytes_eq t (codes "linearity")) ws ≡ false → All (λ w. w ≢ codes "linearity") ws
other_words [] e = All-nil (λ w. w ≢ codes "linearity")
other_words (w ∷ ws) e =
    let p = or_parts (bytes_eq w (codes "linearity")) (list_any (λ t. bytes_eq t (codes "linearity")) ws) e in
    All-cons (λ w. w ≢ codes "linearity") w ws (λ same. (let no : false ≡ true = sym p.0 ∙ (bytes_eq-Decides w (codes "linearity")).1 same in cc)) (other_words ws p.1)

pub nothing_behind : (ext : Bool) (bytes marked : List ℕ) (columns : ℕ) (rows : List (List (List ℕ))) → (f : IsFile ext bytes marked columns rows) → ¬ (old.HasLinearityAfter bytes) → All (λ w. w ≢ codes "linearity") (flat_map tokens f.behind)
nothing_behind ext bytes marked columns rows f none = by (list_any (λ t. bytes_eq t (codes "linearity")) (flat_map tokens f.behind)) refl
  where
    file : old.IsFile bytes (f.head ++ f.begin ∷ f.table) f.behind
    file = record { last = f.end; cut = f.cut ∙ sym (append_assoc f.head (f.begin ∷ f.table) (f.end ∷ f.behind)); unended = λ i d h. (f.each i d h).1; ends = f.ends }

    by : (b : Bool) → list_any (λ t. bytes_eq t (codes "linearity")) (flat_map tokens f.behind) ≡ b → All (λ w. w ≢ codes "linearity") (flat_map tokens f.behind)
    by true e = absurd (none (f.head ++ f.begin ∷ f.table, f.behind, file, ap (λ (l : List (List ℕ)). list_any (λ t. bytes_eq t (codes "linearity")) l) (texts_numbered 1 f.behind) ∙ e))
    by false e = other_words (flat_map tokens f.behind) e

-- ---- the origin
no_point_kind : (list : List Generator) → list_any old.is_point list ≡ false → HasNoPointKind list
no_point_kind [] e i h k = absurd (omega (arith, h))
no_point_kind ((v, kind) ∷ list) e zero h k =
    let no : true ≡ false = ap kinds.is_point (sym k) ∙ (or_parts (old.is_point (v, kind)) (list_any old.is_point list) e).0 in cc
no_point_kind (g ∷ list) e (suc i) h k = no_point_kind list (or_parts (old.is_point g) (list_any old.is_point list) e).1 i (omega (arith, h)) k

some_elements : (list : List Generator) → has_some list ≡ true → 0 < length list
some_elements [] e = cc
some_elements (g ∷ list) e = omega arith

not_true : (b : Bool) → not b ≡ true → b ≡ false
not_true true e = cc
not_true false e = refl

origin_column : (dim : ℕ) → old.origin dim ≡ at_column dim dim (pos 1)
origin_column dim = ap (λ (k : ℕ). replicate dim (pos 0) ++ pos 1 ∷ replicate k (pos 0)) (nothing_left dim)
  where
    nothing_left : (n : ℕ) → 0 ≡ n - n
    nothing_left n = omega arith

no_point : (list : List Generator) → HasNoPointKind list → list_any old.is_point list ≡ true → ⊥
no_point [] none e = cc
no_point ((v, Point) ∷ list) none e = none 0 (omega arith) refl
no_point ((v, Line) ∷ list) none e = no_point list (λ i h. none (suc i) (omega (arith, h))) e
no_point ((v, Ray) ∷ list) none e = no_point list (λ i h. none (suc i) (omega (arith, h))) e
no_point ((v, ClosurePoint) ∷ list) none e = no_point list (λ i h. none (suc i) (omega (arith, h))) e

not_false : (b : Bool) → not b ≡ false → b ≡ true
not_false true e = refl
not_false false e = cc

not_lacking : (list : List Generator) → (has_some list && not (list_any old.is_point list)) ≡ false → ¬ (LacksPoint list)
not_lacking [] e lacks = (let z = lacks.some in absurd (omega (arith, z)))
not_lacking (g ∷ list) e lacks =
    let some : has_some (g ∷ list) ≡ true = ap not (eqb-suc-zero (length list)) in
    no_point (g ∷ list) lacks.none (not_false (list_any old.is_point (g ∷ list)) (subst (λ (b : Bool). (b && not (list_any old.is_point (g ∷ list))) ≡ false) some e))

origin_by : (dim : ℕ) (given all : List Generator) (b : Bool) → (has_some given && not (list_any old.is_point given)) ≡ b → all ≡ cond b (given ++ (old.origin dim, Point) ∷ []) given → WithOrigin dim given all
origin_by dim given all true e same =
    let p = and_parts (has_some given) (not (list_any old.is_point given)) e in
    subst (WithOrigin dim given) (sym (same ∙ ap (λ (v : List ℤ). given ++ (v, Point) ∷ []) (origin_column dim)))
    (with_origin (record { some = some_elements given p.0; none = no_point_kind given (not_true (list_any old.is_point given) p.1) }))
origin_by dim given all false e same = subst (WithOrigin dim given) (sym same) (as_listed (not_lacking given e))

-- the generators of a file, with the origin where none is a point
pub origin_is : (bytes : List ℕ) (gs : Generators) → (f : old.IsExtFile bytes gs) → WithOrigin gs.dim f.given gs.list
origin_is bytes gs f = origin_by gs.dim f.given gs.list (has_some f.given && not (list_any old.is_point f.given)) refl f.list
