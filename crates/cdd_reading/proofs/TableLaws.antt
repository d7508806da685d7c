-- The tests of what a file says, and its rows.
use Rattle.std.proofs.Common.{◌≡◌, ℕ, ◌+◌, ◌-◌, ◌*◌, ◌/◌, ◌^◌, ◌<◌, ◌≤◌, ◌==◌, List, [], ◌∷◌, ◌++◌, length, map, take, drop, refl, sym, ◌∙◌, ap, subst, arith, inl, inr, Bool, min, Option, length-drop}
use Rattle.std.specs.Prelude.{All, ℤ, Some}
use Rattle.std.specs.List.{AllZip, flat_map, list_any}
use Rattle.std.proofs.Math.Nat.{mul-div_cancel}
use Rattle.std.proofs.lemmas.List.{take-append-drop, length-take-le}
use Rattle.std.proofs.lemmas.List.FromFn.{length-map-range_with_len}
use Rattle.std.proofs.lemmas.List.Elements.{All-nil, All-cons}
use Rattle.row_core.specs.Range.{AllInRange}
use Rattle.row_core.specs.Lists.{Row}
use Rattle.cons_sys.specs.Constraints.{Constraints}
use Rattle.gens_sys.specs.Generators.{Generators}
use Rattle.reply_text.specs.declared.faults.Fault.{Fault}
use Rattle.reply_text.specs.declared.faults.Fault.TheVariants as fault
use Rattle.reply_text.specs.declared.faults.ReadErr.{ReadErr}
use Rattle.reply_text.specs.declared.faults.ReadErr.TheVariants.{Input, Memory}
use Rattle.cdd_reading.specs.Tokens.{Token, texts}
use Rattle.cdd_reading.specs.Fractions.{all_integers, AllDivide, FitRange}
use Rattle.cdd_reading.specs.Headings.{indices_of}
use Rattle.cdd_reading.specs.Files.{AreRows, IsRowOf, IsIneFile, IsExtFile, marks, indices, values}
use Rattle.cdd_reading.specs.Refusals.{NoneOf, IsFirstOf, IsRefusal, AllName, other, wrong_kind, too_many_dims, zero_divisor, too_large, IsRowsFault, HaveNoFault, form_tests, content_tests, row_tests, table_tests, tests}
use Rattle.cdd_reading.specs.Tables.{IsFormRead, IsLimitFault, IsTable, rows_of, AreVectors, IsRefusedBy}
use Rattle.cdd_reading.specs.declared.format.Format.{Format}
use Rattle.cdd_reading.specs.declared.format.Format.TheVariants.{Ine, Ext}
use Rattle.cdd_reading.proofs.OneFiles.{of_contents}
use Rattle.cdd_reading.proofs.OneRows.{rows_once, faultless_rows}
use Rattle.cdd_reading.proofs.Stages.{first_longer, first_behind, none_both}
use Rattle.cdd_reading.proofs.ValueLaws.{length-all_integers}
use Rattle.cdd_reading.specs.declared.table.TheConstants.{MAX_WIDTH}

right_kind : (want : Format) (bytes : List ℕ) (named : Option Format) (linear : List ℕ) (d : ℕ) (numbers : List Token) → IsFormRead bytes named linear d numbers → ¬ (named ≡ Some (other want)) → (g : Fault) → ¬ (wrong_kind want bytes g)
right_kind want bytes named linear d numbers r differs g (e, w) = differs (r.kind ∙ of_contents (λ c. c.heading.kind ≡ Some (other want)) bytes r.contents r.says w)

few_columns : (c d : ℕ) → d ≡ min c (2 ^ 127) → d ≤ MAX_WIDTH → MAX_WIDTH < c → ⊥
few_columns c d e h k = grind arith

many_columns : (c d : ℕ) → d ≡ min c (2 ^ 127) → MAX_WIDTH < d → MAX_WIDTH < c
many_columns c d e h = grind arith

same_columns : (c d : ℕ) → d ≡ min c (2 ^ 127) → d ≤ MAX_WIDTH → d ≡ c
same_columns c d e h = grind arith

few_dims : (bytes : List ℕ) (named : Option Format) (linear : List ℕ) (d : ℕ) (numbers : List Token) → IsFormRead bytes named linear d numbers → d ≤ MAX_WIDTH → (g : Fault) → ¬ (too_many_dims bytes g)
few_dims bytes named linear d numbers r h g (e, w) = few_columns r.contents.sizes.columns d r.columns h (of_contents (λ c. MAX_WIDTH < c.sizes.columns) bytes r.contents r.says w)

-- the limits are kept
pub record KeepsLimits (want : Format) (named : Option Format) (d width : ℕ) : Type 0 where
  pub width_is : width ≡ d
  pub few : d ≤ MAX_WIDTH
  pub kind : ¬ (named ≡ Some (other want))

form_width : (want : Format) (bytes : List ℕ) (named : Option Format) (linear : List ℕ) (d width : ℕ) (numbers : List Token) → (r : IsFormRead bytes named linear d numbers) → KeepsLimits want named d width → width ≡ r.contents.sizes.columns
form_width want bytes named linear d width numbers r k = k.width_is ∙ same_columns r.contents.sizes.columns d r.columns k.few

-- what holds of the tokens holds of the numbers of the file
to_contents : (P : ℕ → List (List ℕ) → Type 0) (want : Format) (bytes : List ℕ) (named : Option Format) (linear : List ℕ) (d width : ℕ) (numbers : List Token) → (r : IsFormRead bytes named linear d numbers) → KeepsLimits want named d width → P width (texts numbers) → P r.contents.sizes.columns r.contents.numbers
to_contents P want bytes named linear d width numbers r k h = subst (λ (l : List (List ℕ)). P r.contents.sizes.columns l) r.read (subst (λ (w : ℕ). P w (texts numbers)) (form_width want bytes named linear d width numbers r k) h)

from_contents : (P : ℕ → List (List ℕ) → Type 0) (want : Format) (bytes : List ℕ) (named : Option Format) (linear : List ℕ) (d width : ℕ) (numbers : List Token) → (r : IsFormRead bytes named linear d numbers) → KeepsLimits want named d width → P r.contents.sizes.columns r.contents.numbers → P width (texts numbers)
from_contents P want bytes named linear d width numbers r k h = subst (λ (w : ℕ). P w (texts numbers)) (sym (form_width want bytes named linear d width numbers r k)) (subst (λ (l : List (List ℕ)). P r.contents.sizes.columns l) (sym r.read) h)

form_values : (want : Format) (bytes : List ℕ) (named : Option Format) (linear : List ℕ) (d width : ℕ) (numbers : List Token) → (r : IsFormRead bytes named linear d numbers) → KeepsLimits want named d width → all_integers width (texts numbers) ≡ values r.contents
form_values want bytes named linear d width numbers r k = to_contents (λ w ts. all_integers width (texts numbers) ≡ all_integers w ts) want bytes named linear d width numbers r k refl

abbrev Divides : ℕ → List (List ℕ) → Type 0
Divides w ts = AllDivide ts

all_divide : (want : Format) (bytes : List ℕ) (named : Option Format) (linear : List ℕ) (d width : ℕ) (numbers : List Token) → IsFormRead bytes named linear d numbers → KeepsLimits want named d width → AllDivide (texts numbers) → (g : Fault) → ¬ (zero_divisor bytes g)
all_divide want bytes named linear d width numbers r k all g (e, w) = of_contents (λ c. ¬ (AllDivide c.numbers)) bytes r.contents r.says w (to_contents Divides want bytes named linear d width numbers r k all)

small_numbers : (want : Format) (bytes : List ℕ) (named : Option Format) (linear : List ℕ) (d width : ℕ) (numbers : List Token) → IsFormRead bytes named linear d numbers → KeepsLimits want named d width → FitRange width (texts numbers) → (g : Fault) → ¬ (too_large bytes g)
small_numbers want bytes named linear d width numbers r k fit g (e, w) = of_contents (λ c. ¬ (FitRange c.sizes.columns c.numbers)) bytes r.contents r.says w (to_contents FitRange want bytes named linear d width numbers r k fit)

-- the answers
pub limit_refused : (want : Format) (bytes : List ℕ) (named : Option Format) (linear : List ℕ) (d : ℕ) (numbers : List Token) (f : Fault) → IsFormRead bytes named linear d numbers → IsLimitFault want named d f → IsFirstOf (table_tests want bytes) f
limit_refused want bytes named linear d numbers fault.WrongKind r h =
    first_behind (form_tests bytes) (content_tests want bytes) fault.WrongKind r.passed (inl (refl, (r.contents, r.says, sym r.kind ∙ h)))
limit_refused want bytes named linear d numbers fault.TooManyDims r (differs, many) =
    first_behind (form_tests bytes) (content_tests want bytes) fault.TooManyDims r.passed (inr (right_kind want bytes named linear d numbers r differs, inl (refl, (r.contents, r.says, many_columns r.contents.sizes.columns d r.columns many))))
limit_refused want bytes named linear d numbers f r h = absurd h

pub divisor_refused : (want : Format) (bytes : List ℕ) (named : Option Format) (linear : List ℕ) (d width : ℕ) (numbers : List Token) → IsFormRead bytes named linear d numbers → KeepsLimits want named d width → ¬ (AllDivide (texts numbers)) → IsFirstOf (table_tests want bytes) fault.ZeroDivisor
divisor_refused want bytes named linear d width numbers r k zero =
    first_behind (form_tests bytes) (content_tests want bytes) fault.ZeroDivisor r.passed
    (inr (right_kind want bytes named linear d numbers r k.kind, inr (few_dims bytes named linear d numbers r k.few, inl (refl, (r.contents, r.says, λ all. zero (from_contents Divides want bytes named linear d width numbers r k all))))))

pub large_refused : (want : Format) (bytes : List ℕ) (named : Option Format) (linear : List ℕ) (d width : ℕ) (numbers : List Token) → IsFormRead bytes named linear d numbers → KeepsLimits want named d width → AllDivide (texts numbers) → ¬ (FitRange width (texts numbers)) → IsFirstOf (table_tests want bytes) fault.NumberTooLarge
large_refused want bytes named linear d width numbers r k all large =
    first_behind (form_tests bytes) (content_tests want bytes) fault.NumberTooLarge r.passed
    (inr (
      right_kind want bytes named linear d numbers r k.kind,
      inr (
        few_dims bytes named linear d numbers r k.few,
        inr (all_divide want bytes named linear d width numbers r k all, inl (refl, (r.contents, r.says, λ fit. large (from_contents FitRange want bytes named linear d width numbers r k fit)))),
      ),
    ))

pub some_columns : (bytes : List ℕ) (named : Option Format) (linear : List ℕ) (d : ℕ) (numbers : List Token) → IsFormRead bytes named linear d numbers → d ≤ MAX_WIDTH → 0 < d
some_columns bytes named linear d numbers r h =
    let (file, rest, p, a) = r.says in
    subst (λ n. 0 < n) (sym (same_columns r.contents.sizes.columns d r.columns h)) a.body.sizes.positive

quotient : (n r c w : ℕ) → n ≡ r * c → w ≡ c → 0 < c → n / w ≡ r
quotient n r c w e f h = ap (λ x. x / w) e ∙ ap (λ x. r * c / x) f ∙ mul-div_cancel r h

-- as many numbers as fill rows
whole_rows : (n r c w : ℕ) → n ≡ r * c → w ≡ c → 0 < c → n ≡ n / w * w
whole_rows n r c w e f h = e ∙ ap (λ (x : ℕ). r * x) (sym f) ∙ ap (λ (x : ℕ). x * w) (sym (quotient n r c w e f h))

pub form_count : (want : Format) (bytes : List ℕ) (named : Option Format) (linear : List ℕ) (d width : ℕ) (numbers : List Token) → IsFormRead bytes named linear d numbers → KeepsLimits want named d width → length (texts numbers) ≡ length (texts numbers) / width * width
form_count want bytes named linear d width numbers r k =
    let (file, rest, p, a) = r.says in
    whole_rows (length (texts numbers)) r.contents.sizes.rows r.contents.sizes.columns width (ap (λ (l : List (List ℕ)). length l) r.read ∙ a.body.count) (form_width want bytes named linear d width numbers r k) a.body.sizes.positive

form_rows : (want : Format) (bytes : List ℕ) (named : Option Format) (linear : List ℕ) (d width : ℕ) (numbers : List Token) (v : List ℤ) → (r : IsFormRead bytes named linear d numbers) → KeepsLimits want named d width → v ≡ all_integers width (texts numbers) → (length v ≡ r.contents.sizes.rows * r.contents.sizes.columns) × (length v / width ≡ r.contents.sizes.rows)
form_rows want bytes named linear d width numbers v r k f =
    let (file, rest, p, a) = r.says in
    let n : length v ≡ r.contents.sizes.rows * r.contents.sizes.columns = ap (λ (l : List ℤ). length l) (f ∙ form_values want bytes named linear d width numbers r k) ∙ length-all_integers r.contents.sizes.columns r.contents.sizes.rows r.contents.numbers a.body.sizes.positive a.body.count in
    (n, quotient (length v) r.contents.sizes.rows r.contents.sizes.columns width n (form_width want bytes named linear d width numbers r k) a.body.sizes.positive)

-- the numbers were read
pub record AreValues (width : ℕ) (numbers : List Token) (v : List ℤ) : Type 0 where
  pub same : v ≡ all_integers width (texts numbers)
  pub divide : AllDivide (texts numbers)
  pub fit : FitRange width (texts numbers)

pub index_refused : (want : Format) (bytes : List ℕ) (named : Option Format) (linear : List ℕ) (d width : ℕ) (numbers : List Token) (v : List ℤ) → IsFormRead bytes named linear d numbers → KeepsLimits want named d width → AreValues width numbers v → ¬ (AllName (length v / width) (indices_of linear)) → IsFirstOf (table_tests want bytes) fault.LinearityIndex
index_refused want bytes named linear d width numbers v r k are bad =
    let rows = (form_rows want bytes named linear d width numbers v r k are.same).1 in
    first_behind (form_tests bytes) (content_tests want bytes) fault.LinearityIndex r.passed
    (inr (
      right_kind want bytes named linear d numbers r k.kind,
      inr (
        few_dims bytes named linear d numbers r k.few,
        inr (
          all_divide want bytes named linear d width numbers r k are.divide,
          inr (
            small_numbers want bytes named linear d width numbers r k are.fit,
            inl (refl, (r.contents, r.says, λ named_all. bad (subst (λ (n : ℕ). AllName n (indices_of linear)) (sym rows) (subst (λ (l : List ℕ). AllName r.contents.sizes.rows l) (sym r.indices) named_all)))),
          ),
        ),
      ),
    ))

fits : (n m r c w : ℕ) → n ≡ r * c → m ≡ r → w ≡ c → n ≡ m * w
fits n m r c w e f g = e ∙ ap (λ x. x * c) (sym f) ∙ ap (λ x. m * x) (sym g)

pub table_read : (want : Format) (bytes : List ℕ) (named : Option Format) (linear : List ℕ) (d width : ℕ) (numbers : List Token) (v : List ℤ) (ms : List Bool) → IsFormRead bytes named linear d numbers → KeepsLimits want named d width → AreValues width numbers v → ms ≡ marks (indices_of linear) (length v / width) → AllName (length v / width) (indices_of linear) → IsTable want bytes width ms v
table_read want bytes named linear d width numbers v ms r k are f named_all =
    let counts = form_rows want bytes named linear d width numbers v r k are.same in
    let columns : width ≡ r.contents.sizes.columns = form_width want bytes named linear d width numbers r k in
    let rows : ms ≡ marks (indices r.contents) r.contents.sizes.rows = f ∙ ap (λ (n : ℕ). marks (indices_of linear) n) counts.1 ∙ ap (λ (is : List ℕ). marks is r.contents.sizes.rows) r.indices in
    let n : length ms ≡ r.contents.sizes.rows = ap (λ (l : List Bool). length l) rows ∙ length-map-range_with_len (λ (i : ℕ). list_any (λ j. j == i) (indices r.contents)) 1 r.contents.sizes.rows in
    let some = some_columns bytes named linear d numbers r k.few in
    record {
      contents = r.contents;
      says = r.says;
      columns = columns;
      rows = rows;
      read = are.same ∙ form_values want bytes named linear d width numbers r k;
      fit = record { some = subst (λ x. 0 < x) (sym k.width_is) some; narrow = subst (λ x. x ≤ MAX_WIDTH) (sym k.width_is) k.few; count = fits (length v) (length ms) r.contents.sizes.rows r.contents.sizes.columns width counts.0 n columns; in_range = subst (λ (l : List ℤ). AllInRange l) (sym are.same) are.fit.integers };
      passed = none_both (form_tests bytes) (content_tests want bytes) r.passed (
        right_kind want bytes named linear d numbers r k.kind,
        (
          few_dims bytes named linear d numbers r k.few,
          (
            all_divide want bytes named linear d width numbers r k are.divide,
            (
              small_numbers want bytes named linear d width numbers r k are.fit,
              (
                λ g (same, w). of_contents (λ c. ¬ (AllName c.sizes.rows (indices c))) bytes r.contents r.says w (subst (λ (l : List ℕ). AllName r.contents.sizes.rows l) r.indices (subst (λ (m : ℕ). AllName m (indices_of linear)) counts.1 named_all)),
                tt,
              ),
            ),
          ),
        ),
      );
    }

-- rows that are cut off the numbers
marks-rows_of : (w : ℕ) (ms : List Bool) (v : List ℤ) → map (λ (row : Row). row.1) (rows_of w ms v) ≡ ms
marks-rows_of w [] v = refl
marks-rows_of w (m ∷ ms) v = ap (λ (l : List Bool). m ∷ l) (marks-rows_of w ms (drop w v))

less_left : (w n : ℕ) (ms : List Bool) (m : Bool) → n ≡ length (m ∷ ms) * w → (w ≤ n) × (n - w ≡ length ms * w)
less_left w n ms m e = (omega (arith, e), omega (arith, e))

wide-rows_of : (w : ℕ) (ms : List Bool) (v : List ℤ) → length v ≡ length ms * w → All (λ (row : Row). length row.0 ≡ w) (rows_of w ms v)
wide-rows_of w [] v e = All-nil (λ (row : Row). length row.0 ≡ w)
wide-rows_of w (m ∷ ms) v e =
    let l = less_left w (length v) ms m e in
    All-cons (λ (row : Row). length row.0 ≡ w) (take w v, m) (rows_of w ms (drop w v)) (length-take-le w v l.0) (wide-rows_of w ms (drop w v) (length-drop w v ∙ l.1))

none_left : (v : List ℤ) (w : ℕ) → length v ≡ 0 * w → [] ≡ v
none_left [] w e = refl
none_left (z ∷ v) w e = absurd (omega arith)

numbers-rows_of : (w : ℕ) (ms : List Bool) (v : List ℤ) → length v ≡ length ms * w → flat_map (λ (row : Row). row.0) (rows_of w ms v) ≡ v
numbers-rows_of w [] v e = none_left v w e
numbers-rows_of w (m ∷ ms) v e = ap (λ (l : List ℤ). take w v ++ l) (numbers-rows_of w ms (drop w v) (length-drop w v ∙ (less_left w (length v) ms m e).1)) ∙ take-append-drop w v

table_rows : (want : Format) (bytes : List ℕ) (w : ℕ) (ms : List Bool) (v : List ℤ) → (t : IsTable want bytes w ms v) → AreRows t.contents (rows_of w ms v)
table_rows want bytes w ms v t = record {
  marked = marks-rows_of w ms v ∙ t.rows;
  wide = subst (λ (n : ℕ). All (λ (row : Row). length row.0 ≡ n) (rows_of w ms v)) t.columns (wide-rows_of w ms v t.fit.count);
  numbers = numbers-rows_of w ms v t.fit.count ∙ t.read;
}

pub table_refused : (want : Format) (bytes : List ℕ) (e : ReadErr) → IsRefusal (table_tests want bytes) e → IsRefusal (tests want bytes) e
table_refused want bytes (Input f) h = first_longer (table_tests want bytes) (row_tests want bytes) f h
table_refused want bytes Memory h = tt

pub ine_read : (bytes : List ℕ) (w : ℕ) (ms : List Bool) (v : List ℤ) (cs : Constraints) → IsTable Ine bytes w ms v → w ≡ cs.dim + 1 → AllZip IsRowOf (rows_of w ms v) cs.list → IsIneFile bytes cs × NoneOf (tests Ine bytes)
ine_read bytes w ms v cs t e each = (
  record { contents = t.contents; says = t.says; rows = rows_of w ms v; are_rows = table_rows Ine bytes w ms v t; over = sym t.columns ∙ e; each = each },
  none_both (table_tests Ine bytes) [] t.passed tt,
)

pub ext_refused : (bytes : List ℕ) (w : ℕ) (ms : List Bool) (v : List ℤ) (e : ReadErr) → IsTable Ext bytes w ms v → IsRefusedBy (IsRowsFault (rows_of w ms v)) e → IsRefusal (tests Ext bytes) e
ext_refused bytes w ms v (Input f) t h = first_behind (table_tests Ext bytes) (row_tests Ext bytes) f t.passed (inl (t.contents, t.says, (rows_of w ms v, table_rows Ext bytes w ms v t, h)))
ext_refused bytes w ms v Memory t h = tt

pub ext_read : (bytes : List ℕ) (w : ℕ) (ms : List Bool) (v : List ℤ) (gs : Generators) → IsTable Ext bytes w ms v → w ≡ gs.dim + 1 → AreVectors (rows_of w ms v) gs.dim gs.list → IsExtFile bytes gs × NoneOf (tests Ext bytes)
ext_read bytes w ms v gs t e a =
    let are = table_rows Ext bytes w ms v t in (
      record { contents = t.contents; says = t.says; rows = rows_of w ms v; are_rows = are; over = sym t.columns ∙ e; given = a.given; each = a.each; list = a.whole },
      none_both (table_tests Ext bytes) (row_tests Ext bytes) t.passed (
        λ f h. (
            let (rows, is, bad) = of_contents (λ c. (rows : List Row) × AreRows c rows × IsRowsFault rows f) bytes t.contents t.says h in
            faultless_rows rows f (subst (λ (l : List Row). HaveNoFault l) (rows_once t.contents (rows_of w ms v) rows are is) a.faultless) bad
            ),
        tt,
      ),
    )
