-- Rows that are stored one after another.
use Rattle.std.proofs.Common.{◌≡◌, ℕ, ◌+◌, ◌-◌, ◌*◌, ◌<◌, ◌≤◌, ◌==◌, List, [], ◌∷◌, ◌++◌, length, take, drop, get_or, refl, sym, ◌∙◌, ap, subst, arith, inl, inr, ◌⊎◌, Bool, true, false, not, cond, replicate, length-drop}
use Rattle.std.specs.Prelude.{All, ℤ, pos, ◌<ℤ◌, ◌&&◌}
use Rattle.std.specs.List.{AllZip, list_any}
use Rattle.std.specs.Int.{w128}
use mir.Val.{of_z, to_z}
use Rattle.std.proofs.lemmas.Int.{ints, to_z-of_z, fits_signed_from_abs}
use Rattle.std.proofs.lemmas.List.{drop_more, drop_all, append-nil, get_or_push}
use Rattle.std.proofs.lemmas.List.Elements.{All-nil, All-cons, All-head, All-tail, All-push, All-drop, All-get_or}
use Rattle.std.proofs.Math.Nat.{eq-one_of_dvd-one}
use Rattle.row_core.specs.Vectors.{cell}
use Rattle.row_core.specs.Range.{InRange, AllInRange}
use Rattle.row_core.specs.Content.{IsPrimitiveOf}
use Rattle.row_core.specs.Lists.{Row}
use Rattle.row_core.proofs.ContentLemmas.{Divides}
use Rattle.row_core.proofs.OnePrimitive.{IsPrimitiveOf-once, IsPrimitiveOf-self}
use Rattle.cons_sys.specs.Constraints.{Constraint}
use Rattle.gens_sys.specs.Kinds.{HasBadDivisor, IsZeroDirection}
use Rattle.gens_sys.specs.Generators.{Generator}
use Rattle.gens_sys.specs.Generators as gens
use Rattle.gens_sys.specs.declared.kind.GenKind.{GenKind}
use Rattle.gens_sys.specs.declared.kind.GenKind.TheVariants.{Line, Ray, Point, ClosurePoint}
use Rattle.reply_text.specs.declared.faults.Fault.{Fault}
use Rattle.reply_text.specs.declared.faults.Fault.TheVariants as fault
use Rattle.reply_text.specs.declared.faults.ReadErr.{ReadErr}
use Rattle.reply_text.specs.declared.faults.ReadErr.TheVariants.{Input, Memory}
use Rattle.cdd_reading.specs.Tokens.{has_some}
use Rattle.cdd_reading.specs.Files.{turned, IsRowOf, IsVectorOf, IsKind, is_point, with_origin, origin}
use Rattle.cdd_reading.specs.Refusals.{IsVectorFault, HaveNoFault, IsRowsFault}
use Rattle.cdd_reading.specs.Tables.{FitTable, rows_of, IsRefusedBy, AreStored}
use Rattle.cdd_reading.proofs.ListLaws.{All-inside, one_further, zip_push}

pub in_range-turned : (row : List ℤ) → AllInRange row → AllInRange (turned row)
in_range-turned [] h = h
in_range-turned (b ∷ row) h = All-push InRange row b (All-tail InRange b row h) (All-head InRange b row h)

-- the rows that were taken, and the numbers that are left
pub record Taken (w i : ℕ) (ms : List Bool) (values rest : List ℤ) (before : List Row) : Type 0 where
  pub cut : rows_of w ms values ≡ before ++ rows_of w (drop i ms) rest
  pub count : length rest ≡ length (drop i ms) * w
  pub in_range : AllInRange rest

pub none_taken : (w : ℕ) (ms : List Bool) (values : List ℤ) → FitTable w ms values → Taken w 0 ms values values []
none_taken w ms values t = record { cut = refl; count = t.count; in_range = t.in_range }

row_next : (w i : ℕ) (ms : List Bool) (rest : List ℤ) → i < length ms → rows_of w (drop i ms) rest ≡ (take w rest, get_or ms i false) ∷ rows_of w (drop (i + 1) ms) (drop w rest)
row_next w i ms rest h = ap (λ (l : List Bool). rows_of w l rest) (drop_more ms i false h)

count_step : (n k w r : ℕ) → n ≡ k + 1 → r ≡ n * w → (w ≤ r) × (r - w ≡ k * w)
count_step n k w r e f = let g : n * w ≡ (k + 1) * w = ap (λ x. x * w) e in (omega arith, omega arith)

one_count : (w i : ℕ) (ms : List Bool) (rest : List ℤ) → i < length ms → length rest ≡ length (drop i ms) * w → (w ≤ length rest) × (length rest - w ≡ length (drop (i + 1) ms) * w)
one_count w i ms rest h e = count_step (length (drop i ms)) (length (drop (i + 1) ms)) w (length rest) (omega (arith, length-drop i ms, length-drop (i + 1) ms)) e

pub row_left : (w i : ℕ) (ms : List Bool) (values rest : List ℤ) (before : List Row) → Taken w i ms values rest before → i < length ms → w ≤ length rest
row_left w i ms values rest before t h = (one_count w i ms rest h t.count).0

pub one_taken : (w i : ℕ) (ms : List Bool) (values rest : List ℤ) (before : List Row) → Taken w i ms values rest before → i < length ms → Taken w (i + 1) ms values (drop w rest) (before ++ (take w rest, get_or ms i false) ∷ [])
one_taken w i ms values rest before t h = record {
  cut = one_further before (take w rest, get_or ms i false) (rows_of w (drop i ms) rest) (rows_of w (drop (i + 1) ms) (drop w rest)) (rows_of w ms values) t.cut (row_next w i ms rest h);
  count = length-drop w rest ∙ (one_count w i ms rest h t.count).1;
  in_range = All-drop InRange w rest t.in_range;
}

pub all_taken : (w i : ℕ) (ms : List Bool) (values rest : List ℤ) (before : List Row) → Taken w i ms values rest before → length ms ≤ i → rows_of w ms values ≡ before
all_taken w i ms values rest before t h = t.cut ∙ ap (λ (l : List Bool). before ++ rows_of w l rest) (drop_all i ms h) ∙ append-nil before

pub constraint_kept : (w i : ℕ) (ms : List Bool) (values rest behind row : List ℤ) (before : List Row) (list new : List Constraint) (m : Bool) → Taken w i ms values rest before → i < length ms → row ≡ take w rest → behind ≡ drop w rest → m ≡ get_or ms i false → AllZip IsRowOf before list → ((c : Constraint) × IsRowOf (row, m) c × (new ≡ list ++ c ∷ [])) → (now : List Row) × Taken w (i + 1) ms values behind now × AllZip IsRowOf now new
constraint_kept w i ms values rest behind row before list new m t h e f g all (c, is, list_is) =
    let is_row : IsRowOf (take w rest, get_or ms i false) c = subst (λ (v : List ℤ). IsRowOf (v, get_or ms i false) c) e (subst (λ (k : Bool). IsRowOf (row, k) c) g is) in (
      before ++ (take w rest, get_or ms i false) ∷ [],
      subst (λ (l : List ℤ). Taken w (i + 1) ms values l (before ++ (take w rest, get_or ms i false) ∷ [])) (sym f) (one_taken w i ms values rest before t h),
      subst (λ (l : List Constraint). AllZip IsRowOf (before ++ (take w rest, get_or ms i false) ∷ []) l) (sym list_is) (zip_push IsRowOf before list (take w rest, get_or ms i false) c all is_row),
    )

pub vector_kept : (w i : ℕ) (ms : List Bool) (values rest behind row : List ℤ) (before : List Row) (list new : List Generator) (m : Bool) → Taken w i ms values rest before → i < length ms → row ≡ take w rest → behind ≡ drop w rest → m ≡ get_or ms i false → AreStored before list → ((g : Generator) × IsVectorOf (row, m) g × (new ≡ list ++ g ∷ []) × ((f : Fault) → ¬ (IsVectorFault m row f))) → (now : List Row) × Taken w (i + 1) ms values behind now × AreStored now new
vector_kept w i ms values rest behind row before list new m t h e f g all (v, is, list_is, none) =
    let is_row : IsVectorOf (take w rest, get_or ms i false) v = subst (λ (u : List ℤ). IsVectorOf (u, get_or ms i false) v) e (subst (λ (k : Bool). IsVectorOf (row, k) v) g is) in
    let faultless : (x : Fault) → ¬ (IsVectorFault (get_or ms i false) (take w rest) x) = subst (λ (u : List ℤ). (x : Fault) → ¬ (IsVectorFault (get_or ms i false) u x)) e (subst (λ (k : Bool). (x : Fault) → ¬ (IsVectorFault k row x)) g none) in (
      before ++ (take w rest, get_or ms i false) ∷ [],
      subst (λ (l : List ℤ). Taken w (i + 1) ms values l (before ++ (take w rest, get_or ms i false) ∷ [])) (sym f) (one_taken w i ms values rest before t h),
      record {
        each = subst (λ (l : List Generator). AllZip IsVectorOf (before ++ (take w rest, get_or ms i false) ∷ []) l) (sym list_is) (zip_push IsVectorOf before list (take w rest, get_or ms i false) v all.each is_row);
        faultless = All-push (λ (r : Row). (x : Fault) → ¬ (IsVectorFault r.1 r.0 x)) before (take w rest, get_or ms i false) all.faultless faultless;
      },
    )

-- a row's first number at its end
pub last-turned : (row : List ℤ) (dim : ℕ) → length row ≡ dim + 1 → cell (turned row) dim ≡ cell row 0
last-turned [] dim e = absurd (omega arith)
last-turned (b ∷ row) dim e = get_or_push row b (pos 0) dim (omega arith)

zeros-turned : (row : List ℤ) → All (λ z. z ≡ pos 0) row → All (λ z. z ≡ pos 0) (turned row)
zeros-turned [] h = h
zeros-turned (b ∷ row) h = All-push (λ z. z ≡ pos 0) row b (All-tail (λ z. z ≡ pos 0) b row h) (All-head (λ z. z ≡ pos 0) b row h)

front_zeros : (row : List ℤ) (b : ℤ) → All (λ z. z ≡ pos 0) (row ++ b ∷ []) → All (λ z. z ≡ pos 0) row
front_zeros [] b h = All-nil (λ z. z ≡ pos 0)
front_zeros (a ∷ row) b h = All-cons (λ z. z ≡ pos 0) a row (All-head (λ z. z ≡ pos 0) a (row ++ b ∷ []) h) (front_zeros row b (All-tail (λ z. z ≡ pos 0) a (row ++ b ∷ []) h))

zeros_from_turned : (row : List ℤ) → All (λ z. z ≡ pos 0) (turned row) → All (λ z. z ≡ pos 0) row
zeros_from_turned [] h = h
zeros_from_turned (b ∷ row) h = All-cons (λ z. z ≡ pos 0) b row (All-inside (λ z. z ≡ pos 0) row b [] h) (front_zeros row b h)

-- a vector of length 0 is a row of zeros
pub zero_row : (kind : GenKind) (row : List ℤ) → IsZeroDirection kind (turned row) → All (λ z. z ≡ pos 0) row
zero_row Line row h = zeros_from_turned row h
zero_row Ray row h = zeros_from_turned row h
zero_row Point row h = absurd h
zero_row ClosurePoint row h = absurd h

good_divisor : (m : Bool) (t : ℤ) (kind : GenKind) → IsKind m t kind → HasBadDivisor kind t → ⊥
good_divisor m t Line (z, e) bad = bad z
good_divisor m t Ray (z, e) bad = bad z
good_divisor m t Point (p, e) bad = omega (arith, ints)
good_divisor m t ClosurePoint k bad = k

-- the divisor fits the kind that the first number gives
pub no_bad_divisor : (m : Bool) (row : List ℤ) (dim : ℕ) (kind : GenKind) → length row ≡ dim + 1 → IsKind m (cell row 0) kind → HasBadDivisor kind (cell (turned row) dim) → ⊥
no_bad_divisor m row dim kind e k bad = good_divisor m (cell row 0) kind k (subst (λ z. HasBadDivisor kind z) (last-turned row dim e) bad)

not_negative : (m : Bool) (t : ℤ) (kind : GenKind) → IsKind m t kind → t <ℤ pos 0 → ⊥
not_negative m t Line (z, e) h = omega (arith, ints)
not_negative m t Ray (z, e) h = omega (arith, ints)
not_negative m t Point (p, e) h = omega (arith, ints)
not_negative m t ClosurePoint k h = k

not_marked : (m : Bool) (t : ℤ) (kind : GenKind) → IsKind m t kind → pos 0 <ℤ t → m ≡ true → ⊥
not_marked m t Line (z, e) h g = omega (arith, ints)
not_marked m t Ray (z, e) h g = omega (arith, ints)
not_marked m t Point (p, e) h g = let w : true ≡ false = sym g ∙ e in cc
not_marked m t ClosurePoint k h g = k

not_zero : (m : Bool) (row : List ℤ) (kind : GenKind) → 0 < length row → IsKind m (cell row 0) kind → ¬ (IsZeroDirection kind (turned row)) → All (λ z. z ≡ pos 0) row → ⊥
not_zero m row Line some k h all = h (zeros-turned row all)
not_zero m row Ray some k h all = h (zeros-turned row all)
not_zero m row Point some (p, e) h all = let z : cell row 0 ≡ pos 0 = All-get_or (λ z. z ≡ pos 0) row 0 (pos 0) some all in omega (arith, ints)
not_zero m row ClosurePoint some k h all = k

-- a row that is kept has no fault
pub kept_faultless : (m : Bool) (row : List ℤ) (kind : GenKind) → 0 < length row → IsKind m (cell row 0) kind → ¬ (IsZeroDirection kind (turned row)) → (f : Fault) → ¬ (IsVectorFault m row f)
kept_faultless m row kind some k z fault.NegativeFirst h = not_negative m (cell row 0) kind k h
kept_faultless m row kind some k z fault.LinearityOnVertex (p, e) = not_marked m (cell row 0) kind k p e
kept_faultless m row kind some k z fault.ZeroVector h = not_zero m row kind some k z h
kept_faultless m row kind some k z f h = absurd h

-- the first row with a fault
pub first_fault : (w i : ℕ) (ms : List Bool) (values rest : List ℤ) (before : List Row) (f : Fault) → Taken w i ms values rest before → i < length ms → HaveNoFault before → IsVectorFault (get_or ms i false) (take w rest) f → IsRowsFault (rows_of w ms values) f
first_fault w i ms values rest before f t h none is =
    let row : Row = (take w rest, get_or ms i false) in
    record {
      before = before;
      row = row;
      first = record {
        behind = rows_of w (drop (i + 1) ms) (drop w rest);
        cut = t.cut ∙ ap (λ (l : List Row). before ++ l) (row_next w i ms rest h);
        right = none;
        wrong = λ all. All-inside (λ (r : Row). (g : Fault) → ¬ (IsVectorFault r.1 r.0 g)) before row [] all f is;
      };
      is = is;
    }

refused_as : (w i : ℕ) (ms : List Bool) (values rest : List ℤ) (before : List Row) (e : ReadErr) → Taken w i ms values rest before → i < length ms → HaveNoFault before → IsRefusedBy (IsVectorFault (get_or ms i false) (take w rest)) e → IsRefusedBy (IsRowsFault (rows_of w ms values)) e
refused_as w i ms values rest before (Input f) t h none is = first_fault w i ms values rest before f t h none is
refused_as w i ms values rest before Memory t h none is = tt

pub row_refused : (w i : ℕ) (ms : List Bool) (values rest row : List ℤ) (before : List Row) (m : Bool) (e : ReadErr) → Taken w i ms values rest before → i < length ms → row ≡ take w rest → m ≡ get_or ms i false → HaveNoFault before → IsRefusedBy (IsVectorFault m row) e → IsRefusedBy (IsRowsFault (rows_of w ms values)) e
row_refused w i ms values rest row before m e t h f g none is =
    refused_as w i ms values rest before e t h none (subst (λ (v : List ℤ). IsRefusedBy (IsVectorFault (get_or ms i false) v) e) f (subst (λ (k : Bool). IsRefusedBy (IsVectorFault k row) e) g is))

-- the origin is primitive
origin_primitive : (n : ℕ) → IsPrimitiveOf (origin n) (origin n)
origin_primitive n = IsPrimitiveOf-self (origin n) (inr (λ d all. eq-one_of_dvd-one (All-inside (Divides d) (replicate n (pos 0)) (pos 1) [] all)))

pub origin_gained : (n : ℕ) (old new : List Generator) → gens.Gains old new (origin n) Point → new ≡ old ++ (origin n, Point) ∷ []
origin_gained n old new g = g.list ∙ ap (λ (v : List ℤ). old ++ (v, Point) ∷ []) (IsPrimitiveOf-once (origin n) g.stored (origin n) g.primitive (origin_primitive n))

origin_unwanted : (e p : Bool) → ((e ≡ true) ⊎ (p ≡ true)) → (not e && not p) ≡ false
origin_unwanted true p h = refl
origin_unwanted false true h = refl
origin_unwanted false false (inl h) = cc
origin_unwanted false false (inr h) = cc

origin_wanted : (e p : Bool) → e ≡ false → p ≡ false → (not e && not p) ≡ true
origin_wanted true p h k = cc
origin_wanted false true h k = cc
origin_wanted false false h k = refl

cond_false : {A : Type 0} (b : Bool) (x y : A) → b ≡ false → y ≡ cond b x y
cond_false true x y h = cc
cond_false false x y h = refl

cond_true : {A : Type 0} (b : Bool) (x y : A) → b ≡ true → x ≡ cond b x y
cond_true true x y h = refl
cond_true false x y h = cc

pub with_none : (dim : ℕ) (gs : List Generator) → ((length gs == 0) ≡ true) ⊎ (list_any is_point gs ≡ true) → gs ≡ with_origin dim gs
with_none dim gs h = cond_false (has_some gs && not (list_any is_point gs)) (gs ++ (origin dim, Point) ∷ []) gs (origin_unwanted (length gs == 0) (list_any is_point gs) h)

pub with_one : (dim : ℕ) (gs : List Generator) → (length gs == 0) ≡ false → list_any is_point gs ≡ false → gs ++ (origin dim, Point) ∷ [] ≡ with_origin dim gs
with_one dim gs h k = cond_true (has_some gs && not (list_any is_point gs)) (gs ++ (origin dim, Point) ∷ []) gs (origin_wanted (length gs == 0) (list_any is_point gs) h k)

-- a number of the range, as code passes it on
pub passed_on : (z : ℤ) → InRange z → to_z w128 (of_z w128 z) ≡ z
passed_on z h = to_z-of_z w128 z (fits_signed_from_abs w128 z h.size)
