use Rattle.std.proofs.Common.{◌≡◌, ℕ, zero, suc, ◌+◌, ◌<◌, ◌<ℤ◌, List, [], ◌∷◌, ◌++◌, length, replicate, set, take, map, Bool, true, false, ℤ, pos, refl, sym, ap, ◌∙◌, subst, arith, inr}
use Rattle.std.specs.Prelude.{◌&&◌, negsuc, unsigned_abs}
use Prim.Native.Nat.{◌∣◌}
use Rattle.std.proofs.Math.Nat.{eq-one_of_dvd-one}
use Rattle.stored_systems.specs.WorkLists.{divisor_row, HaveNoPoint}
use Rattle.stored_systems.specs.StoredForms.{false_row, is_divisor_row}
use Rattle.std.specs.Ordering.{int_eq}
use Rattle.cons_sys.specs.declared.kind.ConKind.TheVariants.{Ge}
use Rattle.stored_systems.specs.Entries.{is_zero, is_last_one}
use Rattle.std.proofs.lemmas.List.Elements.{All-nil, All-cons, All-head, All-tail, All-from_get_or}
use Rattle.row_core.specs.Vectors.{cell}
use Rattle.row_core.specs.Content.{IsPrimitive}
use Rattle.row_core.proofs.OnePrimitive.{IsPrimitiveOf-once, IsPrimitiveOf-self}
use Rattle.cons_sys.specs.Constraints.{Constraint, Gains}
use Rattle.cone_laws.specs.Canon.{vector_at}
use Rattle.row_core.proofs.RowListLemmas.{length-vectors, vector_at-vectors}
use Rattle.row_core.specs.Range.{InRange, AllInRange}
use Rattle.row_core.specs.Lists.{Row, row_at, system_rows, vectors, AreMarked}

set_divisor : (n : ℕ) → set (replicate (suc n) (pos 0)) n (pos 1) ≡ divisor_row n
set_divisor zero = refl
set_divisor (suc n) = ap (λ (v : List ℤ). pos 0 ∷ v) (set_divisor n)

-- zeros of which the last is made 1
pub row_divisor : (n : ℕ) (items : List ℤ) → items ≡ replicate (n + 1) (pos 0) → set items n (pos 1) ≡ divisor_row n
row_divisor n items e = ap (λ (xs : List ℤ). set xs n (pos 1)) e ∙ ap (λ (k : ℕ). set (replicate k (pos 0)) n (pos 1)) (let d : n + 1 ≡ suc n = omega arith in d) ∙ set_divisor n

zero_in : InRange (pos 0)
zero_in = record { size = omega arith }

one_in : InRange (pos 1)
one_in = record { size = omega arith }

pub divisor_in_range : (n : ℕ) → AllInRange (divisor_row n)
divisor_in_range zero = All-cons InRange (pos 1) [] one_in (All-nil InRange)
divisor_in_range (suc n) = All-cons InRange (pos 0) (divisor_row n) zero_in (divisor_in_range n)

-- a list of one mark is its vectors with the mark
abbrev MarkedAs : Bool → Row → Type 0
MarkedAs eq row = row.1 ≡ eq

pub with_mark : (eq : Bool) (rows : List Row) → AreMarked eq rows → rows ≡ map (λ v. (v, eq)) (vectors rows)
with_mark eq [] h = refl
with_mark eq ((v, b) ∷ rows) h = ap (λ (x : Bool). (v, x) ∷ rows) (All-head (MarkedAs eq) (v, b) rows h) ∙ ap (λ (rs : List Row). (v, eq) ∷ rs) (with_mark eq rows (All-tail (MarkedAs eq) (v, b) rows h))

pub joined_marks : (lines rays : List Row) → AreMarked true lines → AreMarked false rays → lines ++ rays ≡ system_rows (vectors lines) (vectors rays)
joined_marks lines rays f g = ap (λ (xs : List Row). xs ++ rays) (with_mark true lines f) ∙ ap (λ (ys : List Row). map (λ v. (v, true)) (vectors lines) ++ ys) (with_mark false rays g)

-- ---- points among the rays
level_at : (dim : ℕ) (rows : List Row) → ((i : ℕ) → i < length rows → ¬ (pos 0 <ℤ cell (row_at rows i) dim)) → (i : ℕ) → i < length (vectors rows) → ¬ (pos 0 <ℤ cell (vector_at (vectors rows) i) dim)
level_at dim rows f i h = subst (λ (v : List ℤ). ¬ (pos 0 <ℤ cell v dim)) (sym (vector_at-vectors rows i)) (f i (omega (arith, h, length-vectors rows)))

pub all_level : (dim : ℕ) (rows : List Row) → ((i : ℕ) → i < length rows → ¬ (pos 0 <ℤ cell (row_at rows i) dim)) → HaveNoPoint dim (vectors rows)
all_level dim rows f = All-from_get_or (λ r. ¬ (pos 0 <ℤ cell r dim)) (vectors rows) [] (level_at dim rows f)

-- ---- the row of the divisor by its entries
and_true : (b : Bool) → (b && true) ≡ b
and_true true = refl
and_true false = refl

and_swap : (a b c : Bool) → (a && (b && c)) ≡ (b && (a && c))
and_swap true true c = refl
and_swap true false c = refl
and_swap false true c = refl
and_swap false false c = refl

pub divisor_by_entries : (dim : ℕ) (row : List ℤ) → length row ≡ dim + 1 → is_divisor_row dim row ≡ is_last_one dim row
divisor_by_entries dim [] e = absurd (omega (arith, e))
divisor_by_entries zero (a ∷ []) e = sym (and_true (int_eq a (pos 1)))
divisor_by_entries zero (a ∷ b ∷ v) e = absurd (omega (arith, e))
divisor_by_entries (suc dim) (a ∷ v) e = ap (λ (b : Bool). int_eq a (pos 0) && b) (divisor_by_entries dim v (omega (arith, e))) ∙ and_swap (int_eq a (pos 0)) (int_eq (cell v dim) (pos 1)) (is_zero (take dim v))

-- ---- the row of the false constraint
pub replicate_false : (n : ℕ) → replicate n (pos 0) ++ negsuc 0 ∷ [] ≡ false_row n
replicate_false zero = refl
replicate_false (suc n) = ap (λ (v : List ℤ). pos 0 ∷ v) (replicate_false n)

last_false : (n : ℕ) → cell (false_row n) n ≡ negsuc 0
last_false zero = refl
last_false (suc n) = last_false n

length_false : (n : ℕ) → length (false_row n) ≡ n + 1
length_false zero = refl
length_false (suc n) = ap suc (length_false n) ∙ omega arith

pub false_primitive : (n : ℕ) → IsPrimitive (false_row n)
false_primitive n = inr (λ d all. eq-one_of_dvd-one (subst (λ (z : ℤ). d ∣ unsigned_abs z) (last_false n) (all n (pos 0) (omega (arith, length_false n)))))

pub false_gains : (n : ℕ) (old new : List Constraint) (v : List ℤ) → old ≡ [] → v ≡ false_row n → Gains old new v Ge → new ≡ (false_row n, Ge) ∷ []
false_gains n old new v e f g =
    g.list ∙ ap (λ (xs : List Constraint). xs ++ (g.stored, Ge) ∷ []) e
    ∙ ap (λ (w : List ℤ). (w, Ge) ∷ []) (IsPrimitiveOf-once v g.stored v g.primitive (IsPrimitiveOf-self v (subst IsPrimitive (sym f) (false_primitive n))) ∙ f)
