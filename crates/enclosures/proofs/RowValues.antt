-- The values of rows of one variable, and what a stored row allows.
use Rattle.std.specs.Prelude.{◌≡◌, ℕ, zero, suc, ◌+◌, ◌<◌, List, [], ◌∷◌, length, ℤ, pos, ◌+ℤ◌, ◌*ℤ◌, ◌<ℤ◌, slice_set, All}
use Rattle.std.proofs.Common.{arith, sym, ◌∙◌, ap, refl, subst, replicate}
use Rattle.std.proofs.lemmas.Int.{ints}
use Rattle.std.proofs.lemmas.List.{length-set, length-replicate, get_or-replicate, get_or-set_other}
use Rattle.std.proofs.lemmas.List.Elements.{All-push, All-from_get_or, All-set}
use Rattle.row_core.specs.Vectors.{cell, dot, scale}
use Rattle.row_core.specs.Range.{InRange, AllInRange}
use Rattle.row_core.specs.Content.{IsPrimitiveOf}
use Rattle.row_core.proofs.DotLemmas.{dot_comm, dot-scale}
use Rattle.cons_sys.specs.Kinds.{Allows}
use Rattle.cons_sys.specs.declared.kind.ConKind.{ConKind}
use Rattle.cons_sys.specs.Constraints.{Constraint, Gains, Satisfies}
use Rattle.cons_sys.proofs.Signs.{SameSign, same_sign, Allows-same_sign}
use Rattle.enclosures.specs.Boxes.{zeros, variable_row, sparse_row}

-- ---- rows with few numbers that aren't 0
dot_zeros : (n : ℕ) (p : List ℤ) → dot (replicate n (pos 0)) p ≡ pos 0
dot_zeros zero p = refl
dot_zeros (suc n) [] = refl
dot_zeros (suc n) (b ∷ p) = let e = dot_zeros n p in omega (arith, ints, e)

first_set : (a x b d : ℤ) → a ≡ pos 0 → x *ℤ b +ℤ d ≡ (a *ℤ b +ℤ d) +ℤ x *ℤ b
first_set a x b d e = subst (λ (z : ℤ). x *ℤ b +ℤ d ≡ (z *ℤ b +ℤ d) +ℤ x *ℤ b) (sym e) (omega (arith, ints))

rest_set : (s d e f : ℤ) → d ≡ e +ℤ f → s +ℤ d ≡ (s +ℤ e) +ℤ f
rest_set s d e f h = omega (arith, ints, h)

dot_set : (u : List ℤ) (k : ℕ) (x : ℤ) (p : List ℤ) → k < length u → length p ≡ length u → cell u k ≡ pos 0 → dot (slice_set u k x) p ≡ dot u p +ℤ x *ℤ cell p k
dot_set [] k x p l h e = absurd (omega arith)
dot_set (a ∷ u) k x [] l h e = absurd (omega (arith, h))
dot_set (a ∷ u) zero x (b ∷ p) l h e = first_set a x b (dot u p) e
dot_set (a ∷ u) (suc k) x (b ∷ p) l h e = rest_set (a *ℤ b) (dot (slice_set u k x) p) (dot u p) (x *ℤ cell p k) (dot_set u k x p (omega arith) (omega (arith, h)) e)

long : (dim : ℕ) → length (zeros dim) ≡ dim + 1
long dim = length-replicate (dim + 1) (pos 0)

zeros_cell : (dim k : ℕ) → k < dim + 1 → cell (zeros dim) k ≡ pos 0
zeros_cell dim k l = get_or-replicate (dim + 1) k (pos 0) (pos 0) l

one_set : (dim k : ℕ) (x : ℤ) (v : List ℤ) → k < dim + 1 → length v ≡ dim + 1 → dot (slice_set (zeros dim) k x) v ≡ x *ℤ cell v k
one_set dim k x v l w =
    let e = dot_set (zeros dim) k x v (omega (arith, l, long dim)) (omega (arith, w, long dim)) (zeros_cell dim k l) in
    let f = dot_zeros (dim + 1) v in
    omega (arith, ints, e, f)

pub variable_value : (dim j : ℕ) (v : List ℤ) → j < dim → length v ≡ dim + 1 → dot (variable_row dim j) v ≡ cell v j
variable_value dim j v l w = let e = one_set dim j (pos 1) v (omega (arith, l)) w in omega (arith, ints, e)

pub length_variable : (dim j : ℕ) → length (variable_row dim j) ≡ dim + 1
length_variable dim j = length-set (zeros dim) j (pos 1) ∙ long dim

pub two_set : (dim j : ℕ) (x y : ℤ) (v : List ℤ) → j < dim → length v ≡ dim + 1 → dot (sparse_row dim j y x) v ≡ x *ℤ cell v dim +ℤ y *ℤ cell v j
two_set dim j x y v l w =
    let row = slice_set (zeros dim) dim x in
    let n : length row ≡ dim + 1 = length-set (zeros dim) dim x ∙ long dim in
    let z : cell row j ≡ pos 0 = get_or-set_other (zeros dim) dim j x (pos 0) (omega (arith, l)) ∙ zeros_cell dim j (omega (arith, l)) in
    let e = dot_set row j y v (omega (arith, l, n)) (omega (arith, w, n)) z in
    let f = one_set dim dim x v (omega arith) w in
    omega (arith, ints, e, f)

zeros_in_range : (dim : ℕ) → AllInRange (zeros dim)
zeros_in_range dim = All-from_get_or InRange (zeros dim) (pos 0) (λ i l. subst InRange (sym (zeros_cell dim i (omega (arith, l, long dim)))) (record { size = omega arith }))

set_in_range : (v : List ℤ) (k : ℕ) (x : ℤ) → AllInRange v → InRange x → AllInRange (slice_set v k x)
set_in_range v k x h r = All-set InRange v k x r h

pub sparse_in_range : (dim j : ℕ) (x y : ℤ) → InRange x → InRange y → AllInRange (sparse_row dim j y x)
sparse_in_range dim j x y h k = set_in_range (slice_set (zeros dim) dim x) j y (set_in_range (zeros dim) dim x (zeros_in_range dim) h) k

-- ---- stored rows
positive_times : (n : ℕ) → 0 < n → pos 0 <ℤ pos n
positive_times n h = omega (arith, ints, h)

one_times : (x y : ℤ) → x ≡ y → pos 1 *ℤ x ≡ y
one_times x y e = omega (arith, ints, e)

stored_sign : (row stored v : List ℤ) → IsPrimitiveOf row stored → SameSign (dot row v) (dot stored v)
stored_sign row stored v p =
    let t = p.multiple.times in
    let value : dot row v ≡ pos t *ℤ dot stored v = ap (λ (w : List ℤ). dot w v) p.multiple.same ∙ dot_comm (scale (pos t) stored) v ∙ dot-scale v (pos t) stored ∙ ap (λ (z : ℤ). pos t *ℤ z) (dot_comm v stored) in
    same_sign (pos 1) (pos t) (dot row v) (dot stored v) (omega (arith, ints)) (positive_times t p.multiple.positive) (one_times (dot row v) (pos t *ℤ dot stored v) value)

-- where the row's value is allowed, the list that gained it holds as well
pub gained_holds : (old new : List Constraint) (row : List ℤ) (kind : ConKind) (v : List ℤ) → Gains old new row kind → All (Satisfies v) old → Allows kind (dot row v) → All (Satisfies v) new
gained_holds old new row kind v g h a =
    subst (All (Satisfies v)) (sym g.list)
    (All-push (Satisfies v) old (g.stored, kind) h (Allows-same_sign kind (dot row v) (dot g.stored v) (stored_sign row g.stored v g.primitive) a))
