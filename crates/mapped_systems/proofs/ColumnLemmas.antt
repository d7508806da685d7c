-- Cells and values of rows with more columns, with fewer, and with a variable replaced.
use Rattle.std.proofs.Common.{◌≡◌, ℕ, zero, suc, ◌+◌, ◌<◌, ◌≤◌, List, [], ◌∷◌, ◌++◌, length, drop, replicate, slice_index_or, slice_set, ℤ, pos, ◌+ℤ◌, ◌*ℤ◌, refl, sym, ap, ◌∙◌, arith, subst}
use Rattle.std.proofs.lemmas.Int.{ints}
use Rattle.std.proofs.lemmas.List.{length-set, get_or-drop}
use Rattle.std.proofs.lemmas.List.Elements.{All-get_or}
use Rattle.row_core.specs.Range.{InRange, AllInRange, AllStay}
use Rattle.row_core.specs.Vectors.{cell, dot, scale, add}
use Rattle.cone_laws.proofs.Columns.{dot_comm, dot-scale, dot-add, length-scale, length-add, cell-scale}
use Rattle.mapped_systems.specs.Maps.{substituted, pulled_back, with_zeros, without, picked}

no_first : (b x : ℤ) → pos 0 *ℤ b +ℤ x ≡ x
no_first b x = omega (arith, ints)

dot-nil : (a : List ℤ) → dot a [] ≡ pos 0
dot-nil [] = refl
dot-nil (x ∷ a) = refl

-- ---- zeros before a column
dot-zeros : (k : ℕ) (a v : List ℤ) → dot (replicate k (pos 0) ++ a) v ≡ dot a (drop k v)
dot-zeros zero a v = refl
dot-zeros (suc k) a [] = sym (dot-nil a)
dot-zeros (suc k) a (b ∷ v) = no_first b (dot (replicate k (pos 0) ++ a) v) ∙ dot-zeros k a v

-- the end of k columns from a column on
zero_end : (end k : ℕ) → end ≡ 0 + k → k ≡ end
zero_end end k e = omega (arith, e)

-- the value at a vector is that of the row at the vector without these columns
dot_padded : (column end k : ℕ) (a v : List ℤ) → end ≡ column + k → dot (with_zeros column k a) v ≡ dot a (without column end v)
dot_padded zero end k a v e = dot-zeros k a v ∙ ap (λ (n : ℕ). dot a (drop n v)) (zero_end end k e)
dot_padded (suc column) zero k a v e = absurd (omega (arith, e))
dot_padded (suc column) (suc end) k [] v e = dot-zeros k [] v
dot_padded (suc column) (suc end) k (x ∷ a) [] e = refl
dot_padded (suc column) (suc end) k (x ∷ a) (y ∷ v) e = ap (λ (z : ℤ). x *ℤ y +ℤ z) (dot_padded column end k a v (omega (arith, e)))

pub dot-with_zeros : (column k : ℕ) (a v : List ℤ) → dot (with_zeros column k a) v ≡ dot a (without column (column + k) v)
dot-with_zeros column k a v = dot_padded column (column + k) k a v refl

zeros_front : (k : ℕ) (v : List ℤ) (j : ℕ) → j < k → cell (replicate k (pos 0) ++ v) j ≡ pos 0
zeros_front zero v j h = absurd (omega arith)
zeros_front (suc k) v zero h = refl
zeros_front (suc k) v (suc j) h = zeros_front k v j (omega (arith, h))

zeros_behind : (k : ℕ) (v : List ℤ) (j n : ℕ) → n ≡ j + k → cell (replicate k (pos 0) ++ v) n ≡ cell v j
zeros_behind zero v j n e = ap (cell v) (omega (arith, e))
zeros_behind (suc k) v j zero e = absurd (omega (arith, e))
zeros_behind (suc k) v j (suc n) e = zeros_behind k v j n (omega (arith, e))

pub cell-before : (column k : ℕ) (v : List ℤ) (j : ℕ) → column ≤ length v → j < column → cell (with_zeros column k v) j ≡ cell v j
cell-before zero k v j l h = absurd (omega arith)
cell-before (suc column) k [] j l h = absurd (omega (arith, l))
cell-before (suc column) k (x ∷ v) zero l h = refl
cell-before (suc column) k (x ∷ v) (suc j) l h = cell-before column k v j (omega (arith, l)) (omega (arith, h))

pub cell-within : (column k : ℕ) (v : List ℤ) (j : ℕ) → column ≤ length v → column ≤ j → j < column + k → cell (with_zeros column k v) j ≡ pos 0
cell-within zero k v j l g h = zeros_front k v j (omega (arith, h))
cell-within (suc column) k [] j l g h = absurd (omega (arith, l))
cell-within (suc column) k (x ∷ v) zero l g h = absurd (omega (arith, g))
cell-within (suc column) k (x ∷ v) (suc j) l g h = cell-within column k v j (omega (arith, l)) (omega (arith, g)) (omega (arith, h))

cell_moved : (column k : ℕ) (v : List ℤ) (j n : ℕ) → column ≤ length v → column ≤ j → n ≡ j + k → cell (with_zeros column k v) n ≡ cell v j
cell_moved zero k v j n l g e = zeros_behind k v j n e
cell_moved (suc column) k [] j n l g e = absurd (omega (arith, l))
cell_moved (suc column) k (x ∷ v) zero n l g e = absurd (omega (arith, g))
cell_moved (suc column) k (x ∷ v) (suc j) zero l g e = absurd (omega (arith, e))
cell_moved (suc column) k (x ∷ v) (suc j) (suc n) l g e = cell_moved column k v j n (omega (arith, l)) (omega (arith, g)) (omega (arith, e))

pub cell-behind : (column k : ℕ) (v : List ℤ) (j : ℕ) → column ≤ length v → column ≤ j → cell (with_zeros column k v) (j + k) ≡ cell v j
cell-behind column k v j l g = cell_moved column k v j (j + k) l g refl

zeros_length : (k : ℕ) (v : List ℤ) → length (replicate k (pos 0) ++ v) ≡ length v + k
zeros_length zero v = omega arith
zeros_length (suc k) v = let e = zeros_length k v in omega (arith, e)

pub length-with_zeros : (column k : ℕ) (v : List ℤ) → length (with_zeros column k v) ≡ length v + k
length-with_zeros zero k v = zeros_length k v
length-with_zeros (suc column) k [] = zeros_length k []
length-with_zeros (suc column) k (x ∷ v) = let e = length-with_zeros column k v in omega (arith, e)

-- ---- columns left out
dropped : (k : ℕ) (v : List ℤ) → drop k (replicate k (pos 0) ++ v) ≡ v
dropped zero v = refl
dropped (suc k) v = dropped k v

back_without : (column end k : ℕ) (v : List ℤ) → column ≤ length v → end ≡ column + k → without column end (with_zeros column k v) ≡ v
back_without zero end k v l e = ap (λ (n : ℕ). drop n (replicate k (pos 0) ++ v)) (sym (zero_end end k e)) ∙ dropped k v
back_without (suc column) end k [] l e = absurd (omega (arith, l))
back_without (suc column) zero k (x ∷ v) l e = absurd (omega (arith, e))
back_without (suc column) (suc end) k (x ∷ v) l e = ap (λ (w : List ℤ). x ∷ w) (back_without column end k v (omega (arith, l)) (omega (arith, e)))

pub without-with_zeros : (column k : ℕ) (v : List ℤ) → column ≤ length v → without column (column + k) (with_zeros column k v) ≡ v
without-with_zeros column k v l = back_without column (column + k) k v l refl

zero_first : (x : ℤ) (v w : List ℤ) → x ≡ pos 0 → w ≡ v → pos 0 ∷ w ≡ x ∷ v
zero_first x v w e f = ap (λ (z : ℤ). z ∷ w) (sym e) ∙ ap (λ (u : List ℤ). x ∷ u) f

restored_front : (k : ℕ) (v : List ℤ) → k ≤ length v → ((j : ℕ) → j < k → cell v j ≡ pos 0) → replicate k (pos 0) ++ drop k v ≡ v
restored_front zero v l z = refl
restored_front (suc k) [] l z = absurd (omega (arith, l))
restored_front (suc k) (x ∷ v) l z = zero_first x v (replicate k (pos 0) ++ drop k v) (z 0 (omega arith)) (restored_front k v (omega (arith, l)) (λ j h. z (suc j) (omega (arith, h))))

-- a vector that is 0 at the columns
restored_from : (column end k : ℕ) (v : List ℤ) → end ≡ column + k → end ≤ length v → ((j : ℕ) → column ≤ j → j < end → cell v j ≡ pos 0) → with_zeros column k (without column end v) ≡ v
restored_from zero end k v e l z = ap (λ (n : ℕ). replicate k (pos 0) ++ drop n v) (sym (zero_end end k e)) ∙ restored_front k v (omega (arith, e, l)) (λ j h. z j (omega arith) (omega (arith, e, h)))
restored_from (suc column) zero k v e l z = absurd (omega (arith, e))
restored_from (suc column) (suc end) k [] e l z = absurd (omega (arith, l))
restored_from (suc column) (suc end) k (x ∷ v) e l z = ap (λ (w : List ℤ). x ∷ w) (restored_from column end k v (omega (arith, e)) (omega (arith, l)) (λ j g h. z (suc j) (omega (arith, g)) (omega (arith, h))))

pub restored : (column k : ℕ) (v : List ℤ) → column + k ≤ length v → ((j : ℕ) → column ≤ j → j < column + k → cell v j ≡ pos 0) → with_zeros column k (without column (column + k) v) ≡ v
restored column k v l z = restored_from column (column + k) k v refl l z

drop_length : (k : ℕ) (v : List ℤ) → k ≤ length v → length (drop k v) + k ≡ length v
drop_length zero v l = omega arith
drop_length (suc k) [] l = absurd (omega (arith, l))
drop_length (suc k) (x ∷ v) l = let e = drop_length k v (omega (arith, l)) in omega (arith, e)

length_from : (column end k : ℕ) (v : List ℤ) → end ≡ column + k → end ≤ length v → length (without column end v) + k ≡ length v
length_from zero end k v e l = ap (λ (n : ℕ). length (drop n v) + k) (sym (zero_end end k e)) ∙ drop_length k v (omega (arith, e, l))
length_from (suc column) zero k v e l = absurd (omega (arith, e))
length_from (suc column) (suc end) k [] e l = absurd (omega (arith, l))
length_from (suc column) (suc end) k (x ∷ v) e l = let r = length_from column end k v (omega (arith, e)) (omega (arith, l)) in omega (arith, r)

pub length-without : (column k : ℕ) (v : List ℤ) → column + k ≤ length v → length (without column (column + k) v) + k ≡ length v
length-without column k v l = length_from column (column + k) k v refl l

pub drop-scale : (n : ℕ) (t : ℤ) (v : List ℤ) → drop n (scale t v) ≡ scale t (drop n v)
drop-scale zero t v = refl
drop-scale (suc n) t [] = refl
drop-scale (suc n) t (x ∷ v) = drop-scale n t v

-- one column less at each step
pub without-scale : (column end : ℕ) (t : ℤ) (v : List ℤ) → column ≤ end → without column end (scale t v) ≡ scale t (without column end v)
without-scale zero end t v h = drop-scale end t v
without-scale (suc column) zero t v h = absurd (omega (arith, h))
without-scale (suc column) (suc end) t [] h = refl
without-scale (suc column) (suc end) t (x ∷ v) h = ap (λ (w : List ℤ). (t *ℤ x) ∷ w) (without-scale column end t v (omega (arith, h)))

cut_before : (column end : ℕ) (v : List ℤ) (j : ℕ) → column ≤ end → j < column → cell (without column end v) j ≡ cell v j
cut_before zero end v j l h = absurd (omega (arith, h))
cut_before (suc column) zero v j l h = absurd (omega (arith, l))
cut_before (suc column) (suc end) [] j l h = refl
cut_before (suc column) (suc end) (x ∷ v) zero l h = refl
cut_before (suc column) (suc end) (x ∷ v) (suc j) l h = cut_before column end v j (omega (arith, l)) (omega (arith, h))

pub cell-without_before : (column k : ℕ) (v : List ℤ) (j : ℕ) → j < column → cell (without column (column + k) v) j ≡ cell v j
cell-without_before column k v j h = cut_before column (column + k) v j (omega arith) h

behind_end : (end j k n : ℕ) → end ≡ 0 + k → n ≡ j + k → end + j ≡ n
behind_end end j k n e f = omega (arith, e, f)

cut_behind : (column end k : ℕ) (v : List ℤ) (j n : ℕ) → end ≡ column + k → n ≡ j + k → column ≤ j → cell (without column end v) j ≡ cell v n
cut_behind zero end k v j n e f g = get_or-drop end v j (pos 0) ∙ ap (cell v) (behind_end end j k n e f)
cut_behind (suc column) zero k v j n e f g = absurd (omega (arith, e))
cut_behind (suc column) (suc end) k [] j n e f g = refl
cut_behind (suc column) (suc end) k (x ∷ v) zero n e f g = absurd (omega (arith, g))
cut_behind (suc column) (suc end) k (x ∷ v) (suc j) zero e f g = absurd (omega (arith, f))
cut_behind (suc column) (suc end) k (x ∷ v) (suc j) (suc n) e f g = cut_behind column end k v j n (omega (arith, e)) (omega (arith, f)) (omega (arith, g))

pub cell-without_behind : (column k : ℕ) (v : List ℤ) (j : ℕ) → column ≤ j → cell (without column (column + k) v) j ≡ cell v (j + k)
cell-without_behind column k v j g = cut_behind column (column + k) k v j (j + k) refl refl g

-- ---- columns picked
pub cell-picked : (columns : List ℕ) (divisor : ℕ) (v : List ℤ) (j : ℕ) → j < length columns → cell (picked columns divisor v) j ≡ cell v (slice_index_or columns j 0)
cell-picked [] divisor v j h = absurd (omega (arith, h))
cell-picked (c ∷ columns) divisor v zero h = refl
cell-picked (c ∷ columns) divisor v (suc j) h = cell-picked columns divisor v j (omega (arith, h))

pub cell-picked_last : (columns : List ℕ) (divisor : ℕ) (v : List ℤ) → cell (picked columns divisor v) (length columns) ≡ cell v divisor
cell-picked_last [] divisor v = refl
cell-picked_last (c ∷ columns) divisor v = cell-picked_last columns divisor v

pub cell-picked_past : (columns : List ℕ) (divisor : ℕ) (v : List ℤ) (j : ℕ) → length columns < j → cell (picked columns divisor v) j ≡ pos 0
cell-picked_past [] divisor v zero h = absurd (omega (arith, h))
cell-picked_past [] divisor v (suc j) h = refl
cell-picked_past (c ∷ columns) divisor v zero h = absurd (omega (arith, h))
cell-picked_past (c ∷ columns) divisor v (suc j) h = cell-picked_past columns divisor v j (omega (arith, h))

pub length-picked : (columns : List ℕ) (divisor : ℕ) (v : List ℤ) → length (picked columns divisor v) ≡ length columns + 1
length-picked [] divisor v = refl
length-picked (c ∷ columns) divisor v = let e = length-picked columns divisor v in omega (arith, e)

-- ---- a variable replaced
split_first : (x e y d : ℤ) → x *ℤ e +ℤ d ≡ (pos 0 *ℤ y +ℤ d) +ℤ x *ℤ e
split_first x e y d = omega (arith, ints)

split_later : (p d s t : ℤ) → d ≡ s +ℤ t → p +ℤ d ≡ (p +ℤ s) +ℤ t
split_later p d s t h = omega (arith, ints, h)

-- the variable's part of a value, and the rest
pub dot-replaced : (a w : List ℤ) (var : ℕ) (e : ℤ) → var < length a → var < length w → dot a (slice_set w var e) ≡ dot (slice_set a var (pos 0)) w +ℤ cell a var *ℤ e
dot-replaced [] w var e h g = absurd (omega (arith, h))
dot-replaced (x ∷ a) [] var e h g = absurd (omega (arith, g))
dot-replaced (x ∷ a) (y ∷ w) zero e h g = split_first x e y (dot a w)
dot-replaced (x ∷ a) (y ∷ w) (suc var) e h g = split_later (x *ℤ y) (dot a (slice_set w var e)) (dot (slice_set a var (pos 0)) w) (cell a var *ℤ e) (dot-replaced a w var e (omega (arith, h)) (omega (arith, g)))

dot-sum : (s t : ℤ) (u w v : List ℤ) → dot (add (scale s u) (scale t w)) v ≡ s *ℤ dot u v +ℤ t *ℤ dot w v
dot-sum s t u w v =
    let a = dot_comm (add (scale s u) (scale t w)) v in
    let b = dot-add v (scale s u) (scale t w) in
    let c = dot-scale v s u in
    let d = dot-scale v t w in
    let e = ap (λ (z : ℤ). s *ℤ z) (dot_comm v u) in
    let f = ap (λ (z : ℤ). t *ℤ z) (dot_comm v w) in
    omega (arith, ints, a, b, c, d, e, f)

-- the value of the row that is pulled back is that of the row where the variable is replaced
pub dot-pulled_back : (var : ℕ) (expr : List ℤ) (den : ℤ) (a v : List ℤ) → var < length a → var < length v → length (scale den v) ≡ length v → dot (pulled_back var expr den a) v ≡ dot a (substituted var expr den v)
dot-pulled_back var expr den a v h g l =
    let r = dot-replaced a (scale den v) var (dot expr v) h (omega (arith, g, l)) in
    let s = dot-sum den (cell a var) (slice_set a var (pos 0)) expr v in
    let t = dot-scale (slice_set a var (pos 0)) den v in
    omega (arith, ints, r, s, t)

pub length-pulled_back : (var : ℕ) (expr : List ℤ) (den : ℤ) (a : List ℤ) → length expr ≡ length a → length (pulled_back var expr den a) ≡ length a
length-pulled_back var expr den a e =
    let u : length (scale den (slice_set a var (pos 0))) ≡ length a = length-scale den (slice_set a var (pos 0)) ∙ length-set a var (pos 0) in
    let w : length (scale (cell a var) expr) ≡ length a = length-scale (cell a var) expr ∙ e in
    length-add (scale den (slice_set a var (pos 0))) (scale (cell a var) expr) (u ∙ sym w) ∙ w

-- the variable's entry is written over twice
pub scale_written : (den x : ℤ) (v : List ℤ) (var : ℕ) → slice_set (scale den (slice_set v var (pos 0))) var x ≡ slice_set (scale den v) var x
scale_written den x [] var = refl
scale_written den x (y ∷ v) zero = refl
scale_written den x (y ∷ v) (suc var) = ap (λ (w : List ℤ). (den *ℤ y) ∷ w) (scale_written den x v var)

-- ---- products in the range
pub scaled_stays : (factor : ℤ) (row new : List ℤ) → new ≡ scale factor row → AllInRange new → AllStay (λ (j : ℕ). InRange (factor *ℤ cell row j)) (length row)
scaled_stays factor row new e r j h = subst InRange (ap (λ (w : List ℤ). cell w j) e ∙ cell-scale factor row j) (All-get_or InRange new j (pos 0) (omega (arith, h, ap length e, length-scale factor row)) r)
