use Rattle.std.specs.Prelude.{◌≡◌, ◌≢◌, ℕ, ◌*◌, ◌<◌, ◌≤◌, ◌⊎◌, List, [], ◌∷◌, ◌++◌, length, take, drop, ℤ, Bool, true, false, ◌&&◌, nat_eq, Decides}
use Rattle.std.specs.Bool.{beq}
use Rattle.std.specs.Ordering.{int_eq}
use Rattle.std.specs.Cmp.{unsigned_Decides, booleans_Decides}
use Rattle.std.specs.Cmp.Lexicographic.{pointwise}
use Rattle.std.specs.Cmp.Rules.{signed_items}
use Rattle.std.proofs.Common.{suc, refl, ap, sym, ◌∙◌, subst, inl, inr, arith}
use Rattle.std.proofs.Math.Bool.{and_assoc}
use Rattle.std.proofs.Math.Nat.{le_of_mul-le-mul_left}
use Rattle.std.proofs.lemmas.Bool.{and_left, and_right, cases_eq}
use Rattle.std.proofs.lemmas.Bool.Decides.{Decides-and}
use Rattle.std.proofs.lemmas.List.{take-append-drop, length-take-le, length-drop, nil_from_length}
use Rattle.std.proofs.lemmas.Slice.Eq.{slice_eq-Decides}
use Rattle.row_core.specs.Lists.{Row, Rows}
use Rattle.row_core.specs.MarkedCells.{marked_rows}
use Rattle.row_core.specs.Sameness.{is_same_marked, is_same_list}

-- rows with marks are found the same exactly where they are, if marks are
pub is_same_marked-Decides : {M : Type 0} {E : M → M → Bool} →
    ((a b : M) → Decides (E a b) (a ≡ b)) → (r s : List ℤ × M) →
    Decides (is_same_marked E r s) (r ≡ s)
is_same_marked-Decides {M} {E} marks (u, a) (v, b) =
    let both = Decides-and (pointwise int_eq u v) (E a b) (signed_items u v) (marks a b) in (
      λ e. let h = both.0 e in ap (λ (w : List ℤ). (w, a)) h.0 ∙ ap (λ (m : M). (v, m)) h.1,
      λ e. both.1 (ap (λ (r : List ℤ × M). r.0) e, ap (λ (r : List ℤ × M). r.1) e),
    )

pub same_marked-Decides : {M : Type 0} {E : M → M → Bool} → ((a b : M) → Decides (E a b) (a ≡ b)) →
    (xs ys : List (List ℤ × M)) → Decides (pointwise (is_same_marked E) xs ys) (xs ≡ ys)
same_marked-Decides {M} {E} marks xs ys =
    slice_eq-Decides (is_same_marked-Decides marks) xs ys (pointwise (is_same_marked E) xs ys) refl

pub is_same_list-Decides : (a b : Rows) → Decides (is_same_list a b) (a ≡ b)
is_same_list-Decides a b =
    let both = Decides-and (nat_eq a.width b.width) (pointwise (is_same_marked beq) a.rows b.rows)
    (unsigned_Decides a.width b.width) (same_marked-Decides booleans_Decides a.rows b.rows) in (
      λ e. let h = both.0 e in ap (λ (n : ℕ). record { width = n; rows = a.rows }) h.0 ∙
          ap (λ (rows : List Row). record { width = b.width; rows = rows }) h.1,
      λ e. both.1 (ap (λ (l : Rows). l.width) e, ap (λ (l : Rows). l.rows) e),
    )

-- lists that aren't as long are told apart
differ_in_length : {A : Type 0} (E : A → A → Bool) (xs ys : List A) → length xs ≢ length ys →
    pointwise E xs ys ≡ false
differ_in_length E [] [] apart = absurd (apart refl)
differ_in_length E [] (y ∷ ys) apart = refl
differ_in_length E (x ∷ xs) [] apart = refl
differ_in_length E (x ∷ xs) (y ∷ ys) apart = and_right (E x y) (pointwise E xs ys)
    (differ_in_length E xs ys (λ e. apart (ap suc e)))

-- lists that follow lists of one length
pointwise-append : {A : Type 0} (E : A → A → Bool) (xs ys us vs : List A) → length xs ≡ length ys →
    pointwise E (xs ++ us) (ys ++ vs) ≡ (pointwise E xs ys && pointwise E us vs)
pointwise-append E [] [] us vs long = refl
pointwise-append E [] (y ∷ ys) us vs long = absurd (omega (arith, long))
pointwise-append E (x ∷ xs) [] us vs long = absurd (omega (arith, long))
pointwise-append E (x ∷ xs) (y ∷ ys) us vs long =
    ap (λ (b : Bool). E x y && b) (pointwise-append E xs ys us vs (omega (arith, long))) ∙
    sym (and_assoc (E x y) (pointwise E xs ys) (pointwise E us vs))

-- the first of the marks and of the cells, and the others
regrouped : (mark marks row cells : Bool) →
    ((mark && marks) && (row && cells)) ≡ ((row && mark) && (marks && cells))
regrouped true true true cells = refl
regrouped true true false cells = refl
regrouped true false true cells = refl
regrouped true false false cells = refl
regrouped false marks true cells = refl
regrouped false marks false cells = refl

-- rows of two widths are told apart by the first of them
differ_in_width : (count width other : ℕ) (us vs : List ℤ) → width ≢ other →
    length us ≡ suc count * width → length vs ≡ suc count * other → length us ≢ length vs
differ_in_width count width other us vs apart left right same =
    let below : suc count * width ≤ suc count * other = omega (arith, left, right, same) in
    let above : suc count * other ≤ suc count * width = omega (arith, left, right, same) in
    let some : 0 < suc count = omega arith in
    apart (omega (arith, le_of_mul-le-mul_left below some, le_of_mul-le-mul_left above some))

-- rows are found the same where the marks are, and the cells
module _ {M : Type 0} (E : M → M → Bool) where
  -- of two widths
  unlike_widths : (width other : ℕ) (us vs : List ℤ) (a b : M) (ms ns : List M) → width ≢ other →
      length us ≡ suc (length ms) * width → length vs ≡ suc (length ns) * other →
      (pointwise E (a ∷ ms) (b ∷ ns) && pointwise int_eq us vs) ≡
      pointwise (is_same_marked E) (marked_rows width us (a ∷ ms)) (marked_rows other vs (b ∷ ns))
  unlike_widths width other us vs a b ms ns apart left right =
      let first_left : length (take width us) ≡ width =
      length-take-le width us (omega (arith, left)) in
      let first_right : length (take other vs) ≡ other =
      length-take-le other vs (omega (arith, right)) in
      let first : pointwise int_eq (take width us) (take other vs) ≡ false = differ_in_length int_eq
      (take width us) (take other vs)
      (λ e. apart (sym first_left ∙ e ∙ first_right)) in
      let rest : Bool = pointwise (is_same_marked E) (marked_rows width (drop width us) ms)
      (marked_rows other (drop other vs) ns) in
      whole (cases_eq (length ms) (length ns)) ∙
      sym (ap (λ (t : Bool). (t && E a b) && rest) first)
    where
      whole : (length ms ≡ length ns) ⊎ (length ms ≢ length ns) →
          (pointwise E (a ∷ ms) (b ∷ ns) && pointwise int_eq us vs) ≡ false
      whole (inl e) = and_right (pointwise E (a ∷ ms) (b ∷ ns)) (pointwise int_eq us vs)
          (differ_in_length int_eq us vs (differ_in_width (length ns) width other us vs apart
          (subst (λ (n : ℕ). length us ≡ suc n * width) e left) right))
      whole (inr ne) = and_left (pointwise E (a ∷ ms) (b ∷ ns)) (pointwise int_eq us vs)
          (differ_in_length E (a ∷ ms) (b ∷ ns) (λ e. ne (omega (arith, e))))

  -- of one width
  like_widths : (width : ℕ) (us vs : List ℤ) (ms ns : List M) → length us ≡ length ms * width →
      length vs ≡ length ns * width →
      (pointwise E ms ns && pointwise int_eq us vs) ≡
      pointwise (is_same_marked E) (marked_rows width us ms) (marked_rows width vs ns)
  like_widths width us vs [] [] left right =
      let none_left = nil_from_length us (omega (arith, left)) in
      let none_right = nil_from_length vs (omega (arith, right)) in
      λ i. pointwise int_eq (none_left i) (none_right i)
  like_widths width us vs [] (b ∷ ns) left right = refl
  like_widths width us vs (a ∷ ms) [] left right = refl
  like_widths width us vs (a ∷ ms) (b ∷ ns) left right =
      let first_left : length (take width us) ≡ width =
      length-take-le width us (omega (arith, left)) in
      let first_right : length (take width vs) ≡ width =
      length-take-le width vs (omega (arith, right)) in
      let cells : pointwise int_eq us vs ≡ (pointwise int_eq (take width us) (take width vs) &&
      pointwise int_eq (drop width us) (drop width vs)) =
      (λ i. pointwise int_eq (sym (take-append-drop width us) i)
      (sym (take-append-drop width vs) i)) ∙
      pointwise-append int_eq (take width us) (take width vs) (drop width us) (drop width vs)
      (first_left ∙ sym first_right) in
      let rest : (pointwise E ms ns && pointwise int_eq (drop width us) (drop width vs)) ≡ pointwise
      (is_same_marked E) (marked_rows width (drop width us) ms)
      (marked_rows width (drop width vs) ns) = like_widths width (drop width us) (drop width vs) ms
      ns (omega (arith, left, length-drop width us)) (omega (arith, right, length-drop width vs)) in
      ap (λ (t : Bool). (E a b && pointwise E ms ns) && t) cells ∙
      regrouped (E a b) (pointwise E ms ns) (pointwise int_eq (take width us) (take width vs))
      (pointwise int_eq (drop width us) (drop width vs)) ∙
      ap (λ (t : Bool). (pointwise int_eq (take width us) (take width vs) && E a b) && t) rest

  pub same_marked_rows : (width other : ℕ) (us vs : List ℤ) (ms ns : List M) →
      length us ≡ length ms * width → length vs ≡ length ns * other →
      (pointwise E ms ns && pointwise int_eq us vs) ≡
      pointwise (is_same_marked E) (marked_rows width us ms) (marked_rows other vs ns)
  same_marked_rows width other us vs [] [] left right =
      let none_left = nil_from_length us (omega (arith, left)) in
      let none_right = nil_from_length vs (omega (arith, right)) in
      λ i. pointwise int_eq (none_left i) (none_right i)
  same_marked_rows width other us vs [] (b ∷ ns) left right = refl
  same_marked_rows width other us vs (a ∷ ms) [] left right = refl
  same_marked_rows width other us vs (a ∷ ms) (b ∷ ns) left right =
      by_widths (cases_eq width other)
    where
      by_widths : (width ≡ other) ⊎ (width ≢ other) →
          (pointwise E (a ∷ ms) (b ∷ ns) && pointwise int_eq us vs) ≡
          pointwise (is_same_marked E) (marked_rows width us (a ∷ ms))
          (marked_rows other vs (b ∷ ns))
      by_widths (inl e) =
          like_widths width us vs (a ∷ ms) (b ∷ ns) left
          (subst (λ (w : ℕ). length vs ≡ suc (length ns) * w) (sym e) right) ∙
          ap (λ (w : ℕ). pointwise (is_same_marked E) (marked_rows width us (a ∷ ms))
          (marked_rows w vs (b ∷ ns))) e
      by_widths (inr apart) = unlike_widths width other us vs a b ms ns apart left right

-- a test of the rows of two lists, where their widths agree
pub is_same_list-rows : (a b : ℕ) (us vs : List Row) (l m : Rows) (r : Bool) →
    record { width = a; rows = us } ≡ l → record { width = b; rows = vs } ≡ m → a ≡ b →
    r ≡ pointwise (is_same_marked beq) us vs → r ≡ is_same_list l m
is_same_list-rows a b us vs l m r f g e same =
    same ∙ (ap (λ (t : Bool). t && pointwise (is_same_marked beq) us vs)
    (sym ((unsigned_Decides a b).1 e))
    ∙ (ap (λ (k : Rows). is_same_list k (record { width = b; rows = vs })) f ∙
    ap (λ (k : Rows). is_same_list l k) g))
