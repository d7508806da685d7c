-- The sets that a file may stand for are the same.
use Rattle.std.proofs.Common.{◌≡◌, ◌⊎◌, inl, inr, ℕ, zero, suc, ◌+◌, ◌*◌, ◌<◌, ◌==◌, ◌||◌, List, [], ◌∷◌, ◌++◌, length, take, drop, refl, ap, sym, ◌∙◌, subst, Bool, true, false, cond, codes, arith, length-append}
use Rattle.std.specs.Prelude.{◌↔◌, All, ℤ, pos, ◌+ℤ◌, ◌*ℤ◌, ◌<ℤ◌, ◌≤ℤ◌, if◌then◌else◌}
use Rattle.std.proofs.Math.IntN.{neg_ℤ}
use Rattle.std.specs.List.{flat_map, list_any, AllZip}
use Rattle.std.proofs.Math.Seq.{take-append_seam, drop-append_seam}
use Rattle.std.proofs.lemmas.Int.{ints}
use Rattle.std.proofs.lemmas.List.Elements.{All-nil, All-cons, All-head, All-tail, All-weaker}
use Rattle.row_core.specs.Vectors.{cell, dot, scale}
use Rattle.row_core.proofs.CellLemmas.{cell-scale}
use Rattle.row_core.proofs.DotLemmas.{dot_comm, dot-scale}
use Rattle.row_core.proofs.Ring.{ring, mul-positive, mul-add, mul-neg, mul-zero, mul_left_comm, zero_of_mul, positive_of_mul, at_least_zero_of_mul, mul-at_least_zero}
use Rattle.plain_text.specs.Digits.{number}
use Rattle.cons_sys.specs.Kinds.{Allows}
use Rattle.cons_sys.specs.Constraints.{Constraint, In, Satisfies}
use Rattle.cons_sys.specs.declared.kind.ConKind.{ConKind}
use Rattle.cons_sys.specs.declared.kind.ConKind.TheVariants.{Eq, Ge, Gt}
use Rattle.gens_sys.specs.Generators.{Generator, kind_at}
use Rattle.gens_sys.specs.Spans.{Span}
use Rattle.gens_sys.specs.declared.kind.GenKind.{GenKind}
use Rattle.gens_sys.specs.declared.kind.GenKind.TheVariants.{Line, Ray, Point, ClosurePoint}
use Rattle.stored_systems.proofs.ListLemmas.{All-right}
use Rattle.poly_pair.specs.FirstLists.{LacksPoint}
use Rattle.cdd_reading.specs.Tokens.{tokens, IsOnly, integer}
use Rattle.cdd_reading.specs.Files.{IsEnd}
use Rattle.cdd_reading.proofs.MarkLaws.{not_same}
use Rattle.soundness.specs.Points.{PointSet}
use Rattle.soundness.specs.TextsNumbers.{IsDigit, IsNumber}
use Rattle.soundness.specs.TextsExpressions.{at_column}
use Rattle.soundness.specs.Sets.{constraints, generators}
use Rattle.soundness.specs.FileLines.{IsInteger, whole, plus, minus, IsFraction, integer as integer_word, fraction, IsTimes, AreNumbersOf, IsRowOf, IsVectorOf, AreRows, HaveMarks, AreTableWords, IsFile}
use Rattle.soundness.specs.Files.{WithOrigin, as_listed, with_origin, AreIneRows, AreExtRows, AreRowsOf}
use Rattle.soundness.proofs.TextLists.{AreRelated}
use Rattle.soundness.proofs.ScaledGenerators.{IsScaled, scaled_span}
use Rattle.run_laws.specs.Allowed.{AreSame, FilesAreOne}
use Rattle.run_laws.proofs.AllowedSets.{via, turn, one_of}

-- ---- lists that are cut at the first element of a kind
record SameCut {A : Type 0} (xs us : List A) (x u : A) (ys vs : List A) : Type 0 where
  before : xs ≡ us
  at : x ≡ u
  behind : ys ≡ vs

one_cut : {A : Type 0} (P : A → Type 0) (xs us : List A) (x u : A) (ys vs : List A) → All (λ a. ¬ (P a)) xs → P x → All (λ a. ¬ (P a)) us → P u → xs ++ x ∷ ys ≡ us ++ u ∷ vs → SameCut xs us x u ys vs
one_cut P [] [] x u ys vs h p k q e = record { before = refl; at = cc; behind = cc }
one_cut P [] (b ∷ us) x u ys vs h p k q e = (let same : x ≡ b = cc in absurd (All-head (λ a. ¬ (P a)) b us k (subst P same p)))
one_cut P (a ∷ xs) [] x u ys vs h p k q e = (let same : u ≡ a = cc in absurd (All-head (λ a. ¬ (P a)) a xs h (subst P same q)))
one_cut P (a ∷ xs) (b ∷ us) x u ys vs h p k q e =
    let same : a ≡ b = cc in
    let rest : xs ++ x ∷ ys ≡ us ++ u ∷ vs = cc in
    let c : SameCut xs us x u ys vs = one_cut P xs us x u ys vs (All-tail (λ a. ¬ (P a)) a xs h) p (All-tail (λ a. ¬ (P a)) b us k) q rest in
    record { before = (let tails : xs ≡ us = c.before in cc); at = c.at; behind = c.behind }

fronts : {A : Type 0} (x y xs ys : List A) → length x ≡ length y → x ++ xs ≡ y ++ ys → (x ≡ y) × (xs ≡ ys)
fronts x y xs ys n e = (
  sym (take-append_seam x xs) ∙ (ap (λ (l : List _). take (length x) l) e ∙ (ap (λ k. take k (y ++ ys)) n ∙ take-append_seam y ys)),
  sym (drop-append_seam x xs) ∙ (ap (λ (l : List _). drop (length x) l) e ∙ (ap (λ k. drop k (y ++ ys)) n ∙ drop-append_seam y ys)),
)

-- ---- numbers
number_once : (w : List ℕ) (m n : ℕ) → IsNumber w m → IsNumber w n → m ≡ n
number_once w m n h k = h.value ∙ sym k.value

numbers_once : (ws : List (List ℕ)) (ms ns : List ℕ) → AllZip IsNumber ws ms → AllZip IsNumber ws ns → ms ≡ ns
numbers_once [] [] [] h k = refl
numbers_once [] [] (n ∷ ns) h k = absurd k
numbers_once [] (m ∷ ms) ns h k = absurd h
numbers_once (w ∷ ws) [] ns h k = absurd h
numbers_once (w ∷ ws) (m ∷ ms) [] h k = absurd k
numbers_once (w ∷ ws) (m ∷ ms) (n ∷ ns) h k = ap (λ (x : ℕ). x ∷ ms) (number_once w m n h.0 k.0) ∙ ap (λ (l : List ℕ). n ∷ l) (numbers_once ws ms ns h.1 k.1)

-- what a word of digits spells, where its first byte is no sign
digits_spell : (b : ℕ) (w : List ℕ) (p q : Bool) → p ≡ false → q ≡ false → pos (number (b ∷ w)) ≡ (if q then neg_ℤ (pos (number (cond (p || q) w (b ∷ w)))) else pos (number (cond (p || q) w (b ∷ w))))
digits_spell b w false false e f = refl
digits_spell b w true q e f = cc
digits_spell b w false true e f = cc

digit_no_sign : (b c : ℕ) → IsDigit b → c < 48 → (b == c) ≡ false
digit_no_sign b c d less = not_same b c (λ e. (let low = d.0 in omega (arith, low, less, e)))

whole_spells : (w : List ℕ) (n : ℕ) → IsNumber w n → pos n ≡ integer w
whole_spells [] n h = (let some = h.some in absurd (omega (arith, some)))
whole_spells (b ∷ w) n h =
    let d : IsDigit b = All-head IsDigit b w h.digits in
    ap pos h.value ∙ digits_spell b w (b == 43) (b == 45) (digit_no_sign b 43 d (omega arith)) (digit_no_sign b 45 d (omega arith))

integer_spells : (w : List ℕ) (z : ℤ) → IsInteger w z → z ≡ integer w
integer_spells w z (whole v n h) = whole_spells v n h
integer_spells w z (plus v n h) = ap pos h.value
integer_spells w z (minus v n h) = ap (λ (k : ℕ). neg_ℤ (pos k)) h.value

integer_once : (w : List ℕ) (y z : ℤ) → IsInteger w y → IsInteger w z → y ≡ z
integer_once w y z h k = integer_spells w y h ∙ sym (integer_spells w z k)

-- there is no slash in it
abbrev HasNoSlash : List ℕ → Type 0
HasNoSlash w = All (λ (b : ℕ). ¬ (b ≡ 47)) w

digits_no_slash : (w : List ℕ) → All IsDigit w → HasNoSlash w
digits_no_slash w h = All-weaker IsDigit (λ (b : ℕ). ¬ (b ≡ 47)) (λ b d e. (let low = d.0 in absurd (omega (arith, low, e)))) w h

integer_no_slash : (w : List ℕ) (z : ℤ) → IsInteger w z → HasNoSlash w
integer_no_slash w z (whole v n h) = digits_no_slash v h.digits
integer_no_slash w z (plus v n h) = All-cons (λ (b : ℕ). ¬ (b ≡ 47)) 43 v (λ e. absurd (omega (arith, e))) (digits_no_slash v h.digits)
integer_no_slash w z (minus v n h) = All-cons (λ (b : ℕ). ¬ (b ≡ 47)) 45 v (λ e. absurd (omega (arith, e))) (digits_no_slash v h.digits)

-- an integer, or an integer, a slash and digits
record IsOver (t : List ℕ) (z : ℤ) (d : ℕ) : Type 0 where
  above : List ℕ
  below : List ℕ
  is : t ≡ above ++ 47 ∷ below
  above_is : IsInteger above z
  below_is : IsNumber below d
  positive : 0 < d

parts : (t : List ℕ) (z : ℤ) (d : ℕ) → IsFraction t z d → (IsInteger t z × (d ≡ 1)) ⊎ IsOver t z d
parts t z d (integer_word w y h) = inl (h, refl)
parts t z d (fraction w u y n h k some) = inr (record { above = w; below = u; is = refl; above_is = h; below_is = k; positive = some })

no_slash_in : (t u v : List ℕ) → HasNoSlash t → t ≡ u ++ 47 ∷ v → ⊥
no_slash_in t u v h e = All-head (λ (b : ℕ). ¬ (b ≡ 47)) 47 v (All-right (λ (b : ℕ). ¬ (b ≡ 47)) u (47 ∷ v) (subst HasNoSlash e h)) refl

fraction_once : (t : List ℕ) (y z : ℤ) (c d : ℕ) → IsFraction t y c → IsFraction t z d → (y ≡ z) × (c ≡ d)
fraction_once t y z c d h k = by (parts t y c h) (parts t z d k)
  where
    by : (IsInteger t y × (c ≡ 1)) ⊎ IsOver t y c → (IsInteger t z × (d ≡ 1)) ⊎ IsOver t z d → (y ≡ z) × (c ≡ d)
    by (inl a) (inl b) = (integer_once t y z a.0 b.0, a.1 ∙ sym b.1)
    by (inl a) (inr o) = absurd (no_slash_in t o.above o.below (integer_no_slash t y a.0) o.is)
    by (inr o) (inl a) = absurd (no_slash_in t o.above o.below (integer_no_slash t z a.0) o.is)
    by (inr o) (inr q) =
        let cut = one_cut (λ (b : ℕ). b ≡ 47) o.above q.above 47 47 o.below q.below (integer_no_slash o.above y o.above_is) refl (integer_no_slash q.above z q.above_is) refl (sym o.is ∙ q.is) in
        (integer_once q.above y z (subst (λ (w : List ℕ). IsInteger w y) cut.before o.above_is) q.above_is, number_once q.below c d (subst (λ (w : List ℕ). IsNumber w c) cut.behind o.below_is) q.below_is)

fraction_positive : (t : List ℕ) (z : ℤ) (d : ℕ) → IsFraction t z d → 0 < d
fraction_positive t z d h = by (parts t z d h)
  where
    by : (IsInteger t z × (d ≡ 1)) ⊎ IsOver t z d → 0 < d
    by (inl a) = (let e = a.1 in omega (arith, e))
    by (inr o) = o.positive

-- ---- rows
-- positive multiples of both are equal
record IsSameRow (u w : List ℤ) : Type 0 where
  left : ℕ
  right : ℕ
  left_positive : 0 < left
  right_positive : 0 < right
  same : scale (pos left) u ≡ scale (pos right) w

cancelled : (d x y : ℤ) → pos 0 <ℤ d → d *ℤ x ≡ d *ℤ y → x ≡ y
cancelled d x y positive e =
    let a : d *ℤ (x +ℤ neg_ℤ y) ≡ d *ℤ x +ℤ d *ℤ neg_ℤ y = mul-add d x (neg_ℤ y) in
    let b : d *ℤ neg_ℤ y ≡ neg_ℤ (d *ℤ y) = mul-neg d y in
    let none : x +ℤ neg_ℤ y ≡ pos 0 = zero_of_mul d (x +ℤ neg_ℤ y) positive (omega (arith, ints, a, b, e)) in
    omega (arith, ints, none)

crossed : (l m k r a b n d : ℤ) → pos 0 <ℤ d → l *ℤ a *ℤ d ≡ r *ℤ n → k *ℤ b *ℤ d ≡ m *ℤ n → (l *ℤ m) *ℤ a ≡ (k *ℤ r) *ℤ b
crossed l m k r a b n d positive e f =
    let first : d *ℤ ((l *ℤ m) *ℤ a) ≡ m *ℤ (l *ℤ a *ℤ d) = simp ring (omega (arith, ints)) in
    let second : d *ℤ ((k *ℤ r) *ℤ b) ≡ r *ℤ (k *ℤ b *ℤ d) = simp ring (omega (arith, ints)) in
    cancelled d ((l *ℤ m) *ℤ a) ((k *ℤ r) *ℤ b) positive
    (first ∙ (ap (λ (t : ℤ). m *ℤ t) e ∙ (mul_left_comm m r n ∙ (sym (ap (λ (t : ℤ). r *ℤ t) f) ∙ sym second))))

positive_of : (d : ℕ) → 0 < d → pos 0 <ℤ pos d
positive_of d h = omega (arith, ints, h)

entries_same : (l r k m : ℕ) (ws : List (List ℕ)) (u w : List ℤ) → AllZip (IsTimes l r) ws u → AllZip (IsTimes k m) ws w → scale (pos (l * m)) u ≡ scale (pos (k * r)) w
entries_same l r k m [] [] [] h i = refl
entries_same l r k m [] [] (b ∷ w) h i = absurd i
entries_same l r k m [] (a ∷ u) w h i = absurd h
entries_same l r k m (t ∷ ws) [] w h i = absurd h
entries_same l r k m (t ∷ ws) (a ∷ u) [] h i = absurd i
entries_same l r k m (t ∷ ws) (a ∷ u) (b ∷ w) ((y, c, is, e), h) ((z, d, is_too, f), i) =
    let same = fraction_once t y z c d is is_too in
    let g : pos k *ℤ b *ℤ pos c ≡ pos m *ℤ y = subst (λ (n : ℕ). pos k *ℤ b *ℤ pos n ≡ pos m *ℤ y) (sym same.1) (subst (λ (x : ℤ). pos k *ℤ b *ℤ pos d ≡ pos m *ℤ x) (sym same.0) f) in
    let here : pos (l * m) *ℤ a ≡ pos (k * r) *ℤ b = crossed (pos l) (pos m) (pos k) (pos r) a b y (pos c) (positive_of c (fraction_positive t y c is)) e g in
    ap (λ (x : ℤ). x ∷ scale (pos (l * m)) u) here ∙ ap (λ (x : List ℤ). (pos (k * r) *ℤ b) ∷ x) (entries_same l r k m ws u w h i)

times_positive : (m n : ℕ) → 0 < m → 0 < n → 0 < m * n
times_positive m n h k = let both : pos 0 <ℤ pos (m * n) = mul-positive (pos m) (pos n) (positive_of m h) (positive_of n k) in omega (arith, ints, both)

numbers_same : (words : List (List ℕ)) (u w : List ℤ) → AreNumbersOf words u → AreNumbersOf words w → IsSameRow u w
numbers_same words u w h k =
    let both : h.first ∷ h.others ≡ k.first ∷ k.others = sym h.words_are ∙ k.words_are in
    let front : h.first ≡ k.first = cc in
    let behind : h.others ≡ k.others = cc in
    let turned : h.others ++ h.first ∷ [] ≡ k.others ++ k.first ∷ [] = ap (λ (l : List (List ℕ)). l ++ h.first ∷ []) behind ∙ ap (λ (w : List ℕ). k.others ++ w ∷ []) front in
    record {
      left = h.left * k.right;
      right = k.left * h.right;
      left_positive = times_positive h.left k.right h.left_positive k.right_positive;
      right_positive = times_positive k.left h.right k.left_positive h.right_positive;
      same = entries_same h.left h.right k.left k.right (h.others ++ h.first ∷ []) u w h.each (subst (λ (ws : List (List ℕ)). AllZip (IsTimes k.left k.right) ws w) (sym turned) k.each);
    }

-- ---- constraints
scaled_dot : (k : ℤ) (u v : List ℤ) → dot (scale k u) v ≡ k *ℤ dot u v
scaled_dot k u v = dot_comm (scale k u) v ∙ (dot-scale v k u ∙ ap (λ (z : ℤ). k *ℤ z) (dot_comm v u))

allowed_to : (kind : ConKind) (l r x y : ℤ) → pos 0 <ℤ l → pos 0 <ℤ r → l *ℤ x ≡ r *ℤ y → Allows kind x → Allows kind y
allowed_to Eq l r x y h k e is = zero_of_mul r y k (sym e ∙ (ap (λ (z : ℤ). l *ℤ z) is ∙ mul-zero l))
allowed_to Ge l r x y h k e is = at_least_zero_of_mul r y k (subst (λ (z : ℤ). pos 0 ≤ℤ z) e (mul-at_least_zero l x (omega (arith, ints, h)) is))
allowed_to Gt l r x y h k e is = positive_of_mul r y k (subst (λ (z : ℤ). pos 0 <ℤ z) e (mul-positive l x h is))

row_to : (marked : Bool) (words : List (List ℕ)) (c d : Constraint) (v : List ℤ) → IsRowOf marked words c → IsRowOf marked words d → Satisfies v c → Satisfies v d
row_to marked words c d v h k is =
    let s = numbers_same words c.0 d.0 h.0 k.0 in
    let kinds : c.1 ≡ d.1 = h.1 ∙ sym k.1 in
    allowed_to d.1 (pos s.left) (pos s.right) (dot c.0 v) (dot d.0 v) (positive_of s.left s.left_positive) (positive_of s.right s.right_positive)
    (sym (scaled_dot (pos s.left) c.0 v) ∙ (ap (λ (row : List ℤ). dot row v) s.same ∙ scaled_dot (pos s.right) d.0 v)) (subst (λ (kind : ConKind). Allows kind (dot c.0 v)) kinds is)

rows_to : (is : List ℕ) (i : ℕ) (rows : List (List (List ℕ))) (cs ds : List Constraint) (v : List ℤ) → AreRows IsRowOf is i rows cs → AreRows IsRowOf is i rows ds → All (Satisfies v) cs → All (Satisfies v) ds
rows_to is i [] cs ds v h k holds = subst (λ (l : List Constraint). All (Satisfies v) l) (sym k) (All-nil (Satisfies v))
rows_to is i (row ∷ rows) [] ds v h k holds = absurd h
rows_to is i (row ∷ rows) (c ∷ cs) [] v h k holds = absurd k
rows_to is i (row ∷ rows) (c ∷ cs) (d ∷ ds) v h k holds =
    All-cons (Satisfies v) d ds (row_to (list_any (λ n. n == i) is) row c d v h.0 k.0 (All-head (Satisfies v) c cs holds)) (rows_to is (i + 1) rows cs ds v h.1 k.1 (All-tail (Satisfies v) c cs holds))

one_ine : (is : List ℕ) (dim : ℕ) (rows : List (List (List ℕ))) (s t : PointSet) → AreIneRows is dim rows s → AreIneRows is dim rows t → AreSame s t
one_ine is dim rows s t a b =
    one_of false false dim dim (In (constraints dim a.list)) (In (constraints dim b.list)) s t refl refl (λ v point. (rows_to is 1 rows a.list b.list v a.say b.say, rows_to is 1 rows b.list a.list v b.say a.say)) a.set b.set

-- ---- generators
-- a multiple of a positive number isn't one of 0
not_both : (dim : ℕ) (u w : List ℤ) → IsSameRow u w → pos 0 <ℤ cell u dim → cell w dim ≡ pos 0 → ⊥
not_both dim u w s h k =
    let e : pos s.left *ℤ cell u dim ≡ pos s.right *ℤ cell w dim = sym (cell-scale (pos s.left) u dim) ∙ (ap (λ (v : List ℤ). cell v dim) s.same ∙ cell-scale (pos s.right) w dim) in
    let above : pos 0 <ℤ (pos s.left *ℤ cell u dim) = mul-positive (pos s.left) (cell u dim) (positive_of s.left s.left_positive) h in
    let none : pos s.right *ℤ cell w dim ≡ pos 0 = ap (λ (z : ℤ). pos s.right *ℤ z) k ∙ mul-zero (pos s.right) in
    omega (arith, ints, e, above, none)

-- the kinds of a row are told by its first number and its mark
same_kind : (dim : ℕ) (marked : Bool) (words : List (List ℕ)) (u w : List ℤ) (j k : GenKind) → IsVectorOf dim marked words (u, j) → IsVectorOf dim marked words (w, k) → IsSameRow u w × (j ≡ k)
same_kind dim marked words u w Point Point h k = (numbers_same words u w h.0 k.0, refl)
same_kind dim marked words u w Ray Ray h k = (numbers_same words u w h.0 k.0, refl)
same_kind dim marked words u w Line Line h k = (numbers_same words u w h.0 k.0, refl)
same_kind dim marked words u w Point Ray h k = absurd (not_both dim u w (numbers_same words u w h.0 k.0) h.1 k.1.0)
same_kind dim marked words u w Ray Point h k = absurd (not_both dim w u (numbers_same words w u k.0 h.0) k.1 h.1.0)
same_kind dim marked words u w Point Line h k = (let no : false ≡ true = sym h.2 ∙ k.2 in cc)
same_kind dim marked words u w Line Point h k = (let no : true ≡ false = sym h.2 ∙ k.2 in cc)
same_kind dim marked words u w Ray Line h k = (let no : false ≡ true = sym h.2 ∙ k.2 in cc)
same_kind dim marked words u w Line Ray h k = (let no : true ≡ false = sym h.2 ∙ k.2 in cc)
same_kind dim marked words u w ClosurePoint k h i = absurd h
same_kind dim marked words u w Point ClosurePoint h k = absurd k
same_kind dim marked words u w Ray ClosurePoint h k = absurd k
same_kind dim marked words u w Line ClosurePoint h k = absurd k

-- generators of which both are multiples
record HaveCommon (gs hs : List Generator) : Type 0 where
  list : List Generator
  first : AreRelated IsScaled list gs
  second : AreRelated IsScaled list hs

common_of : (dim : ℕ) (is : List ℕ) (i : ℕ) (rows : List (List (List ℕ))) (gs hs : List Generator) → AreRows (IsVectorOf dim) is i rows gs → AreRows (IsVectorOf dim) is i rows hs → HaveCommon gs hs
common_of dim is i [] gs hs h k = record { list = []; first = subst (λ (l : List Generator). AreRelated IsScaled [] l) (sym h) tt; second = subst (λ (l : List Generator). AreRelated IsScaled [] l) (sym k) tt }
common_of dim is i (row ∷ rows) [] hs h k = absurd h
common_of dim is i (row ∷ rows) (g ∷ gs) [] h k = absurd k
common_of dim is i (row ∷ rows) ((u, j) ∷ gs) ((w, l) ∷ hs) h k =
    let s = same_kind dim (list_any (λ n. n == i) is) row u w j l h.0 k.0 in
    let rest : HaveCommon gs hs = common_of dim is (i + 1) rows gs hs h.1 k.1 in
    record {
      list = (scale (pos s.0.left) u, j) ∷ rest.list;
      first = (record { multiple = record { times = s.0.left; positive = s.0.left_positive; same = refl }; kind = refl }, rest.first);
      second = (record { multiple = record { times = s.0.right; positive = s.0.right_positive; same = s.0.same }; kind = sym s.1 }, rest.second);
    }

-- the origin behind both
with_last : (g : Generator) (list gs : List Generator) → IsScaled g g → AreRelated IsScaled list gs → AreRelated IsScaled (list ++ g ∷ []) (gs ++ g ∷ [])
with_last g [] [] own h = (own, tt)
with_last g [] (x ∷ gs) own h = absurd h
with_last g (x ∷ list) [] own h = absurd h
with_last g (x ∷ list) (y ∷ gs) own h = (h.0, with_last g list gs own h.1)

related_kind : (list gs : List Generator) → AreRelated IsScaled list gs → (i : ℕ) → kind_at gs i ≡ kind_at list i
related_kind [] [] h i = refl
related_kind [] (g ∷ gs) h i = absurd h
related_kind (x ∷ list) [] h i = absurd h
related_kind (x ∷ list) (g ∷ gs) h zero = h.0.kind
related_kind (x ∷ list) (g ∷ gs) h (suc i) = related_kind list gs h.1 i

related_length : (list gs : List Generator) → AreRelated IsScaled list gs → length list ≡ length gs
related_length [] [] h = refl
related_length [] (g ∷ gs) h = absurd h
related_length (x ∷ list) [] h = absurd h
related_length (x ∷ list) (g ∷ gs) h = ap suc (related_length list gs h.1)

lacks_to : (gs hs : List Generator) → HaveCommon gs hs → LacksPoint gs → LacksPoint hs
lacks_to gs hs c lacks =
    let n : length gs ≡ length hs = sym (related_length c.list gs c.first) ∙ related_length c.list hs c.second in
    record {
      some = subst (λ (k : ℕ). 0 < k) n lacks.some;
      none = λ i less e. lacks.none i (subst (λ (k : ℕ). i < k) (sym n) less) (related_kind c.list gs c.first i ∙ (sym (related_kind c.list hs c.second i) ∙ e));
    }

flipped : (gs hs : List Generator) → HaveCommon gs hs → HaveCommon hs gs
flipped gs hs c = record { list = c.list; first = c.second; second = c.first }

abbrev origin : ℕ → Generator
origin dim = (at_column dim dim (pos 1), Point)

itself : (dim : ℕ) → IsScaled (origin dim) (origin dim)
itself dim = record { multiple = record { times = 1; positive = omega arith; same = one_times (at_column dim dim (pos 1)) }; kind = refl }
  where
    once : (z : ℤ) → z ≡ pos 1 *ℤ z
    once z = omega (arith, ints)

    one_times : (v : List ℤ) → v ≡ scale (pos 1) v
    one_times [] = refl
    one_times (z ∷ v) = ap (λ (y : ℤ). y ∷ v) (once z) ∙ ap (λ (u : List ℤ). (pos 1 *ℤ z) ∷ u) (one_times v)

origin_cases : (dim : ℕ) (gs all : List Generator) → WithOrigin dim gs all → (¬ (LacksPoint gs) × (all ≡ gs)) ⊎ (LacksPoint gs × (all ≡ gs ++ origin dim ∷ []))
origin_cases dim gs all (as_listed some) = inl (some, refl)
origin_cases dim gs all (with_origin lacks) = inr (lacks, refl)

common_all : (dim : ℕ) (gs hs all others : List Generator) → HaveCommon gs hs → WithOrigin dim gs all → WithOrigin dim hs others → HaveCommon all others
common_all dim gs hs all others c h k = by (origin_cases dim gs all h) (origin_cases dim hs others k)
  where
    by : (¬ (LacksPoint gs) × (all ≡ gs)) ⊎ (LacksPoint gs × (all ≡ gs ++ origin dim ∷ [])) → (¬ (LacksPoint hs) × (others ≡ hs)) ⊎ (LacksPoint hs × (others ≡ hs ++ origin dim ∷ [])) → HaveCommon all others
    by (inl a) (inl b) = record { list = c.list; first = subst (λ (l : List Generator). AreRelated IsScaled c.list l) (sym a.1) c.first; second = subst (λ (l : List Generator). AreRelated IsScaled c.list l) (sym b.1) c.second }
    by (inl a) (inr b) = absurd (a.0 (lacks_to hs gs (flipped gs hs c) b.0))
    by (inr a) (inl b) = absurd (b.0 (lacks_to gs hs c a.0))
    by (inr a) (inr b) = record {
      list = c.list ++ origin dim ∷ [];
      first = subst (λ (l : List Generator). AreRelated IsScaled (c.list ++ origin dim ∷ []) l) (sym a.1) (with_last (origin dim) c.list gs (itself dim) c.first);
      second = subst (λ (l : List Generator). AreRelated IsScaled (c.list ++ origin dim ∷ []) l) (sym b.1) (with_last (origin dim) c.list hs (itself dim) c.second);
    }

span_both : (dim : ℕ) (gs hs : List Generator) → HaveCommon gs hs → (v : List ℤ) → Span (generators dim gs) v ↔ Span (generators dim hs) v
span_both dim gs hs c v = via (scaled_span (generators dim c.list) (generators dim gs) c.first v) (turn (scaled_span (generators dim c.list) (generators dim hs) c.second v))

one_ext : (is : List ℕ) (dim : ℕ) (rows : List (List (List ℕ))) (s t : PointSet) → AreExtRows is dim rows s → AreExtRows is dim rows t → AreSame s t
one_ext is dim rows s t a b =
    one_of false false dim dim (Span (generators dim a.list)) (Span (generators dim b.list)) s t refl refl
    (λ v point. span_both dim a.list b.list (common_all dim a.listed b.listed a.list b.list (common_of dim is 1 rows a.listed b.listed a.say b.say) a.origin b.origin) v) a.set b.set

one_rows : (ext : Bool) (is : List ℕ) (dim : ℕ) (rows : List (List (List ℕ))) (s t : PointSet) → AreRowsOf ext is dim rows s → AreRowsOf ext is dim rows t → AreSame s t
one_rows false is dim rows s t a b = one_ine is dim rows s t a b
one_rows true is dim rows s t a b = one_ext is dim rows s t a b

-- ---- the lines of a file
marks_once : (head : List (List ℕ)) (ms ns : List ℕ) → HaveMarks head ms → HaveMarks head ns → ms ≡ ns
marks_once [] ms ns h k = h ∙ sym k
marks_once (line ∷ head) ms ns (inl h) (inl k) = marks_once head ms ns h.1 k.1
marks_once (line ∷ head) ms ns (inl h) (inr k) = absurd (h.0 (k.0.count ∷ k.0.numbers) k.0.words)
marks_once (line ∷ head) ms ns (inr h) (inl k) = absurd (k.0 (h.0.count ∷ h.0.numbers) h.0.words)
marks_once (line ∷ head) ms ns (inr h) (inr k) =
    let same : codes "linearity" ∷ h.0.count ∷ h.0.numbers ≡ codes "linearity" ∷ k.0.count ∷ k.0.numbers = sym h.0.words ∙ k.0.words in
    numbers_once k.0.numbers ms ns (subst (λ (ws : List (List ℕ)). AllZip IsNumber ws ms) (ap (λ (l : List (List ℕ)). drop 2 l) same) h.0.each) k.0.each

abbrev Rows : Type 0
Rows = List (List (List ℕ))

abbrev in_order : Rows → List (List ℕ)
in_order rows = flat_map (λ (row : List (List ℕ)). row) rows

rows_once : (c : ℕ) (rows others : Rows) → 0 < c → All (λ (row : List (List ℕ)). length row ≡ c) rows → All (λ (row : List (List ℕ)). length row ≡ c) others → in_order rows ≡ in_order others → rows ≡ others
rows_once c [] [] some h k e = refl
rows_once c [] (row ∷ others) some h k e =
    let wide : length row ≡ c = All-head (λ (row : List (List ℕ)). length row ≡ c) row others k in
    let none : 0 ≡ length (row ++ in_order others) = ap (λ (l : List (List ℕ)). length l) e in
    absurd (omega (arith, some, wide, none, length-append row (in_order others)))
rows_once c (row ∷ rows) [] some h k e =
    let wide : length row ≡ c = All-head (λ (row : List (List ℕ)). length row ≡ c) row rows h in
    let none : length (row ++ in_order rows) ≡ 0 = ap (λ (l : List (List ℕ)). length l) e in
    absurd (omega (arith, some, wide, none, length-append row (in_order rows)))
rows_once c (row ∷ rows) (other ∷ others) some h k e =
    let f = fronts row other (in_order rows) (in_order others) (All-head (λ (row : List (List ℕ)). length row ≡ c) row rows h ∙ sym (All-head (λ (row : List (List ℕ)). length row ≡ c) other others k)) e in
    ap (λ (x : List (List ℕ)). x ∷ rows) f.0 ∙ ap (λ (l : Rows). other ∷ l) (rows_once c rows others some (All-tail (λ (row : List (List ℕ)). length row ≡ c) row rows h) (All-tail (λ (row : List (List ℕ)). length row ≡ c) other others k) f.1)

record SameTable (c d : ℕ) (rows others : Rows) : Type 0 where
  columns : c ≡ d
  rows_are : rows ≡ others

one_table : (words : List (List ℕ)) (c d : ℕ) (rows others : Rows) → 0 < c → AreTableWords words c rows → AreTableWords words d others → SameTable c d rows others
one_table words c d rows others some h k =
    let same : h.m ∷ h.d ∷ h.type ∷ in_order rows ≡ k.m ∷ k.d ∷ k.type ∷ in_order others = sym h.is ∙ k.is in
    let second : h.d ≡ k.d = cc in
    let wide : c ≡ d = number_once k.d c d (subst (λ (w : List ℕ). IsNumber w c) second h.columns_counted) k.columns_counted in
    record {
      columns = wide;
      rows_are = rows_once c rows others some h.wide (subst (λ (n : ℕ). All (λ (row : List (List ℕ)). length row ≡ n) others) (sym wide) k.wide) (ap (λ (l : List (List ℕ)). drop 3 l) same);
    }

record SameFile (ms ns : List ℕ) (c d : ℕ) (rows others : Rows) : Type 0 where
  marks : ms ≡ ns
  table : SameTable c d rows others

-- no line before the end of a file ends it
unended : (ext : Bool) (bytes ms : List ℕ) (c : ℕ) (rows : Rows) → (f : IsFile ext bytes ms c rows) → All (λ line. ¬ (IsEnd line)) f.table
unended ext bytes ms c rows f = All-tail (λ line. ¬ (IsEnd line)) f.begin f.table (All-right (λ line. ¬ (IsEnd line)) f.head (f.begin ∷ f.table) (λ i d h. (f.each i d h).1))

one_file : (ext : Bool) (bytes ms ns : List ℕ) (c d : ℕ) (rows others : Rows) → 0 < c → IsFile ext bytes ms c rows → IsFile ext bytes ns d others → SameFile ms ns c d rows others
one_file ext bytes ms ns c d rows others some f g =
    let first = one_cut (IsOnly (codes "begin")) f.head g.head f.begin g.begin (f.table ++ f.end ∷ f.behind) (g.table ++ g.end ∷ g.behind) (λ i d h. (f.before i d h).0) f.begins (λ i d h. (g.before i d h).0) g.begins (sym f.cut ∙ g.cut) in
    let second = one_cut IsEnd f.table g.table f.end g.end f.behind g.behind (unended ext bytes ms c rows f) f.ends (unended ext bytes ns d others g) g.ends first.behind in
    record {
      marks = marks_once g.head ms ns (subst (λ (head : List (List ℕ)). HaveMarks head ms) first.before f.marks) g.marks;
      table = one_table (flat_map tokens g.table) c d rows others some (subst (λ (table : List (List ℕ)). AreTableWords (flat_map tokens table) c rows) second.before f.words) g.words;
    }

one_less : (m n : ℕ) → m + 1 ≡ n + 1 → m ≡ n
one_less m n e = omega (arith, e)

pub files_are_one : FilesAreOne
files_are_one ext bytes s t a b =
    let f = one_file ext bytes a.marked b.marked (a.dim + 1) (b.dim + 1) a.rows b.rows (omega arith) a.file b.file in
    let dims : a.dim ≡ b.dim = one_less a.dim b.dim f.table.columns in
    one_rows ext a.marked a.dim a.rows s t a.set
    (subst (λ (ms : List ℕ). AreRowsOf ext ms a.dim a.rows t) (sym f.marks)
    (subst (λ (n : ℕ). AreRowsOf ext b.marked n a.rows t) (sym dims) (subst (λ (rows : Rows). AreRowsOf ext b.marked b.dim rows t) (sym f.table.rows_are) b.set)))
