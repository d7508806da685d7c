-- Constraints with one more variable, and how it stands to an expression.
use Rattle.std.proofs.Common.{◌≡◌, ℕ, zero, suc, ◌+◌, ◌-◌, ◌<◌, ◌≤◌, List, [], ◌∷◌, ◌++◌, length, take, drop, ℤ, pos, neg_ℤ, ◌+ℤ◌, ◌*ℤ◌, ◌<ℤ◌, refl, sym, ap, ◌∙◌, subst, arith, All}
use Rattle.std.proofs.lemmas.Int.{ints}
use Rattle.std.proofs.lemmas.List.{length-take-le, get_or_append_left, get_or-append_right, get_or-take, get_or-drop}
use Rattle.std.proofs.lemmas.List.Elements.{All-nil, All-cons, All-head, All-append}
use Rattle.row_core.specs.Vectors.{cell, dot}
use Rattle.cone_laws.specs.Cones.{negated}
use Rattle.cone_laws.proofs.Ring.{ring, neg-mul}
use Rattle.cone_laws.proofs.Columns.{dot_comm, dot-negated, length-scale}
use Rattle.stored_systems.proofs.ListLemmas.{All-left, All-right}
use Rattle.cons_sys.specs.Kinds.{Allows}
use Rattle.cons_sys.specs.Constraints.{Constraints, In, Satisfies}
use Rattle.cons_sys.proofs.Signs.{same_sign, Allows-same_sign}
use Rattle.mapped_systems.specs.Maps.{without}
use Rattle.affine_maps.specs.declared.relations.ImageRel.{ImageRel}
use Rattle.affine_maps.specs.declared.relations.ImageRel.TheVariants.{Eq, Ge, Le, Gt, Lt}
use Rattle.affine_maps.specs.Relations.{Stands, with_entry, relation_row, relation_kind, IsExtended}
use Rattle.mapped_systems.proofs.PulledSets.{MeetsAt, pulled_holds, holds_pulled, stored_value, positive_times, one_times}

-- ---- a row with one more entry
nil_dot : (w : List ℤ) → dot w [] ≡ pos 0
nil_dot [] = refl
nil_dot (x ∷ w) = refl

later : (p a b c : ℤ) → a ≡ b +ℤ c → p +ℤ a ≡ (p +ℤ b) +ℤ c
later p a b c e = omega (arith, ints, e)

exchanged : (a b : ℤ) → a +ℤ b ≡ b +ℤ a
exchanged a b = omega (arith, ints)

entry_dot : (dim end : ℕ) (a : List ℤ) (e : ℤ) (u : List ℤ) → end ≡ dim + 1 → dim ≤ length a → dim < length u → dot (with_entry dim a e) u ≡ dot a (without dim end u) +ℤ e *ℤ cell u dim
entry_dot zero end a e [] s k h = absurd (omega (arith, h))
entry_dot zero end a e (y ∷ u) s k h = exchanged (e *ℤ y) (dot a u) ∙ ap (λ (n : ℕ). dot a (drop n (y ∷ u)) +ℤ e *ℤ y) (one_end end s)
  where
    one_end : (end : ℕ) → end ≡ 0 + 1 → 1 ≡ end
    one_end end s = omega (arith, s)
entry_dot (suc dim) zero a e u s k h = absurd (omega (arith, s))
entry_dot (suc dim) (suc end) [] e u s k h = absurd (omega (arith, k))
entry_dot (suc dim) (suc end) (x ∷ a) e [] s k h = absurd (omega (arith, h))
entry_dot (suc dim) (suc end) (x ∷ a) e (y ∷ u) s k h = later (x *ℤ y) (dot (with_entry dim a e) u) (dot a (without dim end u)) (e *ℤ cell u dim) (entry_dot dim end a e u (omega (arith, s)) (omega (arith, k)) (omega (arith, h)))

-- its value is that without the column, and the entry times that of the column
pub dot-with_entry : (dim : ℕ) (a : List ℤ) (e : ℤ) (u : List ℤ) → dim ≤ length a → dim < length u → dot (with_entry dim a e) u ≡ dot a (without dim (dim + 1) u) +ℤ e *ℤ cell u dim
dot-with_entry dim a e u k h = entry_dot dim (dim + 1) a e u refl k h

entry_left_out : (dim end : ℕ) (a : List ℤ) (e : ℤ) → end ≡ dim + 1 → dim ≤ length a → without dim end (with_entry dim a e) ≡ a
entry_left_out zero end a e s k = ap (λ (n : ℕ). drop n (e ∷ a)) (one_end end s)
  where
    one_end : (end : ℕ) → end ≡ 0 + 1 → end ≡ 1
    one_end end s = omega (arith, s)
entry_left_out (suc dim) zero a e s k = absurd (omega (arith, s))
entry_left_out (suc dim) (suc end) [] e s k = absurd (omega (arith, k))
entry_left_out (suc dim) (suc end) (x ∷ a) e s k = ap (λ (w : List ℤ). x ∷ w) (entry_left_out dim end a e (omega (arith, s)) (omega (arith, k)))

pub without-with_entry : (dim : ℕ) (a : List ℤ) (e : ℤ) → dim ≤ length a → without dim (dim + 1) (with_entry dim a e) ≡ a
without-with_entry dim a e k = entry_left_out dim (dim + 1) a e refl k

pub cell-with_entry : (dim : ℕ) (a : List ℤ) (e : ℤ) → dim ≤ length a → cell (with_entry dim a e) dim ≡ e
cell-with_entry zero a e k = refl
cell-with_entry (suc dim) [] e k = absurd (omega (arith, k))
cell-with_entry (suc dim) (x ∷ a) e k = cell-with_entry dim a e (omega (arith, k))

pub length-with_entry : (dim : ℕ) (a : List ℤ) (e : ℤ) → dim ≤ length a → length (with_entry dim a e) ≡ length a + 1
length-with_entry zero a e k = omega arith
length-with_entry (suc dim) [] e k = absurd (omega (arith, k))
length-with_entry (suc dim) (x ∷ a) e k = let r = length-with_entry dim a e (omega (arith, k)) in omega (arith, r)

pub cell_before : (dim : ℕ) (u : List ℤ) (j : ℕ) → dim ≤ length u → j < dim → cell (without dim (dim + 1) u) j ≡ cell u j
cell_before dim u j k h =
    let e = length-take-le dim u k in
    get_or_append_left (take dim u) (drop (dim + 1) u) (pos 0) j (omega (arith, e, h)) ∙ get_or-take dim u j (pos 0) h

pub cell_last : (dim : ℕ) (u : List ℤ) → dim ≤ length u → cell (without dim (dim + 1) u) dim ≡ cell u (dim + 1)
cell_last dim u k =
    get_or-append_right (take dim u) (drop (dim + 1) u) dim dim (pos 0) (length-take-le dim u k) (omega arith)
    ∙ get_or-drop (dim + 1) u (dim - dim) (pos 0) ∙ ap (cell u) (omega arith)

-- ---- how the new variable stands
-- the value of the relation's row, by that of the expression and of the variable
abbrev pub relation_value : ImageRel → ℤ → ℤ → ℤ
relation_value Eq x y = x +ℤ neg_ℤ y
relation_value Ge x y = neg_ℤ x +ℤ y
relation_value Le x y = x +ℤ neg_ℤ y
relation_value Gt x y = neg_ℤ x +ℤ y
relation_value Lt x y = x +ℤ neg_ℤ y

value_by : (x d w r : ℤ) → r ≡ x +ℤ neg_ℤ d *ℤ w → r ≡ x +ℤ neg_ℤ (d *ℤ w)
value_by x d w r e = e ∙ ap (λ (z : ℤ). x +ℤ z) (neg-mul d w)

negated_length : (a : List ℤ) → length (negated a) ≡ length a
negated_length a = length-scale (neg_ℤ (pos 1)) a

negated_dot : (a v : List ℤ) → dot (negated a) v ≡ neg_ℤ (dot a v)
negated_dot a v = dot_comm (negated a) v ∙ dot-negated v a ∙ ap neg_ℤ (dot_comm v a)

pub relation_is : (rel : ImageRel) (dim : ℕ) (expr : List ℤ) (den : ℤ) (u : List ℤ) → dim ≤ length expr → dim < length u → dot (relation_row rel dim expr den) u ≡ relation_value rel (dot expr (without dim (dim + 1) u)) (den *ℤ cell u dim)
relation_is Eq dim expr den u k h = value_by (dot expr (without dim (dim + 1) u)) den (cell u dim) (dot (relation_row Eq dim expr den) u) (dot-with_entry dim expr (neg_ℤ den) u k h)
relation_is Ge dim expr den u k h = dot-with_entry dim (negated expr) den u (omega (arith, k, negated_length expr)) h ∙ ap (λ (z : ℤ). z +ℤ den *ℤ cell u dim) (negated_dot expr (without dim (dim + 1) u))
relation_is Le dim expr den u k h = value_by (dot expr (without dim (dim + 1) u)) den (cell u dim) (dot (relation_row Le dim expr den) u) (dot-with_entry dim expr (neg_ℤ den) u k h)
relation_is Gt dim expr den u k h = dot-with_entry dim (negated expr) den u (omega (arith, k, negated_length expr)) h ∙ ap (λ (z : ℤ). z +ℤ den *ℤ cell u dim) (negated_dot expr (without dim (dim + 1) u))
relation_is Lt dim expr den u k h = value_by (dot expr (without dim (dim + 1) u)) den (cell u dim) (dot (relation_row Lt dim expr den) u) (dot-with_entry dim expr (neg_ℤ den) u k h)

-- the row is as its kind asks exactly where the variable's part stands in the relation to the expression's
pub stands_allowed : (rel : ImageRel) (x y : ℤ) → Stands rel y x → Allows (relation_kind rel) (relation_value rel x y)
stands_allowed Eq x y h = omega (arith, ints, h)
stands_allowed Ge x y h = omega (arith, ints, h)
stands_allowed Le x y h = omega (arith, ints, h)
stands_allowed Gt x y h = omega (arith, ints, h)
stands_allowed Lt x y h = omega (arith, ints, h)

pub allowed_stands : (rel : ImageRel) (x y : ℤ) → Allows (relation_kind rel) (relation_value rel x y) → Stands rel y x
allowed_stands Eq x y h = omega (arith, ints, h)
allowed_stands Ge x y h = omega (arith, ints, h)
allowed_stands Le x y h = omega (arith, ints, h)
allowed_stands Gt x y h = omega (arith, ints, h)
allowed_stands Lt x y h = omega (arith, ints, h)

-- a positive multiple of both numbers stands as they do
scaled_value : (rel : ImageRel) (t x y : ℤ) → t *ℤ relation_value rel x y ≡ relation_value rel (t *ℤ x) (t *ℤ y)
scaled_value Eq t x y = simp ring (omega (arith, ints))
scaled_value Ge t x y = simp ring (omega (arith, ints))
scaled_value Le t x y = simp ring (omega (arith, ints))
scaled_value Gt t x y = simp ring (omega (arith, ints))
scaled_value Lt t x y = simp ring (omega (arith, ints))

pub stands_scaled : (rel : ImageRel) (s t x y z w : ℤ) → pos 0 <ℤ s → pos 0 <ℤ t → s *ℤ y ≡ t *ℤ w → s *ℤ x ≡ t *ℤ z → Stands rel y x → Stands rel w z
stands_scaled rel s t x y z w p q e f h =
    allowed_stands rel z w
    (Allows-same_sign (relation_kind rel) (relation_value rel x y) (relation_value rel z w)
    (same_sign s t (relation_value rel x y) (relation_value rel z w) p q
    (scaled_value rel s x y ∙ ap (λ (n : ℤ). relation_value rel n (s *ℤ y)) f ∙ ap (relation_value rel (t *ℤ z)) e ∙ sym (scaled_value rel t z w)))
    (stands_allowed rel x y h))

-- ---- the extended constraints
module _ (h k : List ℤ → List ℤ) (rel : ImageRel) (expr : List ℤ) (den : ℤ) (cs extended : Constraints) (is : IsExtended h rel expr den cs extended) (u : List ℤ) (meets : All (MeetsAt h k u) cs.list) (expr_wide : cs.dim ≤ length expr) (u_wide : cs.dim < length u) where
  new_row : dot (relation_row rel cs.dim expr den) u ≡ relation_value rel (dot expr (without cs.dim (cs.dim + 1) u)) (den *ℤ cell u cs.dim)
  new_row = relation_is rel cs.dim expr den u expr_wide u_wide

  all_hold : In extended u → All (Satisfies u) (is.front ++ (is.stored, relation_kind rel) ∷ [])
  all_hold a = subst (All (Satisfies u)) is.joined a

  pub extended_holds : In extended u → In cs (k u)
  extended_holds a = pulled_holds h k u cs.list is.front is.pulled meets (All-left (Satisfies u) is.front ((is.stored, relation_kind rel) ∷ []) (all_hold a))

  pub extended_stands : In extended u → Stands rel (den *ℤ cell u cs.dim) (dot expr (without cs.dim (cs.dim + 1) u))
  extended_stands a =
      allowed_stands rel (dot expr (without cs.dim (cs.dim + 1) u)) (den *ℤ cell u cs.dim)
      (subst (Allows (relation_kind rel)) new_row
      (Allows-same_sign (relation_kind rel) (dot is.stored u) (dot (relation_row rel cs.dim expr den) u)
      (same_sign (pos is.primitive.multiple.times) (pos 1) (dot is.stored u) (dot (relation_row rel cs.dim expr den) u) (positive_times is.primitive.multiple.times is.primitive.multiple.positive) (omega (arith, ints)) (one_times (pos is.primitive.multiple.times *ℤ dot is.stored u) (dot (relation_row rel cs.dim expr den) u) (sym (stored_value (relation_row rel cs.dim expr den) is.stored u is.primitive))))
      (All-head (Satisfies u) (is.stored, relation_kind rel) [] (All-right (Satisfies u) is.front ((is.stored, relation_kind rel) ∷ []) (all_hold a)))))

  pub holds_extended : In cs (k u) → Stands rel (den *ℤ cell u cs.dim) (dot expr (without cs.dim (cs.dim + 1) u)) → In extended u
  holds_extended a s =
      subst (All (Satisfies u)) (sym is.joined)
      (All-append (Satisfies u) is.front ((is.stored, relation_kind rel) ∷ []) (holds_pulled h k u cs.list is.front is.pulled meets a)
      (All-cons (Satisfies u) (is.stored, relation_kind rel) [] new_holds (All-nil (Satisfies u))))
    where
      new_holds : Allows (relation_kind rel) (dot is.stored u)
      new_holds =
          Allows-same_sign (relation_kind rel) (dot (relation_row rel cs.dim expr den) u) (dot is.stored u)
          (same_sign (pos 1) (pos is.primitive.multiple.times) (dot (relation_row rel cs.dim expr den) u) (dot is.stored u) (omega (arith, ints)) (positive_times is.primitive.multiple.times is.primitive.multiple.positive) (sym (one_times (pos is.primitive.multiple.times *ℤ dot is.stored u) (dot (relation_row rel cs.dim expr den) u) (sym (stored_value (relation_row rel cs.dim expr den) is.stored u is.primitive)))))
          (subst (Allows (relation_kind rel)) (sym new_row) (stands_allowed rel (dot expr (without cs.dim (cs.dim + 1) u)) (den *ℤ cell u cs.dim) s))
