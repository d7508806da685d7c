-- The parts of a piece.
use Rattle.std.proofs.Common.{◌≡◌, ◌⊎◌, inl, inr, ℕ, suc, ◌+◌, ◌-◌, ◌*◌, ◌<◌, ◌≤◌, List, [], ◌∷◌, ◌++◌, length, take, drop, slice_get, Option, Some, None, ℤ, refl, sym, ◌∙◌, subst, ap, append_assoc, append-nil, arith}
use Rattle.std.specs.Prelude.{All, Contains}
use Rattle.std.proofs.Math.Seq.{take-length, drop-cons}
use Rattle.std.proofs.lemmas.List.{take_more}
use Rattle.std.proofs.lemmas.Option.{slice_get_within, get_or_from_slice_get}
use Rattle.std.proofs.lemmas.List.Elements.{All-head, All-push, All-more, Contains-append_left, Contains-push}
use Rattle.row_core.specs.Points.{IsPoint}
use Rattle.cons_sys.specs.declared.kind.ConKind.TheVariants.{Eq}
use Rattle.cons_sys.specs.Constraints.{Constraint, Constraints, constraint_at, Satisfies, In}
use Rattle.cover_search.specs.declared.pieces.Piece.{Piece}
use Rattle.cover_search.specs.Inequalities.{AreInequalities, complement}
use Rattle.cover_search.specs.Branches.{choice, IsBranch, chooses, HoldsInSome}
use Rattle.cover_search.specs.Pieces.{inner_part, outer_part, IsInner, ended, goes_on, IsSplit, within, outer_alone, inner_alone, both, front_of, IsRowOf, IsPiece, IsInSome, still, all_still}
use Rattle.cover_search.proofs.InequalityLemmas.{all_right, holds_or_complement}

pub listed_at : {X : Type 0} (xs : List X) (k : ℕ) (x : X) → slice_get xs k ≡ Some x → Contains xs x
listed_at xs k x e = (k, slice_get_within xs k x e, get_or_from_slice_get xs k x x e)

pub no_front : (o : Option Constraints) → front_of o 0 ≡ []
no_front None = refl
no_front (Some rows) = refl

pub no_row : (o : Option Constraints) → IsRowOf o 0
no_row None = refl
no_row (Some rows) = omega arith

-- ---- the parts are pieces
module _ (first : Constraints) (systems : List Constraints) (piece : Piece) (rows : Constraints) (p : IsPiece first systems piece) (at : slice_get systems piece.passed ≡ Some rows) where
  -- the constraints of the piece, with the inequalities of the next system
  pub list_at : piece.region.list ≡ p.list ++ take piece.row rows.list
  list_at = subst (λ (o : Option Constraints). piece.region.list ≡ p.list ++ front_of o piece.row) at p.joined

  -- the list of the outer part is that of a branch
  pub outer_list : (outer_part rows piece).region.list ≡ p.list ++ choice rows.list piece.row
  outer_list = ap (λ (xs : List Constraint). xs ++ complement (constraint_at rows.list piece.row) ∷ []) list_at ∙ append_assoc p.list (take piece.row rows.list) (complement (constraint_at rows.list piece.row) ∷ [])

  pub outer_branch : piece.row < length rows.list → IsBranch first.list systems (piece.passed + 1) (p.list ++ choice rows.list piece.row)
  outer_branch below = chooses rows piece.row p.branch at below

  pub outer_piece : piece.row < length rows.list → IsPiece first systems (outer_part rows piece)
  outer_piece below = record {
    same_dim = p.same_dim;
    passed = omega (arith, slice_get_within systems piece.passed rows at);
    row = no_row (slice_get systems (piece.passed + 1));
    list = p.list ++ choice rows.list piece.row;
    branch = outer_branch below;
    joined = outer_list ∙ sym (append-nil (p.list ++ choice rows.list piece.row)) ∙ ap (λ (xs : List Constraint). (p.list ++ choice rows.list piece.row) ++ xs) (sym (no_front (slice_get systems (piece.passed + 1))));
  }

  pub inner_list : piece.row < length rows.list → (inner_part rows piece).region.list ≡ p.list ++ take (piece.row + 1) rows.list
  inner_list below =
      ap (λ (xs : List Constraint). xs ++ constraint_at rows.list piece.row ∷ []) list_at
      ∙ append_assoc p.list (take piece.row rows.list) (constraint_at rows.list piece.row ∷ [])
      ∙ ap (λ (xs : List Constraint). p.list ++ xs) (sym (take_more rows.list piece.row ([], Eq) below))

  pub inner_piece : piece.row < length rows.list → IsPiece first systems (inner_part rows piece)
  inner_piece below = record {
    same_dim = p.same_dim;
    passed = p.passed;
    row = subst (λ (o : Option Constraints). IsRowOf o (piece.row + 1)) (sym at) (omega arith);
    list = p.list;
    branch = p.branch;
    joined = subst (λ (o : Option Constraints). (inner_part rows piece).region.list ≡ p.list ++ front_of o (piece.row + 1)) (sym at) (inner_list below);
  }

  inner_pieces : piece.row < length rows.list → (old : List Piece) {new : List Piece} → IsInner rows piece old new → All (IsPiece first systems) old → All (IsPiece first systems) new
  inner_pieces below old (ended e) h = h
  inner_pieces below old (goes_on l) h = All-push (IsPiece first systems) old (inner_part rows piece) h (inner_piece below)

  pub split_pieces : (old : List Piece) {new : List Piece} → IsSplit rows piece old new → All (IsPiece first systems) old → All (IsPiece first systems) new
  split_pieces old (within e) h = h
  split_pieces old (outer_alone below n) h = All-push (IsPiece first systems) old (outer_part rows piece) h (outer_piece below)
  split_pieces old (inner_alone below n i) h = inner_pieces below old i h
  split_pieces old (both {middle} below i) h = All-push (IsPiece first systems) middle (outer_part rows piece) (inner_pieces below old i h) (outer_piece below)

  -- ---- their points
  module _ (proper : AreInequalities rows) (v : List ℤ) (pt : IsPoint piece.region.dim v) (h : In piece.region v) where
    -- the first inequalities of the next system hold at a point of the piece
    front : All (Satisfies v) (take piece.row rows.list)
    front = all_right (Satisfies v) p.list (take piece.row rows.list) (subst (λ (xs : List Constraint). All (Satisfies v) xs) list_at h)

    -- a point at which so many hold as there are is in the system
    in_system : (n : ℕ) → n ≡ length rows.list → All (Satisfies v) (take n rows.list) → HoldsInSome systems v
    in_system n e all = record {
      system = rows;
      listed = listed_at systems piece.passed rows at;
      holds = subst (λ (xs : List Constraint). All (Satisfies v) xs) (subst (λ (m : ℕ). take m rows.list ≡ rows.list) (sym e) (take-length rows.list)) all;
    }

    -- one more holds there, or its complement does
    next : piece.row < length rows.list → All (Satisfies v) (take (piece.row + 1) rows.list) ⊎ Satisfies v (complement (constraint_at rows.list piece.row))
    next below = by_case (holds_or_complement (constraint_at rows.list piece.row) v (proper piece.row ([], Eq) below))
      where
        by_case : Satisfies v (constraint_at rows.list piece.row) ⊎ Satisfies v (complement (constraint_at rows.list piece.row)) → All (Satisfies v) (take (piece.row + 1) rows.list) ⊎ Satisfies v (complement (constraint_at rows.list piece.row))
        by_case (inl one) = inl (All-more (Satisfies v) rows.list piece.row ([], Eq) below front one)
        by_case (inr not_one) = inr not_one

    in_outer : Satisfies v (complement (constraint_at rows.list piece.row)) → In (outer_part rows piece).region v
    in_outer c = All-push (Satisfies v) piece.region.list (complement (constraint_at rows.list piece.row)) h c

    in_inner : piece.row < length rows.list → All (Satisfies v) (take (piece.row + 1) rows.list) → In (inner_part rows piece).region v
    in_inner below all = All-push (Satisfies v) piece.region.list (constraint_at rows.list piece.row) h
        (All-head (Satisfies v) (constraint_at rows.list piece.row) [] (all_right (Satisfies v) (take piece.row rows.list) (constraint_at rows.list piece.row ∷ []) (subst (λ (xs : List Constraint). All (Satisfies v) xs) (take_more rows.list piece.row ([], Eq) below) all)))

    -- where it holds, the point is in the system or in the inner part
    told_inner : piece.row < length rows.list → (old : List Piece) {new : List Piece} → IsInner rows piece old new → All (Satisfies v) (take (piece.row + 1) rows.list) → HoldsInSome systems v ⊎ IsInSome new v
    told_inner below old (ended e) all = inl (in_system (piece.row + 1) e all)
    told_inner below old (goes_on l) all = inr (record { piece = inner_part rows piece; listed = Contains-push old (inner_part rows piece); holds = in_inner below all })

    told_outer : (old : List Piece) → Satisfies v (complement (constraint_at rows.list piece.row)) → HoldsInSome systems v ⊎ IsInSome (old ++ outer_part rows piece ∷ []) v
    told_outer old c = inr (record { piece = outer_part rows piece; listed = Contains-push old (outer_part rows piece); holds = in_outer c })

    pushed : (old : List Piece) → HoldsInSome systems v ⊎ IsInSome old v → HoldsInSome systems v ⊎ IsInSome (old ++ outer_part rows piece ∷ []) v
    pushed old (inl s) = inl s
    pushed old (inr s) = inr (record { piece = s.piece; listed = Contains-append_left old (outer_part rows piece ∷ []) s.piece s.listed; holds = s.holds })

    by_sides : {A : Type 0} → (All (Satisfies v) (take (piece.row + 1) rows.list) → A) → (Satisfies v (complement (constraint_at rows.list piece.row)) → A) → All (Satisfies v) (take (piece.row + 1) rows.list) ⊎ Satisfies v (complement (constraint_at rows.list piece.row)) → A
    by_sides f g (inl all) = f all
    by_sides f g (inr c) = g c

    -- a point of the piece is in the system or in one of the parts
    pub split_covers : (old : List Piece) {new : List Piece} → IsSplit rows piece old new → HoldsInSome systems v ⊎ IsInSome new v
    split_covers old (within e) = inl (in_system piece.row (sym e) front)
    split_covers old (outer_alone below n) = by_sides (λ all. absurd (n v (record { point = pt; holds = in_inner below all }))) (told_outer old) (next below)
    split_covers old (inner_alone below n i) = by_sides (told_inner below old i) (λ c. absurd (n v (record { point = pt; holds = in_outer c }))) (next below)
    split_covers old (both {middle} below i) = by_sides (λ all. pushed middle (told_inner below old i all)) (told_outer middle) (next below)

-- the other pieces stay
push_keeps : (old : List Piece) (more : Piece) (v : List ℤ) → IsInSome old v → IsInSome (old ++ more ∷ []) v
push_keeps old more v s = record { piece = s.piece; listed = Contains-append_left old (more ∷ []) s.piece s.listed; holds = s.holds }

inner_keeps : (rows : Constraints) (piece : Piece) (old : List Piece) {new : List Piece} → IsInner rows piece old new → (v : List ℤ) → IsInSome old v → IsInSome new v
inner_keeps rows piece old (ended e) v s = s
inner_keeps rows piece old (goes_on l) v s = push_keeps old (inner_part rows piece) v s

pub split_keeps : (rows : Constraints) (piece : Piece) (old : List Piece) {new : List Piece} → IsSplit rows piece old new → (v : List ℤ) → IsInSome old v → IsInSome new v
split_keeps rows piece old (within e) v s = s
split_keeps rows piece old (outer_alone below n) v s = push_keeps old (outer_part rows piece) v s
split_keeps rows piece old (inner_alone below n i) v s = inner_keeps rows piece old i v s
split_keeps rows piece old (both {middle} below i) v s = push_keeps middle (outer_part rows piece) v (inner_keeps rows piece old i v s)

-- ---- fewer are to come
pub all_still-append : (systems : List Constraints) (xs ys : List Piece) → all_still systems (xs ++ ys) ≡ all_still systems xs + all_still systems ys
all_still-append systems [] ys = omega arith
all_still-append systems (x ∷ xs) ys = omega (arith, all_still-append systems xs ys)

some_still : (systems : List Constraints) (row : ℕ) → 0 < still systems row
some_still [] row = omega arith
some_still (rows ∷ systems) row = omega arith

-- a piece counts as many as both of its parts and one more, and at least two
part_product : (n row d t : ℕ) → n - row ≡ d + 1 → n - (row + 1) ≡ d → (1 + (n - (row + 1)) * (1 + t)) + (1 + t) ≡ 1 + (n - row) * (1 + t)
part_product n row d t e f = rw (e, f) (omega arith)

least_product : (n row d t : ℕ) → n - row ≡ d + 1 → 1 + (1 + t) ≤ 1 + (n - row) * (1 + t)
least_product n row d t e = rw e (omega arith)

module _ (systems : List Constraints) (piece : Piece) (rows : Constraints) (at : slice_get systems piece.passed ≡ Some rows) where
  rest_at : drop piece.passed systems ≡ rows ∷ drop (piece.passed + 1) systems
  rest_at =
      let e : suc piece.passed ≡ piece.passed + 1 = omega arith in
      drop-cons systems piece.passed rows (slice_get_within systems piece.passed rows at)
      ∙ ap (λ (r : Constraints). r ∷ drop (suc piece.passed) systems) (get_or_from_slice_get systems piece.passed rows rows at)
      ∙ ap (λ (k : ℕ). rows ∷ drop k systems) e

  below_piece : still (drop piece.passed systems) piece.row ≡ 1 + (length rows.list - piece.row) * (1 + still (drop (piece.passed + 1) systems) 0)
  below_piece = ap (λ (rs : List Constraints). still rs piece.row) rest_at

  below_inner : still (drop piece.passed systems) (piece.row + 1) ≡ 1 + (length rows.list - (piece.row + 1)) * (1 + still (drop (piece.passed + 1) systems) 0)
  below_inner = ap (λ (rs : List Constraints). still rs (piece.row + 1)) rest_at

  inner_falls : piece.row < length rows.list → (old : List Piece) {new : List Piece} → IsInner rows piece old new → all_still systems new + (1 + still (drop (piece.passed + 1) systems) 0) ≤ all_still systems old + still (drop piece.passed systems) piece.row
  inner_falls below old (ended e) = omega (arith, below_piece, least_product (length rows.list) piece.row (length rows.list - (piece.row + 1)) (still (drop (piece.passed + 1) systems) 0) (omega (arith, below)))
  inner_falls below old (goes_on l) =
      omega (
        arith,
        all_still-append systems old (inner_part rows piece ∷ []),
        below_piece,
        below_inner,
        part_product (length rows.list) piece.row (length rows.list - (piece.row + 1)) (still (drop (piece.passed + 1) systems) 0) (omega (arith, below)) refl,
      )

  pub split_falls : (old : List Piece) {new : List Piece} → IsSplit rows piece old new → all_still systems new < all_still systems old + still (drop piece.passed systems) piece.row
  split_falls old (within e) = omega (arith, some_still (drop piece.passed systems) piece.row)
  split_falls old (outer_alone below n) =
      omega (arith, all_still-append systems old (outer_part rows piece ∷ []), below_piece, least_product (length rows.list) piece.row (length rows.list - (piece.row + 1)) (still (drop (piece.passed + 1) systems) 0) (omega (arith, below)))
  split_falls old (inner_alone below n i) = omega (arith, inner_falls below old i)
  split_falls old (both {middle} below i) = omega (arith, all_still-append systems middle (outer_part rows piece ∷ []), inner_falls below old i)

-- the last piece is taken
pub all_still-last : (systems : List Constraints) (old : List Piece) (piece : Piece) → all_still systems (old ++ piece ∷ []) ≡ all_still systems old + still (drop piece.passed systems) piece.row
all_still-last systems old piece = omega (arith, all_still-append systems old (piece ∷ []))

pub taken_falls : (systems : List Constraints) (old : List Piece) (piece : Piece) → all_still systems old < all_still systems (old ++ piece ∷ [])
taken_falls systems old piece = omega (arith, all_still-last systems old piece, some_still (drop piece.passed systems) piece.row)
