-- What a turn keeps.
use Rattle.std.proofs.Common.{◌≡◌, ◌⊎◌, inl, inr, ℕ, ◌+◌, ◌<◌, List, [], ◌∷◌, ◌++◌, length, take, slice_get, Some, None, Option, ℤ, refl, sym, ◌∙◌, subst, ap, append_assoc, append-nil, true, false, arith}
use Rattle.std.specs.Prelude.{All, Contains, MatchOption, is_some}
use Rattle.std.proofs.lemmas.List.Elements.{Contains-push_cases, All-weaker}
use Rattle.row_core.specs.Points.{IsPoint}
use Rattle.row_core.specs.declared.errors.Overflow.{Overflow}
use Rattle.row_core.specs.declared.errors.ConvErr.{ConvErr}
use Rattle.row_core.specs.declared.errors.ConvErr.TheVariants as conversion
use Rattle.cons_sys.specs.Constraints.{Constraint, Constraints, constraint_at, Satisfies, In}
use Rattle.poly_pair.specs.Spanning.{HoldNowhere}
use Rattle.cover_search.specs.declared.pieces.Piece.{Piece}
use Rattle.cover_search.specs.Inequalities.{AreInequalities, complement}
use Rattle.row_core.specs.Refusals.{IsOverflowIn}
use Rattle.cover_search.specs.Regions.{LeavesOnList, with_one}
use Rattle.cover_search.specs.Branches.{choice, begins, chooses, LeavesOnBranch, HoldsInSome, AreCovered, IsUncovered}
use Rattle.cover_search.specs.Pieces.{inner_part, outer_part, front_of, IsRowOf, IsPiece, IsInSome, all_still, IsWithin, IsTurn, IsFound, LeavesInSplit, LeavesInTurn, LiesInSome}
use Rattle.cover_search.proofs.InequalityLemmas.{all_left}
use Rattle.cover_search.proofs.RegionLemmas.{list_longer}
use Rattle.cover_search.proofs.BranchLemmas.{all_at, branch_outside, outside_all}
use Rattle.cover_search.proofs.PieceLemmas.{no_front, no_row, outer_list, outer_branch, inner_list, split_pieces, split_covers, split_keeps, split_falls, taken_falls, all_still-last}

-- each point of the set is in some system or in some piece
abbrev pub AreAllTold : Constraints → List Constraints → List Piece → Type 0
AreAllTold first systems pieces = (v : List ℤ) → IsPoint first.dim v → In first v → HoldsInSome systems v ⊎ IsInSome pieces v

-- an overflow of the split by the next system is one of the turn
pub next_leaves : (systems : List Constraints) (piece : Piece) (rows : Constraints) (error : ConvErr) → slice_get systems piece.passed ≡ Some rows → IsOverflowIn (LeavesInSplit rows piece) error → IsOverflowIn (LeavesInTurn systems piece) error
next_leaves systems piece rows (conversion.Overflow over) at l = record { rows = rows; at = at; leaves = l }
next_leaves systems piece rows conversion.Memory at l = tt

-- ---- the whole set
-- the set is the first piece
pub first_piece : (first : Constraints) (systems : List Constraints) (region : Constraints) → region ≡ first → IsPiece first systems (record { region = region; passed = 0; row = 0 })
first_piece first systems region e = record {
  same_dim = ap (λ (cs : Constraints). cs.dim) e;
  passed = omega arith;
  row = no_row (slice_get systems 0);
  list = first.list;
  branch = begins;
  joined = ap (λ (cs : Constraints). cs.list) e ∙ sym (append-nil first.list) ∙ ap (λ (xs : List Constraint). first.list ++ xs) (sym (no_front (slice_get systems 0)));
}

module _ (first : Constraints) (systems : List Constraints) where
  pub first_told : (region : Constraints) (pieces : List Piece) → region ≡ first → pieces ≡ [] ++ record { region = region; passed = 0; row = 0 } ∷ [] → AreAllTold first systems pieces
  first_told region pieces e f v pt h = inr (subst (λ (ps : List Piece). IsInSome ps v) (sym f) (record { piece = record { region = region; passed = 0; row = 0 }; listed = (0, omega arith, refl); holds = subst (λ (cs : Constraints). In cs v) (sym e) h }))

  pub none_left : (pieces : List Piece) → pieces ≡ [] → AreAllTold first systems pieces → AreCovered first systems
  none_left pieces e told v pt h = by_case (told v pt h)
    where
      by_case : HoldsInSome systems v ⊎ IsInSome pieces v → HoldsInSome systems v
      by_case (inl s) = s
      by_case (inr s) = absurd (nothing (subst (λ (ps : List Piece). IsInSome ps v) e s))
        where
          nothing : IsInSome [] v → ⊥
          nothing n = omega (arith, n.listed.1)

  -- ---- a piece that is taken
  module _ (piece : Piece) (p : IsPiece first systems piece) where
    pub is_within : All (λ (rows : Constraints). rows.dim ≡ first.dim) systems → IsWithin systems piece
    is_within dims = record {
      passed = p.passed;
      dims = All-weaker (λ (rows : Constraints). rows.dim ≡ first.dim) (λ (rows : Constraints). rows.dim ≡ piece.region.dim) (λ rows e. e ∙ sym p.same_dim) systems dims;
      row = λ rows at. subst (λ (o : Option Constraints). IsRowOf o piece.row) at p.row;
    }

    pub turn_pieces : (old new : List Piece) → IsTurn systems piece old new → All (IsPiece first systems) old → All (IsPiece first systems) new
    turn_pieces old new (inl t) h = subst (All (IsPiece first systems)) (sym t.1) h
    turn_pieces old new (inr t) h = split_pieces first systems piece t.0 p t.1 old t.2 h

    pub turn_told : All AreInequalities systems → (old new : List Piece) → IsTurn systems piece old new → AreAllTold first systems (old ++ piece ∷ []) → AreAllTold first systems new
    turn_told proper old new t told v pt h = by_case (told v pt h)
      where
        kept : IsTurn systems piece old new → IsInSome old v → IsInSome new v
        kept (inl t) s = subst (λ (ps : List Piece). IsInSome ps v) (sym t.1) s
        kept (inr t) s = split_keeps t.0 piece old t.2 v s

        here : IsTurn systems piece old new → In piece.region v → HoldsInSome systems v ⊎ IsInSome new v
        here (inl t) i = inside t.0
          where
            inside : HoldNowhere piece.region ⊎ LiesInSome systems piece.region → HoldsInSome systems v ⊎ IsInSome new v
            inside (inl n) = absurd (n v (record { point = subst (λ (n : ℕ). IsPoint n v) (sym p.same_dim) pt; holds = i }))
            inside (inr l) = inl (record { system = l.system; listed = l.listed; holds = l.lies v (subst (λ (n : ℕ). IsPoint n v) (sym p.same_dim) pt) i })
        here (inr t) i = split_covers first systems piece t.0 p t.1 (all_at AreInequalities systems piece.passed t.0 proper t.1) v (subst (λ (n : ℕ). IsPoint n v) (sym p.same_dim) pt) i old t.2

        by_place : (s : IsInSome (old ++ piece ∷ []) v) → Contains old s.piece ⊎ (piece ≡ s.piece) → HoldsInSome systems v ⊎ IsInSome new v
        by_place s (inl l) = inr (kept t (record { piece = s.piece; listed = l; holds = s.holds }))
        by_place s (inr e) = here t (subst (λ (q : Piece). In q.region v) (sym e) s.holds)

        by_case : HoldsInSome systems v ⊎ IsInSome (old ++ piece ∷ []) v → HoldsInSome systems v ⊎ IsInSome new v
        by_case (inl s) = inl s
        by_case (inr s) = by_place s (Contains-push_cases old piece s.piece s.listed)

    pub turn_falls : (old new : List Piece) → IsTurn systems piece old new → all_still systems new < all_still systems (old ++ piece ∷ [])
    turn_falls old new (inl t) = subst (λ (ps : List Piece). all_still systems ps < all_still systems (old ++ piece ∷ [])) (sym t.1) (taken_falls systems old piece)
    turn_falls old new (inr t) = omega (arith, split_falls systems piece t.0 t.1 old t.2, all_still-last systems old piece)

    pub found_uncovered : All AreInequalities systems → (v : List ℤ) → IsFound systems piece v → IsUncovered first systems v
    found_uncovered proper v f =
        let o = branch_outside first.list systems proper v p.branch (all_left (Satisfies v) p.list (front_of (slice_get systems piece.passed) piece.row) (subst (λ (xs : List Constraint). All (Satisfies v) xs) p.joined f.point.holds)) in
        record {
          point = subst (λ (n : ℕ). IsPoint n v) p.same_dim f.point.point;
          primitive = f.point.primitive;
          holds = o.holds;
          outside = outside_all first.list systems v piece.passed f.all o;
        }

    -- ---- overflows
    of_list : (cs : Constraints) (over : Overflow) (list : List Constraint) → cs.dim ≡ first.dim → cs.list ≡ list → LeavesOnList cs over → LeavesOnList (record { dim = first.dim; list = list }) over
    of_list cs over list e f l = subst (λ (n : ℕ). LeavesOnList (record { dim = n; list = list }) over) e (subst (λ (xs : List Constraint). LeavesOnList (record { dim = cs.dim; list = xs }) over) f l)

    part_leaves : (rows : Constraints) (over : Overflow) → slice_get systems piece.passed ≡ Some rows → piece.row < length rows.list → LeavesOnList (outer_part rows piece).region over ⊎ ((piece.row + 1 < length rows.list) × LeavesOnList (inner_part rows piece).region over) → LeavesOnBranch first systems over
    part_leaves rows over at below (inl l) = record {
      passed = piece.passed + 1;
      list = p.list ++ choice rows.list piece.row;
      branch = outer_branch first systems piece rows p at below;
      leaves = of_list (outer_part rows piece).region over (p.list ++ choice rows.list piece.row) p.same_dim (outer_list first systems piece rows p at) l;
    }
    part_leaves rows over at below (inr (more, l)) =
        let next : Constraint = complement (constraint_at rows.list (piece.row + 1)) in
        let whole = list_longer (inner_part rows piece).region next over l in
        record {
          passed = piece.passed + 1;
          list = p.list ++ choice rows.list (piece.row + 1);
          branch = chooses rows (piece.row + 1) p.branch at more;
          leaves = of_list (with_one (inner_part rows piece).region next) over (p.list ++ choice rows.list (piece.row + 1)) p.same_dim
              (ap (λ (xs : List Constraint). xs ++ next ∷ []) (inner_list first systems piece rows p at below) ∙ append_assoc p.list (take (piece.row + 1) rows.list) (next ∷ [])) whole;
        }

    pub turn_leaves : (error : ConvErr) → IsOverflowIn (LeavesInTurn systems piece) error → IsOverflowIn (LeavesOnBranch first systems) error
    turn_leaves (conversion.Overflow over) l = part_leaves l.rows over l.at l.leaves.below l.leaves.leaves
    turn_leaves conversion.Memory l = tt

  -- the list of the set is that of a branch
  pub first_leaves : (error : ConvErr) → IsOverflowIn (LeavesOnList first) error → IsOverflowIn (LeavesOnBranch first systems) error
  first_leaves (conversion.Overflow over) l = record { passed = 0; list = first.list; branch = begins; leaves = l }
  first_leaves conversion.Memory l = tt

  -- ---- what a turn answers
  module _ (proper : All AreInequalities systems) (piece : Piece) (p : IsPiece first systems piece) (old new : List Piece) where
    pub answered : (found : Option (List ℤ)) → is_some found ≡ true → MatchOption found (IsTurn systems piece old new) (IsFound systems piece) → MatchOption found (AreCovered first systems) (IsUncovered first systems)
    answered None e t = cc
    answered (Some v) e f = found_uncovered piece p proper v f

    pub went_on : (found : Option (List ℤ)) → is_some found ≡ false → MatchOption found (IsTurn systems piece old new) (IsFound systems piece) → IsTurn systems piece old new
    went_on None e t = t
    went_on (Some v) e f = cc
