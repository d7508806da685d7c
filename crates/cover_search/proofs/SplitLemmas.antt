-- The parts of a piece by one inequality.
use Rattle.std.proofs.Common.{◌≡◌, ◌+◌, ◌<◌, List, [], ◌∷◌, ◌++◌, length, ℤ, sym, ◌∙◌, subst, ap}
use Rattle.std.proofs.lemmas.List.Elements.{All-head}
use Rattle.cons_sys.specs.declared.kind.ConKind.TheVariants.{Eq}
use Rattle.cons_sys.specs.Constraints.{Constraint, Constraints, constraint_at, Satisfies, In}
use Rattle.poly_pair.specs.Spanning.{HoldNowhere}
use Rattle.cover_search.specs.declared.pieces.Piece.{Piece}
use Rattle.cover_search.specs.Inequalities.{AreInequalities, complement}
use Rattle.cover_search.specs.Regions.{with_one, HoldsOn}
use Rattle.cover_search.specs.Pieces.{inner_part, outer_part, IsInner, goes_on, IsSplit, outer_alone, both}
use Rattle.cover_search.proofs.InequalityLemmas.{all_left, all_right, complement_excludes}

-- where an inequality holds at no point of a piece, or at each, one of its parts has none
module _ (rows : Constraints) (piece : Piece) (proper : AreInequalities rows) (below : piece.row < length rows.list) where
  last_of : (v : List ℤ) (c : Constraint) → In (with_one piece.region c) v → Satisfies v c
  last_of v c h = All-head (Satisfies v) c [] (all_right (Satisfies v) piece.region.list (c ∷ []) h)

  rest_of : (v : List ℤ) (c : Constraint) → In (with_one piece.region c) v → In piece.region v
  rest_of v c h = all_left (Satisfies v) piece.region.list (c ∷ []) h

  pub no_inner : HoldsOn piece.region (complement (constraint_at rows.list piece.row)) → HoldNowhere (inner_part rows piece).region
  no_inner holds v within =
      let c = constraint_at rows.list piece.row in
      complement_excludes c v (proper piece.row ([], Eq) below) (holds v within.point (rest_of v c within.holds)) (last_of v c within.holds)

  pub no_outer : HoldsOn piece.region (constraint_at rows.list piece.row) → HoldNowhere (outer_part rows piece).region
  no_outer holds v within =
      let c = constraint_at rows.list piece.row in
      complement_excludes c v (proper piece.row ([], Eq) below) (last_of v (complement c) within.holds) (holds v within.point (rest_of v (complement c) within.holds))

-- ---- what was appended
pub goes_on_with : (rows : Constraints) (piece inner : Piece) (old new : List Piece) → inner ≡ inner_part rows piece → piece.row + 1 < length rows.list → new ≡ old ++ inner ∷ [] → IsInner rows piece old new
goes_on_with rows piece inner old new e l g = subst (IsInner rows piece old) (sym (g ∙ ap (λ (p : Piece). old ++ p ∷ []) e)) (goes_on l)

pub split_outside : (rows : Constraints) (piece : Piece) (old new : List Piece) → piece.row < length rows.list → HoldNowhere (inner_part rows piece).region → new ≡ old ++ outer_part rows piece ∷ [] → IsSplit rows piece old new
split_outside rows piece old new below n e = subst (IsSplit rows piece old) (sym e) (outer_alone below n)

pub split_across : (rows : Constraints) (piece copy : Piece) (old middle new : List Piece) → piece.row < length rows.list → IsInner rows piece old middle → copy ≡ piece → new ≡ middle ++ outer_part rows copy ∷ [] → IsSplit rows piece old new
split_across rows piece copy old middle new below i e g = subst (IsSplit rows piece old) (sym (g ∙ ap (λ (p : Piece). middle ++ outer_part rows p ∷ []) e)) (both below i)
