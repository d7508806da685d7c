-- What is left of a list: it has all points, and nothing more can be left out.
use Rattle.std.proofs.Common.{◌≡◌, ◌≢◌, ◌⊎◌, inl, inr, ℕ, zero, suc, ◌<◌, ◌≤◌, List, [], ◌∷◌, length, take, get_or, slice_get, Some, Bool, true, false, ℤ, refl, sym, ◌∙◌, subst, ap, arith}
use Rattle.std.specs.Prelude.{All, Contains, MatchBool}
use Rattle.std.proofs.lemmas.Bool.{cases_lt}
use Rattle.std.proofs.lemmas.Option.{slice_get-get_or, slice_get_within, get_or_from_slice_get}
use Rattle.std.proofs.lemmas.List.Elements.{All-contains, All-contains_itself, Contains-append_right}
use Rattle.flat_rows.specs.Flat.{marked}
use Rattle.row_core.specs.Points.{IsPoint}
use Rattle.cons_sys.specs.Constraints.{In}
use Rattle.poly_pair.specs.Polyhedra.{Polyhedron, HasNoPoint, IsIncluded, HaveSamePoints}
use Rattle.powerset.specs.Powersets.{IsInPowerset}
use Rattle.powerset.specs.Reductions.{IsSuperseded, IsLeftOut, IsReduced}
use Rattle.powerset.specs.PowersetLaws.{AreOfDimension, ReductionKeepsPoints, IsIrredundant, ReductionIsIrredundant}
use Rattle.powerset.proofs.Climbs.{climbs}
use Rattle.cover_search.proofs.BranchLemmas.{all_at}
use Rattle.powerset.proofs.ReductionLemmas.{same_back}
use Rattle.flat_rows.proofs.Marked.{all_marked}

-- ---- marked elements
kept_listed : {X : Type 0} (keep : List Bool) (xs : List X) (i : ℕ) (d : X) → i < length keep → i < length xs → get_or keep i false ≡ true → Contains (marked keep xs) (get_or xs i d)
kept_listed [] xs i d b c e = absurd (omega (arith, b))
kept_listed (k ∷ keep) [] i d b c e = absurd (omega (arith, c))
kept_listed (true ∷ keep) (x ∷ xs) zero d b c e = (0, omega arith, refl)
kept_listed (false ∷ keep) (x ∷ xs) zero d b c e = cc
kept_listed (true ∷ keep) (x ∷ xs) (suc i) d b c e = Contains-append_right (x ∷ []) (marked keep xs) (get_or xs i d) (kept_listed keep xs i d (omega (arith, b)) (omega (arith, c)) e)
kept_listed (false ∷ keep) (x ∷ xs) (suc i) d b c e = kept_listed keep xs i d (omega (arith, b)) (omega (arith, c)) e

-- the element at a place of the marked ones, with its index, which tells the place
record Origin {X : Type 0} (keep : List Bool) (xs : List X) (d : X) (place : ℕ) : Type 0 where
  index : ℕ
  marks : index < length keep
  below : index < length xs
  kept : get_or keep index false ≡ true
  same : get_or (marked keep xs) place d ≡ get_or xs index d
  before : place ≡ length (marked (take index keep) (take index xs))

origin : {X : Type 0} (keep : List Bool) (xs : List X) (d : X) (place : ℕ) → place < length (marked keep xs) → Origin keep xs d place
origin [] xs d place h = absurd (omega (arith, h))
origin (k ∷ keep) [] d place h = absurd (omega (arith, h))
origin (true ∷ keep) (x ∷ xs) d zero h = record { index = 0; marks = omega arith; below = omega arith; kept = refl; same = refl; before = refl }
origin (true ∷ keep) (x ∷ xs) d (suc place) h = let r = origin keep xs d place (omega (arith, h)) in record { index = suc r.index; marks = omega (arith, r.marks); below = omega (arith, r.below); kept = r.kept; same = r.same; before = ap suc r.before }
origin (false ∷ keep) (x ∷ xs) d place h = let r = origin keep xs d place h in record { index = suc r.index; marks = omega (arith, r.marks); below = omega (arith, r.below); kept = r.kept; same = r.same; before = r.before }

below_of : (a b : ℕ) → ¬ (b < a) → a ≢ b → a < b
below_of a b h ne = by_case (cases_lt a b)
  where
    by_case : (a < b) ⊎ (b ≤ a) → a < b
    by_case (inl l) = l
    by_case (inr l) = absurd (h (omega arith))

-- ---- points
test_of : (b : Bool) (A : Type 0) → MatchBool b (¬ A) A → (b ≡ true) ⊎ A
test_of true A h = inl refl
test_of false A h = inr h

not_of : (b : Bool) (A : Type 0) → b ≡ true → MatchBool b (¬ A) A → ¬ A
not_of true A e h = h
not_of false A e h = cc

module _ (dim : ℕ) (members part : List Polyhedron) (dims : AreOfDimension dim members) (r : IsReduced members part) where
  module _ (p : Polyhedron) where
    abbrev member : ℕ → Polyhedron
    member i = get_or members i p

    abbrev Inside : ℕ → ℕ → Type 0
    Inside i j = (u : List ℤ) → IsPoint dim u → In (member i).cons u → In (member j).cons u

    -- member j includes member i, and stands before it or has further points
    abbrev Above : ℕ → ℕ → Type 0
    Above j i = Inside i j × ((j < i) ⊎ (¬ (Inside j i)))

    through : (i j k : ℕ) → Above j i → Above k j → Above k i
    through i j k a b = (λ u q h. b.0 u q (a.0 u q h), first a.1 b.1)
      where
        first : (j < i) ⊎ (¬ (Inside j i)) → (k < j) ⊎ (¬ (Inside k j)) → (k < i) ⊎ (¬ (Inside k i))
        first (inl l) (inl m) = inl (omega arith)
        first (inl l) (inr n) = inr (λ w. n (λ u q h. a.0 u q (w u q h)))
        first (inr n) m = inr (λ w. n (λ u q h. w u q (b.0 u q h)))

    strict : (i : ℕ) → ¬ (Above i i)
    strict i a = never a.1
      where
        never : (i < i) ⊎ (¬ (Inside i i)) → ⊥
        never (inl l) = omega (arith, l)
        never (inr n) = n (λ u q h. h)

    point_of : (i : ℕ) → i < length members → (u : List ℤ) → IsPoint dim u → IsPoint (member i).cons.dim u
    point_of i b u q = subst (λ (n : ℕ). IsPoint n u) (sym (dims i p b)) q

    -- a member that supersedes another is above it
    supersedes_above : (i : ℕ) → i < length members → (s : IsSuperseded members i (member i)) → Above s.index i
    supersedes_above i b s = (inside, first s.supersedes.first)
      where
        same : get_or members s.index p ≡ s.other
        same = get_or_from_slice_get members s.index s.other p s.at

        inside : Inside i s.index
        inside u q h = subst (λ (o : Polyhedron). In o.cons u) (sym same) (s.supersedes.includes u (point_of i b u q) h)

        back : Inside s.index i → HaveSamePoints (member i) s.other
        back w u q = (s.supersedes.includes u q, λ h. w u (subst (λ (n : ℕ). IsPoint n u) (dims i p b) q) (subst (λ (o : Polyhedron). In o.cons u) (sym same) h))

        first : (s.index < i) ⊎ (¬ (HaveSamePoints (member i) s.other)) → (s.index < i) ⊎ (¬ (Inside s.index i))
        first (inl l) = inl l
        first (inr n) = inr (λ w. n (back w))

    module _ (v : List ℤ) (pt : IsPoint dim v) where
      abbrev Held : ℕ → Type 0
      Held i = In (member i).cons v

      abbrev Good : ℕ → Type 0
      Good i = (get_or r.keep i false ≡ true) × In (member i).cons v

      by_test : (i : ℕ) → i < length members → Held i → (get_or r.keep i false ≡ true) ⊎ IsLeftOut members i (member i) → Good i ⊎ ((j : ℕ) × (j < length members) × Above j i × Held j)
      by_test i b h (inl e) = inl (e, h)
      by_test i b h (inr (inl none)) = absurd (none v (record { point = point_of i b v pt; holds = h }))
      by_test i b h (inr (inr s)) = let up = supersedes_above i b s in inr (s.index, slice_get_within members s.index s.other s.at, up, up.0 v pt h)

      step : (i : ℕ) → i < length members → Held i → Good i ⊎ ((j : ℕ) × (j < length members) × Above j i × Held j)
      step i b h = by_test i b h (test_of (get_or r.keep i false) (IsLeftOut members i (member i)) (r.marks.each i (member i) (omega (arith, b, r.as_many)) (slice_get-get_or members i p b)))

      in_kept : (i : ℕ) → i < length members → Held i → IsInPowerset part v
      in_kept i b h =
          let t = climbs (length members) Above Held Good through strict step i b h in
          record {
            member = member t.0;
            listed = subst (λ (ps : List Polyhedron). Contains ps (member t.0)) (sym r.is_part) (kept_listed r.keep members t.0 p (omega (arith, t.1, r.as_many)) t.1 t.2.0);
            holds = t.2.1;
          }

  points_kept : (v : List ℤ) → IsPoint dim v → IsInPowerset members v → IsInPowerset part v
  points_kept v pt i = in_kept i.member v pt i.listed.0 i.listed.1 (subst (λ (o : Polyhedron). In o.cons v) (sym i.listed.2) i.holds)

  points_of : (v : List ℤ) → IsInPowerset part v → IsInPowerset members v
  points_of v i = record {
    member = i.member;
    listed = All-contains (Contains members) part i.member (subst (All (Contains members)) (sym r.is_part) (all_marked (Contains members) r.keep members (All-contains_itself members))) i.listed;
    holds = i.holds;
  }

  -- ---- nothing more can be left out
  -- the member at a place of what is left, at its index
  record Kept (place : ℕ) (p : Polyhedron) : Type 0 where
    index : ℕ
    at : slice_get members index ≡ Some p
    stays : ¬ (IsLeftOut members index p)
    before : place ≡ length (marked (take index r.keep) (take index members))

  kept_at : (place : ℕ) (p : Polyhedron) → slice_get (marked r.keep members) place ≡ Some p → Kept place p
  kept_at place p at =
      let o = origin r.keep members p place (slice_get_within (marked r.keep members) place p at) in
      let e : get_or members o.index p ≡ p = sym o.same ∙ get_or_from_slice_get (marked r.keep members) place p p at in
      let here : slice_get members o.index ≡ Some p = subst (λ (q : Polyhedron). slice_get members o.index ≡ Some q) e (slice_get-get_or members o.index p o.below) in
      record {
        index = o.index;
        at = here;
        stays = not_of (get_or r.keep o.index false) (IsLeftOut members o.index p) o.kept (r.marks.each o.index p o.marks here);
        before = o.before;
      }

  none_includes : (i k : ℕ) (p q : Polyhedron) → i ≢ k → Kept i p → Kept k q → ¬ (IsIncluded p q)
  none_includes i k p q ne m w inc = not_same (λ same. w.stays (inr (record { index = m.index; other = p; at = m.at; differs = apart; supersedes = record { includes = same_back p q one_dim same; first = inl before } })))
    where
      apart : m.index ≢ w.index
      apart e = ne (m.before ∙ ap (λ (n : ℕ). length (marked (take n r.keep) (take n members))) e ∙ sym w.before)

      one_dim : p.cons.dim ≡ q.cons.dim
      one_dim = all_at (λ (o : Polyhedron). o.cons.dim ≡ dim) members m.index p dims m.at ∙ sym (all_at (λ (o : Polyhedron). o.cons.dim ≡ dim) members w.index q dims w.at)

      never : (w.index < m.index) ⊎ (¬ (HaveSamePoints p q)) → ⊥
      never f = m.stays (inr (record { index = w.index; other = q; at = w.at; differs = λ e. apart (sym e); supersedes = record { includes = inc; first = f } }))

      not_same : ¬ (¬ (HaveSamePoints p q))
      not_same n = never (inr n)

      before : m.index < w.index
      before = let not_behind : ¬ (w.index < m.index) = λ l. never (inl l) in let differ : m.index ≢ w.index = apart in below_of m.index w.index not_behind differ

  irredundant : IsIrredundant part
  irredundant = record { inhabited = inhabited; apart = apart }
    where
      inhabited : All (λ (p : Polyhedron). ¬ (HasNoPoint p)) part
      inhabited = subst (All (λ (p : Polyhedron). ¬ (HasNoPoint p))) (sym r.is_part) (λ place d b none. (kept_at place (get_or (marked r.keep members) place d) (slice_get-get_or (marked r.keep members) place d b)).stays (inl none))

      apart : (i k : ℕ) (p q : Polyhedron) → i ≢ k → slice_get part i ≡ Some p → slice_get part k ≡ Some q → ¬ (IsIncluded p q)
      apart i k p q ne e f = none_includes i k p q ne
          (kept_at i p (subst (λ (ps : List Polyhedron). slice_get ps i ≡ Some p) r.is_part e))
          (kept_at k q (subst (λ (ps : List Polyhedron). slice_get ps k ≡ Some q) r.is_part f))

pub reduction_keeps_points : ReductionKeepsPoints
reduction_keeps_points dim members part dims r v pt = (points_of dim members part dims r v, points_kept dim members part dims r v pt)

pub reduction_is_irredundant : ReductionIsIrredundant
reduction_is_irredundant dim members part dims r = irredundant dim members part dims r
