-- Covers by members are covers by their inequalities.
use Rattle.std.proofs.Common.{◌≡◌, ℕ, zero, suc, ◌<◌, List, [], ◌∷◌, length, take, get_or, Option, Some, None, false, ℤ, refl, sym, ◌∙◌, subst, ap, arith}
use Rattle.std.specs.Prelude.{All, Contains, MatchOption, is_some}
use Rattle.std.proofs.Math.Seq.{take-length}
use Rattle.std.proofs.Math.ListN.{get_or-map}
use Rattle.std.proofs.lemmas.List.{length-map}
use Rattle.std.proofs.lemmas.Option.{slice_get_read}
use Rattle.std.proofs.lemmas.List.Elements.{All-map, All-weaker, All-contains, Contains-append_right}
use Rattle.row_core.specs.Points.{IsPoint}
use Rattle.row_core.specs.declared.errors.Overflow.{Overflow}
use Rattle.row_core.specs.declared.errors.ConvErr.{ConvErr}
use Rattle.row_core.specs.declared.errors.ConvErr.TheVariants as conversion
use Rattle.row_core.specs.Refusals.{IsOverflowIn}
use Rattle.cons_sys.specs.Constraints.{Constraints, In}
use Rattle.poly_pair.specs.Polyhedra.{Polyhedron}
use Rattle.cover_search.specs.Inequalities.{inequalities, AreInequalities}
use Rattle.cover_search.specs.Branches.{LeavesOnBranch, HoldsInSome, HoldsInNone, AreCovered}
use Rattle.powerset.specs.Powersets.{FinitePowerset, IsKeptPowerset, IsMember, IsInPowerset}
use Rattle.cover_search.specs.Conversions.{IsSearchConversion}
use Rattle.powerset.specs.Covers.{Covers, IsCounterPoint, systems_of, LeavesOnCover, HasUncovered, LeavesOnSome, IsMemberSearch, AreMemberSearches}
use Rattle.cover_search.proofs.InequalityLemmas.{inequalities_hold, are_inequalities}

-- ---- what a search answers
pub when_none : {X : Type 0} (found : Option X) (A : Type 0) (B : X → Type 0) → is_some found ≡ false → MatchOption found A B → A
when_none None A B e h = h
when_none (Some x) A B e h = cc

pub take_all : {X : Type 0} (xs : List X) (n : ℕ) → n ≡ length xs → take n xs ≡ xs
take_all xs n e = subst (λ (k : ℕ). take k xs ≡ xs) (sym e) (take-length xs)

-- ---- systems of members
module _ (u : FinitePowerset) (kept : IsKeptPowerset u) where
  pub systems_dims : (n : ℕ) → u.dim ≡ n → All (λ (rows : Constraints). rows.dim ≡ n) (systems_of u.members)
  systems_dims n e = All-map (λ (rows : Constraints). rows.dim ≡ n) (λ (p : Polyhedron). inequalities p.cons) u.members
      (All-weaker (IsMember u.topology u.dim) (λ (p : Polyhedron). p.cons.dim ≡ n) (λ p m. m.over.same_dim ∙ e) u.members kept.each)

pub systems_proper : (members : List Polyhedron) → All AreInequalities (systems_of members)
systems_proper members = All-map AreInequalities (λ (p : Polyhedron). inequalities p.cons) members (λ k d b. are_inequalities (get_or members k d).cons)

-- a system is that of some member
at_map : (members : List Polyhedron) (k : ℕ) → k < length (systems_of members) → (p : Polyhedron) × Contains members p × ((d : Constraints) → get_or (systems_of members) k d ≡ inequalities p.cons)
at_map [] k h = absurd (omega (arith, h))
at_map (p ∷ members) zero h = (p, (0, omega arith, refl), λ d. refl)
at_map (p ∷ members) (suc k) h = let r = at_map members k (omega (arith, h)) in (r.0, Contains-append_right (p ∷ []) members r.0 r.1, r.2)

pub in_union : (members : List Polyhedron) (v : List ℤ) → HoldsInSome (systems_of members) v → IsInPowerset members v
in_union members v h =
    let r = at_map members h.listed.0 h.listed.1 in
    record { member = r.0; listed = r.1; holds = (inequalities_hold r.0.cons v).1 (subst (λ (rows : Constraints). In rows v) (sym h.listed.2 ∙ r.2 h.system) h.holds) }

-- and each member has one
map_at : (members : List Polyhedron) (p : Polyhedron) → Contains members p → Contains (systems_of members) (inequalities p.cons)
map_at members p c = (c.0, omega (arith, c.1, length-map members (λ (q : Polyhedron). inequalities q.cons)), get_or-map (λ (q : Polyhedron). inequalities q.cons) members c.0 p ∙ ap (λ (q : Polyhedron). inequalities q.cons) c.2)

pub not_in_union : (members : List Polyhedron) (v : List ℤ) → HoldsInNone (systems_of members) v → ¬ (IsInPowerset members v)
not_in_union members v none i = All-contains (λ (rows : Constraints). ¬ (In rows v)) (systems_of members) (inequalities i.member.cons) none (map_at members i.member i.listed) ((inequalities_hold i.member.cons v).0 i.holds)

-- ---- answers
module _ (s t : FinitePowerset) (kept_s : IsKeptPowerset s) (kept_t : IsKeptPowerset t) (dims : s.dim ≡ t.dim) where
  pub dims_fit : (systems : List Constraints) → systems ≡ systems_of s.members → All (λ (p : Polyhedron). All (λ (rows : Constraints). rows.dim ≡ p.cons.dim) systems) t.members
  dims_fit systems e = subst (λ (ss : List Constraints). All (λ (p : Polyhedron). All (λ (rows : Constraints). rows.dim ≡ p.cons.dim) ss) t.members) (sym e)
      (All-weaker (IsMember t.topology t.dim) (λ (p : Polyhedron). All (λ (rows : Constraints). rows.dim ≡ p.cons.dim) (systems_of s.members)) (λ p m. systems_dims s kept_s p.cons.dim (dims ∙ sym m.over.same_dim)) t.members kept_t.each)

  pub all_covered : (systems : List Constraints) → systems ≡ systems_of s.members → All (λ (p : Polyhedron). AreCovered p.cons systems) t.members → Covers s t
  all_covered systems e h v pt i =
      let m = All-contains (IsMember t.topology t.dim) t.members i.member kept_t.each i.listed in
      let c = All-contains (λ (p : Polyhedron). AreCovered p.cons systems) t.members i.member h i.listed in
      in_union s.members v (subst (λ (ss : List Constraints). HoldsInSome ss v) e (c v (subst (λ (n : ℕ). IsPoint n v) (dims ∙ sym m.over.same_dim) pt) i.holds))

  pub counter_point : (systems : List Constraints) (v : List ℤ) → systems ≡ systems_of s.members → HasUncovered t.members systems v → IsCounterPoint s t v
  counter_point systems v e h =
      let m = All-contains (IsMember t.topology t.dim) t.members h.member kept_t.each h.listed in
      record {
        point = subst (λ (n : ℕ). IsPoint n v) (m.over.same_dim ∙ sym dims) h.uncovered.point;
        primitive = h.uncovered.primitive;
        within = record { member = h.member; listed = h.listed; holds = h.uncovered.holds };
        outside = not_in_union s.members v (subst (λ (ss : List Constraints). HoldsInNone ss v) e h.uncovered.outside);
      }

-- an overflow of a branch that begins with a member
pub some_leaves : (s t : FinitePowerset) (members : List Polyhedron) (systems : List Constraints) (error : ConvErr) → members ≡ t.members → systems ≡ systems_of s.members → IsOverflowIn (LeavesOnSome members systems) error → IsOverflowIn (LeavesOnCover s t) error
some_leaves s t members systems (conversion.Overflow over) e f l = record {
  member = l.member;
  listed = subst (λ (ps : List Polyhedron). Contains ps l.member) e l.listed;
  leaves = subst (λ (ss : List Constraints). LeavesOnBranch l.member.cons ss over) f l.leaves;
}
some_leaves s t members systems conversion.Memory e f l = tt

-- ---- counts
pub member_search : (members : List Polyhedron) (systems : List Constraints) (k : ℕ) (member : Polyhedron) (cs : Constraints) (old new : ℕ) (over : Option Overflow) → k < length members → member ≡ get_or members k member → cs ≡ member.cons → IsSearchConversion cs systems old new over → IsMemberSearch members systems k old new over
member_search members systems k member cs old new over below is same h = record {
  member = member;
  listed = slice_get_read members (length members) k member refl below is;
  search = subst (λ (ds : Constraints). IsSearchConversion ds systems old new over) same h;
}

pub cover_counts : (ps qs : List Polyhedron) (systems ts : List Constraints) (old new : ℕ) (over : Option Overflow) → ps ≡ qs → systems ≡ ts → AreMemberSearches ps systems old new over → AreMemberSearches qs ts old new over
cover_counts ps qs systems ts old new over e f h = subst (λ (ss : List Constraints). AreMemberSearches qs ss old new over) f (subst (λ (rs : List Polyhedron). AreMemberSearches rs systems old new over) e h)
