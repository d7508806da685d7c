-- The set of the kept constraints of the larger set is the widening.
use Rattle.std.proofs.Common.{◌≡◌, ℕ, List, [], length, ℤ, pos, ◌≤ℤ◌, inr, refl, sym, ◌∙◌, subst, arith, All}
use Rattle.std.proofs.lemmas.List.{take_all}
use Rattle.std.specs.Prelude.{◌↔◌, Contains, slice_index_or}
use Rattle.std.proofs.lemmas.List.Elements.{All-get_or, All-from_get_or}
use Rattle.row_core.specs.Vectors.{dot}
use Rattle.row_core.specs.Points.{IsPoint}
use Rattle.cone_laws.specs.Cones.{negated}
use Rattle.cons_sys.specs.declared.kind.ConKind.{ConKind}
use Rattle.cons_sys.specs.declared.kind.ConKind.TheVariants.{Eq}
use Rattle.cons_sys.specs.Constraints.{Constraints, Satisfies, constraint_at, row_at, kind_at}
use Rattle.stored_systems.specs.StoredForms.{IsStored}
use Rattle.stored_systems.proofs.Stored.{stored_is_closed}
use Rattle.poly_pair.specs.declared.topology.Topology.TheVariants.{Closed}
use Rattle.poly_pair.specs.Polyhedra.{Polyhedron, IsOfConstraints, IsIncluded}
use Rattle.widening.specs.Inequalities.{HasSameZeros}
use Rattle.widening.specs.Widenings.{AllowOthers, IsWidening}
use Rattle.widening.specs.Values.{HasZerosAmong, HaveZerosAmong, HoldAmong, AreAmong, IsOfAmong}
use Rattle.widening.proofs.AmongLists.{all_those}
use Rattle.widening.proofs.ZeroLists.{zero_negated, among_negated, negated_among}
use Rattle.widening.proofs.SideLists.{sides, both_sides, all_sides, row_is_side, negative_is_side}
use Rattle.widening.proofs.StoredSets.{satisfied_least}
use Rattle.widening.proofs.KeptRows.{holds_at, among_are_zeros}
use Rattle.widening.proofs.WidenedSets.{HasMember, others_valid}
use Rattle.widening.proofs.LargerRows.{closed_satisfied, others_suffice}

module _ (p q : Polyhedron) (stored : IsStored p.cons p.gens) (stored2 : IsStored q.cons q.gens) (same : p.cons.dim ≡ q.cons.dim) (nested : IsIncluded p q) (member : HasMember p) where
  abbrev Among : List ℤ → Type 0
  Among k = HasZerosAmong p.cons.list p.gens k

  -- an inequality of the larger set is 0 on the same generators as a constraint where it is 0 at the same points
  all_same : All (λ k. Among k ↔ HasSameZeros p.cons k) (sides q.cons.list)
  all_same i d h = among_are_zeros p.cons p.gens stored member.point member.within (slice_index_or (sides q.cons.list) i d) (others_valid p q same nested stored stored2 member.point member.within i d h)

  side_same : (k : List ℤ) → Contains (sides q.cons.list) k → Among k ↔ HasSameZeros p.cons k
  side_same k c = holds_at (λ k. Among k ↔ HasSameZeros p.cons k) (sides q.cons.list) k all_same c

  -- ---- constraints and inequalities
  abbrev Allowed : List ℤ → List ℤ → Type 0
  Allowed v k = Among k → pos 0 ≤ℤ dot k v

  held_allow : (v : List ℤ) → HoldAmong p q.cons (length q.cons.list) v → AllowOthers p q v
  held_allow v h k c z =
      holds_at (Allowed v) (sides q.cons.list) k
      (all_sides (Allowed v) q.cons.list
      (λ i l a. satisfied_least (kind_at q.cons.list i) v (row_at q.cons.list i) (h i l a))
      (λ i l e a. satisfied_least Eq v (negated (row_at q.cons.list i)) ((zero_negated (row_at q.cons.list i) v).0
      (subst (λ (kind : ConKind). Satisfies v (row_at q.cons.list i, kind)) e (h i l (negated_among p.cons.list p.gens (row_at q.cons.list i) a))))))
      c ((side_same k c).1 z)

  allow_held : (v : List ℤ) → AllowOthers p q v → HoldAmong p q.cons (length q.cons.list) v
  allow_held v allowed i l a =
      let row = row_at q.cons.list i in
      let side = row_is_side q.cons.list i l in
      closed_satisfied (constraint_at q.cons.list i) v ((stored_is_closed q.cons q.gens stored2).cons i ([], Eq) l)
      (both_sides (λ k. pos 0 ≤ℤ dot k v) row (kind_at q.cons.list i) (allowed row side ((side_same row side).0 a))
      (λ e. let other = negative_is_side q.cons.list i l e in allowed (negated row) other ((side_same (negated row) other).0 (among_negated p.cons.list p.gens row a))))

  -- ---- the sets
  pub among_is_widening : (kept : Constraints) (result : Polyhedron) → IsOfAmong p q.cons kept → IsOfConstraints Closed kept result → IsWidening p q result
  among_is_widening kept result among of = record {
    over = record { same_topology = of.over.same_topology; same_dim = of.over.same_dim ∙ among.same_dim ∙ sym same };
    of_empty = λ none. absurd (none member.point member.within);
    points = λ x w v pt.
        let there = of.points v (subst (λ (n : ℕ). IsPoint n v) (same ∙ sym among.same_dim) pt) in
        let held = among.holds v in (
          (λ i. others_suffice p q stored stored2 same nested member v pt (held_allow v (held.0 (there.1 i)))),
          (λ a. there.0 (held.1 (allow_held v (λ k c z. a k (inr (c, z)))))),
        );
  }

  -- the larger set itself, where all are kept
  pub all_among_is_widening : q.topology ≡ Closed → HaveZerosAmong p q.cons (length q.cons.list) → IsWidening p q q
  all_among_is_widening closed all =
      among_is_widening q.cons q
      (record {
        same_dim = refl;
        closed = (stored_is_closed q.cons q.gens stored2).cons;
        those = subst (AreAmong p q.cons (length q.cons.list)) (take_all (length q.cons.list) q.cons.list (omega arith)) (all_those p q.cons (length q.cons.list) (omega arith) all);
        holds = λ v. ((λ i n l a. All-get_or (Satisfies v) q.cons.list n ([], Eq) l i), (λ h. All-from_get_or (Satisfies v) q.cons.list ([], Eq) (λ n l. h n l (all n l))));
      })
      (record { over = record { same_topology = closed; same_dim = refl }; points = λ v pt. ((λ i. i), (λ i. i)) })
