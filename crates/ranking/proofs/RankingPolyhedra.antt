-- The polyhedron of the constraints of the generators is that of the ranking functions.
use Rattle.std.proofs.Common.{◌≡◌, inr, ℕ, ◌+◌, ◌/◌, ◌%◌, List, length, ℤ, Option, refl, sym, ap, ◌∙◌, subst, arith, All}
use Rattle.std.specs.Prelude.{Result, Ok, Err, IfOk, IfErr}
use Rattle.row_core.specs.Points.{IsPoint}
use Rattle.row_core.specs.declared.errors.ConvErr.{ConvErr}
use Rattle.row_core.specs.declared.errors.ConvErr.TheVariants as conversion
use Rattle.row_core.specs.declared.errors.Overflow.{Overflow}
use Rattle.cons_sys.specs.declared.kind.ConKind.TheVariants.{Ge}
use Rattle.cons_sys.specs.Constraints.{Constraint, Constraints, In, Satisfies}
use Rattle.gens_sys.specs.Generators.{Generator, Generators, FitDimension}
use Rattle.stored_systems.specs.PointSets.{AreClosed}
use Rattle.stored_systems.specs.WorkLists.{constraint_list, LeavesOnClosed}
use Rattle.set_laws.specs.Asking.{IsTrueOn}
use Rattle.poly_pair.specs.declared.topology.Topology.TheVariants.{Closed}
use Rattle.poly_pair.specs.Polyhedra.{Polyhedron, IsKept, IsOfConstraints}
use Rattle.poly_pair.specs.Refusals.{IsOverflowOn}
use Rattle.poly_pair.specs.Work.{cons_work, conv_overflow, IsConversion}
use Rattle.poly_pair.proofs.StoredLemmas.{kept_dim}
use Rattle.poly_pair.proofs.PairedSystems.{kept_paired}
use Rattle.set_laws.proofs.GeneratorLaws.{true_on_law}
use Rattle.set_laws.proofs.PairedMembers.{member_within, within_member, paired_proper}
use Rattle.row_core.specs.Refusals.{IsOverflowIn}
use Rattle.ranking.specs.Functions.{IsRanking}
use Rattle.ranking.specs.RankingRows.{ranking_rows, IsRankingSystem}
use Rattle.ranking.specs.Rankings.{IsRankingSet}
use Rattle.ranking.specs.Refusals.{SomeLeavesInDifferences, LeavesInRanking, IsRankingConversion, IsUnconverted}
use Rattle.ranking.proofs.PairValues.{bound_of, fall_of}
use Rattle.ranking.proofs.RankingSets.{reduced_hold, hold_reduced, reduced_closed, rows_closed, rows_hold, rows_bound, rows_fall, ranks_of, bound_ranks, fall_ranks}

-- ---- the functions
pub ranking_closed : (n : ℕ) (gs : Generators) (system : Constraints) → IsRankingSystem n gs system → AreClosed system
ranking_closed n gs system s = reduced_closed (ranking_rows n gs.list) system.list s.reduced (rows_closed n gs.list)

module _ (n : ℕ) (relation : Polyhedron) (k : IsKept relation) (fit : FitDimension relation.gens) (pairs : relation.cons.dim ≡ n + n) (system : Constraints) (s : IsRankingSystem n relation.gens system) where
  gens_dim : relation.gens.dim ≡ n + n
  gens_dim = kept_dim relation k ∙ pairs

  all_wide : All (λ (g : Generator). length g.0 ≡ n + n + 1) relation.gens.list
  all_wide i d h = (fit.each i d h).wide ∙ ap (λ (m : ℕ). m + 1) gens_dim

  module _ (f : List ℤ) (f_wide : length f ≡ n + 1 + 1) where
    is_ranking : In system f → IsRanking n relation.cons f
    is_ranking h pair w = ranks_of n f f_wide pair (bounds pair (within_member (kept_paired relation k) w)) (falls pair (within_member (kept_paired relation k) w))
      where
        rows : All (λ (c : Constraint). Satisfies f c) (ranking_rows n relation.gens.list)
        rows = hold_reduced f (ranking_rows n relation.gens.list) system.list s.reduced (rows_closed n relation.gens.list) h

        bounds : IsTrueOn relation.gens (bound_of n f, Ge)
        bounds = (true_on_law relation.gens (bound_of n f, Ge) fit (paired_proper (kept_paired relation k))).1 (rows_bound n f f_wide relation.gens.list all_wide rows)

        falls : IsTrueOn relation.gens (fall_of n f, Ge)
        falls = (true_on_law relation.gens (fall_of n f, Ge) fit (paired_proper (kept_paired relation k))).1 (rows_fall n f f_wide relation.gens.list all_wide rows)

    ranking_holds : IsRanking n relation.cons f → In system f
    ranking_holds r =
        reduced_hold f (ranking_rows n relation.gens.list) system.list s.reduced
        (rows_hold n f f_wide relation.gens.list all_wide
        ((true_on_law relation.gens (bound_of n f, Ge) fit (paired_proper (kept_paired relation k))).0 (λ pair m. bound_ranks n f f_wide pair (r pair (member_within (kept_paired relation k) m))))
        ((true_on_law relation.gens (fall_of n f, Ge) fit (paired_proper (kept_paired relation k))).0 (λ pair m. fall_ranks n f f_wide pair (r pair (member_within (kept_paired relation k) m)))))

  -- the points of the system's constraints are the functions
  pub ranking_points : (result : Polyhedron) → IsOfConstraints Closed system result → IsRankingSet n relation result
  ranking_points result o = record {
    over = record { same_topology = o.over.same_topology; same_dim = o.over.same_dim ∙ s.same_dim };
    points = λ f point. (
      (λ h. is_ranking f point.wide ((o.points f (at_dim f point)).1 h)),
      (λ r. (o.points f (at_dim f point)).0 (ranking_holds f point.wide r)),
    );
  }
    where
      at_dim : (f : List ℤ) → IsPoint (n + 1) f → IsPoint system.dim f
      at_dim f point = subst (λ (m : ℕ). IsPoint m f) (sym s.same_dim) point

-- ---- refusals

pub list_refusal : (n : ℕ) (gs : Generators) (system : Constraints) (cause : ConvErr) → IsRankingSystem n gs system → IsOverflowOn (system.dim + 1) system.dim (constraint_list system) cause → IsOverflowIn (LeavesInRanking n gs) cause
list_refusal n gs system (conversion.Overflow over) s leaves = inr (record {
  system = system;
  is_system = s;
  leaves = subst (λ (m : ℕ). LeavesOnClosed m (constraint_list system) over) s.same_dim leaves;
})
list_refusal n gs system conversion.Memory s leaves = tt

-- ---- what the call lends
halves : (d : ℕ) → d % 2 ≡ 0 → d ≡ d / 2 + d / 2
halves d e = omega arith

module _ (relation : Polyhedron) (k : IsKept relation) (gs : Generators) (same : gs ≡ relation.gens) (d : ℕ) (dim_is : d ≡ relation.cons.dim) where
  lent_system : (system : Constraints) → IsRankingSystem (d / 2) gs system → IsRankingSystem (relation.cons.dim / 2) relation.gens system
  lent_system system s = subst (λ (m : ℕ). IsRankingSystem (m / 2) relation.gens system) dim_is (subst (λ (hs : Generators). IsRankingSystem (d / 2) hs system) same s)

  pub lent_points : FitDimension gs → relation.cons.dim % 2 ≡ 0 → (system : Constraints) → IsRankingSystem (d / 2) gs system → (r : Result Polyhedron ConvErr) → IfOk r (IsOfConstraints Closed system) → IfOk r (IsRankingSet (relation.cons.dim / 2) relation)
  lent_points fit even system s (Ok result) o = ranking_points (relation.cons.dim / 2) relation k (subst FitDimension same fit) (halves relation.cons.dim even) system (lent_system system s) result o
  lent_points fit even system s (Err cause) o = tt

  pub lent_list_refusal : (system : Constraints) → IsRankingSystem (d / 2) gs system → (r : Result Polyhedron ConvErr) → IfErr r (IsOverflowOn (system.dim + 1) system.dim (constraint_list system)) → IfErr r (IsOverflowIn (LeavesInRanking (relation.cons.dim / 2) relation.gens))
  lent_list_refusal system s (Ok result) leaves = tt
  lent_list_refusal system s (Err cause) leaves = list_refusal (relation.cons.dim / 2) relation.gens system cause (lent_system system s) leaves

  pub lent_conversion : (system : Constraints) → IsRankingSystem (d / 2) gs system → (old new : ℕ) (over : Option Overflow) → IsConversion (cons_work Closed system) old new over → IsRankingConversion (relation.cons.dim / 2) relation.gens old new over
  lent_conversion system s old new over c = record { system = system; is_system = lent_system system s; conversion = c }

  pub lent_unconverted : (steps : ℕ) (cause : ConvErr) → IsOverflowIn (SomeLeavesInDifferences (d / 2) gs.list) cause → IsUnconverted (relation.cons.dim / 2) relation.gens steps steps (conv_overflow cause)
  lent_unconverted steps (conversion.Overflow over) l = record {
    same = refl;
    leaves =
        subst (λ (m : ℕ). SomeLeavesInDifferences (m / 2) relation.gens.list over) dim_is
        (subst (λ (hs : Generators). SomeLeavesInDifferences (d / 2) hs.list over) same l);
  }
  lent_unconverted steps conversion.Memory l = record { same = refl; leaves = tt }
