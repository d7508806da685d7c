-- The points of two systems of one set are those that its generators span.
use Rattle.std.specs.Prelude.{◌≡◌, ◌⊎◌, ℕ, List, [], ℤ}
use Rattle.std.proofs.Common.{sym, subst, inl, inr}
use Rattle.row_core.specs.Points.{IsPoint}
use Rattle.cons_sys.specs.Constraints.{Constraints}
use Rattle.gens_sys.specs.Generators.{Generators}
use Rattle.stored_systems.specs.PointSets.{IsWithin}
use Rattle.stored_systems.specs.PairedSystems.{ArePaired}
use Rattle.set_laws.specs.Asking.{IsProper, IsMember}
use Rattle.set_laws.proofs.GeneratorLaws.{spans_law}

pub member_within : {cs : Constraints} {gs : Generators} {v : List ℤ} → ArePaired cs gs → IsMember gs v → IsWithin cs v
member_within {cs} {gs} {v} a m =
    let point : IsPoint cs.dim v = subst (λ (n : ℕ). IsPoint n v) a.same_dim m.point in
    record { point = point; holds = (a.pair v point).1 m.spanned }

pub within_member : {cs : Constraints} {gs : Generators} {v : List ℤ} → ArePaired cs gs → IsWithin cs v → IsMember gs v
within_member {cs} {gs} {v} a w = record { point = subst (λ (n : ℕ). IsPoint n v) (sym a.same_dim) w.point; spanned = (a.pair v w.point).0 w.holds }

-- the generators are none or have a point
pub paired_proper : {cs : Constraints} {gs : Generators} → ArePaired cs gs → IsProper gs
paired_proper {cs} {gs} a = by a.some
  where
    by : (gs.list ≡ []) ⊎ ((p : List ℤ) × IsWithin cs p) → IsProper gs
    by (inl e) = inl e
    by (inr (p, w)) = spans_law gs p (within_member a w).spanned
