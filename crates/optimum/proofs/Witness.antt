-- The generator that an answer numbers shows the bound.
use Rattle.std.specs.Prelude.{◌≡◌, ℕ, List, [], ℤ, Bool, Ok}
use Rattle.std.proofs.Math.IntN.{◌*ℤ◌}
use Rattle.std.proofs.Common.{subst}
use Rattle.std.proofs.lemmas.List.Elements.{All-get_or}
use Rattle.row_core.specs.Vectors.{cell, dot}
use Rattle.row_core.specs.Points.{IsPoint}
use Rattle.cons_sys.specs.Kinds.{Allows}
use Rattle.cons_sys.specs.Constraints.{Constraint, Satisfies}
use Rattle.cons_sys.specs.declared.kind.ConKind.{ConKind}
use Rattle.cons_sys.specs.declared.kind.ConKind.TheVariants.{Eq, Ge, Gt}
use Rattle.gens_sys.specs.Generators.{row_at, kind_at, FitDimension}
use Rattle.gens_sys.specs.declared.kind.GenKind.{GenKind}
use Rattle.gens_sys.specs.declared.kind.GenKind.TheVariants.{Line, Ray, Point, ClosurePoint}
use Rattle.stored_systems.specs.PointSets.{IsClosedKind, IsWithin}
use Rattle.poly_pair.specs.Polyhedra.{Polyhedron, IsKept}
use Rattle.poly_pair.proofs.StoredLemmas.{kept_dim}
use Rattle.set_laws.specs.Asking.{Asks, MeetsOn}
use Rattle.set_laws.proofs.GeneratorLaws.{true_on_law}
use Rattle.set_laws.proofs.Members.{fits_at, member_at}
use Rattle.optimum.specs.Relations.{HoldsThroughout}
use Rattle.optimum.specs.Search.{IsPointKind}
use Rattle.optimum.specs.Suprema.{IsSupremum, IsFound}
use Rattle.optimum.specs.Laws.{IsWitness, GeneratorIsWitness}
use Rattle.optimum.specs.declared.outcome.Sup.TheVariants as sup
use Rattle.optimum.proofs.MemberLemmas.{members, proper}
use Rattle.optimum.proofs.BestLemmas.{point_divisor}
use Rattle.optimum.proofs.SupremumLemmas.{point_value}
use Rattle.optimum.proofs.OptimumLemmas.{sup_true}

-- what a constraint that isn't strict asks of a point is that it holds there
asked_of_point : (kind : ConKind) (g : GenKind) (x : ℤ) → IsClosedKind kind → IsPointKind g → Asks kind g x → Allows kind x
asked_of_point Eq g x c p a = a
asked_of_point Ge Line x c p a = absurd p
asked_of_point Ge Ray x c p a = absurd p
asked_of_point Ge Point x c p a = a
asked_of_point Ge ClosurePoint x c p a = a
asked_of_point Gt g x c p a = absurd c

module _ (up : Bool) (row : List ℤ) (p : Polyhedron) (num den : ℤ) (attained : Bool) (index : ℕ) (k : IsKept p) (fits : FitDimension p.gens) (found : IsFound up row p.gens num den attained index) where
  abbrev g : List ℤ
  g = row_at p.gens.list index

  bound : IsSupremum up row p.cons.dim (IsWithin p.cons) num den attained
  bound = sup_true up row p k fits (Ok (sup.At num den attained index)) found

  point : IsPoint p.cons.dim g
  point = subst (λ (n : ℕ). IsPoint n g) (kept_dim p k) (record { wide = (fits_at p.gens fits index found.best.below).wide; positive = point_divisor up row p.gens fits index found.best.below found.best.kind })

  value : den *ℤ dot row g ≡ num *ℤ cell g p.cons.dim
  value = subst (λ (n : ℕ). den *ℤ dot row g ≡ num *ℤ cell g n) (kept_dim p k) (point_value up row p.gens fits (proper p k) found.reached index found.best num den found.lowest)

  closure : (c : Constraint) → IsClosedKind c.1 → HoldsThroughout p.cons c → Satisfies g c
  closure c closed holds =
      asked_of_point c.1 (kind_at p.gens.list index) (dot c.0 g) closed found.best.kind
      (All-get_or (MeetsOn c) p.gens.list index ([], Line) found.best.below ((true_on_law p.gens c fits (proper p k)).0 (λ v m. holds v ((members p k v).0 m))))

  witness : IsWitness up row p num den attained g
  witness = record {
    point = point;
    closure = closure;
    inside = ((λ t. (members p k g).0 (member_at p.gens fits index found.best.below (found.point.0 t))), (λ w. bound.reached.1 (g, w, value)));
    value = value;
    bound = bound.bound;
  }

pub generator_is_witness : GeneratorIsWitness
generator_is_witness up row p num den attained index k fits found = witness up row p num den attained index k fits found
