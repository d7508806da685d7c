-- What is written of a polyhedron is a file of its points.
use Rattle.std.proofs.Common.{◌≡◌, ℕ, ◌<◌, ◌^◌, zero, suc, List, [], ◌∷◌, length, Bool, true, false, refl, sym, subst, arith, inl, inr, ◌⊎◌}
use Rattle.std.specs.Prelude.{IfOk, Result, Ok, Err, ℤ}
use Rattle.std.specs.List.{list_any}
use Rattle.row_core.specs.declared.errors.Memory.{Memory}
use Rattle.cons_sys.specs.Constraints as cons
use Rattle.gens_sys.specs.Generators as gens
use Rattle.gens_sys.specs.Generators.{Generator}
use Rattle.gens_sys.specs.Spans.{Span}
use Rattle.row_core.specs.Points.{IsPoint}
use Rattle.gens_sys.specs.declared.kind.GenKind.TheVariants.{Line, Ray, Point, ClosurePoint}
use Rattle.cdd_reading.specs.Files.{is_point}
use Rattle.cdd_text.specs.ReadBack.{ConstraintsAreReadBack, GeneratorsAreReadBack}
use Rattle.cdd_text.specs.Written.{ine_text, ext_text}
use Rattle.cdd_reading.specs.declared.format.Format.TheVariants.{Ine, Ext}
use Rattle.stored_systems.specs.PointSets.{IsWithin}
use Rattle.stored_systems.specs.StoredLaws.{StoredIsClosed, AreClosedForms}
use Rattle.poly_pair.specs.FirstLists.{HasNoPointKind}
use Rattle.poly_pair.specs.KeptLaws.{KeptIsPair, KeptIsEmpty}
use Rattle.poly_pair.specs.Polyhedra.{Polyhedron, IsKept, IsStoredAs}
use Rattle.poly_pair.specs.declared.topology.Topology.{Topology}
use Rattle.poly_pair.specs.declared.topology.Topology.TheVariants.{Closed}
use Rattle.file_poly.specs.Files.{IsOfFile}
use Rattle.file_poly.specs.declared.listed.Listed.TheVariants.{Cons, Gens}
use Rattle.file_poly.proofs.FileKinds.{written_constraints, written_generators}

pub closed_forms : StoredIsClosed → (p : Polyhedron) → IsKept p → p.topology ≡ Closed → AreClosedForms p.cons p.gens
closed_forms law p kept closed = law p.cons p.gens (subst (λ (t : Topology). IsStoredAs t p.cons p.gens) closed kept.stored)

-- ---- constraints
pub constraints_of_points : StoredIsClosed → ConstraintsAreReadBack → (p : Polyhedron) → IsKept p → p.topology ≡ Closed → cons.FitDimension p.cons → length p.cons.list < 2 ^ 64 → IsOfFile Ine (ine_text p.cons) p
constraints_of_points stored law p kept closed fit few = record {
  list = Cons p.cons;
  read = (law p.cons fit (omega (arith, kept.narrow)) few (written_constraints p.cons (closed_forms stored p kept closed).cons)).0;
  set = record { over = record { same_topology = closed; same_dim = refl }; points = λ v pt. (λ h. h, λ h. h) };
}

-- ---- generators
no_point_kind : (list : List Generator) → list_any is_point list ≡ false → HasNoPointKind list
no_point_kind [] e i h k = absurd (omega (arith, h))
no_point_kind ((row, Point) ∷ list) e i h k = let no : true ≡ false = e in cc
no_point_kind ((row, Line) ∷ list) e zero h k = cc
no_point_kind ((row, Line) ∷ list) e (suc i) h k = no_point_kind list e i (omega (arith, h)) k
no_point_kind ((row, Ray) ∷ list) e zero h k = cc
no_point_kind ((row, Ray) ∷ list) e (suc i) h k = no_point_kind list e i (omega (arith, h)) k
no_point_kind ((row, ClosurePoint) ∷ list) e zero h k = cc
no_point_kind ((row, ClosurePoint) ∷ list) e (suc i) h k = no_point_kind list e i (omega (arith, h)) k

-- the generators of a polyhedron have a point, where there are any
none_or_point : KeptIsPair → KeptIsEmpty → (p : Polyhedron) → IsKept p → (b : Bool) → list_any is_point p.gens.list ≡ b → (p.gens.list ≡ []) ⊎ (list_any is_point p.gens.list ≡ true)
none_or_point pair empty p kept true e = inr e
none_or_point pair empty p kept false e = inl ((empty p kept).1 none_within)
  where
    none_within : (v : List ℤ) → ¬ (IsWithin p.cons v)
    none_within v w =
        let s : Span p.gens v = (pair p kept v w.point).0 w.holds in
        no_point_kind p.gens.list e s.point.index s.point.within s.point.kind

pub generators_of_points : StoredIsClosed → KeptIsPair → KeptIsEmpty → GeneratorsAreReadBack → (p : Polyhedron) → IsKept p → p.topology ≡ Closed → gens.FitDimension p.gens → length p.gens.list < 2 ^ 64 → IsOfFile Ext (ext_text p.gens) p
generators_of_points stored pair empty law p kept closed fit few =
    let forms = closed_forms stored p kept closed in
    record {
      list = Gens p.gens;
      read = (law p.gens fit (omega (arith, kept.narrow, forms.same_dim)) few (written_generators p.gens forms.gens) (none_or_point pair empty p kept (list_any is_point p.gens.list) refl)).0;
      set = record {
        over = record { same_topology = closed; same_dim = sym forms.same_dim };
        points = λ v pt. (let same = pair p kept v (subst (λ (n : ℕ). IsPoint n v) forms.same_dim pt) in (same.1, same.0));
      };
    }

-- ---- results
-- where the text is this one, what holds of it holds of the text
pub at_text : (P : List ℕ → Type 0) (r : Result (List ℕ) Memory) (whole : List ℕ) → IfOk r (λ text. text ≡ whole) → P whole → IfOk r P
at_text P (Ok text) whole e h = subst P (sym e) h
at_text P (Err cause) whole e h = tt
