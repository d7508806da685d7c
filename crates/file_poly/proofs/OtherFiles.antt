-- What is written of the one system that a conversion makes.
use Rattle.std.proofs.Common.{◌≡◌, ℕ, ◌+◌, ◌<◌, ◌^◌, List, length, sym, ap, ◌∙◌, subst}
use Rattle.cons_sys.specs.Constraints as cons
use Rattle.cons_sys.specs.Constraints.{Constraints}
use Rattle.gens_sys.specs.Generators as gens
use Rattle.gens_sys.specs.Generators.{Generators}
use Rattle.cdd_text.specs.ReadBack.{ConstraintsAreReadBack, GeneratorsAreReadBack}
use Rattle.cdd_text.specs.Written.{ine_text, ext_text, HasNoStrict, HasNoClosurePoint}
use Rattle.cdd_reading.specs.declared.format.Format.TheVariants.{Ine, Ext}
use Rattle.row_core.specs.declared.errors.ConvErr.{ConvErr}
use Rattle.row_core.specs.declared.errors.ConvErr.TheVariants as conversion
use Rattle.chernikova.specs.Conversion.{IsRealOverflow}
use Rattle.stored_systems.specs.WorkLists.{constraint_list, generator_list}
use Rattle.stored_systems.specs.StoredLaws.{StoredIsClosed}
use Rattle.poly_pair.specs.KeptLaws.{KeptIsPair, KeptIsEmpty}
use Rattle.file_poly.specs.OtherSystems.{AreStoredGenerators, AreStoredConstraints}
use Rattle.file_poly.specs.Files.{IsOfFile, IsOtherFileOf, IsOverflowOnFirst}
use Rattle.file_poly.specs.declared.listed.Listed.TheVariants.{Cons, Gens}
use Rattle.file_poly.proofs.FileKinds.{written_constraints, written_generators}
use Rattle.file_poly.proofs.WrittenPolyhedra.{closed_forms, constraints_of_points, generators_of_points}

pub no_closure_point : StoredIsClosed → (cs : Constraints) (gs : Generators) → AreStoredGenerators cs gs → HasNoClosurePoint gs
no_closure_point law cs gs s = subst HasNoClosurePoint s.gens (written_generators s.polyhedron.gens (closed_forms law s.polyhedron s.kept s.set.over.same_topology).gens)

pub file_of_generators : StoredIsClosed → KeptIsPair → KeptIsEmpty → GeneratorsAreReadBack → (cs : Constraints) (gs : Generators) (text : List ℕ) → AreStoredGenerators cs gs → gens.FitDimension gs → length gs.list < 2 ^ 64 → text ≡ ext_text gs → IsOtherFileOf (Cons cs) text
file_of_generators stored pair empty law cs gs text s fit few written =
    let p = s.polyhedron in
    let fits : gens.FitDimension p.gens = subst gens.FitDimension (sym s.gens) fit in
    let same : text ≡ ext_text p.gens = written ∙ ap ext_text (sym s.gens) in
    record {
      polyhedron = p;
      set = s.set;
      kept = s.kept;
      fit = fits;
      written = same;
      same_points = subst (λ (t : List ℕ). IsOfFile Ext t p) (sym same)
          (generators_of_points stored pair empty law p s.kept s.set.over.same_topology fits (subst (λ (hs : Generators). length hs.list < 2 ^ 64) (sym s.gens) few));
    }

pub no_strict : StoredIsClosed → (gs : Generators) (cs : Constraints) → AreStoredConstraints gs cs → HasNoStrict cs
no_strict law gs cs s = subst HasNoStrict s.cons (written_constraints s.polyhedron.cons (closed_forms law s.polyhedron s.kept s.set.over.same_topology).cons)

pub file_of_constraints : StoredIsClosed → ConstraintsAreReadBack → (gs : Generators) (cs : Constraints) (text : List ℕ) → AreStoredConstraints gs cs → cons.FitDimension cs → length cs.list < 2 ^ 64 → text ≡ ine_text cs → IsOtherFileOf (Gens gs) text
file_of_constraints stored law gs cs text s fit few written =
    let p = s.polyhedron in
    let fits : cons.FitDimension p.cons = subst cons.FitDimension (sym s.cons) fit in
    let same : text ≡ ine_text p.cons = written ∙ ap ine_text (sym s.cons) in
    record {
      polyhedron = p;
      set = s.set;
      kept = s.kept;
      fit = fits;
      written = same;
      same_points = subst (λ (t : List ℕ). IsOfFile Ine t p) (sym same)
          (constraints_of_points stored law p s.kept s.set.over.same_topology fits (subst (λ (ds : Constraints). length ds.list < 2 ^ 64) (sym s.cons) few));
    }

pub overflow_of_constraints : (cs : Constraints) (cause : ConvErr) → IsRealOverflow (cs.dim + 1) (constraint_list cs) cause → IsOverflowOnFirst (Cons cs) cause
overflow_of_constraints cs (conversion.Overflow over) h = h
overflow_of_constraints cs conversion.Memory h = tt

pub overflow_of_generators : (gs : Generators) (cause : ConvErr) → IsRealOverflow (gs.dim + 1) (generator_list gs) cause → IsOverflowOnFirst (Gens gs) cause
overflow_of_generators gs (conversion.Overflow over) h = h
overflow_of_generators gs conversion.Memory h = tt
