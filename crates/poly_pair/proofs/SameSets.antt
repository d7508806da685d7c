-- What a closed polyhedron stores is of a list that begins with its own, where further rows change nothing.
use Rattle.std.proofs.Common.{◌≡◌, ◌+◌, ℕ, List, ◌++◌, [], length, ℤ, refl, sym, subst, inr, arith}
use Rattle.row_core.specs.Lists.{Row}
use Rattle.cone_laws.specs.Canon.{Canon}
use Rattle.cone_laws.specs.Cones.{Upto}
use Rattle.cone_laws.specs.Members.{ConeOf}
use Rattle.cone_laws.specs.UniqueLaws.{AdmitSame}
use Rattle.cone_laws.specs.DualSystems.{AreSystemsOf}
use Rattle.cone_laws.proofs.MemberLemmas.{first_alone, canon_same}
use Rattle.stored_systems.specs.WorkLists.{constraint_list, generator_list}
use Rattle.stored_systems.specs.StoredForms.{IsPairForm}
use Rattle.poly_pair.specs.declared.topology.Topology.TheVariants.{Closed}
use Rattle.poly_pair.specs.Polyhedra.{Polyhedron, IsKept}
use Rattle.poly_pair.specs.FirstLists.{IsConstraintList, IsGeneratorList, IsOfRows, IsOfVectors}
use Rattle.poly_pair.specs.Parts.{AreStoredOfRows, AreStoredOfVectors}
use Rattle.poly_pair.proofs.ListLemmas.{rows_of_pair, vectors_of_pair}
use Rattle.poly_pair.proofs.Starts.{pair_form}
use Rattle.stored_systems.proofs.StoredLists.{listed_canon, generator_rows}

-- the canonical system of the first rows is that of the list
canon_moved : (width from : ℕ) (taken further list : List Row) (lines rays : List (List ℤ)) → list ≡ taken ++ further → from ≡ length taken → AdmitSame width list from list (length list) → Canon (ConeOf width taken) lines rays → Canon (ConeOf width list) lines rays
canon_moved width from taken further list lines rays e f same =
    canon_same (ConeOf width taken) (ConeOf width list) lines rays (λ v u. same.first v (to v u)) (λ v u. back v (same.second v u))
  where
    to : (v : List ℤ) → ConeOf width taken v → Upto width list from v
    to v u = subst (λ (rs : List Row). Upto width rs from v) (sym e) (subst (λ (n : ℕ). Upto width (taken ++ further) n v) (sym f) ((first_alone width taken further (length taken) v (omega arith)).1 u))

    back : (v : List ℤ) → Upto width list from v → ConeOf width taken v
    back v u = (first_alone width taken further (length taken) v (omega arith)).0 (subst (λ (n : ℕ). Upto width (taken ++ further) n v) f (subst (λ (rs : List Row). Upto width rs from v) e u))

module _ (p : Polyhedron) (k : IsKept p) (closed : p.topology ≡ Closed) (some : ¬ (p.gens.list ≡ [])) (dim from : ℕ) (same_dim : p.cons.dim ≡ dim) (further list : List Row) (same : AdmitSame (dim + 1) list from list (length list)) where
  form : IsPairForm p.cons p.gens
  form = pair_form p k closed some

  here : AdmitSame (p.cons.dim + 1) list from list (length list)
  here = subst (λ (n : ℕ). AdmitSame (n + 1) list from list (length list)) (sym same_dim) same

  -- ---- a constraint list
  rows_systems : list ≡ constraint_list p.cons ++ further → from ≡ length (constraint_list p.cons) → AreSystemsOf (p.cons.dim + 1) list form.lines form.rays form.equalities form.inequalities
  rows_systems e f = record {
    first = canon_moved (p.cons.dim + 1) from (constraint_list p.cons) further list form.lines form.rays e f here (listed_canon p.cons p.gens form);
    second = form.systems.dual.rows;
  }

  pub same_rows : IsConstraintList Closed dim list → list ≡ constraint_list p.cons ++ further → from ≡ length (constraint_list p.cons) → IsOfRows Closed dim list p
  same_rows l e f =
      let l' : IsConstraintList Closed p.cons.dim list = subst (λ (n : ℕ). IsConstraintList Closed n list) (sym same_dim) l in
      subst (λ (n : ℕ). IsOfRows Closed n list p) same_dim
      (rows_of_pair p.cons.dim list form.lines form.rays form.equalities form.inequalities p l' (rows_systems e f) form.systems.point closed refl form.cons)

  pub same_stored_rows : list ≡ constraint_list p.cons ++ further → from ≡ length (constraint_list p.cons) → AreStoredOfRows Closed dim list p
  same_stored_rows e f =
      subst (λ (n : ℕ). AreStoredOfRows Closed n list p) same_dim
      (inr (record {
        lines = form.lines;
        rays = form.rays;
        equalities = form.equalities;
        inequalities = form.inequalities;
        systems = rows_systems e f;
        point = form.systems.point;
        some = some;
        stored = record { cons = form.cons; gens = form.gens };
      }))

  -- ---- a generator list
  vectors_systems : list ≡ generator_list p.gens ++ further → from ≡ length (generator_list p.gens) → AreSystemsOf (p.cons.dim + 1) list form.equalities form.inequalities form.lines form.rays
  vectors_systems e f = record {
    first =
        canon_moved (p.cons.dim + 1) from (generator_list p.gens) further list form.equalities form.inequalities e f here
        (subst (λ (rs : List Row). Canon (ConeOf (p.cons.dim + 1) rs) form.equalities form.inequalities) (sym (generator_rows p.cons p.gens form)) form.systems.dual.rows);
    second = form.systems.dual.vectors;
  }

  pub same_vectors : IsGeneratorList Closed dim list → list ≡ generator_list p.gens ++ further → from ≡ length (generator_list p.gens) → IsOfVectors Closed dim list p
  same_vectors l e f =
      let l' : IsGeneratorList Closed p.cons.dim list = subst (λ (n : ℕ). IsGeneratorList Closed n list) (sym same_dim) l in
      subst (λ (n : ℕ). IsOfVectors Closed n list p) same_dim
      (vectors_of_pair p.cons.dim list form.equalities form.inequalities form.lines form.rays p l' (vectors_systems e f) closed refl form.cons)

  pub same_stored_vectors : list ≡ generator_list p.gens ++ further → from ≡ length (generator_list p.gens) → AreStoredOfVectors Closed dim list p
  same_stored_vectors e f =
      subst (λ (n : ℕ). AreStoredOfVectors Closed n list p) same_dim
      (record {
        equalities = form.equalities;
        inequalities = form.inequalities;
        lines = form.lines;
        rays = form.rays;
        systems = vectors_systems e f;
        some = some;
        stored = record { cons = form.cons; gens = form.gens };
      })
