-- The system of the generators of a closed polyhedron with a point as that of the first rows of the freed list.
use Rattle.std.proofs.Common.{◌≡◌, ℕ, ◌+◌, [], ◌∷◌, length, true, sym, ◌∙◌, subst, arith}
use Rattle.std.specs.Prelude.{None}
use Rattle.std.proofs.lemmas.List.{length-append, length-map}
use Rattle.row_core.specs.Lists.{Rows}
use Rattle.chernikova.specs.declared.cone.Cone.{Cone}
use Rattle.stored_systems.specs.Axes.{axis}
use Rattle.stored_systems.specs.WorkLists.{generator_row, generator_list}
use Rattle.poly_pair.specs.Polyhedra.{Polyhedron}
use Rattle.poly_pair.specs.Starts.{IsStartOf}
use Rattle.poly_pair.specs.Work.{IsFirstConversion}
use Rattle.poly_pair.proofs.Additions.{start_moved}
use Rattle.poly_pair.proofs.WorkLemmas.{first_unconverted}
use Rattle.affine_maps.specs.Collapsing.{freed_list, freed_work}

-- the generators of a polyhedron, and the axis of a variable
pub freed_start : (p : Polyhedron) (var : ℕ) (start : Cone) (list : Rows) (from : ℕ) → list.width ≡ p.cons.dim + 1 → list.rows ≡ freed_list var p → from ≡ length p.gens.list → IsStartOf (p.cons.dim + 1) (generator_list p.gens) (length (generator_list p.gens)) start → IsStartOf list.width list.rows from start
freed_start p var start list from w e f s =
    subst (λ (n : ℕ). IsStartOf n list.rows from start) (sym w)
    (start_moved (p.cons.dim + 1) from (generator_list p.gens) ((axis p.cons.dim var, true) ∷ []) list.rows start e (f ∙ sym (length-map p.gens.list generator_row)) s)

pub freed_unconverted : (p : Polyhedron) (var steps : ℕ) → IsFirstConversion (freed_work var p) steps steps None
freed_unconverted p var steps = first_unconverted (freed_work var p) steps (omega (arith, length-append (generator_list p.gens) ((axis p.cons.dim var, true) ∷ []), length-map p.gens.list generator_row))
