-- The lists of what is stored of a closed set, and the marks of their rows.
use Rattle.std.proofs.Common.{◌≡◌, ℕ, ◌+◌, ◌-◌, ◌<◌, ◌≤◌, List, [], ◌∷◌, ◌++◌, length, map, filter, not, drop, replicate, Bool, true, false, ℤ, refl, sym, ap, ◌∙◌, subst, arith}
use mathlib.Core.Bool.{true≢false}
use Rattle.std.proofs.lemmas.List.{replicate-append-replicate}
use Rattle.std.proofs.lemmas.List.Elements.{All-weaker, filter_passes}
use Rattle.flat_rows.specs.Flat.{marked}
use Rattle.flat_rows.proofs.Marked.{marked_all}
use Rattle.row_core.specs.Lists.{Row, vectors, system_rows, AreMarked}
use Rattle.cone_laws.specs.Canon.{Canon}
use Rattle.cone_laws.specs.Members.{ConeOf}
use Rattle.cone_laws.proofs.MemberLemmas.{canon_same}
use Rattle.sat_matrix.specs.Tables.{Table}
use Rattle.cons_sys.specs.Constraints.{Constraint, Constraints}
use Rattle.gens_sys.specs.Generators.{Generators}
use Rattle.stored_systems.specs.WorkLists.{constraint_list, generator_row, generator_list}
use Rattle.stored_systems.specs.StoredForms.{stored_constraints, IsPairForm}
use Rattle.stored_systems.specs.Marks.{has_mark}
use Rattle.stored_systems.specs.Zeros.{ArePairZeros}
use Rattle.stored_systems.proofs.StoredPair.{gen_list_stored, cone_listed, listed_cone}

-- ---- its lists
pub generator_rows : (cs : Constraints) (gs : Generators) (f : IsPairForm cs gs) → generator_list gs ≡ system_rows f.lines f.rays
generator_rows cs gs f = ap (map generator_row) f.gens ∙ gen_list_stored cs.dim f.lines f.rays

not_marked : (b : Bool) → not b ≡ true → b ≡ false
not_marked true e = absurd (true≢false (sym e))
not_marked false e = refl

pub marked_true : (rows list : List Row) → rows ≡ filter (has_mark true) list → AreMarked true rows
marked_true rows list e = subst (AreMarked true) (sym e) (filter_passes (has_mark true) list)

pub marked_false : (rows list : List Row) → rows ≡ filter (has_mark false) list → AreMarked false rows
marked_false rows list e = subst (AreMarked false) (sym e) (All-weaker (λ (row : Row). not row.1 ≡ true) (λ (row : Row). row.1 ≡ false) (λ row h. not_marked row.1 h) (filter (has_mark false) list) (filter_passes (has_mark false) list))

-- ---- the constraint list
pub listed_canon : (cs : Constraints) (gs : Generators) (f : IsPairForm cs gs) → Canon (ConeOf (cs.dim + 1) (constraint_list cs)) f.lines f.rays
listed_canon cs gs f =
    subst (λ (xs : List Constraint). Canon (ConeOf (cs.dim + 1) (constraint_list (record { dim = cs.dim; list = xs }))) f.lines f.rays) (sym f.cons)
    (canon_same (ConeOf (cs.dim + 1) (system_rows f.equalities f.inequalities)) (ConeOf (cs.dim + 1) (constraint_list (record { dim = cs.dim; list = stored_constraints cs.dim f.equalities f.inequalities }))) f.lines f.rays
    (cone_listed cs.dim f.lines f.rays f.equalities f.inequalities f.systems) (listed_cone cs.dim f.lines f.rays f.equalities f.inequalities f.systems) f.systems.dual.vectors)

-- the row of the divisor is kept
pub first_kept : (cs : Constraints) (gs : Generators) (table : Table) (kept : List (List Bool)) → ArePairZeros cs gs table → kept ≡ marked (map (has_mark false) (constraint_list cs)) table.rows → 0 < length kept
first_kept cs gs table kept z e = subst (λ (bits : List (List Bool)). 0 < length bits) (sym e) (by_rows table.rows z.each.as_many)
  where
    by_rows : (rows : List (List Bool)) → length rows ≡ length (vectors (constraint_list cs)) → 0 < length (marked (map (has_mark false) (constraint_list cs)) rows)
    by_rows [] h = absurd (omega (arith, h))
    by_rows (bits ∷ rows) h = omega arith

-- ---- marks
pub first_dropped : {X : Type 0} (xs : List X) (n : ℕ) (marks : List Bool) → n ≡ length xs → marks ≡ false ∷ replicate (n - 1) true → marked marks xs ≡ drop 1 xs
first_dropped [] n marks e f = ap (λ (ms : List Bool). marked ms []) f
first_dropped (x ∷ xs) n marks e f = ap (λ (ms : List Bool). marked ms (x ∷ xs)) f ∙ marked_all (n - 1) xs (omega (arith, e))

one_less : (i : ℕ) → 1 ≤ i → i - 1 + 1 ≡ i + 1 - 1
one_less i h = omega (arith, h)

pub one_mark_more : (items new : List Bool) (i : ℕ) → 1 ≤ i → items ≡ false ∷ replicate (i - 1) true → new ≡ items ++ true ∷ [] → new ≡ false ∷ replicate (i + 1 - 1) true
one_mark_more items new i h e f = f ∙ ap (λ (xs : List Bool). xs ++ true ∷ []) e ∙ ap (λ (xs : List Bool). false ∷ xs) (replicate-append-replicate (i - 1) 1 true ∙ ap (λ (n : ℕ). replicate n true) (one_less i h))
