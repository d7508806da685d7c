-- The constraints of marked rows, and how wide the rows of constraints are.
use Rattle.std.specs.Prelude.{◌≡◌, ℕ, ◌+◌, ◌-◌, ◌^◌, ◌<◌, ◌≤◌, Bool, true, false, List, [], ◌∷◌, length, take, map, ℤ, All, slice_index_or}
use Rattle.std.proofs.Common.{refl, sym, ap, ◌∙◌, subst, arith}
use Rattle.std.proofs.Math.ListN.{get_or-map}
use Rattle.std.proofs.lemmas.List.{take_all}
use Rattle.std.proofs.lemmas.List.Elements.{All-map}
use Rattle.row_core.specs.Range.{AllInRange}
use Rattle.row_core.specs.Content.{IsPrimitive}
use Rattle.row_core.specs.Lists.{Row, Rows, vectors, FitWidth}
use Rattle.row_core.specs.MarkedCells.{AreWide, HaveOneWidth, remarked}
use Rattle.row_core.proofs.RowListLemmas.{length-vectors}
use Rattle.cons_sys.specs.Constraints.{Constraints, constraint_of, IsConstraint, FitDimension}
use Rattle.cons_sys.specs.declared.kind.ConKind.{ConKind}
use Rattle.cons_sys.specs.declared.kind.ConKind.TheVariants.{Eq, Ge}

-- all rows have a column for each variable and one more
pub FitDimension-wide : (cs : Constraints) (width : ℕ) → FitDimension cs → width ≡ cs.dim + 1 → AreWide width cs.list
FitDimension-wide cs width fits e = λ k d h. (fits.each k d h).wide ∙ sym e

-- the rows over one dimension have one width
pub FitDimension-one_width : (a b : Constraints) → FitDimension a → FitDimension b → b.dim ≡ a.dim → HaveOneWidth a.list b.list
FitDimension-one_width a b fits more e = record {
  width = a.dim + 1;
  of_first = FitDimension-wide a (a.dim + 1) fits refl;
  of_second = FitDimension-wide b (a.dim + 1) more (ap (λ (dim : ℕ). dim + 1) (sym e));
}

-- what the constraint of a row asks
abbrev pub kind_of_row : Row → ConKind
kind_of_row row = (constraint_of row).1

-- the kind that a mark gives is that of the row with the mark
pub kind_of_row-is : (row : Row) (eq : Bool) (kind : ConKind) → eq ≡ row.1 → ((entries : List ℤ) → constraint_of (entries, eq) ≡ (entries, kind)) → kind ≡ kind_of_row row
kind_of_row-is row eq kind e made = ap (λ (c : List ℤ × ConKind). c.1) (sym (made row.0) ∙ ap (λ (mark : Bool). constraint_of (row.0, mark)) e)

-- rows with the kinds of their marks are constraints
remarked-kinds : (rows : List Row) → remarked rows (map kind_of_row rows) ≡ map constraint_of rows
remarked-kinds [] = refl
remarked-kinds ((row, true) ∷ rows) = ap (λ (list : List (List ℤ × ConKind)). (row, Eq) ∷ list) (remarked-kinds rows)
remarked-kinds ((row, false) ∷ rows) = ap (λ (list : List (List ℤ × ConKind)). (row, Ge) ∷ list) (remarked-kinds rows)

-- rows with the kinds that a loop over all of them made are constraints
pub remarked-all_kinds : (rows : List Row) (kinds : List ConKind) (n : ℕ) → length rows ≤ n → kinds ≡ map kind_of_row (take n rows) → remarked rows kinds ≡ map constraint_of rows
remarked-all_kinds rows kinds n all e =
    ap (λ (made : List ConKind). remarked rows made) (e ∙ ap (λ (taken : List Row). map kind_of_row taken) (take_all n rows all)) ∙ remarked-kinds rows

constraint_of-fits : (dim : ℕ) (row : Row) → length row.0 ≡ dim + 1 → AllInRange row.0 → IsPrimitive row.0 → IsConstraint dim (constraint_of row)
constraint_of-fits dim (row, true) wide in_range primitive = record { wide = wide; in_range = in_range; primitive = primitive }
constraint_of-fits dim (row, false) wide in_range primitive = record { wide = wide; in_range = in_range; primitive = primitive }

-- the constraints of primitive rows fit the dimension
pub FitDimension-of_rows : (list : Rows) (dim : ℕ) → FitWidth list → dim < 2 ^ 32 - 2 → list.width ≡ dim + 1 → All IsPrimitive (vectors list.rows) → FitDimension (record { dim = dim; list = map constraint_of list.rows })
FitDimension-of_rows list dim fits narrow wide primitive = record {
  each = All-map (IsConstraint dim) constraint_of list.rows (λ k d h.
      constraint_of-fits dim (slice_index_or list.rows k d) ((fits.each k d h).wide ∙ wide) (fits.each k d h).in_range
      (subst IsPrimitive (get_or-map (λ (row : Row). row.0) list.rows k d) (primitive k d.0 (omega (arith, length-vectors list.rows)))));
  narrow = narrow;
}
