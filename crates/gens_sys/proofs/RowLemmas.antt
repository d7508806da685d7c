-- The generators of marked rows, and how wide the vectors of generators are.
use Rattle.std.specs.Prelude.{◌≡◌, ℕ, zero, suc, pos, negsuc, ◌+◌, ◌-◌, ◌^◌, ◌<◌, ◌≤◌, Bool, true, false, List, [], ◌∷◌, length, take, map, ℤ, All}
use Rattle.std.proofs.Common.{refl, sym, ap, ◌∙◌}
use Rattle.std.proofs.lemmas.Bool.{false≢true}
use Rattle.std.proofs.lemmas.List.{take_all}
use Rattle.std.proofs.lemmas.List.Elements.{All-map}
use Rattle.row_core.specs.Vectors.{cell}
use Rattle.row_core.specs.Lists.{Row}
use Rattle.row_core.specs.MarkedCells.{AreWide, HaveOneWidth, remarked}
use Rattle.gens_sys.specs.Generators.{Generators, vector_kind, generator_of, IsGenerator, FitDimension}
use Rattle.gens_sys.specs.declared.kind.GenKind.{GenKind}
use Rattle.gens_sys.specs.declared.kind.GenKind.TheVariants.{Line, Ray, Point}

-- all vectors have a column for each variable and one more
pub FitDimension-wide : (gs : Generators) (width : ℕ) → FitDimension gs → width ≡ gs.dim + 1 → AreWide width gs.list
FitDimension-wide gs width fits e = λ k d h. (fits.each k d h).wide ∙ sym e

-- the vectors over one dimension have one width
pub FitDimension-one_width : (a b : Generators) → FitDimension a → FitDimension b → b.dim ≡ a.dim → HaveOneWidth a.list b.list
FitDimension-one_width a b fits more e = record {
  width = a.dim + 1;
  of_first = FitDimension-wide a (a.dim + 1) fits refl;
  of_second = FitDimension-wide b (a.dim + 1) more (ap (λ (dim : ℕ). dim + 1) (sym e));
}

vector_kind-nonzero : (d : ℤ) → ¬ (d ≡ pos 0) → vector_kind d ≡ Point
vector_kind-nonzero (pos zero) h = absurd (h refl)
vector_kind-nonzero (pos (suc n)) h = refl
vector_kind-nonzero (negsuc n) h = refl

-- a row that is marked is a line
pub generator_of-line : (dim : ℕ) (row : List ℤ) (line : Bool) → line ≡ true → generator_of dim (row, line) ≡ (row, Line)
generator_of-line dim row true e = refl
generator_of-line dim row false e = absurd (false≢true e)

-- a row that isn't marked and ends with 0 is a ray
pub generator_of-ray : (dim : ℕ) (row : List ℤ) (line : Bool) → line ≡ false → cell row dim ≡ pos 0 → generator_of dim (row, line) ≡ (row, Ray)
generator_of-ray dim row true e z = absurd (false≢true (sym e))
generator_of-ray dim row false e z = ap (λ (d : ℤ). (row, vector_kind d)) z

-- a row that isn't marked and doesn't end with 0 is a point
pub generator_of-point : (dim : ℕ) (row : List ℤ) (line : Bool) → line ≡ false → ¬ (cell row dim ≡ pos 0) → generator_of dim (row, line) ≡ (row, Point)
generator_of-point dim row true e h = absurd (false≢true (sym e))
generator_of-point dim row false e h = ap (λ (kind : GenKind). (row, kind)) (vector_kind-nonzero (cell row dim) h)

-- what the vector of a row generates
abbrev pub kind_of_row : ℕ → Row → GenKind
kind_of_row dim row = (generator_of dim row).1

-- the kind that a mark and the last entry give is that of the row with the mark
pub kind_of_row-is : (dim : ℕ) (row : Row) (line : Bool) (kind : GenKind) → line ≡ row.1 → generator_of dim (row.0, line) ≡ (row.0, kind) → kind ≡ kind_of_row dim row
kind_of_row-is dim row line kind e made = ap (λ (g : List ℤ × GenKind). g.1) (sym made ∙ ap (λ (mark : Bool). generator_of dim (row.0, mark)) e)

-- rows with the kinds of their marks and last entries are generators
remarked-kinds : (dim : ℕ) (rows : List Row) → remarked rows (map (kind_of_row dim) rows) ≡ map (generator_of dim) rows
remarked-kinds dim [] = refl
remarked-kinds dim ((row, true) ∷ rows) = ap (λ (list : List (List ℤ × GenKind)). (row, Line) ∷ list) (remarked-kinds dim rows)
remarked-kinds dim ((row, false) ∷ rows) = ap (λ (list : List (List ℤ × GenKind)). (row, vector_kind (cell row dim)) ∷ list) (remarked-kinds dim rows)

-- rows with the kinds that a loop over all of them made are generators
pub remarked-all_kinds : (dim : ℕ) (rows : List Row) (kinds : List GenKind) (n : ℕ) → length rows ≤ n → kinds ≡ map (kind_of_row dim) (take n rows) → remarked rows kinds ≡ map (generator_of dim) rows
remarked-all_kinds dim rows kinds n all e =
    ap (λ (made : List GenKind). remarked rows made) (e ∙ ap (λ (taken : List Row). map (kind_of_row dim) taken) (take_all n rows all)) ∙ remarked-kinds dim rows

-- the generators of rows that fit their kinds fit the dimension
pub FitDimension-of_rows : (dim : ℕ) (rows : List Row) → dim < 2 ^ 32 - 2 → All (λ row. IsGenerator dim (generator_of dim row)) rows → FitDimension (record { dim = dim; list = map (generator_of dim) rows })
FitDimension-of_rows dim rows narrow each = record { each = All-map (IsGenerator dim) (generator_of dim) rows each; narrow = narrow }
