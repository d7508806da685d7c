-- What the commands mean that only say something of a polyhedron, or of the names.
use Rattle.std.specs.Prelude.{◌≡◌, ◌↔◌, ℕ, List, ◌++◌, length, ℤ, Bool, true, false, IsTrue, Ok, codes, decimal}
use Rattle.row_core.specs.declared.errors.Overflow.{Overflow}
use Rattle.row_core.specs.declared.errors.PairOver.{PairOver}
use Rattle.cons_sys.specs.Constraints.{Constraints, In, row_at}
use Rattle.cons_sys.specs.Testing.{Answers, LeavesRange}
use Rattle.term_text.specs.Texts.{IsPoint}
use Rattle.expr_text.specs.Printed.{constraints_text, generators_text}
use Rattle.poly_pair.specs.Polyhedra.{Polyhedron}
use Rattle.name_table.specs.Table.{Table}
use Rattle.name_table.specs.Listing.{names_text}
use Rattle.script_text.specs.declared.command.Part.{Part}
use Rattle.line_values.specs.Meaning.{Meaning, line, says, answer_line}
use Rattle.line_values.specs.Texts.{point_fault}

-- the text says a point with this property
pub record SaysPoint (dim : ℕ) (part : Part) (P : List ℤ → Type 0) : Type 0 where
  pub point : List ℤ
  pub read : IsPoint dim part.text point
  pub holds : P point

-- a test of the constraints in order tells whether the point is one of theirs, and this is said
pub record Tells (cs : Constraints) (text : List ℕ) (point : List ℤ) : Type 0 where
  pub holds : Bool
  pub tested : Answers cs.list point (Ok holds)
  pub true_of_point : IsTrue holds ↔ In cs point
  pub said : text ≡ answer_line holds

-- the overflow that shows the constraint of a pair and a point
abbrev pub shown_at : Constraints → List ℤ → PairOver → Overflow
shown_at cs point pair = record {
  kind = pair.kind;
  step = 0;
  left = row_at cs.list pair.left;
  right = point;
  column = pair.column;
}

-- the test comes to a constraint whose value at the point leaves the range: both rows are shown
pub record ShowsPair (cs : Constraints) (over : Overflow) (point : List ℤ) : Type 0 where
  pub pair : PairOver
  pub leaves : LeavesRange cs.list point pair
  pub shown : over ≡ shown_at cs point pair

-- has P : POINT
abbrev pub has : Part → Polyhedron → Meaning (List ℕ)
has part p = record {
  conditions = point_fault p.cons.dim part;
  overflows = λ over. SaysPoint p.cons.dim part (ShowsPair p.cons over);
  does = λ text. SaysPoint p.cons.dim part (Tells p.cons text);
}

-- dim N constraints C generators G
abbrev pub size_text : Polyhedron → List ℕ
size_text p =
    codes "dim " ++ decimal p.cons.dim ++ codes " constraints " ++ decimal (length p.cons.list)
    ++ codes " generators " ++ decimal (length p.gens.list)

-- size P
abbrev pub size : Polyhedron → Meaning (List ℕ)
size p = says (line (size_text p))

-- the stored constraints, or the stored generators
abbrev pub side_text : Bool → Polyhedron → List ℕ
side_text false p = constraints_text p.cons
side_text true p = generators_text p.gens

-- print SIDE P
abbrev pub print : Bool → Polyhedron → Meaning (List ℕ)
print side p = says (line (side_text side p))

-- names
abbrev pub names : {E : Type 0} → Table E → Meaning (List ℕ)
names table = says (line (names_text table))
