-- Pairs of a constraint and a generator whose arithmetic leaves the range, and what shows them.
use Rattle.std.specs.Prelude.{◌≡◌, Bool, true, false, Result, Err}
use Rattle.row_core.specs.declared.errors.Overflow.{Overflow}
use Rattle.row_core.specs.declared.errors.PairOver.{PairOver}
use Rattle.cons_sys.specs.Constraints.{Constraints, row_at}
use Rattle.gens_sys.specs.Generators.{Generators, row_at as vector_at}
use Rattle.poly_pair.specs.Polyhedra.{Polyhedron}
use Rattle.line_values.specs.declared.refusal.StepErr.{StepErr}
use Rattle.line_values.specs.declared.refusal.StepErr.TheVariants as err

-- the constraint and the generator of a pair
abbrev pub shown_rows : Constraints → Generators → PairOver → Overflow
shown_rows cs gs pair = record {
  kind = pair.kind;
  step = 0;
  left = row_at cs.list pair.left;
  right = vector_at gs.list pair.right;
  column = pair.column;
}

-- the refusal shows the rows of a pair, or memory ran out
abbrev pub IsRefusalOfPair : Constraints → Generators → PairOver → StepErr → Type 0
IsRefusalOfPair cs gs pair (err.Input fault) = ⊥
IsRefusalOfPair cs gs pair (err.Overflow over) = over ≡ shown_rows cs gs pair
IsRefusalOfPair cs gs pair err.Memory = Unit {0}

-- a constraint of the one and a generator of the other, or the other way about
abbrev pub shown_on : Bool → Polyhedron → Polyhedron → PairOver → Overflow
shown_on false p q pair = shown_rows p.cons q.gens pair
shown_on true p q pair = shown_rows q.cons p.gens pair

-- the test comes to a pair that leaves the range, and its rows are shown
pub record ShowsRows (Answer : Result Bool PairOver → Type 0) (p q : Polyhedron)
    (over : Overflow) : Type 0 where
  pub pair : PairOver
  pub leaves : Answer (Err pair)
  pub shown : over ≡ shown_on pair.turned p q pair
