-- Answers about powersets, relations and shapes are true of them.
use Rattle.std.proofs.Common.{◌≡◌, ℕ, List, refl}
use Rattle.std.specs.Prelude.{◌/◌}
use Rattle.expr_text.specs.Printed.{constraints_text}
use Rattle.expr_text.specs.ReadBack.{ConstraintsAreReadBack}
use Rattle.poly_pair.specs.Polyhedra.{Polyhedron}
use Rattle.poly_pair.specs.declared.topology.Topology.TheVariants.{Closed}
use Rattle.powerset.specs.Powersets.{FinitePowerset}
use Rattle.ranking.specs.Laws.{PrintedFunctionRanks}
use Rattle.bd_shape.specs.Shapes.{DifferenceShape, IsShape}
use Rattle.bd_shape.specs.Rows.{shape_constraints}
use Rattle.bd_shape.proofs.Canonical.{bounds_are_greatest}
use Rattle.bd_shape.proofs.RowLists.{list_points}
use Rattle.line_values.specs.Meaning.{line}
use Rattle.powerset.specs.Commands.{IsCoverTold}
use Rattle.ranking.specs.Commands.{IsRankingTold}
use Rattle.run_laws.specs.Truth.{SaysCover, SaysRanking, SaysBounds}
use Rattle.soundness.proofs.ShapeRows.{shape_fits}

-- whether the one union covers the other
pub cover_says : (s t : FinitePowerset) (text : List ℕ) → IsCoverTold s t text → SaysCover text s t
cover_says s t text h = record { answer = h.answer; said = h.said; true_of = h.true_of }

-- a ranking function of a closed relation, or none
pub ranking_says : PrintedFunctionRanks → (r : Polyhedron) (text : List ℕ) → r.topology ≡ Closed → IsRankingTold r text → SaysRanking text r
ranking_says law r text closed h = record {
  closed = closed;
  text = h.text;
  said = h.said;
  true_of = law (r.cons.dim / 2) r h.functions h.text h.is h.told;
  functions = h.functions;
  made = record { kept = h.proper; is = h.is };
  first = h.told;
}

-- the bounds of a shape
pub bounds_say : ConstraintsAreReadBack → (s : DifferenceShape) (text : List ℕ) → IsShape s → text ≡ line (constraints_text (shape_constraints s)) → SaysBounds text s
bounds_say law s text a h = record {
  text = constraints_text (shape_constraints s);
  said = h;
  printed = refl;
  read = (law (shape_constraints s) (shape_constraints s) (shape_fits s a)).1 refl;
  points = list_points s a;
  greatest = λ t f i j l m. bounds_are_greatest s t a f i j l m;
}
