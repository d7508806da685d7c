-- What is printed of closed polyhedra tells their points.
use Rattle.std.specs.Prelude.{◌≡◌, ◌↔◌, Bool}
use Rattle.poly_pair.specs.Polyhedra.{Polyhedron, HaveSamePoints}
use Rattle.poly_pair.specs.declared.topology.Topology.TheVariants.{Closed}
use Rattle.line_values.specs.Meaning.{line}
use Rattle.poly_questions.specs.Questions.{side_text}
use Rattle.line_values.specs.Proper.{IsProper}

-- two closed polyhedra of one dimension have the same points exactly where `print cons` shows equal
-- bytes, and exactly where `print gens` does
abbrev pub PrintsTellPoints : Type 0
PrintsTellPoints = (side : Bool) (p q : Polyhedron) → IsProper p → IsProper q
    → p.topology ≡ Closed → q.topology ≡ Closed → p.cons.dim ≡ q.cons.dim
    → HaveSamePoints p q ↔ (line (side_text side p) ≡ line (side_text side q))
