use Rattle.std.specs.Prelude.{◌≡◌, List, ℤ}
use Rattle.row_core.specs.Points.{IsPoint}
use Rattle.cons_sys.specs.Constraints.{Constraints}
use Rattle.stored_systems.specs.PointSets.{IsWithin}
use Rattle.poly_pair.specs.declared.topology.Topology.{Topology}
use Rattle.elapse.specs.ElapsedPoints.{IsMoved, IsInElapse}

-- where the second set has a point, each point of the first is in the time elapse
abbrev pub ElapseIncludesStart : Type 0
ElapseIncludesStart = (topology : Topology) (cs ds : Constraints) (x y : List ℤ) → ds.dim ≡ cs.dim
    → IsWithin cs x → IsWithin ds y → IsInElapse topology cs ds x

-- from a point of the time elapse each point of the second set leads to points of the time elapse
abbrev pub ElapseMovesOn : Type 0
ElapseMovesOn = (topology : Topology) (cs ds : Constraints) (x y v : List ℤ) → ds.dim ≡ cs.dim
    → IsPoint cs.dim x → IsInElapse topology cs ds x → IsWithin ds y → IsMoved cs.dim x y v
    → IsInElapse topology cs ds v
