-- How a part of a transition system is changed.
use Rattle.std.specs.Prelude.{◌≡◌, ◌*◌, ◌<◌, length}
use Rattle.poly_pair.specs.declared.topology.Topology.TheVariants.{Closed}
use Rattle.trans_sys.specs.Systems.{TransitionSystem, with_initial, with_transition}
use Rattle.trans_sys.specs.declared.change.SystemChange.{SystemChange}
use Rattle.trans_sys.specs.declared.change.SystemChange.TheVariants.{Initial, Transition}

-- the system after the change
abbrev pub changed_system : TransitionSystem → SystemChange → TransitionSystem
changed_system s (Initial location p) = with_initial s location p
changed_system s (Transition source target relation) =
    with_transition s (record { source = source; target = target; relation = relation })

-- the set is closed and of the system's dimension, a relation of twice that; the location is there
abbrev pub FitsSystem : TransitionSystem → SystemChange → Type 0
FitsSystem s (Initial location p) =
    (location < length s.initial) × (p.topology ≡ Closed) × (p.cons.dim ≡ s.dim)
FitsSystem s (Transition source target relation) =
    (source < length s.initial) × (target < length s.initial) × (relation.topology ≡ Closed)
    × (relation.cons.dim ≡ 2 * s.dim)
