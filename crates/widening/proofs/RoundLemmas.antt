-- What rounds keep, and what they include.
use Rattle.std.proofs.Common.{ℕ, List, length, sym, ◌∙◌, arith}
use Rattle.std.proofs.lemmas.List.{length-replicate}
use Rattle.std.proofs.lemmas.Option.{slice_get_within}
use Rattle.poly_pair.specs.Polyhedra.{Polyhedron}
use Rattle.poly_pair.specs.ClosedPolyhedra.{IsClosedOver}
use Rattle.widening.specs.WideningLaws.{WideningIncludes}
use Rattle.widening.specs.Runs.{RunTable, TurnList, IsRound, begins, takes, AreRounds, none, more, IsStable, start}
use Rattle.widening.specs.RunLaws.{AreSetsOf, IsTableOf, AreProper, IncludeEach, AreTaken}
use Rattle.widening.proofs.Places.{same_at, has_at, all_at}
use Rattle.widening.proofs.TurnLemmas.{part_of_itself, part_of_part, turn_table, turn_includes, turn_takes}

pub start_table : (turns : TurnList) (initial : List Polyhedron) (delay : ℕ) → AreSetsOf turns.dim turns.places initial → IsTableOf turns (start initial delay)
start_table turns initial delay s = record { sets = s; left = length-replicate (length initial) delay ∙ s.as_many }

module _ (turns : TurnList) (proper : AreProper turns) where
  pub round_table : {k : ℕ} {t after : RunTable} → IsTableOf turns t → IsRound turns k t after → IsTableOf turns after
  round_table table begins = table
  round_table table (takes {k} {t} {between} {after} r below turn) = turn_table turns proper k below between after (round_table table r) turn

  pub rounds_table : {t after : RunTable} → IsTableOf turns t → AreRounds turns t after → IsTableOf turns after
  rounds_table table none = table
  rounds_table table (more rounds r) = round_table (rounds_table table rounds) r

  -- ---- the sets grow
  grows_at : (t : RunTable) → IncludeEach t.sets t.sets
  grows_at t i p q e f = part_of_itself p q (same_at t.sets i p q e f)

  grows_then : (t between after : RunTable) → IsTableOf turns t → IsTableOf turns between → IncludeEach t.sets between.sets → IncludeEach between.sets after.sets → IncludeEach t.sets after.sets
  grows_then t between after table later g h i p q e f =
      let m = has_at between.sets i (omega (arith, slice_get_within t.sets i p e, table.sets.as_many, later.sets.as_many)) in
      let closed_p = all_at (IsClosedOver turns.dim) t.sets i p table.sets.each e in
      let closed_m = all_at (IsClosedOver turns.dim) between.sets i m.0 later.sets.each m.1 in
      part_of_part p m.0 q (closed_p.over.same_dim ∙ sym closed_m.over.same_dim) (g i p m.0 e m.1) (h i m.0 q m.1 f)

  module _ (wider : WideningIncludes) where
    round_grows : {k : ℕ} {t after : RunTable} → IsTableOf turns t → IsRound turns k t after → IncludeEach t.sets after.sets
    round_grows {t = t} table begins = grows_at t
    round_grows table (takes {k} {t} {between} {after} r below turn) = let later = round_table table r in grows_then t between after table later (round_grows table r) (turn_includes turns proper k below between after later turn wider)

    pub rounds_grow : {t after : RunTable} → IsTableOf turns t → AreRounds turns t after → IncludeEach t.sets after.sets
    rounds_grow {t} table none = grows_at t
    rounds_grow table (more {t} {between} {after} rounds r) = let later = rounds_table table rounds in grows_then t between after table later (rounds_grow table rounds) (round_grows later r)

    pub stable_takes : (t : RunTable) → IsTableOf turns t → IsStable turns t → AreTaken turns t.sets
    stable_takes t table stable k below = turn_takes turns proper k below t table wider (stable k below)
