-- After a run no two entries of the table have the same name.
use Rattle.std.proofs.Common.{ℕ, List, [], ◌∷◌, sym, subst}
use Rattle.name_table.specs.Table.{HasDistinctNames}
use Rattle.calc_state.specs.State.{State}
use Rattle.line_values.specs.Replies.{Reply}
use Rattle.calc_state.specs.Laws.{KeepsNamesDistinct}
use Rattle.calc_state.specs.Runs.{Run}

pub run_distinct : KeepsNamesDistinct → (old new : State) (lines : List (List ℕ)) (replies : List Reply) → HasDistinctNames old.names → Run old lines replies new → HasDistinctNames new.names
run_distinct keeps old new [] [] h run = subst (λ (s : State). HasDistinctNames s.names) (sym run) h
run_distinct keeps old new (line ∷ lines) (reply ∷ replies) h (mid, step, run) = run_distinct keeps mid new lines replies (keeps old mid line reply h step) run
run_distinct keeps old new [] (reply ∷ replies) h run = absurd run
run_distinct keeps old new (line ∷ lines) [] h run = absurd run
