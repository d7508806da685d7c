-- What puts an entry of a kind.
use Rattle.std.proofs.Common.{◌≡◌, List, ℕ, ap, ◌∙◌, subst}
use Rattle.std.specs.Prelude.{Option, Some}
use Rattle.calc_state.specs.declared.entry.Entry.{Entry}
use Rattle.line_values.specs.declared.change.Change.TheVariants.{Says, Puts, PutsAll, TakesOut}
use Rattle.calc_state.specs.Entries.{IsKeptEntry}
use Rattle.calc_state.specs.Table.{Change}
use Rattle.line_values.specs.Effects.{IsPutAs}
use Rattle.calc_state.specs.Step.{PutsProper}
use Rattle.calc_state.proofs.EntryKinds.{IsKind, found_of, same_entry}
use Rattle.run_laws.specs.Sets.{IsMadeAs}

-- an entry of a kind with the property is put under the name
pub record IsPutMade {A : Type 0} (kind : A → Entry) (out : List ℕ) (Is : A → Type 0) (change : Change) : Type 0 where
  pub made : A
  pub is : IsMadeAs kind Is made
  pub change_is : change ≡ Puts out (kind made)

pub put_made : {A : Type 0} (found : Option Entry → Option A) (kind : A → Entry) → IsKind found kind → (out : List ℕ) (Is : A → Type 0) (change : Change) → IsPutAs found out Is change → PutsProper change → IsPutMade kind out Is change
put_made found kind there out Is (Puts name e) h proper =
    let f = found_of (found (Some e)) Is h.1 in
    let is_kind : e ≡ kind f.value = same_entry e (kind f.value) (there (Some e) f.value f.there) in
    record { made = f.value; is = record { kept = subst IsKeptEntry is_kind proper; is = f.is }; change_is = ap (λ (n : List ℕ). Puts n e) h.0 ∙ ap (Puts out) is_kind }
put_made found kind there out Is (Says text) h proper = absurd h
put_made found kind there out Is (PutsAll prefix sets) h proper = absurd h
put_made found kind there out Is (TakesOut name) h proper = absurd h
