-- Machines that decide a form of text by a table.
use Rattle.std.specs.Prelude.{◌≡◌, ℕ, ◌+◌, ◌*◌, ◌<◌, ◌⊎◌, Bool, true, false, List, [], ◌∷◌, slice_index_or}
use Rattle.grammar.specs.Form.{Form}
use Rattle.grammar.specs.Derivative.{after_rows, some_ends, lives}
use Rattle.grammar.specs.SameRows.{SameRows}

-- the state behind the byte; 255 is the state from which no text of the form is reached
abbrev pub next : List ℕ → List ℕ → ℕ → ℕ → ℕ
next classes steps state b = slice_index_or steps (state * 32 + slice_index_or classes b 0) 255

-- what the state behind the byte is: it stands for the rows that come behind it, and is 255 where
-- there is none
pub record Steps (states : ℕ) (rows : ℕ → List (List Form)) (b state after : ℕ) : Type 0 where
  pub same : SameRows (after_rows b (rows state)) (rows after)
  pub known : after ≡ 255 ⊎ after < states

-- the tables decide the form: each state stands for the rows of forms that may come behind a text
-- that leads to it
pub record Decides (classes steps : List ℕ) (ends : List Bool) (f : Form) : Type 0 where
  pub states : ℕ
  pub rows : ℕ → List (List Form)
  pub alive : lives f ≡ true
  pub first : 0 < states
  pub start : rows 0 ≡ (f ∷ []) ∷ []
  pub none : rows 255 ≡ []
  pub some : (state : ℕ) → state < states → rows state ≡ [] → ⊥
  pub goes :
      (state b : ℕ) → state < states → b < 256
      → Steps states rows b state (next classes steps state b)
  pub end : (state : ℕ) → state < states → slice_index_or ends state false ≡ some_ends (rows state)
