-- A text says one thing.
use Rattle.std.specs.Prelude.{◌≡◌, ℕ, List, ℤ}
use Rattle.grammar.specs.Form.{Form, Matches}
use Rattle.grammar.specs.Grammar.{alone}
use Rattle.cons_sys.specs.declared.kind.ConKind.{ConKind}
use Rattle.term_text.specs.Values.{alone_by}
use Rattle.term_text.specs.Texts.{IsExpr, IsFrac, IsPoint}
use Rattle.term_text.specs.Systems.{IsCon}

-- however the form takes the text apart, it says the same
pub record HasOneReading {A : Type 0} (f : Form) (by : (w : List ℕ) → Matches f w → A)
    : Type 0 where
  pub one :
      (text : List ℕ) (m n : Matches (alone f) text) → alone_by f by text m ≡ alone_by f by text n

-- an expression has one row
abbrev pub ExprHasOneRow : Type 0
ExprHasOneRow =
    (dim : ℕ) (text : List ℕ) (u v : List ℤ) → IsExpr dim text u → IsExpr dim text v → u ≡ v

-- a fraction has one row and one divisor
abbrev pub FracHasOneRow : Type 0
FracHasOneRow =
    (dim : ℕ) (text : List ℕ) (u v : List ℤ) (c d : ℤ) → IsFrac dim text u c → IsFrac dim text v d
    → (u ≡ v) × (c ≡ d)

-- a point has one vector
abbrev pub PointHasOneRow : Type 0
PointHasOneRow =
    (dim : ℕ) (text : List ℕ) (u v : List ℤ) → IsPoint dim text u → IsPoint dim text v → u ≡ v

-- a constraint has one row and one kind
abbrev pub ConHasOneRow : Type 0
ConHasOneRow =
    (dim : ℕ) (text : List ℕ) (u v : List ℤ) (k l : ConKind) → IsCon dim text u k
    → IsCon dim text v l → (u ≡ v) × (k ≡ l)
