-- What texts of constraints mean as systems.
use Rattle.std.specs.Prelude.{◌≡◌, ℕ, List, [], ◌∷◌, ◌++◌, ℤ, All, Bool, true, false}
use Rattle.row_core.specs.Content.{IsPrimitiveOf}
use Rattle.cons_sys.specs.Constraints.{Constraint, Constraints}
use Rattle.cons_sys.specs.declared.kind.ConKind.{ConKind}
use Rattle.cons_sys.specs.declared.kind.ConKind.TheVariants.{Eq, Ge, Gt}
use Rattle.grammar.specs.Cases.{con_cases, cons_cases}
use Rattle.term_text.specs.declared.terms.Relation.{Relation}
use Rattle.term_text.specs.declared.terms.Relation.TheVariants.{Equal, AtLeast, AtMost, Above, Below}
use Rattle.term_text.specs.declared.terms.ValueErr.{ValueErr}
use Rattle.term_text.specs.declared.terms.ValueErr.TheVariants.{OutOfRange, TooLarge, ZeroDivisor, Memory}
use Rattle.term_text.specs.Terms.{AreWithin, Stay}
use Rattle.term_text.specs.Values.{Comparison, con_by, cons_by}
use Rattle.term_text.specs.Texts.{Says, IsConRow, IsRowOfFault}

-- E > F and E < F are strict
abbrev pub kind_of : Relation → ConKind
kind_of Equal = Eq
kind_of AtLeast = Ge
kind_of AtMost = Ge
kind_of Above = Gt
kind_of Below = Gt

-- the row of the constraint as it stands, and its kind
pub record IsConOf (dim : ℕ) (c : Comparison) (row : List ℤ) (kind : ConKind) : Type 0 where
  pub within : AreWithin dim c.terms
  pub stay : Stay dim c.terms
  pub sums : IsConRow dim c row
  pub same : kind ≡ kind_of c.relation

-- the constraint with its row made primitive
pub record IsStored (dim : ℕ) (c : Comparison) (stored : Constraint) : Type 0 where
  pub row : List ℤ
  pub sums : IsConRow dim c row
  pub primitive : IsPrimitiveOf row stored.0
  pub kind : stored.1 ≡ kind_of c.relation

-- the constraints in order, each with its row made primitive
abbrev pub AreStored : ℕ → List Comparison → List Constraint → Type 0
AreStored dim [] [] = Unit {0}
AreStored dim [] (r ∷ rs) = ⊥
AreStored dim (c ∷ cs) [] = ⊥
AreStored dim (c ∷ cs) (r ∷ rs) = IsStored dim c r × AreStored dim cs rs

-- every variable of each constraint is below the dimension
abbrev pub AllWithin : ℕ → List Comparison → Type 0
AllWithin dim cs = All (λ (c : Comparison). AreWithin dim c.terms) cs

-- no number on the way to the row of any constraint is too large
abbrev pub AllStay : ℕ → List Comparison → Type 0
AllStay dim cs = All (λ (c : Comparison). Stay dim c.terms) cs

-- the system of the constraints
pub record IsConsOf (dim : ℕ) (cs : List Comparison) (system : Constraints) : Type 0 where
  pub within : AllWithin dim cs
  pub stay : AllStay dim cs
  pub over : system.dim ≡ dim
  pub list : AreStored dim cs system.list

-- there is no such system, and this is the first cause that holds
abbrev pub IsConsOfFault : ℕ → List Comparison → ValueErr → Type 0
IsConsOfFault dim cs OutOfRange = ¬ (AllWithin dim cs)
IsConsOfFault dim cs TooLarge = AllWithin dim cs × ¬ (AllStay dim cs)
IsConsOfFault dim cs ZeroDivisor = ⊥
IsConsOfFault dim cs Memory = Unit {0}

-- the text is a constraint, and these are its row and its kind
abbrev pub IsCon : ℕ → List ℕ → List ℤ → ConKind → Type 0
IsCon dim text row kind = Says con_cases con_by text (λ c. IsConOf dim c row kind)

-- the text is a constraint without a row, for this cause
abbrev pub IsConFault : ℕ → List ℕ → ValueErr → Type 0
IsConFault dim text fault = Says con_cases con_by text (λ c. IsRowOfFault dim c.terms fault)

-- the text is a list of constraints, and this is its system
abbrev pub IsCons : ℕ → List ℕ → Constraints → Type 0
IsCons dim text system = Says cons_cases cons_by text (λ cs. IsConsOf dim cs system)

-- the text is a list of constraints without a system, for this cause
abbrev pub IsConsFault : ℕ → List ℕ → ValueErr → Type 0
IsConsFault dim text fault = Says cons_cases cons_by text (λ cs. IsConsOfFault dim cs fault)

-- what one more constraint does: it is stored, or its row leaves the range
abbrev pub Adds : ℕ → List Constraint → List Constraint → Comparison → Bool → Type 0
Adds dim old new c true =
    AreWithin dim c.terms × Stay dim c.terms
    × ((r : Constraint) × IsStored dim c r × (new ≡ old ++ r ∷ []))
Adds dim old new c false = AreWithin dim c.terms × ¬ (Stay dim c.terms)

-- why a constraint was not read to its end
abbrev pub StopsAt : ℕ → Comparison → ValueErr → Type 0
StopsAt dim c OutOfRange = ¬ (AreWithin dim c.terms)
StopsAt dim c TooLarge = ⊥
StopsAt dim c ZeroDivisor = ⊥
StopsAt dim c Memory = Unit {0}

-- after these constraints each variable is below the dimension, and either all are stored or one
-- leaves the range
pub record HaveRead (dim : ℕ) (cs : List Comparison) (list : List Constraint) (fits : Bool)
    : Type 0 where
  pub within : AllWithin dim cs
  pub stored : fits ≡ true → AllStay dim cs × AreStored dim cs list
  pub leaves : fits ≡ false → ¬ (AllStay dim cs)

-- why constraints were not read to their end
abbrev pub StopAt : ℕ → List Comparison → ValueErr → Type 0
StopAt dim cs OutOfRange = ¬ (AllWithin dim cs)
StopAt dim cs TooLarge = ⊥
StopAt dim cs ZeroDivisor = ⊥
StopAt dim cs Memory = Unit {0}
