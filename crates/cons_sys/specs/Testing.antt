use Rattle.std.specs.Prelude.{◌≡◌, ℕ, ◌<◌, List, length, ℤ, Bool, true, false, Result, Ok, Err}
use Rattle.row_core.specs.Range.{DotStays, IsFirstToLeave, AllStay}
use Rattle.row_core.specs.declared.PairOver.{PairOver}
use Rattle.row_core.specs.declared.OverKind.TheVariants.{Dot}
use Rattle.cons_sys.specs.Constraints.{Constraint, constraint_at, row_at, Satisfies}

-- in the dot of constraint i and the vector no product and no partial sum leaves the range
abbrev pub Stays : List Constraint → List ℤ → ℕ → Type 0
Stays list v i = AllStay (DotStays (row_at list i) v) (length (row_at list i))

-- the dot of constraint i stays in the range, and the constraint holds
pub record Passes (list : List Constraint) (v : List ℤ) (i : ℕ) : Type 0 where
  pub stays : Stays list v i
  pub holds : Satisfies v (constraint_at list i)

-- a test in order comes to constraint i: it passes each before it
abbrev pub Reaches : List Constraint → List ℤ → ℕ → Type 0
Reaches list v i = (k : ℕ) → k < i → Passes list v k

-- constraint i is the first that doesn't hold
pub record Fails (list : List Constraint) (v : List ℤ) (i : ℕ) : Type 0 where
  pub index : i < length list
  pub reached : Reaches list v i
  pub stays : Stays list v i
  pub fails : ¬ (Satisfies v (constraint_at list i))

-- the constraint that the refusal numbers is reached, and its dot leaves the range
pub record LeavesRange (list : List Constraint) (v : List ℤ) (over : PairOver) : Type 0 where
  pub kind : over.kind ≡ Dot
  pub index : over.left < length list
  pub right : over.right ≡ 0
  pub turned : over.turned ≡ false
  pub reached : Reaches list v over.left
  pub column : IsFirstToLeave (DotStays (row_at list over.left) v) (length (row_at list over.left))
      over.column

-- what a test of the constraints in order answers, up to the first that fails or leaves the range
abbrev pub Answers : List Constraint → List ℤ → Result Bool PairOver → Type 0
Answers list v (Ok true) = Reaches list v (length list)
Answers list v (Ok false) = (i : ℕ) × Fails list v i
Answers list v (Err over) = LeavesRange list v over

-- what a test of constraint i alone answers
abbrev pub AnswersAt : List Constraint → List ℤ → ℕ → Result Bool PairOver → Type 0
AnswersAt list v i (Ok true) = Passes list v i
AnswersAt list v i (Ok false) = Stays list v i × ¬ (Satisfies v (constraint_at list i))
AnswersAt list v i (Err over) =
    (over ≡ record { kind = Dot; left = i; right = 0; column = over.column; turned = false })
    × IsFirstToLeave (DotStays (row_at list i) v) (length (row_at list i)) over.column

-- no two answers are right
abbrev pub HasOneAnswer : Type 0
HasOneAnswer = (list : List Constraint) (v : List ℤ) (r s : Result Bool PairOver) → Answers list v r
    → Answers list v s → r ≡ s
