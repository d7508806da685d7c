-- What a text says of a loop.
use Rattle.std.specs.Prelude.{◌≡◌, ◌⊎◌, ⊤, ℕ, ◌+◌, ◌-◌, ◌^◌, ◌<◌, ◌≤◌, ◌==◌, List, [], ◌∷◌, ◌++◌, length, codes, min, ℤ, pos, ◌<ℤ◌}
use Rattle.std.specs.List.{slice_split}
use Rattle.grammar.specs.Cases.{expr_cases, frac_cases, cons_cases}
use Rattle.cons_sys.specs.Constraints.{Constraints}
use Rattle.stored_systems.specs.PointSets.{AreClosed}
use Rattle.poly_pair.specs.declared.topology.TheConstants.{MAX_DIM}
use Rattle.reply_text.specs.declared.faults.Fault.{Fault}
use Rattle.reply_text.specs.declared.faults.Fault.TheVariants.{Syntax, TooManyDims, StrictInClosed, OutOfRange, Truncated}
use Rattle.reply_text.specs.declared.faults.ReadErr.{ReadErr}
use Rattle.reply_text.specs.declared.faults.ReadErr.TheVariants.{Input, Memory}
use Rattle.term_text.specs.Texts.{IsExpr, IsExprFault, IsFrac, IsFracFault}
use Rattle.term_text.specs.Systems.{IsCons, IsConsFault}
use Rattle.expr_text.specs.Refusals.{IsTextFault, IsValueFault}
use Rattle.expr_text.specs.Printed.{variable_text}
use Rattle.loop_analysis.specs.declared.loops.Assignment.{Assignment}
use Rattle.loop_bounds.specs.declared.reading.Draft.{Draft}
use Rattle.loop_bounds.specs.declared.reading.Draft.TheVariants.{Nothing, Dimension, Started, Whole}
use Rattle.loop_bounds.specs.declared.reading.LoopErr.{LoopErr}
use Rattle.loop_analysis.specs.Loops.{WhileLoop, with_assignment}

-- ---- lines
-- an empty line or a comment
abbrev pub IsSilent : List ℕ → Type 0
IsSilent [] = ⊤
IsSilent (b ∷ line) = b ≡ 35

-- the line begins with the word
abbrev pub HasPart : List ℕ → List ℕ → Type 0
HasPart word line = (part : List ℕ) × (line ≡ word ++ part)

-- what begins an assignment to a variable
abbrev pub assignment_word : ℕ → List ℕ
assignment_word j = variable_text j ++ codes " := "

-- behind the word with which the line begins stands a part with this property
pub record IsBehind (word line : List ℕ) (P : List ℕ → Type 0) : Type 0 where
  pub part : List ℕ
  pub behind : line ≡ word ++ part
  pub holds : P part

-- a number of variables that isn't too large, as an expression without a variable
pub record IsDimension (dim : ℕ) (part : List ℕ) : Type 0 where
  pub number : IsExpr 0 part (pos dim ∷ [])
  pub narrow : dim ≤ MAX_DIM

-- constraints, none of them strict
pub record IsClosedCons (dim : ℕ) (cs : Constraints) (part : List ℕ) : Type 0 where
  pub constraints : IsCons dim part cs
  pub closed : AreClosed cs

-- the fraction that the variable becomes
pub record IsValue (dim variable : ℕ) (a : Assignment) (part : List ℕ) : Type 0 where
  pub same : a.variable ≡ variable
  pub below : variable < dim
  pub fraction : IsFrac dim part a.value.expr a.value.den

abbrev pub IsAssignmentLine : ℕ → List ℕ → Assignment → Type 0
IsAssignmentLine dim line a =
    (variable : ℕ) × IsBehind (assignment_word variable) line (IsValue dim variable a)

-- a line that isn't silent adds to what the lines before say: the number of variables, the
-- constraints of the start, those of the guard, and then an assignment
abbrev pub Adds : Draft → List ℕ → Draft → Type 0
Adds Nothing line new =
    (dim : ℕ) × IsBehind (codes "variables ") line (IsDimension dim) × (new ≡ Dimension dim)
Adds (Dimension dim) line new =
    (start : Constraints) × IsBehind (codes "start ") line (IsClosedCons dim start)
    × (new ≡ Started start)
Adds (Started start) line new =
    (guard : Constraints) × IsBehind (codes "while ") line (IsClosedCons start.dim guard)
    × (new ≡ Whole (record { dim = start.dim; start = start; guard = guard; body = [] }))
Adds (Whole l) line new =
    (a : Assignment) × IsAssignmentLine l.dim line a × (new ≡ Whole (with_assignment l a))

abbrev pub Says : Draft → List ℕ → Draft → Type 0
Says old line new = (IsSilent line × (new ≡ old)) ⊎ ((¬ (IsSilent line)) × Adds old line new)

-- what the lines so far give fits: a dimension that isn't too large, and a start that isn't strict
abbrev pub IsDraft : Draft → Type 0
IsDraft Nothing = ⊤
IsDraft (Dimension dim) = dim ≤ MAX_DIM
IsDraft (Started start) = (start.dim ≤ MAX_DIM) × AreClosed start
IsDraft (Whole l) = ⊤

-- ---- refused lines
-- a fault of a part, at its column in the line
abbrev pub behind_word : ℕ → Fault → Fault
behind_word n (Syntax column) = Syntax (min (column + n) (2 ^ 64 - 1))
behind_word n fault = fault

abbrev pub refused_behind : ℕ → ReadErr → ReadErr
refused_behind n (Input fault) = Input (behind_word n fault)
refused_behind n Memory = Memory

-- what stands behind the word has a fault, which is shown at its column in the line
pub record IsPartFault (word line : List ℕ) (P : List ℕ → Fault → Type 0)
    (fault : Fault) : Type 0 where
  pub part : List ℕ
  pub behind : line ≡ word ++ part
  pub cause : Fault
  pub is_cause : P part cause
  pub shown : fault ≡ behind_word (length word) cause

-- the line doesn't begin with the word, or what stands behind it has a fault
abbrev pub IsLineFault : List ℕ → List ℕ → (List ℕ → Fault → Type 0) → Fault → Type 0
IsLineFault word line P fault =
    ((¬ (HasPart word line)) × (fault ≡ Syntax 1)) ⊎ IsPartFault word line P fault

-- a number that is no dimension
pub record IsWrongNumber (part : List ℕ) : Type 0 where
  pub value : ℤ
  pub number : IsExpr 0 part (value ∷ [])
  pub outside : (value <ℤ pos 0) ⊎ (pos MAX_DIM <ℤ value)

abbrev pub IsDimensionFault : List ℕ → Fault → Type 0
IsDimensionFault part fault =
    IsTextFault expr_cases part (IsValueFault (IsExprFault 0 part)) fault
    ⊎ (IsWrongNumber part × (fault ≡ TooManyDims))

-- constraints of which one is strict
pub record AreStrict (dim : ℕ) (part : List ℕ) : Type 0 where
  pub cs : Constraints
  pub constraints : IsCons dim part cs
  pub strict : ¬ (AreClosed cs)

abbrev pub IsConstraintFault : ℕ → List ℕ → Fault → Type 0
IsConstraintFault dim part fault =
    IsTextFault cons_cases part (IsValueFault (IsConsFault dim part)) fault
    ⊎ (AreStrict dim part × (fault ≡ StrictInClosed))

-- the loop doesn't have the variable, or its fraction has a fault
abbrev pub IsVariableFault : ℕ → ℕ → List ℕ → Fault → Type 0
IsVariableFault dim variable part fault =
    ((dim ≤ variable) × (fault ≡ OutOfRange))
    ⊎ ((variable < dim) × IsTextFault frac_cases part (IsValueFault (IsFracFault dim part)) fault)

-- no variable begins the line, or one does and what stands behind it has a fault
abbrev pub IsAssignmentFault : ℕ → List ℕ → Fault → Type 0
IsAssignmentFault dim line fault =
    (((j : ℕ) → j < MAX_DIM → ¬ (HasPart (assignment_word j) line)) × (fault ≡ Syntax 1))
    ⊎ ((j : ℕ) × (j < MAX_DIM) × IsPartFault (assignment_word j) line (IsVariableFault dim j) fault)

-- the fault of a line that isn't silent, behind lines that say so much
abbrev pub HasFault : Draft → List ℕ → Fault → Type 0
HasFault Nothing line fault = IsLineFault (codes "variables ") line IsDimensionFault fault
HasFault (Dimension dim) line fault =
    IsLineFault (codes "start ") line (IsConstraintFault dim) fault
HasFault (Started start) line fault =
    IsLineFault (codes "while ") line (IsConstraintFault start.dim) fault
HasFault (Whole l) line fault = IsAssignmentFault l.dim line fault

-- a refusal is for such a fault, or memory ran out
abbrev pub IsRefusedFor : (Fault → Type 0) → ReadErr → Type 0
IsRefusedFor P (Input fault) = P fault
IsRefusedFor P Memory = ⊤

abbrev pub IsLineRefused : Draft → List ℕ → ReadErr → Type 0
IsLineRefused draft line = IsRefusedFor (λ fault. (¬ (IsSilent line)) × HasFault draft line fault)

-- ---- texts
-- the lines in order, from the first, add to what was said before
abbrev pub SayMore : Draft → List (List ℕ) → Draft → Type 0
SayMore old [] new = new ≡ old
SayMore old (line ∷ lines) new = (next : Draft) × Says old line next × SayMore next lines new

abbrev pub SayAll : List (List ℕ) → Draft → Type 0
SayAll lines draft = SayMore Nothing lines draft

-- the lines of a text, cut at the line feeds
abbrev pub lines_of : List ℕ → List (List ℕ)
lines_of text = slice_split (λ b. b == 10) text

-- the text spells the loop
abbrev pub Spells : List ℕ → WhileLoop → Type 0
Spells text l = SayAll (lines_of text) (Whole l)

-- the first line that is refused, by its number
pub record IsRefusedLine (text : List ℕ) (number : ℕ) (fault : Fault) : Type 0 where
  pub before : List (List ℕ)
  pub line : List ℕ
  pub after : List (List ℕ)
  pub lines : lines_of text ≡ before ++ line ∷ after
  pub draft : Draft
  pub say : SayAll before draft
  pub said : ¬ (IsSilent line)
  pub has_fault : HasFault draft line fault
  pub counted : number ≡ min (length before + 1) (2 ^ 64 - 1)

-- the draft is no loop yet
abbrev pub IsPartial : Draft → Type 0
IsPartial Nothing = ⊤
IsPartial (Dimension dim) = ⊤
IsPartial (Started start) = ⊤
IsPartial (Whole l) = ⊥

-- no line is refused, and the line of the guard is missing
pub record IsCutOff (text : List ℕ) (number : ℕ) (fault : Fault) : Type 0 where
  pub draft : Draft
  pub say : SayAll (lines_of text) draft
  pub is_partial : IsPartial draft
  pub counted : number ≡ min (length (lines_of text)) (2 ^ 64 - 1)
  pub shown : fault ≡ Truncated

-- why a text spells no loop: a line is refused, or lines are missing
abbrev pub IsTextRefused : List ℕ → LoopErr → Type 0
IsTextRefused text e =
    IsRefusedFor (λ fault. IsRefusedLine text e.line fault ⊎ IsCutOff text e.line fault) e.cause
