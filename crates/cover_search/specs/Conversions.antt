-- What the searches for an uncovered point count and show.
use Rattle.std.specs.Prelude.{◌≡◌, ◌⊎◌, ℕ, ◌+◌, ◌<◌, List, [], ◌∷◌, ◌++◌, length, slice_get, Option, Some, None, Result, Ok, Err, ℤ}
use Rattle.row_core.specs.declared.errors.Overflow.{Overflow}
use Rattle.row_core.specs.declared.errors.ConvErr.{ConvErr}
use Rattle.cons_sys.specs.Constraints.{Constraint, Constraints, constraint_at}
use Rattle.nnc_enc.specs.Encoding.{encoded_constraints}
use Rattle.poly_pair.specs.declared.topology.Topology.TheVariants.{Nnc}
use Rattle.poly_pair.specs.Spanning.{HoldNowhere}
use Rattle.poly_pair.specs.Work.{cons_work, conv_overflow, overflow_in, IsFirstConversion}
use Rattle.cover_search.specs.Inequalities.{complement}
use Rattle.cover_search.specs.Regions.{with_one, HoldsOn, IsPointIn}
use Rattle.cover_search.specs.Pieces.{inner_part, outer_part, LiesInSome, IsTurn}
use Rattle.cover_search.specs.Parts.{IsCutOf, IsPushed}
use Rattle.cover_search.specs.declared.pieces.Piece.{Piece}
use Rattle.cover_search.specs.declared.contacts.Cut.{Cut}
use Rattle.cover_search.specs.declared.parts.Part.{Part}

-- ---- lists
-- the conversion of the encoded list of the constraints
abbrev pub IsListConversion : Constraints → ℕ → ℕ → Option Overflow → Type 0
IsListConversion cs old new over = IsFirstConversion (cons_work Nnc cs) old new over

-- of the constraints and one more, where the system of the others is known
abbrev pub IsNextConversion : Constraints → Constraint → ℕ → ℕ → Option Overflow → Type 0
IsNextConversion cs c old new over = IsFirstConversion
    (record (cons_work Nnc (with_one cs c)) { from = length (encoded_constraints cs) }) old new over

-- of these, and then of the same ones with another
pub record AreNextTwo (cs : Constraints) (c d : Constraint) (old new : ℕ)
    (over : Option Overflow) : Type 0 where
  pub between : ℕ
  pub first : IsNextConversion cs c old between None
  pub second : IsNextConversion cs d between new over

-- the first alone, or both
abbrev pub AreNextConversions : Constraints → Constraint → Constraint → ℕ → ℕ → Option Overflow
    → Type 0
AreNextConversions cs c d old new over =
    IsNextConversion cs c old new over ⊎ AreNextTwo cs c d old new over

-- a call that converts a list
abbrev pub ConvertsList : {T : Type 0} → Constraints → ℕ → ℕ → Result T ConvErr → Type 0
ConvertsList cs old new result = IsListConversion cs old new (overflow_in conv_overflow result)

-- one that converts that with one more
abbrev pub ConvertsNext : {T : Type 0} → Constraints → Constraint → ℕ → ℕ → Result T ConvErr
    → Type 0
ConvertsNext cs c old new result = IsNextConversion cs c old new (overflow_in conv_overflow result)

-- ---- turns
-- turns, each of which takes the last of what is pending, lead from the start to what is pending
-- then and count from the one number to the other
pub data AreCountedTurns {X : Type 0} (Turn : X → List X → List X → ℕ → ℕ → Type 0)
    (start : List X) (old : ℕ) : List X → ℕ → Type 0 where
  none : AreCountedTurns Turn start old start old
  more : {before after : List X} {taken : X} {counted new : ℕ}
      → AreCountedTurns Turn start old (before ++ taken ∷ []) counted
      → Turn taken before after counted new → AreCountedTurns Turn start old after new

-- one that isn't finished
pub record IsLastTurn {X : Type 0} (Broken : X → ℕ → ℕ → Option Overflow → Type 0)
    (pending : List X) (old new : ℕ) (over : Option Overflow) : Type 0 where
  pub before : List X
  pub taken : X
  pub is_last : pending ≡ before ++ taken ∷ []
  pub conversion : Broken taken old new over

-- whole turns, and then none, or one that isn't finished
pub record AreTurns {X : Type 0} (Turn : X → List X → List X → ℕ → ℕ → Type 0)
    (Broken : X → ℕ → ℕ → Option Overflow → Type 0) (start : List X) (old new : ℕ)
    (over : Option Overflow) : Type 0 where
  pub pending : List X
  pub counted : ℕ
  pub turns : AreCountedTurns Turn start old pending counted
  pub last : ((new ≡ counted) × (over ≡ None)) ⊎ IsLastTurn Broken pending counted new over

-- the conversion of the list of the set, and then its turns
pub record IsListThen (first : Constraints) (Turns : ℕ → ℕ → Option Overflow → Type 0)
    (old new : ℕ) (over : Option Overflow) : Type 0 where
  pub between : ℕ
  pub list : IsListConversion first old between None
  pub turns : Turns between new over

-- the first alone, or both
abbrev pub IsSearchBy : Constraints → (ℕ → ℕ → Option Overflow → Type 0) → ℕ → ℕ → Option Overflow
    → Type 0
IsSearchBy first Turns old new over =
    IsListConversion first old new over ⊎ IsListThen first Turns old new over

-- ---- the search over branches
-- the part of a piece on which the next inequality of a system holds is appended, after the
-- conversion of its list, or it isn't
abbrev pub IsCountedInner : Constraints → Piece → List Piece → List Piece → ℕ → ℕ → Type 0
IsCountedInner rows piece before after old new = ((after ≡ before) × (new ≡ old))
    ⊎ ((piece.row + 1 < length rows.list) × (after ≡ before ++ inner_part rows piece ∷ [])
    × IsNextConversion piece.region (constraint_at rows.list piece.row) old new None)

-- and then so is that on which it doesn't hold
pub record IsCountedOuter (rows : Constraints) (piece : Piece) (before after : List Piece)
    (old new : ℕ) : Type 0 where
  pub middle : List Piece
  pub counted : ℕ
  pub inner : IsCountedInner rows piece before middle old counted
  pub below : piece.row < length rows.list
  pub joined : after ≡ middle ++ outer_part rows piece ∷ []
  pub conversion : IsNextConversion piece.region (complement (constraint_at rows.list piece.row))
      counted new None

-- what the split of a piece counts: the conversion of the list of each part that it appends
abbrev pub IsCountedSplit : Constraints → Piece → List Piece → List Piece → ℕ → ℕ → Type 0
IsCountedSplit rows piece before after old new =
    IsCountedInner rows piece before after old new ⊎ IsCountedOuter rows piece before after old new

-- where it isn't finished: nothing; or the conversion for the part on which the inequality doesn't
-- hold; or, where it isn't the last one, that for the part on which it holds, alone or before the
-- former
abbrev pub IsSplitConversion : Constraints → Piece → ℕ → ℕ → Option Overflow → Type 0
IsSplitConversion rows piece old new over =
    let c : Constraint = constraint_at rows.list piece.row in
    ((new ≡ old) × (over ≡ None)) ⊎ ((piece.row < length rows.list)
    × IsNextConversion piece.region (complement c) old new over)
    ⊎ ((piece.row + 1 < length rows.list)
    × AreNextConversions piece.region c (complement c) old new over)

-- a piece with a point is split by the next system
pub record IsSplitNext (systems : List Constraints) (piece : Piece) (Split : Constraints → Type 0)
    : Type 0 where
  pub point : List ℤ
  pub within : IsPointIn piece.region point
  pub rows : Constraints
  pub at : slice_get systems piece.passed ≡ Some rows
  pub split : Split rows

-- what a turn counts: nothing, or what this split does
pub record IsCountedTurn (systems : List Constraints) (piece : Piece) (before after : List Piece)
    (old new : ℕ) : Type 0 where
  pub turn : IsTurn systems piece before after
  pub conversions : ((after ≡ before) × (new ≡ old)) ⊎ IsSplitNext systems piece
      (λ rows. IsCountedSplit rows piece before after old new)

-- where it isn't finished
abbrev pub IsTurnConversion : List Constraints → Piece → ℕ → ℕ → Option Overflow → Type 0
IsTurnConversion systems piece old new over = ((new ≡ old) × (over ≡ None))
    ⊎ IsSplitNext systems piece (λ rows. IsSplitConversion rows piece old new over)

-- the first piece is the whole set
abbrev pub whole : Constraints → Piece
whole first = record { region = first; passed = 0; row = 0 }

-- what the search over branches counts and shows
abbrev pub IsBranchSearch : Constraints → List Constraints → ℕ → ℕ → Option Overflow → Type 0
IsBranchSearch first systems old new over = IsSearchBy first
    (AreTurns (IsCountedTurn systems) (IsTurnConversion systems) (whole first ∷ [])) old new over

-- a call that appends the one part
abbrev pub ConvertsInner : {T : Type 0} → Constraints → Piece → List Piece → List Piece → ℕ → ℕ
    → Result T ConvErr → Type 0
ConvertsInner rows piece before after old new (Ok x) =
    IsCountedInner rows piece before after old new
ConvertsInner rows piece before after old new (Err e) = (piece.row + 1 < length rows.list)
    × IsNextConversion piece.region (constraint_at rows.list piece.row) old new (conv_overflow e)

-- one that appends both
abbrev pub ConvertsSplit : {T : Type 0} → Constraints → Piece → List Piece → List Piece → ℕ → ℕ
    → Result T ConvErr → Type 0
ConvertsSplit rows piece before after old new (Ok x) =
    IsCountedSplit rows piece before after old new
ConvertsSplit rows piece before after old new (Err e) =
    IsSplitConversion rows piece old new (conv_overflow e)

-- one that takes a piece: nothing is counted where a point is found
abbrev pub ConvertsTurn : List Constraints → Piece → List Piece → List Piece → ℕ → ℕ
    → Result (Option (List ℤ)) ConvErr → Type 0
ConvertsTurn systems piece before after old new (Ok None) = ((after ≡ before) × (new ≡ old))
    ⊎ IsSplitNext systems piece (λ rows. IsCountedSplit rows piece before after old new)
ConvertsTurn systems piece before after old new (Ok (Some v)) = new ≡ old
ConvertsTurn systems piece before after old new (Err e) =
    IsTurnConversion systems piece old new (conv_overflow e)

-- one that searches so
abbrev pub ConvertsBranches : {T : Type 0} → Constraints → List Constraints → ℕ → ℕ
    → Result T ConvErr → Type 0
ConvertsBranches first systems old new result =
    IsBranchSearch first systems old new (overflow_in conv_overflow result)

-- ---- the free search
-- what an inequality makes of what is left of a set: nothing is counted where it holds on that;
-- else the conversion for the part on which it doesn't, which is appended, and then for the rest
abbrev pub IsCountedRest : Constraints → ℕ → Constraints → List ℕ → List Part → List Part
    → Constraints → ℕ → ℕ → Type 0
IsCountedRest rows k region numbers before after rest old new =
    let c : Constraint = constraint_at rows.list k in
    (HoldsOn region c × (after ≡ before) × (rest ≡ region) × (new ≡ old))
    ⊎ (IsPushed rows k region numbers before after × (rest ≡ with_one region c)
    × AreNextTwo region (complement c) c old new None)

-- where it isn't finished: nothing, the former or both
abbrev pub IsRestConversion : Constraints → Constraint → ℕ → ℕ → Option Overflow → Type 0
IsRestConversion region c old new over =
    ((new ≡ old) × (over ≡ None)) ⊎ AreNextConversions region (complement c) c old new over

-- the first k inequalities, one after another
pub data AreCountedRests (rows : Constraints) (numbers : List ℕ) (region : Constraints)
    (before : List Part) (old : ℕ) : ℕ → List Part → Constraints → ℕ → Type 0 where
  begins : AreCountedRests rows numbers region before old 0 before region old
  takes : {k : ℕ} {middle after : List Part} {left rest : Constraints} {counted new : ℕ}
      → AreCountedRests rows numbers region before old k middle left counted
      → IsCountedRest rows k left numbers middle after rest counted new
      → AreCountedRests rows numbers region before old (k + 1) after rest new

-- those before the last that is crossed, and then the conversion for the part on which that doesn't
-- hold, which is appended
pub record IsCountedParting (rows : Constraints) (last : ℕ) (region : Constraints)
    (numbers : List ℕ) (before after : List Part) (old new : ℕ) : Type 0 where
  pub middle : List Part
  pub rest : Constraints
  pub counted : ℕ
  pub rests : AreCountedRests rows numbers region before old last middle rest counted
  pub pushed : IsPushed rows last rest numbers middle after
  pub conversion : IsNextConversion rest (complement (constraint_at rows.list last)) counted new
      None

-- where it isn't finished: the first of these, and then a part of what the next one counts
pub record IsBrokenParting (rows : Constraints) (last : ℕ) (region : Constraints)
    (numbers : List ℕ) (before : List Part) (old new : ℕ) (over : Option Overflow) : Type 0 where
  pub index : ℕ
  pub middle : List Part
  pub rest : Constraints
  pub counted : ℕ
  pub rests : AreCountedRests rows numbers region before old index middle rest counted
  pub broken : ((index < last)
      × IsRestConversion rest (constraint_at rows.list index) counted new over)
      ⊎ ((index ≡ last)
      × IsNextConversion rest (complement (constraint_at rows.list last)) counted new over)

-- a part is parted by a system; on what is appended fewer stay open
pub record IsCountedCut (systems : List Constraints) (part : Part) (before after : List Part)
    (old new : ℕ) : Type 0 where
  pub cut : Cut
  pub is_cut : IsCutOf systems part.region cut
  pub numbers : List ℕ
  pub fewer : length numbers < length part.met.items
  pub parting : IsCountedParting is_cut.rows cut.last part.region numbers before after old new

-- where it isn't finished
pub record IsBrokenCut (systems : List Constraints) (part : Part) (old new : ℕ)
    (over : Option Overflow) : Type 0 where
  pub cut : Cut
  pub is_cut : IsCutOf systems part.region cut
  pub numbers : List ℕ
  pub before : List Part
  pub parting : IsBrokenParting is_cut.rows cut.last part.region numbers before old new over

-- what a turn counts: nothing where the part has no point or lies in a system, or else this
abbrev pub IsCountedPart : List Constraints → Part → List Part → List Part → ℕ → ℕ → Type 0
IsCountedPart systems part before after old new =
    ((HoldNowhere part.region ⊎ LiesInSome systems part.region) × (after ≡ before) × (new ≡ old))
    ⊎ IsCountedCut systems part before after old new

-- where it isn't finished
abbrev pub IsPartConversion : List Constraints → Part → ℕ → ℕ → Option Overflow → Type 0
IsPartConversion systems part old new over =
    ((new ≡ old) × (over ≡ None)) ⊎ IsBrokenCut systems part old new over

-- turns from the whole set, on which all systems are open
pub record AreFreeTurns (first : Constraints) (systems : List Constraints) (old new : ℕ)
    (over : Option Overflow) : Type 0 where
  pub part : Part
  pub is_first : part.region ≡ first
  pub all : length part.met.items ≡ length systems
  pub turns : AreTurns (IsCountedPart systems) (IsPartConversion systems) (part ∷ []) old new over

-- what the free search counts and shows
abbrev pub IsFreeSearch : Constraints → List Constraints → ℕ → ℕ → Option Overflow → Type 0
IsFreeSearch first systems old new over =
    IsSearchBy first (AreFreeTurns first systems) old new over

-- a call that takes an inequality
abbrev pub ConvertsRest : Constraints → ℕ → Constraints → List ℕ → List Part → List Part → ℕ → ℕ
    → Result Constraints ConvErr → Type 0
ConvertsRest rows k region numbers before after old new (Ok rest) =
    IsCountedRest rows k region numbers before after rest old new
ConvertsRest rows k region numbers before after old new (Err e) =
    IsRestConversion region (constraint_at rows.list k) old new (conv_overflow e)

-- one that parts a set by a system
abbrev pub ConvertsParting : {T : Type 0} → Constraints → ℕ → Constraints → List ℕ → List Part
    → List Part → ℕ → ℕ → Result T ConvErr → Type 0
ConvertsParting rows last region numbers before after old new (Ok x) =
    IsCountedParting rows last region numbers before after old new
ConvertsParting rows last region numbers before after old new (Err e) =
    IsBrokenParting rows last region numbers before old new (conv_overflow e)

-- by that of a cut
abbrev pub ConvertsCut : {T : Type 0} → List Constraints → Cut → Constraints → List ℕ → List Part
    → List Part → ℕ → ℕ → Result T ConvErr → Type 0
ConvertsCut systems cut region numbers before after old new result = (rows : Constraints)
    × (slice_get systems cut.system ≡ Some rows)
    × ConvertsParting rows cut.last region numbers before after old new result

-- one that takes a part: nothing is counted where a point is found
abbrev pub ConvertsPart : List Constraints → Part → List Part → List Part → ℕ → ℕ
    → Result (Option (List ℤ)) ConvErr → Type 0
ConvertsPart systems part before after old new (Ok None) =
    IsCountedPart systems part before after old new
ConvertsPart systems part before after old new (Ok (Some v)) = new ≡ old
ConvertsPart systems part before after old new (Err e) =
    IsPartConversion systems part old new (conv_overflow e)

-- one that searches so
abbrev pub ConvertsFreely : {T : Type 0} → Constraints → List Constraints → ℕ → ℕ
    → Result T ConvErr → Type 0
ConvertsFreely first systems old new result =
    IsFreeSearch first systems old new (overflow_in conv_overflow result)

-- ---- both searches
-- the free one shows an overflow, and that over branches is made in its place
pub record IsSearchedAgain (first : Constraints) (systems : List Constraints) (old new : ℕ)
    (over : Option Overflow) : Type 0 where
  pub between : ℕ
  pub refused : Overflow
  pub free : IsFreeSearch first systems old between (Some refused)
  pub branches : IsBranchSearch first systems between new over

-- the free one alone where it shows none, or both
abbrev pub IsSearchConversion : Constraints → List Constraints → ℕ → ℕ → Option Overflow → Type 0
IsSearchConversion first systems old new over =
    ((over ≡ None) × IsFreeSearch first systems old new None)
    ⊎ IsSearchedAgain first systems old new over

-- a call that searches
abbrev pub ConvertsSearch : {T : Type 0} → Constraints → List Constraints → ℕ → ℕ
    → Result T ConvErr → Type 0
ConvertsSearch first systems old new result =
    IsSearchConversion first systems old new (overflow_in conv_overflow result)
