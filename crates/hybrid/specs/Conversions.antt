-- What the calls of a turn count and show.
use Rattle.std.specs.Prelude.{ℕ, length, Option, Result}
use Rattle.row_core.specs.declared.errors.Overflow.{Overflow}
use Rattle.row_core.specs.declared.errors.ConvErr.{ConvErr}
use Rattle.poly_pair.specs.Polyhedra.{Polyhedron, IsKept, HasNoPoint}
use Rattle.poly_pair.specs.Work.{conv_overflow, overflow_in, IsConversion}
use Rattle.lattice_ops.specs.Sets.{meet_work, hull_work}
use Rattle.lattice_ops.specs.Sequences.{IsOneOrNone, IsThen, IsElse}
use Rattle.mapped_systems.specs.Maps.{remaining, kept_variables}
use Rattle.dimensions.specs.Refusals.{IsMappedConversion}
use Rattle.dimensions.specs.PairConversions.{IsEmbeddingConversion}
use Rattle.elapse.specs.Elapses.{IsElapse, IsElapseConversion}
use Rattle.affine_maps.specs.Posts.{IsPost}
use Rattle.affine_maps.specs.PostLists.{IsStepConversion}
use Rattle.hybrid.specs.Steps.{IsPartIn, IsEmbedded, behind, IsTimePost, IsJumpPost}

-- the conversion of the list of the meet
abbrev pub IsMeetConversion : Polyhedron → Polyhedron → ℕ → ℕ → Option Overflow → Type 0
IsMeetConversion p q old new over = IsConversion (meet_work p q) old new over

-- ---- time
-- that of what a set comes to as time passes with the invariant
pub record IsReturnConversion (start inv flow : Polyhedron) (old new : ℕ)
    (over : Option Overflow) : Type 0 where
  pub elapsed : Polyhedron
  pub is_elapse : IsElapse start flow elapsed
  pub elapsed_kept : IsKept elapsed
  pub conversion : IsMeetConversion inv elapsed old new over

-- behind that of the time elapse
abbrev pub IsFlowConversion : Polyhedron → Polyhedron → Polyhedron → ℕ → ℕ → Option Overflow
    → Type 0
IsFlowConversion start inv flow old new over =
    IsThen (IsOneOrNone (IsElapseConversion start flow)) (IsReturnConversion start inv flow)
    old new over

-- from the part of a set in the invariant, where the flow isn't empty
pub record IsConversionFromPart (set inv flow : Polyhedron) (old new : ℕ)
    (over : Option Overflow) : Type 0 where
  pub some : ¬ (HasNoPoint flow)
  pub start : Polyhedron
  pub is_start : IsPartIn set inv start
  pub conversion : IsFlowConversion start inv flow old new over

-- as time passes: the meet with the invariant, and then these
abbrev pub IsTimeConversion : Polyhedron → Polyhedron → Polyhedron → ℕ → ℕ → Option Overflow
    → Type 0
IsTimeConversion set inv flow old new over =
    IsThen (IsMeetConversion set inv) (IsConversionFromPart set inv flow) old new over

-- ---- jumps
-- the meet of the set, with as many free variables behind its own, with the relation
pub record IsPairsConversion (set relation : Polyhedron) (old new : ℕ)
    (over : Option Overflow) : Type 0 where
  pub embedded : Polyhedron
  pub is_embedded : IsEmbedded set embedded
  pub embedded_kept : IsKept embedded
  pub conversion : IsMeetConversion embedded relation old new over

-- leaving the first variables of that out
pub record IsTargetsConversion (set relation : Polyhedron) (old new : ℕ)
    (over : Option Overflow) : Type 0 where
  pub embedded : Polyhedron
  pub is_embedded : IsEmbedded set embedded
  pub embedded_kept : IsKept embedded
  pub pairs : Polyhedron
  pub are_pairs : IsPartIn embedded relation pairs
  pub conversion : IsOneOrNone (IsMappedConversion (remaining pairs.cons.dim (behind set.cons.dim))
      (length (kept_variables pairs.cons.dim (behind set.cons.dim))) pairs) old new over

-- one after the other
abbrev pub IsConversionByEmbedding : Polyhedron → Polyhedron → ℕ → ℕ → Option Overflow → Type 0
IsConversionByEmbedding set relation old new over =
    IsThen (IsOneOrNone (IsEmbeddingConversion set.cons.dim set))
    (IsThen (IsPairsConversion set relation) (IsTargetsConversion set relation)) old new over

-- successors: from the stored pair of the relation, and behind an overflow of that by these
abbrev pub IsPostConversion : Polyhedron → Polyhedron → ℕ → ℕ → Option Overflow → Type 0
IsPostConversion set relation old new over = IsElse (IsOneOrNone (IsStepConversion set relation))
    (IsConversionByEmbedding set relation) old new over

-- those of the part of a set in the source's invariant
pub record IsLeapConversion (set inv relation : Polyhedron) (old new : ℕ)
    (over : Option Overflow) : Type 0 where
  pub start : Polyhedron
  pub is_start : IsPartIn set inv start
  pub conversion : IsPostConversion start relation old new over

-- the meet of these with the target's invariant
pub record IsArrivalConversion (set inv relation target_inv : Polyhedron) (old new : ℕ)
    (over : Option Overflow) : Type 0 where
  pub start : Polyhedron
  pub is_start : IsPartIn set inv start
  pub successors : Polyhedron
  pub is_post : IsPost start relation successors
  pub successors_kept : IsKept successors
  pub conversion : IsMeetConversion target_inv successors old new over

-- at a jump: the meet with the source's invariant, and then these
abbrev pub IsJumpConversion : Polyhedron → Polyhedron → Polyhedron → Polyhedron → ℕ → ℕ
    → Option Overflow → Type 0
IsJumpConversion set inv relation target_inv old new over =
    IsThen (IsMeetConversion set inv) (IsThen (IsLeapConversion set inv relation)
    (IsArrivalConversion set inv relation target_inv)) old new over

-- ---- turns
-- the hull of the set and a post
pub record IsHullConversion (IsMade : Polyhedron → Type 0) (set : Polyhedron) (old new : ℕ)
    (over : Option Overflow) : Type 0 where
  pub post : Polyhedron
  pub is_post : IsMade post
  pub conversion : IsConversion (hull_work set post) old new over

-- at the time turn of a set: the post, and then the hull
abbrev pub IsTimeTurnConversion : Polyhedron → Polyhedron → Polyhedron → ℕ → ℕ → Option Overflow
    → Type 0
IsTimeTurnConversion set inv flow old new over = IsThen (IsTimeConversion set inv flow)
    (IsHullConversion (IsTimePost set inv flow) set) old new over

-- at the jump turn of one
abbrev pub IsJumpTurnConversion : Polyhedron → Polyhedron → Polyhedron → Polyhedron → Polyhedron
    → ℕ → ℕ → Option Overflow → Type 0
IsJumpTurnConversion source inv relation set target_inv old new over =
    IsThen (IsJumpConversion source inv relation target_inv)
    (IsHullConversion (IsJumpPost source inv relation target_inv) set) old new over

-- ---- calls
abbrev pub ConvertsFlow : {T : Type 0} → Polyhedron → Polyhedron → Polyhedron → ℕ → ℕ
    → Result T ConvErr → Type 0
ConvertsFlow start inv flow old new result =
    IsFlowConversion start inv flow old new (overflow_in conv_overflow result)

abbrev pub ConvertsTime : {T : Type 0} → Polyhedron → Polyhedron → Polyhedron → ℕ → ℕ
    → Result T ConvErr → Type 0
ConvertsTime set inv flow old new result =
    IsTimeConversion set inv flow old new (overflow_in conv_overflow result)

abbrev pub ConvertsByEmbedding : {T : Type 0} → Polyhedron → Polyhedron → ℕ → ℕ → Result T ConvErr
    → Type 0
ConvertsByEmbedding set relation old new result =
    IsConversionByEmbedding set relation old new (overflow_in conv_overflow result)

abbrev pub ConvertsPost : {T : Type 0} → Polyhedron → Polyhedron → ℕ → ℕ → Result T ConvErr → Type 0
ConvertsPost set relation old new result =
    IsPostConversion set relation old new (overflow_in conv_overflow result)

abbrev pub ConvertsJump : {T : Type 0} → Polyhedron → Polyhedron → Polyhedron → Polyhedron → ℕ → ℕ
    → Result T ConvErr → Type 0
ConvertsJump set inv relation target_inv old new result =
    IsJumpConversion set inv relation target_inv old new (overflow_in conv_overflow result)

abbrev pub ConvertsTimeTurn : {T : Type 0} → Polyhedron → Polyhedron → Polyhedron → ℕ → ℕ
    → Result T ConvErr → Type 0
ConvertsTimeTurn set inv flow old new result =
    IsTimeTurnConversion set inv flow old new (overflow_in conv_overflow result)

abbrev pub ConvertsJumpTurn : {T : Type 0} → Polyhedron → Polyhedron → Polyhedron → Polyhedron
    → Polyhedron → ℕ → ℕ → Result T ConvErr → Type 0
ConvertsJumpTurn source inv relation set target_inv old new result =
    IsJumpTurnConversion source inv relation set target_inv old new
    (overflow_in conv_overflow result)
