-- What the searches count.
use Rattle.std.proofs.Common.{◌≡◌, ◌⊎◌, inl, inr, ℕ, ◌+◌, ◌<◌, ◌≤◌, List, [], ◌∷◌, ◌++◌, length, Option, Some, None, Result, Ok, Err, ℤ, refl, sym, ◌∙◌, subst, ap, arith}
use Rattle.std.specs.Prelude.{IfOk, MatchOption, is_some, true, false}
use Rattle.std.proofs.lemmas.List.{length_push}
use Rattle.row_core.specs.Lists.{Row}
use Rattle.row_core.specs.declared.errors.Overflow.{Overflow}
use Rattle.row_core.specs.declared.errors.ConvErr.{ConvErr}
use Rattle.chernikova.specs.Conversion.{ConvertsRows, ConvertsFrom}
use Rattle.cons_sys.specs.Constraints.{Constraint, Constraints, constraint_at}
use Rattle.nnc_enc.specs.Encoding.{encoded_constraint, encoded_constraints}
use Rattle.poly_pair.specs.declared.topology.Topology.TheVariants.{Nnc}
use Rattle.poly_pair.specs.Work.{rows_work, cons_work, conv_overflow, overflow_in, ConvertsFirst}
use Rattle.poly_pair.proofs.WorkLemmas.{first_unconverted, first_of_rows, first_of_from}
use Rattle.cover_search.specs.declared.contacts.Cut.{Cut}
use Rattle.cover_search.specs.declared.contacts.Plan.{Plan}
use Rattle.cover_search.specs.declared.parts.Part.{Part}
use Rattle.cover_search.specs.declared.pieces.Piece.{Piece}
use Rattle.cover_search.specs.Inequalities.{complement}
use Rattle.cover_search.specs.Regions.{with_one}
use Rattle.cover_search.specs.Pieces.{inner_part, outer_part, IsTurn}
use Rattle.cover_search.specs.Parts.{IsCutOf, IsNext, IsPlan, IsPushed, IsCutBy, IsFollowed, as_number}
use Rattle.cover_search.specs.Conversions.{IsListConversion, IsNextConversion, AreNextConversions, ConvertsList, ConvertsNext, AreCountedTurns, none, more, IsLastTurn, AreTurns, IsListThen, IsSearchBy, IsCountedInner, IsCountedSplit, IsSplitConversion, IsSplitNext, IsCountedTurn, IsTurnConversion, whole, IsBranchSearch, ConvertsTurn, IsCountedRest, IsRestConversion, AreCountedRests, begins, takes, IsBrokenParting, IsCountedPart, IsPartConversion, AreFreeTurns, IsFreeSearch, ConvertsRest, ConvertsParting, ConvertsCut, ConvertsPart, IsSearchConversion}
use Rattle.cover_search.proofs.BranchLemmas.{same_at}
use Rattle.cover_search.proofs.RegionLemmas.{list_with_one}

-- ---- lists
pub list_converts : {T : Type 0} (cs : Constraints) (width : ℕ) (rows : List Row) (old new : ℕ) (r : Result T ConvErr) → width ≡ cs.dim + 2 → rows ≡ encoded_constraints cs → ConvertsRows width rows old new r → ConvertsList cs old new r
list_converts cs width rows old new r e f h =
    subst (λ (n : ℕ). ConvertsFirst (rows_work n cs.dim (encoded_constraints cs) 0) old new r) e
    (subst (λ (rs : List Row). ConvertsFirst (rows_work width cs.dim rs 0) old new r) f (first_of_rows width cs.dim rows old new r h))

pub list_unconverted : (cs : Constraints) (steps : ℕ) → IsListConversion cs steps steps None
list_unconverted cs steps = first_unconverted (cons_work Nnc cs) steps (omega arith)

pub next_converts : {T : Type 0} (cs : Constraints) (c : Constraint) (width from : ℕ) (rows : List Row) (old new : ℕ) (r : Result T ConvErr) → width ≡ cs.dim + 2 → rows ≡ encoded_constraints (with_one cs c) → from ≡ length (encoded_constraints cs) → ConvertsFrom width rows from old new r → ConvertsNext cs c old new r
next_converts cs c width from rows old new r e f g h =
    subst (λ (k : ℕ). ConvertsFirst (rows_work (cs.dim + 2) cs.dim (encoded_constraints (with_one cs c)) k) old new r) g
    (subst (λ (n : ℕ). ConvertsFirst (rows_work n cs.dim (encoded_constraints (with_one cs c)) from) old new r) e
    (subst (λ (rs : List Row). ConvertsFirst (rows_work width cs.dim rs from) old new r) f (first_of_from width cs.dim rows from old new r h)))

pub next_unconverted : (cs : Constraints) (c : Constraint) (steps : ℕ) → IsNextConversion cs c steps steps None
next_unconverted cs c steps = first_unconverted (record (cons_work Nnc (with_one cs c)) { from = length (encoded_constraints cs) }) steps below
  where
    below : length (encoded_constraints cs) ≤ length (encoded_constraints (with_one cs c))
    below = omega (arith, ap (λ (rs : List Row). length rs) (list_with_one cs c) ∙ length_push (encoded_constraints cs) (encoded_constraint cs.dim c))

-- of the same constraints
pub next_of_same : (cs ds : Constraints) (c : Constraint) (old new : ℕ) (over : Option Overflow) → cs ≡ ds → IsNextConversion cs c old new over → IsNextConversion ds c old new over
next_of_same cs ds c old new over e h = subst (λ (xs : Constraints). IsNextConversion xs c old new over) e h

-- of the part of the same piece
pub outer_of_same : (rows : Constraints) (copy piece : Piece) (old new : ℕ) (over : Option Overflow) → copy ≡ piece → IsNextConversion copy.region (complement (constraint_at rows.list copy.row)) old new over → IsNextConversion piece.region (complement (constraint_at rows.list piece.row)) old new over
outer_of_same rows copy piece old new over e h = subst (λ (p : Piece). IsNextConversion p.region (complement (constraint_at rows.list p.row)) old new over) e h

-- ---- turns
-- the conversion of the list of the set, and whole turns
pub record AreTurnsTo {X : Type 0} (Turn : X → List X → List X → ℕ → ℕ → Type 0) (first : Constraints) (start : List X) (old : ℕ) (pending : List X) (new : ℕ) : Type 0 where
  pub between : ℕ
  pub list : IsListConversion first old between None
  pub turns : AreCountedTurns Turn start between pending new

module _ {X : Type 0} (Turn : X → List X → List X → ℕ → ℕ → Type 0) (Broken : X → ℕ → ℕ → Option Overflow → Type 0) (first : Constraints) (start : List X) (old : ℕ) where
  pub no_turns : (pending : List X) (new : ℕ) → pending ≡ start → IsListConversion first old new None → AreTurnsTo Turn first start old pending new
  no_turns pending new e h = record { between = new; list = h; turns = subst (λ (xs : List X). AreCountedTurns Turn start new xs new) (sym e) none }

  pub one_turn : (pending before after : List X) (taken : X) (counted new : ℕ) → AreTurnsTo Turn first start old pending counted → pending ≡ before ++ taken ∷ [] → Turn taken before after counted new → AreTurnsTo Turn first start old after new
  one_turn pending before after taken counted new t e h = record { between = t.between; list = t.list; turns = more (subst (λ (xs : List X). AreCountedTurns Turn start t.between xs counted) e t.turns) h }

  -- after whole turns nothing is counted, or a turn isn't finished
  pub turns_end : (pending : List X) (counted new : ℕ) (over : Option Overflow) → AreTurnsTo Turn first start old pending counted → ((new ≡ counted) × (over ≡ None)) ⊎ IsLastTurn Broken pending counted new over → IsListThen first (AreTurns Turn Broken start) old new over
  turns_end pending counted new over t h = record { between = t.between; list = t.list; turns = record { pending = pending; counted = counted; turns = t.turns; last = h } }

-- ---- the search over branches
pub inner_counted : (rows : Constraints) (piece inner : Piece) (before after : List Piece) (old new : ℕ) → inner ≡ inner_part rows piece → piece.row + 1 < length rows.list → after ≡ before ++ inner ∷ [] → IsNextConversion piece.region (constraint_at rows.list piece.row) old new None → IsCountedInner rows piece before after old new
inner_counted rows piece inner before after old new e l g h = inr (l, g ∙ ap (λ (p : Piece). before ++ p ∷ []) e, h)

module _ (rows : Constraints) (piece : Piece) (below : piece.row < length rows.list) (before : List Piece) (old counted new : ℕ) where
  pub outer_counted : (middle after : List Piece) → IsCountedInner rows piece before middle old counted → after ≡ middle ++ outer_part rows piece ∷ [] → IsNextConversion piece.region (complement (constraint_at rows.list piece.row)) counted new None → IsCountedSplit rows piece before after old new
  outer_counted middle after i g h = inr (record { middle = middle; counted = counted; inner = i; below = below; joined = g; conversion = h })

  pub outer_broken : (middle : List Piece) (over : Option Overflow) → IsCountedInner rows piece before middle old counted → IsNextConversion piece.region (complement (constraint_at rows.list piece.row)) counted new over → IsSplitConversion rows piece old new over
  outer_broken middle over (inl i) h = inr (inl (below, subst (λ (n : ℕ). IsNextConversion piece.region (complement (constraint_at rows.list piece.row)) n new over) i.1 h))
  outer_broken middle over (inr i) h = inr (inr (i.0, inr (record { between = counted; first = i.2; second = h })))

-- ---- the free search
module _ (rows : Constraints) (k : ℕ) (region : Constraints) (numbers : List ℕ) (before after : List Part) (old counted new : ℕ) where
  pub rest_counted : (r : Result Constraints ConvErr) → IsPushed rows k region numbers before after → IfOk r (λ rest. rest ≡ with_one region (constraint_at rows.list k)) → IsNextConversion region (complement (constraint_at rows.list k)) old counted None → ConvertsNext region (constraint_at rows.list k) counted new r → ConvertsRest rows k region numbers before after old new r
  rest_counted (Ok rest) p e f h = inr (p, e, record { between = counted; first = f; second = h })
  rest_counted (Err error) p e f h = inr (inr (record { between = counted; first = f; second = h }))

-- the conversion of the list of the set, and whole turns
pub record AreFreeTurnsTo (first : Constraints) (systems : List Constraints) (old : ℕ) (pending : List Part) (new : ℕ) : Type 0 where
  pub part : Part
  pub is_first : part.region ≡ first
  pub all : length part.met.items ≡ length systems
  pub turns : AreTurnsTo (IsCountedPart systems) first (part ∷ []) old pending new

module _ (first : Constraints) (systems : List Constraints) (old : ℕ) where
  pub no_free_turns : (part : Part) (pending : List Part) (new : ℕ) → part.region ≡ first → length part.met.items ≡ length systems → pending ≡ part ∷ [] → IsListConversion first old new None → AreFreeTurnsTo first systems old pending new
  no_free_turns part pending new e f g h = record { part = part; is_first = e; all = f; turns = no_turns (IsCountedPart systems) (IsPartConversion systems) first (part ∷ []) old pending new g h }

  pub one_free_turn : (pending before after : List Part) (taken : Part) (counted new : ℕ) → AreFreeTurnsTo first systems old pending counted → pending ≡ before ++ taken ∷ [] → IsCountedPart systems taken before after counted new → AreFreeTurnsTo first systems old after new
  one_free_turn pending before after taken counted new t e h = record { part = t.part; is_first = t.is_first; all = t.all; turns = one_turn (IsCountedPart systems) (IsPartConversion systems) first (t.part ∷ []) old pending before after taken counted new t.turns e h }

  pub free_turns_end : (pending : List Part) (counted new : ℕ) (over : Option Overflow) → AreFreeTurnsTo first systems old pending counted → ((new ≡ counted) × (over ≡ None)) ⊎ IsLastTurn (IsPartConversion systems) pending counted new over → IsListThen first (AreFreeTurns first systems) old new over
  free_turns_end pending counted new over t h = record { between = t.turns.between; list = t.turns.list; turns = record { part = t.part; is_first = t.is_first; all = t.all; turns = record { pending = pending; counted = counted; turns = t.turns.turns; last = h } } }

-- the plan's next system parts the set
module _ (systems : List Constraints) (part : Part) (plan : Plan) (p : IsPlan systems part.region part.met.items (length part.met.items) plan) (before after : List Part) (old new : ℕ) where
  cut_counted : (cut : Cut) → plan.next ≡ Some cut → (r : Result (Option (List ℤ)) ConvErr) → ConvertsCut systems cut part.region plan.met.items before after old new r → (c : IsCutOf systems part.region cut) × ConvertsParting c.rows cut.last part.region plan.met.items before after old new r
  cut_counted cut e r h =
      let c : IsCutOf systems part.region cut = subst (IsNext systems part.region plan.met.items) e p.next in
      (c, subst (λ (rows : Constraints). ConvertsParting rows cut.last part.region plan.met.items before after old new r) (same_at systems cut.system cut.system h.0 c.rows refl h.1 c.at) h.2)

  fewer_open : (cut : Cut) → plan.next ≡ Some cut → length plan.met.items < length part.met.items
  fewer_open cut e = omega (arith, ap as_number e, p.few)

  pub followed_counts : (point : List ℤ) (r : Result (Option (List ℤ)) ConvErr) → IfOk r (IsFollowed systems plan part.region point before after) → MatchOption plan.next ((new ≡ old) × (overflow_in conv_overflow r ≡ None)) (λ (cut : Cut). ConvertsCut systems cut part.region plan.met.items before after old new r) → ConvertsPart systems part before after old new r
  followed_counts point r f h = by_next plan.next refl r f h
    where
      by_next : (next : Option Cut) → plan.next ≡ next → (a : Result (Option (List ℤ)) ConvErr) → IfOk a (λ found. MatchOption next (found ≡ Some point) (λ (cut : Cut). (found ≡ None) × IsCutBy systems cut part.region plan.met.items before after)) → MatchOption next ((new ≡ old) × (overflow_in conv_overflow a ≡ None)) (λ (cut : Cut). ConvertsCut systems cut part.region plan.met.items before after old new a) → ConvertsPart systems part before after old new a
      by_next None e (Ok None) g k = cc
      by_next None e (Ok (Some v)) g k = k.0
      by_next None e (Err error) g k = inl k
      by_next (Some cut) e (Ok None) g k =
          let c = cut_counted cut e (Ok None) k in
          inr (record { cut = cut; is_cut = c.0; numbers = plan.met.items; fewer = fewer_open cut e; parting = c.1 })
      by_next (Some cut) e (Ok (Some v)) g k = let none : Some v ≡ None = g.0 in cc
      by_next (Some cut) e (Err error) g k =
          let c = cut_counted cut e (Err error) k in
          inr (record { cut = cut; is_cut = c.0; numbers = plan.met.items; before = before; parting = c.1 })

-- ---- points
-- a call that finds a point counts nothing
pub found_counts_turn : (systems : List Constraints) (piece : Piece) (before after : List Piece) (old new : ℕ) (found : Option (List ℤ)) → is_some found ≡ true → ConvertsTurn systems piece before after old new (Ok found) → new ≡ old
found_counts_turn systems piece before after old new None e h = cc
found_counts_turn systems piece before after old new (Some v) e h = h

pub turn_counts : (systems : List Constraints) (piece : Piece) (before after : List Piece) (old new : ℕ) (found : Option (List ℤ)) → is_some found ≡ false → IsTurn systems piece before after → ConvertsTurn systems piece before after old new (Ok found) → IsCountedTurn systems piece before after old new
turn_counts systems piece before after old new None e t h = record { turn = t; conversions = h }
turn_counts systems piece before after old new (Some v) e t h = cc

pub found_counts_part : (systems : List Constraints) (part : Part) (before after : List Part) (old new : ℕ) (found : Option (List ℤ)) → is_some found ≡ true → ConvertsPart systems part before after old new (Ok found) → new ≡ old
found_counts_part systems part before after old new None e h = cc
found_counts_part systems part before after old new (Some v) e h = h

pub part_counts : (systems : List Constraints) (part : Part) (before after : List Part) (old new : ℕ) (found : Option (List ℤ)) → is_some found ≡ false → ConvertsPart systems part before after old new (Ok found) → IsCountedPart systems part before after old new
part_counts systems part before after old new None e h = h
part_counts systems part before after old new (Some v) e h = cc

-- ---- the count never falls
two_fewer : (cs : Constraints) (c d : Constraint) (old new : ℕ) (over : Option Overflow) → AreNextConversions cs c d old new over → old ≤ new
two_fewer cs c d old new over (inl h) = h.no_fewer
two_fewer cs c d old new over (inr h) = omega (arith, h.first.no_fewer, h.second.no_fewer)

module _ {X : Type 0} (Turn : X → List X → List X → ℕ → ℕ → Type 0) (fewer : (x : X) (before after : List X) (old new : ℕ) → Turn x before after old new → old ≤ new) (start : List X) (old : ℕ) where
  turns_fewer : {pending : List X} {new : ℕ} → AreCountedTurns Turn start old pending new → old ≤ new
  turns_fewer none = omega arith
  turns_fewer (more {before} {after} {taken} {counted} {new} t h) = omega (arith, turns_fewer t, fewer taken before after counted new h)

  all_fewer : (Broken : X → ℕ → ℕ → Option Overflow → Type 0) → ((x : X) (from to : ℕ) (over : Option Overflow) → Broken x from to over → from ≤ to) → (new : ℕ) (over : Option Overflow) → AreTurns Turn Broken start old new over → old ≤ new
  all_fewer Broken less new over t = by_last t.last
    where
      by_last : ((new ≡ t.counted) × (over ≡ None)) ⊎ IsLastTurn Broken t.pending t.counted new over → old ≤ new
      by_last (inl h) = omega (arith, turns_fewer t.turns, h.0)
      by_last (inr h) = omega (arith, turns_fewer t.turns, less h.taken t.counted new over h.conversion)

search_fewer : (first : Constraints) (Turns : ℕ → ℕ → Option Overflow → Type 0) → ((from to : ℕ) (o : Option Overflow) → Turns from to o → from ≤ to) → (old new : ℕ) (over : Option Overflow) → IsSearchBy first Turns old new over → old ≤ new
search_fewer first Turns fewer old new over (inl h) = h.no_fewer
search_fewer first Turns fewer old new over (inr h) = omega (arith, h.list.no_fewer, fewer h.between new over h.turns)

inner_fewer : (rows : Constraints) (piece : Piece) (before after : List Piece) (old new : ℕ) → IsCountedInner rows piece before after old new → old ≤ new
inner_fewer rows piece before after old new (inl h) = omega (arith, h.1)
inner_fewer rows piece before after old new (inr h) = h.2.no_fewer

split_fewer : (rows : Constraints) (piece : Piece) (before after : List Piece) (old new : ℕ) → IsCountedSplit rows piece before after old new → old ≤ new
split_fewer rows piece before after old new (inl h) = inner_fewer rows piece before after old new h
split_fewer rows piece before after old new (inr h) = omega (arith, inner_fewer rows piece before h.middle old h.counted h.inner, h.conversion.no_fewer)

piece_fewer : (systems : List Constraints) (piece : Piece) (before after : List Piece) (old new : ℕ) → IsCountedTurn systems piece before after old new → old ≤ new
piece_fewer systems piece before after old new t = by_case t.conversions
  where
    by_case : ((after ≡ before) × (new ≡ old)) ⊎ IsSplitNext systems piece (λ rows. IsCountedSplit rows piece before after old new) → old ≤ new
    by_case (inl h) = omega (arith, h.1)
    by_case (inr h) = split_fewer h.rows piece before after old new h.split

broken_split_fewer : (rows : Constraints) (piece : Piece) (old new : ℕ) (over : Option Overflow) → IsSplitConversion rows piece old new over → old ≤ new
broken_split_fewer rows piece old new over (inl h) = omega (arith, h.0)
broken_split_fewer rows piece old new over (inr (inl h)) = h.1.no_fewer
broken_split_fewer rows piece old new over (inr (inr h)) = two_fewer _ _ _ old new over h.1

broken_piece_fewer : (systems : List Constraints) (piece : Piece) (old new : ℕ) (over : Option Overflow) → IsTurnConversion systems piece old new over → old ≤ new
broken_piece_fewer systems piece old new over (inl h) = omega (arith, h.0)
broken_piece_fewer systems piece old new over (inr h) = broken_split_fewer h.rows piece old new over h.split

branches_fewer : (first : Constraints) (systems : List Constraints) (old new : ℕ) (over : Option Overflow) → IsBranchSearch first systems old new over → old ≤ new
branches_fewer first systems old new over h =
    search_fewer first (AreTurns (IsCountedTurn systems) (IsTurnConversion systems) (whole first ∷ []))
    (λ from to o t. all_fewer (IsCountedTurn systems) (piece_fewer systems) (whole first ∷ []) from (IsTurnConversion systems) (broken_piece_fewer systems) to o t) old new over h

rests_fewer : (rows : Constraints) (numbers : List ℕ) (region : Constraints) (before : List Part) (old : ℕ) {k : ℕ} {after : List Part} {rest : Constraints} {new : ℕ} → AreCountedRests rows numbers region before old k after rest new → old ≤ new
rests_fewer rows numbers region before old begins = omega arith
rests_fewer rows numbers region before old (takes {k} {middle} {after} {left} {rest} {counted} {new} t h) = omega (arith, rests_fewer rows numbers region before old t, by_case h)
  where
    by_case : IsCountedRest rows k left numbers middle after rest counted new → counted ≤ new
    by_case (inl n) = omega (arith, n.3)
    by_case (inr n) = omega (arith, n.2.first.no_fewer, n.2.second.no_fewer)

rest_fewer : (region : Constraints) (c : Constraint) (old new : ℕ) (over : Option Overflow) → IsRestConversion region c old new over → old ≤ new
rest_fewer region c old new over (inl h) = omega (arith, h.0)
rest_fewer region c old new over (inr h) = two_fewer region (complement c) c old new over h

part_fewer : (systems : List Constraints) (part : Part) (before after : List Part) (old new : ℕ) → IsCountedPart systems part before after old new → old ≤ new
part_fewer systems part before after old new (inl h) = omega (arith, h.2)
part_fewer systems part before after old new (inr h) = omega (arith, rests_fewer _ _ _ _ old h.parting.rests, h.parting.conversion.no_fewer)

broken_part_fewer : (systems : List Constraints) (part : Part) (old new : ℕ) (over : Option Overflow) → IsPartConversion systems part old new over → old ≤ new
broken_part_fewer systems part old new over (inl h) = omega (arith, h.0)
broken_part_fewer systems part old new over (inr h) = omega (arith, rests_fewer _ _ _ _ old h.parting.rests, by_case h.parting.broken)
  where
    b : IsBrokenParting h.is_cut.rows h.cut.last part.region h.numbers h.before old new over
    b = h.parting

    by_case : ((b.index < h.cut.last) × IsRestConversion b.rest (constraint_at h.is_cut.rows.list b.index) b.counted new over) ⊎ ((b.index ≡ h.cut.last) × IsNextConversion b.rest (complement (constraint_at h.is_cut.rows.list h.cut.last)) b.counted new over) → b.counted ≤ new
    by_case (inl n) = rest_fewer b.rest (constraint_at h.is_cut.rows.list b.index) b.counted new over n.1
    by_case (inr n) = n.1.no_fewer

free_fewer : (first : Constraints) (systems : List Constraints) (old new : ℕ) (over : Option Overflow) → IsFreeSearch first systems old new over → old ≤ new
free_fewer first systems old new over h =
    search_fewer first (AreFreeTurns first systems)
    (λ from to o t. all_fewer (IsCountedPart systems) (part_fewer systems) (t.part ∷ []) from (IsPartConversion systems) (broken_part_fewer systems) to o t.turns) old new over h

-- in both searches
pub searches_fewer : (first : Constraints) (systems : List Constraints) (old new : ℕ) (over : Option Overflow) → IsSearchConversion first systems old new over → old ≤ new
searches_fewer first systems old new over (inl h) = free_fewer first systems old new None h.1
searches_fewer first systems old new over (inr h) = omega (arith, free_fewer first systems old h.between (Some h.refused) h.free, branches_fewer first systems h.between new over h.branches)
