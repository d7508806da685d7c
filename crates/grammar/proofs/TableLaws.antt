-- Tables of machines, compared with the forms by computation.
use Rattle.std.proofs.Common.{◌≡◌, ℕ, ◌+◌, ◌*◌, ◌<◌, zero, suc, Bool, true, false, not, ◌&&◌, eqb, ltb, List, [], ◌∷◌, length, map, take, drop, get_or, refl, ap, sym, subst, ◌∙◌, inl, inr, arith}
use Rattle.std.specs.Prelude.{cond, ◌||◌}
use Rattle.std.proofs.lemmas.Bool.{eqb-true, ltb-true, and_parts, cases_lt}
use Rattle.std.proofs.lemmas.List.{get_or-drop, get_or-take, get_or_past, drop-drop}
use Rattle.grammar.specs.Form.{Form}
use Rattle.grammar.specs.Derivative.{after_rows, states, some_ends, lives}
use Rattle.grammar.specs.SameRows.{SameRows}
use Rattle.grammar.specs.Machine.{next, Steps, Decides}
use Rattle.grammar.proofs.AvoidedByte.{or_cases}
use Rattle.grammar.proofs.SameForms.{within, same_rows_by}
use Rattle.grammar.proofs.AlikeBytes.{same_bool, bools_equal, alike, AlikeInRows, same_after_rows, alike_states}

-- the rows of each state: the form alone at first, and then what may come behind each text
abbrev pub rows_of_states : Form → List (List ℕ) → List (List (List Form))
rows_of_states f texts = ((f ∷ []) ∷ []) ∷ map (states ((f ∷ []) ∷ [])) texts

abbrev pub is_some : List (List Form) → Bool
is_some [] = false
is_some (row ∷ rows) = true

abbrev pub is_same_rows : List (List Form) → List (List Form) → Bool
is_same_rows old new = is_some new && (within old new && within new old)

-- the state has these rows; the state 255, of which the first argument tells, has none
abbrev pub has_rows : Bool → List (List (List Form)) → ℕ → List (List Form) → Bool
has_rows true all state rows = not (is_some rows)
has_rows false all state rows = is_same_rows rows (get_or all state [])

abbrev pub leads_to : List (List (List Form)) → ℕ → List (List Form) → Bool
leads_to all state rows = has_rows (eqb state 255) all state rows

-- one of the bytes has this class, and the form doesn't tell the byte b apart from it; each byte stands with its class
abbrev pub has_alike : Form → ℕ → ℕ → List (ℕ × ℕ) → Bool
has_alike f b class [] = false
has_alike f b class (c ∷ bytes) = (eqb class c.1 && alike b c.0 f) || has_alike f b class bytes

-- a byte for all that are alike: these, and those from b on that are like none before them
abbrev pub unlike_bytes : Form → List (ℕ × ℕ) → ℕ → List ℕ → List (ℕ × ℕ)
unlike_bytes f bytes b [] = bytes
unlike_bytes f bytes b (class ∷ classes) = unlike_bytes f (cond (has_alike f b class bytes) bytes ((b, class) ∷ bytes)) (suc b) classes

-- each byte from b on is like one of these
abbrev pub are_alike : Form → List (ℕ × ℕ) → ℕ → List ℕ → Bool
are_alike f bytes b [] = true
are_alike f bytes b (class ∷ classes) = has_alike f b class bytes && are_alike f bytes (suc b) classes

-- the table's row for a state, at these bytes
abbrev pub is_row : List (List (List Form)) → List (List Form) → List ℕ → List (ℕ × ℕ) → Bool
is_row all old row [] = true
is_row all old row (b ∷ bytes) = (ltb b.1 32 && leads_to all (get_or row b.1 255) (after_rows b.0 old)) && is_row all old row bytes

abbrev pub is_state : List (ℕ × ℕ) → List (List (List Form)) → List (List Form) → Bool → List ℕ → Bool
is_state bytes all old end row = (is_some old && same_bool end (some_ends old)) && is_row all old row bytes

-- the table for these states
abbrev pub is_table : List (ℕ × ℕ) → List (List (List Form)) → List (List (List Form)) → List Bool → List ℕ → Bool
is_table bytes all [] ends steps = true
is_table bytes all (old ∷ olds) ends steps = is_state bytes all old (get_or ends 0 false) (take 32 steps) && is_table bytes all olds (drop 1 ends) (drop 32 steps)

abbrev pub fits : Form → List ℕ → List (ℕ × ℕ) → List ℕ → List Bool → List (List (List Form)) → Bool
fits f classes bytes steps ends all = (eqb (length classes) 256 && (ltb (length all) 256 && are_alike f bytes 0 classes)) && is_table bytes all all ends steps

-- each entry of the tables is what the forms say, where each state but the first is named by a text that leads to it
abbrev pub is_decided : List ℕ → List ℕ → List Bool → Form → List (List ℕ) → Bool
is_decided classes steps ends f texts = lives f && fits f classes (unlike_bytes f [] 0 classes) steps ends (rows_of_states f texts)

some_rows : (rows : List (List Form)) → is_some rows ≡ true → rows ≡ [] → ⊥
some_rows [] e h = cc
some_rows (row ∷ rows) e h = cc

no_rows : (rows : List (List Form)) → not (is_some rows) ≡ true → rows ≡ []
no_rows [] e = refl
no_rows (row ∷ rows) e = cc

alike_at : (f : Form) (bytes : List (ℕ × ℕ)) (b : ℕ) (classes : List ℕ) (k : ℕ) → are_alike f bytes b classes ≡ true → k < length classes → has_alike f (b + k) (get_or classes k 0) bytes ≡ true
alike_at f bytes b [] k e h = absurd (omega arith)
alike_at f bytes b (class ∷ classes) zero e h =
    let same : b ≡ b + 0 = omega arith in
    subst (λ (x : ℕ). has_alike f x class bytes ≡ true) same (and_parts (has_alike f b class bytes) (are_alike f bytes (suc b) classes) e).0
alike_at f bytes b (class ∷ classes) (suc k) e h =
    let same : suc b + k ≡ b + suc k = omega arith in
    subst (λ (x : ℕ). has_alike f x (get_or classes k 0) bytes ≡ true) same
    (alike_at f bytes (suc b) classes k (and_parts (has_alike f b class bytes) (are_alike f bytes (suc b) classes) e).1 (omega arith))

-- a byte that the form doesn't tell apart from one of these goes as the row says
row_step : (f : Form) (all : List (List (List Form))) (old : List (List Form)) (row : List ℕ) (b class : ℕ) (bytes : List (ℕ × ℕ)) → has_alike f b class bytes ≡ true → is_row all old row bytes ≡ true →
    (c : ℕ) × (alike b c f ≡ true) × ((ltb class 32 && leads_to all (get_or row class 255) (after_rows c old)) ≡ true)
row_step f all old row b class [] h e = cc
row_step f all old row b class (c ∷ bytes) h e =
    let p = and_parts (ltb c.1 32 && leads_to all (get_or row c.1 255) (after_rows c.0 old)) (is_row all old row bytes) e in
    elim (or_cases (eqb class c.1 && alike b c.0 f) (has_alike f b class bytes) h) [
      | inl x ↦ (
          let q = and_parts (eqb class c.1) (alike b c.0 f) x in
          let same : c.1 ≡ class = sym (eqb-true class c.1 q.0) in
          (c.0, q.1, subst (λ (k : ℕ). (ltb k 32 && leads_to all (get_or row k 255) (after_rows c.0 old)) ≡ true) same p.0))
      | inr y ↦ row_step f all old row b class bytes y p.1
    ]

table_state : (bytes : List (ℕ × ℕ)) (all olds : List (List (List Form))) (ends : List Bool) (steps : List ℕ) (i : ℕ) → is_table bytes all olds ends steps ≡ true → i < length olds →
    is_state bytes all (get_or olds i []) (get_or ends i false) (take 32 (drop (i * 32) steps)) ≡ true
table_state bytes all [] ends steps i e h = absurd (omega arith)
table_state bytes all (old ∷ olds) ends steps zero e h =
    (and_parts (is_state bytes all old (get_or ends 0 false) (take 32 steps)) (is_table bytes all olds (drop 1 ends) (drop 32 steps)) e).0
table_state bytes all (old ∷ olds) ends steps (suc i) e h =
    let later = table_state bytes all olds (drop 1 ends) (drop 32 steps) i
    (and_parts (is_state bytes all old (get_or ends 0 false) (take 32 steps)) (is_table bytes all olds (drop 1 ends) (drop 32 steps)) e).1 (omega arith) in
    let at : 32 + i * 32 ≡ suc i * 32 = omega arith in
    let end : get_or (drop 1 ends) i false ≡ get_or ends (suc i) false = get_or-drop 1 ends i false ∙ ap (λ (k : ℕ). get_or ends k false) (let one : 1 + i ≡ suc i = omega arith in one) in
    let row : drop (i * 32) (drop 32 steps) ≡ drop (suc i * 32) steps = drop-drop (i * 32) 32 steps ∙ ap (λ (k : ℕ). drop k steps) at in
    subst (λ (x : Bool). is_state bytes all (get_or olds i []) x (take 32 (drop (suc i * 32) steps)) ≡ true) end
    (subst (λ (x : List ℕ). is_state bytes all (get_or olds i []) (get_or (drop 1 ends) i false) (take 32 x) ≡ true) row later)

-- an entry of a state's row is that of the whole table
entry_at : (steps : List ℕ) (state class : ℕ) → class < 32 → get_or (take 32 (drop (state * 32) steps)) class 255 ≡ get_or steps (state * 32 + class) 255
entry_at steps state class h = get_or-take 32 (drop (state * 32) steps) class 255 h ∙ get_or-drop (state * 32) steps class 255

known_state : (all : List (List (List Form))) (state : ℕ) → is_some (get_or all state []) ≡ true → state < length all
known_state all state e = elim (cases_lt state (length all)) [ inl x ↦ x | inr y ↦ absurd (some_rows (get_or all state []) e (get_or_past all state [] (omega (arith, y)))) ]

step_by : (all : List (List (List Form))) (b state after : ℕ) (new : List (List Form)) (dead : Bool) → get_or all 255 [] ≡ [] → new ≡ after_rows b (get_or all state []) → eqb after 255 ≡ dead →
    has_rows dead all after new ≡ true → Steps (length all) (λ (s : ℕ). get_or all s []) b state after
step_by all b state after new true none is d e =
    let gone : after ≡ 255 = eqb-true after 255 d in
    let empty : get_or all after [] ≡ [] = ap (λ (k : ℕ). get_or all k []) gone ∙ none in
    let old : after_rows b (get_or all state []) ≡ [] = sym is ∙ no_rows new e in
    record { same = subst (λ (x : List (List Form)). SameRows (after_rows b (get_or all state [])) x) (old ∙ sym empty) (record { kept = λ row h. h; only = λ row h. h }); known = inl gone }
step_by all b state after new false none is d e =
    let p = and_parts (is_some (get_or all after [])) (within new (get_or all after []) && within (get_or all after []) new) e in
    record {
      same = subst (λ (x : List (List Form)). SameRows x (get_or all after [])) is (same_rows_by new (get_or all after []) p.1);
      known = inr (known_state all after p.0);
    }

-- bytes that the form doesn't tell apart no state tells apart
states_alike : (b c : ℕ) (f : Form) (texts : List (List ℕ)) (i : ℕ) → alike b c f ≡ true → AlikeInRows b c (get_or (map (states ((f ∷ []) ∷ [])) texts) i [])
states_alike b c f [] i h = tt
states_alike b c f (text ∷ texts) zero h = alike_states b c ((f ∷ []) ∷ []) text ((h, tt), tt)
states_alike b c f (text ∷ texts) (suc i) h = states_alike b c f texts i h

all_alike : (b c : ℕ) (f : Form) (texts : List (List ℕ)) (state : ℕ) → alike b c f ≡ true → AlikeInRows b c (get_or (rows_of_states f texts) state [])
all_alike b c f texts zero h = ((h, tt), tt)
all_alike b c f texts (suc i) h = states_alike b c f texts i h

goes_by : (classes : List ℕ) (bytes : List (ℕ × ℕ)) (steps : List ℕ) (ends : List Bool) (f : Form) (texts : List (List ℕ)) → length classes ≡ 256 → get_or (rows_of_states f texts) 255 [] ≡ [] → are_alike f bytes 0 classes ≡ true →
    is_table bytes (rows_of_states f texts) (rows_of_states f texts) ends steps ≡ true →
    (state b : ℕ) → state < length (rows_of_states f texts) → b < 256 → Steps (length (rows_of_states f texts)) (λ (s : ℕ). get_or (rows_of_states f texts) s []) b state (next classes steps state b)
goes_by classes bytes steps ends f texts whole none like e state b h k =
    let all = rows_of_states f texts in
    let old = get_or all state [] in
    let row = take 32 (drop (state * 32) steps) in
    let class = get_or classes b 0 in
    let s = and_parts (is_some old && same_bool (get_or ends state false) (some_ends old)) (is_row all old row bytes) (table_state bytes all all ends steps state e h) in
    let at : 0 + b ≡ b = omega arith in
    let some : has_alike f b class bytes ≡ true = subst (λ (x : ℕ). has_alike f x class bytes ≡ true) at (alike_at f bytes 0 classes b like (omega (arith, whole))) in
    let c = row_step f all old row b class bytes some s.1 in
    let p = and_parts (ltb class 32) (leads_to all (get_or row class 255) (after_rows c.0 old)) c.2 in
    let same : after_rows b old ≡ after_rows c.0 old = same_after_rows b c.0 old (all_alike b c.0 f texts state c.1) in
    let entry : get_or row class 255 ≡ next classes steps state b = entry_at steps state class (ltb-true class 32 p.0) in
    subst (λ (x : ℕ). Steps (length all) (λ (s : ℕ). get_or all s []) b state x) entry
    (step_by all b state (get_or row class 255) (after_rows c.0 old) (eqb (get_or row class 255) 255) none (sym same) refl p.1)

-- the tables decide the form where each of their entries is computed from it
pub decides_by : (classes steps : List ℕ) (ends : List Bool) (f : Form) (texts : List (List ℕ)) → is_decided classes steps ends f texts ≡ true → Decides classes steps ends f
decides_by classes steps ends f texts e =
    let all = rows_of_states f texts in
    let bytes = unlike_bytes f [] 0 classes in
    let p = and_parts (lives f) (fits f classes bytes steps ends all) e in
    let q = and_parts (eqb (length classes) 256 && (ltb (length all) 256 && are_alike f bytes 0 classes)) (is_table bytes all all ends steps) p.1 in
    let sizes = and_parts (eqb (length classes) 256) (ltb (length all) 256 && are_alike f bytes 0 classes) q.0 in
    let like = and_parts (ltb (length all) 256) (are_alike f bytes 0 classes) sizes.1 in
    let few : length all < 256 = ltb-true (length all) 256 like.0 in
    let none : get_or all 255 [] ≡ [] = get_or_past all 255 [] (omega (arith, few)) in
    let tests : (state : ℕ) → state < length all → (is_some (get_or all state []) ≡ true) × (same_bool (get_or ends state false) (some_ends (get_or all state [])) ≡ true) =
    λ (state : ℕ) (h : state < length all). and_parts (is_some (get_or all state [])) (same_bool (get_or ends state false) (some_ends (get_or all state [])))
    (and_parts (is_some (get_or all state []) && same_bool (get_or ends state false) (some_ends (get_or all state []))) (is_row all (get_or all state []) (take 32 (drop (state * 32) steps)) bytes) (table_state bytes all all ends steps state q.1 h)).0 in
    record {
      states = length all;
      rows = λ (state : ℕ). get_or all state [];
      alive = p.0;
      first = omega arith;
      start = refl;
      none = none;
      some = λ (state : ℕ) (h : state < length all). some_rows (get_or all state []) (tests state h).0;
      goes = goes_by classes bytes steps ends f texts (eqb-true (length classes) 256 sizes.0) none like.1 q.1;
      end = λ (state : ℕ) (h : state < length all). bools_equal (get_or ends state false) (some_ends (get_or all state [])) (tests state h).1;
    }
