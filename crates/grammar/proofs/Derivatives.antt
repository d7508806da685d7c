-- The derivative of a form by a byte is sound and complete.
use Rattle.std.proofs.Common.{◌≡◌, ℕ, ◌≤◌, ◌⊎◌, Bool, true, false, cond, ◌&&◌, eqb, leb, List, [], ◌∷◌, ◌++◌, zero, suc, refl, ap, sym, subst, ◌∙◌, inl, inr, arith, append_assoc}
use Rattle.std.proofs.lemmas.Bool.{eqb-true, eq-eqb, leb-true, le-leb, and_parts, and_from, or_left, or_right}
use Rattle.grammar.specs.Form.{Form, word, byte, seq, alt, many, upto, Times, Matches}
use Rattle.grammar.specs.Derivative.{nullable, after, after_row, after_rows, states, row_ends, some_ends, Spells, AnySpells}
use Rattle.grammar.proofs.AvoidedByte.{or_cases}

any_left : (a b : List (List Form)) (w : List ℕ) → AnySpells a w → AnySpells (a ++ b) w
any_left [] b w h = absurd h
any_left (row ∷ a) b w (inl h) = inl h
any_left (row ∷ a) b w (inr h) = inr (any_left a b w h)

any_right : (a b : List (List Form)) (w : List ℕ) → AnySpells b w → AnySpells (a ++ b) w
any_right [] b w h = h
any_right (row ∷ a) b w h = inr (any_right a b w h)

any_cases : (a b : List (List Form)) (w : List ℕ) → AnySpells (a ++ b) w → AnySpells a w ⊎ AnySpells b w
any_cases [] b w h = inr h
any_cases (row ∷ a) b w (inl h) = inl (inl h)
any_cases (row ∷ a) b w (inr h) = elim (any_cases a b w h) [ inl x ↦ inl (inr x) | inr y ↦ inr y ]

when_any : (t : Bool) (a : List (List Form)) (w : List ℕ) → t ≡ true → AnySpells a w → AnySpells (cond t a []) w
when_any true a w e h = h
when_any false a w e h = cc

any_when : (t : Bool) (a : List (List Form)) (w : List ℕ) → AnySpells (cond t a []) w → (t ≡ true) × AnySpells a w
any_when true a w h = (refl, h)
any_when false a w h = absurd h

-- two texts that make the empty one are empty
empty_parts : (u v : List ℕ) → [] ≡ u ++ v → (u ≡ []) × (v ≡ [])
empty_parts [] v e = (refl, sym e)
empty_parts (c ∷ u) v e = cc

-- a nullable form has the empty text
nullable_sound : (f : Form) → nullable f ≡ true → Matches f []
nullable_sound (word []) e = refl
nullable_sound (word (c ∷ cs)) e = cc
nullable_sound (byte low high) e = cc
nullable_sound (seq f g) e =
    let h = and_parts (nullable f) (nullable g) e in
    ([], [], refl, nullable_sound f h.0, nullable_sound g h.1)
nullable_sound (alt f g) e =
    elim (or_cases (nullable f) (nullable g) e) [ inl x ↦ inl (nullable_sound f x) | inr y ↦ inr (nullable_sound g y) ]
nullable_sound (many f) e = (zero, refl)
nullable_sound (upto k f) e = (zero, omega arith, refl)

at_empty : (f : Form) (u : List ℕ) → u ≡ [] → Matches f u → Matches f []
at_empty f u e m = subst (λ (x : List ℕ). Matches f x) e m

nullable_complete : (f : Form) → Matches f [] → nullable f ≡ true
nullable_complete (word []) m = refl
nullable_complete (word (c ∷ cs)) m = cc
nullable_complete (byte low high) (b, l, h, e) = cc
nullable_complete (seq f g) (u, v, e, m, n) =
    let p = empty_parts u v e in
    and_from (nullable f) (nullable g) (nullable_complete f (at_empty f u p.0 m)) (nullable_complete g (at_empty g v p.1 n))
nullable_complete (alt f g) (inl m) = or_left (nullable f) (nullable g) (nullable_complete f m)
nullable_complete (alt f g) (inr m) = or_right (nullable f) (nullable g) (nullable_complete g m)
nullable_complete (many f) m = refl
nullable_complete (upto k f) m = refl

-- a row whose forms are nullable spells the empty text
pub row_ends_sound : (row : List Form) → row_ends row ≡ true → Spells row []
row_ends_sound [] e = refl
row_ends_sound (f ∷ row) e =
    let h = and_parts (nullable f) (row_ends row) e in
    ([], [], refl, nullable_sound f h.0, row_ends_sound row h.1)

spells_at : (row : List Form) (v w : List ℕ) → v ≡ w → Spells row v → Spells row w
spells_at row v w e s = subst (λ (x : List ℕ). Spells row x) e s

any_at : (rows : List (List Form)) (v w : List ℕ) → v ≡ w → AnySpells rows v → AnySpells rows w
any_at rows v w e s = subst (λ (x : List ℕ). AnySpells rows x) e s

pub row_ends_complete : (row : List Form) → Spells row [] → row_ends row ≡ true
row_ends_complete [] s = refl
row_ends_complete (f ∷ row) (u, v, e, m, s) =
    let p = empty_parts u v e in
    and_from (nullable f) (row_ends row) (nullable_complete f (at_empty f u p.0 m)) (row_ends_complete row (spells_at row v [] p.1 s))

pub some_ends_sound : (rows : List (List Form)) → some_ends rows ≡ true → AnySpells rows []
some_ends_sound [] e = cc
some_ends_sound (row ∷ rows) e =
    elim (or_cases (row_ends row) (some_ends rows) e) [ inl x ↦ inl (row_ends_sound row x) | inr y ↦ inr (some_ends_sound rows y) ]

pub some_ends_complete : (rows : List (List Form)) → AnySpells rows [] → some_ends rows ≡ true
some_ends_complete [] s = absurd s
some_ends_complete (row ∷ rows) (inl s) = or_left (row_ends row) (some_ends rows) (row_ends_complete row s)
some_ends_complete (row ∷ rows) (inr s) = or_right (row_ends row) (some_ends rows) (some_ends_complete rows s)

-- the first of the pieces that isn't empty
abbrev FirstPiece : (List ℕ → Type 0) → ℕ → List ℕ → ℕ → Type 0
FirstPiece P b u n = (m : ℕ) × (y : List ℕ) × (z : List ℕ) × (suc m ≤ n) × (u ≡ y ++ z) × P (b ∷ y) × Times P m z

more_pieces : (P : List ℕ → Type 0) (b : ℕ) (u : List ℕ) (n : ℕ) → FirstPiece P b u n → FirstPiece P b u (suc n)
more_pieces P b u n (m, y, z, l, e, p, t) = (m, y, z, omega arith, e, p, t)

first_piece : (P : List ℕ → Type 0) (b : ℕ) (u x : List ℕ) (n : ℕ) → x ≡ b ∷ u → Times P n x → FirstPiece P b u n
first_piece P b u x zero e t = cc
first_piece P b u x (suc n) e ([], v, f, p, t) = more_pieces P b u n (first_piece P b u v n (sym f ∙ e) t)
first_piece P b u x (suc n) e (c ∷ s, v, f, p, t) =
    let head : c ≡ b = cc in
    let tail : u ≡ s ++ v = cc in
    (n, s, v, omega arith, tail, subst (λ (d : ℕ). P (d ∷ s)) head p, t)

byte_within : (low high b c : ℕ) (u : List ℕ) → b ∷ u ≡ c ∷ [] → low ≤ c → c ≤ high → (leb low b && leb b high) ≡ true
byte_within low high b c u e l h =
    let same : b ≡ c = cc in
    and_from (leb low b) (leb b high) (le-leb low b (omega arith)) (le-leb b high (omega arith))

-- a text of the form that begins with the byte, and then one of the row
abbrev Complete : ℕ → Form → Type 0
Complete b f = (row : List Form) (u v x : List ℕ) → x ≡ b ∷ u → Matches f x → Spells row v → AnySpells (after b f row) (u ++ v)

complete_word : (b c : ℕ) (cs : List ℕ) (row : List Form) (u v x : List ℕ) → x ≡ b ∷ u → x ≡ c ∷ cs → Spells row v → AnySpells (after b (word (c ∷ cs)) row) (u ++ v)
complete_word b c cs row u v x e m s =
    let head : b ≡ c = cc in
    let tail : u ≡ cs = cc in
    when_any (eqb b c) ((word cs ∷ row) ∷ []) (u ++ v) (eq-eqb b c head) (inl (u, v, refl, tail, s))

complete_byte : (b low high c : ℕ) (row : List Form) (u v x : List ℕ) → x ≡ b ∷ u → low ≤ c → c ≤ high → x ≡ c ∷ [] → Spells row v → AnySpells (after b (byte low high) row) (u ++ v)
complete_byte b low high c row u v x e l h m s =
    let empty : u ≡ [] = cc in
    let same : v ≡ u ++ v = ap (λ (y : List ℕ). y ++ v) (sym empty) in
    when_any (leb low b && leb b high) (row ∷ []) (u ++ v) (byte_within low high b c u (sym e ∙ m) l h) (inl (spells_at row v (u ++ v) same s))

complete_seq : (b : ℕ) (f g : Form) → Complete b f → Complete b g → Complete b (seq f g)
complete_seq b f g first second row u v x e ([], q, d, m, n) s =
    any_right (after b f (g ∷ row)) (cond (nullable f) (after b g row) []) (u ++ v)
    (when_any (nullable f) (after b g row) (u ++ v) (nullable_complete f m) (second row u v q (sym d ∙ e) n s))
complete_seq b f g first second row u v x e (c ∷ p, q, d, m, n) s =
    let head : c ≡ b = cc in
    let tail : u ≡ p ++ q = cc in
    any_left (after b f (g ∷ row)) (cond (nullable f) (after b g row) []) (u ++ v)
    (any_at (after b f (g ∷ row)) (p ++ (q ++ v)) (u ++ v) (sym (append_assoc p q v) ∙ ap (λ (y : List ℕ). y ++ v) (sym tail))
    (first (g ∷ row) p (q ++ v) (c ∷ p) (ap (λ (d : ℕ). d ∷ p) head) m (q, v, refl, n, s)))

complete_pieces : (b : ℕ) (f g : Form) → Complete b f → (row : List Form) (u v y z : List ℕ) → u ≡ y ++ z → Matches f (b ∷ y) → Matches g z → Spells row v → AnySpells (after b f (g ∷ row)) (u ++ v)
complete_pieces b f g each row u v y z e m n s =
    any_at (after b f (g ∷ row)) (y ++ (z ++ v)) (u ++ v) (sym (append_assoc y z v) ∙ ap (λ (t : List ℕ). t ++ v) (sym e))
    (each (g ∷ row) y (z ++ v) (b ∷ y) refl m (z, v, refl, n, s))

complete_many : (b : ℕ) (f : Form) → Complete b f → (row : List Form) (u v : List ℕ) (n : ℕ) → FirstPiece (Matches f) b u n → Spells row v → AnySpells (after b f (many f ∷ row)) (u ++ v)
complete_many b f each row u v n (m, y, z, l, e, p, t) s = complete_pieces b f (many f) each row u v y z e p (m, t) s

complete_upto : (b k : ℕ) (f : Form) → Complete b f → (row : List Form) (u v : List ℕ) (n : ℕ) → n ≤ suc k → FirstPiece (Matches f) b u n → Spells row v → AnySpells (after b f (upto k f ∷ row)) (u ++ v)
complete_upto b k f each row u v n h (m, y, z, l, e, p, t) s = complete_pieces b f (upto k f) each row u v y z e p (m, omega arith, t) s

no_piece : (P : List ℕ → Type 0) (b : ℕ) (u : List ℕ) (n : ℕ) → n ≤ 0 → FirstPiece P b u n → ⊥
no_piece P b u n h (m, y, z, l, e, p, t) = omega arith

pub complete : (b : ℕ) (f : Form) (row : List Form) (u v x : List ℕ) → x ≡ b ∷ u → Matches f x → Spells row v → AnySpells (after b f row) (u ++ v)
complete b (word []) row u v x e m s = cc
complete b (word (c ∷ cs)) row u v x e m s = complete_word b c cs row u v x e m s
complete b (byte low high) row u v x e (c, l, h, m) s = complete_byte b low high c row u v x e l h m s
complete b (seq f g) row u v x e m s = complete_seq b f g (complete b f) (complete b g) row u v x e m s
complete b (alt f g) row u v x e (inl m) s = any_left (after b f row) (after b g row) (u ++ v) (complete b f row u v x e m s)
complete b (alt f g) row u v x e (inr m) s = any_right (after b f row) (after b g row) (u ++ v) (complete b g row u v x e m s)
complete b (many f) row u v x e (n, t) s = complete_many b f (complete b f) row u v n (first_piece (Matches f) b u x n e t) s
complete b (upto zero f) row u v x e (n, l, t) s = absurd (no_piece (Matches f) b u n l (first_piece (Matches f) b u x n e t))
complete b (upto (suc k) f) row u v x e (n, l, t) s = complete_upto b k f (complete b f) row u v n l (first_piece (Matches f) b u x n e t) s

-- the text behind the byte is the rest of a text of the form that begins with the byte, and then one of the row
abbrev pub Takes : ℕ → Form → List Form → List ℕ → Type 0
Takes b f row w = (u : List ℕ) × (v : List ℕ) × (w ≡ u ++ v) × Matches f (b ∷ u) × Spells row v

takes_word : (b c : ℕ) (cs : List ℕ) (row : List Form) (w : List ℕ) → b ≡ c → Spells (word cs ∷ row) w → Takes b (word (c ∷ cs)) row w
takes_word b c cs row w h (u, v, e, m, s) = (u, v, e, cc, s)

takes_byte : (b low high : ℕ) (row : List Form) (w : List ℕ) → (leb low b && leb b high) ≡ true → Spells row w → Takes b (byte low high) row w
takes_byte b low high row w h s =
    let p = and_parts (leb low b) (leb b high) h in
    ([], w, refl, (b, leb-true low b p.0, leb-true b high p.1, refl), s)

takes_first : (b : ℕ) (f g : Form) (row : List Form) (w : List ℕ) → Takes b f (g ∷ row) w → Takes b (seq f g) row w
takes_first b f g row w (u, v, e, m, (y, z, d, n, s)) =
    (u ++ y, z, e ∙ ap (λ (t : List ℕ). u ++ t) d ∙ sym (append_assoc u y z), (b ∷ u, y, refl, m, n), s)

takes_second : (b : ℕ) (f g : Form) (row : List Form) (w : List ℕ) → nullable f ≡ true → Takes b g row w → Takes b (seq f g) row w
takes_second b f g row w h (u, v, e, m, s) = (u, v, e, ([], b ∷ u, refl, nullable_sound f h, m), s)

takes_left : (b : ℕ) (f g : Form) (row : List Form) (w : List ℕ) → Takes b f row w → Takes b (alt f g) row w
takes_left b f g row w (u, v, e, m, s) = (u, v, e, inl m, s)

takes_right : (b : ℕ) (f g : Form) (row : List Form) (w : List ℕ) → Takes b g row w → Takes b (alt f g) row w
takes_right b f g row w (u, v, e, m, s) = (u, v, e, inr m, s)

takes_many : (b : ℕ) (f : Form) (row : List Form) (w : List ℕ) → Takes b f (many f ∷ row) w → Takes b (many f) row w
takes_many b f row w (u, v, e, m, (y, z, d, (n, t), s)) =
    (u ++ y, z, e ∙ ap (λ (t : List ℕ). u ++ t) d ∙ sym (append_assoc u y z), (suc n, (b ∷ u, y, refl, m, t)), s)

takes_upto : (b k : ℕ) (f : Form) (row : List Form) (w : List ℕ) → Takes b f (upto k f ∷ row) w → Takes b (upto (suc k) f) row w
takes_upto b k f row w (u, v, e, m, (y, z, d, (n, l, t), s)) =
    (u ++ y, z, e ∙ ap (λ (t : List ℕ). u ++ t) d ∙ sym (append_assoc u y z), (suc n, omega arith, (b ∷ u, y, refl, m, t)), s)

only : (row : List Form) (w : List ℕ) → AnySpells (row ∷ []) w → Spells row w
only row w (inl s) = s
only row w (inr s) = absurd s

pub sound : (b : ℕ) (f : Form) (row : List Form) (w : List ℕ) → AnySpells (after b f row) w → Takes b f row w
sound b (word []) row w a = absurd a
sound b (word (c ∷ cs)) row w a =
    let p = any_when (eqb b c) ((word cs ∷ row) ∷ []) w a in
    takes_word b c cs row w (eqb-true b c p.0) (only (word cs ∷ row) w p.1)
sound b (byte low high) row w a =
    let p = any_when (leb low b && leb b high) (row ∷ []) w a in
    takes_byte b low high row w p.0 (only row w p.1)
sound b (seq f g) row w a =
    elim (any_cases (after b f (g ∷ row)) (cond (nullable f) (after b g row) []) w a) [
      | inl x ↦ takes_first b f g row w (sound b f (g ∷ row) w x)
      | inr y ↦ (let p = any_when (nullable f) (after b g row) w y in takes_second b f g row w p.0 (sound b g row w p.1))
    ]
sound b (alt f g) row w a =
    elim (any_cases (after b f row) (after b g row) w a) [
      | inl x ↦ takes_left b f g row w (sound b f row w x)
      | inr y ↦ takes_right b f g row w (sound b g row w y)
    ]
sound b (many f) row w a = takes_many b f row w (sound b f (many f ∷ row) w a)
sound b (upto zero f) row w a = absurd a
sound b (upto (suc k) f) row w a = takes_upto b k f row w (sound b f (upto k f ∷ row) w a)

-- the row spells the text with the byte in front
abbrev RowTakes : ℕ → List Form → List ℕ → Type 0
RowTakes b row w = Spells row (b ∷ w)

row_first : (b : ℕ) (f : Form) (row : List Form) (w : List ℕ) → Takes b f row w → Spells (f ∷ row) (b ∷ w)
row_first b f row w (u, v, e, m, s) = (b ∷ u, v, ap (λ (t : List ℕ). b ∷ t) e, m, s)

row_sound : (b : ℕ) (row : List Form) (w : List ℕ) → AnySpells (after_row b row) w → Spells row (b ∷ w)
row_sound b [] w a = absurd a
row_sound b (f ∷ row) w a =
    elim (any_cases (after b f row) (cond (nullable f) (after_row b row) []) w a) [
      | inl x ↦ row_first b f row w (sound b f row w x)
      | inr y ↦ (let p = any_when (nullable f) (after_row b row) w y in ([], b ∷ w, refl, nullable_sound f p.0, row_sound b row w p.1))
    ]

pub rows_sound : (b : ℕ) (rows : List (List Form)) (w : List ℕ) → AnySpells (after_rows b rows) w → AnySpells rows (b ∷ w)
rows_sound b [] w a = absurd a
rows_sound b (row ∷ rows) w a =
    elim (any_cases (after_row b row) (after_rows b rows) w a) [
      | inl x ↦ inl (row_sound b row w x)
      | inr y ↦ inr (rows_sound b rows w y)
    ]

row_complete : (b : ℕ) (row : List Form) (w : List ℕ) → Spells row (b ∷ w) → AnySpells (after_row b row) w
row_complete b [] w s = cc
row_complete b (f ∷ row) w ([], v, e, m, s) =
    any_right (after b f row) (cond (nullable f) (after_row b row) []) w
    (when_any (nullable f) (after_row b row) w (nullable_complete f m) (row_complete b row w (spells_at row v (b ∷ w) (sym e) s)))
row_complete b (f ∷ row) w (c ∷ u, v, e, m, s) =
    let head : c ≡ b = cc in
    let tail : u ++ v ≡ w = cc in
    any_left (after b f row) (cond (nullable f) (after_row b row) []) w
    (any_at (after b f row) (u ++ v) w tail (complete b f row u v (c ∷ u) (ap (λ (d : ℕ). d ∷ u) head) m s))

pub rows_complete : (b : ℕ) (rows : List (List Form)) (w : List ℕ) → AnySpells rows (b ∷ w) → AnySpells (after_rows b rows) w
rows_complete b [] w s = absurd s
rows_complete b (row ∷ rows) w (inl s) = any_left (after_row b row) (after_rows b rows) w (row_complete b row w s)
rows_complete b (row ∷ rows) w (inr s) = any_right (after_row b row) (after_rows b rows) w (rows_complete b rows w s)

-- what comes behind the text is spelled by the states of the text
pub states_sound : (rows : List (List Form)) (p w : List ℕ) → AnySpells (states rows p) w → AnySpells rows (p ++ w)
states_sound rows [] w a = a
states_sound rows (b ∷ p) w a = rows_sound b rows (p ++ w) (states_sound (after_rows b rows) p w a)

pub states_complete : (rows : List (List Form)) (p w : List ℕ) → AnySpells rows (p ++ w) → AnySpells (states rows p) w
states_complete rows [] w a = a
states_complete rows (b ∷ p) w a = states_complete (after_rows b rows) p w (rows_complete b rows (p ++ w) a)
