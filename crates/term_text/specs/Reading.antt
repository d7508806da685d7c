-- What one pass over a text knows after some of its bytes.
use Rattle.std.specs.Prelude.{ℕ, ◌+◌, ◌-◌, ◌*◌, ◌^◌, ◌==◌, if◌then◌else◌, List, [], ◌∷◌, ◌++◌, Bool, true, false, not, ◌||◌, Option, Some, None, option_to_list, min, map}
use Rattle.term_text.specs.declared.terms.Term.{Term}
use Rattle.term_text.specs.declared.terms.Relation.{Relation}
use Rattle.term_text.specs.declared.terms.Relation.TheVariants.{Equal, AtLeast, AtMost, Above, Below}
use Rattle.term_text.specs.declared.scan.Part.{Part}
use Rattle.term_text.specs.declared.scan.Part.TheVariants.{Nothing, Number, Letter}
use Rattle.term_text.specs.declared.scan.Place.{Place}
use Rattle.term_text.specs.declared.scan.Place.TheVariants.{Left, Right, Divisor}
use Rattle.term_text.specs.declared.scan.State.{State}
use Rattle.std.specs.List.{slice_split}
pub use Rattle.plain_text.specs.Digits.{is_digit, is_upper, next_number}
use Rattle.term_text.specs.Values.{Comparison, Ratio, never}

-- the term so far and one more digit
abbrev pub with_digit : Part → ℕ → Part
with_digit Nothing d = Number d
with_digit (Number n) d = Number (next_number (2 ^ 127) n d)
with_digit (Letter f p n) d = Letter f p (next_number (2 ^ 32) n d)

-- the term so far and the letter at this place
abbrev pub with_letter : Part → ℕ → Part
with_letter Nothing p = Letter 1 p 0
with_letter (Number n) p = Letter n p 0
with_letter (Letter f q n) p = Letter 1 p 0

-- the place behind the byte =
abbrev pub with_equals : Place → Place
with_equals Left = Right Equal
with_equals (Right Equal) = Right Equal
with_equals (Right AtLeast) = Right Equal
with_equals (Right AtMost) = Right Equal
with_equals (Right Above) = Right AtLeast
with_equals (Right Below) = Right AtMost
with_equals Divisor = Right Equal

-- before the first byte of a term
abbrev pub begun : Place → Bool → State
begun place negative = record { negative = negative; part = Nothing; place = place }

-- before the first byte of a text
abbrev pub start : State
start = begun Left false

-- after one more byte
abbrev pub after : State → ℕ → State
after s b =
    if is_digit b then record s { part = with_digit s.part (b - 48) }
    else (if is_upper b then record s { part = with_letter s.part (b - 65) }
    else (if b == 43 then begun s.place false
    else (if b == 45 then begun s.place true
    else (if b == 61 then begun (with_equals s.place) false
    else (if b == 62 then begun (Right Above) false
    else (if b == 60 then begun (Right Below) false
    else (if b == 47 then begun Divisor false
    else s)))))))

-- the term that was read
abbrev pub part_term : Bool → Part → Option Term
part_term negative Nothing = None
part_term negative (Number n) = Some (record { negative = negative; size = n; variable = None })
part_term negative (Letter f p n) =
    Some (record { negative = negative; size = f; variable = Some (min (26 * n + p) (2 ^ 32)) })

-- the term that was read at this place; behind a relation its sign is turned
abbrev pub term_at : Place → Bool → Part → Option Term
term_at Left negative part = part_term negative part
term_at (Right relation) negative part = part_term (not negative) part
term_at Divisor negative part = None

abbrev pub term_of : State → Option Term
term_of s = term_at s.place s.negative s.part

-- the byte ends the term before it
abbrev pub ends_term : ℕ → Bool
ends_term b = (b == 43) || (b == 45) || (b == 61) || (b == 62) || (b == 60) || (b == 47)

-- the term that the byte ends
abbrev pub ended : State → ℕ → List Term
ended s b = if ends_term b then option_to_list (term_of s) else []

-- the terms that end within the text
abbrev pub emitted : State → List ℕ → List Term
emitted s [] = []
emitted s (b ∷ w) = ended s b ++ emitted (after s b) w

-- after all bytes of the text
abbrev pub final : State → List ℕ → State
final s [] = s
final s (b ∷ w) = final (after s b) w

-- the terms of a text
abbrev pub terms_read : State → List ℕ → List Term
terms_read s w = emitted s w ++ option_to_list (term_of (final s w))

-- the relation at this place; a text with none has that of =
abbrev pub relation_at : Place → Relation
relation_at Left = Equal
relation_at (Right relation) = relation
relation_at Divisor = Equal

-- the divisor that was read, and 1 without a division
abbrev pub divisor_at : Place → Part → ℕ
divisor_at Divisor (Number n) = n
divisor_at Divisor Nothing = 1
divisor_at Divisor (Letter f p n) = 1
divisor_at Left part = 1
divisor_at (Right relation) part = 1

-- a text read as a constraint
abbrev pub con_read : List ℕ → Comparison
con_read w = record { terms = terms_read start w; relation = relation_at (final start w).place }

-- a text read as an expression with its divisor
abbrev pub ratio_read : List ℕ → Ratio
ratio_read w = record {
  terms = terms_read start w;
  divisor = divisor_at (final start w).place (final start w).part;
}

-- a space or a tab
abbrev pub is_blank : ℕ → Bool
is_blank b = (b == 32) || (b == 9)

-- the first byte that is no blank, and 0 where there is none
abbrev pub first_mark : List ℕ → ℕ
first_mark [] = 0
first_mark (b ∷ w) = if is_blank b then first_mark w else b

-- a text read as a list of constraints: of its forms only `true` begins with t, and only `false`
-- with f
abbrev pub cons_read : List ℕ → List Comparison
cons_read w =
    if first_mark w == 116 then []
    else (if first_mark w == 102 then never ∷ []
    else map con_read (slice_split (λ b. b == 44) w))
