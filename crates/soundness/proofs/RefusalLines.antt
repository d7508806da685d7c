-- A fault and an overflow are one line each.
use Rattle.std.proofs.Common.{◌≡◌, ℕ, zero, suc, ◌+◌, ◌/◌, ◌%◌, ◌≤◌, List, [], ◌∷◌, ◌++◌, refl, ◌∙◌, subst, Bool, true, false, not, cond, ◌==◌, ℤ, pos, negsuc, codes, arith}
use Rattle.std.specs.Prelude.{◌≢◌, All, Option, None, Some, decimal, nat_lt}
use Rattle.std.specs.Fmt.{signed_decimal, digit_glyph, digits_onto, digits}
use Rattle.std.specs.List.{list_all}
use Rattle.std.proofs.lemmas.Bool.{and_from, and_parts}
use Rattle.std.proofs.lemmas.Bool.Decides.{nat_tests}
use Rattle.std.proofs.lemmas.List.Elements.{All-nil, All-cons}
use Rattle.std.proofs.lemmas.List.Folds.{list_all-append}
use Rattle.row_core.specs.declared.errors.Overflow.{Overflow}
use Rattle.row_core.specs.declared.OverKind.{OverKind}
use Rattle.row_core.specs.declared.OverKind.TheVariants.{Dot, Combine, Scale, Compare}
use Rattle.reply_text.specs.Faults.{fault_number, fault_name, fault_place, place_text}
use Rattle.reply_text.specs.Overflows.{kind_name, row_text}
use Rattle.reply_text.specs.declared.faults.Fault.{Fault}
use Rattle.reply_text.specs.declared.faults.Fault.TheVariants.{UnknownName}

-- a byte that isn't a line feed
abbrev is_plain : ℕ → Bool
is_plain b = not (b == 10)

-- no byte is a line feed
abbrev IsPlain : List ℕ → Type 0
IsPlain text = list_all is_plain text ≡ true

feed_is_none : (b : ℕ) → is_plain b ≡ true → b ≢ 10
feed_is_none b h e = (let no : false ≡ true = subst (λ (n : ℕ). is_plain n ≡ true) e h in cc)

pub no_feed : (text : List ℕ) → IsPlain text → All (λ b. b ≢ 10) text
no_feed [] h = All-nil (λ b. b ≢ 10)
no_feed (b ∷ text) h = let p = and_parts (is_plain b) (list_all is_plain text) h in All-cons (λ b. b ≢ 10) b text (feed_is_none b p.0) (no_feed text p.1)

both : (xs ys : List ℕ) → IsPlain xs → IsPlain ys → IsPlain (xs ++ ys)
both xs ys e f = list_all-append is_plain xs ys ∙ and_from _ _ e f

not_feed : (b : ℕ) → 48 ≤ b → is_plain b ≡ true
not_feed b h = grind (arith, nat_tests)

glyph_choice : (low : Bool) (d : ℕ) → is_plain (cond low (48 + d) (87 + d)) ≡ true
glyph_choice true d = not_feed (48 + d) (omega arith)
glyph_choice false d = not_feed (87 + d) (omega arith)

plain_choice : (b : Bool) (xs ys : List ℕ) → IsPlain xs → IsPlain ys → IsPlain (cond b xs ys)
plain_choice true xs ys e f = e
plain_choice false xs ys e f = f

digits_plain : (k n : ℕ) (acc : List ℕ) → IsPlain acc → IsPlain (digits_onto k 10 false n acc)
digits_plain zero n acc h = h
digits_plain (suc k) n acc h =
    let first : IsPlain (digit_glyph false (n % 10) ∷ acc) = and_from _ _ (glyph_choice (nat_lt (n % 10) 10) (n % 10)) h in
    plain_choice (n / 10 == 0) (digit_glyph false (n % 10) ∷ acc) (digits_onto k 10 false (n / 10) (digit_glyph false (n % 10) ∷ acc)) first (digits_plain k (n / 10) (digit_glyph false (n % 10) ∷ acc) first)

decimal_plain : (n : ℕ) → IsPlain (decimal n)
unfolding digits
decimal_plain n = digits_plain 64 n [] refl

signed_plain : (z : ℤ) → IsPlain (signed_decimal z)
signed_plain (pos n) = decimal_plain n
signed_plain (negsuc n) = decimal_plain (suc n)

row_plain : (row : List ℤ) → IsPlain (row_text row)
row_plain [] = refl
row_plain (x ∷ []) = signed_plain x
row_plain (x ∷ y ∷ row) = both (signed_decimal x) (32 ∷ row_text (y ∷ row)) (signed_plain x) (row_plain (y ∷ row))

name_plain : (f : Fault) → IsPlain (fault_name f)
name_plain UnknownName = refl
name_plain other = refl

place_plain : (o : Option ℕ) → IsPlain (place_text o)
place_plain None = refl
place_plain (Some n) = decimal_plain n

pub fault_plain : (f : Fault) → IsPlain (decimal (fault_number f) ++ codes " " ++ fault_name f ++ place_text (fault_place f))
fault_plain f =
    both (decimal (fault_number f) ++ codes " " ++ fault_name f) (place_text (fault_place f))
    (both (decimal (fault_number f) ++ codes " ") (fault_name f) (both (decimal (fault_number f)) (codes " ") (decimal_plain (fault_number f)) refl) (name_plain f)) (place_plain (fault_place f))

kind_plain : (k : OverKind) → IsPlain (kind_name k)
kind_plain Dot = refl
kind_plain Combine = refl
kind_plain Scale = refl
kind_plain Compare = refl

-- the words before the rows
head_plain : (kind : OverKind) (step column : ℕ) → IsPlain (kind_name kind ++ codes " step " ++ decimal step ++ codes " column " ++ decimal column ++ codes " left ")
head_plain kind step column =
    both (kind_name kind ++ codes " step " ++ decimal step ++ codes " column " ++ decimal column) (codes " left ")
    (both (kind_name kind ++ codes " step " ++ decimal step ++ codes " column ") (decimal column)
    (both (kind_name kind ++ codes " step " ++ decimal step) (codes " column ") (both (kind_name kind ++ codes " step ") (decimal step) (both (kind_name kind) (codes " step ") (kind_plain kind) refl) (decimal_plain step)) refl)
    (decimal_plain column)) refl

rows_plain : (head : List ℕ) (left right : List ℤ) → IsPlain head → IsPlain (head ++ row_text left ++ codes " right " ++ row_text right)
rows_plain head left right h = both (head ++ row_text left ++ codes " right ") (row_text right) (both (head ++ row_text left) (codes " right ") (both head (row_text left) h (row_plain left)) refl) (row_plain right)

pub overflow_plain : (over : Overflow) → IsPlain (kind_name over.kind ++ codes " step " ++ decimal over.step ++ codes " column " ++ decimal (over.column + 1) ++ codes " left " ++ row_text over.left ++ codes " right " ++ row_text over.right)
overflow_plain over = rows_plain (kind_name over.kind ++ codes " step " ++ decimal over.step ++ codes " column " ++ decimal (over.column + 1) ++ codes " left ") over.left over.right (head_plain over.kind over.step (over.column + 1))
