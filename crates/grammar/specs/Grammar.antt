use Rattle.std.specs.Prelude.{ℕ, [], codes}
use Rattle.grammar.specs.Form.{Form, word, byte, seq, alt, many, upto}

infixr 30 ◌·◌
infixr 30 ◌⋯◌
infixr 20 ◌∣◌
-- the one, then the other
abbrev pub ◌·◌ : Form → Form → Form
f · g = seq f g

-- the one or the other
abbrev pub ◌∣◌ : Form → Form → Form
f ∣ g = alt f g

-- this one byte
abbrev pub symbol : ℕ → Form
symbol b = byte b b

-- the form, or nothing
abbrev pub perhaps : Form → Form
perhaps f = word [] ∣ f

-- a blank is a space or a tab
abbrev pub blank : Form
blank = symbol 32 ∣ symbol 9

-- any number of blanks
abbrev pub blanks : Form
blanks = many blank

-- one or more blanks
abbrev pub gap : Form
gap = blank · blanks

-- the one, any number of blanks, then the other
abbrev pub ◌⋯◌ : Form → Form → Form
f ⋯ g = f · blanks · g

-- the form with blanks around it
abbrev pub alone : Form → Form
alone f = blanks · f · blanks

-- one or more of the form, with a comma between
abbrev pub list_of : Form → Form
list_of f = f · many (blanks · (symbol 44 ⋯ f))

abbrev pub digit : Form
digit = byte 48 57

-- one or more decimal digits
abbrev pub nat : Form
nat = digit · many digit

-- a lower-case letter, then at most so many lower-case letters, digits or _
abbrev pub name_of : ℕ → Form
name_of more = byte 97 122 · upto more (byte 97 122 ∣ digit ∣ symbol 95)

-- a name of at most 32 bytes
abbrev pub name : Form
name = name_of 31

-- an upper-case letter, or an upper-case letter and digits that don't begin with 0
abbrev pub var : Form
var = byte 65 90 ∣ (byte 65 90 · byte 49 57 · many digit)

-- NAT * VAR, or VAR, or NAT
abbrev pub term : Form
term = (nat ⋯ symbol 42 ⋯ var) ∣ var ∣ nat

-- any number of + and - with a form behind each
abbrev pub further : Form → Form
further f = many (blanks · ((symbol 43 ⋯ f) ∣ (symbol 45 ⋯ f)))

-- the form or - and the form, then any number of + and - with a form behind each
abbrev pub sum_of : Form → Form
sum_of f = (f ∣ (symbol 45 ⋯ f)) · further f

-- TERM or - TERM, then any number of + TERM or - TERM
unfoldable pub expr : Form
expr = sum_of term

-- NAT * VAR, or VAR
abbrev pub vterm : Form
vterm = (nat ⋯ symbol 42 ⋯ var) ∣ var

-- 0 alone, or VTERM or - VTERM, then any number of + VTERM or - VTERM
unfoldable pub vexpr : Form
vexpr = symbol 48 ∣ sum_of vterm

-- the form, or the form in brackets, / and NAT
abbrev pub over_nat : Form → Form
over_nat f = f ∣ (symbol 40 ⋯ f ⋯ symbol 41 ⋯ symbol 47 ⋯ nat)

-- EXPR, or ( EXPR ) / NAT
unfoldable pub frac : Form
frac = over_nat expr

-- VEXPR, or ( VEXPR ) / NAT
unfoldable pub vfrac : Form
vfrac = over_nat vexpr

-- one of = >= <= > <
abbrev pub rel : Form
rel = symbol 61 ∣ word (codes ">=") ∣ word (codes "<=") ∣ symbol 62 ∣ symbol 60

-- EXPR REL EXPR
unfoldable pub con : Form
con = expr ⋯ rel ⋯ expr

-- true, or false, or CON, then any number of , CON
unfoldable pub cons : Form
cons = word (codes "true") ∣ word (codes "false") ∣ list_of con

-- p( VFRAC )
unfoldable pub point : Form
point = word (codes "p(") ⋯ vfrac ⋯ symbol 41

-- p( VFRAC ), c( VFRAC ), r( VEXPR ), l( VEXPR )
unfoldable pub gen : Form
gen =
    point ∣ (word (codes "c(") ⋯ vfrac ⋯ symbol 41) ∣ (word (codes "r(") ⋯ vexpr ⋯ symbol 41)
    ∣ (word (codes "l(") ⋯ vexpr ⋯ symbol 41)

-- none, or GEN, then any number of , GEN
unfoldable pub gens : Form
gens = word (codes "none") ∣ list_of gen

-- VAR, then any number of , VAR
abbrev pub vars : Form
vars = list_of var

-- # and any bytes after it
abbrev pub comment : Form
comment = symbol 35 · many (byte 0 255)
