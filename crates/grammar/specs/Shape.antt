use Rattle.std.specs.Prelude.{ℕ, ◌+◌, ◌*◌, Bool, true, false, cond, min, max}
use Rattle.grammar.specs.Form.{Form, word, byte, seq, alt, many, upto}
use Rattle.grammar.specs.Grammar.{nat, name, var, term, expr, frac, vterm, vexpr, vfrac, con, cons, point, gen, gens, vars, comment}
use Rattle.grammar.specs.declared.rule.Rule.{Rule}
use Rattle.grammar.specs.declared.rule.Rule.TheVariants.{Nat, Name, Var, Term, Expr, Frac, Vterm, Vexpr, Vfrac, Con, Cons, Point, Gen, Gens, Vars, Comment}
use Rattle.grammar.specs.declared.re.Re.{Re}
use Rattle.grammar.specs.declared.re.Re.TheVariants.{Word, Byte, Then', Or', Many', UpTo', Named}

-- the form of that name
abbrev pub form_of : Rule → Form
form_of Nat = nat
form_of Name = name
form_of Var = var
form_of Term = term
form_of Expr = expr
form_of Frac = frac
form_of Vterm = vterm
form_of Vexpr = vexpr
form_of Vfrac = vfrac
form_of Con = con
form_of Cons = cons
form_of Point = point
form_of Gen = gen
form_of Gens = gens
form_of Vars = vars
form_of Comment = comment

-- the form that the value stands for
abbrev pub shape : Re → Form
shape (Word w) = word w.now
shape (Byte low high) = byte (min low high) (max low high)
shape (Then' p f q g) = seq (shape f) (shape g)
shape (Or' p f q g) = alt (shape f) (shape g)
shape (Many' p f) = many (shape f)
shape (UpTo' k p f) = upto k (shape f)
shape (Named rule) = form_of rule

-- the value stands for a form by its name
abbrev pub is_named : Re → Bool
is_named (Named rule) = true
is_named _ = false

-- how many parts a form has
abbrev pub size : Form → ℕ
size (word cs) = 1
size (byte low high) = 1
size (seq f g) = size f + size g + 1
size (alt f g) = size f + size g + 1
size (many f) = size f + 1
size (upto k f) = size f + 1

-- falls from a form to its parts, and from a name to what it stands for
abbrev pub weight : Re → ℕ
weight re = 2 * size (shape re) + cond (is_named re) 1 0
