-- No form of the grammar has the empty text.
use Rattle.std.proofs.Common.{◌≡◌, false, refl}
use Rattle.grammar.specs.Grammar.{expr, frac, vexpr, vfrac, con, cons, point, gen, gens}
use Rattle.grammar.specs.Shape.{form_of}
use Rattle.grammar.specs.Derivative.{nullable}
use Rattle.grammar.specs.declared.rule.Rule.{Rule}
use Rattle.grammar.specs.declared.rule.Rule.TheVariants.{Nat, Name, Var, Term, Expr, Frac, Vterm, Vexpr, Vfrac, Con, Cons, Point, Gen, Gens, Vars, Comment}

pub form_of_nullable : (rule : Rule) → nullable (form_of rule) ≡ false
unfolding expr frac vexpr vfrac con cons point gen gens
form_of_nullable Nat = refl
form_of_nullable Name = refl
form_of_nullable Var = refl
form_of_nullable Term = refl
form_of_nullable Expr = refl
form_of_nullable Frac = refl
form_of_nullable Vterm = refl
form_of_nullable Vexpr = refl
form_of_nullable Vfrac = refl
form_of_nullable Con = refl
form_of_nullable Cons = refl
form_of_nullable Point = refl
form_of_nullable Gen = refl
form_of_nullable Gens = refl
form_of_nullable Vars = refl
form_of_nullable Comment = refl
