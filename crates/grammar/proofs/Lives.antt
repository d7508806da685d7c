-- Each form that a value of the code stands for has a text.
use Rattle.std.proofs.Common.{◌≡◌, ℕ, ◌≤◌, true, leb, min, max, refl, arith}
use Rattle.std.proofs.lemmas.Bool.{le-leb, and_from}
use Rattle.grammar.specs.Grammar.{expr, frac, vexpr, vfrac, con, cons, point, gen, gens}
use Rattle.grammar.specs.Shape.{shape, form_of}
use Rattle.grammar.specs.Derivative.{lives}
use Rattle.grammar.specs.declared.rule.Rule.{Rule}
use Rattle.grammar.specs.declared.rule.Rule.TheVariants.{Nat, Name, Var, Term, Expr, Frac, Vterm, Vexpr, Vfrac, Con, Cons, Point, Gen, Gens, Vars, Comment}
use Rattle.grammar.specs.declared.re.Re.{Re}
use Rattle.grammar.specs.declared.re.Re.TheVariants.{Word, Byte, Then', Or', Many', UpTo', Named}

rule_lives : (rule : Rule) → lives (form_of rule) ≡ true
unfolding expr frac vexpr vfrac con cons point gen gens
rule_lives Nat = refl
rule_lives Name = refl
rule_lives Var = refl
rule_lives Term = refl
rule_lives Expr = refl
rule_lives Frac = refl
rule_lives Vterm = refl
rule_lives Vexpr = refl
rule_lives Vfrac = refl
rule_lives Con = refl
rule_lives Cons = refl
rule_lives Point = refl
rule_lives Gen = refl
rule_lives Gens = refl
rule_lives Vars = refl
rule_lives Comment = refl

ordered : (low high : ℕ) → leb (min low high) (max low high) ≡ true
ordered low high = let h : min low high ≤ max low high = omega arith in le-leb (min low high) (max low high) h

pub shape_lives : (re : Re) → lives (shape re) ≡ true
shape_lives (Word w) = refl
shape_lives (Byte low high) = ordered low high
shape_lives (Then' p f q g) = and_from (lives (shape f)) (lives (shape g)) (shape_lives f) (shape_lives g)
shape_lives (Or' p f q g) = and_from (lives (shape f)) (lives (shape g)) (shape_lives f) (shape_lives g)
shape_lives (Many' p f) = shape_lives f
shape_lives (UpTo' k p f) = shape_lives f
shape_lives (Named rule) = rule_lives rule
