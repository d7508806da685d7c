-- What the commands mean that ask for a bound, or how a polyhedron lies to a constraint.
use Rattle.std.specs.Prelude.{◌≡◌, ℕ, ◌<◌, List, length, [], ◌∷◌, ◌++◌, ℤ, Bool, true, false, Ok, codes}
use Rattle.std.specs.Fmt.{signed_decimal}
use Rattle.row_core.specs.declared.errors.Overflow.{Overflow}
use Rattle.row_core.specs.declared.errors.PairOver.{PairOver}
use Rattle.cons_sys.specs.declared.kind.ConKind.{ConKind}
use Rattle.gens_sys.specs.Generators.{Generators, FitDimension, generator_at}
use Rattle.term_text.specs.Texts.{IsExpr}
use Rattle.term_text.specs.Systems.{IsCon}
use Rattle.expr_text.specs.Printed.{generator_text}
use Rattle.poly_pair.specs.Polyhedra.{Polyhedron}
use Rattle.optimum.specs.Showing.{shown_values}
use Rattle.optimum.specs.Values.{RowLeaves}
use Rattle.optimum.specs.Relations.{RelationAnswer}
use Rattle.optimum.specs.Search.{SeekLeaves}
use Rattle.optimum.specs.Suprema.{SupAnswer, IsTrueSup}
use Rattle.optimum.specs.declared.outcome.Relation.{Relation}
use Rattle.optimum.specs.declared.outcome.Sup.{Sup}
use Rattle.optimum.specs.declared.outcome.Sup.TheVariants as sup
use Rattle.script_text.specs.declared.command.Part.{Part}
use Rattle.line_values.specs.Meaning.{Meaning, line}
use Rattle.line_values.specs.Texts.{constraint_fault, expression_fault}

-- ---- texts
-- the text says a constraint whose row and kind have this property
pub record SaysConstraint (dim : ℕ) (part : Part) (P : List ℤ → ConKind → Type 0) : Type 0 where
  pub row : List ℤ
  pub kind : ConKind
  pub read : IsCon dim part.text row kind
  pub holds : P row kind

-- the text says an expression whose row has this property
pub record SaysExpression (dim : ℕ) (part : Part) (P : List ℤ → Type 0) : Type 0 where
  pub row : List ℤ
  pub read : IsExpr dim part.text row
  pub holds : P row

-- ---- pairs
-- a search over generators that fit their dimension comes to a pair that leaves the range
abbrev pub SearchLeaves : Bool → List ℤ → Generators → PairOver → Type 0
SearchLeaves up row gs over = FitDimension gs × SeekLeaves up row gs.dim gs.list over

-- such a pair, whose rows are shown
pub record ShowsValues (Leaves : PairOver → Type 0) (row : List ℤ) (gs : Generators)
    (over : Overflow) : Type 0 where
  pub pair : PairOver
  pub leaves : Leaves pair
  pub shown : over ≡ shown_values row gs pair

-- ---- relation
-- the text with a further word, where the flag is true; a space stands between two words
abbrev pub with_word : List ℕ → List ℕ → Bool → List ℕ
with_word text word false = text
with_word [] word true = word
with_word (c ∷ cs) word true = (c ∷ cs) ++ codes " " ++ word

-- the words that hold, in order
abbrev pub relation_text : Relation → List ℕ
relation_text r =
    with_word
    (with_word
    (with_word (with_word [] (codes "disjoint") r.disjoint) (codes "intersects") r.intersects)
    (codes "included") r.included) (codes "saturates") r.saturates

-- how the polyhedron lies to the constraint is said
pub record SaysRelation (p : Polyhedron) (text : List ℕ) (row : List ℤ)
    (kind : ConKind) : Type 0 where
  pub flags : Relation
  pub answer : RelationAnswer row kind p (Ok flags)
  pub said : text ≡ line (relation_text flags)

-- relation P : CON
abbrev pub relation : Part → Polyhedron → Meaning (List ℕ)
relation part p = record {
  conditions = constraint_fault p.cons.dim part;
  overflows =
      λ over. SaysConstraint p.cons.dim part
      (λ row kind. ShowsValues (RowLeaves row p.gens.list) row p.gens over);
  does = λ text. SaysConstraint p.cons.dim part (SaysRelation p text);
}

-- ---- max and min
abbrev pub attained_text : Bool → List ℕ
attained_text true = codes " attained "
attained_text false = codes " not attained "

-- a bound in lowest terms, whether it is attained, and the generator that shows it
abbrev pub bound_text : Generators → Sup → List ℕ
bound_text gs sup.Empty = codes "empty"
bound_text gs sup.Unbounded = codes "unbounded"
bound_text gs (sup.At num den attained index) =
    signed_decimal num ++ codes "/" ++ signed_decimal den ++ attained_text attained
    ++ generator_text gs.dim (generator_at gs.list index)

-- the generator that a bound numbers is there
abbrev pub HasGenerator : Generators → Sup → Type 0
HasGenerator gs sup.Empty = Unit {0}
HasGenerator gs sup.Unbounded = Unit {0}
HasGenerator gs (sup.At num den attained index) = index < length gs.list

-- the bound of the expression on the polyhedron is said
pub record SaysBound (up : Bool) (p : Polyhedron) (text : List ℕ) (row : List ℤ) : Type 0 where
  pub bound : Sup
  pub fit : FitDimension p.gens
  pub answer : SupAnswer up row p.gens (Ok bound)
  pub true_of : IsTrueSup up row p bound
  pub said : text ≡ line (bound_text p.gens bound)

-- max P : EXPR, and min P : EXPR where up is false
abbrev pub bound : Bool → Part → Polyhedron → Meaning (List ℕ)
bound up part p = record {
  conditions = expression_fault p.cons.dim part;
  overflows =
      λ over. SaysExpression p.cons.dim part
      (λ row. ShowsValues (SearchLeaves up row p.gens) row p.gens over);
  does = λ text. SaysExpression p.cons.dim part (SaysBound up p text);
}
