-- What came of the questions for a bound and for a relation.
use Rattle.std.proofs.Common.{◌≡◌, ℕ, List, Ok, Err, Bool}
use Rattle.std.specs.Prelude.{ℤ}
use Rattle.row_core.specs.declared.errors.Overflow.{Overflow}
use Rattle.row_core.specs.declared.errors.PairOver.{PairOver}
use Rattle.cons_sys.specs.declared.kind.ConKind.{ConKind}
use Rattle.gens_sys.specs.Generators.{FitDimension}
use Rattle.poly_pair.specs.Polyhedra.{Polyhedron}
use Rattle.optimum.specs.Values.{RowLeaves}
use Rattle.optimum.specs.Search.{SeekLeaves}
use Rattle.optimum.specs.Relations.{RelationAnswer}
use Rattle.optimum.specs.Suprema.{SupAnswer, IsTrueSup}
use Rattle.optimum.specs.declared.outcome.Relation.{Relation}
use Rattle.optimum.specs.declared.outcome.Sup.{Sup}
use Rattle.script_text.specs.declared.command.Part.{Part}
use Rattle.line_values.specs.declared.refusal.StepErr.{StepErr}
use Rattle.line_values.specs.declared.refusal.StepErr.TheVariants as err
use Rattle.line_values.specs.Order.{NoneOf, Passes}
use Rattle.line_values.specs.Meaning.{line}
use Rattle.line_values.specs.Texts.{constraint_fault, expression_fault, IsTextRefusal, ReadsConstraint, ReadsExpression}
use Rattle.optimum.specs.Showing.{shown_values}
use Rattle.poly_questions.specs.Optima.{relation, bound, relation_text, bound_text}
use Rattle.line_values.specs.Performed.{IsPerformed}
use Rattle.line_values.proofs.FaultOrder.{early, refused_by_text, all_pass}

-- ---- relation
relation_early : (part : Part) (p : Polyhedron) → NoneOf early (relation part p).conditions
relation_early part p = (λ k. k, (λ k. k, (λ k. k, (λ k. k, (λ k. k, tt)))))

pub relation_refused : (part : Part) (p : Polyhedron) (e : StepErr) → IsTextRefusal (constraint_fault p.cons.dim part) e → IsPerformed (relation part p) (Err e)
relation_refused part p e is = refused_by_text (relation part p) e (relation_early part p) is

relation_passes : (part : Part) (p : Polyhedron) (row : List ℤ) (kind : ConKind) → ReadsConstraint p.cons.dim part row kind → Passes (relation part p).conditions
relation_passes part p row kind read = all_pass (relation part p).conditions (relation_early part p) read.faultless (λ k. k, (λ k. k, (λ k. k, tt)))

pub relation_told : (part : Part) (p : Polyhedron) (row : List ℤ) (kind : ConKind) (flags : Relation) (text : List ℕ) → ReadsConstraint p.cons.dim part row kind → RelationAnswer row kind p (Ok flags) → text ≡ line (relation_text flags) → IsPerformed (relation part p) (Ok text)
relation_told part p row kind flags text read answer said = (relation_passes part p row kind read, record { row = row; kind = kind; read = read.read; holds = record { flags = flags; answer = answer; said = said } })

pub relation_leaves : (part : Part) (p : Polyhedron) (row : List ℤ) (kind : ConKind) (pair : PairOver) (over : Overflow) → ReadsConstraint p.cons.dim part row kind → RowLeaves row p.gens.list pair → over ≡ shown_values row p.gens pair → IsPerformed (relation part p) (Err (err.Overflow over))
relation_leaves part p row kind pair over read leaves shown = (relation_passes part p row kind read, record { row = row; kind = kind; read = read.read; holds = record { pair = pair; leaves = leaves; shown = shown } })

-- ---- bounds
bound_early : (up : Bool) (part : Part) (p : Polyhedron) → NoneOf early (bound up part p).conditions
bound_early up part p = (λ k. k, (λ k. k, (λ k. k, (λ k. k, (λ k. k, tt)))))

pub bound_refused : (up : Bool) (part : Part) (p : Polyhedron) (e : StepErr) → IsTextRefusal (expression_fault p.cons.dim part) e → IsPerformed (bound up part p) (Err e)
bound_refused up part p e is = refused_by_text (bound up part p) e (bound_early up part p) is

bound_passes : (up : Bool) (part : Part) (p : Polyhedron) (row : List ℤ) → ReadsExpression p.cons.dim part row → Passes (bound up part p).conditions
bound_passes up part p row read = all_pass (bound up part p).conditions (bound_early up part p) read.faultless (λ k. k, (λ k. k, (λ k. k, tt)))

pub bound_told : (up : Bool) (part : Part) (p : Polyhedron) (row : List ℤ) (b : Sup) (text : List ℕ) → ReadsExpression p.cons.dim part row → FitDimension p.gens → SupAnswer up row p.gens (Ok b) → IsTrueSup up row p b → text ≡ line (bound_text p.gens b) → IsPerformed (bound up part p) (Ok text)
bound_told up part p row b text read fit answer true_of said = (bound_passes up part p row read, record { row = row; read = read.read; holds = record { bound = b; fit = fit; answer = answer; true_of = true_of; said = said } })

pub bound_leaves : (up : Bool) (part : Part) (p : Polyhedron) (row : List ℤ) (pair : PairOver) (over : Overflow) → ReadsExpression p.cons.dim part row → FitDimension p.gens → SeekLeaves up row p.gens.dim p.gens.list pair → over ≡ shown_values row p.gens pair → IsPerformed (bound up part p) (Err (err.Overflow over))
bound_leaves up part p row pair over read fit leaves shown = (bound_passes up part p row read, record { row = row; read = read.read; holds = record { pair = pair; leaves = (fit, leaves); shown = shown } })
