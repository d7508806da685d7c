-- What came of the commands that map a set by a relation between a variable and an expression with a divisor.
use Rattle.std.proofs.Common.{ℕ, ◌<◌, Bool, IsTrue, List, Err, Ok, refl, sym, subst, inl, inr, arith}
use Rattle.std.specs.Prelude.{ℤ, pos, ◌<ℤ◌}
use Rattle.std.proofs.lemmas.Int.{ints}
use Rattle.row_core.specs.Range.{InRange}
use Rattle.row_core.specs.Refusals.{IsOverflowIn}
use Rattle.row_core.specs.declared.errors.ConvErr.{ConvErr}
use Rattle.row_core.specs.declared.errors.ConvErr.TheVariants as conversion
use Rattle.reply_text.specs.declared.faults.Fault.TheVariants.{TooManyNames}
use Rattle.poly_pair.specs.Polyhedra.{Polyhedron}
use Rattle.poly_pair.specs.declared.topology.Topology.{Topology}
use Rattle.poly_pair.specs.declared.topology.Topology.TheVariants.{Closed, Nnc}
use Rattle.affine_maps.specs.Relations.{IsRelationFor}
use Rattle.script_text.specs.declared.command.Part.{Part}
use Rattle.script_text.specs.declared.command.Rel.{Rel}
use Rattle.script_text.specs.declared.command.Rel.TheVariants as rel
use Rattle.script_text.specs.declared.command.Mapping.{Mapping}
use Rattle.line_values.specs.declared.refusal.StepErr.{StepErr}
use Rattle.line_values.specs.Order.{NoneOf, IsFirst, Passes}
use Rattle.line_values.specs.Refusals.{refusal_of_conversion}
use Rattle.line_values.specs.Texts.{IsTextRefusal, IsStrictFor, fraction_fault, ReadsFraction}
use Rattle.line_values.specs.Performed.{IsPerformed}
use Rattle.line_values.proofs.FaultOrder.{early, refused_by_text, refused_late, all_pass}
use Rattle.poly_makers.specs.Affine.{image_rel, IsMapped, LeavesInMap, mapped_by}

-- ---- the expression and the divisor

positive_number : (n : ℕ) → 0 < n → pos 0 <ℤ pos n
positive_number n h = omega (arith, ints)

module _ (topology : Topology) (dim v : ℕ) (rel : Rel) (part : Part) (expr : List ℤ) (den : ℤ) (read : ReadsFraction topology dim v rel part expr den) where
  pub divisor_in_range : InRange den
  divisor_in_range = subst InRange (sym read.read.holds.same) (record { size = read.read.holds.stay.divisor })

  pub divisor_positive : pos 0 <ℤ den
  divisor_positive = subst (λ (z : ℤ). pos 0 <ℤ z) (sym read.read.holds.same) (positive_number _ read.read.holds.positive)

-- a strict relation is refused on a closed set
pub allowed : (topology : Topology) (rel : Rel) → ¬ (IsStrictFor topology rel) → IsRelationFor topology (image_rel rel)
allowed topology rel.Eq h = tt
allowed topology rel.Ge h = tt
allowed topology rel.Le h = tt
allowed Closed rel.Gt h = absurd (h tt)
allowed Closed rel.Lt h = absurd (h tt)
allowed Nnc rel.Gt h = refl
allowed Nnc rel.Lt h = refl

-- ---- faults
module _ (op : Mapping) (full : Bool) (v : ℕ) (rel : Rel) (part : Part) (p : Polyhedron) where
  none_early : NoneOf early (mapped_by op full v rel part p).conditions
  none_early = (λ k. k, (λ k. k, (λ k. k, (λ k. k, (λ k. k, tt)))))

  pub mapping_refused : (e : StepErr) → IsTextRefusal (fraction_fault p.topology p.cons.dim v rel part) e → IsPerformed (mapped_by op full v rel part p) (Err e)
  mapping_refused e is = refused_by_text (mapped_by op full v rel part p) e none_early is

  -- what was read, and whether there is room for the result
  module _ (expr : List ℤ) (den : ℤ) (read : ReadsFraction p.topology p.cons.dim v rel part expr den) where
    pub mapping_full : IsTrue full → IsFirst (mapped_by op full v rel part p).conditions TooManyNames
    mapping_full none = refused_late (mapped_by op full v rel part p).conditions TooManyNames none_early read.faultless (inr (λ k. k, inl (none, refl)))

    passes : ¬ (IsTrue full) → Passes (mapped_by op full v rel part p).conditions
    passes room = all_pass (mapped_by op full v rel part p).conditions none_early read.faultless (λ k. k, (room, (λ k. k, tt)))

    pub mapping_made : (r : Polyhedron) → ¬ (IsTrue full) → IsMapped op (image_rel rel) v expr den p r → IsPerformed (mapped_by op full v rel part p) (Ok r)
    mapping_made r room is = (passes room, record { expr = expr; divisor = den; within = read.within; read = read.read; holds = is })

    pub mapping_leaves : (cause : ConvErr) → ¬ (IsTrue full) → IsOverflowIn (LeavesInMap op (image_rel rel) v expr den p) cause → IsPerformed (mapped_by op full v rel part p) (Err (refusal_of_conversion cause))
    mapping_leaves (conversion.Overflow over) room is = (passes room, record { expr = expr; divisor = den; within = read.within; read = read.read; holds = is })
    mapping_leaves conversion.Memory room is = tt
