-- What came of the commands that make a set of others.
use Rattle.std.proofs.Common.{◌≡◌, ◌+◌, ◌≤◌, ◌<◌, ℕ, Bool, true, false, Result, IfErr, sym, subst, arith}
use Rattle.row_core.specs.declared.errors.ConvErr.{ConvErr}
use Rattle.row_core.specs.Refusals.{IsOverflowIn}
use Rattle.poly_pair.specs.Polyhedra.{Polyhedron}
use Rattle.script_text.specs.declared.command.Operator.{Operator}
use Rattle.poly_pair.specs.declared.topology.TheConstants.{MAX_DIM}
use Rattle.line_values.specs.Order.{Passes}
use Rattle.line_values.specs.Meaning.{room, small, alike}
use Rattle.line_values.proofs.PerformedLemmas.{not_full}
use Rattle.poly_makers.specs.Operators.{adds_dims, fitting_by, fitting, FitDimsBy, Fits, LeavesBy}

-- ---- tests that are passed, where there is room
pub small_passes : (n : ℕ) (full : Bool) → n ≤ MAX_DIM → full ≡ false → Passes (small n (room full))
small_passes n full within free = (λ k. k, (λ k. k, (λ k. k, (λ k. k, (λ (k : MAX_DIM < n). absurd (omega (arith, k, within)), (λ k. k, (λ k. k, (λ k. k, (λ k. k, (λ k. k, (λ k. k, (λ k. k, (not_full full free, (λ k. k, tt))))))))))))))

alike_passes : (p q : Polyhedron) (full : Bool) → p.topology ≡ q.topology → p.cons.dim ≡ q.cons.dim → full ≡ false → Passes (alike p q (room full))
alike_passes p q full topology dim free = (λ k. k, (λ k. k topology, (λ k. k, (λ k. k dim, (λ k. k, (λ k. k, (λ k. k, (λ k. k, (λ k. k, (λ k. k, (λ k. k, (λ k. k, (not_full full free, (λ k. k, tt))))))))))))))

passes_by : (adds : Bool) (p q : Polyhedron) (full : Bool) → p.topology ≡ q.topology → FitDimsBy adds p q → full ≡ false → Passes (fitting_by adds p q (room full))
passes_by true p q full topology dims free =
    (λ k. k, (λ k. k topology, (λ k. k, (λ k. k, (λ (k : MAX_DIM < p.cons.dim + q.cons.dim). absurd (omega (arith, k, dims)), (λ k. k, (λ k. k, (λ k. k, (λ k. k, (λ k. k, (λ k. k, (λ k. k, (not_full full free, (λ k. k, tt))))))))))))))
passes_by false p q full topology dims free = alike_passes p q full topology dims free

pub operands_pass : (op : Operator) (p q : Polyhedron) (full : Bool) → Fits op p q → full ≡ false → Passes (fitting op p q (room full))
operands_pass op p q full fits free = passes_by (adds_dims op) p q full fits.0 fits.1 free

-- ---- refusals
-- the call of the operator was refused
pub refused_by : (op by : Operator) (p q : Polyhedron) (result : Result Polyhedron ConvErr) → op ≡ by → IfErr result (IsOverflowIn (LeavesBy by p q)) → IfErr result (IsOverflowIn (LeavesBy op p q))
refused_by op by p q result is refused = subst (λ (o : Operator). IfErr result (IsOverflowIn (LeavesBy o p q))) (sym is) refused
