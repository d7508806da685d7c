use Rattle.std.proofs.Common.{◌≡◌, [], ℕ, Bool, true, false, List, ℤ, IsTrue, refl, sym, ap, ◌∙◌, subst, arith, below_more}
use Rattle.std.specs.Prelude.{◌↔◌}
use Rattle.std.specs.Int.{w128}
use Rattle.std.proofs.lemmas.Bool.{false≢true}
use Rattle.std.proofs.lemmas.Int.{to_z-of_z, fits_signed_from_abs}
use Rattle.std.proofs.lemmas.List.Elements.{All-get_or, All-from_get_or}
use mir.Val.{SFits}
use Rattle.row_core.specs.Vectors.{dot}
use Rattle.row_core.specs.Sizes.{HaveBits}
use Rattle.cons_sys.specs.declared.kind.ConKind.{ConKind}
use Rattle.gens_sys.specs.declared.kind.GenKind.{GenKind}
use Rattle.gens_sys.specs.declared.kind.GenKind.TheVariants.{Line}
use Rattle.gens_sys.specs.Generators.{Generator, generator_at, row_at, kind_at}
use Rattle.set_laws.specs.Asking.{Asks, MeetsOn}
use Rattle.lattice_ops.proofs.containing.all_meet.Goals as goal

-- what a test by the value says of generator j
met_by : (u : List ℤ) (k : ConKind) (gs : List Generator) (j : ℕ) (g : GenKind) (v : List ℤ) (x : ℤ) (b : Bool) → g ≡ kind_at gs j → v ≡ row_at gs j → x ≡ dot u v → IsTrue b ↔ Asks k g x → IsTrue b ↔ MeetsOn (u, k) (generator_at gs j)
met_by u k gs j g v x b eg ev ex asked =
    subst (λ (kind : GenKind). IsTrue b ↔ Asks k kind (dot u (row_at gs j))) eg
    (subst (λ (z : ℤ). IsTrue b ↔ Asks k g z) (ex ∙ ap (dot u) ev) asked)

pub short_dot-requires-clause-right : goal.short_dot-requires-clause-right
short_dot-requires-clause-right c = subst (HaveBits c.args.right) (sym c.row.ensures.value) (c.requires.generators c.loop-j.j ([], Line) (omega arith))

pub loop-j-preserved : goal.loop-j-preserved
loop-j-preserved c =
    let fits : SFits w128 c.short_dot.result = fits_signed_from_abs w128 c.short_dot.result c.short_dot.ensures.in_range.size in
    let asked = simp to_z-of_z at c.if-not-asks.ensures in
    let met = met_by c.args.row.now c.args.kind c.args.gens.now.list c.loop-j.j c.kind.result c.row.result.now c.short_dot.result true c.kind.ensures c.row.ensures.value c.short_dot.ensures.value asked in
    below_more (λ k. MeetsOn (c.args.row.now, c.args.kind) (generator_at c.args.gens.now.list k)) c.loop-j.j c.loop-j.invariant (met.0 refl)

pub returns-then-not-asks : goal.returns-then-not-asks
returns-then-not-asks c =
    let fits : SFits w128 c.short_dot.result = fits_signed_from_abs w128 c.short_dot.result c.short_dot.ensures.in_range.size in
    let asked = simp to_z-of_z at c.if-not-asks.ensures in
    let met = met_by c.args.row.now c.args.kind c.args.gens.now.list c.loop-j.j c.kind.result c.row.result.now c.short_dot.result false c.kind.ensures c.row.ensures.value c.short_dot.ensures.value asked in (
      (λ no. absurd (false≢true no)),
      (λ all. absurd (false≢true (met.1 (All-get_or (MeetsOn (c.args.row.now, c.args.kind)) c.args.gens.now.list c.loop-j.j ([], Line) (omega arith) all)))),
    )

pub returns : goal.returns
returns c = (
  (λ t. All-from_get_or (MeetsOn (c.args.row.now, c.args.kind)) c.args.gens.now.list ([], Line) (λ i h. c.loop-j.invariant i (omega (arith, h, c.loop-j-test.false, c.len-j-end.ensures)))),
  (λ all. refl),
)
