use Rattle.std.specs.Prelude.{◌≡◌, ℕ, ℤ, List, ◌+◌, ◌-◌, ◌^◌, length, drop, refl}
use Rattle.std.specs.Int.{w128}
use mir.Val.{SFits}
use Rattle.std.proofs.Common.{arith, ap, sym, ◌∙◌}
use Rattle.std.proofs.lemmas.Int.{to_z-of_z}
use Rattle.std.proofs.lemmas.Result.{IfOk-weaker}
use Rattle.std.proofs.lemmas.List.Elements.{All-take, All-drop}
use Rattle.row_core.specs.Range.{InRange}
use Rattle.row_core.specs.Sizes.{IsWithin}
use Rattle.flat_rows.specs.Flat.{window}
use Rattle.flat_rows.proofs.Flat.{length-window}
use Rattle.row_store.proofs.ChangedRows.{part_in_range, changed_or_left, All-lent, All-written}
use Rattle.row_store.proofs.Parts.{part_outcome}
use Rattle.row_store.proofs.windows.combine_part.Goals as goal

pub returns-clause-combined : goal.returns-clause-combined
returns-clause-combined g c =
    let s_fits : SFits w128 c.args.factors.0 = record { sfits = omega arith } in
    let t_fits : SFits w128 c.args.factors.1 = record { sfits = omega arith } in
    let e : c.args.part.at + c.args.part.width - c.args.part.at ≡ c.args.part.width = omega arith in
    part_outcome c.args.part.at c.args.part.width _ c.args.factors.0 c.args.factors.1 c.args.cells.now c.args.v.now _ c.combine_within.new.dst c.combine_within.result e refl c.requires.within c.combine_within.ensures.width
    (simp to_z-of_z at c.combine_within.ensures.combined)

pub combine_within-requires-clause-same_width : goal.combine_within-requires-clause-same_width
combine_within-requires-clause-same_width g c =
    let e : c.args.part.at + c.args.part.width - c.args.part.at ≡ c.args.part.width = omega arith in
    ap (λ (n : ℕ). length (window c.args.part.at n c.args.cells.now)) e ∙ length-window c.args.part.at c.args.part.width c.args.cells.now c.requires.within ∙ sym c.requires.same_width

pub returns-clause-in_range : goal.returns-clause-in_range
returns-clause-in_range g c all =
    let e : c.args.part.at + c.args.part.width - c.args.part.at ≡ c.args.part.width = omega arith in
    let part : List ℤ = window c.args.part.at (c.args.part.at + c.args.part.width - c.args.part.at) c.args.cells.now in
    let wide : length c.combine_within.new.dst ≡ c.args.part.width = c.combine_within.ensures.width ∙ ap (λ (n : ℕ). length (window c.args.part.at n c.args.cells.now)) e ∙ length-window c.args.part.at c.args.part.width c.args.cells.now c.requires.within in
    part_in_range c.args.part.at c.args.part.width _ c.args.cells.now c.combine_within.new.dst e wide all
    (changed_or_left _ _ part c.combine_within.new.dst c.combine_within.result c.combine_within.ensures.in_range c.combine_within.ensures.combined (All-take InRange _ (drop c.args.part.at c.args.cells.now) (All-drop InRange c.args.part.at c.args.cells.now all)))

pub combine_within-requires-clause-within : goal.combine_within-requires-clause-within
combine_within-requires-clause-within g c = (
  All-lent (IsWithin (2 ^ c.args.bits)) c.args.part.at c.args.part.width _ c.args.cells.now (omega arith) c.requires.bits.0,
  c.requires.bits.1,
)

pub returns-clause-bits : goal.returns-clause-bits
returns-clause-bits g c =
    let e : c.args.part.at + c.args.part.width - c.args.part.at ≡ c.args.part.width = omega arith in
    let wide : length c.combine_within.new.dst ≡ c.args.part.width = c.combine_within.ensures.width ∙ ap (λ (n : ℕ). length (window c.args.part.at n c.args.cells.now)) e ∙ length-window c.args.part.at c.args.part.width c.args.cells.now c.requires.within in
    IfOk-weaker c.combine_within.result _ _ (λ bits all. All-written (IsWithin (2 ^ bits)) c.args.part.at c.args.part.width _ c.args.cells.now c.combine_within.new.dst e c.requires.within wide all) c.combine_within.ensures.bits
