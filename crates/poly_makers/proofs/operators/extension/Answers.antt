use Rattle.std.proofs.Common.{sym, subst}
use Rattle.std.specs.Prelude.{IfOk, IfErr}
use Rattle.row_core.specs.Refusals.{IsOverflowIn}
use Rattle.script_text.specs.declared.command.Extension.{Extension}
use Rattle.poly_makers.specs.Operators.{IsExtensionBy, IsStoredOfExtension, LeavesInExtension}
use Rattle.poly_makers.proofs.operators.extension.Goals as goal

pub embed-requires : goal.embed-requires
embed-requires g c = c.requires

pub project-requires : goal.project-requires
project-requires g c = c.requires

pub returns-in-Embed : goal.returns-in-Embed
returns-in-Embed g c =
    let p = c.args.p.now in
    let n = c.args.count in
    record {
      points = subst (λ (by : Extension). IfOk c.embed.result (IsExtensionBy by n p)) (sym c.in-Embed.is) c.embed.ensures.points;
      stored = subst (λ (by : Extension). IfOk c.embed.result (IsStoredOfExtension by n p)) (sym c.in-Embed.is) c.embed.ensures.stored;
      overflow = subst (λ (by : Extension). IfErr c.embed.result (IsOverflowIn (LeavesInExtension by n p))) (sym c.in-Embed.is) c.embed.ensures.overflow;
    }

pub returns-in-Project : goal.returns-in-Project
returns-in-Project g c =
    let p = c.args.p.now in
    let n = c.args.count in
    record {
      points = subst (λ (by : Extension). IfOk c.project.result (IsExtensionBy by n p)) (sym c.in-Project.is) c.project.ensures.points;
      stored = subst (λ (by : Extension). IfOk c.project.result (IsStoredOfExtension by n p)) (sym c.in-Project.is) c.project.ensures.stored;
      overflow = subst (λ (by : Extension). IfErr c.project.result (IsOverflowIn (LeavesInExtension by n p))) (sym c.in-Project.is) c.project.ensures.overflow;
    }
