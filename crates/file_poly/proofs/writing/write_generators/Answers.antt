use Rattle.std.proofs.Common.{◌≡◌, ℕ, ◌<◌, ◌^◌, List, length, sym, subst}
use Rattle.std.specs.Prelude.{IfOk}
use Rattle.gens_sys.specs.Generators as gens
use Rattle.gens_sys.specs.Generators.{Generators}
use Rattle.cdd_text.specs.Written.{ext_text, HasNoClosurePoint}
use Rattle.cdd_reading.specs.declared.format.Format.TheVariants.{Ext}
use Rattle.file_poly.specs.Files.{IsOfFile}
use Rattle.file_poly.proofs.FileKinds.{written_generators}
use Rattle.file_poly.proofs.WrittenPolyhedra.{closed_forms, generators_of_points, at_text}
use Rattle.file_poly.proofs.writing.write_generators.Goals as goal

pub write_ext-requires : goal.write_ext-requires
write_ext-requires c = subst HasNoClosurePoint (sym c.gens-gens.ensures.value) (written_generators c.args.p.now.gens (closed_forms c.stored_is_closed.ensures c.args.p.now c.gens-gens.ensures.kept c.requires.closed).gens)

pub returns-clause-written : goal.returns-clause-written
returns-clause-written c = subst (λ (gs : Generators). IfOk c.write_ext.result (λ text. text ≡ ext_text gs)) c.gens-gens.ensures.value c.write_ext.ensures

pub returns-clause-same_points : goal.returns-clause-same_points
returns-clause-same_points c =
    let p = c.args.p.now in
    let fit : gens.FitDimension p.gens = subst (λ (gs : Generators). gens.FitDimension gs) c.gens-gens.ensures.value c.dim-dim.ensures.rows in
    let few : length p.gens.list < 2 ^ 64 = subst (λ (gs : Generators). length gs.list < 2 ^ 64) c.gens-gens.ensures.value (subst (λ (n : ℕ). n < 2 ^ 64) c.len-rows.ensures c.len-rows.type_inv) in
    at_text (λ (text : List ℕ). IsOfFile Ext text p) c.write_ext.result (ext_text p.gens) (returns-clause-written c) (generators_of_points c.stored_is_closed.ensures c.kept_is_pair.ensures c.kept_is_empty.ensures c.generators_are_read_back.ensures p c.gens-gens.ensures.kept c.requires.closed fit few)
