use Rattle.std.proofs.Common.{◌≡◌, ℕ, ◌<◌, ◌^◌, List, length, sym, subst}
use Rattle.std.specs.Prelude.{IfOk}
use Rattle.cons_sys.specs.Constraints as cons
use Rattle.cons_sys.specs.Constraints.{Constraints}
use Rattle.cdd_text.specs.Written.{ine_text, HasNoStrict}
use Rattle.cdd_reading.specs.declared.format.Format.TheVariants.{Ine}
use Rattle.file_poly.specs.Files.{IsOfFile}
use Rattle.file_poly.proofs.FileKinds.{written_constraints}
use Rattle.file_poly.proofs.WrittenPolyhedra.{closed_forms, constraints_of_points, at_text}
use Rattle.file_poly.proofs.writing.write_constraints.Goals as goal

pub write_ine-requires : goal.write_ine-requires
write_ine-requires c = subst HasNoStrict (sym c.cons-cons.ensures.value) (written_constraints c.args.p.now.cons (closed_forms c.stored_is_closed.ensures c.args.p.now c.cons-cons.ensures.kept c.requires.closed).cons)

pub returns-clause-written : goal.returns-clause-written
returns-clause-written c = subst (λ (cs : Constraints). IfOk c.write_ine.result (λ text. text ≡ ine_text cs)) c.cons-cons.ensures.value c.write_ine.ensures

pub returns-clause-same_points : goal.returns-clause-same_points
returns-clause-same_points c =
    let p = c.args.p.now in
    let fit : cons.FitDimension p.cons = subst (λ (cs : Constraints). cons.FitDimension cs) c.cons-cons.ensures.value c.dim-dim.ensures.rows in
    let few : length p.cons.list < 2 ^ 64 = subst (λ (cs : Constraints). length cs.list < 2 ^ 64) c.cons-cons.ensures.value (subst (λ (n : ℕ). n < 2 ^ 64) c.len-rows.ensures c.len-rows.type_inv) in
    at_text (λ (text : List ℕ). IsOfFile Ine text p) c.write_ine.result (ine_text p.cons) (returns-clause-written c) (constraints_of_points c.stored_is_closed.ensures c.constraints_are_read_back.ensures p c.cons-cons.ensures.kept c.requires.closed fit few)
