use Rattle.std.proofs.Common.{subst}
use Rattle.file_poly.specs.Files.{IsFit}
use Rattle.file_poly.proofs.listed.Listed.other_file.Goals as goal

pub generators_file-requires : goal.generators_file-requires
generators_file-requires g c = let fit = subst IsFit c.in-Cons.is c.requires in record { narrow = fit.0; closed = fit.1 }

pub constraints_file-requires : goal.constraints_file-requires
constraints_file-requires g c = let fit = subst IsFit c.in-Gens.is c.requires in record { narrow = fit.0; kinds = fit.1; point = fit.2 }

pub returns-in-Cons : goal.returns-in-Cons
returns-in-Cons g c = rw c.in-Cons.is c.generators_file.ensures

pub returns-in-Gens : goal.returns-in-Gens
returns-in-Gens g c = rw c.in-Gens.is c.constraints_file.ensures
