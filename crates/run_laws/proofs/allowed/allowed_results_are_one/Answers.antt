use Rattle.run_laws.proofs.AllowedSets.{results_are_one, texts_make_one, combinations_are_one}
use Rattle.run_laws.proofs.AllowedFiles.{files_are_one}
use Rattle.run_laws.proofs.allowed.allowed_results_are_one.Goals as goal

pub returns : goal.returns
returns c = record { results = results_are_one; texts = texts_make_one; unions = combinations_are_one; files = files_are_one }
