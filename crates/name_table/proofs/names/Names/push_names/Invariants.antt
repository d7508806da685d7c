use Rattle.std.proofs.Common.{◌≡◌, ◌++◌}
use Rattle.std.specs.Map.{keys_of}
use Rattle.name_table.specs.Listing.{spaced}
use Rattle.name_table.proofs.ListingLemmas.{names_in}
use Rattle.name_table.proofs.names.Names.push_names.Given as goal

abbrev pub invariant-loop-name : goal.invariant-loop-name
invariant-loop-name g l = l.text ++ spaced (names_in l.name-iterator) ≡ l.fn.text ++ spaced (keys_of l.self)
