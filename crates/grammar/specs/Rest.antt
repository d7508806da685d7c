use Rattle.std.specs.Prelude.{List, ◌∷◌}
use Rattle.grammar.specs.declared.re.Re.{Re}
use Rattle.grammar.specs.declared.rest.Rest.{Rest}
use Rattle.grammar.specs.declared.rest.Rest.TheVariants.{Row, Then'}

-- the forms to come, in their order
abbrev pub listed : Rest → List Re
listed (Row row) = row.now
listed (Then' form p rest) = form.now ∷ listed rest
