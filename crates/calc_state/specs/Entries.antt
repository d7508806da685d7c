-- What each entry keeps.
use Rattle.trans_sys.specs.Systems.{IsKeptSystem}
use Rattle.powerset.specs.Powersets.{IsKeptPowerset}
use Rattle.bd_shape.specs.Shapes.{IsShape}
use Rattle.hybrid.specs.Systems.{IsKeptHybrid}
use Rattle.line_values.specs.Proper.{IsProper}
use Rattle.calc_state.specs.declared.entry.Entry.{Entry}
use Rattle.calc_state.specs.declared.entry.Entry.TheVariants as entry

-- what each entry keeps
abbrev pub IsKeptEntry : Entry → Type 0
IsKeptEntry (entry.Poly p) = IsProper p
IsKeptEntry (entry.System s) = IsKeptSystem s
IsKeptEntry (entry.Powerset u) = IsKeptPowerset u
IsKeptEntry (entry.Shape s) = IsShape s
IsKeptEntry (entry.Hybrid h) = IsKeptHybrid h
