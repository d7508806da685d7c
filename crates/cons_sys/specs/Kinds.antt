use Rattle.std.specs.Prelude.{◌≡◌, Bool, true, false, ℤ, pos, ◌≤ℤ◌, ◌<ℤ◌}
use Rattle.cons_sys.specs.declared.kind.ConKind.{ConKind}
use Rattle.cons_sys.specs.declared.kind.ConKind.TheVariants.{Eq, Ge, Gt}

-- what a kind asks of the value of the row
abbrev pub Allows : ConKind → ℤ → Type 0
Allows Eq value = value ≡ pos 0
Allows Ge value = pos 0 ≤ℤ value
Allows Gt value = pos 0 <ℤ value

-- whether a constraint of the kind is an equality
abbrev pub is_equality : ConKind → Bool
is_equality Eq = true
is_equality Ge = false
is_equality Gt = false
