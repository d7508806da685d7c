-- The large forms spelled out, for definitions by cases on how a text matches: each equals the form
-- of its name.
use Rattle.std.specs.Prelude.{codes}
use Rattle.grammar.specs.Form.{Form, word}
use Rattle.grammar.specs.Grammar.{◌∣◌, ◌⋯◌, symbol, list_of, sum_of, over_nat, term, vterm, rel}

-- an expression, spelled out
abbrev pub expr_cases : Form
expr_cases = sum_of term

-- an expression of variables alone, spelled out
abbrev pub vexpr_cases : Form
vexpr_cases = symbol 48 ∣ sum_of vterm

-- an expression with a divisor, spelled out
abbrev pub frac_cases : Form
frac_cases = over_nat expr_cases

-- an expression of variables with a divisor, spelled out
abbrev pub vfrac_cases : Form
vfrac_cases = over_nat vexpr_cases

-- a constraint, spelled out
abbrev pub con_cases : Form
con_cases = expr_cases ⋯ rel ⋯ expr_cases

-- a list of constraints, spelled out
abbrev pub cons_cases : Form
cons_cases = word (codes "true") ∣ word (codes "false") ∣ list_of con_cases

-- a point, spelled out
abbrev pub point_cases : Form
point_cases = word (codes "p(") ⋯ vfrac_cases ⋯ symbol 41

-- a generator, spelled out
abbrev pub gen_cases : Form
gen_cases =
    point_cases ∣ (word (codes "c(") ⋯ vfrac_cases ⋯ symbol 41)
    ∣ (word (codes "r(") ⋯ vexpr_cases ⋯ symbol 41) ∣ (word (codes "l(") ⋯ vexpr_cases ⋯ symbol 41)

-- a list of generators, spelled out
abbrev pub gens_cases : Form
gens_cases = word (codes "none") ∣ list_of gen_cases
