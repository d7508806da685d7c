use Rattle.std.proofs.Common.{◌≡◌, refl}
use Rattle.grammar.specs.Grammar.{alone, expr, vexpr, frac, vfrac, con, cons, point, gen, gens}
use Rattle.grammar.specs.Cases.{expr_cases, vexpr_cases, frac_cases, vfrac_cases, con_cases, cons_cases, point_cases, gen_cases, gens_cases}

pub expr-cases : expr ≡ expr_cases
unfolding expr
expr-cases = refl

pub vexpr-cases : vexpr ≡ vexpr_cases
unfolding vexpr
vexpr-cases = refl

pub frac-cases : frac ≡ frac_cases
unfolding frac expr
frac-cases = refl

pub vfrac-cases : vfrac ≡ vfrac_cases
unfolding vfrac vexpr
vfrac-cases = refl

pub con-cases : con ≡ con_cases
unfolding con expr
con-cases = refl

pub cons-cases : cons ≡ cons_cases
unfolding cons con expr
cons-cases = refl

pub point-cases : point ≡ point_cases
unfolding point vfrac vexpr
point-cases = refl

pub gen-cases : gen ≡ gen_cases
unfolding gen point vfrac vexpr
gen-cases = refl

pub gens-cases : gens ≡ gens_cases
unfolding gens gen point vfrac vexpr
gens-cases = refl

-- with blanks around

pub alone_expr-cases : alone expr ≡ alone expr_cases
unfolding expr
alone_expr-cases = refl

pub alone_vexpr-cases : alone vexpr ≡ alone vexpr_cases
unfolding vexpr
alone_vexpr-cases = refl

pub alone_frac-cases : alone frac ≡ alone frac_cases
unfolding frac expr
alone_frac-cases = refl

pub alone_vfrac-cases : alone vfrac ≡ alone vfrac_cases
unfolding vfrac vexpr
alone_vfrac-cases = refl

pub alone_con-cases : alone con ≡ alone con_cases
unfolding con expr
alone_con-cases = refl

pub alone_cons-cases : alone cons ≡ alone cons_cases
unfolding cons con expr
alone_cons-cases = refl

pub alone_point-cases : alone point ≡ alone point_cases
unfolding point vfrac vexpr
alone_point-cases = refl

pub alone_gen-cases : alone gen ≡ alone gen_cases
unfolding gen point vfrac vexpr
alone_gen-cases = refl

pub alone_gens-cases : alone gens ≡ alone gens_cases
unfolding gens gen point vfrac vexpr
alone_gens-cases = refl
