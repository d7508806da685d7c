use Rattle.std.proofs.Common.{◌≡◌, subst, true}
use Rattle.std.specs.List.{list_all}
use Rattle.std.proofs.lemmas.Result.{MatchResult-weaker}
use Rattle.cdd_reading.specs.Tokens.{texts}
use Rattle.cdd_reading.specs.Bodies.{is_number}
use Rattle.cdd_reading.specs.declared.format.NumberType.{NumberType}
use Rattle.cdd_reading.specs.declared.format.NumberType.TheVariants.{Integer}
use Rattle.cdd_reading.proofs.WholeNumbers.{integers_read, integers_refused}
use Rattle.cdd_reading.proofs.values.read_values.Goals as goal

pub returns-in-Integer : goal.returns-in-Integer
returns-in-Integer c =
    let ts = texts c.args.tokens in
    let forms : list_all (is_number Integer) ts ≡ true = subst (λ (t : NumberType). list_all (is_number t) ts ≡ true) c.in-Integer.is c.requires.forms in
    MatchResult-weaker c.read_integers.result c.read_integers.ensures
    (λ v h. integers_read c.args.width ts v.items forms c.requires.rows h.0 h.1)
    (λ e h. integers_refused c.args.width ts e forms c.requires.rows h)
