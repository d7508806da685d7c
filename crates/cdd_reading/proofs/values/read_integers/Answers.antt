use Rattle.std.proofs.Common.{◌≡◌, ◌∷◌, ◌++◌, [], map, sym, subst, rules}
use Rattle.std.proofs.lemmas.List.Elements.{All-push}
use Rattle.row_core.specs.Range.{InRange, AllInRange}
use Rattle.cdd_reading.specs.Tokens.{integer, texts}
use Rattle.cdd_reading.proofs.WholeNumbers.{integer_kept, integer_too_large}
use Rattle.cdd_reading.proofs.values.read_integers.Goals as goal

pub returns-in_default : goal.returns-in_default
returns-in_default c =
    let s = c.in-Some in
    integer_too_large c.loop-token.values.items (map integer (texts c.args.tokens)) (s.field-0-0, s.token.now) c.loop-token.token-iterator c.next.new.self c.loop-token.invariant.whole (search rules) c.in_default.ensures

pub loop-token-preserved : goal.loop-token-preserved
loop-token-preserved c =
    let s = c.in-Some in
    let v = c.in-Some-integer_of in
    let done = c.loop-token.values.items in
    let next : c.push.new.self.items ≡ done ++ v.value ∷ [] = search rules in
    record {
      can_next = tt;
      is_finite = tt;
      whole = integer_kept done (map integer (texts c.args.tokens)) c.push.new.self.items v.value (s.field-0-0, s.token.now) c.loop-token.token-iterator c.next.new.self c.loop-token.invariant.whole (search rules) v.ensures.0 next;
      in_range = subst AllInRange (sym next) (All-push InRange done v.value c.loop-token.invariant.in_range v.ensures.1);
    }
