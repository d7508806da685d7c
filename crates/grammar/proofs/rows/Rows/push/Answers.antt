use Rattle.std.proofs.Common.{◌≡◌, length, rules}
use Rattle.grammar.proofs.RowLists.{rows-push}
use Rattle.grammar.proofs.rows.Rows.push.Goals as goal

pub returns : goal.returns
returns c =
    let start : c.len-start.result ≡ length c.args.self.now.forms.items = search rules in
    let end : c.len-end.result ≡ length c.append_to.new.forms.items = search rules in
    let h = rows-push _ _ _ _ _ _ _ c.args.self.now.within c.in_ok-append_to.ensures.ok c.in_ok-push.ensures.items start end in
    h
