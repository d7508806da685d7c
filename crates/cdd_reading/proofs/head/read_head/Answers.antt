use Rattle.std.proofs.Common.{◌∷◌, [], ◌++◌, ap, ◌∙◌, rules}
use Rattle.std.specs.Str.Lines.{lines}
use Rattle.cdd_reading.specs.Tokens.{tokens}
use Rattle.cdd_reading.proofs.HeadLaws.{at_begin, at_wrong, at_end, not_begin, is_begin-is, push_length, no_lines}
use Rattle.cdd_reading.proofs.ListLaws.{one_further}
use Rattle.cdd_reading.proofs.head.read_head.Goals as goal

pub returns-then-eq-clause-head : goal.returns-then-eq-clause-head
returns-then-eq-clause-head c =
    let i = c.loop-said.invariant.done in
    at_begin (lines c.args.file.now) i.0 (lines c.loop-said.rest.now) (lines c.split_line.result.1.now) c.split_line.result.0.now c.loop-said.said.linearity.now c.loop-said.said.kind c.loop-said.number i.1 c.split_line.ensures.first i.2 i.3 (is_begin-is (tokens c.split_line.result.0.now) c.role_of-role.result c.role_of-role.ensures (search rules))

pub returns-in_default-clause-head : goal.returns-in_default-clause-head
returns-in_default-clause-head c =
    let i = c.loop-said.invariant.done in
    at_wrong (lines c.args.file.now) i.0 (lines c.loop-said.rest.now) (lines c.split_line.result.1.now) c.split_line.result.0.now c.loop-said.said.linearity.now c.loop-said.said.kind c.loop-said.number i.1 c.split_line.ensures.first i.2 i.3 (not_begin (tokens c.split_line.result.0.now) c.role_of-role.result c.role_of-role.ensures (search rules)) (search rules)

pub loop-said-preserved : goal.loop-said-preserved
loop-said-preserved c =
    let i = c.loop-said.invariant.done in
    record {
      done = (i.0 ++ c.split_line.result.0.now ∷ [], one_further i.0 c.split_line.result.0.now (lines c.loop-said.rest.now) (lines c.split_line.result.1.now) (lines c.args.file.now) i.1 c.split_line.ensures.first, push_length c.loop-said.number i.0 c.split_line.result.0.now i.2, (search rules));
      short = search rules;
    }

pub returns-clause-head : goal.returns-clause-head
returns-clause-head c =
    let i = c.loop-said.invariant.done in
    at_end (lines c.args.file.now) i.0 c.loop-said.said.linearity.now c.loop-said.said.kind c.loop-said.number (i.1 ∙ ap (λ t. i.0 ++ t) (no_lines c.loop-said.rest.now (search rules))) i.2 i.3
