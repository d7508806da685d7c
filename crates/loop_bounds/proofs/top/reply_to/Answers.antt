use Rattle.loop_bounds.proofs.ReplyLemmas.{head_is_read, behind_is_read}
use Rattle.loop_bounds.proofs.top.reply_to.Goals as goal

pub returns-in-Ok-find_bounds : goal.returns-in-Ok-find_bounds
returns-in-Ok-find_bounds g c =
    let found = c.in-Ok-find_bounds in
    record {
      program = c.in-Ok.program;
      spelled = c.in-Ok.ensures;
      head = found.bounds.head;
      behind = found.bounds.behind;
      written = c.in_ok-text-in-Ok-find_bounds.ensures;
      head_read = head_is_read c.in-Ok.program found.bounds c.constraints_are_read_back.ensures c.dim.ensures.rows found.ensures.exact;
      behind_read = behind_is_read c.in-Ok.program found.bounds c.constraints_are_read_back.ensures c.dim-in-Ok-find_bounds.ensures.rows found.ensures.exact;
      at_head = found.ensures.head;
      at_behind = found.ensures.behind;
      exact = found.ensures.exact;
    }
