use Rattle.script_text.proofs.UnreadLemmas.{spelled_read, unread_once}
use Rattle.script_text.proofs.laws.reads_once.Goals as goal

pub returns : goal.returns
returns c = record { spelled = spelled_read; unread = unread_once }
