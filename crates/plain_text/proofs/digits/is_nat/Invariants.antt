use Rattle.std.proofs.Common.{◌≡◌, take, true}
use Rattle.std.specs.List.{list_all}
use Rattle.plain_text.specs.Digits.{is_digit}
use Rattle.plain_text.proofs.digits.is_nat.Given as goal

abbrev pub invariant-loop-byte : goal.invariant-loop-byte
invariant-loop-byte l = list_all is_digit (take l.byte-index l.text) ≡ true
