use Rattle.std.proofs.Common.{◌≡◌, drop}
use Rattle.click_text.specs.Numbers.{digits_from}
use Rattle.click_text.proofs.numeral.digits_from.Given as goal

abbrev pub invariant-loop-byte : goal.invariant-loop-byte
invariant-loop-byte l = digits_from l.base l.value (drop l.byte-index l.digits) ≡ digits_from l.base 0 l.digits
