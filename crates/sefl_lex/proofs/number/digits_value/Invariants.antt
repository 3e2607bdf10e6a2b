use Rattle.std.proofs.Common.{◌≡◌, ◌<◌, ◌^◌, true, take}
use Rattle.std.specs.List.{list_all}
use Rattle.std.specs.Str.Parse.{digits_value}
use Rattle.sefl_lex.specs.Words.{is_digit}
use Rattle.sefl_lex.proofs.number.digits_value.Given as goal

abbrev pub invariant-loop-byte : goal.invariant-loop-byte
invariant-loop-byte l = record {
  digits : list_all (is_digit l.base) (take l.byte-index l.digits) ≡ true;
  fits : l.value < 2 ^ 128;
  value : l.value ≡ digits_value l.base (take l.byte-index l.digits);
}
