use Rattle.std.proofs.Common.{◌≡◌, true, take}
use Rattle.std.specs.List.{list_all}
use Rattle.std.specs.Str.Parse.{digits_value}
use Rattle.sefl_lex.specs.Bytes.{is_decimal}
use Rattle.sefl_grammar.proofs.value.short_value.Given as goal

abbrev pub invariant-loop-byte : goal.invariant-loop-byte
invariant-loop-byte l = record {
  digits : list_all is_decimal (take l.byte-index l.word) ≡ true;
  value : l.value ≡ digits_value 10 (take l.byte-index l.word);
}
