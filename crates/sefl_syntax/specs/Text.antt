-- What may stand between the quotes of a text.
use Rattle.std.specs.Prelude.{ℕ, List, Bool}
use Rattle.std.specs.List.{list_all}
use Rattle.sefl_lex.specs.Bytes.{is_text_byte}

abbrev pub is_quotable : List ℕ → Bool
is_quotable bytes = list_all is_text_byte bytes
