-- What the types of the code stand for.
use Rattle.std.specs.Prelude.{List, map, String, string_bytes, Option, option_map}
use Rattle.std.specs.Borrow.{Bor}
use Rattle.std.specs.declared.alloc.Global.{Global}
use Rattle.command_words.specs.Forms.{Form as FormOf, Text}
use Rattle.command_words.specs.declared.command.Verb.{Verb}
use Rattle.command_words.specs.declared.form.Form.{Form}

abbrev pub form_of : Form → FormOf
form_of f = record { positionals = map (λ s. s.now) f.positionals.now; options = map (λ s. s.now) f.options.now }

abbrev pub named_of : Option (Verb × Bor (List (String Global))) → Option (Verb × List Text)
named_of named = option_map (λ p. (p.0, map (λ w. string_bytes w) p.1.now)) named
