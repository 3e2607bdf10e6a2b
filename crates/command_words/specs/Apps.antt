-- Forms as commands of `clap`.
use Rattle.std.specs.Prelude.{List, [], ◌∷◌, ◌++◌, Some, None, true, map}
use Rattle.clap.specs.Walk.{Row, Rule}
use Rattle.clap.specs.Words.{App, new_app, new_rule, reading_of}
use Rattle.clap.specs.Simple.{on_top}
use Rattle.clap.specs.declared.builder.action.ArgAction.TheVariants.{Set}
use Rattle.clap.specs.declared.builder.value_parser.ValueParser.TheVariants as parser
use Rattle.clap.specs.declared.parser.matches.ValueSource.TheVariants.{CommandLine}
use Rattle.command_words.specs.Forms.{Form, Given, Text}

-- the row of a name and its value
abbrev pub row : Text × Text → Row
row p = record { id = p.0; values = p.1 ∷ []; count = None; source = Some CommandLine; reading = reading_of parser.String }

abbrev pub rows : Given → List Row
rows = map row

abbrev pub place_rule : Text → Rule
place_rule name = record (new_rule name) { action = Some Set; required = true }

abbrev pub option_rule : Text → Rule
option_rule name = record (new_rule name) { long = Some name; action = Some Set }

abbrev pub form_rules : Form → List Rule
form_rules f = map place_rule f.positionals ++ map option_rule f.options

abbrev pub form_app : Form → App
form_app f = on_top (λ s. record s { no_binary_name = true; disable_help_flag = true; rules = form_rules f }) (new_app [])
