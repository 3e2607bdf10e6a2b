-- What `clap` gives of the words is what their reading gives.
use Rattle.std.proofs.Common.{◌≡◌, ◌∙◌, sym, ap, List, Some}
use Rattle.clap.proofs.WalkLemmas.{first_value-rows}
use Rattle.clap.specs.Matches.{first_value}
use Rattle.clap.specs.Walk.{first_of, rows_of}
use Rattle.clap.specs.declared.parser.matches.Found.{Found}
use Rattle.std.specs.Prelude.{option_and_then}
use Rattle.command_words.specs.Apps.{rows}
use Rattle.command_words.specs.Commands.{command_from, form_of_verb, read_as}
use Rattle.command_words.specs.Forms.{Form, Given, Text, read_form, value_of}
use Rattle.command_words.specs.declared.command.Verb.{Verb}
use Rattle.command_words.proofs.FormRules.{first_is}

module _ (found : Found) (given : Given) (left : rows_of found ≡ rows given) where
  value_is : (name : Text) → first_value found name ≡ value_of given name
  value_is name = first_value-rows found name ∙ ap (first_of name) left ∙ first_is name given

  values_are : first_value found ≡ value_of given
  values_are = λ k name. value_is name k

  pub command_is : (rest : List Text) (verb : Verb) (form : Form) → form ≡ form_of_verb verb → read_form form rest ≡ Some given
      → command_from verb (first_value found) ≡ read_as verb rest
  command_is rest verb form forms reads =
      ap (command_from verb) values_are
      ∙ sym (ap (option_and_then (λ g. command_from verb (value_of g))) (ap (λ f. read_form f rest) (sym forms) ∙ reads))
