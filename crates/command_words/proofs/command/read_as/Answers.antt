use Rattle.std.proofs.Common.{◌∙◌, map, string_bytes}
use Rattle.clap.specs.Words.{found_of}
use Rattle.command_words.specs.Shapes.{form_of}
use Rattle.command_words.proofs.CommandLemmas.{command_is}
use Rattle.command_words.proofs.command.read_as.Goals as goal

pub returns-in-Some-clause-command : goal.returns-in-Some-clause-command
returns-in-Some-clause-command c =
    let rest = map (λ w. string_bytes w) c.args.rest.now in
    let t = rw c.in-Some.is at c.in_ok-values.ensures in
    c.command_from.ensures.command
    ∙ command_is (found_of c.in-Some.values) t.0 t.2 rest c.args.verb (form_of c.form.result) c.form.ensures t.1
