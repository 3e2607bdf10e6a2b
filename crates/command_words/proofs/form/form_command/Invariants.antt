use Rattle.std.proofs.Common.{◌≡◌, [], map, take}
use Rattle.clap.specs.Words.{app_of}
use Rattle.command_words.specs.Apps.{form_app}
use Rattle.command_words.proofs.form.form_command.Given as goal

abbrev pub invariant-loop-id : goal.invariant-loop-id
invariant-loop-id l = app_of l.command ≡ form_app (record { positionals = map (λ s. s.now) (take l.id-index l.form.positionals.now); options = [] })

abbrev pub invariant-loop-name : goal.invariant-loop-name
invariant-loop-name l = app_of l.command ≡ form_app (record { positionals = map (λ s. s.now) l.form.positionals.now; options = map (λ s. s.now) (take l.name-index l.form.options.now) })
