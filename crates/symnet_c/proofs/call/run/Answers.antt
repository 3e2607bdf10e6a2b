use Rattle.std.proofs.Common.{map, string_bytes}
use Rattle.command_words.specs.Commands.{read_command}
use Rattle.symnet_c.proofs.Running.{ran}
use Rattle.symnet_c.proofs.call.run.Goals as goal

pub returns : goal.returns
returns c =
    let words = map string_bytes c.args.words.now in
    ran words c.args.folder.now c.symnet.new.folder c.symnet.result c.args.out.now c.symnet.new.out c.new-patterns.result c.symnet.new.patterns
    c.new-patterns.ensures c.requires
    (λ part run. c.runs_tell.ensures.cause (c.args.folder.now, c.new-patterns.result) (c.symnet.new.folder, c.symnet.new.patterns) (read_command words) c.symnet.result part run)
    c.symnet.ensures.shown c.symnet.ensures.ran c.symnet.ensures.told c.symnet.ensures.exact
