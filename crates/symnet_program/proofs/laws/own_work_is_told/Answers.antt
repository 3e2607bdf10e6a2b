use Rattle.symnet_program.specs.Commands.{inputs, work}
use Rattle.symnet_program.proofs.OwnLemmas.{own_told}
use Rattle.symnet_program.proofs.laws.own_work_is_told.Goals as goal

pub returns : goal.returns
returns c command w finds given status tells opened caused =
    own_told (inputs command) (work command) w given (λ other other_opened. c.worlds_decide.ensures.all w (inputs command) other given finds tells other_opened opened)
    (λ fault settled fails. c.worlds_decide.ensures.excludes w (inputs command) given fault settled opened fails) status caused
