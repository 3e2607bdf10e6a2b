use Rattle.std.proofs.Common.{refl}
use Rattle.sefl_meaning.specs.Values.{numbers, number_fits}
use Rattle.sefl_meaning.proofs.Numbers.{numbers_keep, run_fits, enter_fits}
use Rattle.sefl_meaning.proofs.laws.numbers_fit.Goals as goal

pub returns-clause-operations : goal.returns-clause-operations
returns-clause-operations c = λ v unknowns. numbers_keep v unknowns

pub returns-clause-choices : goal.returns-clause-choices
returns-clause-choices c = λ v unknowns width number. refl

pub returns-clause-runs : goal.returns-clause-runs
returns-clause-runs c = λ v unknowns site at code p h.
    run_fits v unknowns (c.widths_are_kept.ensures.courses number_fits (numbers v unknowns) (numbers_keep v unknowns))
    at site code p h

pub returns-clause-walks : goal.returns-clause-walks
returns-clause-walks c = λ net v unknowns hops port node p h.
    enter_fits v unknowns
    (c.widths_are_kept.ensures.courses number_fits (numbers v unknowns) (numbers_keep v unknowns)) net hops node port p h
