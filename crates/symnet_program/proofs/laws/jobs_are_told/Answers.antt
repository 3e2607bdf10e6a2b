use Rattle.symnet_program.specs.Commands.{work}
use Rattle.symnet_program.proofs.CaseLemmas.{absent_in, bad_in, case_of, flawed_in, job_in, long_in, refused_in, tables_in}
use Rattle.symnet_program.proofs.laws.jobs_are_told.Goals as goal

pub returns-clause-absent : goal.returns-clause-absent
returns-clause-absent c command job w status ((others, reads), caused) none =
    absent_in w job others (work command) status none (case_of w command job others reads status caused)

pub returns-clause-long : goal.returns-clause-long
returns-clause-long c command job w status bytes ((others, reads), caused) is long =
    long_in w job others (work command) status bytes is long (case_of w command job others reads status caused)

pub returns-clause-flawed : goal.returns-clause-flawed
returns-clause-flawed c command job w status bytes flaw ((others, reads), caused) (is, short) has =
    flawed_in w job others (work command) status bytes is flaw short has (case_of w command job others reads status caused)

pub returns-clause-tables : goal.returns-clause-tables
returns-clause-tables c command job w status j fault ((others, reads), caused) (bytes, is, short, spells) fails settled =
    tables_in w job others (work command) status
    (record { full = c.jobs_are_filled_once.ensures.full w; excludes = c.jobs_are_filled_once.ensures.excludes w; first = c.jobs_are_filled_once.ensures.first w })
    j fault fails settled
    (job_in w job others (work command) status bytes is j short spells (case_of w command job others reads status caused))

pub returns-clause-refused : goal.returns-clause-refused
returns-clause-refused c command job w status j full site rule ((others, reads), caused) (bytes, is, short, spells) filled breaks =
    refused_in w job others (work command) status
    (record { full = c.jobs_are_filled_once.ensures.full w; excludes = c.jobs_are_filled_once.ensures.excludes w; first = c.jobs_are_filled_once.ensures.first w })
    j full filled site rule breaks
    (job_in w job others (work command) status bytes is j short spells (case_of w command job others reads status caused))

pub returns-clause-bad : goal.returns-clause-bad
returns-clause-bad c command job w status j full site ((others, reads), caused) (bytes, is, short, spells) filled sound is_bad tells first =
    bad_in w job others (work command) status
    (record { full = c.jobs_are_filled_once.ensures.full w; excludes = c.jobs_are_filled_once.ensures.excludes w; first = c.jobs_are_filled_once.ensures.first w })
    j full filled site is_bad sound tells first
    (job_in w job others (work command) status bytes is j short spells (case_of w command job others reads status caused))
