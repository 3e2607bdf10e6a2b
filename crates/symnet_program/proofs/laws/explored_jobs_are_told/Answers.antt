use Rattle.std.proofs.Common.{[], refl}
use Rattle.symnet_program.specs.Commands.{work}
use Rattle.command_words.specs.Commands.{explore}
use Rattle.symnet_program.proofs.CaseLemmas.{case_of, explored_in, job_in}
use Rattle.symnet_program.proofs.laws.explored_jobs_are_told.Goals as goal

pub returns : goal.returns
returns c job cases hops limit pruned w status j full caused (bytes, is, short, spells) filled sound =
    explored_in w job cases hops limit pruned status
    (record { full = c.jobs_are_filled_once.ensures.full w; excludes = c.jobs_are_filled_once.ensures.excludes w; first = c.jobs_are_filled_once.ensures.first w })
    j full filled sound
    (job_in w job [] (work (explore job hops limit cases pruned)) status bytes is j short spells (case_of w (explore job hops limit cases pruned) job [] refl status caused))
