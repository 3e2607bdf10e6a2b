use Rattle.net_check.proofs.LimitLemmas.{keeping_is_sound}
use Rattle.net_check.proofs.SoundLemmas.{items_keep_rules, job_keeps_limits}
use Rattle.net_check.proofs.laws.sound_jobs_keep_the_rules.Goals as goal

pub returns-clause-items : goal.returns-clause-items
returns-clause-items c = items_keep_rules

pub returns-clause-limits : goal.returns-clause-limits
returns-clause-limits c = job_keeps_limits

pub returns-clause-sound : goal.returns-clause-sound
returns-clause-sound c = keeping_is_sound
