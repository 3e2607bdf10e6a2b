-- What the code has noted, without where the names lie in memory.
use denote.Ref.{Bor}
use Rattle.std.specs.Prelude.{ℕ, List, map}
use Rattle.job_names.specs.declared.mentions.Mentions.{Mentions}
use Rattle.job_names.specs.declared.survey.Survey.{Survey}
use Rattle.job_names.specs.Noted.{Noted}
use Rattle.job_names.specs.Surveyed.{Surveyed}

abbrev pub lent_names : List (Bor (List ℕ)) → List (List ℕ)
lent_names names = map (λ name. name.now) names

abbrev pub noted_by : Mentions → Noted
noted_by m = record { metas = lent_names m.metas.keys; tags = lent_names m.tags.keys }

abbrev pub surveyed_by : Survey → Surveyed
surveyed_by s = record { noted = noted_by s.mentions; site = s.site; patterns = s.patterns.entries }
