use Rattle.std.proofs.Common.{◌≡◌, drop, fold}
use Rattle.job_names.specs.Lent.{noted_by}
use Rattle.job_names.specs.Noted.{noted_field}
use Rattle.job_names.proofs.mentions.Mentions.add_fields.Given as goal

abbrev pub invariant-loop-field : goal.invariant-loop-field
invariant-loop-field l = fold noted_field (noted_by l.self) (drop l.field-index l.fields) ≡ fold noted_field (noted_by l.fn.self) l.fields
