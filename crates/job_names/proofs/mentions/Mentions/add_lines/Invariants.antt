use Rattle.std.proofs.Common.{◌≡◌, drop, fold}
use Rattle.job_names.specs.Lent.{noted_by}
use Rattle.job_names.specs.Noted.{noted_line}
use Rattle.job_names.proofs.mentions.Mentions.add_lines.Given as goal

abbrev pub invariant-loop-line : goal.invariant-loop-line
invariant-loop-line l = fold noted_line (noted_by l.self) (drop l.line-index l.lines) ≡ fold noted_line (noted_by l.fn.self) l.lines
