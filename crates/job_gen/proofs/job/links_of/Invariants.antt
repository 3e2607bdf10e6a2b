use Rattle.std.proofs.Common.{◌≡◌}
use Rattle.std.specs.List.{flat_map}
use Rattle.job_gen.specs.Grown.{links_of, numbers_from}
use Rattle.job_gen.proofs.job.links_of.Given as goal

-- the links of the boxes so far
abbrev pub invariant-loop-number : goal.invariant-loop-number
invariant-loop-number l = l.links.items ≡ flat_map (links_of l.fn.boxes) (numbers_from 0 l.number)
