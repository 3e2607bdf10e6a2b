use Rattle.std.proofs.Common.{◌≡◌, ◌+◌, ◌-◌, ◌*◌}
use Rattle.sefl_builder.specs.Reading.{many, added}
use Rattle.sefl_builder.specs.Terms.{goes_sum, member_trees, summand, summands}
use Rattle.sefl_builder.proofs.expr.+read_expr.Given as goal

abbrev pub decreases-read_expr : goal.decreases-read_expr
decreases-read_expr l = 5 * l.room + 4

abbrev pub decreases-read_group : goal.decreases-read_group
decreases-read_group l = 5 * l.room

abbrev pub decreases-read_operand : goal.decreases-read_operand
decreases-read_operand l = 5 * l.room + 1

abbrev pub decreases-read_summand : goal.decreases-read_summand
decreases-read_summand l = 5 * l.room + 2

abbrev pub decreases-read_summands : goal.decreases-read_summands
decreases-read_summands l = 5 * l.room + 3

-- what was read, and what is still to be read, are the whole
abbrev pub invariant-read_summands-loop : goal.invariant-read_summands-loop
invariant-read_summands-loop l =
    added (member_trees l.found.items) (many goes_sum (summand l.room) (l.end - l.counter) l.words)
    ≡ summands l.room l.fn.words
