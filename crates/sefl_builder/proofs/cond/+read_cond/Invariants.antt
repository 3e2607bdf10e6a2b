use Rattle.std.proofs.Common.{◌≡◌, ◌+◌, ◌-◌, ◌*◌, map}
use Rattle.sefl_syntax.specs.Views.{cond_tree}
use Rattle.sefl_builder.specs.Reading.{many, added}
use Rattle.sefl_builder.specs.Conditions.{goes_and, goes_or, next_neg, next_conj, negs_from, conjs_from}
use Rattle.sefl_builder.proofs.cond.+read_cond.Given as goal

abbrev pub decreases-read_opposite : goal.decreases-read_opposite
decreases-read_opposite l = 8 * l.room

abbrev pub decreases-read_bracket : goal.decreases-read_bracket
decreases-read_bracket l = 8 * l.room

abbrev pub decreases-read_neg : goal.decreases-read_neg
decreases-read_neg l = 8 * l.room + 1

abbrev pub decreases-read_next_neg : goal.decreases-read_next_neg
decreases-read_next_neg l = 8 * l.room + 2

abbrev pub decreases-read_negs_from : goal.decreases-read_negs_from
decreases-read_negs_from l = 8 * l.room + 3

abbrev pub decreases-read_conj : goal.decreases-read_conj
decreases-read_conj l = 8 * l.room + 4

abbrev pub decreases-read_next_conj : goal.decreases-read_next_conj
decreases-read_next_conj l = 8 * l.room + 5

abbrev pub decreases-read_conjs_from : goal.decreases-read_conjs_from
decreases-read_conjs_from l = 8 * l.room + 6

abbrev pub decreases-read_cond : goal.decreases-read_cond
decreases-read_cond l = 8 * l.room + 7

-- what was read, and what is still to be read, are the whole
abbrev pub invariant-read_negs_from-loop : goal.invariant-read_negs_from-loop
invariant-read_negs_from-loop l =
    added (map cond_tree l.found.items) (many goes_and (next_neg l.room) (l.end - l.counter) l.words)
    ≡ negs_from (cond_tree l.fn.first) l.room l.fn.words

abbrev pub invariant-read_conjs_from-loop : goal.invariant-read_conjs_from-loop
invariant-read_conjs_from-loop l =
    added (map cond_tree l.found.items) (many goes_or (next_conj l.room) (l.end - l.counter) l.words)
    ≡ conjs_from (cond_tree l.fn.first) l.room l.fn.words
