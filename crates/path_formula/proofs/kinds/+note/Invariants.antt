use Rattle.std.proofs.Common.{◌≡◌, drop}
use Rattle.path_formula.specs.Kinds.{atoms_among}
use Rattle.path_formula.specs.Summaries.{noted}
use Rattle.path_formula.specs.View.{views}
use Rattle.path_formula.proofs.kinds.+note.Given as goal

-- the summary so far and the atoms that are left
abbrev pub invariant-note_all-loop-part : goal.invariant-note_all-loop-part
invariant-note_all-loop-part l = noted l.initial.summary (atoms_among (views l.part-items)) ≡ noted l.summary (atoms_among (views (drop l.part-index l.part-items)))
