-- What an exploration finds, as records.
use Rattle.std.specs.Prelude.{List, length, option_map, reverse}
use Rattle.refutation_check.specs.declared.outcome.Verdict.{Verdict}
use Rattle.sefl_meaning.specs.declared.walk.Decision.{Decision}
use Rattle.sefl_meaning.specs.Fields.{fields_of}
use Rattle.exact_records.specs.Records.{RecordTree, path, pruned, unexplored}
use Rattle.exact_records.specs.Points.{filled_verdict}
use Rattle.path_exec.specs.Handing.{Handed}
use Rattle.symbolic_engine.specs.declared.found.Before.{Before}
use Rattle.symbolic_engine.specs.declared.found.Found.{Found}
use Rattle.symbolic_engine.specs.declared.found.Found.TheVariants.{Path, Pruned, Unexplored}

-- the verdict with a value for each symbol
abbrev pub filled_before : Before → Verdict
filled_before before = filled_verdict before.symbols before.verdict.value

-- the record of what was found behind these decisions
abbrev pub found_tree : Found → List Decision → RecordTree
found_tree (Path state how verdict) ds =
    path ds (reverse state.places) how (fields_of state.carried) (filled_verdict (length state.condition.widths) verdict.value)
found_tree (Pruned before refutation) ds = pruned ds (option_map filled_before before) refutation
found_tree Unexplored ds = unexplored ds

-- of what is handed over
abbrev pub handed_tree : Handed Found → RecordTree
handed_tree handed = found_tree handed.found handed.decisions
