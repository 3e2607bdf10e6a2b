-- What the records of the program are seen as.
use Rattle.std.specs.Prelude.{List, map}
use Rattle.path_records.specs.Shown.{fields_seen}
use Rattle.path_records.specs.declared.records.Record.{Record}
use Rattle.path_records.specs.declared.records.Record.TheVariants.{Path, Pruned, Unexplored}
use Rattle.exact_records.specs.Records.{RecordTree, path, pruned, unexplored}

abbrev pub record_tree : Record → RecordTree
record_tree (Path decisions places end' fields verdict) = path decisions.items places.items end' (fields_seen fields) verdict
record_tree (Pruned decisions before refutation) = pruned decisions.items before refutation
record_tree (Unexplored decisions) = unexplored decisions.items

abbrev pub record_trees : List Record → List RecordTree
record_trees records = map record_tree records
