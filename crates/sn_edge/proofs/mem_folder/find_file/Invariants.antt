use Rattle.std.proofs.Common.{◌≡◌, map, drop}
use Rattle.sn_edge.specs.MemFolder.{entry_of, file_at}
use Rattle.sn_edge.proofs.mem_folder.find_file.Given as goal

abbrev pub invariant-loop-own_name : goal.invariant-loop-own_name
invariant-loop-own_name l =
    file_at (map entry_of (drop l.own_name-index l.files)) l.name ≡ file_at (map entry_of l.files) l.name
