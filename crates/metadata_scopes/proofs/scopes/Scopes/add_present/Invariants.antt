use Rattle.std.proofs.Common.{◌≡◌, ◌++◌, drop}
use Rattle.metadata_scopes.specs.Snapshot.{present_of}
use Rattle.metadata_scopes.proofs.scopes.Scopes.add_present.Given as goal

-- the keys so far, and those of the names that are left, are the keys that were there and those of all names
abbrev pub invariant-loop-name : goal.invariant-loop-name
invariant-loop-name g l = l.keys.items ++ present_of l.owner (drop l.name-index l.names) l.self ≡ l.initial.keys.items ++ present_of l.owner l.names l.self
