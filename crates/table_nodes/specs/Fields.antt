-- Fields of headers, as the cells of a job.
use Rattle.std.specs.Prelude.{ℕ, List, Some, codes, pos}
use Rattle.sefl_syntax.specs.declared.reference.Addr.{Addr}
use Rattle.sefl_syntax.specs.declared.reference.Target.{Target}
use Rattle.sefl_syntax.specs.declared.reference.Target.TheVariants.{Header}
use Rattle.table_nodes.specs.declared.field.Field.{Field}
use Rattle.table_nodes.specs.declared.field.Field.TheVariants.{FrameDestination, FrameSource, FrameType, TimeToLive, Protocol, SourceAddress, DestinationAddress, SourcePort, DestinationPort}

-- this many bits behind the tag
abbrev pub past : List ℕ → ℕ → Addr
past tag offset = record { tag = Some tag; offset = pos offset }

abbrev pub cell : Field → Target
cell FrameDestination = Header (past (codes "L2") 0) 48
cell FrameSource = Header (past (codes "L2") 48) 48
cell FrameType = Header (past (codes "L2") 96) 16
cell TimeToLive = Header (past (codes "L3") 64) 8
cell Protocol = Header (past (codes "L3") 72) 8
cell SourceAddress = Header (past (codes "L3") 96) 32
cell DestinationAddress = Header (past (codes "L3") 128) 32
cell SourcePort = Header (past (codes "L4") 0) 16
cell DestinationPort = Header (past (codes "L4") 16) 16
