use Rattle.std.proofs.Common.{◌≡◌, length}
use Rattle.sefl_lex.specs.Packets.{packet_of}
use Rattle.sefl_lex.proofs.PacketSpelling.{found_before}
use Rattle.sefl_lex.proofs.packet.read_packet.Given as goal

abbrev pub invariant-loop-word : goal.invariant-loop-word
invariant-loop-word l = packet_of l.bytes ≡ found_before l.values.items (packet_of l.rest)

abbrev pub decreases-loop-word : goal.decreases-loop-word
decreases-loop-word l = length l.rest
