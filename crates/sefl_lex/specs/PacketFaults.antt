-- What a fault of the language's words says of a packet's file.
use Rattle.sefl_lex.specs.declared.fault.LexFault.{LexFault}
use Rattle.sefl_lex.specs.declared.fault.LexFault.TheVariants.{BadCharacter, BadNumber, OpenText, NoMemory}
use Rattle.sefl_lex.specs.declared.packet_fault.PacketFault.{PacketFault}
use Rattle.sefl_lex.specs.declared.packet_fault.PacketFault.TheVariants.{NotNumbers, NoMemory as OutOfMemory}

abbrev pub packet_fault : LexFault → PacketFault
packet_fault (BadCharacter at) = NotNumbers
packet_fault (BadNumber at) = NotNumbers
packet_fault (OpenText at) = NotNumbers
packet_fault NoMemory = OutOfMemory
