pub mod Bytes
pub mod Words
pub mod Front
pub mod Reads
pub mod PacketFaults
pub mod Packets
