-- A packet on its way, and the run that it makes of a port's code.
use Rattle.std.specs.Prelude.{◌≡◌, ℕ, List}
use Rattle.sefl_meaning.specs.Runs.{Progress, Ran}
use Rattle.sefl_meaning.specs.View.{carried_of}
use Rattle.code_frames.specs.declared.frame.Exit.{Exit}
use Rattle.code_frames.specs.Frames.{exit_of, progress_at}
use Rattle.packet_run.specs.declared.packet.Packet.{Packet}

-- the numbers of a packet, and how many of them are those of its unknown fields
abbrev pub Given : Type 0
Given = List ℕ × ℕ

abbrev pub given_of : Packet → Given
given_of packet = (packet.numbers.numbers.now, packet.numbers.unknowns)

-- what it carries and its choices. How many instructions have begun is not kept: no walk shows it
abbrev pub progress_of : Packet → Progress ℕ
progress_of packet = progress_at (carried_of packet.state) packet.choices.items 0

-- the packet has made this run, with some number of instructions
abbrev pub RunsAs : Packet → Exit → Ran → Type 0
RunsAs packet exit whole =
    (begun : ℕ) × (record { decisions = packet.decisions.items; progress = progress_at (carried_of packet.state) packet.choices.items begun; exit = exit_of exit } ≡ whole)
