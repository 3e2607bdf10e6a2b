-- What `walk` writes of an accepted job and a file with a packet on each line.
use Rattle.std.specs.Prelude.{ℕ, ◌≡◌, ◌==◌, Bool, not, if◌then◌else◌, List, [], ◌∷◌, ◌++◌, codes}
use Rattle.serde_json.specs.Data.{Data, string, object, no_members, member}
use Rattle.serde_json.specs.Written.{compact_text}
use Rattle.run_text.specs.Forms.{count}
use Rattle.net_check.specs.Network.{Network, Entry}
use Rattle.sefl_lex.specs.Packets.{packet_of, with_first}
use Rattle.command_runs.specs.Inputs.{Given, a_net, some_bytes}
use Rattle.command_edge.specs.Puts.{Outcome, text, refused}
use Rattle.command_edge.specs.declared.ending.Ending.TheVariants.{Done}
use Rattle.command_edge.specs.declared.fault.OwnFault.{OwnFault}
use Rattle.command_edge.specs.declared.fault.OwnFault.TheVariants.{BadPacket, TooMany}
use Rattle.walk_command.specs.Walks.{WalksOf}

-- what stands on a line: all but a line feed
abbrev pub is_line_byte : ℕ → Bool
is_line_byte c = not (c == 10)

-- the bytes between line feeds; one at the end begins no further line
abbrev pub lines : List ℕ → List (List ℕ)
lines [] = []
lines (c ∷ rest) = if c == 10 then [] ∷ lines rest else with_first c (lines rest)

-- a number under a name, why there are no walks, and the version
unfoldable pub refusal_data : List ℕ → ℕ → List ℕ → Data
refusal_data name number why =
    object (member name (count number) (member (codes "refused") (string why) (member (codes "symnet") (count 1) no_members)))

unfoldable pub refusal_line : List ℕ → ℕ → List ℕ → List ℕ
refusal_line name number why = compact_text (refusal_data name number why) ++ codes "\n"

-- the line of a packet that is refused
abbrev pub line_of_refusal : OwnFault → List ℕ
line_of_refusal (BadPacket kind) = refusal_line (codes "kind") kind (codes "bad packet")
line_of_refusal (TooMany number) = refusal_line (codes "count") number (codes "too many walks")
line_of_refusal _ = []

-- this is the line of a packet that is refused, and it is so for nothing else
abbrev pub TellsRefusal : OwnFault → List ℕ → Type 0
TellsRefusal (BadPacket kind) line = line ≡ line_of_refusal (BadPacket kind)
TellsRefusal (TooMany number) line = line ≡ line_of_refusal (TooMany number)
TellsRefusal _ line = ⊥

-- the line that an outcome of `walk` has
abbrev pub line_of : Outcome → List ℕ
line_of (text ending whole) = whole
line_of (refused fault) = line_of_refusal fault

module _ (hops limit : ℕ) (net : Network) (i : Entry) where
  -- what `walk` comes to of the packet on a line, as a line
  pub record IsLineOf (packet line : List ℕ) : Type 0 where
    pub outcome : Outcome
    pub comes : WalksOf hops limit net i (packet_of packet) outcome
    pub is : line ≡ line_of outcome

  -- one for each packet, in order
  abbrev pub AreLinesOf : List (List ℕ) → List ℕ → Type 0
  AreLinesOf [] whole = whole ≡ []
  AreLinesOf (packet ∷ packets) whole =
      (line rest : List ℕ) × IsLineOf packet line × AreLinesOf packets rest × (whole ≡ line ++ rest)

  abbrev pub LinesOf : List ℕ → Outcome → Type 0
  LinesOf bytes (text ending whole) = (ending ≡ Done) × AreLinesOf (lines bytes) whole
  LinesOf bytes (refused fault) = ⊥

-- `walk` of a job and a file of packets
abbrev pub LinesCome : ℕ → ℕ → List Given → Outcome → Type 0
LinesCome hops limit (a_net net i asks ∷ some_bytes bytes ∷ []) outcome = LinesOf hops limit net i bytes outcome
LinesCome hops limit _ outcome = ⊥
