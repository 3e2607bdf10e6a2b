-- What `walk` writes of an accepted job and the bytes of a packet.
use Rattle.std.specs.Prelude.{ℕ, ◌≡◌, ◌≤◌, ◌<◌, ◌+◌, List, [], ◌∷◌, length, Option, None, Some}
use Rattle.net_check.specs.Network.{Network, Entry}
use Rattle.sefl_lex.specs.Packets.{packet_of}
use Rattle.concrete_run.specs.Answers.{Walked}
use Rattle.concrete_run.specs.Starting.{IsStartFault}
use Rattle.concrete_run.specs.declared.injecting.StartFault.{StartFault}
use Rattle.concrete_run.specs.declared.injecting.StartFault.TheVariants.{Short, ValueTooWide, WhereFalse, NoMemory as NoStart}
use Rattle.concrete_run.specs.declared.walks.WalkFault.{WalkFault}
use Rattle.concrete_run.specs.declared.walks.WalkFault.TheVariants.{Start, TooMany as More, NoMemory as NoWalks}
use Rattle.walk_command.specs.WalkTexts.{walks_text}
use Rattle.command_runs.specs.Inputs.{Given, a_net, some_bytes}
use Rattle.command_edge.specs.Puts.{Outcome, text, refused}
use Rattle.command_edge.specs.declared.ending.Ending.TheVariants.{Done}
use Rattle.command_edge.specs.declared.fault.OwnFault.{OwnFault}
use Rattle.command_edge.specs.declared.fault.OwnFault.TheVariants.{BadPacket, TooMany, NoMemory}

-- too few numbers, one that is too wide, a test that is not true
abbrev pub start_kind : StartFault → Option ℕ
start_kind (Short needed) = Some 1
start_kind (ValueTooWide field) = Some 2
start_kind (WhereFalse index) = Some 3
start_kind NoStart = None

-- a fact of the numbers of a packet's file, if there are such
abbrev pub OfPacket : Option (List ℕ) → (List ℕ → Type 0) → Type 0
OfPacket None Fact = ⊥
OfPacket (Some v) Fact = Fact v

module _ (hops limit : ℕ) (net : Network) (i : Entry) where
  -- the packet with these numbers does not start, for a cause of this kind
  abbrev pub IsNoStart : List ℕ → ℕ → Type 0
  IsNoStart v kind = (fault : StartFault) × IsStartFault net i v fault × (start_kind fault ≡ Some kind)

  -- it starts, and this is the text of all its walks, which are within the limit
  abbrev pub IsWalksText : List ℕ → List ℕ → Type 0
  IsWalksText v whole = Walked net i v hops (λ walks. (length walks ≤ limit) × (whole ≡ walks_text net walks))

  -- it starts, and has more walks than the limit
  abbrev pub HasTooMany : List ℕ → Type 0
  HasTooMany v = Walked net i v hops (λ walks. limit < length walks)

  -- the file has no numbers, or its packet does not start
  abbrev pub IsBadPacket : Option (List ℕ) → ℕ → Type 0
  IsBadPacket None kind = kind ≡ 4
  IsBadPacket (Some v) kind = IsNoStart v kind

  -- the text of all walks of the packet with the numbers, if there are such, or why there is none
  abbrev pub WalksOf : Option (List ℕ) → Outcome → Type 0
  WalksOf numbers (text ending whole) = (ending ≡ Done) × OfPacket numbers (λ v. IsWalksText v whole)
  WalksOf numbers (refused (BadPacket kind)) = IsBadPacket numbers kind
  WalksOf numbers (refused (TooMany count)) = (count ≡ limit + 1) × OfPacket numbers HasTooMany
  WalksOf numbers _ = ⊥

  -- why the packet with these numbers has no text
  abbrev pub IsWalkRefusal : List ℕ → OwnFault → Type 0
  IsWalkRefusal v (BadPacket kind) = IsNoStart v kind
  IsWalkRefusal v (TooMany count) = (count ≡ limit + 1) × HasTooMany v
  IsWalkRefusal v NoMemory = Unit {0}
  IsWalkRefusal v _ = ⊥

-- `walk` of a job and a packet's file
abbrev pub WalkComes : ℕ → ℕ → List Given → Outcome → Type 0
WalkComes hops limit (a_net net i asks ∷ some_bytes bytes ∷ []) outcome = WalksOf hops limit net i (packet_of bytes) outcome
WalkComes hops limit _ outcome = ⊥

-- why the bytes of a packet's file are no numbers
abbrev pub IsNoPacket : List ℕ → OwnFault → Type 0
IsNoPacket bytes (BadPacket kind) = (kind ≡ 4) × (packet_of bytes ≡ None)
IsNoPacket bytes NoMemory = Unit {0}
IsNoPacket bytes _ = ⊥

-- the refusal that tells why a packet does not start
abbrev pub fault_of_start : StartFault → OwnFault
fault_of_start (Short needed) = BadPacket 1
fault_of_start (ValueTooWide field) = BadPacket 2
fault_of_start (WhereFalse index) = BadPacket 3
fault_of_start NoStart = NoMemory

-- and why there are no walks
abbrev pub fault_of_walk : WalkFault → OwnFault
fault_of_walk (Start fault) = fault_of_start fault
fault_of_walk (More count) = TooMany count
fault_of_walk NoWalks = NoMemory
