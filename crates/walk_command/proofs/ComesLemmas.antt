-- What `walk` comes to, by the numbers of the packet's file.
use Rattle.std.proofs.Common.{◌≡◌, refl, sym, subst, ℕ, List, [], ◌∷◌, Some}
use Rattle.sefl_syntax.specs.Trees.{AskTree}
use Rattle.net_check.specs.Network.{Network, Entry}
use Rattle.sefl_lex.specs.Packets.{packet_of}
use Rattle.command_runs.specs.Inputs.{a_net, some_bytes}
use Rattle.command_edge.specs.Puts.{text}
use Rattle.command_runs.specs.Runs.{IsRefusal}
use Rattle.command_edge.specs.declared.ending.Ending.TheVariants.{Done}
use Rattle.command_edge.specs.declared.fault.OwnFault.{OwnFault}
use Rattle.command_edge.specs.declared.fault.OwnFault.TheVariants.{BadPacket, TooMany, NoMemory}
use Rattle.walk_command.specs.Walks.{HasTooMany, IsBadPacket, IsNoPacket, IsWalkRefusal, IsWalksText, OfPacket, WalkComes}

module _ (hops limit : ℕ) (net : Network) (i : Entry) (asks : List AskTree) (bytes : List ℕ) where
  -- the bytes are no numbers
  pub no_packet : (fault : OwnFault) → IsNoPacket bytes fault → IsRefusal (WalkComes hops limit (a_net net i asks ∷ some_bytes bytes ∷ [])) fault
  no_packet (BadPacket kind) h = subst (λ o. IsBadPacket hops limit net i o kind) (sym h.1) h.0
  no_packet NoMemory h = tt
  no_packet fault h = absurd h

  module _ (v : List ℕ) (are : packet_of bytes ≡ Some v) where
    -- their packet has no text
    pub no_walks : (fault : OwnFault) → IsWalkRefusal hops limit net i v fault → IsRefusal (WalkComes hops limit (a_net net i asks ∷ some_bytes bytes ∷ [])) fault
    no_walks (BadPacket kind) h = subst (λ o. IsBadPacket hops limit net i o kind) (sym are) h
    no_walks (TooMany count) h = (h.0, subst (λ o. OfPacket o (HasTooMany hops limit net i)) (sym are) h.1)
    no_walks NoMemory h = tt
    no_walks fault h = absurd h

    -- or this one
    pub walks_come : (whole : List ℕ) → IsWalksText hops limit net i v whole → WalkComes hops limit (a_net net i asks ∷ some_bytes bytes ∷ []) (text Done whole)
    walks_come whole h = (refl, subst (λ o. OfPacket o (λ n. IsWalksText hops limit net i n whole)) (sym are) h)
