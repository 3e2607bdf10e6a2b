-- What `grow` comes to, by how its exploration ended.
use Rattle.std.proofs.Common.{◌≡◌, ℕ, List, [], ◌∷◌, map}
use Rattle.sefl_syntax.specs.Trees.{AskTree}
use Rattle.net_check.specs.Network.{Network, Entry}
use Rattle.path_exec.specs.Handing.{Handed}
use Rattle.path_exec.specs.Receiving.{Receiving}
use Rattle.symbolic_engine.specs.declared.found.Found.{Found}
use Rattle.symbolic_engine.specs.Ends.{EndsPartial, EndsWhole}
use Rattle.symbolic_engine.specs.Finds.{handed_tree}
use Rattle.command_runs.specs.Inputs.{a_net}
use Rattle.command_edge.specs.Puts.{text}
use Rattle.command_edge.specs.declared.ending.Ending.{Ending}
use Rattle.command_edge.specs.declared.ending.Ending.TheVariants.{Done, Partial}
use Rattle.grow_command.specs.Counted.{counts_of}
use Rattle.grow_command.specs.Grows.{AreCounts, GrowComes}
use Rattle.grow_command.specs.Summary.{summary_text}
use Rattle.grow_command.specs.declared.counts.Counts.{Counts}
use Rattle.grow_command.specs.declared.grow.TheConstants.{HOPS, LIMIT}

module _ (net : Network) (i : Entry) (counts : Counts) (m : Receiving (Handed Found)) (before after : ℕ)
    (stands : (items : List (Handed Found)) → m.StandsFor items → counts ≡ counts_of (map handed_tree items)) where
  pub counted_whole : EndsWhole handed_tree net i HOPS LIMIT m before after → AreCounts net i Done counts
  counted_whole h = record { records = map handed_tree h.items; exact = h.exact; ends = h.tried; counted = stands h.items h.stands }

  pub counted_partly : EndsPartial handed_tree net i HOPS LIMIT m before after → AreCounts net i Partial counts
  counted_partly h = record { records = map handed_tree h.items; exact = h.exact; ends = h.untried; counted = stands h.items h.stands }

pub summary_comes : (seed boxes : ℕ) (net : Network) (i : Entry) (asks : List AskTree) (ending : Ending) (counts : Counts) (whole : List ℕ)
    → AreCounts net i ending counts → whole ≡ summary_text seed boxes counts → GrowComes seed boxes (a_net net i asks ∷ []) (text ending whole)
summary_comes seed boxes net i asks ending counts whole are is = (counts, are, is)
