-- What is done of an injection whose bound on choices of cases was set.
use Rattle.std.proofs.Common.{◌≡◌, subst, ℕ, List, [], ◌∷◌, Result, Ok, Err}
use Rattle.sn_edge.specs.Told.{SinkTold}
use Rattle.sn_edge.specs.declared.sink.Put.{Put}
use Rattle.sefl_syntax.specs.Trees.{AskTree}
use Rattle.net_check.specs.Network.{Network, Entry, EntryParts, entry, with_choices}
use Rattle.path_records.specs.declared.sides.RefutedSides.{RefutedSides}
use Rattle.command_edge.specs.declared.ending.Ending.{Ending}
use Rattle.command_edge.specs.declared.ending.Stop.{Stop}
use Rattle.command_edge.specs.declared.ending.Stop.TheVariants.{Input, Own, Write, NoMemory}
use Rattle.command_runs.specs.Inputs.{a_net}
use Rattle.command_runs.specs.Runs.{Performs}
use Rattle.explore_command.specs.Explores.{explore_work}

module _ {K : Type 0} (told : K → SinkTold) (gives : K → List ℕ → Put → K → Type 0) (start now : K) (hops : ℕ) (sides : RefutedSides) (net : Network) (asks : List AskTree) where
  abbrev DoneOf : ℕ → ℕ → Entry → Result Ending Stop → Type 0
  DoneOf most limit i answer = Performs told gives start now (explore_work most hops limit sides) (a_net net i asks ∷ []) answer

  -- the bound of the work stands in place of that of the injection
  same_bound : (most limit : ℕ) (i : Entry) (answer : Result Ending Stop) → DoneOf most limit (with_choices most i) answer → DoneOf most limit i answer
  same_bound most limit i (Ok ending) h = h
  same_bound most limit i (Err (Input fault)) h = h
  same_bound most limit i (Err (Own fault)) h = h
  same_bound most limit i (Err Write) h = h
  same_bound most limit i (Err NoMemory) h = h

  pub bound_set : (before after : EntryParts) (most own limit : ℕ) → after ≡ record before { most_choices = most } → own ≡ limit → (answer : Result Ending Stop)
      → DoneOf after.most_choices own (entry after) answer → DoneOf most limit (entry before) answer
  bound_set before after most own limit set same answer h =
      same_bound most limit (entry before) answer
      (subst (λ l. DoneOf most l (with_choices most (entry before)) answer) same (subst (λ parts. DoneOf parts.most_choices own (entry parts) answer) set h))
