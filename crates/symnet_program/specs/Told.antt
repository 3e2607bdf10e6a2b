-- What is said of a run in a world: how it may stop, and which job it read.
use Rattle.std.specs.Prelude.{ℕ, ◌≡◌, ◌≤◌, Bool, List, length, None, Some}
use Rattle.sefl_syntax.specs.Trees.{JobTree}
use Rattle.net_check.specs.Network.{Network, Entry}
use Rattle.net_check.specs.Sound.{IsSound, IsNetOf, IsGivenEntry}
use Rattle.command_runs.specs.Jobs.{IsTextOf, ListsFound}
use Rattle.command_runs.specs.Outside.{World, world}
use Rattle.command_runs.specs.Tables.{IsFilled}
use Rattle.command_edge.specs.declared.limits.TheConstants.{FILE_LIMIT}
use Rattle.command_words.specs.Commands.{Command}
use Rattle.symnet_program.specs.Commands.{ReadsJob}
use Rattle.symnet_program.specs.Program.{IsCaused}
use Rattle.command_runs.specs.declared.status.Status.{Status}
use Rattle.command_runs.specs.declared.status.Status.TheVariants.{NoMemory, ReadFault, WriteFault, BadPattern}

-- the outside failed, or there was no memory; or a pattern was refused, where it is not told which are bad
abbrev pub MayStop : World → Status → Type 0
MayStop w NoMemory = Unit {0}
MayStop w (ReadFault name) = Unit {0}
MayStop w WriteFault = Unit {0}
MayStop w (BadPattern site) = w.is_bad ≡ None
MayStop w _ = ⊥

-- a file was not read, or there was no memory; or a pattern was refused, where it is not told which are bad
abbrev pub MayBeUnread : World → Status → Type 0
MayBeUnread w NoMemory = Unit {0}
MayBeUnread w (ReadFault name) = Unit {0}
MayBeUnread w (BadPattern site) = w.is_bad ≡ None
MayBeUnread w _ = ⊥

-- The file under the name has a text of a job that with code for its tables breaks no rule, these are the net and the injection
-- of that, and it is told what its patterns find: what the net lists.
pub record TellsNet (w : World) (name : List ℕ) (net : Network) (i : Entry) : Type 0 where
  pub bytes : List ℕ
  pub job : JobTree
  pub tree : JobTree
  pub finds : List ℕ → List ℕ → Bool
  pub file : w.at name ≡ Some bytes
  pub short : length bytes ≤ FILE_LIMIT
  pub text : IsTextOf job bytes
  pub filled : IsFilled (Some w.at) job tree
  pub sound : IsSound tree
  pub of_net : IsNetOf tree net
  pub of_entry : IsGivenEntry tree i
  pub told : w.finds ≡ Some finds
  pub lists : ListsFound tree net finds

-- the command, which reads the job under this name first, ended so in the world
abbrev pub Ran : World → Command → List ℕ → Status → Type 0
Ran w command job status = ReadsJob command job × IsCaused (world w) tt tt (Some command) status

-- the file under the name has these bytes, which are no more than the limit
abbrev pub HasFileIn : World → List ℕ → List ℕ → Type 0
HasFileIn w name bytes = (w.at name ≡ Some bytes) × (length bytes ≤ FILE_LIMIT)

-- the file under the name has a text of the job
abbrev pub HasJobIn : World → List ℕ → JobTree → Type 0
HasJobIn w name job = (bytes : List ℕ) × (w.at name ≡ Some bytes) × (length bytes ≤ FILE_LIMIT) × IsTextOf job bytes
