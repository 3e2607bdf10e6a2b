-- What a command reads before its own work: jobs and files, in order, up to the first that is refused.
use Rattle.std.specs.Prelude.{ℕ, ◌≡◌, ◌⊎◌, List, [], ◌∷◌, map, Some, Bool}
use Rattle.sefl_syntax.specs.Trees.{AskTree, JobTree}
use Rattle.sefl_syntax.specs.Views.{ask_tree}
use Rattle.net_check.specs.Network.{Network, Entry, network, entry}
use Rattle.net_check.specs.declared.acceptance.Accepted.{Accepted}
use Rattle.command_runs.specs.Jobs.{AcceptFails}
use Rattle.command_runs.specs.Outside.{Outside, World}
use Rattle.command_edge.specs.declared.fault.InputFault.{InputFault}
use Rattle.command_edge.specs.declared.fault.InputFault.TheVariants.{ReadFault, BadPattern, NoMemory}

-- an input: the file of a job; a job that the command makes itself; or a file, with the most bytes that it may have
pub data Input : Type 0 where
  a_job : List ℕ → Input
  a_made_job : JobTree → Input
  a_file : ℕ → List ℕ → Input

-- what it gives: the net, the injection and the questions of an accepted job; or bytes
pub data Given : Type 0 where
  a_net : Network → Entry → List AskTree → Given
  some_bytes : List ℕ → Given

-- what an accepted job gives
abbrev pub given_of : Accepted → Given
given_of a = a_net (network a.net) (entry a.injection) (map ask_tree a.asks.items)

module _ {S : Type 0} (o : Outside S) where
  -- the input gives this, the outside going from state to state
  abbrev pub Opens : S → Input → Given → S → Type 0
  Opens u (a_file limit name) given v = (bytes : List ℕ) × o.has_file u limit name bytes v × (given ≡ some_bytes bytes)
  Opens u (a_job name) given v =
      (j : JobTree) × (m : S) × o.has_job u name j m × (net : Network) × (i : Entry) × o.takes m j net i v × (given ≡ a_net net i j.asks)
  Opens u (a_made_job j) given v = (net : Network) × (i : Entry) × o.takes u j net i v × (given ≡ a_net net i j.asks)

  -- or it is refused: for its file, its text, its tables, or acceptance
  abbrev pub Fails : S → Input → InputFault → S → Type 0
  Fails u (a_file limit name) fault v = o.file_fails u limit name fault v
  Fails u (a_job name) fault v =
      o.job_fails u name fault v ⊎ ((j : JobTree) × (m : S) × o.has_job u name j m × AcceptFails o.refuses m j fault v)
  Fails u (a_made_job j) fault v = AcceptFails o.refuses u j fault v

  -- all inputs are good, in order, and give these
  abbrev pub AllOpen : S → List Input → List Given → S → Type 0
  AllOpen u [] given v = (given ≡ []) × (v ≡ u)
  AllOpen u (i ∷ is) given v =
      (g : Given) × (m : S) × Opens u i g m × (rest : List Given) × AllOpen m is rest v × (given ≡ g ∷ rest)

  -- the first input that is refused, is refused so
  abbrev pub FirstFails : S → List Input → InputFault → S → Type 0
  FirstFails u [] fault v = ⊥
  FirstFails u (i ∷ is) fault v = Fails u i fault v ⊎ ((g : Given) × (m : S) × Opens u i g m × FirstFails m is fault v)

-- a refusal that a world decides
abbrev pub IsSettled : World → InputFault → Type 0
IsSettled w (ReadFault name) = ⊥
IsSettled w NoMemory = ⊥
IsSettled w (BadPattern site) = (is_bad : List ℕ → Bool) × (w.is_bad ≡ Some is_bad)
IsSettled w _ = Unit {0}
