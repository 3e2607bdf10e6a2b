-- What a call answers, and what it leaves in the rooms for the output and for the message.
use Rattle.std.specs.Prelude.{ℕ, ◌≡◌, ◌⊎◌, ◌<◌, List, ◌++◌, length, take, drop, Some, None}
use Rattle.sn_edge.specs.MemFolder.{file_at}
use Rattle.sn_edge.specs.Told.{PatternsTold}
use Rattle.sn_edge.specs.declared.patterns.Found.{Found}
use Rattle.regex_patterns.specs.Found.{IsFoundByRegex, finds_match, refusals_after}
use Rattle.command_runs.specs.Inputs.{FirstFails, IsSettled}
use Rattle.command_runs.specs.Outside.{Outside, World, outside, world}
use Rattle.command_runs.specs.Status.{input_status, number_of}
use Rattle.command_runs.specs.declared.status.Status.{Status}
use Rattle.command_runs.specs.declared.status.Status.TheVariants.{NoFile, ReadFault, WriteFault, TooBig, BadPattern}
use Rattle.command_edge.specs.declared.fault.InputFault.{InputFault}
use Rattle.command_words.specs.Commands.{Command, read_command}
use Rattle.symnet_program.specs.Commands.{inputs, work}
use Rattle.symnet_program.specs.Program.{Cause, IsAnswered, IsCaused, RefusesInput}
use Rattle.symnet_program.specs.Run.{IsRun}
use Rattle.symnet_program.specs.Told.{MayBeUnread}
use Rattle.caller_edge.specs.Lists.{HasFiles, HasTexts}
use Rattle.caller_edge.specs.Outside.{GivenState, IsGivenLoad, files_told}

-- what patterns by `regex` tell and answer, by how many of them were refused
abbrev pub regex_told : ℕ → PatternsTold
regex_told refusals = record { matches = Some finds_match; bad = None; refusals = refusals }

abbrev pub regex_gives : ℕ → List ℕ → List ℕ → Found → ℕ → Type 0
regex_gives old pattern name answer new = IsFoundByRegex pattern name answer × (new ≡ refusals_after old answer)

-- nothing failed outside, and a pattern is blamed only where one was refused
abbrev pub IsShown : ℕ → ℕ → Status → Type 0
IsShown before after (ReadFault name) = ⊥
IsShown before after WriteFault = ⊥
IsShown before after (BadPattern site) = before < after
IsShown before after _ = Unit {0}

-- a file that is absent or too large, or an input that is refused, is to blame
abbrev pub BlamesInput : Status → Type 0
BlamesInput (NoFile name) = Unit {0}
BlamesInput (TooBig name) = Unit {0}
BlamesInput status = RefusesInput status

-- the outside of a call: files in memory, and patterns by `regex`; its states are the files with their counts, and how many patterns were refused
abbrev pub around : Outside (GivenState × ℕ)
around = outside files_told IsGivenLoad regex_told regex_gives

-- the same as a world, of these files
abbrev pub listed_world : List (List ℕ × List ℕ) → World
listed_world entries = record { at = file_at entries; finds = Some finds_match; is_bad = None }

-- The program ran on these words over these files, after this many patterns had been refused: why it ended with this status, and wrote this.
pub record RanAfter (files : GivenState) (before : ℕ) (words : List (List ℕ)) (status : Status) (written : List ℕ) : Type 0 where
  -- the files then, and how many patterns were refused
  pub left : GivenState
  pub refusals : ℕ
  pub run : IsRun around (files, before) (left, refusals) (read_command words) status written
  pub shown : IsShown before refusals status
  pub told : IsCaused (world (listed_world files.entries)) tt tt (read_command words) status
  pub exact : (command : Command) (fault : InputFault) → read_command words ≡ Some command
      → FirstFails (world (listed_world files.entries)) tt (inputs command) fault tt → IsSettled (listed_world files.entries) fault
      → (status ≡ input_status fault) ⊎ MayBeUnread (listed_world files.entries) status
  -- where no input is to blame, the command ran to its end, except for want of memory
  pub complete : (command : Command) → read_command words ≡ Some command
      → ((blamed : Status) → BlamesInput blamed → Cause around (files, before) (left, refusals) (inputs command) (work command) blamed → ⊥)
      → IsAnswered status

-- these files, before any is asked for
abbrev pub unasked : List (List ℕ × List ℕ) → GivenState
unasked entries = record { entries = entries; misses = 0; excesses = 0 }

abbrev pub Ran : List (List ℕ) → List (List ℕ × List ℕ) → Status → List ℕ → Type 0
Ran words entries status written = RanAfter (unasked entries) 0 words status written

-- As many bytes as are wanted were put into the room: the first of them begin it, and behind them it is as it was.
pub record IsPut (bytes : List ℕ) (wanted : ℕ) (before after : List ℕ) : Type 0 where
  pub is_wanted : wanted ≡ length bytes
  pub is_put : after ≡ take (length before) bytes ++ drop (length bytes) before

-- some bytes were
abbrev pub HasPut : ℕ → List ℕ → List ℕ → Type 0
HasPut wanted before after = (bytes : List ℕ) × IsPut bytes wanted before after

-- The program ran on these words over these files and ended with the status of this number, and what it wrote was put into the room.
pub record IsAnswer (words : List (List ℕ)) (entries : List (List ℕ × List ℕ)) (number wanted : ℕ) (before after : List ℕ) : Type 0 where
  pub status : Status
  pub written : List ℕ
  pub ran : Ran words entries status written
  pub is_number : number ≡ number_of status
  pub put : IsPut written wanted before after

-- the words and the files were read as lists, and the program ran on them
pub record Answers (words listed : List ℕ) (number wanted : ℕ) (before after : List ℕ) : Type 0 where
  pub texts : List (List ℕ)
  pub entries : List (List ℕ × List ℕ)
  pub of_words : HasTexts words texts
  pub of_files : HasFiles listed entries
  pub answer : IsAnswer texts entries number wanted before after

-- no words and files are what these bytes have
abbrev pub AreNoLists : List ℕ → List ℕ → Type 0
AreNoLists words listed = (texts : List (List ℕ)) (entries : List (List ℕ × List ℕ)) → HasTexts words texts → HasFiles listed entries → ⊥

-- they are no lists, or there was no memory to read them; and nothing was put into the room
pub record IsUnread (number wanted : ℕ) (before after : List ℕ) : Type 0 where
  pub is_number : (number ≡ 256) ⊎ (number ≡ 1)
  pub is_wanted : wanted ≡ 0
  pub is_put : after ≡ before
