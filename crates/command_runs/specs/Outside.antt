-- What the outside of a call tells.
use Rattle.std.specs.Prelude.{ℕ, ◌≡◌, Bool, List, Option, Some, None}
use Rattle.std.specs.Option.{ForSome}
use Rattle.sn_width.specs.declared.ids.Site.{Site}
use Rattle.sn_edge.specs.Told.{FolderTold, PatternsTold}
use Rattle.sn_edge.specs.declared.folder.Loaded.{Loaded}
use Rattle.sn_edge.specs.declared.patterns.Found.{Found}
use Rattle.sefl_syntax.specs.Trees.{JobTree}
use Rattle.pattern_answers.specs.Asking.{IsStep}
use Rattle.net_check.specs.Network.{Network, Entry}
use Rattle.net_check.specs.Sound.{IsSound, IsNetOf, IsGivenEntry}
use Rattle.command_edge.specs.Files.{Files, HasFile, IsLoaded, IsNotLoaded, LoadFails}
use Rattle.command_edge.specs.declared.fault.InputFault.{InputFault}
use Rattle.command_runs.specs.Jobs.{HasFilled, IsBadAt, IsTaken, JobFails, ListsFound, first_bad}
use Rattle.command_runs.specs.Loading.{LoadsJob, LoadsNoJob}

-- From state to state: that the file under a name has these bytes, no more than a limit, or is refused; that the file has this
-- job, with code for its tables, or is refused; that a job whose nodes have code is accepted as a net and an injection, or its pattern at a site
-- is refused.
pub record Outside (S : Type 0) : Type 1 where
  pub has_file : S → ℕ → List ℕ → List ℕ → S → Type 0
  pub file_fails : S → ℕ → List ℕ → InputFault → S → Type 0
  pub has_job : S → List ℕ → JobTree → S → Type 0
  pub job_fails : S → List ℕ → InputFault → S → Type 0
  pub takes : S → JobTree → Network → Entry → S → Type 0
  pub refuses : S → JobTree → Site → S → Type 0

-- The outside of a call, from the members of its folder and of its patterns: each load and each question is one of theirs. Its
-- states are theirs.
module _ {F P : Type 0} (told : F → FolderTold) (gives : F → List ℕ → ℕ → Loaded → F → Type 0)
    (patterns : P → PatternsTold) (finds : P → List ℕ → List ℕ → Found → P → Type 0) where
  abbrev pub outside : Outside (F × P)
  outside = record {
    has_file = λ u limit name bytes v. IsLoaded told gives limit name u.0 bytes v.0 × (v.1 ≡ u.1);
    file_fails = λ u limit name fault v. IsNotLoaded told gives limit name u.0 fault v.0 × (v.1 ≡ u.1);
    has_job = λ u name job v. LoadsJob told gives u.0 name job v.0 × (v.1 ≡ u.1);
    job_fails = λ u name fault v. LoadsNoJob told gives u.0 name fault v.0 × (v.1 ≡ u.1);
    takes = λ u job net i v. IsTaken (IsStep patterns finds) patterns u.1 job net i v.1 × (v.0 ≡ u.0);
    refuses = λ u job site v. IsBadAt (IsStep patterns finds) patterns u.1 job site v.1 × (v.0 ≡ u.0);
  }

-- what an outside may tell: its files; which names the patterns find, and which patterns are bad, each where it tells that
pub record World : Type 0 where
  pub at : List ℕ → Option (List ℕ)
  pub finds : Option (List ℕ → List ℕ → Bool)
  pub is_bad : Option (List ℕ → Bool)

-- an outside that tells just this; no question is asked there, so it has no states
abbrev pub world : World → Outside (Unit {0})
world w = record {
  has_file = λ u limit name bytes v. HasFile (Some w.at) limit name bytes;
  file_fails = λ u limit name fault v. LoadFails (Some w.at) limit name fault;
  has_job = λ u name job v. HasFilled (Some w.at) name job;
  job_fails = λ u name fault v. JobFails (Some w.at) name fault;
  takes = λ u j net i v. IsSound j × IsNetOf j net × IsGivenEntry j i × ForSome w.finds (ListsFound j net) × ForSome w.is_bad (λ b. first_bad b j ≡ None);
  refuses = λ u j site v. IsSound j × ForSome w.is_bad (λ b. first_bad b j ≡ Some site.0);
}

-- a folder and patterns that tell this tell this world
pub record Tells (files : Files) (told : PatternsTold) (w : World) : Type 0 where
  pub files_told : files ≡ Some w.at
  pub finds_told : told.matches ≡ w.finds
  pub bad_told : told.bad ≡ w.is_bad
