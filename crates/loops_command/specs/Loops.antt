-- What `loops` writes of an accepted job.
use Rattle.std.specs.Prelude.{ℕ, ◌≡◌, List, [], ◌∷◌}
use Rattle.net_check.specs.Network.{Network, Entry, with_choices}
use Rattle.exact_records.specs.Packets.{AreExactFor}
use Rattle.exact_records.specs.Records.{RecordTree}
use Rattle.loop_meaning.specs.declared.answer.LoopAnswer.{LoopAnswer}
use Rattle.loop_check.specs.Finding.{AreRight}
use Rattle.command_runs.specs.Inputs.{Given, a_net}
use Rattle.command_edge.specs.Puts.{Outcome, text, refused}
use Rattle.command_edge.specs.declared.ending.Ending.{Ending}
use Rattle.explore_command.specs.Explores.{IsEnding}
use Rattle.loops_command.specs.declared.text.OpenPaths.{OpenPaths}
use Rattle.loops_command.specs.Texts.{loops_text}

module _ (hops limit : ℕ) (net : Network) (i : Entry) where
  -- The records of one exploration are exact and end so. These are their paths that are cut, each by its number, with an answer that is
  -- right.
  pub record AreLoops (ending : Ending) (found : List (ℕ × LoopAnswer)) : Type 0 where
    pub records : List RecordTree
    pub exact : AreExactFor net i hops limit records
    pub ends : IsEnding ending records
    pub right : AreRight net i hops 0 records found

  -- and this is the text of them
  pub record IsLoopsText (detail : OpenPaths) (ending : Ending) (whole : List ℕ) : Type 0 where
    pub found : List (ℕ × LoopAnswer)
    pub are : AreLoops ending found
    pub line : whole ≡ loops_text detail found

  abbrev pub LoopsOf : OpenPaths → Outcome → Type 0
  LoopsOf detail (text ending whole) = IsLoopsText detail ending whole
  LoopsOf detail (refused fault) = ⊥

-- `loops` of a job, with this bound on choices of cases
abbrev pub LoopsComes : ℕ → ℕ → ℕ → OpenPaths → List Given → Outcome → Type 0
LoopsComes most hops limit detail (a_net net i asks ∷ []) outcome = LoopsOf hops limit net (with_choices most i) detail outcome
LoopsComes most hops limit detail _ outcome = ⊥
