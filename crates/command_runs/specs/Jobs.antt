-- A job that is read and accepted, and why it is not.
use Rattle.std.specs.Prelude.{ℕ, ◌≡◌, ◌⊎◌, Bool, List, Option, None, Some}
use Rattle.std.specs.Option.{ForSome}
use Rattle.sn_width.specs.declared.ids.Site.{Site}
use Rattle.sn_edge.specs.Told.{PatternsKept, PatternsTold}
use Rattle.sn_edge.specs.declared.patterns.Found.{Found}
use Rattle.sefl_syntax.specs.Trees.{JobTree}
use Rattle.sefl_reader.specs.Outcome.{Outcome, a_job, IsOutcome}
use Rattle.job_items.specs.Rules.{refusal}
use Rattle.job_items.specs.declared.rule.Rule.{Rule}
use Rattle.job_names.specs.Names.{names_of}
use Rattle.pattern_answers.specs.Asking.{AsksAll}
use Rattle.pattern_answers.specs.Told.{bad_site, found_by}
use Rattle.net_check.specs.Acceptance.{IsBadPatternAt}
use Rattle.net_check.specs.Network.{Network, Entry}
use Rattle.net_check.specs.Sound.{IsSound, IsNetOf, IsGivenEntry}
use Rattle.command_edge.specs.Files.{Files, HasFile, LoadFails}
use Rattle.command_runs.specs.Flaws.{HasFlaw, flaw_of, Flaw}
use Rattle.command_runs.specs.Refusals.{rule_number}
use Rattle.command_runs.specs.Tables.{FirstUnfilled, IsFilled}
use Rattle.command_edge.specs.declared.limits.TheConstants.{FILE_LIMIT}
use Rattle.command_edge.specs.declared.fault.InputFault.{InputFault}
use Rattle.command_edge.specs.declared.fault.InputFault.TheVariants.{Syntax, BadPattern, Refused, NoMemory}

-- ---- the job's text

-- the bytes are a text of the job
abbrev pub IsTextOf : JobTree → List ℕ → Type 0
IsTextOf j bytes = IsOutcome bytes (a_job j)

-- the bytes are a text of this job and of no other
pub record IsOnlyJob (bytes : List ℕ) (j : JobTree) : Type 0 where
  pub text : IsTextOf j bytes
  pub only : (outcome : Outcome) → IsOutcome bytes outcome → outcome ≡ a_job j

-- the bytes are no job's text, for this flaw and no other
pub record IsOnlyFlaw (bytes : List ℕ) (flaw : Flaw) : Type 0 where
  pub has : HasFlaw bytes flaw
  pub only : (outcome : Outcome) → IsOutcome bytes outcome → flaw_of bytes outcome ≡ Some flaw

-- why the bytes are not read as a job
abbrev pub ReadFails : List ℕ → InputFault → Type 0
ReadFails bytes (Syntax line column kind) = IsOnlyFlaw bytes (record { line = line; column = column; kind = kind })
ReadFails bytes NoMemory = Unit {0}
ReadFails bytes _ = ⊥

module _ (files : Files) where
  -- the file under the name has a text of the job
  abbrev pub HasJob : List ℕ → JobTree → Type 0
  HasJob name j = (bytes : List ℕ) × HasFile files FILE_LIMIT name bytes × IsOnlyJob bytes j

  -- and with code for its tables the job is this
  abbrev pub HasFilled : List ℕ → JobTree → Type 0
  HasFilled name full = (j : JobTree) × HasJob name j × IsFilled files j full

  -- there is no such job: for the file, its text, or the first of its tables that has no node
  abbrev pub JobFails : List ℕ → InputFault → Type 0
  JobFails name fault =
      LoadFails files FILE_LIMIT name fault
      ⊎ (((bytes : List ℕ) × HasFile files FILE_LIMIT name bytes × ReadFails bytes fault)
      ⊎ ((j : JobTree) × HasJob name j × FirstUnfilled files j.net.nodes fault))

-- ---- acceptance

-- the site of the first bad pattern of the job, if there is one and a name to ask for
abbrev pub first_bad : (List ℕ → Bool) → JobTree → Option ℕ
first_bad is_bad j = bad_site is_bad (names_of j).metas (names_of j).patterns

-- the net lists what the patterns of the job find
abbrev pub ListsFound : JobTree → Network → (List ℕ → List ℕ → Bool) → Type 0
ListsFound j net finds = net.found ≡ found_by finds (names_of j)

module _ {S : Type 0} (step : S → List ℕ → List ℕ → Found → S → Type 0) (told : S → PatternsTold) where
  -- The job is accepted as this net and this injection: it breaks no rule; by this step of the patterns, from state to
  -- state, each of its patterns was asked for each name, and the net lists the names that they find.
  pub record IsTaken (u : S) (j : JobTree) (net : Network) (i : Entry) (v : S) : Type 0 where
    pub sound : IsSound j
    pub of_net : IsNetOf j net
    pub of_entry : IsGivenEntry j i
    pub asked : AsksAll step (names_of j).metas u (names_of j).patterns net.found v
    pub kept : PatternsKept (told u) (told v)
    pub found : ForSome (told u).matches (ListsFound j net)
    pub good : ForSome (told u).bad (λ is_bad. first_bad is_bad j ≡ None)

  -- No rule is broken, and the pattern of the For at the site is refused, and no earlier one; where bad patterns are told,
  -- it is the first of them.
  pub record IsBadAt (u : S) (j : JobTree) (site : Site) (v : S) : Type 0 where
    pub asked : IsBadPatternAt step j u site.0 v
    pub first : ForSome (told u).bad (λ is_bad. first_bad is_bad j ≡ Some site.0)

-- the item at the site is the first that breaks a rule, and the first rule that it breaks has this number
abbrev pub IsRefusedAt : JobTree → Site → ℕ → Type 0
IsRefusedAt j site kind = (rule : Rule) × (refusal j ≡ Some (site.0, rule)) × (rule_number rule ≡ Some kind)

-- why a job whose nodes have code is not accepted, by what refuses its patterns
abbrev pub AcceptFails : {S : Type 0} → (S → JobTree → Site → S → Type 0) → S → JobTree → InputFault → S → Type 0
AcceptFails refuses u j (Refused site kind) v = IsRefusedAt j site kind × (v ≡ u)
AcceptFails refuses u j (BadPattern site) v = refuses u j site v
AcceptFails refuses u j NoMemory v = Unit {0}
AcceptFails refuses u j _ v = ⊥
