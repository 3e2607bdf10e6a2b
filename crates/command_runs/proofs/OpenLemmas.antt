-- The file of a job that is opened, as an input.
use Rattle.std.proofs.Common.{◌≡◌, inl, inr, refl, ap, ℕ, List, [], ◌∷◌, map, Result, Ok, Err, IfOk, IfErr}
use Rattle.sn_width.specs.declared.ids.Site.{Site}
use Rattle.sn_edge.specs.Told.{FolderTold, PatternsTold}
use Rattle.sn_edge.specs.declared.folder.Loaded.{Loaded}
use Rattle.sn_edge.specs.declared.patterns.Found.{Found}
use Rattle.sefl_syntax.specs.Trees.{AskTree, JobTree}
use Rattle.sefl_syntax.specs.Views.{ask_tree}
use Rattle.pattern_answers.specs.Asking.{IsStep}
use Rattle.net_check.specs.Network.{Network, Entry, entry, network}
use Rattle.net_check.specs.declared.acceptance.Accepted.{Accepted}
use Rattle.command_edge.specs.declared.fault.InputFault.{InputFault}
use Rattle.command_edge.specs.declared.fault.InputFault.TheVariants.{BadPattern, Refused, NoMemory}
use Rattle.command_runs.specs.Inputs.{AllOpen, FirstFails, a_job, a_made_job, a_net, given_of}
use Rattle.command_runs.specs.Jobs.{AcceptFails, IsBadAt, IsTaken}
use Rattle.command_runs.specs.Loading.{LoadsJob, LoadsNoJob}
use Rattle.command_runs.specs.Outside.{Outside, outside}

module _ {F P : Type 0} (told : F → FolderTold) (gives : F → List ℕ → ℕ → Loaded → F → Type 0)
    (patterns : P → PatternsTold) (finds : P → List ℕ → List ℕ → Found → P → Type 0) where
  abbrev here : Outside (F × P)
  here = outside told gives patterns finds

  abbrev Takes : P → JobTree → Network → Entry → P → Type 0
  Takes = IsTaken (IsStep patterns finds) patterns

  abbrev Refuses : P → JobTree → Site → P → Type 0
  Refuses = IsBadAt (IsStep patterns finds) patterns

  pub job_opens : (f g : F) (p q : P) (name : List ℕ) (job : JobTree) (net : Network) (i : Entry) (asks : List AskTree) → LoadsJob told gives f name job g
      → Takes p job net i q → asks ≡ job.asks → AllOpen here (f, p) (a_job name ∷ []) (a_net net i asks ∷ []) (g, q)
  job_opens f g p q name job net i asks loads taken same =
      (a_net net i asks, (g, q), (job, (g, p), (loads, refl), net, i, (taken, refl), ap (a_net net i) same), [], (refl, refl), refl)

  pub job_unread : (f g : F) (p : P) (name : List ℕ) (fault : InputFault) → LoadsNoJob told gives f name fault g
      → FirstFails here (f, p) (a_job name ∷ []) fault (g, p)
  job_unread f g p name fault fails = inl (inl (fails, refl))

  not_accepted : (g : F) (p q : P) (job : JobTree) (fault : InputFault) → AcceptFails Refuses p job fault q → AcceptFails here.refuses (g, p) job fault (g, q)
  not_accepted g p q job (Refused site kind) (refused, same) = (refused, ap (λ (s : P). (g, s)) same)
  not_accepted g p q job (BadPattern site) h = (h, refl)
  not_accepted g p q job NoMemory h = tt
  not_accepted g p q job fault h = absurd h

  pub job_refused : (f g : F) (p q : P) (name : List ℕ) (job : JobTree) (fault : InputFault) → LoadsJob told gives f name job g → AcceptFails Refuses p job fault q
      → FirstFails here (f, p) (a_job name ∷ []) fault (g, q)
  job_refused f g p q name job fault loads fails = inl (inr (job, (g, p), (loads, refl), not_accepted g p q job fault fails))

  -- and of a job that was made
  pub made_opens : (f : F) (p q : P) (job : JobTree) (net : Network) (i : Entry) (asks : List AskTree) → Takes p job net i q → asks ≡ job.asks
      → AllOpen here (f, p) (a_made_job job ∷ []) (a_net net i asks ∷ []) (f, q)
  made_opens f p q job net i asks taken same = (a_net net i asks, (f, q), (net, i, (taken, refl), ap (a_net net i) same), [], (refl, refl), refl)

  pub made_refused : (f : F) (p q : P) (job : JobTree) (fault : InputFault) → AcceptFails Refuses p job fault q
      → FirstFails here (f, p) (a_made_job job ∷ []) fault (f, q)
  made_refused f p q job fault fails = inl (not_accepted f p q job fault fails)

  -- the answer of acceptance, as that of the input
  module _ (f g : F) (p q : P) (job : JobTree) (answer : Result Accepted InputFault) where
    pub opened_by : (name : List ℕ) → LoadsJob told gives f name job g → IfOk answer (λ a. Takes p job (network a.net) (entry a.injection) q)
        → IfOk answer (λ a. map ask_tree a.asks.items ≡ job.asks) → IfOk answer (λ a. AllOpen here (f, p) (a_job name ∷ []) (given_of a ∷ []) (g, q))
    opened_by name loads taken asks = by answer taken asks
      where
        by : (r : Result Accepted InputFault) → IfOk r (λ a. Takes p job (network a.net) (entry a.injection) q) → IfOk r (λ a. map ask_tree a.asks.items ≡ job.asks)
            → IfOk r (λ a. AllOpen here (f, p) (a_job name ∷ []) (given_of a ∷ []) (g, q))
        by (Ok a) taken asks = job_opens f g p q name job (network a.net) (entry a.injection) (map ask_tree a.asks.items) loads taken asks
        by (Err fault) taken asks = tt

    pub refused_by : (name : List ℕ) → LoadsJob told gives f name job g → IfErr answer (λ fault. AcceptFails Refuses p job fault q)
        → IfErr answer (λ fault. FirstFails here (f, p) (a_job name ∷ []) fault (g, q))
    refused_by name loads fails = by answer fails
      where
        by : (r : Result Accepted InputFault) → IfErr r (λ fault. AcceptFails Refuses p job fault q) → IfErr r (λ fault. FirstFails here (f, p) (a_job name ∷ []) fault (g, q))
        by (Ok a) fails = tt
        by (Err fault) fails = job_refused f g p q name job fault loads fails

  -- the same of a job that was made
  module _ (f : F) (p q : P) (job : JobTree) where
    pub made_by : (answer : Result Accepted InputFault) → IfOk answer (λ a. Takes p job (network a.net) (entry a.injection) q)
        → IfOk answer (λ a. map ask_tree a.asks.items ≡ job.asks) → IfOk answer (λ a. AllOpen here (f, p) (a_made_job job ∷ []) (given_of a ∷ []) (f, q))
    made_by (Ok a) taken asks = made_opens f p q job (network a.net) (entry a.injection) (map ask_tree a.asks.items) taken asks
    made_by (Err fault) taken asks = tt

    pub unmade_by : (answer : Result Accepted InputFault) → IfErr answer (λ fault. AcceptFails Refuses p job fault q)
        → IfErr answer (λ fault. FirstFails here (f, p) (a_made_job job ∷ []) fault (f, q))
    unmade_by (Ok a) fails = tt
    unmade_by (Err fault) fails = made_refused f p q job fault fails
