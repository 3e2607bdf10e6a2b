-- What a run of a call is where its outside tells a world.
use Rattle.std.proofs.Common.{◌≡◌, inl, inr, ◌∙◌, sym, subst, refl, List, [], ◌∷◌, ℕ, Some, None}
use Rattle.sn_edge.specs.Told.{FolderTold, PatternsTold}
use Rattle.sn_edge.specs.declared.folder.Loaded.{Loaded}
use Rattle.sn_edge.specs.declared.patterns.Found.{Found}
use Rattle.std.specs.Option.{ForSome}
use Rattle.sefl_syntax.specs.Trees.{JobTree}
use Rattle.net_check.specs.Network.{Network, Entry}
use Rattle.command_edge.specs.Files.{LoadFails}
use Rattle.command_runs.specs.Jobs.{AcceptFails, ListsFound, first_bad}
use Rattle.command_runs.specs.Outside.{Outside, World, outside, world}
use Rattle.command_runs.specs.Inputs.{Input, Given, a_job, a_made_job, a_file, AllOpen, FirstFails, Opens, Fails}
use Rattle.command_runs.proofs.LoadLemmas.{file_told, job_told, no_job_told}
use Rattle.command_edge.specs.declared.fault.InputFault.{InputFault}
use Rattle.command_edge.specs.declared.fault.InputFault.TheVariants.{BadPattern, Refused, NoMemory}

module _ {F P : Type 0} (told : F → FolderTold) (gives : F → List ℕ → ℕ → Loaded → F → Type 0)
    (patterns : P → PatternsTold) (finds : P → List ℕ → List ℕ → Found → P → Type 0) (w : World) where
  abbrev call : Outside (F × P)
  call = outside told gives patterns finds

  -- in the state folder and patterns tell the world
  abbrev Files : F → Type 0
  Files f = (told f).files ≡ Some w.at

  abbrev Finds : P → Type 0
  Finds p = ((patterns p).matches ≡ w.finds) × ((patterns p).bad ≡ w.is_bad)

  abbrev Known : F × P → Type 0
  Known u = Files u.0 × Finds u.1

  accept_told : (u v : F × P) (j : JobTree) (fault : InputFault) → Finds u.1 → AcceptFails call.refuses u j fault v → AcceptFails (world w).refuses tt j fault tt
  accept_told u v j (Refused site kind) known h = (h.0, refl)
  accept_told u v j (BadPattern site) known h = (h.0.asked.0, subst (λ b. ForSome b (λ f. first_bad f j ≡ Some site.0)) known.1 h.0.first)
  accept_told u v j NoMemory known h = tt
  accept_told u v j fault known h = absurd h

  taken_told : (u v : F × P) (j : JobTree) (net : Network) (i : Entry) → Known u → call.takes u j net i v → (world w).takes tt j net i tt × Known v
  taken_told u v j net i (files, known) (taken, same) = (
    (
      taken.sound,
      taken.of_net,
      taken.of_entry,
      subst (λ m. ForSome m (ListsFound j net)) known.0 taken.found,
      subst (λ b. ForSome b (λ f. first_bad f j ≡ None)) known.1 taken.good,
    ),
    (subst Files (sym same) files, (taken.kept.matches ∙ known.0, taken.kept.bad ∙ known.1)),
  )

  opens_told : (u v : F × P) (i : Input) (given : Given) → Known u → Opens call u i given v → Opens (world w) tt i given tt × Known v
  opens_told u v (a_file limit name) given (files, known) (bytes, (loaded, same), is) =
      let (has, later) = file_told told gives (Some w.at) limit name bytes u.0 v.0 files loaded in
      ((bytes, has, is), (later, subst Finds (sym same) known))
  opens_told u v (a_job name) given (files, known) (j, m, (loads, same), net, i, taken, is) =
      let (has, later) = job_told told gives (Some w.at) name j u.0 m.0 files loads in
      let (takes, last) = taken_told m v j net i (later, subst Finds (sym same) known) taken in
      ((j, tt, has, net, i, takes, is), last)
  opens_told u v (a_made_job j) given known (net, i, taken, is) =
      let (takes, last) = taken_told u v j net i known taken in ((net, i, takes, is), last)

  fails_told : (u v : F × P) (i : Input) (fault : InputFault) → Known u → Fails call u i fault v → Fails (world w) tt i fault tt
  fails_told u v (a_file limit name) fault (files, known) (h, same) = subst (λ fs. LoadFails fs limit name fault) files h.fails
  fails_told u v (a_job name) fault (files, known) (inl (h, same)) = inl (no_job_told told gives (Some w.at) name fault u.0 v.0 files h)
  fails_told u v (a_job name) fault (files, known) (inr (j, m, (loads, same), h)) =
      let (has, later) = job_told told gives (Some w.at) name j u.0 m.0 files loads in
      inr (j, tt, has, accept_told m v j fault (subst Finds (sym same) known) h)
  fails_told u v (a_made_job j) fault (files, known) h = accept_told u v j fault known h

  pub first_told : (u v : F × P) (is : List Input) (fault : InputFault) → Known u → FirstFails call u is fault v → FirstFails (world w) tt is fault tt
  first_told u v [] fault known h = absurd h
  first_told u v (i ∷ is) fault known (inl h) = inl (fails_told u v i fault known h)
  first_told u v (i ∷ is) fault known (inr (g, m, opens, h)) =
      let o = opens_told u m i g known opens in inr (g, tt, o.0, first_told m v is fault o.1 h)

  pub all_told : (u v : F × P) (is : List Input) (given : List Given) → Known u → AllOpen call u is given v → AllOpen (world w) tt is given tt
  all_told u v [] given known h = (h.0, refl)
  all_told u v (i ∷ is) given known (g, m, opens, rest, more, same) =
      let o = opens_told u m i g known opens in (g, tt, o.0, rest, all_told m v is rest o.1 more, same)
