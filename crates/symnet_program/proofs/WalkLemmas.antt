-- What `walk` tells in a world of a job that with code for its tables breaks no rule.
use Rattle.std.proofs.Common.{◌≡◌, ◌⊎◌, inl, inr, refl, sym, ap, subst, ◌∙◌, ℕ, ◌<◌, ◌≤◌, List, [], ◌∷◌, length, None, Some}
use Rattle.std.proofs.lemmas.Option.{same_Some}
use Rattle.std.specs.Option.{ForSome}
use Rattle.std.specs.Prelude.{IsSomeAnd}
use Rattle.sefl_syntax.specs.Trees.{JobTree}
use Rattle.net_check.specs.Network.{Network, Entry}
use Rattle.net_check.specs.Sound.{IsSound}
use Rattle.sefl_lex.specs.Packets.{packet_of}
use Rattle.command_edge.specs.Files.{LoadFails}
use Rattle.command_runs.specs.Jobs.{HasFilled, ListsFound, first_bad}
use Rattle.command_runs.specs.Outside.{World, world}
use Rattle.command_runs.specs.Inputs.{Given, a_job, a_file, a_net, some_bytes, AllOpen, Opens, IsSettled}
use Rattle.command_edge.specs.Puts.{Outcome}
use Rattle.command_edge.specs.declared.limits.TheConstants.{FILE_LIMIT}
use Rattle.command_edge.specs.declared.fault.InputFault.{InputFault}
use Rattle.command_edge.specs.declared.fault.InputFault.TheVariants as input
use Rattle.walk_command.specs.Walks.{WalksOf}
use Rattle.symnet_program.specs.Commands.{inputs, work}
use Rattle.symnet_program.specs.Program.{IsCaused}
use Rattle.command_runs.specs.Status.{IsUnread, MayBeBad, OrBad, input_status, outcome_status}
use Rattle.symnet_program.specs.Told.{MayBeUnread, MayStop, TellsNet}
use Rattle.command_words.specs.Commands.{walk}
use Rattle.command_runs.specs.declared.status.Status.{Status}
use Rattle.command_runs.specs.declared.status.Status.TheVariants.{NoMemory, NoFile, ReadFault, WriteFault, TooBig, BadPattern}
use Rattle.symnet_program.proofs.CaseLemmas.{FilledOnce, JobCase, case_of, has_bad, is_unfilled, breaks_rule, is_taken, job_in, sound_or_refused, unread_stops}
use Rattle.symnet_program.proofs.OwnLemmas.{own_told}
use Rattle.symnet_program.proofs.ProgramLemmas.{Decides, exact_of}

stop_or_bad : (p : World) (status : Status) → MayStop p status → MayBeBad status
stop_or_bad p NoMemory h = inl tt
stop_or_bad p (ReadFault name) h = inl tt
stop_or_bad p WriteFault h = inl tt
stop_or_bad p (BadPattern site) h = inr (site, refl)
stop_or_bad p status h = absurd h

unread_or_bad : (p : World) (status : Status) → MayBeUnread p status → OrBad IsUnread status
unread_or_bad p NoMemory h = inl tt
unread_or_bad p (ReadFault name) h = inl tt
unread_or_bad p (BadPattern site) h = inr (site, refl)
unread_or_bad p status h = absurd h

weaker : (status : Status) → OrBad IsUnread status → MayBeBad status
weaker status (inl h) = inl (unread_stops status h)
weaker status (inr h) = inr h

module _ (job packet : List ℕ) (hops limit : ℕ) (p : World) (status : Status) (net : Network) (i : Entry)
    (caused : IsCaused (world p) tt tt (Some (walk job packet hops limit)) status) (is : TellsNet p job net i) (filled_once : FilledOnce p) where
  -- the file has the job, and no pattern is bad; or the status tells why not
  abbrev IsGood : Type 0
  IsGood = HasFilled (Some p.at) job is.tree × ForSome p.is_bad (λ b. first_bad b is.tree ≡ None)

  good_or : JobCase p job (a_file FILE_LIMIT packet ∷ []) (work (walk job packet hops limit)) is.job status ⊎ IsUnread status → IsGood ⊎ OrBad IsUnread status
  good_or (inr h) = inr (inl h)
  good_or (inl (is_unfilled fault settled fails told)) = absurd (filled_once.excludes is.job is.tree fault settled is.filled fails)
  good_or (inl (breaks_rule own site kind filled breaks told)) =
      absurd (sound_or_refused own site kind (subst IsSound (sym (filled_once.full is.job own is.tree filled is.filled)) is.sound) breaks)
  good_or (inl (has_bad own site filled refuses told)) = inr (inr (site, told))
  good_or (inl (is_taken own net' o has filled taken behind)) =
      inl (
        (is.job, has, is.filled),
        subst (λ (t : JobTree). ForSome p.is_bad (λ b. first_bad b t ≡ None)) (filled_once.full is.job own is.tree filled is.filled) taken.4,
      )

  good : IsGood ⊎ OrBad IsUnread status
  good =
      good_or (job_in p job (a_file FILE_LIMIT packet ∷ []) (work (walk job packet hops limit)) status is.bytes is.file is.job is.short is.text
      (case_of p (walk job packet hops limit) job (a_file FILE_LIMIT packet ∷ []) refl status caused))

  -- what is due of such a job, or of one that is not told
  due : {T : Type 0} → (IsGood → T) → (OrBad IsUnread status → T) → IsGood ⊎ OrBad IsUnread status → T
  due by other (inl h) = by h
  due by other (inr h) = other h

  opens : IsGood → Opens (world p) tt (a_job job) (a_net net i is.tree.asks) tt
  opens (has, good) = (
    is.tree,
    tt,
    has,
    net,
    i,
    (is.sound, is.of_net, is.of_entry, (λ finds told. subst (ListsFound is.tree net) (same_Some is.finds finds (sym is.told ∙ told)) is.lists), good),
    refl,
  )

  -- the packet's file is refused
  module _ (decides : Decides p) where
    refused_file : (fault : InputFault) → IsSettled p fault → LoadFails (Some p.at) FILE_LIMIT packet fault
        → (status ≡ input_status fault) ⊎ OrBad IsUnread status
    refused_file fault settled fails =
        due
        (λ h. told_or (exact_of (inputs (walk job packet hops limit)) (work (walk job packet hops limit)) p decides fault settled
        (inr (a_net net i is.tree.asks, tt, opens h, inl fails)) status caused))
        (λ h. inr h) good
      where
        told_or : (status ≡ input_status fault) ⊎ MayBeUnread p status → (status ≡ input_status fault) ⊎ OrBad IsUnread status
        told_or (inl h) = inl h
        told_or (inr h) = inr (unread_or_bad p status h)

    pub absent_packet : p.at packet ≡ None → (status ≡ NoFile packet) ⊎ OrBad IsUnread status
    absent_packet none = refused_file (input.NoFile packet) tt (refl, λ at told. subst (λ f. f packet ≡ None) (same_Some p.at at told) none)

    pub long_packet : (bytes : List ℕ) → p.at packet ≡ Some bytes → FILE_LIMIT < length bytes → (status ≡ TooBig packet) ⊎ OrBad IsUnread status
    long_packet bytes has long =
        refused_file (input.TooBig packet) tt (
          refl,
          λ at told. subst (λ f. IsSomeAnd (f packet) (λ bs. FILE_LIMIT < length bs)) (same_Some p.at at told)
              (subst (λ o. IsSomeAnd o (λ bs. FILE_LIMIT < length bs)) (sym has) long),
        )

  -- it has these bytes
  module _ (once : (a b : List Given) → AllOpen (world p) tt (inputs (walk job packet hops limit)) a tt → AllOpen (world p) tt (inputs (walk job packet hops limit)) b tt → a ≡ b)
      (decides : Decides p) (bytes : List ℕ) (has : p.at packet ≡ Some bytes) (short : length bytes ≤ FILE_LIMIT) (outcome : Outcome)
      (comes : WalksOf hops limit net i (packet_of bytes) outcome)
      (alone : (other : Outcome) → WalksOf hops limit net i (packet_of bytes) other → other ≡ outcome) where
    all_open : IsGood → AllOpen (world p) tt (inputs (walk job packet hops limit)) (a_net net i is.tree.asks ∷ some_bytes bytes ∷ []) tt
    all_open h = (
      a_net net i is.tree.asks,
      tt,
      opens h,
      some_bytes bytes ∷ [],
      (some_bytes bytes, tt, (bytes, (short, λ at told. subst (λ f. f packet ≡ Some bytes) (same_Some p.at at told) has), refl), [], (refl, refl), refl),
      refl,
    )

    pub walked_packet : (status ≡ outcome_status outcome) ⊎ MayBeBad status
    walked_packet = due (λ h. by (came h)) (λ h. inr (weaker status h)) good
      where
        came : IsGood → ((other : Outcome) × (work (walk job packet hops limit)).comes (a_net net i is.tree.asks ∷ some_bytes bytes ∷ []) other × (status ≡ outcome_status other)) ⊎ MayStop p status
        came h =
            own_told (inputs (walk job packet hops limit)) (work (walk job packet hops limit)) p (a_net net i is.tree.asks ∷ some_bytes bytes ∷ [])
            (λ other opened. once other (a_net net i is.tree.asks ∷ some_bytes bytes ∷ []) opened (all_open h))
            (λ fault settled fails. decides.excludes (inputs (walk job packet hops limit)) (a_net net i is.tree.asks ∷ some_bytes bytes ∷ []) fault settled (all_open h) fails)
            status caused

        by : ((other : Outcome) × (work (walk job packet hops limit)).comes (a_net net i is.tree.asks ∷ some_bytes bytes ∷ []) other × (status ≡ outcome_status other)) ⊎ MayStop p status
            → (status ≡ outcome_status outcome) ⊎ MayBeBad status
        by (inl (other, h, told)) = inl (told ∙ ap outcome_status (alone other h))
        by (inr h) = inr (stop_or_bad p status h)
