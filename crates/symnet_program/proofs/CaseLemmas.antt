-- How far a run got in a world: with what is under the name of the job.
use Rattle.std.proofs.Common.{◌≡◌, ◌⊎◌, inl, inr, refl, sym, ap, subst, ◌∙◌, ℕ, ◌<◌, ◌≤◌, List, [], ◌∷◌, length, Bool, Option, None, Some, arith}
use Rattle.std.proofs.lemmas.Option.{none-some, same_Some}
use Rattle.std.specs.Prelude.{IsSomeAnd}
use Rattle.sn_width.specs.declared.ids.Site.{Site}
use Rattle.sefl_syntax.specs.Trees.{AskTree, BodyTree, code, table, DeclTree, JobTree}
use Rattle.sefl_reader.specs.Outcome.{Outcome as OutcomeOf, a_job as job_outcome, IsOutcome}
use Rattle.job_items.specs.Rules.{refusal}
use Rattle.job_items.specs.declared.rule.Rule.{Rule}
use Rattle.net_check.specs.Network.{Network, Entry, with_choices}
use Rattle.net_check.specs.Sound.{IsSound}
use Rattle.command_edge.specs.Files.{HasFile, LoadFails}
use Rattle.command_runs.specs.Flaws.{Flaw, HasFlaw, flaw_of}
use Rattle.command_runs.specs.Refusals.{fault_by_number, fault_by_rule}
use Rattle.command_runs.specs.Jobs.{AcceptFails, HasJob, IsOnlyFlaw, IsOnlyJob, IsRefusedAt, IsTextOf, ReadFails, first_bad}
use Rattle.command_runs.specs.Outside.{World, world}
use Rattle.command_runs.specs.Inputs.{Input, Given, a_job, a_net, AllOpen, FirstFails, IsSettled, Opens, Fails}
use Rattle.command_edge.specs.Puts.{Outcome, text, refused}
use Rattle.command_runs.specs.Runs.{OwnWork}
use Rattle.command_runs.specs.Tables.{CodeFails, FirstUnfilled, IsFilled}
use Rattle.command_edge.specs.declared.limits.TheConstants.{FILE_LIMIT}
use Rattle.command_edge.specs.declared.ending.Ending.TheVariants as ending
use Rattle.command_edge.specs.declared.fault.InputFault.{InputFault}
use Rattle.command_edge.specs.declared.fault.InputFault.TheVariants as input
use Rattle.command_edge.specs.declared.fault.OwnFault.TheVariants as working
use Rattle.explore_command.specs.Explores.{ReportsOf}
use Rattle.symnet_program.specs.Commands.{inputs, work}
use Rattle.symnet_program.specs.Program.{Cause, Comes, IsCaused}
use Rattle.command_runs.specs.Status.{IsStopped, IsUnread, IsWritten, MayBeBad, input_status, outcome_status}
use Rattle.command_words.specs.Commands.{Command, explore}
use Rattle.path_records.specs.declared.sides.RefutedSides.{RefutedSides}
use Rattle.command_runs.specs.declared.status.Status.{Status}
use Rattle.command_runs.specs.declared.status.Status.TheVariants.{Done, NoMemory, Usage, NoFile, ReadFault, WriteFault, TooBig, Syntax, BadPattern, Refused, BadTable, BadPacket, Partial, TooMany, BadReport, NotConfirmed, BadAsk, BadCompare}

some_and : {T : Type 0} (o : Option T) (P : T → Type 0) → IsSomeAnd o P → (x : T) × (o ≡ Some x) × P x
some_and None P h = absurd h
some_and (Some x) P h = (x, refl, h)

-- a job that breaks no rule is not refused
pub sound_or_refused : (j : JobTree) (site : Site) (kind : ℕ) → IsSound j → IsRefusedAt j site kind → ⊥
sound_or_refused j site kind sound (rule, breaks, number) = none-some (site.0, rule) (sym sound ∙ breaks)

abbrev tree_or : OutcomeOf → JobTree → JobTree
tree_or (job_outcome j) other = j
tree_or _ other = other

-- the files of tables are refused for what a world decides, or for one that was not read
no_pattern : (p : World) (ds : List DeclTree) (site : Site) → FirstUnfilled (Some p.at) ds (input.BadPattern site) → ⊥
no_pattern p [] site h = h
no_pattern p (d ∷ ds) site (inl h) = by d.body h
  where
    by : (body : BodyTree) → CodeFails (Some p.at) body (input.BadPattern site) → ⊥
    by (code own) h = h
    by (table kind name style) (inl h) = h
    by (table kind name style) (inr (bytes, has, h)) = h
no_pattern p (d ∷ ds) site (inr (node, is, h)) = no_pattern p ds site h

settled_or : (p : World) (ds : List DeclTree) (fault : InputFault) → FirstUnfilled (Some p.at) ds fault → IsSettled p fault ⊎ IsUnread (input_status fault)
settled_or p ds (input.ReadFault own) h = inr tt
settled_or p ds input.NoMemory h = inr tt
settled_or p ds (input.BadPattern site) h = absurd (no_pattern p ds site h)
settled_or p ds (input.NoFile own) h = inl tt
settled_or p ds (input.TooBig own) h = inl tt
settled_or p ds (input.Syntax line column kind) h = inl tt
settled_or p ds (input.BadTable own line kind) h = inl tt
settled_or p ds (input.Refused site kind) h = inl tt

-- the tables of a job are filled in one way, or not for one cause
pub record FilledOnce (p : World) : Type 0 where
  pub full : (j a b : JobTree) → IsFilled (Some p.at) j a → IsFilled (Some p.at) j b → a ≡ b
  pub excludes : (j full : JobTree) (f : InputFault) → IsSettled p f → IsFilled (Some p.at) j full → FirstUnfilled (Some p.at) j.net.nodes f → ⊥
  pub first : (j : JobTree) (f g : InputFault) → IsSettled p f → IsSettled p g → FirstUnfilled (Some p.at) j.net.nodes f → FirstUnfilled (Some p.at) j.net.nodes g
      → f ≡ g

-- then the run was stopped
pub unread_stops : (status : Status) → IsUnread status → IsStopped status
unread_stops NoMemory h = tt
unread_stops (ReadFault name) h = tt
unread_stops status h = absurd h

module _ (p : World) (name : List ℕ) (rest : List Input) (w : OwnWork) where
  -- behind the job, which gave this: the run was stopped; or the inputs were good, and the own work came to an outcome; or an
  -- input is refused
  abbrev pub Behind : Given → Status → Type 0
  Behind g status =
      IsStopped status
      ⊎ (((outcome : Outcome) × (given : List Given) × AllOpen (world p) tt rest given tt × w.comes (g ∷ given) outcome × (status ≡ outcome_status outcome))
      ⊎ ((fault : InputFault) × FirstFails (world p) tt rest fault tt × (status ≡ input_status fault)))

  -- with a job
  pub data JobCase (j : JobTree) (status : Status) : Type 0 where
    is_unfilled : (fault : InputFault) → IsSettled p fault → FirstUnfilled (Some p.at) j.net.nodes fault → status ≡ input_status fault → JobCase j status
    breaks_rule : (full : JobTree) (site : Site) (kind : ℕ) → IsFilled (Some p.at) j full → IsRefusedAt full site kind → status ≡ Refused site kind → JobCase j status
    has_bad : (full : JobTree) (site : Site) → IsFilled (Some p.at) j full → (world p).refuses tt full site tt → status ≡ BadPattern site → JobCase j status
    is_taken : (full : JobTree) (net : Network) (i : Entry) → HasJob (Some p.at) name j → IsFilled (Some p.at) j full → (world p).takes tt full net i tt
        → Behind (a_net net i full.asks) status → JobCase j status

  -- with what is under the name
  pub data FileCase (status : Status) : Type 0 where
    is_unread : IsUnread status → FileCase status
    is_missing : p.at name ≡ None → status ≡ NoFile name → FileCase status
    is_long : (bytes : List ℕ) → p.at name ≡ Some bytes → FILE_LIMIT < length bytes → status ≡ TooBig name → FileCase status
    has_flaw : (bytes : List ℕ) (flaw : Flaw) → p.at name ≡ Some bytes → length bytes ≤ FILE_LIMIT → IsOnlyFlaw bytes flaw
        → status ≡ Syntax flaw.line flaw.column flaw.kind → FileCase status
    has_job : (bytes : List ℕ) (j : JobTree) → p.at name ≡ Some bytes → length bytes ≤ FILE_LIMIT → IsOnlyJob bytes j → JobCase j status → FileCase status

  of_load : (fault : InputFault) → LoadFails (Some p.at) FILE_LIMIT name fault → FileCase (input_status fault)
  of_load (input.NoFile own) h = is_missing (h.1 p.at refl) (ap NoFile h.0)
  of_load (input.ReadFault own) h = is_unread tt
  of_load (input.TooBig own) h =
      let (bytes, has, long) = some_and (p.at name) (λ bytes. FILE_LIMIT < length bytes) (h.1 p.at refl) in
      is_long bytes has long (ap TooBig h.0)
  of_load input.NoMemory h = is_unread tt
  of_load fault h = absurd h

  of_text : (fault : InputFault) (bytes : List ℕ) → HasFile (Some p.at) FILE_LIMIT name bytes → ReadFails bytes fault → FileCase (input_status fault)
  of_text (input.Syntax line column kind) bytes has h =
      has_flaw bytes (record { line = line; column = column; kind = kind }) (has.1 p.at refl) has.0 h refl
  of_text input.NoMemory bytes has h = is_unread tt
  of_text fault bytes has h = absurd h

  with_job : (status : Status) (j : JobTree) → HasJob (Some p.at) name j → JobCase j status → FileCase status
  with_job status j (bytes, has, only) h = has_job bytes j (has.1 p.at refl) has.0 only h

  of_tables : (fault : InputFault) (j : JobTree) → HasJob (Some p.at) name j → FirstUnfilled (Some p.at) j.net.nodes fault → FileCase (input_status fault)
  of_tables fault j has h = by (settled_or p j.net.nodes fault h)
    where
      by : IsSettled p fault ⊎ IsUnread (input_status fault) → FileCase (input_status fault)
      by (inl settled) = with_job (input_status fault) j has (is_unfilled fault settled h refl)
      by (inr stopped) = is_unread stopped

  of_accept : (fault : InputFault) (j full : JobTree) → HasJob (Some p.at) name j → IsFilled (Some p.at) j full → AcceptFails (world p).refuses tt full fault tt
      → FileCase (input_status fault)
  of_accept (input.Refused site kind) j full has filled h = with_job (Refused site kind) j has (breaks_rule full site kind filled h.0 refl)
  of_accept (input.BadPattern site) j full has filled h = with_job (BadPattern site) j has (has_bad full site filled h refl)
  of_accept input.NoMemory j full has filled h = is_unread tt
  of_accept fault j full has filled h = absurd h

  of_fault : (fault : InputFault) → Fails (world p) tt (a_job name) fault tt → FileCase (input_status fault)
  of_fault fault (inl (inl load)) = of_load fault load
  of_fault fault (inl (inr (inl (bytes, has, reads)))) = of_text fault bytes has reads
  of_fault fault (inl (inr (inr (j, has, tables)))) = of_tables fault j has tables
  of_fault fault (inr (full, m, (j, has, filled), accept)) = of_accept fault j full has filled accept

  of_opens : (status : Status) (g : Given) → Opens (world p) tt (a_job name) g tt → Behind g status → FileCase status
  of_opens status g (full, m, (j, has, filled), net, i, taken, is) behind =
      with_job status j has (is_taken full net i has filled taken (subst (λ x. Behind x status) is behind))

  stops : (fault : InputFault) → FirstFails (world p) tt (a_job name ∷ rest) fault tt → FileCase (input_status fault)
  stops fault (inl h) = of_fault fault h
  stops fault (inr (g, m, opens, h)) = of_opens (input_status fault) g opens (inr (inr (fault, h, refl)))

  comes : (outcome : Outcome) → Comes (world p) tt tt (a_job name ∷ rest) w outcome → FileCase (outcome_status outcome)
  comes outcome (given, (g, m, opens, others, more, same), h) =
      of_opens (outcome_status outcome) g opens (inr (inl (outcome, others, more, subst (λ gs. w.comes gs outcome) same h, refl)))

  of_cause : (status : Status) → Cause (world p) tt tt (a_job name ∷ rest) w status → FileCase status
  of_cause Done h = comes (text ending.Done h.0) h.1
  of_cause NoMemory h = is_unread tt
  of_cause Usage h = absurd h
  of_cause (NoFile own) h = stops (input.NoFile own) h
  of_cause (ReadFault own) h = is_unread tt
  of_cause WriteFault (given, (g, m, opens, others, more, same)) = of_opens WriteFault g opens (inl tt)
  of_cause (TooBig own) h = stops (input.TooBig own) h
  of_cause (Syntax line column kind) h = stops (input.Syntax line column kind) h
  of_cause (BadPattern site) h = stops (input.BadPattern site) h
  of_cause (Refused site kind) h = stops (input.Refused site kind) h
  of_cause (BadTable name line kind) (inl h) = stops (input.BadTable name line kind) h
  of_cause (BadTable name line kind) (inr h) = comes (refused (working.BadTable name line kind)) h
  of_cause (BadPacket kind) h = comes (refused (working.BadPacket kind)) h
  of_cause Partial h = comes (text ending.Partial h.0) h.1
  of_cause (TooMany count) h = comes (refused (working.TooMany count)) h
  of_cause (BadReport kind pointer) h = comes (refused (working.BadReport kind pointer)) h
  of_cause (NotConfirmed number kind) h = comes (refused (working.NotConfirmed number kind)) h
  of_cause (BadAsk number kind) h = comes (refused (working.BadAsk number kind)) h
  of_cause (BadCompare kind one other) h = comes (refused (working.BadCompare kind one other)) h

-- of a command that reads a job first
pub case_of : (p : World) (command : Command) (job : List ℕ) (others : List Input) → inputs command ≡ a_job job ∷ others
    → (status : Status) → IsCaused (world p) tt tt (Some command) status → FileCase p job others (work command) status
case_of p command job others reads status h =
    of_cause p job others (work command) status (subst (λ is. Cause (world p) tt tt is (work command) status) reads h)

-- ---- what is told

module _ (p : World) (name : List ℕ) (rest : List Input) (w : OwnWork) (status : Status) where
  too_long : (a b : List ℕ) → a ≡ b → FILE_LIMIT < length a → length b ≤ FILE_LIMIT → ⊥
  too_long a b same long short = let lengths : length a ≡ length b = ap length same in absurd (omega (arith, lengths, long, short))

  pub absent_in : p.at name ≡ None → FileCase p name rest w status → (status ≡ NoFile name) ⊎ IsUnread status
  absent_in none (is_unread h) = inr h
  absent_in none (is_missing own is) = inl is
  absent_in none (is_long bytes has long is) = absurd (none-some bytes (sym none ∙ has))
  absent_in none (has_flaw bytes flaw has short only is) = absurd (none-some bytes (sym none ∙ has))
  absent_in none (has_job bytes j has short only h) = absurd (none-some bytes (sym none ∙ has))

  module _ (bytes : List ℕ) (is : p.at name ≡ Some bytes) where
    same_bytes : (own : List ℕ) → p.at name ≡ Some own → bytes ≡ own
    same_bytes own has = same_Some bytes own (sym is ∙ has)

    pub long_in : FILE_LIMIT < length bytes → FileCase p name rest w status → (status ≡ TooBig name) ⊎ IsUnread status
    long_in long (is_unread h) = inr h
    long_in long (is_missing none told) = absurd (none-some bytes (sym none ∙ is))
    long_in long (is_long own has more told) = inl told
    long_in long (has_flaw own flaw has short only told) = absurd (too_long bytes own (same_bytes own has) long short)
    long_in long (has_job own j has short only h) = absurd (too_long bytes own (same_bytes own has) long short)

    flaw_once : (own : List ℕ) (flaw other : Flaw) → bytes ≡ own → IsOnlyFlaw own other → HasFlaw bytes flaw → other ≡ flaw
    flaw_once own flaw other same only (outcome, so, has) =
        same_Some other flaw (sym (only.only outcome (subst (λ b. IsOutcome b outcome) same so)) ∙ subst (λ b. flaw_of b outcome ≡ Some flaw) same has)

    flaw_or_job : (own : List ℕ) (flaw : Flaw) (j : JobTree) → bytes ≡ own → IsOnlyJob own j → HasFlaw bytes flaw → ⊥
    flaw_or_job own flaw j same only (outcome, so, has) =
        none-some flaw (sym (ap (flaw_of own) (only.only outcome (subst (λ b. IsOutcome b outcome) same so))) ∙ subst (λ b. flaw_of b outcome ≡ Some flaw) same has)

    pub flawed_in : (flaw : Flaw) → length bytes ≤ FILE_LIMIT → HasFlaw bytes flaw → FileCase p name rest w status
        → (status ≡ Syntax flaw.line flaw.column flaw.kind) ⊎ IsUnread status
    flawed_in flaw short wrong (is_unread h) = inr h
    flawed_in flaw short wrong (is_missing none told) = absurd (none-some bytes (sym none ∙ is))
    flawed_in flaw short wrong (is_long own has long told) = absurd (too_long own bytes (sym (same_bytes own has)) long short)
    flawed_in flaw short wrong (has_flaw own other has less only told) =
        inl (told ∙ ap (λ (f : Flaw). Syntax f.line f.column f.kind) (flaw_once own flaw other (same_bytes own has) only wrong))
    flawed_in flaw short wrong (has_job own j has less only h) = absurd (flaw_or_job own flaw j (same_bytes own has) only wrong)

    -- of bytes that are a text of the job
    pub job_in : (j : JobTree) → length bytes ≤ FILE_LIMIT → IsTextOf j bytes → FileCase p name rest w status → JobCase p name rest w j status ⊎ IsUnread status
    job_in j short spells (is_unread h) = inr h
    job_in j short spells (is_missing none told) = absurd (none-some bytes (sym none ∙ is))
    job_in j short spells (is_long own has long told) = absurd (too_long own bytes (sym (same_bytes own has)) long short)
    job_in j short spells (has_flaw own flaw has less only told) =
        absurd (none-some flaw (only.only (job_outcome j) (subst (IsTextOf j) (same_bytes own has) spells)))
    job_in j short spells (has_job own k has less only h) =
        let one : j ≡ k = ap (λ o. tree_or o j) (only.only (job_outcome j) (subst (IsTextOf j) (same_bytes own has) spells)) in
        inl (subst (λ t. JobCase p name rest w t status) (sym one) h)

  module _ (once : FilledOnce p) where
    pub tables_in : (j : JobTree) (fault : InputFault) → FirstUnfilled (Some p.at) j.net.nodes fault → IsSettled p fault → JobCase p name rest w j status ⊎ IsUnread status
        → (status ≡ input_status fault) ⊎ IsUnread status
    tables_in j fault fails settled (inr h) = inr h
    tables_in j fault fails settled (inl (is_unfilled own own_settled own_fails is)) =
        inl (is ∙ ap input_status (once.first j own fault own_settled settled own_fails fails))
    tables_in j fault fails settled (inl (breaks_rule full site kind filled breaks is)) = absurd (once.excludes j full fault settled filled fails)
    tables_in j fault fails settled (inl (has_bad full site filled refuses is)) = absurd (once.excludes j full fault settled filled fails)
    tables_in j fault fails settled (inl (is_taken full net i has filled taken behind)) = absurd (once.excludes j full fault settled filled fails)

  -- the first rule that is broken tells its number
  by_rule : (j : JobTree) (site own : Site) (rule : Rule) (kind : ℕ) → refusal j ≡ Some (site.0, rule) → IsRefusedAt j own kind
      → Refused own kind ≡ input_status (fault_by_rule site rule)
  by_rule j site own rule kind breaks (other, own_breaks, number) =
      let pairs : ◌≡◌ {A = ℕ × Rule} (own.0, other) (site.0, rule) = same_Some (own.0, other) (site.0, rule) (sym own_breaks ∙ breaks) in
      ap (λ n. input_status (fault_by_number own n)) (sym number) ∙ (λ k. input_status (fault_by_rule (record { 0 = (pairs k).0 }) (pairs k).1))

  sound_or_broken : (j : JobTree) (site : Site) (rule : Rule) → IsSound j → refusal j ≡ Some (site.0, rule) → ⊥
  sound_or_broken j site rule sound breaks = none-some (site.0, rule) (sym sound ∙ breaks)

  module _ (once : FilledOnce p) (j full : JobTree) (filled : IsFilled (Some p.at) j full) where
    pub refused_in : (site : Site) (rule : Rule) → refusal full ≡ Some (site.0, rule)
        → JobCase p name rest w j status ⊎ IsUnread status → (status ≡ input_status (fault_by_rule site rule)) ⊎ IsUnread status
    refused_in site rule breaks (inr h) = inr h
    refused_in site rule breaks (inl (is_unfilled fault settled fails is)) = absurd (once.excludes j full fault settled filled fails)
    refused_in site rule breaks (inl (breaks_rule own at kind own_filled own_breaks is)) =
        inl (is ∙ by_rule full site at rule kind breaks (subst (λ (t : JobTree). IsRefusedAt t at kind) (once.full j own full own_filled filled) own_breaks))
    refused_in site rule breaks (inl (has_bad own at own_filled refuses is)) =
        absurd (sound_or_broken full site rule (subst IsSound (once.full j own full own_filled filled) refuses.0) breaks)
    refused_in site rule breaks (inl (is_taken own net i has own_filled taken behind)) =
        absurd (sound_or_broken full site rule (subst IsSound (once.full j own full own_filled filled) taken.0) breaks)

    pub bad_in : (site : Site) (is_bad : List ℕ → Bool) → IsSound full → p.is_bad ≡ Some is_bad → first_bad is_bad full ≡ Some site.0
        → JobCase p name rest w j status ⊎ IsUnread status → (status ≡ BadPattern site) ⊎ IsUnread status
    bad_in site is_bad sound tells first (inr h) = inr h
    bad_in site is_bad sound tells first (inl (is_unfilled fault settled fails is)) = absurd (once.excludes j full fault settled filled fails)
    bad_in site is_bad sound tells first (inl (breaks_rule own at kind own_filled breaks is)) =
        absurd (sound_or_refused own at kind (subst IsSound (sym (once.full j own full own_filled filled)) sound) breaks)
    bad_in site is_bad sound tells first (inl (has_bad own at own_filled refuses is)) =
        let is_first : first_bad is_bad full ≡ Some at.0 =
        subst (λ (t : JobTree). first_bad is_bad t ≡ Some at.0) (once.full j own full own_filled filled) (refuses.1 is_bad tells) in
        let same : at.0 ≡ site.0 = same_Some at.0 site.0 (sym is_first ∙ first) in
        inl (is ∙ (λ k. BadPattern (record { 0 = same k })))
    bad_in site is_bad sound tells first (inl (is_taken own net i has own_filled taken behind)) =
        let none : first_bad is_bad full ≡ None =
        subst (λ (t : JobTree). first_bad is_bad t ≡ None) (once.full j own full own_filled filled) (taken.4 is_bad tells) in
        absurd (none-some site.0 (sym none ∙ first))

-- ---- of a job that is explored

module _ (p : World) (name : List ℕ) (cases hops limit : ℕ) (pruned : RefutedSides) (status : Status) where
  abbrev pub Explored : JobTree → Type 0
  Explored j = JobCase p name [] (work (explore name hops limit cases pruned)) j status

  reported : (net : Network) (i : Entry) (asks : List AskTree) (given : List Given) (outcome : Outcome) → given ≡ []
      → (work (explore name hops limit cases pruned)).comes (a_net net i asks ∷ given) outcome → ReportsOf hops limit pruned net (with_choices cases i) outcome
  reported net i asks given outcome none h = subst (λ gs. (work (explore name hops limit cases pruned)).comes (a_net net i asks ∷ gs) outcome) none h

  -- each outcome is a text
  written : (net : Network) (i : Entry) (outcome : Outcome) → status ≡ outcome_status outcome → ReportsOf hops limit pruned net i outcome → IsWritten status
  written net i (text ending.Done whole) is h = inl is
  written net i (text ending.Partial whole) is h = inr is
  written net i (refused fault) is h = absurd h

  -- of a job that with code for its tables breaks no rule
  pub explored_in : FilledOnce p → (j full : JobTree) → IsFilled (Some p.at) j full → IsSound full → Explored j ⊎ IsUnread status → IsWritten status ⊎ MayBeBad status
  explored_in once j full filled sound (inr h) = inr (inl (unread_stops status h))
  explored_in once j full filled sound (inl (is_unfilled fault settled fails is)) = absurd (once.excludes j full fault settled filled fails)
  explored_in once j full filled sound (inl (breaks_rule own at kind own_filled breaks is)) =
      absurd (sound_or_refused own at kind (subst IsSound (sym (once.full j own full own_filled filled)) sound) breaks)
  explored_in once j full filled sound (inl (has_bad own at own_filled refuses is)) = inr (inr (at, is))
  explored_in once j full filled sound (inl (is_taken own net i has own_filled taken (inl h))) = inr (inl h)
  explored_in once j full filled sound (inl (is_taken own net i has own_filled taken (inr (inl (outcome, given, opened, h, is))))) =
      inl (written net (with_choices cases i) outcome is (reported net i own.asks given outcome opened.0 h))
  explored_in once j full filled sound (inl (is_taken own net i has own_filled taken (inr (inr (fault, h, is))))) = absurd h
