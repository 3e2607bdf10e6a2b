-- One run, and what it tells each by itself.
use Rattle.std.proofs.Common.{◌≡◌, inl, inr, ◌∙◌, ap, sym, subst, refl, List, [], ◌∷◌, ℕ, Option, Some, None, Result, Ok, Err}
use Rattle.std.specs.Io.KnownBytes.{append_known}
use Rattle.sn_edge.specs.Putting.{TakesUntil}
use Rattle.sn_edge.specs.Told.{SinkTold}
use Rattle.sn_edge.specs.declared.sink.Put.{Put}
use Rattle.sn_edge.proofs.Putting.{known_alone, takes_none, until_all, until_taken}
use Rattle.command_runs.specs.Outside.{Outside}
use Rattle.net_check.specs.Network.{Network, Entry, with_choices}
use Rattle.command_runs.specs.Inputs.{Input, Given, a_net, AllOpen}
use Rattle.command_edge.specs.Puts.{text}
use Rattle.command_runs.specs.Runs.{OwnWork, IsRefusal, Runs}
use Rattle.command_runs.specs.Status.{input_status, own_status, status_of}
use Rattle.command_runs.specs.declared.status.Status.{Status}
use Rattle.command_runs.specs.declared.status.Status.TheVariants.{Done, NoMemory, Usage, NoFile, ReadFault, WriteFault, TooBig, Syntax, BadPattern, Refused, BadTable, BadPacket, Partial, TooMany, BadReport, NotConfirmed, BadAsk, BadCompare}
use Rattle.command_edge.specs.declared.fault.InputFault.{InputFault}
use Rattle.command_edge.specs.declared.fault.InputFault.TheVariants as input
use Rattle.command_edge.specs.declared.fault.OwnFault.{OwnFault}
use Rattle.command_edge.specs.declared.fault.OwnFault.TheVariants as own
use Rattle.command_edge.specs.declared.ending.Ending.{Ending}
use Rattle.command_edge.specs.declared.ending.Ending.TheVariants as ending
use Rattle.command_edge.specs.declared.ending.Stop.{Stop}
use Rattle.command_edge.specs.declared.ending.Stop.TheVariants.{Input as ByInput, Own, Write, NoMemory as NoRoom}
use Rattle.path_records.specs.declared.sides.RefutedSides.{RefutedSides}
use Rattle.explore_command.specs.Explores.{explore_work}
use Rattle.explore_command.specs.Headline.{MayBeShown}
use Rattle.explore_command.specs.Laws.{ReportsTellWalks}
use Rattle.command_words.specs.declared.command.TheConstants.{MOST_LIMIT}
use Rattle.command_words.specs.Commands.{Command, HasRanges, explore, AreBounds}
use Rattle.symnet_program.specs.Commands.{inputs, work}
use Rattle.symnet_program.specs.Headline.{TellsJob}
use Rattle.symnet_program.specs.Program.{Cause, IsCaused, MayWrite, Stops, Writes}
use Rattle.symnet_program.specs.Run.{Ends, IsPutWith, IsRun, IsRunOf, ReportTells, TellsMore, performed, unbegun, unopened}

-- ---- how what was written was put

module _ {K : Type 0} (told : K → SinkTold) (gives : K → List ℕ → Put → K → Type 0) (old new : K) where
  until_nothing : new ≡ old → TakesUntil told gives old [] new
  until_nothing same = subst (λ s. TakesUntil told gives old [] s) (sym same) (until_all told gives old old [] (takes_none told gives old))

  -- with a status that tells of an input, or of the own work, nothing was put
  pub input_unput : (fault : InputFault) → new ≡ old → IsPutWith told gives old new (input_status fault) []
  input_unput input.NoMemory same = until_nothing same
  input_unput (input.NoFile name) same = (same, refl)
  input_unput (input.ReadFault name) same = (same, refl)
  input_unput (input.TooBig name) same = (same, refl)
  input_unput (input.Syntax line column kind) same = (same, refl)
  input_unput (input.BadTable name line kind) same = (same, refl)
  input_unput (input.BadPattern site) same = (same, refl)
  input_unput (input.Refused site kind) same = (same, refl)

  pub own_unput : (fault : OwnFault) → new ≡ old → IsPutWith told gives old new (own_status fault) []
  own_unput own.NoMemory same = until_nothing same
  own_unput (own.BadTable name line kind) same = (same, refl)
  own_unput (own.BadPacket kind) same = (same, refl)
  own_unput (own.TooMany count) same = (same, refl)
  own_unput (own.BadReport kind pointer) same = (same, refl)
  own_unput (own.NotConfirmed number kind) same = (same, refl)
  own_unput (own.BadAsk number kind) same = (same, refl)
  own_unput (own.BadCompare kind one other) same = (same, refl)

  nothing_taken : (part : List ℕ) → (new ≡ old) × (part ≡ []) → (told new).taken ≡ append_known (told old).taken part
  nothing_taken part (same, none) = ap (λ s. (told s).taken) same ∙ (known_alone (told old).taken ∙ ap (append_known (told old).taken) (sym none))

  -- what the sink tells of it
  pub put_taken : (status : Status) (part : List ℕ) → IsPutWith told gives old new status part → (told new).taken ≡ append_known (told old).taken part
  put_taken Done part h = h.taken
  put_taken Partial part h = h.taken
  put_taken WriteFault part h = h.taken
  put_taken NoMemory part h = until_taken told gives old new part h
  put_taken Usage part h = nothing_taken part h
  put_taken (NoFile name) part h = nothing_taken part h
  put_taken (ReadFault name) part h = nothing_taken part h
  put_taken (TooBig name) part h = nothing_taken part h
  put_taken (Syntax line column kind) part h = nothing_taken part h
  put_taken (BadPattern site) part h = nothing_taken part h
  put_taken (Refused site kind) part h = nothing_taken part h
  put_taken (BadTable name line kind) part h = nothing_taken part h
  put_taken (BadPacket kind) part h = nothing_taken part h
  put_taken (TooMany count) part h = nothing_taken part h
  put_taken (BadReport kind pointer) part h = nothing_taken part h
  put_taken (NotConfirmed number kind) part h = nothing_taken part h
  put_taken (BadAsk number kind) part h = nothing_taken part h
  put_taken (BadCompare kind one other) part h = nothing_taken part h

-- ---- the run of a command

-- a refusal of the own work, with nothing put
own_ends : (w : OwnWork) (given : List Given) (fault : OwnFault) → IsRefusal (w.comes given) fault → Ends w given (own_status fault) []
own_ends w given own.NoMemory h = inl refl
own_ends w given (own.BadTable name line kind) h = (refl, h)
own_ends w given (own.BadPacket kind) h = (refl, h)
own_ends w given (own.TooMany count) h = (refl, h)
own_ends w given (own.BadReport kind pointer) h = (refl, h)
own_ends w given (own.NotConfirmed number kind) h = (refl, h)
own_ends w given (own.BadAsk number kind) h = (refl, h)
own_ends w given (own.BadCompare kind one other) h = (refl, h)

module _ (law : (net : Network) (i : Entry) (hops : ℕ) → ReportsTellWalks net i hops) where
  report_tells : (cases hops limit : ℕ) (sides : RefutedSides) (ended : Ending) (whole : List ℕ) (given : List Given) → MayBeShown cases hops limit
      → (report : (explore_work cases hops limit sides).comes given (text ended whole)) → ReportTells cases hops limit sides ended whole given report
  report_tells cases hops limit sides ended whole (a_net net i asks ∷ []) shown report =
      let told = law net (with_choices cases i) hops limit sides ended whole report in record { headline = told; read_back = told.read_back shown }
  report_tells cases hops limit sides ended whole given shown report = absurd report

  -- what the words may say may be shown
  shown_by : (cases hops limit : ℕ) → AreBounds MOST_LIMIT hops limit cases → MayBeShown cases hops limit
  shown_by cases hops limit h = record {
    least_choices = h.1;
    most_choices = h.2;
    least_hops = h.0.0;
    most_hops = h.0.1;
    least_limit = h.0.2;
    most_limit = h.0.3;
  }

  tells_more : (c : Command) → HasRanges c → (given : List Given) (status : Status) (part : List ℕ) (ends : Ends (work c) given status part)
      → TellsMore c given status part ends
  tells_more (explore job hops limit cases pruned) ranged given Done part ends =
      report_tells cases hops limit pruned ending.Done part given (shown_by cases hops limit ranged) ends
  tells_more (explore job hops limit cases pruned) ranged given Partial part ends =
      report_tells cases hops limit pruned ending.Partial part given (shown_by cases hops limit ranged) ends
  tells_more c ranged given status part ends = tt

  module _ {S : Type 0} (o : Outside S) (u v : S) (c : Command) (ranged : HasRanges c) {K : Type 0} (told : K → SinkTold) (gives : K → List ℕ → Put → K → Type 0) (old new : K) where
    ended_so : (given : List Given) → AllOpen o u (inputs c) given v → (status : Status) (part : List ℕ) → Ends (work c) given status part
        → IsRunOf o u v c status part
    ended_so given opened status part ends = performed given opened ends (tells_more c ranged given status part ends)

    -- the run, and how its text was put
    abbrev Ran : Status → Type 0
    Ran status = (part : List ℕ) × IsRunOf o u v c status part × IsPutWith told gives old new status part

    pub run_of : (answer : Result Ending Stop) → Runs told gives old new o u v (inputs c) (work c) answer → Ran (status_of answer)
    run_of (Ok ending.Done) (given, opened, (whole, comes, gained)) = (whole, ended_so given opened Done whole comes, gained)
    run_of (Ok ending.Partial) (given, opened, (whole, comes, gained)) = (whole, ended_so given opened Partial whole comes, gained)
    run_of (Err (ByInput fault)) h = ([], unopened fault h.0 refl refl, input_unput told gives old new fault h.1)
    run_of (Err (Own fault)) (given, opened, h) =
        ([], ended_so given opened (own_status fault) [] (own_ends (work c) given fault h.1), own_unput told gives old new fault h.0)
    run_of (Err Write) (given, opened, (part, cut, gained)) = (part, ended_so given opened WriteFault part cut, gained)
    run_of (Err NoRoom) (given, opened, (part, left, gained)) = (part, ended_so given opened NoMemory part (inr left), gained)

-- the words said the command
module _ (law : (net : Network) (i : Entry) (hops : ℕ) → ReportsTellWalks net i hops) {S : Type 0} (o : Outside S) (u v : S) (c : Command) (ranged : HasRanges c)
    {K : Type 0} (told : K → SinkTold) (gives : K → List ℕ → Put → K → Type 0) (old new : K) where
  pub run_said : (said : Option Command) → Some c ≡ said → (answer : Result Ending Stop) (status : Status) → status ≡ status_of answer
      → Runs told gives old new o u v (inputs c) (work c) answer
      → (part : List ℕ) × IsRun o u v said status part × IsPutWith told gives old new status part × ((told new).taken ≡ append_known (told old).taken part)
  run_said said named answer status tells ran =
      let (part, is, put) = run_of law o u v c ranged told gives old new answer ran in
      let with_it : IsPutWith told gives old new status part = subst (λ s. IsPutWith told gives old new s part) (sym tells) put in
      (part, subst (λ r. IsRun o u v r status part) named (subst (λ s. IsRunOf o u v c s part) (sym tells) is), with_it, put_taken told gives old new status part with_it)

-- memory ended while the words were read
module _ {S : Type 0} (o : Outside S) (u : S) {K : Type 0} (told : K → SinkTold) (gives : K → List ℕ → Put → K → Type 0) (held : K) where
  unput : IsPutWith told gives held held NoMemory []
  unput = until_all told gives held held [] (takes_none told gives held)

  pub unread_run : (said : Option Command) → (part : List ℕ) × IsRun o u u said NoMemory part × IsPutWith told gives held held NoMemory part
      × ((told held).taken ≡ append_known (told held).taken part)
  unread_run None = ([], (inr refl, refl, refl), unput, known_alone (told held).taken)
  unread_run (Some c) = ([], unbegun refl refl refl, unput, known_alone (told held).taken)

-- ---- what it tells

module _ {S : Type 0} (o : Outside S) (u v : S) (is : List Input) (w : OwnWork) where
  cause_ends : (given : List Given) → AllOpen o u is given v → (status : Status) (part : List ℕ) → Ends w given status part → Cause o u v is w status
  cause_ends given opened Done part h = (part, (given, opened, h))
  cause_ends given opened Partial part h = (part, (given, opened, h))
  cause_ends given opened NoMemory part h = tt
  cause_ends given opened WriteFault part h = (given, opened)
  cause_ends given opened (BadTable name line kind) part h = inr (given, opened, h.1)
  cause_ends given opened (BadPacket kind) part h = (given, opened, h.1)
  cause_ends given opened (TooMany count) part h = (given, opened, h.1)
  cause_ends given opened (BadReport kind pointer) part h = (given, opened, h.1)
  cause_ends given opened (NotConfirmed number kind) part h = (given, opened, h.1)
  cause_ends given opened (BadAsk number kind) part h = (given, opened, h.1)
  cause_ends given opened (BadCompare kind one other) part h = (given, opened, h.1)
  cause_ends given opened status part h = absurd h

  writes_ends : (given : List Given) → AllOpen o u is given v → (status : Status) (part : List ℕ) → Ends w given status part → Writes o u v is w status part
  writes_ends given opened Done part h = (given, opened, h)
  writes_ends given opened Partial part h = (given, opened, h)
  writes_ends given opened NoMemory part (inl none) = inl none
  writes_ends given opened NoMemory part (inr left) = inr (given, opened, left)
  writes_ends given opened WriteFault part h = (given, opened, h)
  writes_ends given opened (BadTable name line kind) part h = h.0
  writes_ends given opened (BadPacket kind) part h = h.0
  writes_ends given opened (TooMany count) part h = h.0
  writes_ends given opened (BadReport kind pointer) part h = h.0
  writes_ends given opened (NotConfirmed number kind) part h = h.0
  writes_ends given opened (BadAsk number kind) part h = h.0
  writes_ends given opened (BadCompare kind one other) part h = h.0
  writes_ends given opened status part h = absurd h

  cause_input : (fault : InputFault) → Stops o u v is w fault → Cause o u v is w (input_status fault)
  cause_input (input.NoFile name) h = h
  cause_input (input.ReadFault name) h = h
  cause_input (input.TooBig name) h = h
  cause_input (input.Syntax line column kind) h = h
  cause_input (input.BadTable name line kind) h = inl h
  cause_input (input.BadPattern site) h = h
  cause_input (input.Refused site kind) h = h
  cause_input input.NoMemory h = tt

  nothing_input : (fault : InputFault) → Writes o u v is w (input_status fault) []
  nothing_input input.NoMemory = inl refl
  nothing_input (input.NoFile name) = refl
  nothing_input (input.ReadFault name) = refl
  nothing_input (input.TooBig name) = refl
  nothing_input (input.Syntax line column kind) = refl
  nothing_input (input.BadTable name line kind) = refl
  nothing_input (input.BadPattern site) = refl
  nothing_input (input.Refused site kind) = refl

module _ {S : Type 0} (o : Outside S) (u v : S) where
  cause_of : (c : Command) (status : Status) (part : List ℕ) → IsRunOf o u v c status part → Cause o u v (inputs c) (work c) status
  cause_of c status part (unbegun is same none) = subst (Cause o u v (inputs c) (work c)) (sym is) tt
  cause_of c status part (unopened fault fails is none) =
      subst (Cause o u v (inputs c) (work c)) (sym is) (cause_input o u v (inputs c) (work c) fault fails)
  cause_of c status part (performed given opened ends more) = cause_ends o u v (inputs c) (work c) given opened status part ends

  pub run_caused : (said : Option Command) (status : Status) (part : List ℕ) → IsRun o u v said status part → IsCaused o u v said status
  run_caused None status part h = (h.0, h.1)
  run_caused (Some c) status part h = cause_of c status part h

  writes_of : (c : Command) (status : Status) (part : List ℕ) → IsRunOf o u v c status part → Writes o u v (inputs c) (work c) status part
  writes_of c status part (unbegun is same none) = subst (λ s. Writes o u v (inputs c) (work c) s part) (sym is) (inl none)
  writes_of c status part (unopened fault fails is none) =
      subst (λ s. Writes o u v (inputs c) (work c) s part) (sym is)
      (subst (Writes o u v (inputs c) (work c) (input_status fault)) (sym none) (nothing_input o u v (inputs c) (work c) fault))
  writes_of c status part (performed given opened ends more) = writes_ends o u v (inputs c) (work c) given opened status part ends

  pub run_written : (said : Option Command) (status : Status) (part : List ℕ) → IsRun o u v said status part → MayWrite o u v said status part
  run_written None status part h = h.2
  run_written (Some c) status part h = writes_of c status part h

-- a text was written whole
abbrev IsWhole : Status → Type 0
IsWhole Done = Unit {0}
IsWhole Partial = Unit {0}
IsWhole _ = ⊥

ended_whole : (ended : Ending) → IsWhole (status_of (Ok ended))
ended_whole ending.Done = tt
ended_whole ending.Partial = tt

no_input : (fault : InputFault) → IsWhole (input_status fault) → ⊥
no_input (input.NoFile name) h = h
no_input (input.ReadFault name) h = h
no_input (input.TooBig name) h = h
no_input (input.Syntax line column kind) h = h
no_input (input.BadTable name line kind) h = h
no_input (input.BadPattern site) h = h
no_input (input.Refused site kind) h = h
no_input input.NoMemory h = h

module _ {S : Type 0} (o : Outside S) (u v : S) (job : List ℕ) (cases hops limit : ℕ) (pruned : RefutedSides) where
  -- the report of what the input gave, and what it tells
  abbrev Report : List Given → Ending → List ℕ → Type 0
  Report given ended part =
      (report : (explore_work cases hops limit pruned).comes given (text ended part)) × ReportTells cases hops limit pruned ended part given report

  report_of : (given : List Given) (ended : Ending) (part : List ℕ) (ends : Ends (work (explore job hops limit cases pruned)) given (status_of (Ok ended)) part)
      → TellsMore (explore job hops limit cases pruned) given (status_of (Ok ended)) part ends → Report given ended part
  report_of given ending.Done part ends more = (ends, more)
  report_of given ending.Partial part ends more = (ends, more)

  job_by : (ended : Ending) (part : List ℕ) (given : List Given) → AllOpen o u (inputs (explore job hops limit cases pruned)) given v → Report given ended part
      → TellsJob o u v job cases hops limit pruned ended part
  job_by ended part given (g, m, (j, between, has, net, i, taken, is), rest, (none, last), all) report =
      let own : Report (a_net net i j.asks ∷ []) ended part =
      subst (λ gs. Report gs ended part) (all ∙ (ap (λ x. x ∷ rest) is ∙ ap (λ r. a_net net i j.asks ∷ r) none)) report in record {
        job = j;
        between = between;
        in_file = has;
        net = net;
        injection = i;
        accepted = subst (λ s. o.takes between j net i s) (sym last) taken;
        report = own.0;
        walks = own.1;
      }

  pub run_told : (ended : Ending) (part : List ℕ) → IsRunOf o u v (explore job hops limit cases pruned) (status_of (Ok ended)) part
      → TellsJob o u v job cases hops limit pruned ended part
  run_told ended part (unbegun is same none) = absurd (subst IsWhole is (ended_whole ended))
  run_told ended part (unopened fault fails is none) = absurd (no_input fault (subst IsWhole is (ended_whole ended)))
  run_told ended part (performed given opened ends more) = job_by ended part given opened (report_of given ended part ends more)
