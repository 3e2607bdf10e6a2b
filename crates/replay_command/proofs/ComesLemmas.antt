-- What `replay` comes to, by the report that the bytes show.
use Rattle.std.proofs.Common.{◌≡◌, ◌∙◌, ◌+◌, ◌≤◌, ◌<◌, ◌^◌, arith, ap, refl, sym, subst, ℕ, List, [], ◌∷◌, ◌++◌, append_assoc, length, Option, Some, None, Result, Ok, Err, IfOk, IfErr, string_bytes}
use Rattle.std.proofs.lemmas.List.{append-nil, length-append}
use Rattle.std.specs.Prelude.{String}
use Rattle.std.specs.declared.alloc.Global.{Global}
use Rattle.sefl_syntax.specs.Trees.{AskTree}
use Rattle.net_check.specs.Network.{Network, Entry, EntryParts, entry, with_choices}
use Rattle.net_check.specs.Sound.{AreOfOneJob, IsEntryOf}
use Rattle.exact_records.specs.Records.{RecordTree}
use Rattle.exact_records.specs.View.{record_trees}
use Rattle.record_text.specs.declared.report.Report.{Report}
use Rattle.path_records.specs.declared.records.Record.{Record}
use Rattle.path_report.specs.Printed.{BeginsWithAll, IsNext, IsOpened, Reading, ShowsRecords}
use Rattle.path_report.specs.Reading.{ReadsReport}
use Rattle.path_report.proofs.PrintedLemmas.{AreRead, none_read, read_more}
use Rattle.path_report.specs.declared.report.ReportFault.{ReportFault}
use Rattle.path_report.specs.declared.report.ReportFault.TheVariants.{NotJson, NotReport, NoMemory as NoReading}
use Rattle.record_checks.specs.Supplies.{HandsAll, HandsOver}
use Rattle.record_checks.specs.declared.counts.Confirmed.{Confirmed}
use Rattle.record_checks.specs.declared.fault.ReplayFault.{ReplayFault}
use Rattle.record_checks.specs.declared.fault.ReplayFault.TheVariants.{NotConfirmed as IsBroken, NoMemory as NoReplay}
use Rattle.path_replay.specs.Replaying.{ConfirmsAllFor, ConfirmsFor}
use Rattle.command_runs.specs.Inputs.{a_net, some_bytes}
use Rattle.command_edge.specs.Puts.{text}
use Rattle.command_runs.specs.Runs.{IsRefusal}
use Rattle.command_edge.specs.declared.ending.Ending.TheVariants.{Done}
use Rattle.command_edge.specs.declared.fault.OwnFault.{OwnFault}
use Rattle.command_edge.specs.declared.fault.OwnFault.TheVariants.{BadReport, NotConfirmed, NoMemory}
use Rattle.replay_command.specs.Replays.{CountsCome, IsBoundAgain, IsCountsText, IsNoReport, IsReplayRefusal, NoCountsCome, ReplayComes, TellsAnswer, TellsFault, choices_of, fault_of_replay}

module _ (net : Network) (bytes : List ℕ) where
  -- the refusal tells why there is no report
  pub told_report : (fault : ReportFault) (own : OwnFault) → ReadsReport net bytes (Err fault) → TellsFault fault own → IsNoReport net bytes own
  told_report NotJson (BadReport kind pointer) h t =
      record { fault = NotJson; reads = h; told = λ i. Some (sym t.0 i, sym t.1 i) }
  told_report NotJson NoMemory h t = tt
  told_report NotJson own h t = absurd t
  told_report (NotReport place) (BadReport kind pointer) h t =
      record { fault = NotReport place; reads = h; told = λ i. Some (sym t.0 i, sym t.1 i) }
  told_report (NotReport place) NoMemory h t = tt
  told_report (NotReport place) own h t = absurd t
  told_report NoReading own h t = subst (IsNoReport net bytes) (sym t) tt

-- and why there are no counts
pub told_replay : (net : Network) (i : Entry) (hops : ℕ) (records : List RecordTree) (fault : ReplayFault) → ConfirmsFor net i hops records (Err fault)
    → IsReplayRefusal net i hops records (fault_of_replay fault)
told_replay net i hops records (IsBroken number part) h = (part, h, refl)
told_replay net i hops records NoReplay h = tt

-- that printed records are read, as a law
abbrev PrintedAreRead : Type 0
PrintedAreRead = (net : Network) (bytes : List ℕ) (frame : Report) (start : Reading) (items : List Record) → IsOpened net bytes frame start
    → BeginsWithAll net items start.left [] → length items < 2 ^ 63 → ShowsRecords net bytes frame.cases frame.hops items

-- what is told of an answer
module _ (net : Network) (i : Entry) (hops : ℕ) (records : List RecordTree) where
  pub answer_text : (answer : Result Confirmed ReplayFault) (result : Result (String Global) OwnFault) → ConfirmsFor net i hops records answer → TellsAnswer answer result
      → IfOk result (λ whole. IsCountsText net i hops records (string_bytes whole))
  answer_text (Ok counts) (Ok whole) h t = (counts, h, t)
  answer_text (Ok counts) (Err fault) h t = tt
  answer_text (Err fault) (Ok whole) h t = absurd t
  answer_text (Err fault) (Err own) h t = tt

  pub answer_refused : (answer : Result Confirmed ReplayFault) (result : Result (String Global) OwnFault) → ConfirmsFor net i hops records answer → TellsAnswer answer result
      → IfErr result (IsReplayRefusal net i hops records)
  answer_refused (Ok counts) (Ok whole) h t = tt
  answer_refused (Ok counts) (Err fault) h t = subst (IsReplayRefusal net i hops records) (sym t) tt
  answer_refused (Err fault) (Ok whole) h t = tt
  answer_refused (Err fault) (Err own) h t = subst (IsReplayRefusal net i hops records) (sym t) (told_replay net i hops records fault h)

module _ (net : Network) (i : Entry) (bytes : List ℕ) where
  -- why bytes give no report is why there are no counts
  pub without_report : (fault : OwnFault) → IsNoReport net bytes fault → NoCountsCome net i bytes fault
  without_report (BadReport kind pointer) h = h
  without_report NoMemory h = tt
  without_report fault h = absurd h

  module _ (report : Report) (reads : ReadsReport net bytes (Ok report)) where
    -- the injection with the bound that the report says
    abbrev bound : Entry
    bound = with_choices (choices_of report.cases) i

    records_text : (result : Result (String Global) OwnFault) → IfOk result (λ whole. IsCountsText net bound report.hops (record_trees report.records.items) (string_bytes whole))
        → IfOk result (λ whole. CountsCome net i bytes (string_bytes whole))
    records_text (Ok whole) h = record { report = report; reads = reads; holds = h }
    records_text (Err fault) h = tt

    records_refused : (result : Result (String Global) OwnFault) → IfErr result (IsReplayRefusal net bound report.hops (record_trees report.records.items))
        → IfErr result (NoCountsCome net i bytes)
    records_refused (Ok whole) h = tt
    records_refused (Err (NotConfirmed number kind)) h = record { report = report; reads = reads; holds = h }
    records_refused (Err NoMemory) h = tt
    records_refused (Err fault) h = absurd h

    -- so of the records of a report
    module _ (own : Entry) (set : own ≡ bound) (records : List Record) (is : records ≡ report.records.items) (result : Result (String Global) OwnFault) where
      pub report_text : IfOk result (λ whole. IsCountsText net own report.hops (record_trees records) (string_bytes whole))
          → IfOk result (λ whole. CountsCome net i bytes (string_bytes whole))
      report_text h = records_text result
          (subst (λ e. IfOk result (λ whole. IsCountsText net e report.hops (record_trees report.records.items) (string_bytes whole))) set
          (subst (λ rs. IfOk result (λ whole. IsCountsText net own report.hops (record_trees rs) (string_bytes whole))) is h))

      pub report_refused : IfErr result (IsReplayRefusal net own report.hops (record_trees records)) → IfErr result (NoCountsCome net i bytes)
      report_refused h = records_refused result
          (subst (λ e. IfErr result (IsReplayRefusal net e report.hops (record_trees report.records.items))) set
          (subst (λ rs. IfErr result (IsReplayRefusal net own report.hops (record_trees rs))) is h))

  -- and of records that are shown
  module _ (cases : Option ℕ) (hops : ℕ) (records : List Record) (shows : ShowsRecords net bytes cases hops records) (answer : Result Confirmed ReplayFault)
      (confirms : ConfirmsFor net (with_choices (choices_of cases) i) hops (record_trees records) answer) (result : Result (String Global) OwnFault) (tells : TellsAnswer answer result) where
    of_report : ConfirmsFor net (bound shows.report shows.reads) shows.report.hops (record_trees shows.report.records.items) answer
    of_report =
        subst (λ c. ConfirmsFor net (with_choices (choices_of c) i) shows.report.hops (record_trees shows.report.records.items) answer) (sym shows.same_cases)
        (subst (λ n. ConfirmsFor net (with_choices (choices_of cases) i) n (record_trees shows.report.records.items) answer) (sym shows.same_hops)
        (subst (λ rs. ConfirmsFor net (with_choices (choices_of cases) i) hops (record_trees rs) answer) (sym shows.same_records) confirms))

    shown_text : IfOk result (λ whole. CountsCome net i bytes (string_bytes whole))
    shown_text = records_text shows.report shows.reads result (answer_text net (bound shows.report shows.reads) shows.report.hops (record_trees shows.report.records.items) answer result of_report tells)

    shown_refused : IfErr result (NoCountsCome net i bytes)
    shown_refused = records_refused shows.report shows.reads result (answer_refused net (bound shows.report shows.reads) shows.report.hops (record_trees shows.report.records.items) answer result of_report tells)

-- records that are read one after another
module _ {S : Type 0} (net : Network) (read : S → Reading) where
  abbrev steps : S → Option Record → S → Type 0
  steps u found v = IsNext net (read u) found (read v)

  all_read : (body : List ℕ) (u : S) (items xs : List Record) (v : S) → AreRead net body items (read u) → HandsOver steps u xs v → AreRead net body (items ++ xs) (read v)
  all_read body u items [] v h is =
      subst (λ s. AreRead net body (items ++ []) (read s)) (sym is) (subst (λ ys. AreRead net body ys (read u)) (sym (append-nil items)) h)
  all_read body u items (x ∷ xs) v h (m, step, rest) =
      subst (λ ys. AreRead net body ys (read v)) (append_assoc items (x ∷ []) xs) (all_read body m (items ++ x ∷ []) xs v (read_more net body items (read u) x (read m) h step) rest)

  -- where no text is left, the bytes show them
  shown : PrintedAreRead → (bytes : List ℕ) (frame : Report) (u v : S) (xs : List Record) → length bytes < 2 ^ 63 → IsOpened net bytes frame (read u) → HandsAll steps u xs v
      → (read v).left ≡ [] → ShowsRecords net bytes frame.cases frame.hops xs
  shown law bytes frame u v xs short opened all over =
      let body = (read u).left in
      let read_all : AreRead net body xs (read v) =
      subst (AreRead net body xs) (sym all.last) (all_read body u [] xs all.before (none_read net body (read u) opened.first refl) all.over) in
      let few : length xs < 2 ^ 63 =
      let cut = ap length opened.cut ∙ (length-append opened.head (body ++ opened.tail) ∙ ap (λ n. length opened.head + n) (length-append body opened.tail)) in
      let most = read_all.few in
      omega (arith, cut, most, short) in
      law net bytes frame (read u) xs opened (subst (BeginsWithAll net xs body) over read_all.begins) few

  module _ (law : PrintedAreRead) (i : Entry) (bytes : List ℕ) (frame : Report) (u v : S) (short : length bytes < 2 ^ 63) (opened : IsOpened net bytes frame (read u))
      (over : (read v).left ≡ []) where
    pub printed_text : (answer : Result Confirmed ReplayFault) (result : Result (String Global) OwnFault) → ConfirmsAllFor net (with_choices (choices_of frame.cases) i) frame.hops steps u v answer → TellsAnswer answer result
        → IfOk result (λ whole. CountsCome net i bytes (string_bytes whole))
    printed_text (Ok counts) result (xs, all, h) tells =
        shown_text net i bytes frame.cases frame.hops xs (shown law bytes frame u v xs short opened all over) (Ok counts) h result tells
    printed_text (Err (IsBroken number part)) result (xs, all, h) tells =
        shown_text net i bytes frame.cases frame.hops xs (shown law bytes frame u v xs short opened all over) (Err (IsBroken number part)) h result tells
    printed_text (Err NoReplay) (Ok whole) h tells = absurd tells
    printed_text (Err NoReplay) (Err fault) h tells = tt

    pub printed_refused : (answer : Result Confirmed ReplayFault) (result : Result (String Global) OwnFault) → ConfirmsAllFor net (with_choices (choices_of frame.cases) i) frame.hops steps u v answer → TellsAnswer answer result
        → IfErr result (NoCountsCome net i bytes)
    printed_refused (Ok counts) result (xs, all, h) tells =
        shown_refused net i bytes frame.cases frame.hops xs (shown law bytes frame u v xs short opened all over) (Ok counts) h result tells
    printed_refused (Err (IsBroken number part)) result (xs, all, h) tells =
        shown_refused net i bytes frame.cases frame.hops xs (shown law bytes frame u v xs short opened all over) (Err (IsBroken number part)) h result tells
    printed_refused (Err NoReplay) (Ok whole) h tells = absurd tells
    printed_refused (Err NoReplay) (Err fault) h tells = subst (NoCountsCome net i bytes) (sym tells) tt

-- of the net that the code names, which is the job's, and of the injection whose bound was set
module _ {S : Type 0} (u v : S) (read : S → Reading) (net own : Network) (same : own ≡ net) (i : Entry) (frame : Report) (bound : Entry)
    (set : bound ≡ with_choices (choices_of frame.cases) i) (answer : Result Confirmed ReplayFault)
    (confirms : ConfirmsAllFor own bound frame.hops (λ a found b. IsNext net (read a) found (read b)) u v answer) (law : PrintedAreRead) (bytes : List ℕ)
    (short : length bytes < 2 ^ 63) (opened : IsOpened net bytes frame (read u)) (over : (read v).left ≡ []) (result : Result (String Global) OwnFault)
    (tells : TellsAnswer answer result) where
  of_net : ConfirmsAllFor net (with_choices (choices_of frame.cases) i) frame.hops (steps net read) u v answer
  of_net =
      subst (λ n. ConfirmsAllFor n (with_choices (choices_of frame.cases) i) frame.hops (steps net read) u v answer) same
      (subst (λ e. ConfirmsAllFor own e frame.hops (steps net read) u v answer) set confirms)

  pub read_text : IfOk result (λ whole. CountsCome own i bytes (string_bytes whole))
  read_text = subst (λ n. IfOk result (λ whole. CountsCome n i bytes (string_bytes whole))) (sym same)
      (printed_text net read law i bytes frame u v short opened over answer result of_net tells)

  pub read_refused : IfErr result (NoCountsCome own i bytes)
  read_refused = subst (λ n. IfErr result (NoCountsCome n i bytes)) (sym same)
      (printed_refused net read law i bytes frame u v short opened over answer result of_net tells)

-- the bound was set
pub set_again : (before after : EntryParts) (n most : ℕ) → after ≡ record before { most_choices = n } → n ≡ most → entry after ≡ with_choices most (entry before)
set_again before after n most set is = ap entry set ∙ ap (λ m. with_choices m (entry before)) is

-- what is so of an injection is so of it with another bound, where the bound of a report stands in its place
module _ (net : Network) (before after : EntryParts) (again : IsBoundAgain before after) where
  pub again_of_job : AreOfOneJob net (entry before) → AreOfOneJob net (entry after)
  again_of_job (j, sound, of_net, of_entry) =
      (j, sound, of_net, subst (λ parts. IsEntryOf j (entry parts)) (sym again.1) (record { own = of_entry.own; node = of_entry.node }))

  module _ (bytes : List ℕ) where
    pub again_text : (result : Result (String Global) OwnFault) → IfOk result (λ whole. CountsCome net (entry after) bytes (string_bytes whole))
        → IfOk result (λ whole. CountsCome net (entry before) bytes (string_bytes whole))
    again_text (Ok whole) h = subst (λ parts. CountsCome net (entry parts) bytes (string_bytes whole)) again.1 h
    again_text (Err fault) h = tt

    none_again : (fault : OwnFault) → NoCountsCome net (entry after) bytes fault → NoCountsCome net (entry before) bytes fault
    none_again (BadReport kind pointer) h = h
    none_again (NotConfirmed number kind) h = subst (λ parts. NoCountsCome net (entry parts) bytes (NotConfirmed number kind)) again.1 h
    none_again NoMemory h = tt
    none_again fault h = absurd h

    pub again_refused : (result : Result (String Global) OwnFault) → IfErr result (NoCountsCome net (entry after) bytes) → IfErr result (NoCountsCome net (entry before) bytes)
    again_refused (Ok whole) h = tt
    again_refused (Err fault) h = none_again fault h

module _ (net : Network) (i : Entry) (asks : List AskTree) (bytes : List ℕ) where
  -- there are no counts
  pub none_come : (fault : OwnFault) → NoCountsCome net i bytes fault → IsRefusal (ReplayComes (a_net net i asks ∷ some_bytes bytes ∷ [])) fault
  none_come (BadReport kind pointer) h = h
  none_come (NotConfirmed number kind) h = h
  none_come NoMemory h = tt
  none_come fault h = absurd h

  -- or this is the text of them
  pub counts_come : (whole : List ℕ) → CountsCome net i bytes whole → ReplayComes (a_net net i asks ∷ some_bytes bytes ∷ []) (text Done whole)
  counts_come whole h = (refl, h)
