-- What `replay` of all records comes to, by the report that the bytes show.
use Rattle.std.proofs.Common.{◌≡◌, ◌∙◌, ap, inl, inr, refl, sym, subst, ℕ, List, [], ◌∷◌, length, Result, Ok, Err, IfOk, IfErr, string_bytes}
use Rattle.std.specs.Prelude.{String}
use Rattle.std.specs.declared.alloc.Global.{Global}
use Rattle.sefl_syntax.specs.Trees.{AskTree}
use Rattle.net_check.specs.Network.{Network, Entry, EntryParts, entry, with_choices}
use Rattle.exact_records.specs.Records.{RecordTree}
use Rattle.exact_records.specs.View.{record_trees}
use Rattle.path_records.specs.declared.records.Record.{Record}
use Rattle.record_text.specs.declared.report.Report.{Report}
use Rattle.path_report.specs.Reading.{ReadsReport}
use Rattle.record_checks.specs.declared.counts.Confirmed.{Confirmed}
use Rattle.whole_checks.specs.Confirming.{Answer}
use Rattle.whole_checks.specs.Walks.{ShowEachWalk}
use Rattle.whole_checks.specs.declared.fault.WholeFault.{WholeFault}
use Rattle.whole_checks.specs.declared.fault.WholeFault.TheVariants.{NotConfirmed as IsBroken, NotWhole, NoMemory as NoWhole}
use Rattle.path_replay.specs.Replaying.{ConfirmsWholeFor, TellPackets}
use Rattle.command_runs.specs.Inputs.{a_net, some_bytes}
use Rattle.command_edge.specs.Puts.{text}
use Rattle.command_runs.specs.Runs.{IsRefusal}
use Rattle.command_edge.specs.declared.ending.Ending.TheVariants.{Done}
use Rattle.command_edge.specs.declared.fault.OwnFault.{OwnFault}
use Rattle.command_edge.specs.declared.fault.OwnFault.TheVariants.{BadReport, NotConfirmed, NoMemory}
use Rattle.replay_command.specs.Counted.{confirmed_text}
use Rattle.replay_command.specs.Replays.{IsNoReport, choices_of}
use Rattle.replay_command.specs.Wholes.{HasHead, IsHeadRefusal, IsWholeRefusal, IsWholeText, NoWholeComes, WholeComes, WholeTextComes, fault_of_whole, told_by}

module _ (net : Network) (i : Entry) (report : Report) (own : Entry) (set : own ≡ with_choices (choices_of report.cases) i) where
  -- why its records are not whole
  pub whole_refused : (fault : WholeFault) → ConfirmsWholeFor net own report.hops (record_trees report.records.items) (Err fault) → IsWholeRefusal net i (told_by report) (fault_of_whole fault)
  whole_refused (IsBroken number part) h = inl (record {
    fault = IsBroken number part;
    confirms = subst (λ e. ConfirmsWholeFor net e report.hops (record_trees report.records.items) (Err (IsBroken number part))) set h;
    told = refl;
  })
  whole_refused (NotWhole number) h = inl (record {
    fault = NotWhole number;
    confirms = subst (λ e. ConfirmsWholeFor net e report.hops (record_trees report.records.items) (Err (NotWhole number))) set h;
    told = refl;
  })
  whole_refused NoWhole h = tt

  module _ (counts : Confirmed) (h : ConfirmsWholeFor net own report.hops (record_trees report.records.items) (Ok counts)) where
    confirms : ConfirmsWholeFor net (with_choices (choices_of report.cases) i) report.hops (record_trees report.records.items) (Ok counts)
    confirms = subst (λ e. ConfirmsWholeFor net e report.hops (record_trees report.records.items) (Ok counts)) set h

    -- or what the report says beside them is not so
    head_refused : (fault : OwnFault) → IsHeadRefusal (told_by report) counts fault → IsWholeRefusal net i (told_by report) fault
    head_refused (NotConfirmed number kind) k = inr (record { counts = counts; confirms = confirms; other = k })
    head_refused NoMemory k = tt
    head_refused fault k = absurd k

    pub heads_refused : (result : Result (String Global) OwnFault) → IfErr result (IsHeadRefusal (told_by report) counts) → IfErr result (IsWholeRefusal net i (told_by report))
    heads_refused (Ok whole) k = tt
    heads_refused (Err fault) k = head_refused fault k

    -- this is their text
    pub heads_text : TellPackets net own report.hops (record_trees report.records.items) → ShowEachWalk net own report.hops (record_trees report.records.items)
        → (result : Result (String Global) OwnFault) → IfOk result (λ whole. HasHead (told_by report) counts × (string_bytes whole ≡ confirmed_text counts))
        → IfOk result (λ whole. IsWholeText net i (told_by report) (string_bytes whole))
    heads_text packets walks (Ok whole) k = record {
      counts = counts;
      confirms = confirms;
      packets = subst (λ e. TellPackets net e report.hops (record_trees report.records.items)) set packets;
      walks = subst (λ e. ShowEachWalk net e report.hops (record_trees report.records.items)) set walks;
      head = k.0;
      written = k.1;
    }
    heads_text packets walks (Err fault) k = tt

-- the text for each injection that differs in the bound alone
module _ (net : Network) (own : Entry) (report : Report) (records : List Record) (is : records ≡ report.records.items) (counts : Confirmed) where
  pub text_for_each : ConfirmsWholeFor net own report.hops (record_trees records) (Ok counts) → TellPackets net own report.hops (record_trees records)
      → ShowEachWalk net own report.hops (record_trees records) → (result : Result (String Global) OwnFault)
      → IfOk result (λ whole. HasHead (told_by report) counts × (string_bytes whole ≡ confirmed_text counts))
      → IfOk result (λ whole. (i : Entry) → own ≡ with_choices (choices_of report.cases) i → IsWholeText net i (told_by report) (string_bytes whole))
  text_for_each h packets walks (Ok whole) k = λ i set. heads_text net i report own set counts
      (subst (λ rs. ConfirmsWholeFor net own report.hops (record_trees rs) (Ok counts)) is h)
      (subst (λ rs. TellPackets net own report.hops (record_trees rs)) is packets)
      (subst (λ rs. ShowEachWalk net own report.hops (record_trees rs)) is walks) (Ok whole) k
  text_for_each h packets walks (Err fault) k = tt

module _ (net : Network) (i : Entry) (bytes : List ℕ) where
  -- bytes that show no report
  pub none_read : (fault : OwnFault) → IsNoReport net bytes fault → NoWholeComes net i bytes fault
  none_read (BadReport kind pointer) h = h
  none_read NoMemory h = tt
  none_read fault h = absurd h

  module _ (report : Report) (reads : ReadsReport net bytes (Ok report)) where
    refused_of : (fault : OwnFault) → IsWholeRefusal net i (told_by report) fault → NoWholeComes net i bytes fault
    refused_of (NotConfirmed number kind) h = record { report = report; reads = reads; holds = h }
    refused_of NoMemory h = tt
    refused_of fault h = absurd h

    pub read_refused : (result : Result (String Global) OwnFault) → IfErr result (IsWholeRefusal net i (told_by report)) → IfErr result (NoWholeComes net i bytes)
    read_refused (Ok whole) h = tt
    read_refused (Err fault) h = refused_of fault h

    pub read_text : (result : Result (String Global) OwnFault) → IfOk result (λ whole. IsWholeText net i (told_by report) (string_bytes whole))
        → IfOk result (λ whole. WholeTextComes net i bytes (string_bytes whole))
    read_text (Ok whole) h = record { report = report; reads = reads; holds = h }
    read_text (Err fault) h = tt

    module _ (own : Entry) (set : own ≡ with_choices (choices_of report.cases) i) (result : Result (String Global) OwnFault) where
      at_once : (r : Result (String Global) OwnFault)
          → IfOk r (λ whole. (j : Entry) → own ≡ with_choices (choices_of report.cases) j → IsWholeText net j (told_by report) (string_bytes whole))
          → IfOk r (λ whole. IsWholeText net i (told_by report) (string_bytes whole))
      at_once (Ok whole) h = h i set
      at_once (Err fault) h = tt

      pub text_comes : IfOk result (λ whole. (j : Entry) → own ≡ with_choices (choices_of report.cases) j → IsWholeText net j (told_by report) (string_bytes whole))
          → IfOk result (λ whole. WholeTextComes net i bytes (string_bytes whole))
      text_comes h = read_text result (at_once result h)

      refused_at_once : (r : Result (String Global) OwnFault)
          → IfErr r (λ fault. (j : Entry) → own ≡ with_choices (choices_of report.cases) j → IsWholeRefusal net j (told_by report) fault)
          → IfErr r (IsWholeRefusal net i (told_by report))
      refused_at_once (Ok whole) h = tt
      refused_at_once (Err fault) h = h i set

      pub refusal_comes : IfErr result (λ fault. (j : Entry) → own ≡ with_choices (choices_of report.cases) j → IsWholeRefusal net j (told_by report) fault)
          → IfErr result (NoWholeComes net i bytes)
      refusal_comes h = read_refused result (refused_at_once result h)

module _ (net : Network) (i : Entry) (asks : List AskTree) (bytes : List ℕ) where
  pub none_whole : (fault : OwnFault) → NoWholeComes net i bytes fault → IsRefusal (WholeComes (a_net net i asks ∷ some_bytes bytes ∷ [])) fault
  none_whole (BadReport kind pointer) h = h
  none_whole (NotConfirmed number kind) h = h
  none_whole NoMemory h = tt
  none_whole fault h = absurd h

  pub whole_comes : (whole : List ℕ) → WholeTextComes net i bytes whole → WholeComes (a_net net i asks ∷ some_bytes bytes ∷ []) (text Done whole)
  whole_comes whole h = (refl, h)
