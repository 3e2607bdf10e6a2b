-- What `replay` comes to of the bytes of a report is one thing.
use Rattle.std.proofs.Common.{◌≡◌, inl, inr, refl, sym, ap, subst, ◌∙◌, ℕ, List, [], ◌∷◌, map, Option, Some, Result, Ok, Err, string_bytes}
use Rattle.std.proofs.lemmas.Option.{none-some}
use Rattle.serde_json.specs.Data.{Data}
use Rattle.net_check.specs.Network.{Network, Entry, with_choices}
use Rattle.exact_records.specs.Records.{RecordTree, path, pruned, unexplored}
use Rattle.exact_records.specs.View.{record_tree, record_trees}
use Rattle.path_records.specs.declared.records.Record.{Record}
use Rattle.path_records.specs.declared.records.Record.TheVariants.{Path, Pruned, Unexplored}
use Rattle.report_shape.specs.declared.part.Part.TheVariants as part
use Rattle.report_shape.specs.Faults.{fault}
use Rattle.report_shape.specs.Reads.{IsTextOf}
use Rattle.report_names.specs.Names.{knows}
use Rattle.record_text.specs.declared.report.Report.{Report}
use Rattle.record_text.specs.Reports.{data_of}
use Rattle.report_forms.specs.Fits.{ReportFits}
use Rattle.report_forms.specs.Seen as seen
use Rattle.path_report.specs.Reading.{ReadsReport}
use Rattle.path_report.specs.declared.report.ReportFault.{ReportFault}
use Rattle.path_report.specs.declared.report.ReportFault.TheVariants.{NotJson, NotReport, NoMemory as NoReading}
use Rattle.record_checks.specs.declared.counts.Confirmed.{Confirmed}
use Rattle.record_checks.specs.declared.fault.ReplayFault.{ReplayFault}
use Rattle.record_checks.specs.declared.fault.ReplayFault.TheVariants.{NotConfirmed as IsBroken, NoMemory as NoReplay}
use Rattle.path_replay.specs.Replaying.{ConfirmsFor, IsConfirmedBackFor}
use Rattle.command_edge.specs.Puts.{Outcome, text, refused}
use Rattle.command_edge.specs.declared.fault.OwnFault.TheVariants.{BadReport, NotConfirmed}
use Rattle.replay_command.specs.Counted.{confirmed_text}
use Rattle.replay_command.specs.Replays.{IsBadReport, IsCountsText, IsFirstOther, OfReport, ReplayOf, part_kind, report_kind, choices_of}

some_same : {A : Type 0} {a b : A} → Some a ≡ Some b → a ≡ b
some_same e = cc

-- ---- one report

same_value : (bytes : List ℕ) (d e : Data) → IsTextOf bytes d → IsTextOf bytes e → d ≡ e
same_value bytes d e a b = some_same (sym a.value ∙ b.value)

-- a record, from its lists
abbrev pub tree_of : seen.RecordSeen → RecordTree
tree_of (seen.path ds places end' fields verdict) = path ds places end' fields verdict
tree_of (seen.pruned ds before refutation) = pruned ds before refutation
tree_of (seen.unexplored ds) = unexplored ds

tree_seen : (x : Record) → record_tree x ≡ tree_of (seen.record_seen x)
tree_seen (Path decisions places end' fields verdict) = refl
tree_seen (Pruned decisions before refutation) = refl
tree_seen (Unexplored decisions) = refl

pub trees_seen : (xs : List Record) → record_trees xs ≡ map tree_of (map seen.record_seen xs)
trees_seen [] = refl
trees_seen (x ∷ xs) = λ i. tree_seen x i ∷ trees_seen xs i

-- the JSON of a report is that of no other
abbrev pub IsOneReport : Type 0
IsOneReport = (net : Network) (report found : Report) → ReportFits net report → ReportFits net found → data_of net report ≡ data_of net found
    → seen.report_seen report ≡ seen.report_seen found

module _ (one : IsOneReport) (net : Network) (bytes : List ℕ) where
  pub same_report : (a b : Report) → ReadsReport net bytes (Ok a) → ReadsReport net bytes (Ok b) → seen.report_seen a ≡ seen.report_seen b
  same_report a b x y = one net a b x.2 y.2 (same_value bytes (data_of net a) (data_of net b) x.0 y.0)

  -- a fact of the report of the bytes is one of any report of them
  of_one : (P Q : ℕ → ℕ → List RecordTree → Type 0) (a : OfReport net bytes P) (b : OfReport net bytes Q)
      → Q (choices_of a.report.cases) a.report.hops (record_trees a.report.records.items)
  of_one P Q a b =
      let same = same_report b.report a.report b.reads a.reads in
      let trees : record_trees b.report.records.items ≡ record_trees a.report.records.items =
      trees_seen b.report.records.items ∙ (ap (λ (r : seen.ReportSeen). map tree_of r.records) same ∙ sym (trees_seen a.report.records.items)) in
      subst (λ (cases : Option ℕ). Q (choices_of cases) a.report.hops (record_trees a.report.records.items)) (ap (λ (r : seen.ReportSeen). r.cases) same)
      (subst (λ (hops : ℕ). Q (choices_of b.report.cases) hops (record_trees a.report.records.items)) (ap (λ (r : seen.ReportSeen). r.hops) same)
      (subst (Q (choices_of b.report.cases) b.report.hops) trees b.holds))

  -- bytes that show a report are not refused as none
  pub fault_or_report : (f : ReportFault) (told : ℕ × List ℕ) (report : Report) → ReadsReport net bytes (Err f) → report_kind f ≡ Some told
      → ReadsReport net bytes (Ok report) → ⊥
  fault_or_report NotJson told report h e r = h (data_of net report) r.0
  fault_or_report (NotReport place) told report h e r =
      none-some (string_bytes place)
      (sym r.1 ∙ (ap (fault (knows net) part.Report) (same_value bytes (data_of net report) h.0 r.0 h.1) ∙ h.2))
  fault_or_report NoReading told report h e r = none-some told e

  bad_or_report : (kind : ℕ) (pointer : List ℕ) (P : ℕ → ℕ → List RecordTree → Type 0) → IsBadReport net bytes kind pointer → OfReport net bytes P → ⊥
  bad_or_report kind pointer P bad of = fault_or_report bad.fault (kind, pointer) of.report bad.reads bad.told of.reads

  same_fault : (f g : ReportFault) (p q : ℕ × List ℕ) → ReadsReport net bytes (Err f) → report_kind f ≡ Some p
      → ReadsReport net bytes (Err g) → report_kind g ≡ Some q → p ≡ q
  same_fault NotJson NotJson p q h e k e' = some_same (sym e ∙ e')
  same_fault NotJson (NotReport place) p q h e k e' = absurd (h k.0 k.1)
  same_fault NotJson NoReading p q h e k e' = absurd (none-some q e')
  same_fault (NotReport place) NotJson p q h e k e' = absurd (k h.0 h.1)
  same_fault (NotReport place) (NotReport place') p q h e k e' =
      let places : string_bytes place ≡ string_bytes place' =
      some_same (sym h.2 ∙ (ap (fault (knows net) part.Report) (same_value bytes h.0 k.0 h.1 k.1) ∙ k.2)) in
      some_same (sym e ∙ (ap (λ (t : List ℕ). Some (2, t)) places ∙ e'))
  same_fault (NotReport place) NoReading p q h e k e' = absurd (none-some q e')
  same_fault NoReading g p q h e k e' = absurd (none-some p e)

  pub same_bad : (kind kind' : ℕ) (pointer pointer' : List ℕ) → IsBadReport net bytes kind pointer → IsBadReport net bytes kind' pointer'
      → refused (BadReport kind pointer) ≡ refused (BadReport kind' pointer')
  same_bad kind kind' pointer pointer' a b =
      ap (λ (told : ℕ × List ℕ). refused (BadReport told.0 told.1))
      (same_fault a.fault b.fault (kind, pointer) (kind', pointer') a.reads a.told b.reads b.told)

-- ---- one answer of its records

-- what is answered of records is the only answer
abbrev IsOneAnswer : Type 0
IsOneAnswer = (net : Network) (i : Entry) (hops : ℕ) (records : List RecordTree) (answer : Result Confirmed ReplayFault)
    → ConfirmsFor net i hops records answer → IsConfirmedBackFor net i hops records answer

abbrev number_in : Result Confirmed ReplayFault → ℕ
number_in (Ok counts) = 0
number_in (Err (IsBroken number part)) = number
number_in (Err NoReplay) = 0

abbrev kind_in : Result Confirmed ReplayFault → ℕ
kind_in (Ok counts) = 0
kind_in (Err (IsBroken number part)) = part_kind part
kind_in (Err NoReplay) = 0

abbrev IsRefused : Result Confirmed ReplayFault → Type 0
IsRefused (Ok counts) = ⊥
IsRefused (Err (IsBroken number part)) = Unit {0}
IsRefused (Err NoReplay) = ⊥

abbrev IsCounted : Result Confirmed ReplayFault → Type 0
IsCounted (Ok counts) = Unit {0}
IsCounted (Err fault) = ⊥

module _ (back : IsOneAnswer) (net : Network) (i : Entry) (hops : ℕ) (xs : List RecordTree) where
  counted_or_other : (whole : List ℕ) (number kind : ℕ) → IsCountsText net i hops xs whole → IsFirstOther net i hops xs number kind → ⊥
  counted_or_other whole number kind (counts, h, is) (part, k, at) =
      elim ((back net i hops xs (Ok counts) h k.start k.explored).refused number part k.holds) [
        | inl e ↦ subst IsCounted e tt
        | inr e ↦ subst IsCounted e tt
      ]

  same_counts : (whole other : List ℕ) → IsCountsText net i hops xs whole → IsCountsText net i hops xs other → whole ≡ other
  same_counts whole other (counts, h, is) (counts', h', is') = is ∙ (ap confirmed_text (h.holds.1 ∙ sym h'.holds.1) ∙ sym is')

  same_other : (number number' kind kind' : ℕ) → IsFirstOther net i hops xs number kind → IsFirstOther net i hops xs number' kind'
      → refused (NotConfirmed number kind) ≡ refused (NotConfirmed number' kind')
  same_other number number' kind kind' (part, h, is) (part', h', is') =
      elim ((back net i hops xs (Err (IsBroken number part)) h h'.start h'.explored).refused number' part' h'.holds) [
        | inl e ↦
            let kinds = is ∙ (ap kind_in e ∙ sym is') in
            λ l. refused (NotConfirmed (number_in (e l)) (kinds l))
        | inr e ↦ absurd (subst IsRefused e tt)
      ]

module _ (one : IsOneReport) (back : IsOneAnswer) (net : Network) (i : Entry) (bytes : List ℕ) where
  pub replays_once : (a b : Outcome) → ReplayOf net i bytes a → ReplayOf net i bytes b → a ≡ b
  replays_once (text e w) (text e' w') h k =
      let ends = h.0 ∙ sym k.0 in
      let of = h.1 in
      let texts = same_counts back net (with_choices (choices_of of.report.cases) i) of.report.hops (record_trees of.report.records.items) w w' of.holds (of_one one net bytes _ _ of k.1) in
      λ l. text (ends l) (texts l)
  replays_once (text e w) (refused (BadReport kind pointer)) h k = absurd (bad_or_report one net bytes kind pointer _ k h.1)
  replays_once (text e w) (refused (NotConfirmed number kind)) h k =
      let of = h.1 in
      absurd (counted_or_other back net (with_choices (choices_of of.report.cases) i) of.report.hops (record_trees of.report.records.items) w number kind of.holds (of_one one net bytes _ _ of k))
  replays_once (text e w) (refused f) h k = absurd k
  replays_once (refused (BadReport kind pointer)) (text e w) h k = absurd (bad_or_report one net bytes kind pointer _ h k.1)
  replays_once (refused (BadReport kind pointer)) (refused (BadReport kind' pointer')) h k = same_bad one net bytes kind kind' pointer pointer' h k
  replays_once (refused (BadReport kind pointer)) (refused (NotConfirmed number' kind')) h k = absurd (bad_or_report one net bytes kind pointer _ h k)
  replays_once (refused (BadReport kind pointer)) (refused f) h k = absurd k
  replays_once (refused (NotConfirmed number kind)) (text e w) h k =
      let of = k.1 in
      absurd (counted_or_other back net (with_choices (choices_of of.report.cases) i) of.report.hops (record_trees of.report.records.items) w number kind of.holds (of_one one net bytes _ _ of h))
  replays_once (refused (NotConfirmed number kind)) (refused (BadReport kind' pointer')) h k = absurd (bad_or_report one net bytes kind' pointer' _ k h)
  replays_once (refused (NotConfirmed number kind)) (refused (NotConfirmed number' kind')) h k =
      same_other back net (with_choices (choices_of h.report.cases) i) h.report.hops (record_trees h.report.records.items) number number' kind kind' h.holds (of_one one net bytes _ _ h k)
  replays_once (refused (NotConfirmed number kind)) (refused f) h k = absurd k
  replays_once (refused f) b h k = absurd h
