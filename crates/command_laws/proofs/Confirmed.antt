-- A report that was written is confirmed.
use Rattle.std.proofs.Common.{◌≡◌, ◌==◌, ℕ, Bool, true, false, inl, inr, List, [], ◌∷◌, map, refl, sym, ap, subst, ◌∙◌, Some, None, Result, Ok, Err}
use Rattle.std.specs.List.{AllByRecursion}
use Rattle.std.specs.Prelude.{if◌then◌else◌}
use Rattle.std.proofs.lemmas.Bool.{eqb-true}
use Rattle.net_check.specs.declared.injection.TheConstants.{USUAL_CHOICES}
use Rattle.net_check.specs.Network.{Network, Entry, with_choices}
use Rattle.path_records.specs.declared.records.Record.{Record}
use Rattle.path_records.specs.declared.records.Record.TheVariants.{Path, Pruned, Unexplored}
use Rattle.exact_records.specs.Exact.{IsGood}
use Rattle.exact_records.specs.Packets.{AreExactFor}
use Rattle.exact_records.specs.Records.{HasMeaning, RecordTree, SymStart, path, pruned, unexplored}
use Rattle.exact_records.specs.View.{record_tree, record_trees}
use Rattle.record_lines.specs.Lines.{refuted_count}
use Rattle.path_records.specs.declared.sides.RefutedSides.TheVariants.{Written}
use Rattle.record_text.specs.declared.report.Report.{Report}
use Rattle.report_forms.specs.Seen as seen
use Rattle.path_report.specs.Reading.{ReadsReport}
use Rattle.path_report.specs.declared.report.ReportFault.{ReportFault}
use Rattle.path_report.specs.declared.report.ReportFault.TheVariants.{NotJson, NotReport, NoMemory as NoReading}
use Rattle.record_checks.specs.Counts.{counts_of}
use Rattle.record_checks.specs.declared.counts.Confirmed.{Confirmed}
use Rattle.record_checks.specs.declared.fault.ReplayFault.{ReplayFault}
use Rattle.path_replay.specs.Replaying.{ConfirmsFor, IsConfirmedBackFor}
use Rattle.command_edge.specs.Puts.{Outcome, text, refused}
use Rattle.command_edge.specs.declared.ending.Ending.{Ending}
use Rattle.command_edge.specs.declared.ending.Ending.TheVariants.{Done}
use Rattle.command_edge.specs.declared.fault.OwnFault.TheVariants.{BadReport, NotConfirmed}
use Rattle.explore_command.specs.Explores.{IsReport, is_done, said_by, said_choices}
use Rattle.explore_command.specs.Headline.{IsReadBack}
use Rattle.replay_command.specs.Counted.{confirmed_text}
use Rattle.replay_command.specs.Replays.{IsCountsText, IsFirstOther, OfReport, ReplayOf, report_kind, choices_of}

-- ---- records by what is seen of them

abbrev pub tree_of : seen.RecordSeen → RecordTree
tree_of (seen.path ds places end' fields verdict) = path ds places end' fields verdict
tree_of (seen.pruned ds before refutation) = pruned ds before refutation
tree_of (seen.unexplored ds) = unexplored ds

tree_seen : (x : Record) → record_tree x ≡ tree_of (seen.record_seen x)
tree_seen (Path decisions places end' fields verdict) = refl
tree_seen (Pruned decisions before refutation) = refl
tree_seen (Unexplored decisions) = refl

pub trees_seen : (xs : List Record) → record_trees xs ≡ map tree_of (map seen.record_seen xs)
trees_seen [] = refl
trees_seen (x ∷ xs) = λ i. tree_seen x i ∷ trees_seen xs i

-- ---- exact records are confirmed

pub meanings : (s : SymStart) (rs : List RecordTree) → AllByRecursion (IsGood s) rs → AllByRecursion (HasMeaning s) rs
meanings s [] all = tt
meanings s (x ∷ rs) all = (all.0.meaning, meanings s rs all.1)

confirmed : (net : Network) (i : Entry) (hops limit : ℕ) (rs : List RecordTree) → AreExactFor net i hops limit rs → ConfirmsFor net i hops rs (Ok (counts_of rs))
confirmed net i hops limit rs exact =
    record { start = exact.start; explored = exact.explored; holds = (meanings exact.start rs exact.exact.good, refl) }

-- what is answered of records is the only answer
abbrev IsOneAnswer : Type 0
IsOneAnswer = (net : Network) (i : Entry) (hops : ℕ) (records : List RecordTree) (answer : Result Confirmed ReplayFault)
    → ConfirmsFor net i hops records answer → IsConfirmedBackFor net i hops records answer

abbrev IsCounted : Result Confirmed ReplayFault → Type 0
IsCounted (Ok counts) = Unit {0}
IsCounted (Err fault) = ⊥

not_other : IsOneAnswer → (net : Network) (i : Entry) (hops limit : ℕ) (rs : List RecordTree) (number kind : ℕ) → AreExactFor net i hops limit rs
    → IsFirstOther net i hops rs number kind → ⊥
not_other back net i hops limit rs number kind exact (part, k, at) =
    elim ((back net i hops rs (Ok (counts_of rs)) (confirmed net i hops limit rs exact) k.start k.explored).refused number part k.holds) [
      | inl e ↦ subst IsCounted e tt
      | inr e ↦ subst IsCounted e tt
    ]

none_some : {A : Type 0} (x : A) → None ≡ Some x → ⊥
none_some x e = cc e

-- the bound that a report says is the injection's
pub said_back : (most : ℕ) → choices_of (said_choices most) ≡ most
said_back most = by (most == USUAL_CHOICES) refl
  where
    by : (b : Bool) → (most == USUAL_CHOICES) ≡ b → choices_of (if b then None else Some most) ≡ most
    by true e = sym (eqb-true most USUAL_CHOICES e)
    by false e = refl

module _ (hops limit : ℕ) (net : Network) (i : Entry) (ending : Ending) (whole : List ℕ)
    (report : IsReport hops limit Written net i ending whole) (read : IsReadBack net (said_by i) hops limit Written report.records ending whole) where
  pub no_fault : (f : ReportFault) (told : ℕ × List ℕ) → ReadsReport net whole (Err f) → report_kind f ≡ Some told → ⊥
  no_fault NotJson told reads e = read (Err NotJson) reads
  no_fault (NotReport place) told reads e = read (Err (NotReport place)) reads
  no_fault NoReading told reads e = none_some told e

module _ (back : IsOneAnswer) (hops limit : ℕ) (net : Network) (i : Entry) (ending : Ending) (whole : List ℕ)
    (report : IsReport hops limit Written net i ending whole) (read : IsReadBack net (said_by i) hops limit Written report.records ending whole) where
  abbrev rs : List RecordTree
  rs = record_trees report.records

  exact : AreExactFor net i hops limit rs
  exact = report.found.exact

  same_report : (r : Report) → ReadsReport net whole (Ok r) → (r.cases ≡ said_by i) × (r.hops ≡ hops) × (record_trees r.records.items ≡ rs)
  same_report r reads =
      let shown : seen.report_seen r ≡ seen.line_seen (said_by i) hops limit report.records (refuted_count report.records) (is_done ending) = read (Ok r) reads in (
        ap (λ (x : seen.ReportSeen). x.cases) shown,
        ap (λ (x : seen.ReportSeen). x.hops) shown,
        trees_seen r.records.items ∙ (ap (λ (x : seen.ReportSeen). map tree_of x.records) shown ∙ sym (trees_seen report.records)),
      )

  -- a fact of the report of the bytes is one of these records
  of_these : (Fact : ℕ → ℕ → List RecordTree → Type 0) → OfReport net whole Fact → Fact i.most_choices hops rs
  of_these Fact of =
      let same = same_report of.report of.reads in
      subst (λ (m : ℕ). Fact m hops rs) (ap choices_of same.0 ∙ said_back i.most_choices)
      (subst (λ (n : ℕ). Fact (choices_of of.report.cases) n rs) same.1 (subst (Fact (choices_of of.report.cases) of.report.hops) same.2 of.holds))

  counted : (w : List ℕ) → IsCountsText net i hops rs w → w ≡ confirmed_text (counts_of rs)
  counted w (counts, h, is) = is ∙ ap confirmed_text h.holds.1

  pub confirmed_back : (outcome : Outcome) → ReplayOf net i whole outcome → outcome ≡ text Done (confirmed_text (counts_of rs))
  confirmed_back (text e w) h =
      let line = counted w (of_these (λ m n xs. IsCountsText net (with_choices m i) n xs w) h.1) in
      λ l. text (h.0 l) (line l)
  confirmed_back (refused (BadReport kind pointer)) h = absurd (no_fault hops limit net i ending whole report read h.fault (kind, pointer) h.reads h.told)
  confirmed_back (refused (NotConfirmed number kind)) h =
      absurd (not_other back net i hops limit rs number kind exact (of_these (λ m n xs. IsFirstOther net (with_choices m i) n xs number kind) h))
  confirmed_back (refused fault) h = absurd h
