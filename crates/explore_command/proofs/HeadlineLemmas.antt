-- The headline, of the report of an exploration.
use Rattle.std.proofs.Common.{◌≡◌, refl, sym, subst, ℕ, ◌<◌, ◌≤◌, ◌^◌, ◌==◌, Option, None, Some, Bool, true, false, List, [], ◌∷◌, ◌++◌, Result, arith}
use Rattle.std.proofs.lemmas.Fmt.{IsAscii-decimal}
use Rattle.std.proofs.lemmas.Str.{IsUtf8-append, IsUtf8-from_ascii}
use Rattle.std.specs.Prelude.{IsUtf8, codes, decimal, if◌then◌else◌}
use Rattle.std.specs.List.{AllByRecursion}
use Rattle.net_check.specs.Network.{Network, Entry}
use Rattle.net_check.specs.declared.injection.TheConstants.{USUAL_CHOICES}
use Rattle.exact_records.specs.View.{record_trees}
use Rattle.exact_records.specs.Whole.{WalksHaveOnePath}
use Rattle.hop_bounds.specs.Beyond.{UncutRecordsGoBeyond}
use Rattle.command_edge.specs.declared.ending.Ending.{Ending}
use Rattle.path_records.specs.declared.records.Record.{Record}
use Rattle.path_records.specs.declared.records.Record.TheVariants.{Path, Pruned, Unexplored}
use Rattle.record_text.specs.Reports.{head_text, report_line, state_text, tail_text}
use Rattle.record_text.specs.declared.report.Report.{Report}
use Rattle.report_forms.specs.Fits.{CasesFit, LineFits, RecordFits}
use Rattle.report_forms.specs.Seen.{line_seen}
use Rattle.path_report.specs.Reading.{ReadsReport, Shows}
use Rattle.path_report.specs.declared.report.ReportFault.{ReportFault}
use Rattle.record_lines.specs.Lines.{records_text, refuted_count, written_of}
use Rattle.path_records.specs.declared.sides.RefutedSides.{RefutedSides}
use Rattle.path_records.specs.declared.sides.RefutedSides.TheVariants.{Counted, Written}
use Rattle.explore_command.specs.Explores.{IsReport, is_done, line_of, said_by, said_choices}
use Rattle.explore_command.specs.Headline.{IsHeadline, IsReadBack, MayBeShown}
use Rattle.explore_command.proofs.PutLemmas.{Joins}
use Rattle.explore_command.proofs.ToldLemmas.{told}

-- ---- the line is read back

-- a number in decimal is text, and so are the head and the tail
decimal_utf8 : (n : ℕ) → n < 2 ^ 64 → IsUtf8 (decimal n)
decimal_utf8 n h = IsUtf8-from_ascii (decimal n) (IsAscii-decimal n h)

state_utf8 : (complete : Bool) → IsUtf8 (state_text complete)
unfolding lib.Utf8.encode
state_utf8 true = ((codes "done"), (refl, refl))
state_utf8 false = ((codes "partial"), (refl, refl))

head_utf8 : (cases : Option ℕ) (hops limit : ℕ) → CasesFit cases → hops ≤ 256 → limit ≤ 100000 → IsUtf8 (head_text cases hops limit)
unfolding lib.Utf8.encode
head_utf8 None hops limit c h l =
    IsUtf8-append (codes "{\"hops\":") _ ((codes "{\"hops\":"), (refl, refl))
    (IsUtf8-append (decimal hops) _ (decimal_utf8 hops (omega (arith, h)))
    (IsUtf8-append (codes ",\"limit\":") _ ((codes ",\"limit\":"), (refl, refl))
    (IsUtf8-append (decimal limit) (codes ",\"records\":[") (decimal_utf8 limit (omega (arith, l))) ((codes ",\"records\":["), (refl, refl)))))
head_utf8 (Some most) hops limit c h l =
    IsUtf8-append (codes "{\"cases\":") _ ((codes "{\"cases\":"), (refl, refl))
    (IsUtf8-append (decimal most) _ (decimal_utf8 most c.1)
    (IsUtf8-append (codes ",\"hops\":") _ ((codes ",\"hops\":"), (refl, refl))
    (IsUtf8-append (decimal hops) _ (decimal_utf8 hops (omega (arith, h)))
    (IsUtf8-append (codes ",\"limit\":") _ ((codes ",\"limit\":"), (refl, refl))
    (IsUtf8-append (decimal limit) (codes ",\"records\":[") (decimal_utf8 limit (omega (arith, l))) ((codes ",\"records\":["), (refl, refl)))))))

-- the bound that a report says fits, where the words may say it
said_fits : (most : ℕ) → 1 ≤ most → most < 2 ^ 64 → CasesFit (said_choices most)
said_fits most low high = by (most == USUAL_CHOICES)
  where
    by : (b : Bool) → CasesFit (if b then None else Some most)
    by true = tt
    by false = (low, high)

tail_utf8 : (refuted : ℕ) (complete : Bool) → refuted < 2 ^ 64 → IsUtf8 (tail_text refuted complete)
unfolding lib.Utf8.encode
tail_utf8 refuted complete h =
    IsUtf8-append (codes "],\"refuted\":") _ ((codes "],\"refuted\":"), (refl, refl))
    (IsUtf8-append (decimal refuted) _ (decimal_utf8 refuted h)
    (IsUtf8-append (codes ",\"state\":\"") _ ((codes ",\"state\":\""), (refl, refl))
    (IsUtf8-append (state_text complete) (codes "\",\"symnet\":1}\n") (state_utf8 complete) ((codes "\",\"symnet\":1}\n"), (refl, refl)))))

abbrev ReadsBack : Type 0
ReadsBack = (net : Network) (cases : Option ℕ) (hops limit : ℕ) (records : List Record) (refuted : ℕ) (complete : Bool) (answer : Result Report ReportFault)
    → LineFits net cases hops limit records refuted → IsUtf8 (report_line net cases hops limit records refuted complete)
    → ReadsReport net (report_line net cases hops limit records refuted complete) answer
    → Shows (line_seen cases hops limit records refuted complete) answer

-- those that are written fit where all do
written_fit : (net : Network) (sides : RefutedSides) (records : List Record) → AllByRecursion (RecordFits net) records
    → AllByRecursion (RecordFits net) (written_of sides records)
written_fit net Written records fit = fit
written_fit net Counted [] fit = tt
written_fit net Counted (Path decisions places ended fields verdict ∷ records) fit = (fit.0, written_fit net Counted records fit.1)
written_fit net Counted (Pruned decisions before refutation ∷ records) fit = written_fit net Counted records fit.1
written_fit net Counted (Unexplored decisions ∷ records) fit = (fit.0, written_fit net Counted records fit.1)

read_so : (most hops limit : ℕ) (sides : RefutedSides) (net : Network) (ending : Ending) (records : List Record) → Joins → ReadsBack
    → MayBeShown most hops limit → refuted_count records < 2 ^ 64 → AllByRecursion (RecordFits net) records → IsUtf8 (records_text net (written_of sides records))
    → IsReadBack net (said_choices most) hops limit sides records ending (line_of (said_choices most) hops limit sides net ending records)
read_so most hops limit sides net ending records joins back shown few fit utf8 answer reads =
    let written = written_of sides records in
    let refuted = refuted_count records in
    let complete = is_done ending in
    let cases = said_choices most in
    let said = said_fits most shown.least_choices shown.most_choices in
    back net cases hops limit written refuted complete answer
    (record {
      the_cases = said;
      least_hops = shown.least_hops;
      most_hops = shown.most_hops;
      least_limit = shown.least_limit;
      most_limit = shown.most_limit;
      all_records = written_fit net sides records fit;
      count = few;
    })
    (subst IsUtf8 (sym (joins net cases hops limit written refuted complete))
    (IsUtf8-append (head_text cases hops limit) (records_text net written ++ tail_text refuted complete) (head_utf8 cases hops limit said shown.most_hops shown.most_limit)
    (IsUtf8-append (records_text net written) (tail_text refuted complete) utf8 (tail_utf8 refuted complete few))))
    reads

pub report_read : (hops limit : ℕ) (sides : RefutedSides) (net : Network) (i : Entry) (ending : Ending) (whole : List ℕ) → Joins → ReadsBack
    → MayBeShown i.most_choices hops limit → (report : IsReport hops limit sides net i ending whole) → IsReadBack net (said_by i) hops limit sides report.records ending whole
report_read hops limit sides net i ending whole joins back shown report answer reads =
    read_so i.most_choices hops limit sides net ending report.records joins back shown report.found.few report.found.fit report.found.utf8 answer
    (subst (λ bytes. ReadsReport net bytes answer) report.line reads)

pub headline_of : (hops limit : ℕ) (sides : RefutedSides) (net : Network) (i : Entry) (ending : Ending) (whole : List ℕ) → WalksHaveOnePath net i hops
    → UncutRecordsGoBeyond net i hops → Joins → ReadsBack → (report : IsReport hops limit sides net i ending whole)
    → IsHeadline net i hops limit sides ending whole report
headline_of hops limit sides net i ending whole one go joins back h = record {
  tells = told net i hops limit one go (record_trees h.records) h.found.exact ending h.found.ends;
  read_back = λ shown. report_read hops limit sides net i ending whole joins back shown h;
}
