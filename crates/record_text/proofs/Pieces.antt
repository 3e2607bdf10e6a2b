-- A report's text by its pieces.
use Rattle.std.proofs.Common.{◌≡◌, ℕ, Bool, true, false, List, [], ◌∷◌, ◌++◌, map, refl, ap, ◌∙◌, append_assoc}
use Rattle.std.specs.Prelude.{codes, decimal, Option, None, Some}
use Rattle.std.specs.Fmt.{digits}
use Rattle.serde_json.specs.Data.{Data}
use Rattle.serde_json.specs.View.{items_of}
use Rattle.serde_json.specs.Written.{compact_text, items_text, comma_if}
use Rattle.serde_json.proofs.OnLiterals.{serde_json_on_literals}
use Rattle.net_check.specs.Network.{Network}
use Rattle.run_text.specs.Forms.{list}
use Rattle.path_records.specs.declared.records.Record.{Record}
use Rattle.record_text.specs.declared.report.Report.{Report}
use Rattle.record_text.specs.Records.{record_data, records_data}
use Rattle.record_text.specs.Reports.{state_text, report_members, report_data, head_text, record_pieces, tail_text, report_line, report_text}

pub records_close : (later : Bool) (ds : List Data) → items_text later (items_of ds) ≡ record_pieces later ds ++ 93 ∷ []
records_close later [] = refl
records_close later (d ∷ ds) =
    ap (λ s. comma_if later ++ (compact_text d ++ s)) (records_close true ds)
    ∙ simp append_assoc refl

-- the tail, before the line feed
abbrev tail : ℕ → Bool → List ℕ
tail refuted complete = codes "],\"refuted\":" ++ (decimal refuted ++ (codes ",\"state\":\"" ++ (state_text complete ++ codes "\",\"symnet\":1}")))

joined : (cases : Option ℕ) (hops limit : ℕ) (records : List Data) (refuted : ℕ) (complete : Bool) →
    compact_text (report_data cases hops limit (list records) refuted complete) ≡ head_text cases hops limit ++ (record_pieces false records ++ tail refuted complete)
unfolding serde_json_on_literals digits report_data report_members
joined None hops limit records refuted true = rw (records_close false records) (simp append_assoc refl)
joined None hops limit records refuted false = rw (records_close false records) (simp append_assoc refl)
joined (Some n) hops limit records refuted true = rw (records_close false records) (simp append_assoc refl)
joined (Some n) hops limit records refuted false = rw (records_close false records) (simp append_assoc refl)

ended : (refuted : ℕ) (complete : Bool) → tail refuted complete ++ codes "\n" ≡ tail_text refuted complete
ended refuted true = simp append_assoc refl
ended refuted false = simp append_assoc refl

line : (cases : Option ℕ) (hops limit : ℕ) (records : List Data) (refuted : ℕ) (complete : Bool) →
    compact_text (report_data cases hops limit (list records) refuted complete) ++ codes "\n" ≡ head_text cases hops limit ++ (record_pieces false records ++ tail_text refuted complete)
line cases hops limit records refuted complete =
    ap (λ s. s ++ codes "\n") (joined cases hops limit records refuted complete)
    ∙ append_assoc (head_text cases hops limit) (record_pieces false records ++ tail refuted complete) (codes "\n")
    ∙ ap (λ s. head_text cases hops limit ++ s)
    (append_assoc (record_pieces false records) (tail refuted complete) (codes "\n") ∙ ap (λ s. record_pieces false records ++ s) (ended refuted complete))

pub lines_join : (net : Network) (cases : Option ℕ) (hops limit : ℕ) (records : List Record) (refuted : ℕ) (complete : Bool) →
    report_line net cases hops limit records refuted complete
    ≡ head_text cases hops limit ++ (record_pieces false (map (record_data net) records) ++ tail_text refuted complete)
unfolding records_data
lines_join net cases hops limit records refuted complete = line cases hops limit (map (record_data net) records) refuted complete

pub pieces_join : (net : Network) (report : Report) →
    report_text net report
    ≡ head_text report.cases report.hops report.limit ++ (record_pieces false (map (record_data net) report.records.items) ++ tail_text report.refuted report.complete)
pieces_join net report = lines_join net report.cases report.hops report.limit report.records.items report.refuted report.complete
