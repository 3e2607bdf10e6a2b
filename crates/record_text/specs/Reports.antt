-- The text of a report: compact JSON, its keys ascending, and a line feed; and its pieces.
use Rattle.std.specs.Prelude.{ℕ, Bool, true, if◌then◌else◌, List, [], ◌∷◌, ◌++◌, codes, decimal, Option, None, Some}
use Rattle.serde_json.specs.Data.{Data, string, object, Members, member, no_members}
use Rattle.serde_json.specs.Written.{compact_text, comma_if}
use Rattle.net_check.specs.Network.{Network}
use Rattle.path_records.specs.declared.records.Record.{Record}
use Rattle.run_text.specs.Forms.{count}
use Rattle.record_text.specs.Records.{records_data}
use Rattle.record_text.specs.declared.report.Report.{Report}

abbrev pub state_text : Bool → List ℕ
state_text complete = if complete then codes "done" else codes "partial"

-- the members that every report has
unfoldable pub report_members : ℕ → ℕ → Data → ℕ → Bool → Members
report_members hops limit records refuted complete =
    member (codes "hops") (count hops)
    (member (codes "limit") (count limit)
    (member (codes "records") records
    (member (codes "refuted") (count refuted)
    (member (codes "state") (string (state_text complete))
    (member (codes "symnet") (count 1) no_members)))))

-- before them the most choices of cases, where they are said
abbrev pub with_cases : Option ℕ → Members → Members
with_cases None ms = ms
with_cases (Some n) ms = member (codes "cases") (count n) ms

unfoldable pub report_data : Option ℕ → ℕ → ℕ → Data → ℕ → Bool → Data
report_data cases hops limit records refuted complete = object (with_cases cases (report_members hops limit records refuted complete))

-- the members of a report that every report has
abbrev pub members_of : Network → Report → Members
members_of net report = report_members report.hops report.limit (records_data net report.records.items) report.refuted report.complete

-- a report
abbrev pub data_of : Network → Report → Data
data_of net report = report_data report.cases report.hops report.limit (records_data net report.records.items) report.refuted report.complete

-- the line of a report
abbrev pub report_text : Network → Report → List ℕ
report_text net report = compact_text (data_of net report) ++ codes "\n"

-- the line of a report of these records
abbrev pub report_line : Network → Option ℕ → ℕ → ℕ → List Record → ℕ → Bool → List ℕ
report_line net cases hops limit records refuted complete =
    compact_text (report_data cases hops limit (records_data net records) refuted complete) ++ codes "\n"

-- up to the records
abbrev pub head_text : Option ℕ → ℕ → ℕ → List ℕ
head_text None hops limit = codes "{\"hops\":" ++ (decimal hops ++ (codes ",\"limit\":" ++ (decimal limit ++ codes ",\"records\":[")))
head_text (Some n) hops limit =
    codes "{\"cases\":" ++ (decimal n ++ (codes ",\"hops\":" ++ (decimal hops ++ (codes ",\"limit\":" ++ (decimal limit ++ codes ",\"records\":[")))))

-- the texts of the records, each but the first behind a comma; of a later one, each
abbrev pub record_pieces : Bool → List Data → List ℕ
record_pieces later [] = []
record_pieces later (d ∷ ds) = comma_if later ++ (compact_text d ++ record_pieces true ds)

-- from the end of the records on
abbrev pub tail_text : ℕ → Bool → List ℕ
tail_text refuted complete = codes "],\"refuted\":" ++ (decimal refuted ++ (codes ",\"state\":\"" ++ (state_text complete ++ codes "\",\"symnet\":1}\n")))
