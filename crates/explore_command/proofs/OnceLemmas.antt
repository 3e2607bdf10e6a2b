-- An exploration has one ending, and one report where refuted sides are only counted.
use Rattle.std.proofs.Common.{◌≡◌, ◌∙◌, ℕ, ◌+◌, suc, Bool, true, false, cond, List, [], ◌∷◌, ◌++◌, filter, codes, fold, map, Option, sum_by, refl, sym, ap}
use Rattle.serde_json.specs.Data.{Data}
use Rattle.net_check.specs.Network.{Network, Entry}
use Rattle.path_records.specs.declared.records.Record.{Record}
use Rattle.path_records.specs.declared.records.Record.TheVariants.{Path, Pruned, Unexplored}
use Rattle.exact_records.specs.Exact.{IsTried, IsUnexplored}
use Rattle.exact_records.specs.Packets.{AreExactFor}
use Rattle.exact_records.specs.Records.{RecordTree, path, pruned, unexplored}
use Rattle.exact_records.specs.View.{record_tree, record_trees}
use Rattle.exact_records.proofs.Lists.{some_not}
use Rattle.one_list.specs.Same.{AreAlike, RecordsAreOne, without_refutation}
use Rattle.one_list.specs.Told.{AlikeTellTheSame, TellTheSame}
use Rattle.one_list.proofs.Telling.{same_mapped}
use Rattle.record_text.specs.Records.{path_data, record_data, records_data, unexplored_data}
use Rattle.record_text.specs.Reports.{report_data, report_line}
use Rattle.run_text.specs.Forms.{list}
use Rattle.serde_json.specs.Written.{compact_text}
use Rattle.command_edge.specs.Puts.{Outcome, text, refused}
use Rattle.command_edge.specs.declared.ending.Ending.{Ending}
use Rattle.command_edge.specs.declared.ending.Ending.TheVariants.{Done, Partial}
use Rattle.record_lines.specs.Lines.{refuted_by, refuted_count, written_of}
use Rattle.path_records.specs.declared.sides.RefutedSides.TheVariants.{Counted}
use Rattle.explore_command.specs.Explores.{IsEnding, ReportsOf, is_done, said_by}

-- ---- records without their refutations

module _ (net : Network) where
  -- what is written of a record
  abbrev written_data : RecordTree → List Data
  written_data (path ds places end' fields verdict) = path_data net ds places end' fields verdict ∷ []
  written_data (pruned ds before refutation) = []
  written_data (unexplored ds) = unexplored_data ds ∷ []

  written_sees : (x : RecordTree) → written_data (without_refutation x) ≡ written_data x
  written_sees (path ds places end' fields verdict) = refl
  written_sees (pruned ds before refutation) = refl
  written_sees (unexplored ds) = refl

  abbrev joined : List (List Data) → List Data
  joined [] = []
  joined (ds ∷ more) = ds ++ joined more

  data_written : (records : List Record) → map (record_data net) (written_of Counted records) ≡ joined (map written_data (record_trees records))
  data_written [] = refl
  data_written (Path decisions places ended fields verdict ∷ records) = ap (λ ds. record_data net (Path decisions places ended fields verdict) ∷ ds) (data_written records)
  data_written (Pruned decisions before refutation ∷ records) = data_written records
  data_written (Unexplored decisions ∷ records) = ap (λ ds. record_data net (Unexplored decisions) ∷ ds) (data_written records)

  same_data : (xs ys : List Record) → AreAlike (record_trees xs) (record_trees ys)
      → map (record_data net) (written_of Counted xs) ≡ map (record_data net) (written_of Counted ys)
  same_data xs ys e =
      data_written xs ∙ (ap joined (same_mapped written_data written_sees (record_trees xs) (record_trees ys) e) ∙ sym (data_written ys))

-- ---- how many sides are refuted

abbrev side_of : RecordTree → ℕ
side_of (path ds places end' fields verdict) = 0
side_of (pruned ds before refutation) = 1
side_of (unexplored ds) = 0

side_sees : (x : RecordTree) → side_of (without_refutation x) ≡ side_of x
side_sees (path ds places end' fields verdict) = refl
side_sees (pruned ds before refutation) = refl
side_sees (unexplored ds) = refl

side_same : (x : Record) → refuted_by x ≡ side_of (record_tree x)
side_same (Path decisions places ended fields verdict) = refl
side_same (Pruned decisions before refutation) = refl
side_same (Unexplored decisions) = refl

sides : (n : ℕ) (records : List Record)
    → fold (λ (a : ℕ) x. a + refuted_by x) n records ≡ fold (λ (a m : ℕ). a + m) n (map side_of (record_trees records))
sides n [] = refl
sides n (x ∷ records) =
    ap (λ (m : ℕ). fold (λ (a : ℕ) y. a + refuted_by y) m records) (ap (λ (m : ℕ). n + m) (side_same x)) ∙ sides (n + side_of (record_tree x)) records

same_sides : (xs ys : List Record) → AreAlike (record_trees xs) (record_trees ys) → refuted_count xs ≡ refuted_count ys
same_sides xs ys e =
    sides 0 xs ∙ (ap (fold (λ (a m : ℕ). a + m) 0) (same_mapped side_of side_sees (record_trees xs) (record_trees ys) e) ∙ sym (sides 0 ys))

-- ---- the ending

pub same_ending : (rs qs : List RecordTree) → TellTheSame rs qs → (a b : Ending) → IsEnding a rs → IsEnding b qs → a ≡ b
same_ending rs qs same Done Done h k = refl
same_ending rs qs same Done Partial h k = absurd (some_not IsUnexplored IsTried qs (λ x un tried. tried un) k (same.whole.0 h))
same_ending rs qs same Partial Done h k = absurd (some_not IsUnexplored IsTried rs (λ x un tried. tried un) h (same.whole.1 k))
same_ending rs qs same Partial Partial h k = refl

-- ---- the report

line_same : (net : Network) (cases : Option ℕ) (hops limit : ℕ) (xs ys : List Record) (n m : ℕ) (a b : Bool) → map (record_data net) xs ≡ map (record_data net) ys → n ≡ m → a ≡ b
    → report_line net cases hops limit xs n a ≡ report_line net cases hops limit ys m b
unfolding records_data
line_same net cases hops limit xs ys n m a b written number done =
    λ i. compact_text (report_data cases hops limit (list (written i)) (number i) (done i)) ++ codes "\n"

module _ (hops limit : ℕ) (net : Network) (i : Entry) (tell : AlikeTellTheSame) (alike : RecordsAreOne net i hops) where
  pub endings_once : (rs qs : List RecordTree) (a b : Ending) → AreExactFor net i hops limit rs → AreExactFor net i hops limit qs
      → IsEnding a rs → IsEnding b qs → a ≡ b
  endings_once rs qs a b h k is also = same_ending rs qs (tell rs qs (alike limit rs qs h k)) a b is also

  pub reports_once : (a b : Outcome) → ReportsOf hops limit Counted net i a → ReportsOf hops limit Counted net i b → a ≡ b
  reports_once (text a whole) (text b line) h k =
      let e = alike limit (record_trees h.records) (record_trees k.records) h.found.exact k.found.exact in
      let ends = endings_once (record_trees h.records) (record_trees k.records) a b h.found.exact k.found.exact h.found.ends k.found.ends in
      let lines = h.line
      ∙ (line_same net (said_by i) hops limit (written_of Counted h.records) (written_of Counted k.records) (refuted_count h.records) (refuted_count k.records) (is_done a) (is_done b)
      (same_data net h.records k.records e) (same_sides h.records k.records e) (ap is_done ends)
      ∙ sym k.line) in
      λ j. text (ends j) (lines j)
  reports_once (text a whole) (refused fault) h k = absurd k
  reports_once (refused fault) b h k = absurd h
