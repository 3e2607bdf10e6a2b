-- Explorations that leave nothing out are the halves of a comparison.
use Rattle.std.proofs.Common.{◌≡◌, ℕ, List, ap, refl, sym, subst}
use Rattle.net_check.specs.Network.{Network, Entry}
use Rattle.net_check.specs.Sound.{AreOfOneJob}
use Rattle.path_questions.specs.Formulas.{explored, no_start, start_or}
use Rattle.path_records.specs.declared.records.Record.{Record}
use Rattle.exact_records.specs.Packets.{AreExactFor}
use Rattle.exact_records.specs.Records.{RecordTree}
use Rattle.exact_records.specs.View.{record_trees}
use Rattle.compare_meaning.specs.Paths.{IsWhole}
use Rattle.net_compare.specs.Halves.{half_of}
use Rattle.command_edge.specs.declared.ending.Ending.{Ending}
use Rattle.command_edge.specs.declared.ending.Ending.TheVariants.{Done, Partial}
use Rattle.compare_command.specs.Compares.{AreFoundFor}

-- what exact records are of is what is explored
start_is : (net : Network) (i : Entry) (hops limit : ℕ) (rs : List RecordTree) (h : AreExactFor net i hops limit rs) → h.start ≡ explored net i hops
start_is net i hops limit rs h = sym (ap (start_or no_start) h.explored)

-- records of an exploration that leaves nothing out
whole_half : (net : Network) (i : Entry) (hops limit : ℕ) (rs : List RecordTree) → AreOfOneJob net i → AreFoundFor hops limit net i Done rs
    → IsWhole hops (half_of hops net i rs)
whole_half net i hops limit rs job h = record {
  job = job;
  limit = limit;
  exact = h.exact;
  start = start_is net i hops limit rs h.exact;
  tried = h.ends;
}

-- those of a list that did not end with something left out
pub half_by : (net : Network) (i : Entry) (hops limit : ℕ) (ending : Ending) (items now : List Record) → AreOfOneJob net i
    → AreFoundFor hops limit net i ending (record_trees items) → (ending ≡ Partial → ⊥) → now ≡ items → IsWhole hops (half_of hops net i (record_trees now))
half_by net i hops limit Done items now job h not is =
    subst (λ xs. IsWhole hops (half_of hops net i (record_trees xs))) (sym is) (whole_half net i hops limit (record_trees items) job h)
half_by net i hops limit Partial items now job h not is = absurd (not refl)
