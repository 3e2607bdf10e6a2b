-- What is known of each accepted net and injection.
use Rattle.std.specs.Prelude.{◌≡◌, ◌≤◌, ◌<◌, ℕ, suc, List, [], ◌∷◌, length, Some, None, slice_get}
use Rattle.std.specs.List.{AllByRecursion}
use Rattle.sn_width.specs.declared.ids.NameId.{NameId}
use Rattle.sefl_syntax.specs.Trees.{JobTree, AskTree}
use Rattle.job_items.specs.Rules.{refusal}
use Rattle.job_names.specs.Names.{names_of}
use Rattle.net_check.specs.Places.{node_position}
use Rattle.net_check.specs.Tables.{Tables, AreTablesOf}
use Rattle.net_check.specs.Network.{Network, Entry}
use Rattle.net_check.specs.declared.injection.TheConstants.{USUAL_CHOICES}

-- the job breaks none of the rules that look at the job alone
abbrev pub IsSound : JobTree → Type 0
IsSound j = refusal j ≡ None

-- ids of this many names that ascend strictly, from this number on
abbrev pub AreIdsFrom : ℕ → ℕ → List NameId → Type 0
AreIdsFrom count first [] = Unit {0}
AreIdsFrom count first (id ∷ ids) = (first ≤ id.0) × (id.0 < count) × AreIdsFrom count (suc id.0) ids

abbrev pub AreIds : ℕ → List NameId → Type 0
AreIds count ids = AreIdsFrom count 0 ids

-- the net is the job's own, with the names of the job, and lists names for each of its patterns, ascending
pub record IsNetOf (j : JobTree) (net : Network) : Type 0 where
  pub own : net.own ≡ j.net
  pub names : net.names ≡ names_of j
  pub found : length net.found ≡ length net.names.patterns
  pub ids : AllByRecursion (AreIds (length net.names.metas)) net.found

-- the injection is the job's own, with the node that it names
pub record IsEntryOf (j : JobTree) (i : Entry) : Type 0 where
  pub own : i.own ≡ j.injection
  pub node : node_position j.net i.own.node ≡ Some i.node.0

-- and as acceptance gives it, with the usual bound on choices of cases
abbrev pub IsGivenEntry : JobTree → Entry → Type 0
IsGivenEntry j i = IsEntryOf j i × (i.most_choices ≡ USUAL_CHOICES)

-- of some job that breaks no rule
abbrev pub IsAcceptedNet : Network → Type 0
IsAcceptedNet net = (j : JobTree) × IsSound j × IsNetOf j net

abbrev pub IsAcceptedEntry : Entry → Type 0
IsAcceptedEntry i = (j : JobTree) × IsSound j × IsEntryOf j i

-- the net and the injection are those of one job that breaks no rule
abbrev pub AreOfOneJob : Network → Entry → Type 0
AreOfOneJob net i = (j : JobTree) × IsSound j × IsNetOf j net × IsEntryOf j i

-- the question is one of the job that the net and the injection are of
abbrev pub IsAskOf : Network → Entry → AskTree → Type 0
IsAskOf net i ask =
    (j : JobTree) × IsSound j × IsNetOf j net × IsEntryOf j i × ((index : ℕ) × (slice_get j.asks index ≡ Some ask))

-- what is kept beside an accepted net: how many nodes it has, and its tables
pub record IsKept (net : Network) (count : ℕ) (kept : Tables) : Type 0 where
  pub counted : count ≡ length net.own.nodes
  pub tables : AreTablesOf net.own kept
  pub accepted : IsAcceptedNet net
