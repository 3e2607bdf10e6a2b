-- What the runs of one exploration begin with, and which states are of them.
use Rattle.std.specs.Prelude.{ℕ, ◌≡◌, Bool, List, [], drop, length, map, reverse, take}
use Rattle.sn_width.specs.declared.ids.NodeId.{NodeId}
use Rattle.lin_term.specs.Terms.{LinearTerm}
use Rattle.path_formula.specs.Formulas.{FormulaTree}
use Rattle.path_formula.specs.View.{view}
use Rattle.path_cond.specs.Seen.{entry_seen, seen}
use Rattle.net_check.specs.Network.{Network}
use Rattle.sefl_meaning.specs.declared.walk.End.TheVariants.{Stopped}
use Rattle.sefl_meaning.specs.Runs.{Progress, starting}
use Rattle.sefl_meaning.specs.Trees.{enter, over}
use Rattle.term_values.specs.TermValues.{terms}
use Rattle.code_frames.specs.Frames.{progress_at}
use Rattle.sym_state.specs.Beginning.{MustBeTrue, trees_of}
use Rattle.sym_state.specs.Symbolic.{Symbolic, choices_of}
use Rattle.exact_records.specs.Records.{SymCondition, SymStart, SymTree, injection_tests}
use Rattle.path_exec.specs.Location.{Location}

-- the formulas of a state as trees, with the truths that they must have
abbrev pub entries_seen : Symbolic → List (FormulaTree × Bool)
entries_seen x = map (entry_seen view) x.condition.entries

-- its condition, over these
abbrev pub condition_seen : Symbolic → SymCondition
condition_seen x = seen view x.condition

-- what is carried and the choices, behind this many instructions
abbrev pub progress_in : Symbolic → ℕ → Progress LinearTerm
progress_in x begun = progress_at x.carried (choices_of x) begun

-- the state is of a run from this start: its first symbols are the unknown fields, its first formulas the tests of the
-- injection, and its bound on choices of cases is that of the start
pub record IsRunOf (s : SymStart) (x : Symbolic) : Type 0 where
  pub unknowns : x.unknowns ≡ length s.unknowns
  pub fields : take x.unknowns x.condition.widths ≡ s.unknowns
  pub tests : take (length s.tests) (entries_seen x) ≡ injection_tests s
  pub most_choices : x.condition.most_choices ≡ s.most_choices

-- a state is where this comes, whatever number of instructions has begun: the tests are its formulas behind those of the injection
abbrev pub location_of : SymStart → Symbolic → (ℕ → SymTree) → Location
location_of s x tree = record {
  decisions = reverse x.decisions;
  places = reverse x.places;
  tests = drop (length s.tests) (entries_seen x);
  widths = x.condition.widths;
  tree = tree;
}

-- it is the state that the runs begin with, at this port and with `hops` hops
pub record IsFirstState (s : SymStart) (net : Network) (hops : ℕ) (node : NodeId) (port : ℕ) (x : Symbolic) : Type 0 where
  pub unknowns : s.unknowns ≡ x.condition.widths
  pub tests : s.tests ≡ trees_of x.condition.entries
  pub most_choices : s.most_choices ≡ x.condition.most_choices
  pub tree : s.tree ≡ enter (terms x.unknowns) net hops node port (starting x.carried)
  pub true_tests : MustBeTrue x.condition.entries
  pub fields : x.unknowns ≡ length x.condition.widths
  pub decisions : x.decisions ≡ []
  pub places : x.places ≡ []

-- a net without nodes, and a start at its end: what nobody explores
abbrev pub no_net : Network
no_net = record {
  own = record { nodes = []; links = [] };
  names = record { metas = []; tags = []; patterns = [] };
  found = [];
}

abbrev pub no_start : SymStart
no_start = record {
  unknowns = [];
  tests = [];
  tree = over (starting (record { layers = record { tags = []; heads = [] }; scopes = [] })) Stopped;
  most_choices = 0;
}
