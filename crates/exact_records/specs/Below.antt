-- What the laws of the crates below say, of terms and formulas.
use Rattle.std.specs.Prelude.{◌≡◌, ◌↔◌, ℕ, Bool, List, ◌++◌, map, Some, option_map}
use Rattle.std.specs.List.{AllByRecursion}
use Rattle.lin_term.specs.Terms.{LinearTerm, value_at}
use Rattle.path_formula.specs.Formulas.{FormulaTree, truth_at}
use Rattle.path_cond.specs.Seen.{itself}
use Rattle.refutation_check.specs.Longer.{WidenFreely}
use Rattle.refutation_check.specs.Trees.{AcceptedRefute}
use Rattle.path_solver.specs.Judged.{AreExact}
use Rattle.cell_stacks.specs.Outcome.{on_ok}
use Rattle.sefl_meaning.specs.declared.walk.Decision.{Decision}
use Rattle.sefl_meaning.specs.Values.{numbers}
use Rattle.sefl_meaning.specs.Network.{Network, Entry}
use Rattle.sefl_meaning.specs.Carried.{Carried}
use Rattle.sefl_meaning.specs.Injected.{Starts, passages_from, unknown_count}
use Rattle.sefl_meaning.specs.Order.{Has}
use Rattle.sefl_meaning.specs.Routes.{IsWay, behind, route, route_valued}
use Rattle.sefl_meaning.specs.Start.{StartsAt, start_of, start_valued, tree_from}
use Rattle.sefl_meaning.specs.Taken.{walks_of}
use Rattle.sefl_meaning.specs.Trees.{Tree}
use Rattle.sefl_meaning.specs.Valued.{tree_valued}
use Rattle.sefl_meaning.specs.Walks.{Passage, Trail, shown}
use Rattle.term_values.specs.TermValues.{terms}
use Rattle.exact_records.specs.Records.{SymRoute, SymTree}

-- of verdicts on conditions, and of routes
pub record Facts : Type 0 where
  pub verdicts : AreExact itself
  pub refute : AcceptedRefute itself
  pub widen : WidenFreely itself
  pub composed : (t : SymTree) (ds es : List Decision) (r : SymRoute) → route t ds ≡ Some r
      → route t (ds ++ es) ≡ option_map (behind r.arrivals r.tests) (route r.left es)

-- the value of a term, and the truth of a formula, at a packet
abbrev pub term_at : List ℕ → LinearTerm → ℕ
term_at v t = value_at t v

abbrev pub formula_at : List ℕ → FormulaTree → Bool
formula_at v f = truth_at f v

-- of the walks of packets
pub record Meanings : Type 0 where
  pub walks : (net : Network) (i : Entry) (v : List ℕ) (hops : ℕ) (s : Carried ℕ)
      → walks_of (tree_from (numbers v (unknown_count i)) net i hops s) ≡ passages_from net i v hops s
  pub starts : (net : Network) (i : Entry) (v : List ℕ) (hops : ℕ) (s : Carried ℕ) → Starts net i v s ↔ StartsAt net i v hops s
  pub valued : (v : List ℕ) (net : Network) (i : Entry) (hops : ℕ) → start_of (numbers v (unknown_count i)) net i hops
      ≡ on_ok (start_valued (term_at v) (formula_at v)) (start_of (terms (unknown_count i)) net i hops)
  pub routes : (v : List ℕ) (t : SymTree) (ds : List Decision)
      → route (tree_valued (term_at v) (formula_at v) t) ds ≡ option_map (route_valued (term_at v) (formula_at v)) (route t ds)
  pub ways : (t : Tree ℕ Bool) → AllByRecursion (IsWay (route t)) (walks_of t)
  pub to_walk : (t : Tree ℕ Bool) (w : Passage) → IsWay (route t) w → Has (walks_of t) w
  pub shown_of : (ws : List Passage) (t : Trail) → (Has (map shown ws) t ↔ (w : Passage) × Has ws w × (shown w ≡ t))
