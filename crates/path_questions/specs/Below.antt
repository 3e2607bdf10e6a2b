-- What the laws of the crates below say of a net, an injection and a number of hops.
use Rattle.std.specs.Prelude.{◌≡◌, ◌↔◌, ℕ, Bool, List, ◌++◌, map, IfOk}
use Rattle.sn_width.specs.declared.ids.NodeId.{NodeId}
use Rattle.lin_term.specs.Terms.{IsReduced, LinearTerm, value_at}
use Rattle.path_formula.specs.Formulas.{FormulaTree, truth_at}
use Rattle.path_formula.specs.Typed.{TermIsTyped}
use Rattle.path_cond.specs.Seen.{itself}
use Rattle.refutation_check.specs.Trees.{AcceptedRefute}
use Rattle.path_solver.specs.Judged.{AreExact}
use Rattle.cell_stacks.specs.Outcome.{on_ok}
use Rattle.sefl_syntax.specs.Trees.{CondTree, ExprTree}
use Rattle.sefl_meaning.specs.Values.{numbers}
use Rattle.sefl_meaning.specs.Network.{Network, Entry}
use Rattle.sefl_meaning.specs.Carried.{Carried, Scene, carried_valued}
use Rattle.sefl_meaning.specs.Courses.{Progress}
use Rattle.sefl_meaning.specs.Injected.{injected, unknown_count, unknown_widths}
use Rattle.sefl_meaning.specs.Order.{Has}
use Rattle.sefl_meaning.specs.Terms.{truth_in, value_in}
use Rattle.sefl_meaning.specs.Trees.{enter}
use Rattle.sefl_meaning.specs.Valued.{CarriedFits, Fits, KeepsSymbols, Respects, TreeTyped}
use Rattle.sefl_meaning.specs.Walks.{Passage, Trail, shown}
use Rattle.term_values.specs.Fits.{term_fits, typed_fits}
use Rattle.term_values.specs.TermValues.{terms}
use Rattle.exact_records.specs.Laws.{PacketsTakeRoutes, PassagesTakeRoutes}

-- the value of a term, and the truth of a formula, at a packet
abbrev pub term_at : List ℕ → LinearTerm → ℕ
term_at v t = value_at t v

abbrev pub truth_of : List ℕ → FormulaTree → Bool
truth_of v f = truth_at f v

-- which terms fit, and that states keep what holds of their terms
pub record Typing (i : Entry) : Type 0 where
  pub fits : (w : ℕ) (t : LinearTerm) → Fits term_fits w t ↔ ((t.width ≡ w) × IsReduced t)
  pub typed : (widths : List ℕ) (w : ℕ) (t : LinearTerm) → Fits (typed_fits widths) w t ↔ (Fits term_fits w t × TermIsTyped widths t)
  pub symbols : KeepsSymbols typed_fits (unknown_widths i.own.fields) (terms (unknown_count i))
  pub weaker : (closer fits : ℕ → LinearTerm → Bool) (s : Carried LinearTerm) → ((w : ℕ) (t : LinearTerm) → Fits closer w t → Fits fits w t)
      → CarriedFits closer s → CarriedFits fits s
  pub values : (widths : List ℕ) (at : Scene) (w : ℕ) (e : ExprTree) (s : Carried LinearTerm) → CarriedFits (typed_fits widths) s
      → IfOk (value_in (terms (unknown_count i)) at w e s) (Fits (typed_fits widths) w)
  pub injection : (at : Scene) → IfOk (injected (terms (unknown_count i)) at i.own) (CarriedFits (typed_fits (unknown_widths i.own.fields)))
  pub trees : (net : Network) (hops port : ℕ) (node : NodeId) (p : Progress LinearTerm)
      → CarriedFits (typed_fits (unknown_widths i.own.fields ++ p.choices)) p.state
      → TreeTyped typed_fits (unknown_widths i.own.fields) (enter (terms (unknown_count i)) net hops node port p)

-- what values and truths of terms and formulas are at a packet
pub record Valuing (i : Entry) : Type 0 where
  pub respects : (v : List ℕ) → Respects term_fits (terms (unknown_count i)) (numbers v (unknown_count i)) (term_at v) (truth_of v)
  pub values : (v : List ℕ) (at : Scene) (w : ℕ) (e : ExprTree) (s : Carried LinearTerm) → CarriedFits term_fits s
      → value_in (numbers v (unknown_count i)) at w e (carried_valued (term_at v) s) ≡ on_ok (term_at v) (value_in (terms (unknown_count i)) at w e s)
  pub truths : (v : List ℕ) (at : Scene) (test : CondTree) (s : Carried LinearTerm) → CarriedFits term_fits s
      → truth_in (numbers v (unknown_count i)) at test (carried_valued (term_at v) s) ≡ on_ok (truth_of v) (truth_in (terms (unknown_count i)) at test s)
  pub kept : (at : Scene) (w : ℕ) (e : ExprTree) (s : Carried LinearTerm) → CarriedFits term_fits s
      → IfOk (value_in (terms (unknown_count i)) at w e s) (Fits term_fits w)

-- and of verdicts, and of the walks of packets
pub record Below (net : Network) (i : Entry) (hops : ℕ) : Type 0 where
  pub verdicts : AreExact itself
  pub refute : AcceptedRefute itself
  pub takes : PacketsTakeRoutes net i hops
  pub passages : PassagesTakeRoutes net i hops
  pub shown_of : (ws : List Passage) (t : Trail) → (Has (map shown ws) t ↔ (w : Passage) × Has ws w × (shown w ≡ t))
  pub valuing : Valuing i
  pub typing : Typing i
