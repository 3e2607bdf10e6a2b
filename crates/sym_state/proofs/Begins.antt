-- The state that an injection begins with, from its parts.
use Rattle.std.proofs.Common.{◌≡◌, ℕ, List, [], Result, Ok, Err, subst}
use Rattle.sn_width.specs.declared.faults.LayoutFault.{LayoutFault}
use Rattle.sn_width.specs.declared.ids.NodeId.{NodeId}
use Rattle.sefl_syntax.specs.Trees.{InjectionTree}
use Rattle.sefl_syntax.specs.Views.{injection_tree}
use Rattle.sefl_syntax.specs.declared.job.RawInjection.{RawInjection}
use Rattle.lin_term.specs.Terms.{LinearTerm}
use Rattle.path_formula.specs.Formulas.{FormulaTree}
use Rattle.cell_stacks.specs.Outcome.{and_then, on_ok}
use Rattle.net_check.specs.Network.{EntryParts, entry}
use Rattle.sefl_meaning.specs.Network.{Network, Entry as Injection}
use Rattle.sefl_meaning.specs.Carried.{Scene, scene_at}
use Rattle.sefl_meaning.specs.Injected.{injected, unknown_count, unknown_widths}
use Rattle.sefl_meaning.specs.Start.{Start, start_of, tests_in, tree_from}
use Rattle.sefl_meaning.specs.declared.walk.Iteration.{Iteration}
use Rattle.term_values.specs.TermValues.{terms}

-- the code's names for the parts of an injection are those of the definition
pub in_place : (P : ℕ → Scene → InjectionTree → Type 0) (net : Network) (p : EntryParts) (raw : RawInjection) (unknowns : ℕ) (node : NodeId) (iterations : List Iteration)
    → raw ≡ p.raw → unknowns ≡ unknown_count (entry p) → node ≡ p.node → iterations ≡ []
    → P unknowns (record { net = net; node = node; iterations = iterations }) (injection_tree raw)
    → P (unknown_count (entry p)) (scene_at net p.node) (entry p).own
in_place P net p raw unknowns node iterations raw_is count place none h =
    subst (λ (x : ℕ × Scene × InjectionTree). P x.0 x.1 x.2)
    (λ j. (count j, record { net = net; node = place j; iterations = none j }, injection_tree (raw_is j))) h

no_tests : {A S : Type 0} (tests : Result A LayoutFault) (start : A → S) (goes : S) (fault : LayoutFault) → on_ok start tests ≡ Ok goes → tests ≡ Err fault → ⊥
no_tests (Ok x) start goes fault h k = cc
no_tests (Err e) start goes fault h k = cc

no_start : {C A S : Type 0} (carried : Result C LayoutFault) (tests : C → Result A LayoutFault) (start : C → A → S) (goes : S) (fault : LayoutFault)
    → and_then carried (λ c. on_ok (start c) (tests c)) ≡ Ok goes → and_then carried tests ≡ Err fault → ⊥
no_start (Ok c) tests start goes fault h k = no_tests (tests c) (start c) goes fault h k
no_start (Err e) tests start goes fault h k = cc

-- an injection with a start has no fault
pub has_no_fault : (net : Network) (i : Injection) (start : Start LinearTerm FormulaTree) (fault : LayoutFault)
    → start_of (terms (unknown_count i)) net i 0 ≡ Ok start
    → and_then (injected (terms (unknown_count i)) (scene_at net i.node) i.own) (tests_in (terms (unknown_count i)) (scene_at net i.node) i.own.tests) ≡ Err fault → ⊥
has_no_fault net i start fault h k =
    no_start (injected (terms (unknown_count i)) (scene_at net i.node) i.own) (tests_in (terms (unknown_count i)) (scene_at net i.node) i.own.tests)
    (λ s fs. record { unknowns = unknown_widths i.own.fields; tests = fs; tree = tree_from (terms (unknown_count i)) net i 0 s; most_choices = i.most_choices }) start fault h k
