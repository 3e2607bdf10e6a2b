-- The symbolic state that an injection begins with.
use Rattle.std.specs.Prelude.{◌≡◌, ℕ, true, List, [], map, Result, Ok, Err}
use Rattle.std.specs.List.{AllByRecursion}
use Rattle.sn_width.specs.declared.faults.StepFault.{StepFault}
use Rattle.sn_width.specs.declared.faults.StepFault.TheVariants.{Layout, NoMemory}
use Rattle.sefl_syntax.specs.Trees.{CondTree, InjectionTree}
use Rattle.lin_term.specs.Terms.{LinearTerm}
use Rattle.path_formula.specs.Formulas.{FormulaTree}
use Rattle.path_formula.specs.View.{view}
use Rattle.path_cond.specs.Conditions.{Entry}
use Rattle.cell_stacks.specs.Outcome.{and_then}
use Rattle.sefl_meaning.specs.Network.{Network, Entry as Injection}
use Rattle.sefl_meaning.specs.Carried.{Scene, scene_at}
use Rattle.sefl_meaning.specs.Injected.{injected, unknown_count, unknown_widths}
use Rattle.sefl_meaning.specs.Start.{Start, tests_in, tree_from}
use Rattle.term_values.specs.TermValues.{terms}
use Rattle.sym_state.specs.Symbolic.{Symbolic, with_entries}

-- the trees of formulas
abbrev pub trees_of : List Entry → List FormulaTree
trees_of entries = map (λ entry. view entry.0) entries

-- each formula must be true
abbrev pub MustBeTrue : List Entry → Type 0
MustBeTrue entries = AllByRecursion (λ entry. entry.1 ≡ true) entries

-- the state carries what this injection makes here, its symbols are the `unknowns` unknown fields, and its formulas are the
-- tests of the injection, which must be true; its bound on choices of cases is `most`; nothing was decided or arrived at
pub record BeginsAs (unknowns most : ℕ) (at : Scene) (i : InjectionTree) (s : Symbolic) : Type 0 where
  pub carries : injected (terms unknowns) at i ≡ Ok s.carried
  pub tests : tests_in (terms unknowns) at i.tests s.carried ≡ Ok (trees_of s.condition.entries)
  pub true_tests : MustBeTrue s.condition.entries
  pub widths : s.condition.widths ≡ unknown_widths i.fields
  pub most_choices : s.condition.most_choices ≡ most
  pub unknown_fields : s.unknowns ≡ unknowns
  pub decisions : s.decisions ≡ []
  pub places : s.places ≡ []

-- it is the state that the injection of the net begins with
abbrev pub Begins : Network → Injection → Symbolic → Type 0
Begins net i s = BeginsAs (unknown_count i) i.most_choices (scene_at net i.node) i.own s

-- what is explored from this state, with this many hops
abbrev pub start_in : Network → Injection → ℕ → Symbolic → Start LinearTerm FormulaTree
start_in net i hops s = record {
  unknowns = s.condition.widths;
  tests = trees_of s.condition.entries;
  tree = tree_from (terms (unknown_count i)) net i hops s.carried;
  most_choices = s.condition.most_choices;
}

-- the state before its tests are looked at
pub record CarriesIts (unknowns most : ℕ) (at : Scene) (i : InjectionTree) (s : Symbolic) : Type 0 where
  pub carries : injected (terms unknowns) at i ≡ Ok s.carried
  pub none : s.condition.entries ≡ []
  pub widths : s.condition.widths ≡ unknown_widths i.fields
  pub most_choices : s.condition.most_choices ≡ most
  pub unknown_fields : s.unknowns ≡ unknowns
  pub decisions : s.decisions ≡ []
  pub places : s.places ≡ []

abbrev pub CarriesAs : ℕ → ℕ → Scene → InjectionTree → Result Symbolic StepFault → Type 0
CarriesAs unknowns most at i (Ok s) = CarriesIts unknowns most at i s
CarriesAs unknowns most at i (Err (Layout fault)) = injected (terms unknowns) at i ≡ Err fault
CarriesAs unknowns most at i (Err NoMemory) = Unit {0}

-- what a call that makes it in parts answers
abbrev pub BegunAs : ℕ → ℕ → Scene → InjectionTree → Result Symbolic StepFault → Type 0
BegunAs unknowns most at i (Ok s) = BeginsAs unknowns most at i s
BegunAs unknowns most at i (Err (Layout fault)) = and_then (injected (terms unknowns) at i) (tests_in (terms unknowns) at i.tests) ≡ Err fault
BegunAs unknowns most at i (Err NoMemory) = Unit {0}

-- a state with the formulas of these tests more, which must be true
pub record IsAsking (unknowns : ℕ) (at : Scene) (tests : List CondTree) (old new : Symbolic) : Type 0 where
  pub more : List Entry
  pub is : new ≡ with_entries old more
  pub trees : tests_in (terms unknowns) at tests old.carried ≡ Ok (trees_of more)
  pub true_tests : MustBeTrue more

abbrev pub AsksAs : ℕ → Scene → List CondTree → Result (Unit {0}) StepFault → Symbolic → Symbolic → Type 0
AsksAs unknowns at tests (Ok done) old new = IsAsking unknowns at tests old new
AsksAs unknowns at tests (Err (Layout fault)) old new = tests_in (terms unknowns) at tests old.carried ≡ Err fault
AsksAs unknowns at tests (Err NoMemory) old new = Unit {0}
