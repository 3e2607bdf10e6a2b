-- What is explored from an injection.
use Rattle.std.proofs.Common.{◌≡◌, ◌∙◌, refl, sym, ap, subst, ℕ, Bool, true, List, [], ◌∷◌, map, Result, Ok, Err}
use Rattle.std.specs.Prelude.{IfOk}
use Rattle.std.specs.List.{AllByRecursion}
use Rattle.sn_width.specs.declared.faults.LayoutFault.{LayoutFault}
use Rattle.sefl_syntax.specs.Trees.{CondTree}
use Rattle.cell_stacks.specs.Outcome.{and_then, on_ok}
use Rattle.sefl_meaning.specs.Values.{Values}
use Rattle.sefl_meaning.specs.Network.{Network, Entry}
use Rattle.sefl_meaning.specs.Carried.{Carried, Scene, carried_valued, scene_at}
use Rattle.sefl_meaning.specs.Terms.{truth_in}
use Rattle.sefl_meaning.specs.Injected.{IsTrueIn, unknown_widths}
use Rattle.sefl_meaning.specs.Trees.{Tree}
use Rattle.sefl_meaning.specs.Start.{Start, start_from, start_valued, tree_from, tests_in}
use Rattle.sefl_meaning.specs.Valued.{CarriedFits, tree_valued}

abbrev or_else : {A : Type 0} → A → Result A LayoutFault → A
or_else default (Ok x) = x
or_else default (Err fault) = default

clash : {A : Type 0} (fault : LayoutFault) (x : A) (r : Result A LayoutFault) → r ≡ Err fault → r ≡ Ok x → ⊥
clash fault x r failed is = cc

no_error : {A C : Type 0} (fault : LayoutFault) (x : A) → Err fault ≡ Ok x → C
no_error fault x is = absurd (clash fault x (Err fault) refl is)

-- ---- truths of conditions

pub record AllTrue (step : Result (List Bool) LayoutFault) : Type 0 where
  pub truths : List Bool
  pub is : step ≡ Ok truths
  pub true' : AllByRecursion (λ t. t ≡ true) truths

module _ (o : Values ℕ Bool) (at : Scene) (s : Carried ℕ) where
  next_true : (test : CondTree) (more : Result (List Bool) LayoutFault) → IsTrueIn at o s test → AllTrue more
      → AllTrue (and_then (truth_in o at test s) (λ t. on_ok (λ ts. t ∷ ts) more))
  next_true test more now later = record {
    truths = true ∷ later.truths;
    is = ap (λ r. and_then r (λ t. on_ok (λ ts. t ∷ ts) more)) now ∙ ap (on_ok (λ ts. true ∷ ts)) later.is;
    true' = (refl, later.true');
  }

  pub all_true : (tests : List CondTree) → AllByRecursion (IsTrueIn at o s) tests → AllTrue (tests_in o at tests s)
  all_true [] all = record { truths = []; is = refl; true' = tt }
  all_true (test ∷ more) all = next_true test (tests_in o at more s) all.0 (all_true more all.1)

  next_so : (P : Type 0) (now : Result Bool LayoutFault) (later : Result (List Bool) LayoutFault) (truths : List Bool)
      → and_then now (λ t. on_ok (λ ts. t ∷ ts) later) ≡ Ok truths → AllByRecursion (λ t. t ≡ true) truths
      → ((ts : List Bool) → later ≡ Ok ts → AllByRecursion (λ t. t ≡ true) ts → P) → (now ≡ Ok true) × P
  next_so P (Err fault) later truths is all rest = no_error fault truths is
  next_so P (Ok t) (Err fault) truths is all rest = no_error fault truths is
  next_so P (Ok t) (Ok ts) truths is all rest =
      let both : AllByRecursion (λ t. t ≡ true) (t ∷ ts) = subst (AllByRecursion (λ t. t ≡ true)) (sym (ap (or_else truths) is)) all in
      (ap Ok both.0, rest ts refl both.1)

  pub all_so : (tests : List CondTree) (truths : List Bool) → tests_in o at tests s ≡ Ok truths → AllByRecursion (λ t. t ≡ true) truths
      → AllByRecursion (IsTrueIn at o s) tests
  all_so [] truths is all = tt
  all_so (test ∷ more) truths is all =
      next_so (AllByRecursion (IsTrueIn at o s) more) (truth_in o at test s) (tests_in o at more s) truths is all (all_so more)

-- ---- the tests of a start

abbrev made : {V F : Type 0} → List ℕ → ℕ → Tree V F → List F → Start V F
made unknowns most tree tests = record { unknowns = unknowns; tests = tests; tree = tree; most_choices = most }

tests_of_made : {V F : Type 0} (unknowns : List ℕ) (most : ℕ) (tree : Tree V F) (truths : Result (List F) LayoutFault)
    → on_ok (λ (start : Start V F). start.tests) (on_ok (made unknowns most tree) truths) ≡ truths
tests_of_made unknowns most tree (Err fault) = refl
tests_of_made unknowns most tree (Ok ts) = refl

pub its_tests : {V F : Type 0} (o : Values V F) (net : Network) (i : Entry) (hops : ℕ) (s : Carried V) (start : Start V F)
    → start_from o net i hops s ≡ Ok start → tests_in o (scene_at net i.node) i.own.tests s ≡ Ok start.tests
its_tests o net i hops s start is =
    sym (tests_of_made (unknown_widths i.own.fields) i.most_choices (tree_from o net i hops s) (tests_in o (scene_at net i.node) i.own.tests s))
    ∙ ap (on_ok (λ begun. begun.tests)) is

-- ---- functions of values

module _ {V F W G : Type 0} (o : Values V F) (p : Values W G) (f : V → W) (g : F → G) (at : Scene) (s : Carried V) where
  next_valued : (test : Result F LayoutFault) (more : Result (List F) LayoutFault) (more' : Result (List G) LayoutFault) → more' ≡ on_ok (map g) more
      → and_then (on_ok g test) (λ t. on_ok (λ ts. t ∷ ts) more') ≡ on_ok (map g) (and_then test (λ t. on_ok (λ ts. t ∷ ts) more))
  next_valued (Err fault) more more' same = refl
  next_valued (Ok t) (Err fault) more' same = ap (on_ok (λ ts. g t ∷ ts)) same
  next_valued (Ok t) (Ok ts) more' same = ap (on_ok (λ ts. g t ∷ ts)) same

  pub truths_valued : ((test : CondTree) → truth_in p at test (carried_valued f s) ≡ on_ok g (truth_in o at test s)) → (tests : List CondTree)
      → tests_in p at tests (carried_valued f s) ≡ on_ok (map g) (tests_in o at tests s)
  truths_valued each [] = refl
  truths_valued each (test ∷ more) =
      ap (λ r. and_then r (λ t. on_ok (λ ts. t ∷ ts) (tests_in p at more (carried_valued f s)))) (each test)
      ∙ next_valued (truth_in o at test s) (tests_in o at more s) (tests_in p at more (carried_valued f s)) (truths_valued each more)

module _ {V F W G : Type 0} (f : V → W) (g : F → G) (unknowns : List ℕ) (most : ℕ) where
  same_start : (tests : Result (List F) LayoutFault) (tests' : Result (List G) LayoutFault) (tree : Tree V F) (tree' : Tree W G)
      → tests' ≡ on_ok (map g) tests → tree' ≡ tree_valued f g tree
      → on_ok (made unknowns most tree') tests' ≡ on_ok (start_valued f g) (on_ok (made unknowns most tree) tests)
  same_start (Err fault) tests' tree tree' same trees = ap (on_ok (made unknowns most tree')) same
  same_start (Ok ts) tests' tree tree' same trees =
      ap (on_ok (made unknowns most tree')) same ∙ ap (λ t. Ok (made unknowns most t (map g ts))) trees

module _ {V F W G : Type 0} (o : Values V F) (p : Values W G) (f : V → W) (g : F → G) (net : Network) (i : Entry) (hops : ℕ) where
  pub start_from_valued : (s : Carried V)
      → ((test : CondTree) → truth_in p (scene_at net i.node) test (carried_valued f s) ≡ on_ok g (truth_in o (scene_at net i.node) test s))
      → tree_from p net i hops (carried_valued f s) ≡ tree_valued f g (tree_from o net i hops s)
      → start_from p net i hops (carried_valued f s) ≡ on_ok (start_valued f g) (start_from o net i hops s)
  start_from_valued s each trees =
      same_start f g (unknown_widths i.own.fields) i.most_choices (tests_in o (scene_at net i.node) i.own.tests s)
      (tests_in p (scene_at net i.node) i.own.tests (carried_valued f s)) (tree_from o net i hops s)
      (tree_from p net i hops (carried_valued f s)) (truths_valued o p f g (scene_at net i.node) s each i.own.tests) trees

  pub start_valued_of : (fits : ℕ → V → Bool) (carried : Result (Carried V) LayoutFault) → IfOk carried (CarriedFits fits)
      → ((s : Carried V) → CarriedFits fits s → start_from p net i hops (carried_valued f s) ≡ on_ok (start_valued f g) (start_from o net i hops s))
      → and_then (on_ok (carried_valued f) carried) (start_from p net i hops) ≡ on_ok (start_valued f g) (and_then carried (start_from o net i hops))
  start_valued_of fits (Err fault) held each = refl
  start_valued_of fits (Ok s) held each = each s held

-- ---- an accepted injection

module _ {V F : Type 0} (o : Values V F) (at : Scene) (s : Carried V) where
  next_goes : (test : Result F LayoutFault) (more : Result (List F) LayoutFault) → (t : F) × (test ≡ Ok t) → (ts : List F) × (more ≡ Ok ts)
      → (ts : List F) × (and_then test (λ t. on_ok (λ ts. t ∷ ts) more) ≡ Ok ts)
  next_goes test more now later =
      (now.0 ∷ later.0, ap (λ r. and_then r (λ t. on_ok (λ ts. t ∷ ts) more)) now.1 ∙ ap (on_ok (λ ts. now.0 ∷ ts)) later.1)

  pub truths_go : (tests : List CondTree) → AllByRecursion (λ test. (truth : F) × (truth_in o at test s ≡ Ok truth)) tests
      → (ts : List F) × (tests_in o at tests s ≡ Ok ts)
  truths_go [] all = ([], refl)
  truths_go (test ∷ more) all = next_goes (truth_in o at test s) (tests_in o at more s) all.0 (truths_go more all.1)
