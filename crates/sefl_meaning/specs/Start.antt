-- What is explored from an injection, with values of any kind.
use Rattle.std.specs.Prelude.{◌≡◌, ℕ, Bool, true, List, [], ◌∷◌, ◌++◌, map, Result, Ok}
use Rattle.std.specs.List.{AllByRecursion}
use Rattle.sn_width.specs.declared.faults.LayoutFault.{LayoutFault}
use Rattle.sefl_syntax.specs.Trees.{CondTree}
use Rattle.cell_stacks.specs.Outcome.{and_then, on_ok}
use Rattle.sefl_meaning.specs.Values.{Values, numbers}
use Rattle.sefl_meaning.specs.Network.{Network, Entry}
use Rattle.sefl_meaning.specs.Carried.{Carried, Scene, scene_at}
use Rattle.sefl_meaning.specs.Terms.{truth_in}
use Rattle.sefl_meaning.specs.Injected.{FitWidths, injected, unknown_count, unknown_widths}
use Rattle.sefl_meaning.specs.Runs.{Progress, starting}
use Rattle.sefl_meaning.specs.Trees.{Tree, over, arrives, tests, splits, enter}
use Rattle.sefl_meaning.specs.Routes.{Route}
use Rattle.sefl_meaning.specs.Valued.{tree_valued}

-- the widths of the unknown fields, the tests of the injection, the tree from its port, and the bound on the choices of cases that
-- decisions try
pub record Start (V F : Type 0) : Type 0 where
  pub unknowns : List ℕ
  pub tests : List F
  pub tree : Tree V F
  pub most_choices : ℕ

module _ {V F : Type 0} (o : Values V F) where
  -- the truths of conditions, in order, or the first fault
  abbrev pub tests_in : Scene → List CondTree → Carried V → Result (List F) LayoutFault
  tests_in at [] s = Ok []
  tests_in at (test ∷ more) s = and_then (truth_in o at test s) (λ f. on_ok (λ fs. f ∷ fs) (tests_in at more s))

  -- the tree from the injection's port, where this is carried
  abbrev pub tree_from : Network → Entry → ℕ → Carried V → Tree V F
  tree_from net i hops s = enter o net hops i.node i.own.port (starting s)

  -- of what is carried there
  abbrev pub start_from : Network → Entry → ℕ → Carried V → Result (Start V F) LayoutFault
  start_from net i hops s =
      on_ok
      (λ fs. record { unknowns = unknown_widths i.own.fields; tests = fs; tree = tree_from net i hops s; most_choices = i.most_choices })
      (tests_in (scene_at net i.node) i.own.tests s)

  abbrev pub start_of : Network → Entry → ℕ → Result (Start V F) LayoutFault
  start_of net i hops = and_then (injected o (scene_at net i.node) i.own) (start_from net i hops)

-- what was carried and counted where a tree waits, arrives or is over
abbrev pub progress_of : {V F : Type 0} → Tree V F → Progress V
progress_of (over p end') = p
progress_of (arrives place p t) = p
progress_of (tests asking p test held broken) = p
progress_of (splits p branches) = p

module _ {V F : Type 0} (start : Start V F) where
  -- the widths of all symbols where a route waits or is over: of the unknown fields, and of the choices so far
  abbrev pub widths_on : Route V F → List ℕ
  widths_on r = start.unknowns ++ (progress_of r.left).choices

  -- all tests with the truths under which a packet comes along the route: those of the injection hold
  abbrev pub tests_on : Route V F → List (F × Bool)
  tests_on r = map (λ f. (f, true)) start.tests ++ r.tests

abbrev pub start_valued : {V F W G : Type 0} → (V → W) → (F → G) → Start V F → Start W G
start_valued f g s =
    record { unknowns = s.unknowns; tests = map g s.tests; tree = tree_valued f g s.tree; most_choices = s.most_choices }

-- a packet starts so, exactly where it fits and its numbers give this state and tests that are all true
pub record StartsAt (net : Network) (i : Entry) (v : List ℕ) (hops : ℕ) (s : Carried ℕ) : Type 0 where
  pub fits : FitWidths (unknown_widths i.own.fields) v
  pub carries : injected (numbers v (unknown_count i)) (scene_at net i.node) i.own ≡ Ok s
  pub start : Start ℕ Bool
  pub starts : start_from (numbers v (unknown_count i)) net i hops s ≡ Ok start
  pub holds : AllByRecursion (λ truth. truth ≡ true) start.tests
