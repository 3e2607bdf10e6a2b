-- The tests of an injection that keeps the rules read nothing that is not there.
use Rattle.std.proofs.Common.{◌≡◌, ◌∙◌, refl, sym, ap, ℕ, ◌==◌, Bool, true, false, ◌||◌, List, [], ◌∷◌, Option, None, Some, Result, Ok, Err, map, true≢false}
use Rattle.std.specs.Prelude.{is_none}
use Rattle.std.specs.List.{AllByRecursion, list_any}
use Rattle.std.proofs.lemmas.Bool.{eqb-true, not-false}
use Rattle.std.proofs.lemmas.Option.{none-some}
use Rattle.sn_width.specs.declared.faults.LayoutFault.{LayoutFault}
use Rattle.sn_width.specs.declared.ids.NodeId.{NodeId}
use Rattle.sefl_syntax.specs.declared.reference.Target.{Target}
use Rattle.sefl_syntax.specs.declared.job.RawField.{RawField}
use Rattle.sefl_syntax.specs.Trees.{CondTree}
use Rattle.job_items.specs.AtomRules.{atom_width, is_mixed, width_of}
use Rattle.job_items.specs.Atoms.{Atom, cond_atoms}
use Rattle.job_items.specs.Items.{Item, test_item}
use Rattle.job_items.specs.Rules.{differs_from, injected_width, item_atoms, reads_at_other_width, reads_what_is_not_injected}
use Rattle.job_items.specs.Tags.{Tags}
use Rattle.net_check.specs.Keeping.{KeepsRules, KeepsWidth}
use Rattle.sefl_meaning.specs.Network.{Network}
use Rattle.sefl_meaning.specs.Carried.{Carried, read_at, scene_at}
use Rattle.sefl_meaning.specs.Faults.{atoms_fault, earlier, fault_of, reads_fault}
use Rattle.sefl_meaning.specs.Terms.{truth_in}
use Rattle.sefl_meaning.specs.Values.{Values}
use Rattle.sefl_meaning.proofs.FaultLemmas.{truth_fault}
use Rattle.sefl_meaning.proofs.FieldLemmas.{HaveCells, Reads, any_fails}

right_of : (a b : Bool) → (a || b) ≡ false → b ≡ false
right_of true b h = absurd (true≢false h)
right_of false b h = h

-- a reference of a test to a field of the injection is read at the field's width
width_found : (t : Option ℕ) (w : ℕ) → is_none t ≡ false → differs_from t w ≡ false → t ≡ Some w
width_found None w there same = absurd (true≢false there)
width_found (Some n) w there same = ap Some (eqb-true n w (not-false (n == w) same))

module _ {V : Type 0} (net : Network) (node : NodeId) (known : Tags) (fields : List RawField) (s : Carried V) (have : HaveCells net node known fields s) where
  no_fault : (w : ℕ) (target : Target) → Reads net node w target s → fault_of (read_at (scene_at net node) w target s) ≡ None
  no_fault w target (x, e) = ap fault_of e

  reads_go : (w : ℕ) (targets : List Target) → AllByRecursion (λ t. width_of t ≡ w) targets
      → AllByRecursion (λ t. is_none (injected_width known fields t) ≡ false) targets
      → AllByRecursion (λ t. differs_from (injected_width known fields t) (width_of t) ≡ false) targets
      → reads_fault (scene_at net node) w targets s ≡ None
  reads_go w [] width there same = refl
  reads_go w (t ∷ targets) width there same =
      let found = width_found (injected_width known fields t) (width_of t) there.0 same.0 ∙ ap Some width.0 in
      ap (λ fault. earlier fault (reads_fault (scene_at net node) w targets s)) (no_fault w t (have.reads t w found))
      ∙ reads_go w targets width.1 there.1 same.1

  atoms_go : (atoms : List Atom) → AllByRecursion KeepsWidth atoms → AllByRecursion (λ a. reads_what_is_not_injected known fields a ≡ false) atoms
      → AllByRecursion (λ a. reads_at_other_width known fields a ≡ false) atoms → atoms_fault (scene_at net node) atoms s ≡ None
  atoms_go [] keeps there same = refl
  atoms_go (a ∷ atoms) keeps there same =
      ap (λ fault. earlier fault (atoms_fault (scene_at net node) atoms s))
      (reads_go (atom_width a) a.reads keeps.0.reads (any_fails (λ t. is_none (injected_width known fields t)) a.reads there.0)
      (any_fails (λ t. differs_from (injected_width known fields t) (width_of t)) a.reads same.0))
      ∙ atoms_go atoms keeps.1 there.1 same.1

  module _ {F : Type 0} (o : Values V F) (widths : (item : Item) → KeepsRules item → AllByRecursion KeepsWidth (item_atoms item)) where
    -- the test is true or false, and has no fault
    abbrev pub HasTruth : CondTree → Type 0
    HasTruth test = (truth : F) × (truth_in o (scene_at net node) test s ≡ Ok truth)

    truth_of : (test : CondTree) (r : Result F LayoutFault) → truth_in o (scene_at net node) test s ≡ r → fault_of r ≡ None → HasTruth test
    truth_of test (Ok truth) e h = (truth, e)
    truth_of test (Err fault) e h = absurd (none-some fault (sym h))

    test_goes : (test : CondTree) → KeepsRules (test_item known fields test) → HasTruth test
    test_goes test keeps =
        truth_of test (truth_in o (scene_at net node) test s) refl (truth_fault o (scene_at net node) s test
        ∙ atoms_go (cond_atoms test) (widths (test_item known fields test) keeps)
        (any_fails (reads_what_is_not_injected known fields) (cond_atoms test) keeps.bound)
        (any_fails (reads_at_other_width known fields) (cond_atoms test)
        (right_of (list_any is_mixed (cond_atoms test)) (list_any (reads_at_other_width known fields) (cond_atoms test)) keeps.one_width)))

    pub tests_go : (tests : List CondTree) → AllByRecursion KeepsRules (map (test_item known fields) tests) → AllByRecursion HasTruth tests
    tests_go [] keeps = tt
    tests_go (test ∷ tests) keeps = (test_goes test keeps.0, tests_go tests keeps.1)
