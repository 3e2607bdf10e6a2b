-- What is explored under a larger bound of hops.
use Rattle.std.proofs.Common.{◌≡◌, ◌≤◌, ◌∙◌, ℕ, List, refl, sym, ap, subst, Result, Ok, Err}
use Rattle.sn_width.specs.declared.faults.LayoutFault.{LayoutFault}
use Rattle.cell_stacks.specs.Outcome.{and_then, on_ok}
use Rattle.sefl_meaning.specs.Values.{Values}
use Rattle.sefl_meaning.specs.Network.{Network, Entry}
use Rattle.sefl_meaning.specs.Carried.{Carried, scene_at}
use Rattle.sefl_meaning.specs.Injected.{injected, unknown_widths}
use Rattle.sefl_meaning.specs.Runs.{starting}
use Rattle.sefl_meaning.specs.Start.{Start, start_from, start_of, tests_in, tree_from}
use Rattle.hop_bounds.proofs.Longer.{Longer, longer_enter}

abbrev or_else : {A : Type 0} → A → Result A LayoutFault → A
or_else none (Ok x) = x
or_else none (Err fault) = none

ok_same : {A : Type 0} (x y : A) (r : Result A LayoutFault) → r ≡ Ok x → r ≡ Ok y → x ≡ y
ok_same x y r h k = ap (or_else x) (sym h ∙ k)

clash : {A : Type 0} (fault : LayoutFault) (x : A) (r : Result A LayoutFault) → r ≡ Err fault → r ≡ Ok x → ⊥
clash fault x r failed is = cc

no_error : {A C : Type 0} (fault : LayoutFault) (x : A) → Err fault ≡ Ok x → C
no_error fault x e = absurd (clash fault x (Err fault) refl e)

module _ {V F : Type 0} (o : Values V F) (net : Network) (i : Entry) (hops more : ℕ) (least : hops ≤ more) where
  -- the same start, but for a tree that goes on where that of the other is cut
  pub record Goes (start : Start V F) (result : Result (Start V F) LayoutFault) : Type 0 where
    pub further : Start V F
    pub is : result ≡ Ok further
    pub unknowns : further.unknowns ≡ start.unknowns
    pub tests : further.tests ≡ start.tests
    pub most_choices : further.most_choices ≡ start.most_choices
    pub tree : Longer start.tree further.tree

  abbrev made : ℕ → Carried V → List F → Start V F
  made n s fs = record { unknowns = unknown_widths i.own.fields; tests = fs; tree = tree_from o net i n s; most_choices = i.most_choices }

  with_tests : (s : Carried V) (result : Result (List F) LayoutFault) (start : Start V F) → on_ok (made hops s) result ≡ Ok start
      → Goes start (on_ok (made more s) result)
  with_tests s (Err fault) start e = no_error fault start e
  with_tests s (Ok fs) start e =
      subst (λ (x : Start V F). Goes x (on_ok (made more s) (Ok fs))) (ok_same (made hops s fs) start (Ok (made hops s fs)) refl e)
      (record {
        further = made more s fs;
        is = refl;
        unknowns = refl;
        tests = refl;
        most_choices = refl;
        tree = longer_enter o net hops more least i.node i.own.port (starting s);
      })

  with_state : (result : Result (Carried V) LayoutFault) (start : Start V F) → and_then result (start_from o net i hops) ≡ Ok start
      → Goes start (and_then result (start_from o net i more))
  with_state (Err fault) start e = no_error fault start e
  with_state (Ok s) start e = with_tests s (tests_in o (scene_at net i.node) i.own.tests s) start e

  pub goes_further : (start : Start V F) → start_of o net i hops ≡ Ok start → Goes start (start_of o net i more)
  goes_further start e = with_state (injected o (scene_at net i.node) i.own) start e
