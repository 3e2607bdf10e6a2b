-- What is explored of a net has one start, along which choices grow.
use Rattle.std.proofs.Common.{◌≡◌, ◌∙◌, ℕ, List, [], refl, sym, ap, subst, Result, Ok, Err}
use Rattle.sn_width.specs.declared.faults.LayoutFault.{LayoutFault}
use Rattle.cell_stacks.specs.Outcome.{and_then, on_ok}
use Rattle.sefl_meaning.specs.Values.{Values}
use Rattle.sefl_meaning.specs.Network.{Network, Entry}
use Rattle.sefl_meaning.specs.Carried.{Carried, scene_at}
use Rattle.sefl_meaning.specs.Injected.{injected, unknown_count, unknown_widths}
use Rattle.sefl_meaning.specs.Runs.{starting}
use Rattle.sefl_meaning.specs.Start.{Start, start_from, start_of, tests_in, tree_from}
use Rattle.term_values.specs.TermValues.{terms}
use Rattle.exact_records.specs.Exact.{AreExact}
use Rattle.one_list.specs.Same.{ExploredRecordsAreOne, RecordsAreOne}
use Rattle.path_questions.proofs.Growing.{TreeGrows, enter_grows}

abbrev or_else : {A : Type 0} → A → Result A LayoutFault → A
or_else other (Ok x) = x
or_else other (Err fault) = other

pub ok_same : {A : Type 0} (x y : A) (r : Result A LayoutFault) → r ≡ Ok x → r ≡ Ok y → x ≡ y
ok_same x y r h k = ap (or_else x) (sym h ∙ k)

err_not_ok : {A : Type 0} (fault : LayoutFault) (x : A) (r : Result A LayoutFault) → r ≡ Err fault → r ≡ Ok x → ⊥
err_not_ok fault x r failed is = cc

module _ {V F : Type 0} (o : Values V F) (net : Network) (i : Entry) (hops : ℕ) where
  abbrev made : Carried V → List F → Start V F
  made s fs = record { unknowns = unknown_widths i.own.fields; tests = fs; tree = tree_from o net i hops s; most_choices = i.most_choices }

  with_tests : (s : Carried V) (result : Result (List F) LayoutFault) (start : Start V F) → on_ok (made s) result ≡ Ok start
      → TreeGrows [] start.tree
  with_tests s (Err fault) start e = absurd (err_not_ok fault start (Err fault) refl e)
  with_tests s (Ok fs) start e =
      subst (λ (x : Start V F). TreeGrows [] x.tree) (ok_same (made s fs) start (Ok (made s fs)) refl e)
      (enter_grows o net hops i.node i.own.port (starting s))

  with_state : (result : Result (Carried V) LayoutFault) (start : Start V F) → and_then result (start_from o net i hops) ≡ Ok start
      → TreeGrows [] start.tree
  with_state (Err fault) start e = absurd (err_not_ok fault start (Err fault) refl e)
  with_state (Ok s) start e = with_tests s (tests_in o (scene_at net i.node) i.own.tests s) start e

  pub start_grows : (start : Start V F) → start_of o net i hops ≡ Ok start → TreeGrows [] start.tree
  start_grows start e = with_state (injected o (scene_at net i.node) i.own) start e

-- two lists for one job are of one start
pub one_start : (net : Network) (i : Entry) (hops : ℕ) → ExploredRecordsAreOne net i hops → RecordsAreOne net i hops
one_start net i hops one limit rs qs h k =
    let same = ok_same k.start h.start (start_of (terms (unknown_count i)) net i hops) k.explored h.explored in
    one h.start h.explored limit rs qs h.exact (subst (λ s. AreExact s limit qs) same k.exact)
