-- Steps on metadata that are named by scope and name, and reads of them.
use Rattle.std.proofs.Common.{◌≡◌, ℕ, List, Option, Result, Ok, Err, sym, ap, ◌∙◌, subst, rules}
use Rattle.std.specs.declared.alloc.Global.{Global}
use Rattle.std.specs.declared.vec.Vec.{Vec}
use Rattle.sn_width.specs.declared.ids.NodeId.{NodeId}
use Rattle.sn_width.specs.declared.ids.NameId.{NameId}
use Rattle.sn_width.specs.declared.faults.LayoutFault.{LayoutFault}
use Rattle.sn_width.specs.declared.faults.StepFault.{StepFault}
use Rattle.sn_width.specs.declared.faults.StepFault.TheVariants.{Layout, NoMemory}
use Rattle.sefl_syntax.specs.declared.reference.Scope.{Scope}
use Rattle.sefl_syntax.specs.declared.reference.Target.{Target}
use Rattle.sefl_syntax.specs.declared.reference.Target.TheVariants.{Meta}
use Rattle.sefl_syntax.specs.declared.expr.Expr.{Expr, Sum}
use Rattle.sefl_syntax.specs.declared.expr.Expr as expr
use Rattle.sefl_syntax.specs.declared.expr.Sign.{Sign}
use Rattle.std.specs.declared.boxed.Box.{Box}
use Rattle.sefl_syntax.specs.Trees.{sum}
use Rattle.sefl_syntax.specs.Views.{expr_tree, summand_trees}
use Rattle.cell_stacks.specs.Outcome.{and_then, on_ok, Gives, Meets}
use Rattle.metadata_scopes.specs.Scopes as scopes
use Rattle.metadata_scopes.specs.Scopes.{Metadata}
use Rattle.sefl_meaning.specs.Network.{name_id}
use Rattle.sefl_meaning.specs.Carried as carried
use Rattle.sefl_meaning.specs.Carried.{Carried, Key, owner_of, read_at, with_scopes}
use Rattle.sefl_meaning.specs.Steps.{allocated, deallocated, assigned}

on_scopes : {V : Type 0} (s : Carried V) (step : Result (Metadata V) LayoutFault) (result : Result (Unit {0}) StepFault) (new : Metadata V)
    → Meets step result s.scopes new → Meets (on_ok (with_scopes s) step) result s (with_scopes s new)
on_scopes s step (Ok done) new h = ap (on_ok (with_scopes s)) h
on_scopes s step (Err (Layout fault)) new h = (ap (on_ok (with_scopes s)) h.0, ap (with_scopes s) h.1)
on_scopes s step (Err NoMemory) new h = ap (with_scopes s) h

-- in a scene, of the metadata that a reference names
module _ (at : carried.Scene) (target : Target) (scope : Scope) (name : List ℕ) (width : ℕ) (owner : Option NodeId) (id : NameId)
    (is : target ≡ Meta scope name width) (o : owner ≡ owner_of scope at.node) (i : id ≡ name_id at.net name) where
  abbrev key : Key
  key = (owner, id)

  abbrev its_key : Key
  its_key = (owner_of scope at.node, name_id at.net name)

  named : key ≡ its_key
  named = λ j. (o j, i j)

  pub allocates : {V : Type 0} (s : Carried V) (result : Result (Unit {0}) StepFault) (new : Metadata V)
      → Meets (scopes.allocated owner id width s.scopes) result s.scopes new → Meets (allocated at target s) result s (with_scopes s new)
  allocates s result new h =
      subst (λ t. Meets (allocated at t s) result s (with_scopes s new)) (sym is)
      (on_scopes s (scopes.allocated (owner_of scope at.node) (name_id at.net name) width s.scopes) result new
      (subst (λ (k : Key). Meets (scopes.allocated k.0 k.1 width s.scopes) result s.scopes new) named h))

  pub deallocates : {V : Type 0} (s : Carried V) (result : Result (Unit {0}) StepFault) (new : Metadata V)
      → Meets (scopes.deallocated owner id width s.scopes) result s.scopes new → Meets (deallocated at target s) result s (with_scopes s new)
  deallocates s result new h =
      subst (λ t. Meets (deallocated at t s) result s (with_scopes s new)) (sym is)
      (on_scopes s (scopes.deallocated (owner_of scope at.node) (name_id at.net name) width s.scopes) result new
      (subst (λ (k : Key). Meets (scopes.deallocated k.0 k.1 width s.scopes) result s.scopes new) named h))

  pub assigns : {V : Type 0} (value : V) (s : Carried V) (result : Result (Unit {0}) StepFault) (new : Metadata V)
      → Meets (scopes.assigned owner id width value s.scopes) result s.scopes new → Meets (assigned at target value s) result s (with_scopes s new)
  assigns value s result new h =
      subst (λ t. Meets (assigned at t value s) result s (with_scopes s new)) (sym is)
      (on_scopes s (scopes.assigned (owner_of scope at.node) (name_id at.net name) width value s.scopes) result new
      (subst (λ (k : Key). Meets (scopes.assigned k.0 k.1 width value s.scopes) result s.scopes new) named h))

  pub reads : {V : Type 0} (w : ℕ) (s : Carried V) (r : Result V LayoutFault) → r ≡ scopes.value_of owner id w s.scopes → r ≡ read_at at w target s
  reads w s r h =
      h ∙ ap (λ (k : Key). scopes.value_of k.0 k.1 w s.scopes) named ∙ ap (λ t. read_at at w t s) (sym is)

pub tree_of_sum : (e : Expr) (first : Box Expr Global) (rest : Vec (Sign × Expr) Global) → e ≡ Sum first rest → expr_tree e ≡ sum (expr_tree first.value) (summand_trees rest.items)
tree_of_sum e first rest is = ap expr_tree is ∙ sum_tree
  where
    sum_tree : expr_tree (Sum first rest) ≡ sum (expr_tree first.value) (summand_trees rest.items)
    sum_tree = search (rules, expr.the_lemmas)

pub gives_next : {A B : Type 0} (r : Result A LayoutFault) (a : A) (next : A → Result B LayoutFault) (answer : Result B StepFault)
    → r ≡ Ok a → Gives (next a) answer → Gives (and_then r next) answer
gives_next {A} r a next answer e h = subst (λ (x : Result A LayoutFault). Gives (and_then x next) answer) (sym e) h
