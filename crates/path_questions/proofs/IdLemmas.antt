-- Ids of names that are none of the job's, and reads of metadata.
use Rattle.std.proofs.Common.{◌≡◌, ◌∙◌, ℕ, Bool, true, false, cond, ltb, List, length, Option, Some, None, Result, refl, sym, ap, arith}
use Rattle.std.specs.List.{position, position_or_len}
use Rattle.std.proofs.lemmas.List.Sums.{prefix_len-le-length}
use Rattle.std.proofs.lemmas.Bool.Decides.{nat_tests}
use Rattle.std.specs.Prelude.{not}
use Rattle.sn_width.specs.declared.ids.NodeId.{NodeId}
use Rattle.sn_width.specs.declared.ids.NameId.{NameId}
use Rattle.sn_width.specs.declared.faults.LayoutFault.{LayoutFault}
use Rattle.sefl_syntax.specs.declared.reference.Scope.{Scope}
use Rattle.sefl_syntax.specs.declared.reference.Target.{Target}
use Rattle.sefl_syntax.specs.declared.reference.Target.TheVariants.{Meta}
use Rattle.metadata_scopes.specs.Scopes as scopes
use Rattle.lin_term.specs.Terms.{LinearTerm}
use Rattle.sefl_meaning.specs.Network.{name_id}
use Rattle.sefl_meaning.specs.Carried as carried
use Rattle.sefl_meaning.specs.Carried.{Carried, Key, owner_of, read_at}

-- of a test that no item passes the place is the number of the items
pub past_the_last : {X : Type 0} (p : X → Bool) (xs : List X) → None ≡ position p xs → length xs ≡ position_or_len p xs
past_the_last p xs h = by (ltb (position_or_len p xs) (length xs)) refl h
  where
    by : (b : Bool) → ltb (position_or_len p xs) (length xs) ≡ b → None ≡ cond b (Some (position_or_len p xs)) None → length xs ≡ position_or_len p xs
    by true e h = cc
    by false e h = grind (arith, nat_tests, prefix_len-le-length (λ x. not (p x)) xs)

module _ (at : carried.Scene) (target : Target) (scope : Scope) (name : List ℕ) (width : ℕ) (owner : Option NodeId) (id : NameId)
    (is : target ≡ Meta scope name width) (o : owner ≡ owner_of scope at.node) (i : id ≡ name_id at.net name) where
  -- metadata is read by its owner and its id
  pub reads : (w : ℕ) (s : Carried LinearTerm) (r : Result LinearTerm LayoutFault) → r ≡ scopes.value_of owner id w s.scopes → r ≡ read_at at w target s
  reads w s r h =
      h ∙ ((λ j. scopes.value_of (o j) (i j) w s.scopes) ∙ ap (λ t. read_at at w t s) (sym is))
