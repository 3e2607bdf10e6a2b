-- Walks ascend by their decisions.
use Rattle.std.proofs.Common.{ℕ, zero, suc, ◌+◌, ◌≤◌, inl, inr, List, [], ◌∷◌, ◌++◌, map, refl, arith, Option, None, Some}
use Rattle.std.specs.List.{AllByRecursion}
use Rattle.sn_width.specs.declared.ids.NodeId.{NodeId}
use Rattle.sefl_syntax.specs.declared.net.Side.TheVariants.{Inward, Outward}
use Rattle.sefl_meaning.specs.declared.walk.Decision.{Decision}
use Rattle.sefl_meaning.specs.declared.walk.Decision.TheVariants.{Copy}
use Rattle.sefl_meaning.specs.declared.walk.Place.{Place}
use Rattle.sefl_meaning.specs.Network.{Network, link_of}
use Rattle.sefl_meaning.specs.Runs.{Progress, Exit, off, go, forked, failed, Ran}
use Rattle.sefl_meaning.specs.Walks.{Passage, shown, Onward, by_way_of, decided, place_at, run_port, crossed, leave, copies, passed, enter}
use Rattle.sefl_meaning.specs.Order.{rank, Ascend, Parts, WalksAscend}
use Rattle.sefl_meaning.proofs.AllLemmas.{all_append, all_map, all_weaker}

abbrev PassagesAscend : List Passage → Type 0
PassagesAscend ts = Ascend (λ (t : Passage). t.decisions) ts

append_ascends : (ts us : List Passage) → PassagesAscend ts → PassagesAscend us →
    AllByRecursion (λ t. AllByRecursion (λ u. Parts t.decisions u.decisions) us) ts → PassagesAscend (ts ++ us)
append_ascends [] us ht hu h = hu
append_ascends (t ∷ ts) us ht hu h = (all_append _ ts us ht.0 h.0, append_ascends ts us ht.1 hu h.1)

by_way_ascends : (place : Place) (p : Progress ℕ) (ts : List Passage) → PassagesAscend ts →
    PassagesAscend (map (by_way_of place p) ts)
by_way_ascends place p [] h = tt
by_way_ascends place p (t ∷ ts) h =
    (all_map _ _ (by_way_of place p) ts (λ u part. part) h.0, by_way_ascends place p ts h.1)

part_behind : (ds cs es : List Decision) → Parts cs es → Parts (ds ++ cs) (ds ++ es)
part_behind [] cs es h = h
part_behind (d ∷ ds) cs es h = inr (refl, part_behind ds cs es h)

decided_ascends : (ds : List Decision) (ts : List Passage) → PassagesAscend ts → PassagesAscend (map (decided ds) ts)
decided_ascends ds [] h = tt
decided_ascends ds (t ∷ ts) h =
    (all_map _ _ (decided ds) ts (λ u part. part_behind ds t.decisions u.decisions part) h.0, decided_ascends ds ts h.1)

-- and as they are shown
shown_ascends : (ts : List Passage) → PassagesAscend ts → WalksAscend (map shown ts)
shown_ascends [] h = tt
shown_ascends (t ∷ ts) h = (all_map _ _ shown ts (λ u part. part) h.0, shown_ascends ts h.1)

-- decisions that begin with a copy of this number or a later one
abbrev From : ℕ → List Decision → Type 0
From number [] = ⊥
From number (d ∷ ds) = 4 + number ≤ rank d

later_copy : (number : ℕ) (ds : List Decision) → From (suc number) ds → From number ds
later_copy number [] h = h
later_copy number (d ∷ ds) h = omega (arith, h)

part_from : (number : ℕ) (cs ds : List Decision) → From (suc number) ds → Parts (Copy number ∷ cs) ds
part_from number cs [] h = h
part_from number cs (d ∷ ds) h = inl (omega (arith, h))

copy_is_first : (number : ℕ) (ts us : List Passage) → AllByRecursion (λ u. From (suc number) u.decisions) us →
    AllByRecursion (λ t. AllByRecursion (λ u. Parts t.decisions u.decisions) us) (map (decided (Copy number ∷ [])) ts)
copy_is_first number [] us h = tt
copy_is_first number (t ∷ ts) us h =
    (all_weaker _ _ us (λ u from. part_from number t.decisions u.decisions from) h, copy_is_first number ts us h)

same_copy : (number : ℕ) (ts : List Passage) →
    AllByRecursion (λ u. From number u.decisions) (map (decided (Copy number ∷ [])) ts)
same_copy number [] = tt
same_copy number (t ∷ ts) = (omega arith, same_copy number ts)

module _ (net : Network) (v : List ℕ) (unknowns : ℕ) where
  abbrev OnwardAscends : Onward → Type 0
  OnwardAscends onward = (node : NodeId) (port : ℕ) (p : Progress ℕ) → PassagesAscend (onward node port p)

  module _ (onward : Onward) (ascends : OnwardAscends onward) where
    crossed_ascends : (link : Option (NodeId × ℕ)) (exit : Exit) (p : Progress ℕ) →
        PassagesAscend (crossed net v unknowns onward link exit p)
    crossed_ascends None off p = (tt, tt)
    crossed_ascends None (go port) p = (tt, tt)
    crossed_ascends None (forked ports) p = (tt, tt)
    crossed_ascends None (failed failure site) p = (tt, tt)
    crossed_ascends (Some to) off p = ascends to.0 to.1 p
    crossed_ascends (Some to) (go port) p = (tt, tt)
    crossed_ascends (Some to) (forked ports) p = (tt, tt)
    crossed_ascends (Some to) (failed failure site) p = (tt, tt)

    leave_ascends : OnwardAscends (leave net v unknowns onward)
    leave_ascends node port p =
        let r : Ran = run_port net v unknowns node Outward port p in
        by_way_ascends (place_at node Outward port) p
        (map (decided r.decisions) (crossed net v unknowns onward (link_of net node port) r.exit r.progress))
        (decided_ascends r.decisions (crossed net v unknowns onward (link_of net node port) r.exit r.progress)
        (crossed_ascends (link_of net node port) r.exit r.progress))

    from_copies : (node : NodeId) (number : ℕ) (ports : List ℕ) (p : Progress ℕ) →
        AllByRecursion (λ u. From number u.decisions) (copies net v unknowns onward node number ports p)
    from_copies node number [] p = tt
    from_copies node number (port ∷ ports) p =
        all_append _ (map (decided (Copy number ∷ [])) (leave net v unknowns onward node port p))
        (copies net v unknowns onward node (suc number) ports p)
        (same_copy number (leave net v unknowns onward node port p))
        (all_weaker _ _ (copies net v unknowns onward node (suc number) ports p)
        (λ u from. later_copy number u.decisions from)
        (from_copies node (suc number) ports p))

    copies_ascend : (node : NodeId) (number : ℕ) (ports : List ℕ) (p : Progress ℕ) →
        PassagesAscend (copies net v unknowns onward node number ports p)
    copies_ascend node number [] p = tt
    copies_ascend node number (port ∷ ports) p =
        append_ascends (map (decided (Copy number ∷ [])) (leave net v unknowns onward node port p))
        (copies net v unknowns onward node (suc number) ports p)
        (decided_ascends (Copy number ∷ []) (leave net v unknowns onward node port p) (leave_ascends node port p))
        (copies_ascend node (suc number) ports p)
        (copy_is_first number (leave net v unknowns onward node port p)
        (copies net v unknowns onward node (suc number) ports p)
        (from_copies node (suc number) ports p))

    passed_ascends : (node : NodeId) (exit : Exit) (p : Progress ℕ) →
        PassagesAscend (passed net v unknowns onward node exit p)
    passed_ascends node off p = (tt, tt)
    passed_ascends node (go port) p = leave_ascends node port p
    passed_ascends node (forked ports) p = copies_ascend node 0 ports p
    passed_ascends node (failed failure site) p = (tt, tt)

  passages_ascend : (hops : ℕ) → OnwardAscends (enter net v unknowns hops)
  passages_ascend zero node port p = (tt, tt)
  passages_ascend (suc hops) node port p =
      let r : Ran = run_port net v unknowns node Inward port p in
      by_way_ascends (place_at node Inward port) p
      (map (decided r.decisions) (passed net v unknowns (enter net v unknowns hops) node r.exit r.progress))
      (decided_ascends r.decisions (passed net v unknowns (enter net v unknowns hops) node r.exit r.progress)
      (passed_ascends (enter net v unknowns hops) (passages_ascend hops) node r.exit r.progress))

  pub enter_ascends : (hops : ℕ) (node : NodeId) (port : ℕ) (p : Progress ℕ) →
      WalksAscend (map shown (enter net v unknowns hops node port p))
  enter_ascends hops node port p = shown_ascends (enter net v unknowns hops node port p) (passages_ascend hops node port p)
