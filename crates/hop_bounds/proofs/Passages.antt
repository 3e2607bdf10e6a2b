-- A packet without a walk that is cut has the same walks under a larger bound of hops.
use Rattle.std.proofs.Common.{◌≡◌, ◌≤◌, ℕ, zero, suc, inl, inr, List, [], ◌∷◌, ◌++◌, map, refl, ap, ap₂, arith, Option, None, Some}
use Rattle.sn_width.specs.declared.ids.NodeId.{NodeId}
use Rattle.sefl_syntax.specs.declared.net.Side.TheVariants.{Inward, Outward}
use Rattle.sefl_meaning.specs.declared.walk.Decision.{Decision}
use Rattle.sefl_meaning.specs.declared.walk.Decision.TheVariants.{Copy}
use Rattle.sefl_meaning.specs.declared.walk.Place.{Place}
use Rattle.sefl_meaning.specs.declared.walk.End.TheVariants.{Cut}
use Rattle.sefl_meaning.specs.Network.{Network, link_of}
use Rattle.sefl_meaning.specs.Order.{Has}
use Rattle.sefl_meaning.specs.Runs.{Progress, Exit, off, go, forked, failed}
use Rattle.sefl_meaning.specs.Walks.{Onward, Passage, by_way_of, copies, crossed, decided, enter, leave, passed, place_at, run_port}

-- none of these was cut
abbrev pub NoneCut : List Passage → Type 0
NoneCut [] = Unit {0}
NoneCut (u ∷ us) = (u.end' ≡ Cut → ⊥) × NoneCut us

pub none_cut : (us : List Passage) → ((u : Passage) → Has us u → u.end' ≡ Cut → ⊥) → NoneCut us
none_cut [] h = tt
none_cut (u ∷ us) h = (h u (inl refl), none_cut us (λ w has. h w (inr has)))

none_by_way : (place : Place) (p : Progress ℕ) (us : List Passage) → NoneCut (map (by_way_of place p) us) → NoneCut us
none_by_way place p [] h = tt
none_by_way place p (u ∷ us) h = (h.0, none_by_way place p us h.1)

none_decided : (ds : List Decision) (us : List Passage) → NoneCut (map (decided ds) us) → NoneCut us
none_decided ds [] h = tt
none_decided ds (u ∷ us) h = (h.0, none_decided ds us h.1)

none_before : (us ws : List Passage) → NoneCut (us ++ ws) → NoneCut us
none_before [] ws h = tt
none_before (u ∷ us) ws h = (h.0, none_before us ws h.1)

none_behind : (us ws : List Passage) → NoneCut (us ++ ws) → NoneCut ws
none_behind [] ws h = h
none_behind (u ∷ us) ws h = none_behind us ws h.1

module _ (net : Network) (v : List ℕ) (unknowns : ℕ) where
  -- from where none is cut, the second goes on as the first
  abbrev AreSame : Onward → Onward → Type 0
  AreSame onward further = (node : NodeId) (port : ℕ) (p : Progress ℕ) → NoneCut (onward node port p) → further node port p ≡ onward node port p

  same_crossed : (onward further : Onward) → AreSame onward further → (link : Option (NodeId × ℕ)) (exit : Exit) (p : Progress ℕ)
      → NoneCut (crossed net v unknowns onward link exit p) → crossed net v unknowns further link exit p ≡ crossed net v unknowns onward link exit p
  same_crossed onward further same None off p h = refl
  same_crossed onward further same None (go port) p h = refl
  same_crossed onward further same None (forked ports) p h = refl
  same_crossed onward further same None (failed failure site) p h = refl
  same_crossed onward further same (Some to) off p h = same to.0 to.1 p h
  same_crossed onward further same (Some to) (go port) p h = refl
  same_crossed onward further same (Some to) (forked ports) p h = refl
  same_crossed onward further same (Some to) (failed failure site) p h = refl

  same_leave : (onward further : Onward) → AreSame onward further → AreSame (leave net v unknowns onward) (leave net v unknowns further)
  same_leave onward further same node port p h =
      let place = place_at node Outward port in
      let r = run_port net v unknowns node Outward port p in
      let us = crossed net v unknowns onward (link_of net node port) r.exit r.progress in
      ap (λ (ws : List Passage). map (by_way_of place p) (map (decided r.decisions) ws))
      (same_crossed onward further same (link_of net node port) r.exit r.progress
      (none_decided r.decisions us (none_by_way place p (map (decided r.decisions) us) h)))

  same_copies : (onward further : Onward) → AreSame onward further → (node : NodeId) (number : ℕ) (ports : List ℕ) (p : Progress ℕ)
      → NoneCut (copies net v unknowns onward node number ports p)
      → copies net v unknowns further node number ports p ≡ copies net v unknowns onward node number ports p
  same_copies onward further same node number [] p h = refl
  same_copies onward further same node number (port ∷ ports) p h =
      let here = leave net v unknowns onward node port p in
      let there = copies net v unknowns onward node (suc number) ports p in
      ap₂ (λ (us ws : List Passage). map (decided (Copy number ∷ [])) us ++ ws)
      (same_leave onward further same node port p (none_decided (Copy number ∷ []) here (none_before (map (decided (Copy number ∷ [])) here) there h)))
      (same_copies onward further same node (suc number) ports p (none_behind (map (decided (Copy number ∷ [])) here) there h))

  same_passed : (onward further : Onward) → AreSame onward further → (node : NodeId) (exit : Exit) (p : Progress ℕ)
      → NoneCut (passed net v unknowns onward node exit p) → passed net v unknowns further node exit p ≡ passed net v unknowns onward node exit p
  same_passed onward further same node off p h = refl
  same_passed onward further same node (go port) p h = same_leave onward further same node port p h
  same_passed onward further same node (forked ports) p h = same_copies onward further same node 0 ports p h
  same_passed onward further same node (failed failure site) p h = refl

  pub same_enter : (hops more : ℕ) → hops ≤ more → AreSame (enter net v unknowns hops) (enter net v unknowns more)
  same_enter zero more least node port p h = absurd (h.0 refl)
  same_enter (suc hops) zero least node port p h = absurd (omega (arith, least))
  same_enter (suc hops) (suc more) least node port p h =
      let place = place_at node Inward port in
      let r = run_port net v unknowns node Inward port p in
      let us = passed net v unknowns (enter net v unknowns hops) node r.exit r.progress in
      ap (λ (ws : List Passage). map (by_way_of place p) (map (decided r.decisions) ws))
      (same_passed (enter net v unknowns hops) (enter net v unknowns more) (same_enter hops more (omega (arith, least))) node r.exit r.progress
      (none_decided r.decisions us (none_by_way place p (map (decided r.decisions) us) h)))
