-- Hops one after another, and the arrivals on the way.
use Rattle.std.proofs.Common.{◌≡◌, ℕ, zero, suc, ◌+◌, ◌≤◌, inl, inr, List, [], ◌∷◌, ◌++◌, refl, sym, ap, subst, ◌∙◌, append_assoc, arith}
use Rattle.sn_width.specs.declared.ids.NodeId.{NodeId}
use Rattle.sefl_syntax.specs.declared.net.Side.TheVariants.{Inward, Outward}
use Rattle.sefl_meaning.specs.declared.walk.Decision.{Decision}
use Rattle.sefl_meaning.specs.declared.walk.End.TheVariants.{Cut}
use Rattle.sefl_meaning.specs.declared.walk.Place.{Place}
use Rattle.sefl_meaning.specs.Network.{Network}
use Rattle.sefl_meaning.specs.Order.{Has}
use Rattle.sefl_meaning.specs.Runs.{Progress}
use Rattle.sefl_meaning.specs.Walks.{Passage, enter, place_at}
use Rattle.loop_walks.specs.Again.{IsLike}
use Rattle.loop_walks.proofs.Hops.{Begins, Hop, after, begins_so, behind, hop_lifts, inner, outer, same_hop}

abbrev pub Arrival : Type 0
Arrival = Place × Progress ℕ

pub same_first : (a b : Arrival) (as' bs : List Arrival) → a ∷ as' ≡ b ∷ bs → (a.0 ≡ b.0) × (a.1 ≡ b.1) × (as' ≡ bs)
same_first a b as' bs e = let one : a ≡ b = cc in (ap (λ (x : Arrival). x.0) one, ap (λ (x : Arrival). x.1) one, cc)

pub no_more : (xs : List Arrival) (x : Arrival) (rest : List Arrival) → [] ≡ xs ++ x ∷ rest → ⊥
no_more [] x rest e = cc
no_more (y ∷ xs) x rest e = cc

is_inward : (place : Place) (node : NodeId) (port : ℕ) → place.side ≡ Inward → place_at node Outward port ≡ place → ⊥
is_inward place node port inward e = let bad : Outward ≡ Inward = ap (λ (p : Place). p.side) e ∙ inward in cc

module _ (net : Network) (v : List ℕ) (unknowns : ℕ) where
  -- some passage with this many hops is cut
  pub record IsCut (hops : ℕ) (node : NodeId) (port : ℕ) (p : Progress ℕ) : Type 0 where
    pub passage : Passage
    pub is : Has (enter net v unknowns hops node port p) passage
    pub cut : passage.end' ≡ Cut

  cut_at_once : (node : NodeId) (port : ℕ) (p : Progress ℕ) → IsCut 0 node port p
  cut_at_once node port p = record {
    passage = record { decisions = []; arrivals = (place_at node Inward port, p) ∷ []; end' = Cut; progress = p };
    is = inl refl;
    cut = refl;
  }

  lifted : (hops : ℕ) (node : NodeId) (port : ℕ) (p : Progress ℕ) (h : Hop net v unknowns node port p)
      → IsCut hops h.to.0 h.to.1 (after net v unknowns node port p h) → IsCut (suc hops) node port p
  lifted hops node port p h c = record {
    passage = behind net v unknowns node port p h c.passage;
    is = hop_lifts net v unknowns node port p h hops c.passage c.is;
    cut = c.cut;
  }

  further : (hops : ℕ) (node : NodeId) (port : ℕ) (p : Progress ℕ) (u : Passage) (b : Begins net v unknowns hops node port p u)
      → u.end' ≡ Cut → IsCut hops b.hop.to.0 b.hop.to.1 (after net v unknowns node port p b.hop)
  further hops node port p u b cut =
      record { passage = b.further; is = b.is; cut = ap (λ (t : Passage). t.end') b.same ∙ cut }

  -- with fewer hops too
  pub fewer : (least hops : ℕ) (node : NodeId) (port : ℕ) (p : Progress ℕ) → least ≤ hops → IsCut hops node port p → IsCut least node port p
  fewer zero hops node port p less c = cut_at_once node port p
  fewer (suc least) zero node port p less c = absurd (omega (arith, less))
  fewer (suc least) (suc hops) node port p less c =
      let b = begins_so net v unknowns hops node port p c.passage c.is c.cut in
      lifted least node port p b.hop
      (fewer least hops b.hop.to.0 b.hop.to.1 (after net v unknowns node port p b.hop) (omega (arith, less)) (further hops node port p c.passage b c.cut))

  -- and from where it is alike
  pub cut_alike : (hops : ℕ) (node : NodeId) (port : ℕ) (p q : Progress ℕ) → IsLike p q → IsCut hops node port p → IsCut hops node port q
  cut_alike zero node port p q like c = cut_at_once node port q
  cut_alike (suc hops) node port p q like c =
      let b = begins_so net v unknowns hops node port p c.passage c.is c.cut in
      let s = same_hop net v unknowns node port p q like b.hop in
      lifted hops node port q s.hop
      (subst (λ (to : NodeId × ℕ). IsCut hops to.0 to.1 (after net v unknowns node port q s.hop)) (sym s.to)
      (cut_alike hops b.hop.to.0 b.hop.to.1 (after net v unknowns node port p b.hop) (after net v unknowns node port q s.hop) s.like
      (further hops node port p c.passage b c.cut)))

  -- the hops of a passage that is cut, with its last arrival: what goes from there goes behind it
  pub record Chain (hops : ℕ) (node : NodeId) (port : ℕ) (p : Progress ℕ) (u : Passage) : Type 0 where
    pub to : NodeId × ℕ
    pub last : Progress ℕ
    pub before : List Arrival
    pub arrivals : u.arrivals ≡ before ++ (place_at to.0 Inward to.1, last) ∷ []
    pub lifts : (more : ℕ) (w : Passage) → Has (enter net v unknowns more to.0 to.1 last) w
        → (z : Passage) × Has (enter net v unknowns (hops + more) node port p) z × (z.end' ≡ w.end') × (z.decisions ≡ u.decisions ++ w.decisions)

  chain_at_once : (node : NodeId) (port : ℕ) (p : Progress ℕ) (u : Passage) → Has (enter net v unknowns 0 node port p) u → Chain 0 node port p u
  chain_at_once node port p u (inl same) = record {
    to = (node, port);
    last = p;
    before = [];
    arrivals = ap (λ (t : Passage). t.arrivals) (sym same);
    lifts = λ more w has.
        let e : more ≡ 0 + more = omega arith in
        (w, subst (λ (n : ℕ). Has (enter net v unknowns n node port p) w) e has, refl, ap (λ (t : Passage). t.decisions ++ w.decisions) same);
  }
  chain_at_once node port p u (inr none) = absurd none

  chain_behind : (hops : ℕ) (node : NodeId) (port : ℕ) (p : Progress ℕ) (u : Passage) (b : Begins net v unknowns hops node port p u)
      → Chain hops b.hop.to.0 b.hop.to.1 (after net v unknowns node port p b.hop) b.further → Chain (suc hops) node port p u
  chain_behind hops node port p u b c =
      let r = inner net v unknowns node port p in
      let s = outer net v unknowns node port p b.hop.out in
      record {
        to = c.to;
        last = c.last;
        before = (place_at node Inward port, p) ∷ (place_at node Outward b.hop.out, r.progress) ∷ c.before;
        arrivals =
            ap (λ (t : Passage). t.arrivals) (sym b.same)
            ∙ ap (λ (as' : List Arrival). (place_at node Inward port, p) ∷ (place_at node Outward b.hop.out, r.progress) ∷ as') c.arrivals;
        lifts = λ more w has.
            let z = c.lifts more w has in
            let e : suc (hops + more) ≡ suc hops + more = omega arith in (
              behind net v unknowns node port p b.hop z.0,
              subst (λ (n : ℕ). Has (enter net v unknowns n node port p) (behind net v unknowns node port p b.hop z.0)) e
                  (hop_lifts net v unknowns node port p b.hop (hops + more) z.0 z.1),
              z.2,
              ap (λ (ds : List Decision). r.decisions ++ (b.hop.chosen ++ (s.decisions ++ ds))) z.3
                  ∙ (ap (λ (ds : List Decision). r.decisions ++ (b.hop.chosen ++ ds)) (sym (append_assoc s.decisions b.further.decisions w.decisions))
                  ∙ (ap (λ (ds : List Decision). r.decisions ++ ds) (sym (append_assoc b.hop.chosen (s.decisions ++ b.further.decisions) w.decisions))
                  ∙ (sym (append_assoc r.decisions (b.hop.chosen ++ (s.decisions ++ b.further.decisions)) w.decisions)
                  ∙ ap (λ (t : Passage). t.decisions ++ w.decisions) b.same))),
            );
      }

  pub chain : (hops : ℕ) (node : NodeId) (port : ℕ) (p : Progress ℕ) (u : Passage) → Has (enter net v unknowns hops node port p) u
      → u.end' ≡ Cut → Chain hops node port p u
  chain zero node port p u has cut = chain_at_once node port p u has
  chain (suc hops) node port p u has cut =
      let b = begins_so net v unknowns hops node port p u has cut in
      chain_behind hops node port p u b
      (chain hops b.hop.to.0 b.hop.to.1 (after net v unknowns node port p b.hop) b.further b.is (ap (λ (t : Passage). t.end') b.same ∙ cut))

  -- the passage from an arrival at an input port on
  pub record Tail (place : Place) (first : Progress ℕ) (rest : List Arrival) : Type 0 where
    pub hops : ℕ
    pub node : NodeId
    pub port : ℕ
    pub place_is : place ≡ place_at node Inward port
    pub passage : Passage
    pub is : Has (enter net v unknowns hops node port first) passage
    pub cut : passage.end' ≡ Cut
    pub arrivals : passage.arrivals ≡ (place, first) ∷ rest

  -- it is the arrival that the passage begins with
  here : (hops : ℕ) (node : NodeId) (port : ℕ) (p : Progress ℕ) (u : Passage) (place : Place) (first : Progress ℕ) (rest : List Arrival)
      → Has (enter net v unknowns hops node port p) u → u.end' ≡ Cut → u.arrivals ≡ (place, first) ∷ rest
      → (place ≡ place_at node Inward port) × (first ≡ p) → Tail place first rest
  here hops node port p u place first rest has cut is same = record {
    hops = hops;
    node = node;
    port = port;
    place_is = same.0;
    passage = u;
    is = subst (λ (q : Progress ℕ). Has (enter net v unknowns hops node port q) u) (sym same.1) has;
    cut = cut;
    arrivals = is;
  }

  pub tail_at : (hops : ℕ) (node : NodeId) (port : ℕ) (p : Progress ℕ) (u : Passage) (before : List Arrival) (place : Place) (first : Progress ℕ) (rest : List Arrival)
      → Has (enter net v unknowns hops node port p) u → u.end' ≡ Cut → u.arrivals ≡ before ++ (place, first) ∷ rest → place.side ≡ Inward → Tail place first rest
  tail_at zero node port p u [] place first rest (inl same) cut is inward =
      let e = same_first (place_at node Inward port, p) (place, first) [] rest (ap (λ (t : Passage). t.arrivals) same ∙ is) in
      here zero node port p u place first rest (inl same) cut is (sym e.0, sym e.1)
  tail_at zero node port p u (a ∷ before) place first rest (inl same) cut is inward =
      let e = same_first (place_at node Inward port, p) a [] (before ++ (place, first) ∷ rest) (ap (λ (t : Passage). t.arrivals) same ∙ is) in
      absurd (no_more before (place, first) rest e.2)
  tail_at zero node port p u before place first rest (inr none) cut is inward = absurd none
  tail_at (suc hops) node port p u [] place first rest has cut is inward =
      let b = begins_so net v unknowns hops node port p u has cut in
      let r = inner net v unknowns node port p in
      let e = same_first (place_at node Inward port, p) (place, first) ((place_at node Outward b.hop.out, r.progress) ∷ b.further.arrivals) rest
      (ap (λ (t : Passage). t.arrivals) b.same ∙ is) in
      here (suc hops) node port p u place first rest has cut is (sym e.0, sym e.1)
  tail_at (suc hops) node port p u (a ∷ []) place first rest has cut is inward =
      let b = begins_so net v unknowns hops node port p u has cut in
      let r = inner net v unknowns node port p in
      let e = same_first (place_at node Inward port, p) a ((place_at node Outward b.hop.out, r.progress) ∷ b.further.arrivals) ((place, first) ∷ rest)
      (ap (λ (t : Passage). t.arrivals) b.same ∙ is) in
      let k = same_first (place_at node Outward b.hop.out, r.progress) (place, first) b.further.arrivals rest e.2 in
      absurd (is_inward place node b.hop.out inward k.0)
  tail_at (suc hops) node port p u (a ∷ c ∷ before) place first rest has cut is inward =
      let b = begins_so net v unknowns hops node port p u has cut in
      let r = inner net v unknowns node port p in
      let e = same_first (place_at node Inward port, p) a ((place_at node Outward b.hop.out, r.progress) ∷ b.further.arrivals) (c ∷ (before ++ (place, first) ∷ rest))
      (ap (λ (t : Passage). t.arrivals) b.same ∙ is) in
      let k = same_first (place_at node Outward b.hop.out, r.progress) c b.further.arrivals (before ++ (place, first) ∷ rest) e.2 in
      tail_at hops b.hop.to.0 b.hop.to.1 (after net v unknowns node port p b.hop) b.further before place first rest b.is
      (ap (λ (t : Passage). t.end') b.same ∙ cut) k.2 inward
