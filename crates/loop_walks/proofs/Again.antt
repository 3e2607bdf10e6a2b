-- A walk that comes again goes on for ever.
use Rattle.std.proofs.Common.{◌≡◌, ℕ, zero, suc, ◌+◌, ◌-◌, ◌≤◌, inl, inr, List, [], ◌∷◌, ◌++◌, refl, sym, ap, subst, ◌∙◌, append_assoc, arith}
use Rattle.sn_width.specs.declared.ids.NodeId.{NodeId}
use Rattle.sefl_syntax.specs.declared.net.Side.TheVariants.{Inward}
use Rattle.sefl_meaning.specs.declared.walk.End.TheVariants.{Cut}
use Rattle.sefl_meaning.specs.declared.walk.Place.{Place}
use Rattle.sefl_meaning.specs.Network.{Network}
use Rattle.sefl_meaning.specs.Order.{Has}
use Rattle.sefl_meaning.specs.Runs.{Progress}
use Rattle.sefl_meaning.specs.Walks.{Passage, enter, place_at}
use Rattle.loop_walks.specs.Again.{ComesAgain, GoesOn, IsLike}
use Rattle.loop_walks.proofs.Chains.{Arrival, IsCut, Tail, chain, cut_alike, fewer, no_more, same_first, tail_at}

-- ---- the last of a list

last_or : Arrival → List Arrival → Arrival
last_or default [] = default
last_or default (a ∷ as') = last_or a as'

last_of : (default : Arrival) (xs : List Arrival) (x : Arrival) → last_or default (xs ++ x ∷ []) ≡ x
unfolding last_or
last_of default [] x = refl
last_of default (y ∷ xs) x = last_of y xs x

last_same : (xs ys : List Arrival) (x y : Arrival) → xs ++ x ∷ [] ≡ ys ++ y ∷ [] → x ≡ y
last_same xs ys x y e = sym (last_of x xs x) ∙ (ap (last_or x) e ∙ last_of x ys y)

module _ (net : Network) (v : List ℕ) (unknowns : ℕ) where
  -- where it comes again as it was, it may go on with any number of hops
  record Turns (node : NodeId) (port : ℕ) (last : Progress ℕ) : Type 0 where
    pub first : Progress ℕ
    pub like : IsLike first last
    pub round : ℕ
    pub lifts : (more : ℕ) → IsCut net v unknowns more node port last → IsCut net v unknowns (suc round + more) node port first

  any_hops : (node : NodeId) (port : ℕ) (last : Progress ℕ) → Turns node port last → (hops : ℕ) → IsCut net v unknowns hops node port last
  any_hops node port last t zero =
      cut_alike net v unknowns zero node port t.first last t.like (fewer net v unknowns zero (suc t.round + 0) node port t.first (omega arith)
      (t.lifts 0 (record {
        passage = record { decisions = []; arrivals = (place_at node Inward port, last) ∷ []; end' = Cut; progress = last };
        is = inl refl;
        cut = refl;
      })))
  any_hops node port last t (suc hops) =
      cut_alike net v unknowns (suc hops) node port t.first last t.like
      (fewer net v unknowns (suc hops) (suc t.round + hops) node port t.first (omega arith) (t.lifts hops (any_hops node port last t hops)))

  -- from the earlier arrival on: a chain of one hop at least, which ends there again
  turns : (place : Place) (first last : Progress ℕ) (between : List Arrival) → IsLike first last
      → (t : Tail net v unknowns place first (between ++ (place, last) ∷ [])) → Turns t.node t.port last
  turns place first last between like t = by_hops t.hops t.is
    where
      by_hops : (hops : ℕ) → Has (enter net v unknowns hops t.node t.port first) t.passage → Turns t.node t.port last
      by_hops zero (inl same) =
          let e = same_first (place_at t.node Inward t.port, first) (place, first) [] (between ++ (place, last) ∷ [])
          (ap (λ (u : Passage). u.arrivals) same ∙ t.arrivals) in
          absurd (no_more between (place, last) [] e.2)
      by_hops zero (inr none) = absurd none
      by_hops (suc round) has =
          let c = chain net v unknowns (suc round) t.node t.port first t.passage has t.cut in
          let same : (place_at c.to.0 Inward c.to.1, c.last) ≡ (place, last) =
          last_same c.before ((place, first) ∷ between) (place_at c.to.0 Inward c.to.1, c.last) (place, last) (sym c.arrivals ∙ t.arrivals) in
          let at : place_at c.to.0 Inward c.to.1 ≡ place_at t.node Inward t.port = ap (λ (a : Arrival). a.0) same ∙ t.place_is in
          let node : c.to.0 ≡ t.node = ap (λ (p : Place). p.node) at in
          let port : c.to.1 ≡ t.port = ap (λ (p : Place). p.port) at in
          let carried : c.last ≡ last = ap (λ (a : Arrival). a.1) same in
          record {
            first = first;
            like = like;
            round = round;
            lifts = λ more cut.
                let there : Has (enter net v unknowns more c.to.0 c.to.1 c.last) cut.passage =
                subst (λ (n : NodeId). Has (enter net v unknowns more n c.to.1 c.last) cut.passage) (sym node)
                (subst (λ (n : ℕ). Has (enter net v unknowns more t.node n c.last) cut.passage) (sym port)
                (subst (λ (q : Progress ℕ). Has (enter net v unknowns more t.node t.port q) cut.passage) (sym carried) cut.is)) in
                let z = c.lifts more cut.passage there in
                record { passage = z.0; is = z.1; cut = z.2 ∙ cut.cut };
          }

  pub goes_on : (hops : ℕ) (node : NodeId) (port : ℕ) (p : Progress ℕ) (u : Passage) → Has (enter net v unknowns hops node port p) u
      → ComesAgain u → (more : ℕ) → hops ≤ more → GoesOn net v unknowns more node port p u.decisions
  goes_on hops node port p u has again more least =
      let c = chain net v unknowns hops node port p u has again.cut in
      let whole : u.arrivals ≡ (again.before ++ (again.place, again.first) ∷ again.between) ++ (again.place, again.last) ∷ [] =
      again.arrivals ∙ sym (append_assoc again.before ((again.place, again.first) ∷ again.between) ((again.place, again.last) ∷ [])) in
      let same : (place_at c.to.0 Inward c.to.1, c.last) ≡ (again.place, again.last) =
      last_same c.before (again.before ++ (again.place, again.first) ∷ again.between) (place_at c.to.0 Inward c.to.1, c.last) (again.place, again.last)
      (sym c.arrivals ∙ whole) in
      let at : place_at c.to.0 Inward c.to.1 ≡ again.place = ap (λ (a : Arrival). a.0) same in
      let t = tail_at net v unknowns hops node port p u again.before again.place again.first (again.between ++ (again.place, again.last) ∷ [])
      has again.cut again.arrivals (ap (λ (q : Place). q.side) (sym at)) in
      let there : place_at c.to.0 Inward c.to.1 ≡ place_at t.node Inward t.port = at ∙ t.place_is in
      let cut = any_hops t.node t.port again.last (turns again.place again.first again.last again.between again.like t) (more - hops) in
      let from : Has (enter net v unknowns (more - hops) c.to.0 c.to.1 c.last) cut.passage =
      subst (λ (n : NodeId). Has (enter net v unknowns (more - hops) n c.to.1 c.last) cut.passage) (sym (ap (λ (q : Place). q.node) there))
      (subst (λ (n : ℕ). Has (enter net v unknowns (more - hops) t.node n c.last) cut.passage) (sym (ap (λ (q : Place). q.port) there))
      (subst (λ (q : Progress ℕ). Has (enter net v unknowns (more - hops) t.node t.port q) cut.passage) (sym (ap (λ (a : Arrival). a.1) same)) cut.is)) in
      let z = c.lifts (more - hops) cut.passage from in
      let e : hops + (more - hops) ≡ more = omega (arith, least) in
      record {
        passage = z.0;
        is = subst (λ (n : ℕ). Has (enter net v unknowns n node port p) z.0) e z.1;
        cut = z.2 ∙ cut.cut;
        begins = (cut.passage.decisions, sym z.3);
      }
