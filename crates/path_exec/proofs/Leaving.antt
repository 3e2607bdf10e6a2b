-- At the limit: what is left is named.
use Rattle.std.proofs.Common.{◌≡◌, ℕ, suc, ◌+◌, ◌<◌, ◌≤◌, inl, inr, List, [], ◌∷◌, ◌++◌, length, map, refl, sym, ap, subst, ◌∙◌, append_assoc, length-append, arith}
use Rattle.std.specs.List.{AllByRecursion}
use Rattle.sefl_meaning.specs.declared.walk.Decision.{Decision}
use Rattle.exact_records.specs.Records.{RecordTree, unexplored}
use Rattle.exact_records.specs.Exact.{AreExact, IsTried, IsUnexplored, SomeOne}
use Rattle.exact_records.specs.Points.{Stands, Obligation}
use Rattle.exact_records.specs.Work.{begun_at, work_of}
use Rattle.exact_records.specs.Laws.{StandingIsExact, StepsStand}
use Rattle.exact_records.proofs.Lists.{all_append, append_nil, last_of, some_later}
use Rattle.path_exec.specs.declared.opening.OpenNode.{OpenNode}
use Rattle.path_exec.specs.Views.{IsMade, Views}
use Rattle.path_exec.specs.Offers.{known_behind, offer_at}
use Rattle.path_exec.specs.OpenNodes.{AreOpenNodes, IsPut, IsOpenNode, all_obligations}
use Rattle.path_exec.specs.Receiving.{Receiving}
use Rattle.path_exec.specs.Keeping.{Leaves, Runs}
use Rattle.path_exec.specs.Ending.{EndsEarly, EndsPartial, EndsStopped}
use Rattle.path_exec.proofs.Taking.{next_of, popped_obligations, popped_open_nodes, split_obligations}
use Rattle.path_exec.proofs.Spending.{more_work, not_snoc}
use Rattle.path_exec.proofs.Endings.{length_mapped, map_snoc}

some_unexplored : (xs : List RecordTree) → (xs ≡ [] → ⊥) → AllByRecursion IsUnexplored xs → SomeOne IsUnexplored xs
some_unexplored [] some h = absurd (some refl)
some_unexplored (y ∷ xs) some h = inl h.0

at_least : (xs ys zs : List RecordTree) (limit : ℕ) → xs ≡ ys ++ zs → length ys ≡ limit → limit ≤ length xs
at_least xs ys zs limit e k =
    let n : length xs ≡ length ys + length zs = ap length e ∙ length-append ys zs in
    omega (arith, n, k)

module _ {P O N D T : Type 0} (x : Views P O N D T) (below : StepsStand x.start) (exact : StandingIsExact x.start) where
  abbrev Records : List T → List RecordTree
  Records items = map x.record_of items

  -- the limit was met
  pub leaves_first : (limit : ℕ) (m : Receiving T) (left : List Obligation) (before after : ℕ) → 0 < limit → (left ≡ [] → ⊥) → Runs x limit limit m left before after
      → Leaves x limit m left before after
  leaves_first limit m left before after positive some h =
      elim (last_of (Records h.items)) [
        | inl e ↦ absurd (let z : 0 ≡ limit = ap length (sym e) ∙ (length_mapped x.record_of h.items ∙ sym h.counted) in omega (arith, z, positive))
        | inr k ↦ record {
          items = h.items;
          stands = h.stands;
          done = k.0;
          last = k.1;
          named = [];
          joined = k.2 ∙ sym (append_nil (k.0 ++ k.1 ∷ []));
          state = h.holds.stands;
          tried = subst (λ (rs : List RecordTree). AllByRecursion IsTried rs) k.2 h.tried;
          counted = ap length (sym k.2) ∙ (length_mapped x.record_of h.items ∙ sym h.counted);
          untried = tt;
          some = λ e n. some n;
          spent = let r = h.risen in let p = h.spent (omega arith) in omega (arith, r, p);
        }
      ]

  -- the record of the next obligation
  left_state : (limit : ℕ) (m : Receiving T) (obligation : Obligation) (left : List Obligation) (before after : ℕ) (item : T) → IsMade x (unexplored obligation.0.decisions) item
      → (h : Leaves x limit m (obligation ∷ left) before after) → Stands x.start limit (Records (h.items ++ item ∷ [])) left
  left_state limit m obligation left before after item is h =
      subst (λ (rs : List RecordTree). Stands x.start limit rs left) (ap (λ (y : RecordTree). Records h.items ++ y ∷ []) (sym is.is) ∙ sym (map_snoc x.record_of h.items item))
      (below.leaves limit (Records h.items) obligation.0 obligation.1 left (at_least (Records h.items) (h.done ++ h.last ∷ []) h.named limit h.joined h.counted) h.state)

  left_spent : (items : List T) (item : T) (before after : ℕ) → after ≤ before + work_of x.start (Records items) → after ≤ before + work_of x.start (Records (items ++ item ∷ []))
  left_spent items item before after h =
      let m = more_work (begun_at x.start.tree) (Records items) (x.record_of item) in
      let e : work_of x.start (Records (items ++ item ∷ [])) ≡ work_of x.start (Records items ++ x.record_of item ∷ []) = ap (work_of x.start) (map_snoc x.record_of items item) in
      omega (arith, h, m, e)

  pub leaves_on : (limit : ℕ) (m n : Receiving T) (obligation : Obligation) (left : List Obligation) (before after : ℕ) (item : T) → IsMade x (unexplored obligation.0.decisions) item
      → ((items : List T) → m.StandsFor items → n.StandsFor (items ++ item ∷ [])) → Leaves x limit m (obligation ∷ left) before after → Leaves x limit n left before after
  leaves_on limit m n obligation left before after item is took h = record {
    items = h.items ++ item ∷ [];
    stands = took h.items h.stands;
    done = h.done;
    last = h.last;
    named = h.named ++ x.record_of item ∷ [];
    joined = map_snoc x.record_of h.items item
        ∙ (ap (λ (rs : List RecordTree). rs ++ x.record_of item ∷ []) h.joined ∙ append_assoc (h.done ++ h.last ∷ []) h.named (x.record_of item ∷ []));
    state = left_state limit m obligation left before after item is h;
    tried = h.tried;
    counted = h.counted;
    untried = all_append IsUnexplored h.named (x.record_of item ∷ []) h.untried (subst IsUnexplored (sym is.is) tt, tt);
    some = λ e k. not_snoc h.named (x.record_of item) e;
    spent = left_spent h.items item before after h.spent;
  }

  pub leaves_stopped : (limit stops : ℕ) (m n : Receiving T) (obligation : Obligation) (left : List Obligation) (before after : ℕ) (item : T) → IsMade x (unexplored obligation.0.decisions) item
      → ((items : List T) → m.StandsFor items → n.StoppedIn (items ++ item ∷ [])) → stops < n.stops → Leaves x limit m (obligation ∷ left) before after → EndsStopped x limit stops n before after
  leaves_stopped limit stops m n obligation left before after item is took cause h = record {
    items = h.items;
    last = item;
    stopped = took h.items h.stands;
    exact = exact.up_to limit (Records h.items) (x.record_of item) left
        (subst (λ (rs : List RecordTree). Stands x.start limit rs left) (map_snoc x.record_of h.items item) (left_state limit m obligation left before after item is h));
    cause = cause;
    spent = left_spent h.items item before after h.spent;
  }

  pub leaves_early : (limit : ℕ) (m n : Receiving T) (left : List Obligation) (before after : ℕ) → ((items : List T) → m.StandsFor items → n.StandsFor items)
      → Leaves x limit m left before after → EndsEarly x limit n
  leaves_early limit m n left before after same h =
      record { items = h.items; stands = same h.items h.stands; exact = exact.so_far limit (Records h.items) left h.state }

  -- all is named
  pub leaves_done : (limit : ℕ) (m : Receiving T) (left : List Obligation) (before after : ℕ) → left ≡ [] → Leaves x limit m left before after → EndsPartial x limit m before after
  leaves_done limit m left before after none h =
      let some : h.named ≡ [] → ⊥ = λ e. h.some e none in
      let state : Stands x.start limit ((h.done ++ h.last ∷ []) ++ h.named) [] =
      subst (λ (rs : List RecordTree). Stands x.start limit rs []) h.joined (subst (λ (ts : List Obligation). Stands x.start limit (Records h.items) ts) none h.state) in
      record {
        items = h.items;
        stands = h.stands;
        exact = subst (AreExact x.start limit) (sym h.joined) (exact.partial limit h.done h.last h.named state h.tried h.counted h.untried some);
        untried = subst (λ (rs : List RecordTree). SomeOne IsUnexplored rs) (sym h.joined) (some_later IsUnexplored (h.done ++ h.last ∷ []) h.named (some_unexplored h.named some h.untried));
        spent = h.spent;
      }

module _ {P O N D T : Type 0} (x : Views P O N D T) where
  -- the record of a node's next decision is that of its obligation
  pub left_made : (w : OpenNode N D) (h : IsOpenNode x w) (item : T) → IsMade x (unexplored ((x.node_at w.node).decisions ++ offer_at w.offer w.taken ∷ [])) item
      → IsMade x (unexplored (next_of x w h).point.decisions) item
  left_made w h item is = subst (λ (ds : List Decision). IsMade x (unexplored ds) item) (sym (next_of x w h).decisions) is

  popped_first : (old rest mid : List (OpenNode N D)) (w : OpenNode N D) (e : old ≡ rest ++ w ∷ []) (h : IsOpenNode x w) → IsPut (record w { taken = suc w.taken }) rest mid
      → all_obligations x old ≡ ((next_of x w h).point, known_behind w.offer (x.verdict_of w.finding.value)) ∷ all_obligations x mid
  popped_first old rest mid w e h put = popped_obligations x old rest w e ∙ split_obligations x w rest mid h put

  pub leaves_popped : (limit : ℕ) (m : Receiving T) (old rest mid : List (OpenNode N D)) (w : OpenNode N D) (e : old ≡ rest ++ w ∷ []) (h : IsOpenNode x w)
      → IsPut (record w { taken = suc w.taken }) rest mid → (before after : ℕ) → Leaves x limit m (all_obligations x old) before after
      → Leaves x limit m (((next_of x w h).point, known_behind w.offer (x.verdict_of w.finding.value)) ∷ all_obligations x mid) before after
  leaves_popped limit m old rest mid w e h put before after l = subst (λ (ts : List Obligation). Leaves x limit m ts before after) (popped_first old rest mid w e h put) l

  pub leaves_falls : (old rest mid : List (OpenNode N D)) (w : OpenNode N D) (e : old ≡ rest ++ w ∷ []) (h : IsOpenNode x w) → IsPut (record w { taken = suc w.taken }) rest mid
      → length (all_obligations x mid) < length (all_obligations x old)
  leaves_falls old rest mid w e h put =
      let k : length (all_obligations x old) ≡ suc (length (all_obligations x mid)) = ap length (popped_first old rest mid w e h put) in
      omega (arith, k)

  module _ (below : StepsStand x.start) (exact : StandingIsExact x.start) where
    pub leaves_next : (limit : ℕ) (m n : Receiving T) (old rest mid : List (OpenNode N D)) (w : OpenNode N D) (e : old ≡ rest ++ w ∷ []) (h : IsOpenNode x w)
        → IsPut (record w { taken = suc w.taken }) rest mid → (before after : ℕ) (item : T)
        → IsMade x (unexplored ((x.node_at w.node).decisions ++ offer_at w.offer w.taken ∷ [])) item
        → ((items : List T) → m.StandsFor items → n.StandsFor (items ++ item ∷ [])) → Leaves x limit m (all_obligations x old) before after → Leaves x limit n (all_obligations x mid) before after
    leaves_next limit m n old rest mid w e h put before after item is took l =
        leaves_on x below exact limit m n ((next_of x w h).point, known_behind w.offer (x.verdict_of w.finding.value)) (all_obligations x mid) before after item
        (left_made w h item is) took (leaves_popped limit m old rest mid w e h put before after l)

  -- a node on the stack has a decision left
  pub some_obligations : (open_nodes : List (OpenNode N D)) → AreOpenNodes x open_nodes → (open_nodes ≡ [] → ⊥) → all_obligations x open_nodes ≡ [] → ⊥
  some_obligations open_nodes all some none =
      elim (last_of open_nodes) [
        | inl e ↦ some e
        | inr k ↦
            let h = (popped_open_nodes x open_nodes k.0 k.1 k.2 all).0 in
            let first = (next_of x k.1 h).obligations in
            let both = sym (popped_obligations x open_nodes k.0 k.1 k.2 ∙ ap (λ (ts : List Obligation). ts ++ all_obligations x k.0) first) ∙ none in
            cc
      ]
