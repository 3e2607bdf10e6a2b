-- Records that a receiver was handed, and how an exploration ends.
use Rattle.std.proofs.Common.{◌≡◌, ℕ, suc, ◌+◌, ◌<◌, ◌≤◌, List, [], ◌∷◌, ◌++◌, length, map, refl, sym, ap, subst, ◌∙◌, length-append, arith, Option, Some, None, Result, Ok, Err}
use Rattle.std.specs.List.{AllByRecursion}
use Rattle.exact_records.specs.Records.{RecordTree}
use Rattle.exact_records.specs.Exact.{IsTried}
use Rattle.exact_records.specs.Points.{IsPending, Stands, Obligation, first_point, to_decide}
use Rattle.exact_records.specs.Work.{work_of}
use Rattle.exact_records.specs.Laws.{StandingIsExact, StepsStand}
use Rattle.exact_records.proofs.Lists.{all_append, all_first, append_nil}
use Rattle.path_exec.specs.declared.opening.OpenNode.{OpenNode}
use Rattle.path_exec.specs.Views.{Views}
use Rattle.path_exec.specs.OpenNodes.{AreOpenNodes, all_obligations, obligations_of}
use Rattle.path_exec.specs.Paying.{Holds}
use Rattle.path_exec.specs.Receiving.{IsSame, Receiving, TakesOwn}
use Rattle.path_exec.specs.Keeping.{IsOwnOrNone, Keeps, Runs, made_of}
use Rattle.path_exec.specs.declared.exploration.Ended.{Ended}
use Rattle.path_exec.specs.declared.exploration.Ended.TheVariants.{Whole, Partial, Stopped}
use Rattle.path_exec.specs.Ending.{EndsEarly, EndsStopped, EndsWhole, Explored, LeftAs}
use Rattle.path_exec.proofs.Taking.{popped_obligations}
use Rattle.path_exec.proofs.Counting.{holds_first}

module _ {A B : Type 0} (f : A → B) where
  pub map_snoc : (xs : List A) (y : A) → map f (xs ++ y ∷ []) ≡ map f xs ++ f y ∷ []
  map_snoc [] y = refl
  map_snoc (z ∷ xs) y = ap (λ zs. f z ∷ zs) (map_snoc xs y)

  pub length_mapped : (xs : List A) → length (map f xs) ≡ length xs
  length_mapped [] = refl
  length_mapped (z ∷ xs) = ap suc (length_mapped xs)

module _ {P O N D T : Type 0} (x : Views P O N D T) (exact : StandingIsExact x.start) where
  abbrev Records : List T → List RecordTree
  Records items = map x.record_of items

  -- a step made no record
  pub runs_on : (limit count : ℕ) (m : Receiving T) (now : List Obligation) (old new : List (OpenNode N D)) (made : Option T) (first mid after : ℕ) → made ≡ None → count < limit
      → Runs x limit count m (now ++ all_obligations x old) first mid → Keeps x now old new made mid after → Runs x limit count m (all_obligations x new) first after
  runs_on limit count m now old new made first mid after none less h k =
      let below : length (Records h.items) < limit = let l = length_mapped x.record_of h.items in let c = h.counted in omega (arith, l, c, less) in
      record {
        items = h.items;
        stands = h.stands;
        raised = h.raised + k.raised;
        risen = let r = h.risen in let c = k.counted in omega (arith, r, c);
        holds = subst (λ (rs : List RecordTree). Holds x.start limit rs (all_obligations x new) (h.raised + k.raised))
            (ap (λ (o : Option T). Records h.items ++ made_of x o) none ∙ append_nil (Records h.items)) (k.holds limit (Records h.items) h.raised below h.holds);
        spent = λ past. absurd (omega (arith, past, less));
        tried = h.tried;
        counted = h.counted;
      }

  -- what a step left, where it made a record
  pub record IsMadeStep (limit : ℕ) (items : List T) (item : T) (left : List Obligation) (raised : ℕ) : Type 0 where
    pub holds : Holds x.start limit (Records (items ++ item ∷ [])) left raised
    pub spent : raised ≤ work_of x.start (Records (items ++ item ∷ []))
    pub tried : AllByRecursion IsTried (Records (items ++ item ∷ []))

  made_step : (limit count : ℕ) (m : Receiving T) (now : List Obligation) (old new : List (OpenNode N D)) (made : Option T) (item : T) (first mid after : ℕ) → made ≡ Some item → count < limit
      → (h : Runs x limit count m (now ++ all_obligations x old) first mid) → (k : Keeps x now old new made mid after) → IsMadeStep limit h.items item (all_obligations x new) (h.raised + k.raised)
  made_step limit count m now old new made item first mid after is less h k =
      let below : length (Records h.items) < limit = let l = length_mapped x.record_of h.items in let c = h.counted in omega (arith, l, c, less) in
      let same : Records h.items ++ made_of x made ≡ Records (h.items ++ item ∷ []) =
      ap (λ (o : Option T). Records h.items ++ made_of x o) is ∙ sym (map_snoc x.record_of h.items item) in
      record {
        holds = subst (λ (rs : List RecordTree). Holds x.start limit rs (all_obligations x new) (h.raised + k.raised)) same (k.holds limit (Records h.items) h.raised below h.holds);
        spent = subst (λ (rs : List RecordTree). h.raised + k.raised ≤ work_of x.start rs) same (k.spent limit (Records h.items) h.raised below h.holds item is);
        tried = subst (λ (rs : List RecordTree). AllByRecursion IsTried rs) same (all_append IsTried (Records h.items) (made_of x made) h.tried k.tried);
      }

  -- the record was taken
  pub runs_made : (limit count more : ℕ) (m n : Receiving T) (now : List Obligation) (old new : List (OpenNode N D)) (made : Option T) (item : T) (first mid after : ℕ) → made ≡ Some item
      → count < limit → Runs x limit count m (now ++ all_obligations x old) first mid → Keeps x now old new made mid after
      → ((items : List T) → m.StandsFor items → n.StandsFor (items ++ item ∷ [])) → more ≡ count + 1 → Runs x limit more n (all_obligations x new) first after
  runs_made limit count more m n now old new made item first mid after is less h k took e =
      let s = made_step limit count m now old new made item first mid after is less h k in
      record {
        items = h.items ++ item ∷ [];
        stands = took h.items h.stands;
        raised = h.raised + k.raised;
        risen = let r = h.risen in let c = k.counted in omega (arith, r, c);
        holds = s.holds;
        spent = λ past. s.spent;
        tried = s.tried;
        counted = e ∙ (ap (λ (i : ℕ). i + 1) h.counted ∙ sym (length-append h.items (item ∷ [])));
      }

  -- the receiver stopped
  pub runs_stopped : (limit count stops : ℕ) (m n : Receiving T) (now : List Obligation) (old new : List (OpenNode N D)) (made : Option T) (item : T) (first mid after : ℕ) → made ≡ Some item
      → count < limit → Runs x limit count m (now ++ all_obligations x old) first mid → Keeps x now old new made mid after
      → ((items : List T) → m.StandsFor items → n.StoppedIn (items ++ item ∷ [])) → stops < n.stops → EndsStopped x limit stops n first after
  runs_stopped limit count stops m n now old new made item first mid after is less h k took cause =
      let s = made_step limit count m now old new made item first mid after is less h k in
      record {
        items = h.items;
        last = item;
        stopped = took h.items h.stands;
        exact = exact.up_to limit (Records h.items) (x.record_of item) (all_obligations x new)
            (subst (λ (rs : List RecordTree). Stands x.start limit rs (all_obligations x new)) (map_snoc x.record_of h.items item) s.holds.stands);
        cause = cause;
        spent = let r = h.risen in let c = k.counted in let p = s.spent in omega (arith, r, c, p);
      }

  -- want of memory
  pub runs_early : (limit count : ℕ) (m n : Receiving T) (left : List Obligation) (first after : ℕ) → Runs x limit count m left first after
      → ((items : List T) → m.StandsFor items → n.StandsFor items) → EndsEarly x limit n
  runs_early limit count m n left first after h same =
      record { items = h.items; stands = same h.items h.stands; exact = exact.so_far limit (Records h.items) left h.holds.stands }

  -- nothing is left
  pub runs_whole : (limit count : ℕ) (m : Receiving T) (left : List Obligation) (first after : ℕ) → count ≤ limit → left ≡ [] → Runs x limit count m left first after
      → EndsWhole x limit m first after
  runs_whole limit count m left first after within none h =
      let all : Holds x.start limit (Records h.items) [] h.raised = subst (λ (ts : List Obligation). Holds x.start limit (Records h.items) ts h.raised) none h.holds in
      let many : length (Records h.items) ≤ limit = let l = length_mapped x.record_of h.items in let c = h.counted in omega (arith, l, c, within) in
      record {
        items = h.items;
        stands = h.stands;
        exact = exact.whole limit (Records h.items) all.stands h.tried many;
        tried = h.tried;
        spent = let r = h.risen in let p = all.paid in omega (arith, r, p);
      }

-- ---- the same receiver

module _ {T : Type 0} where
  pub same_then : (m n o : Receiving T) → IsSame m n → IsSame n o → IsSame m o
  same_then m n o h k = record {
    target = k.target ∙ h.target;
    stops = let a = h.stops in let b = k.stops in omega (arith, a, b);
    takes = λ item t. k.takes item (h.takes item t);
  }

module _ {P O N D T : Type 0} (x : Views P O N D T) where
  pub takes_still : (m n : Receiving T) → IsSame m n → TakesOwn x m → TakesOwn x n
  takes_still m n h t item own = h.takes item (t item own)

  -- a step's record is of the net
  pub made_own : (made : Option T) (item : T) → IsOwnOrNone x made → made ≡ Some item → x.IsOwn item
  made_own made item h e = subst (IsOwnOrNone x) e h

  -- what is on top is taken
  pub runs_popped : (limit count : ℕ) (m : Receiving T) (old rest : List (OpenNode N D)) (w : OpenNode N D) (first mid : ℕ) → old ≡ rest ++ w ∷ []
      → Runs x limit count m (all_obligations x old) first mid → Runs x limit count m (obligations_of x w ++ all_obligations x rest) first mid
  runs_popped limit count m old rest w first mid e h = subst (λ (ts : List Obligation). Runs x limit count m ts first mid) (popped_obligations x old rest w e) h

  pub runs_pend : (limit count : ℕ) (m : Receiving T) (w : OpenNode N D) (rest : List (OpenNode N D)) (first mid : ℕ) → Runs x limit count m (obligations_of x w ++ all_obligations x rest) first mid
      → AllByRecursion (λ (obligation : Obligation). IsPending x.start obligation.0 obligation.1) (obligations_of x w)
  runs_pend limit count m w rest first mid h = all_first _ (obligations_of x w) (all_obligations x rest) h.holds.stands.pending

-- nothing was handed over yet
pub runs_first : {P O N D T : Type 0} (x : Views P O N D T) (below : StepsStand x.start) (limit : ℕ) (m : Receiving T) (before : ℕ) → 0 < limit → m.StandsFor []
    → Runs x limit 0 m ((first_point x.start, to_decide None) ∷ []) before before
runs_first x below limit m before some h = record {
  items = [];
  stands = h;
  raised = 0;
  risen = omega arith;
  holds = holds_first x.start limit below;
  spent = λ past. absurd (omega (arith, past, some));
  tried = tt;
  counted = refl;
}

module _ {P O N D T : Type 0} (x : Views P O N D T) where
  -- before the first step
  pub begun_runs : (below : StepsStand x.start) (limit : ℕ) (m : Receiving T) (open_nodes : List (OpenNode N D)) (before : ℕ) → 0 < limit → open_nodes ≡ [] → m.StandsFor []
      → Runs x limit 0 m (((first_point x.start, to_decide None) ∷ []) ++ all_obligations x open_nodes) before before
  begun_runs below limit m open_nodes before some none h =
      subst (λ (ws : List (OpenNode N D)). Runs x limit 0 m (((first_point x.start, to_decide None) ∷ []) ++ all_obligations x ws) before before) (sym none) (runs_first x below limit m before some h)

  pub begun_open_nodes : (open_nodes : List (OpenNode N D)) → open_nodes ≡ [] → AreOpenNodes x open_nodes
  begun_open_nodes open_nodes none = subst (AreOpenNodes x) (sym none) tt

  -- as often as it had stopped before an earlier call
  pub stopped_since : (limit first stops : ℕ) (m : Receiving T) (before after : ℕ) → first ≤ stops → EndsStopped x limit stops m before after
      → EndsStopped x limit first m before after
  stopped_since limit first stops m before after less h = record {
    items = h.items;
    last = h.last;
    stopped = h.stopped;
    exact = h.exact;
    cause = let k = h.cause in omega (arith, less, k);
    spent = h.spent;
  }

  pub left_explored : {E : Type 0} (limit first stops : ℕ) (m : Receiving T) (before after : ℕ) (result : Result Ended E) → first ≤ stops → LeftAs x limit stops m before after result
      → Explored x limit first m before after result
  left_explored limit first stops m before after (Ok Whole) less h = absurd h
  left_explored limit first stops m before after (Ok Partial) less h = h
  left_explored limit first stops m before after (Ok Stopped) less h = stopped_since limit first stops m before after less h
  left_explored limit first stops m before after (Err e) less h = h
