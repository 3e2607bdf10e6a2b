-- Runs and walks show nothing of how many instructions had begun before.
use Rattle.std.proofs.Common.{◌≡◌, ℕ, zero, suc, ◌+◌, Bool, true, false, if◌then◌else◌, List, [], ◌∷◌, ◌++◌, map, length, Option, Some, None, Result, Ok, Err, refl, ap, ◌∙◌, sym}
use Rattle.sn_width.specs.declared.ids.NodeId.{NodeId}
use Rattle.sn_width.specs.declared.faults.LayoutFault.{LayoutFault}
use Rattle.sefl_syntax.specs.Trees.{InstrTree, CodeTree, allocate, deallocate, assign, assign_any, create_tag, set_tag, destroy_tag, constrain, fail, branch, each, forward, fork, block, no_op, no_code, instr_and}
use Rattle.sefl_syntax.specs.declared.net.Side.{Side}
use Rattle.sefl_syntax.specs.declared.net.Side.TheVariants.{Inward, Outward}
use Rattle.job_items.specs.AtomRules.{width_of}
use Rattle.sefl_meaning.specs.declared.walk.Decision.{Decision}
use Rattle.sefl_meaning.specs.declared.walk.Decision.TheVariants.{Then, Else, Pass, Broken, Copy}
use Rattle.sefl_meaning.specs.declared.walk.Failure.TheVariants.{Constraint}
use Rattle.sefl_meaning.specs.declared.walk.Place.{Place}
use Rattle.sefl_meaning.specs.Values.{numbers}
use Rattle.sefl_meaning.specs.Network.{Network, code_of, code_size, inner_size, link_of}
use Rattle.sefl_meaning.specs.Carried.{Carried, Scene, Key, scene_at}
use Rattle.sefl_meaning.specs.Terms.{truth_in}
use Rattle.sefl_meaning.specs.Steps.{allocated, deallocated, assigned, evaluated, tag_created, tag_set, tag_destroyed}
use Rattle.sefl_meaning.specs.Runs.{Exit, off, go, forked, failed, Progress, Ran, ran, noting, unless_fault, then_next, then_run, run_iterations, in_iteration, iterations_of, run_instr, run_code}
use Rattle.sefl_meaning.specs.Walks.{Passage, Trail, shown, place_at, by_way_of, decided, run_port, crossed, leave, copies, passed, enter}
use Rattle.code_frames.specs.Frames.{progress_at}
use Rattle.concrete_run.specs.declared.pending.Stage.{Stage}
use Rattle.concrete_run.specs.declared.pending.Stage.TheVariants.{Arriving, Leaving, Copying, Ended}
use Rattle.packet_run.specs.Packets.{Given}
use Rattle.concrete_run.specs.Pending.{Steps, led, steps_at, steps_copied, steps_crossed, steps_entered, steps_left, steps_passed, walks_at}

-- what a run shows, but for the count
record Bare : Type 0 where
  decisions : List Decision
  state : Carried ℕ
  choices : List ℕ
  exit : Exit

abbrev bare : Ran → Bare
bare r = record { decisions = r.decisions; state = r.progress.state; choices = r.progress.choices; exit = r.exit }

-- with this many instructions
abbrev counted : Bare → ℕ → Ran
counted x begun = record { decisions = x.decisions; progress = progress_at x.state x.choices begun; exit = x.exit }

abbrev bare_noting : List Decision → Bare → Bare
bare_noting ds x = record x { decisions = ds ++ x.decisions }

-- whatever had begun, it shows the same
abbrev IsBlind : (Progress ℕ → Ran) → Type 0
IsBlind run = (s : Carried ℕ) (k : List ℕ) (b c : ℕ) → bare (run (progress_at s k b)) ≡ bare (run (progress_at s k c))

blind_next : (exit : Exit) (x : Bare) (b c : ℕ) (next : Progress ℕ → Ran) → IsBlind next → bare (then_next exit (counted x b) next) ≡ bare (then_next exit (counted x c) next)
blind_next off x b c next blind = ap (bare_noting x.decisions) (blind x.state x.choices b c)
blind_next (go port) x b c next blind = refl
blind_next (forked ports) x b c next blind = refl
blind_next (failed failure site) x b c next blind = refl

-- one run, and then another
blind_then : (r q : Ran) (next : Progress ℕ → Ran) → bare r ≡ bare q → IsBlind next → bare (then_run r next) ≡ bare (then_run q next)
blind_then r q next same blind =
    ap (λ (x : Bare). bare (then_run (counted x r.progress.begun) next)) same
    ∙ blind_next q.exit (bare q) r.progress.begun q.progress.begun next blind

blind_iterations : (body : Key → Progress ℕ → Ran) → ((key : Key) → IsBlind (body key)) → (keys : List Key) → IsBlind (run_iterations body keys)
blind_iterations body blind [] s k b c = refl
blind_iterations body blind (key ∷ keys) s k b c =
    blind_then (body key (progress_at s k b)) (body key (progress_at s k c)) (run_iterations body keys) (blind key s k b c) (blind_iterations body blind keys)

blind_unless : {A : Type 0} (site : ℕ) (r : Result A LayoutFault) (s : Carried ℕ) (k : List ℕ) (b c : ℕ) (next : ℕ → A → Ran)
    → ((x : A) → bare (next b x) ≡ bare (next c x))
    → bare (unless_fault site r (progress_at s k b) (next b)) ≡ bare (unless_fault site r (progress_at s k c) (next c))
blind_unless site (Ok x) s k b c next blind = blind x
blind_unless site (Err fault) s k b c next blind = refl

blind_if : (d e : Decision) (held broken : ℕ → Ran) (b c : ℕ) → bare (held b) ≡ bare (held c) → bare (broken b) ≡ bare (broken c) → (holds : Bool)
    → bare (if holds then noting (d ∷ []) (held b) else noting (e ∷ []) (broken b)) ≡ bare (if holds then noting (d ∷ []) (held c) else noting (e ∷ []) (broken c))
blind_if d e held broken b c h l true = ap (bare_noting (d ∷ [])) h
blind_if d e held broken b c h l false = ap (bare_noting (e ∷ [])) l

module _ (v : List ℕ) (u : ℕ) where
  -- an instruction that is one step
  blind_step : (site : ℕ) (r : Result (Carried ℕ) LayoutFault) (more : List ℕ) (s : Carried ℕ) (k : List ℕ) (b c : ℕ)
      → bare (unless_fault site r (progress_at s k b) (λ next. ran off (progress_at next more b))) ≡ bare (unless_fault site r (progress_at s k c) (λ next. ran off (progress_at next more c)))
  blind_step site r more s k b c = blind_unless site r s k b c (λ n next. ran off (progress_at next more n)) (λ next. refl)

  mutual
    blind_instr : (i : InstrTree) (at : Scene) (site : ℕ) → IsBlind (run_instr v u at site i)
    blind_instr (allocate target) at site s k b c = blind_step site (allocated at target s) k s k b c
    blind_instr (deallocate target) at site s k b c = blind_step site (deallocated at target s) k s k b c
    blind_instr (assign target value) at site s k b c = blind_step site (evaluated (numbers v u) at target value s) k s k b c
    blind_instr (assign_any target) at site s k b c =
        blind_step site (assigned at target ((numbers v u).choice (width_of target) (length k)) s) (k ++ width_of target ∷ []) s k b c
    blind_instr (create_tag name addr) at site s k b c = blind_step site (tag_created at name addr s) k s k b c
    blind_instr (set_tag name addr) at site s k b c = blind_step site (tag_set at name addr s) k s k b c
    blind_instr (destroy_tag name) at site s k b c = blind_step site (tag_destroyed at name s) k s k b c
    blind_instr (constrain test) at site s k b c =
        blind_unless site (truth_in (numbers v u) at test s) s k b c
        (λ n holds. if holds then noting (Pass ∷ []) (ran off (progress_at s k n)) else noting (Broken ∷ []) (ran (failed Constraint site) (progress_at s k n)))
        (blind_if Pass Broken (λ n. ran off (progress_at s k n)) (λ n. ran (failed Constraint site) (progress_at s k n)) b c refl refl)
    blind_instr (fail text) at site s k b c = refl
    blind_instr (branch test first other) at site s k b c =
        blind_unless site (truth_in (numbers v u) at test s) s k b c
        (λ n holds. if holds then noting (Then ∷ []) (run_code v u at (suc site) first (progress_at s k n))
        else noting (Else ∷ []) (run_code v u at (suc site + code_size first) other (progress_at s k n)))
        (blind_if Then Else (λ n. run_code v u at (suc site) first (progress_at s k n)) (λ n. run_code v u at (suc site + code_size first) other (progress_at s k n)) b c
        (blind_code first at (suc site) s k b c) (blind_code other at (suc site + code_size first) s k b c))
    blind_instr (each var pattern body) at site s k b c =
        blind_iterations (λ key p. run_code v u (in_iteration at var key) (suc site) body p) (λ key. blind_code body (in_iteration at var key) (suc site)) (iterations_of at pattern s) s k b c
    blind_instr (forward port) at site s k b c = refl
    blind_instr (fork ports) at site s k b c = refl
    blind_instr (block body) at site s k b c = blind_code body at (suc site) s k b c
    blind_instr no_op at site s k b c = refl

    blind_code : (code : CodeTree) (at : Scene) (site : ℕ) → IsBlind (run_code v u at site code)
    blind_code no_code at site s k b c = refl
    blind_code (instr_and i is) at site s k b c =
        blind_then (run_instr v u at site i (progress_at s k (suc b))) (run_instr v u at site i (progress_at s k (suc c))) (run_code v u at (suc site + inner_size i) is)
        (blind_instr i at site s k (suc b) (suc c)) (blind_code is at (suc site + inner_size i))

-- what walks show

abbrev via : Place → Trail → Trail
via place t = record t { places = place ∷ t.places }

abbrev deciding : List Decision → Trail → Trail
deciding ds t = record t { decisions = ds ++ t.decisions }

shown_by_way : (place : Place) (p : Progress ℕ) (ts : List Passage) → map shown (map (by_way_of place p) ts) ≡ map (via place) (map shown ts)
shown_by_way place p [] = refl
shown_by_way place p (t ∷ ts) = ap (λ l. via place (shown t) ∷ l) (shown_by_way place p ts)

shown_decided : (ds : List Decision) (ts : List Passage) → map shown (map (decided ds) ts) ≡ map (deciding ds) (map shown ts)
shown_decided ds [] = refl
shown_decided ds (t ∷ ts) = ap (λ l. deciding ds (shown t) ∷ l) (shown_decided ds ts)

shown_append : (ts us : List Passage) → map shown (ts ++ us) ≡ map shown ts ++ map shown us
shown_append [] us = refl
shown_append (t ∷ ts) us = ap (λ l. shown t ∷ l) (shown_append ts us)

abbrev behind : List Decision → List Place → Trail → Trail
behind ds ps t = record t { decisions = ds ++ t.decisions; places = ps ++ t.places }

led_shown : (ds : List Decision) (ps : List Place) (ts : List Passage) → map (led ds ps) ts ≡ map (behind ds ps) (map shown ts)
led_shown ds ps [] = refl
led_shown ds ps (t ∷ ts) = ap (λ l. behind ds ps (shown t) ∷ l) (led_shown ds ps ts)

abbrev AreBlind : (Progress ℕ → List Passage) → Type 0
AreBlind walks = (s : Carried ℕ) (k : List ℕ) (b c : ℕ) → map shown (walks (progress_at s k b)) ≡ map shown (walks (progress_at s k c))

module _ (net : Network) (v : List ℕ) (u : ℕ) where
  abbrev Onward : Type 0
  Onward = NodeId → ℕ → Progress ℕ → List Passage

  blind_port : (node : NodeId) (side : Side) (port : ℕ) → IsBlind (run_port net v u node side port)
  blind_port node side port =
      blind_code v u (code_of net node side port).1 (scene_at net node) (suc (code_of net node side port).0)

  blind_crossed : (onward : Onward) → ((node : NodeId) (port : ℕ) → AreBlind (onward node port)) → (link : Option (NodeId × ℕ)) (exit : Exit) → AreBlind (crossed net v u onward link exit)
  blind_crossed onward blind None off s k b c = refl
  blind_crossed onward blind (Some to) off s k b c = blind to.0 to.1 s k b c
  blind_crossed onward blind None (go port) s k b c = refl
  blind_crossed onward blind (Some to) (go port) s k b c = refl
  blind_crossed onward blind None (forked ports) s k b c = refl
  blind_crossed onward blind (Some to) (forked ports) s k b c = refl
  blind_crossed onward blind None (failed failure site) s k b c = refl
  blind_crossed onward blind (Some to) (failed failure site) s k b c = refl

  -- over a port, and then on by its exit
  abbrev over : NodeId → Side → ℕ → (Exit → Progress ℕ → List Passage) → Progress ℕ → List Passage
  over node side port walks p =
      let r = run_port net v u node side port p in
      map (by_way_of (place_at node side port) p) (map (decided r.decisions) (walks r.exit r.progress))

  blind_over : (node : NodeId) (side : Side) (port : ℕ) (walks : Exit → Progress ℕ → List Passage) → ((exit : Exit) → AreBlind (walks exit)) → AreBlind (over node side port walks)
  blind_over node side port walks blind s k b c =
      let place = place_at node side port in
      let r = run_port net v u node side port (progress_at s k b) in
      let q = run_port net v u node side port (progress_at s k c) in
      let seen = λ (x : Bare) (n : ℕ). map (via place) (map (deciding x.decisions) (map shown (walks x.exit (progress_at x.state x.choices n)))) in
      shown_by_way place (progress_at s k b) (map (decided r.decisions) (walks r.exit r.progress))
      ∙ ap (map (via place)) (shown_decided r.decisions (walks r.exit r.progress))
      ∙ ap (λ (x : Bare). seen x r.progress.begun) (blind_port node side port s k b c)
      ∙ ap (λ l. map (via place) (map (deciding q.decisions) l)) (blind q.exit q.progress.state q.progress.choices r.progress.begun q.progress.begun)
      ∙ ap (map (via place)) (sym (shown_decided q.decisions (walks q.exit q.progress)))
      ∙ sym (shown_by_way place (progress_at s k c) (map (decided q.decisions) (walks q.exit q.progress)))

  blind_leave : (onward : Onward) → ((node : NodeId) (port : ℕ) → AreBlind (onward node port)) → (node : NodeId) (port : ℕ) → AreBlind (leave net v u onward node port)
  blind_leave onward blind node port =
      blind_over node Outward port (crossed net v u onward (link_of net node port)) (blind_crossed onward blind (link_of net node port))

  blind_copies : (onward : Onward) → ((node : NodeId) (port : ℕ) → AreBlind (onward node port)) → (node : NodeId) (number : ℕ) (ports : List ℕ) → AreBlind (copies net v u onward node number ports)
  blind_copies onward blind node number [] s k b c = refl
  blind_copies onward blind node number (port ∷ ports) s k b c =
      let first = λ (n : ℕ). leave net v u onward node port (progress_at s k n) in
      let others = λ (n : ℕ). copies net v u onward node (suc number) ports (progress_at s k n) in
      shown_append (map (decided (Copy number ∷ [])) (first b)) (others b)
      ∙ ap (λ l. l ++ map shown (others b)) (shown_decided (Copy number ∷ []) (first b))
      ∙ (λ i. map (deciding (Copy number ∷ [])) (blind_leave onward blind node port s k b c i) ++ blind_copies onward blind node (suc number) ports s k b c i)
      ∙ ap (λ l. l ++ map shown (others c)) (sym (shown_decided (Copy number ∷ []) (first c)))
      ∙ sym (shown_append (map (decided (Copy number ∷ [])) (first c)) (others c))

  blind_passed : (onward : Onward) → ((node : NodeId) (port : ℕ) → AreBlind (onward node port)) → (node : NodeId) (exit : Exit) → AreBlind (passed net v u onward node exit)
  blind_passed onward blind node off s k b c = refl
  blind_passed onward blind node (go port) s k b c = blind_leave onward blind node port s k b c
  blind_passed onward blind node (forked ports) s k b c = blind_copies onward blind node 0 ports s k b c
  blind_passed onward blind node (failed failure site) s k b c = refl

  blind_enter : (hops : ℕ) (node : NodeId) (port : ℕ) → AreBlind (enter net v u hops node port)
  blind_enter zero node port s k b c = refl
  blind_enter (suc hops) node port s k b c =
      blind_over node Inward port (passed net v u (enter net v u hops) node) (blind_passed (enter net v u hops) (blind_enter hops) node) s k b c

  -- how many steps are taken

  abbrev AreSteady : (Progress ℕ → ℕ) → Type 0
  AreSteady steps = (s : Carried ℕ) (k : List ℕ) (b c : ℕ) → steps (progress_at s k b) ≡ steps (progress_at s k c)

  abbrev over_steps : NodeId → Side → ℕ → (Exit → Progress ℕ → ℕ) → Progress ℕ → ℕ
  over_steps node side port steps p =
      let r = run_port net v u node side port p in
      suc (steps r.exit r.progress)

  steady_over : (node : NodeId) (side : Side) (port : ℕ) (steps : Exit → Progress ℕ → ℕ) → ((exit : Exit) → AreSteady (steps exit)) → AreSteady (over_steps node side port steps)
  steady_over node side port steps steady s k b c =
      let r = run_port net v u node side port (progress_at s k b) in
      let q = run_port net v u node side port (progress_at s k c) in
      ap (λ (x : Bare). suc (steps x.exit (progress_at x.state x.choices r.progress.begun))) (blind_port node side port s k b c)
      ∙ ap suc (steady q.exit q.progress.state q.progress.choices r.progress.begun q.progress.begun)

  steady_crossed : (onward : Steps) → ((node : NodeId) (port : ℕ) → AreSteady (onward node port)) → (link : Option (NodeId × ℕ)) (exit : Exit) → AreSteady (steps_crossed net v u onward link exit)
  steady_crossed onward steady None off s k b c = refl
  steady_crossed onward steady (Some to) off s k b c = steady to.0 to.1 s k b c
  steady_crossed onward steady None (go port) s k b c = refl
  steady_crossed onward steady (Some to) (go port) s k b c = refl
  steady_crossed onward steady None (forked ports) s k b c = refl
  steady_crossed onward steady (Some to) (forked ports) s k b c = refl
  steady_crossed onward steady None (failed failure site) s k b c = refl
  steady_crossed onward steady (Some to) (failed failure site) s k b c = refl

  steady_left : (onward : Steps) → ((node : NodeId) (port : ℕ) → AreSteady (onward node port)) → (node : NodeId) (port : ℕ) → AreSteady (steps_left net v u onward node port)
  steady_left onward steady node port =
      steady_over node Outward port (steps_crossed net v u onward (link_of net node port)) (steady_crossed onward steady (link_of net node port))

  steady_copied : (onward : Steps) → ((node : NodeId) (port : ℕ) → AreSteady (onward node port)) → (node : NodeId) (ports : List ℕ) → AreSteady (steps_copied net v u onward node ports)
  steady_copied onward steady node [] s k b c = refl
  steady_copied onward steady node (port ∷ ports) s k b c =
      λ i. suc (steady_left onward steady node port s k b c i + steady_copied onward steady node ports s k b c i)

  steady_passed : (onward : Steps) → ((node : NodeId) (port : ℕ) → AreSteady (onward node port)) → (node : NodeId) (exit : Exit) → AreSteady (steps_passed net v u onward node exit)
  steady_passed onward steady node off s k b c = refl
  steady_passed onward steady node (go port) s k b c = steady_left onward steady node port s k b c
  steady_passed onward steady node (forked ports) s k b c = steady_copied onward steady node ports s k b c
  steady_passed onward steady node (failed failure site) s k b c = refl

  steady_entered : (hops : ℕ) (node : NodeId) (port : ℕ) → AreSteady (steps_entered net v u hops node port)
  steady_entered zero node port s k b c = refl
  steady_entered (suc hops) node port s k b c =
      steady_over node Inward port (steps_passed net v u (steps_entered net v u hops) node) (steady_passed (steps_entered net v u hops) (steady_entered hops) node) s k b c

module _ (net : Network) (g : Given) where
  blind_at : (stage : Stage) (hops : ℕ) → AreBlind (walks_at net g stage hops)
  blind_at (Arriving node port) hops s k b c = blind_enter net g.0 g.1 hops node port s k b c
  blind_at (Leaving node port) hops s k b c = blind_leave net g.0 g.1 (enter net g.0 g.1 hops) (blind_enter net g.0 g.1 hops) node port s k b c
  blind_at (Copying node number ports) hops s k b c = blind_copies net g.0 g.1 (enter net g.0 g.1 hops) (blind_enter net g.0 g.1 hops) node number ports.now s k b c
  blind_at (Ended end') hops s k b c = refl

  -- the walks behind what was decided and passed
  pub led_alike : (ds : List Decision) (ps : List Place) (stage : Stage) (hops : ℕ) (s : Carried ℕ) (k : List ℕ) (b c : ℕ)
      → map (led ds ps) (walks_at net g stage hops (progress_at s k b)) ≡ map (led ds ps) (walks_at net g stage hops (progress_at s k c))
  led_alike ds ps stage hops s k b c =
      led_shown ds ps (walks_at net g stage hops (progress_at s k b))
      ∙ ap (map (behind ds ps)) (blind_at stage hops s k b c)
      ∙ sym (led_shown ds ps (walks_at net g stage hops (progress_at s k c)))

  pub steps_alike : (stage : Stage) (hops : ℕ) (s : Carried ℕ) (k : List ℕ) (b c : ℕ) → steps_at net g stage hops (progress_at s k b) ≡ steps_at net g stage hops (progress_at s k c)
  steps_alike (Arriving node port) hops s k b c = steady_entered net g.0 g.1 hops node port s k b c
  steps_alike (Leaving node port) hops s k b c = steady_left net g.0 g.1 (steps_entered net g.0 g.1 hops) (steady_entered net g.0 g.1 hops) node port s k b c
  steps_alike (Copying node number ports) hops s k b c = steady_copied net g.0 g.1 (steps_entered net g.0 g.1 hops) (steady_entered net g.0 g.1 hops) node ports.now s k b c
  steps_alike (Ended end') hops s k b c = refl
