-- Walks behind what has been walked.
use Rattle.std.proofs.Common.{◌≡◌, ℕ, suc, ◌+◌, List, [], ◌∷◌, ◌++◌, map, Option, Some, None, refl, sym, ap, ◌∙◌, append_assoc, arith, ◌-◌, ◌≤◌, length, get_or, take, drop}
use Rattle.std.proofs.lemmas.Grind.{common_steps}
use Rattle.std.proofs.lemmas.List.{append-nil}
use Rattle.sn_width.specs.declared.ids.NodeId.{NodeId}
use Rattle.sefl_syntax.specs.declared.net.Side.{Side}
use Rattle.sefl_syntax.specs.declared.net.Side.TheVariants.{Inward, Outward}
use Rattle.sefl_meaning.specs.declared.walk.Decision.{Decision}
use Rattle.sefl_meaning.specs.declared.walk.Decision.TheVariants.{Copy}
use Rattle.sefl_meaning.specs.declared.walk.End.TheVariants.{Cut}
use Rattle.sefl_meaning.specs.declared.walk.Place.{Place}
use Rattle.sefl_meaning.specs.Carried.{Carried}
use Rattle.sefl_meaning.specs.Injected.{unknown_count, walks_from}
use Rattle.sefl_meaning.specs.Network.{Network, Entry, link_of}
use Rattle.sefl_meaning.specs.View.{carried_of}
use Rattle.sefl_meaning.specs.Runs.{Progress, Ran, noting, starting}
use Rattle.sefl_meaning.specs.Walks.{Passage, Trail, shown, by_way_of, decided, place_at, run_port, crossed, passed, leave, copies, enter}
use Rattle.cell_values.specs.Hops.{AreLeft}
use Rattle.packet_run.specs.declared.packet.Packet.{Packet}
use Rattle.code_frames.specs.declared.frame.Exit.{Exit}
use Rattle.code_frames.specs.declared.frame.Exit.TheVariants.{Off, Go, Forked, Failed}
use Rattle.code_frames.specs.Frames.{exit_of, progress_at}
use Rattle.concrete_run.specs.declared.pending.Pending.{Pending}
use Rattle.concrete_run.specs.declared.pending.Stage.{Stage}
use Rattle.concrete_run.specs.declared.pending.Stage.TheVariants.{Arriving, Leaving, Ended}
use Rattle.packet_run.specs.Packets.{Given, RunsAs, given_of, progress_of}
use Rattle.concrete_run.specs.Answers.{IsAtStart}
use Rattle.concrete_run.proofs.Alike.{led_alike, steps_alike}
use Rattle.concrete_run.specs.Pending.{Steps, led, stage_before, stage_over, stage_passed, stage_crossed, steps_at, steps_by, steps_copied, steps_crossed, steps_entered, steps_left, steps_passed, walks_at, walks_by, walks_of}

-- with decisions more
pub led_decided : (ds rs : List Decision) (ps : List Place) (ts : List Passage) → map (led ds ps) (map (decided rs) ts) ≡ map (led (ds ++ rs) ps) ts
led_decided ds rs ps [] = refl
led_decided ds rs ps (t ∷ ts) = λ i.
    record (shown t) { decisions = sym (append_assoc ds rs t.decisions) i; places = ps ++ (shown t).places } ∷ led_decided ds rs ps ts i

-- and by way of a place
pub led_on : (ds rs : List Decision) (ps : List Place) (place : Place) (p : Progress ℕ) (ts : List Passage)
    → map (led ds ps) (map (by_way_of place p) (map (decided rs) ts)) ≡ map (led (ds ++ rs) (ps ++ place ∷ [])) ts
led_on ds rs ps place p [] = refl
led_on ds rs ps place p (t ∷ ts) = λ i.
    record (shown t) { decisions = sym (append_assoc ds rs t.decisions) i; places = sym (append_assoc ps (place ∷ []) (shown t).places) i } ∷ led_on ds rs ps place p ts i

led_append : (ds : List Decision) (ps : List Place) (ts us : List Passage) → map (led ds ps) (ts ++ us) ≡ map (led ds ps) ts ++ map (led ds ps) us
led_append ds ps [] us = refl
led_append ds ps (t ∷ ts) us = ap (λ l. led ds ps t ∷ l) (led_append ds ps ts us)

module _ (net : Network) (g : Given) where
  abbrev onward : ℕ → NodeId → ℕ → Progress ℕ → List Passage
  onward hops = enter net g.0 g.1 hops

  passed_stage : (hops : ℕ) (node : NodeId) (exit : Exit) (p : Progress ℕ)
      → walks_at net g (stage_passed node exit) hops p ≡ passed net g.0 g.1 (onward hops) node (exit_of exit) p
  passed_stage hops node Off p = refl
  passed_stage hops node (Go port) p = refl
  passed_stage hops node (Forked ports) p = refl
  passed_stage hops node (Failed failure site) p = refl

  crossed_stage : (hops : ℕ) (link : Option (NodeId × ℕ)) (exit : Exit) (p : Progress ℕ)
      → walks_at net g (stage_crossed link exit) hops p ≡ crossed net g.0 g.1 (onward hops) link (exit_of exit) p
  crossed_stage hops None Off p = refl
  crossed_stage hops (Some to) Off p = refl
  crossed_stage hops None (Go port) p = refl
  crossed_stage hops (Some to) (Go port) p = refl
  crossed_stage hops None (Forked ports) p = refl
  crossed_stage hops (Some to) (Forked ports) p = refl
  crossed_stage hops None (Failed failure site) p = refl
  crossed_stage hops (Some to) (Failed failure site) p = refl

  abbrev onward_steps : ℕ → Steps
  onward_steps hops = steps_entered net g.0 g.1 hops

  passed_steps : (hops : ℕ) (node : NodeId) (exit : Exit) (p : Progress ℕ)
      → steps_at net g (stage_passed node exit) hops p ≡ steps_passed net g.0 g.1 (onward_steps hops) node (exit_of exit) p
  passed_steps hops node Off p = refl
  passed_steps hops node (Go port) p = refl
  passed_steps hops node (Forked ports) p = refl
  passed_steps hops node (Failed failure site) p = refl

  crossed_steps : (hops : ℕ) (link : Option (NodeId × ℕ)) (exit : Exit) (p : Progress ℕ)
      → steps_at net g (stage_crossed link exit) hops p ≡ steps_crossed net g.0 g.1 (onward_steps hops) link (exit_of exit) p
  crossed_steps hops None Off p = refl
  crossed_steps hops (Some to) Off p = refl
  crossed_steps hops None (Go port) p = refl
  crossed_steps hops (Some to) (Go port) p = refl
  crossed_steps hops None (Forked ports) p = refl
  crossed_steps hops (Some to) (Forked ports) p = refl
  crossed_steps hops None (Failed failure site) p = refl
  crossed_steps hops (Some to) (Failed failure site) p = refl

module _ (net : Network) where
  -- the packet's walks behind its decisions and places, whatever had begun
  abbrev led_by : Packet → ℕ → List Place → (Progress ℕ → List Passage) → List Trail
  led_by packet begun ps walks =
      map (led packet.decisions.items ps) (walks (progress_at (carried_of packet.state) packet.choices.items begun))

  walks_counted : (g : Given) (stage : Stage) (hops : ℕ) (ps : List Place) (new : Packet) (begun : ℕ) → given_of new ≡ g
      → walks_by net stage hops ps new ≡ led_by new begun ps (walks_at net g stage hops)
  walks_counted g stage hops ps new begun same =
      ap (λ (x : Given). map (led new.decisions.items ps) (walks_at net x stage hops (progress_of new))) same
      ∙ led_alike net g new.decisions.items ps stage hops (carried_of new.state) new.choices.items 0 begun

  steps_counted : (g : Given) (stage : Stage) (hops : ℕ) (new : Packet) (begun : ℕ) → given_of new ≡ g
      → steps_by net stage hops new ≡ steps_at net g stage hops (progress_at (carried_of new.state) new.choices.items begun)
  steps_counted g stage hops new begun same =
      ap (λ (x : Given). steps_at net x stage hops (progress_of new)) same
      ∙ steps_alike net g stage hops (carried_of new.state) new.choices.items 0 begun

  -- the run of the packet's code of a port
  abbrev pub Runs : Packet → Packet → NodeId → Side → ℕ → Exit → Type 0
  Runs old new node side port exit =
      RunsAs new exit (noting old.decisions.items (run_port net old.numbers.numbers.now old.numbers.unknowns node side port (progress_of old)))

  -- over an input port, with a hop left
  arrived : (hops rest : ℕ) (ps qs : List Place) (old new : Packet) (node : NodeId) (port : ℕ) (exit : Exit)
      → hops ≡ suc rest → qs ≡ ps ++ place_at node Inward port ∷ [] → given_of new ≡ given_of old
      → Runs old new node Inward port exit
      → walks_by net (stage_passed node exit) rest qs new ≡ walks_by net (Arriving node port) hops ps old
  arrived hops rest ps qs old new node port exit h q same runs =
      let place = place_at node Inward port in
      let g = given_of old in
      let r = run_port net g.0 g.1 node Inward port (progress_of old) in
      let p = progress_at (carried_of new.state) new.choices.items runs.0 in
      let next = λ (x : Ran). passed net g.0 g.1 (onward net g rest) node x.exit x.progress in
      ap (λ l. walks_by net (stage_passed node exit) rest l new) q
      ∙ walks_counted g (stage_passed node exit) rest (ps ++ place ∷ []) new runs.0 same
      ∙ ap (map (led new.decisions.items (ps ++ place ∷ []))) (passed_stage net g rest node exit p)
      ∙ ap (λ (x : Ran). map (led x.decisions (ps ++ place ∷ [])) (next x)) runs.1
      ∙ sym (led_on old.decisions.items r.decisions ps place (progress_of old) (next r))
      ∙ ap (λ n. map (led old.decisions.items ps) (onward net g n node port (progress_of old))) (sym h)

  -- over an output port
  left : (hops : ℕ) (ps qs : List Place) (old new : Packet) (node : NodeId) (port : ℕ) (exit : Exit)
      → qs ≡ ps ++ place_at node Outward port ∷ [] → given_of new ≡ given_of old
      → Runs old new node Outward port exit
      → walks_by net (stage_crossed (link_of net node port) exit) hops qs new ≡ walks_by net (Leaving node port) hops ps old
  left hops ps qs old new node port exit q same runs =
      let place = place_at node Outward port in
      let link = link_of net node port in
      let g = given_of old in
      let r = run_port net g.0 g.1 node Outward port (progress_of old) in
      let p = progress_at (carried_of new.state) new.choices.items runs.0 in
      let next = λ (x : Ran). crossed net g.0 g.1 (onward net g hops) link x.exit x.progress in
      ap (λ x. walks_by net (stage_crossed link exit) hops x new) q
      ∙ walks_counted g (stage_crossed link exit) hops (ps ++ place ∷ []) new runs.0 same
      ∙ ap (map (led new.decisions.items (ps ++ place ∷ []))) (crossed_stage net g hops link exit p)
      ∙ ap (λ (x : Ran). map (led x.decisions (ps ++ place ∷ [])) (next x)) runs.1
      ∙ sym (led_on old.decisions.items r.decisions ps place (progress_of old) (next r))

  -- a step over an input port, with a hop left
  arrived_steps : (hops rest : ℕ) (old new : Packet) (node : NodeId) (port : ℕ) (exit : Exit)
      → hops ≡ suc rest → given_of new ≡ given_of old → Runs old new node Inward port exit
      → suc (steps_by net (stage_passed node exit) rest new) ≡ steps_by net (Arriving node port) hops old
  arrived_steps hops rest old new node port exit h same runs =
      let g = given_of old in
      let p = progress_at (carried_of new.state) new.choices.items runs.0 in
      ap suc (steps_counted g (stage_passed node exit) rest new runs.0 same)
      ∙ ap suc (passed_steps net g rest node exit p)
      ∙ ap (λ (x : Ran). suc (steps_passed net g.0 g.1 (onward_steps net g rest) node x.exit x.progress)) runs.1
      ∙ ap (λ n. onward_steps net g n node port (progress_of old)) (sym h)

  -- over an output port
  left_steps : (hops : ℕ) (old new : Packet) (node : NodeId) (port : ℕ) (exit : Exit)
      → given_of new ≡ given_of old → Runs old new node Outward port exit
      → suc (steps_by net (stage_crossed (link_of net node port) exit) hops new) ≡ steps_by net (Leaving node port) hops old
  left_steps hops old new node port exit same runs =
      let g = given_of old in
      let link = link_of net node port in
      let p = progress_at (carried_of new.state) new.choices.items runs.0 in
      ap suc (steps_counted g (stage_crossed link exit) hops new runs.0 same)
      ∙ ap suc (crossed_steps net g hops link exit p)
      ∙ ap (λ (x : Ran). suc (steps_crossed net g.0 g.1 (onward_steps net g hops) link x.exit x.progress)) runs.1

  -- over a port, with this many hops left behind its code
  pub went : (side : Side) (hops rest : ℕ) (ps qs : List Place) (old new : Packet) (node : NodeId) (port : ℕ) (exit : Exit)
      → AreLeft side hops (Some rest) → qs ≡ ps ++ place_at node side port ∷ [] → given_of new ≡ given_of old
      → Runs old new node side port exit
      → walks_by net (stage_over net node side port exit) rest qs new ≡ walks_by net (stage_before node side port) hops ps old
  went Inward hops rest ps qs old new node port exit h q same runs = arrived hops rest ps qs old new node port exit h q same runs
  went Outward hops rest ps qs old new node port exit h q same runs =
      left rest ps qs old new node port exit q same runs ∙ ap (λ n. walks_by net (Leaving node port) n ps old) h

  pub went_steps : (side : Side) (hops rest : ℕ) (old new : Packet) (node : NodeId) (port : ℕ) (exit : Exit)
      → AreLeft side hops (Some rest) → given_of new ≡ given_of old → Runs old new node side port exit
      → suc (steps_by net (stage_over net node side port exit) rest new) ≡ steps_by net (stage_before node side port) hops old
  went_steps Inward hops rest old new node port exit h same runs = arrived_steps hops rest old new node port exit h same runs
  went_steps Outward hops rest old new node port exit h same runs =
      left_steps rest old new node port exit same runs ∙ ap (λ n. steps_by net (Leaving node port) n old) h

  -- at a port whose code does not run
  pub cut : (side : Side) (hops : ℕ) (ps qs : List Place) (packet : Packet) (node : NodeId) (port : ℕ)
      → AreLeft side hops None → qs ≡ ps ++ place_at node side port ∷ []
      → walks_by net (Ended Cut) hops qs packet ≡ walks_by net (stage_before node side port) hops ps packet
  cut Inward hops ps qs packet node port h q =
      let ds = packet.decisions.items in
      let g = given_of packet in
      let p = progress_of packet in
      let place = place_at node Inward port in
      let there : walks_by net (Ended Cut) hops (ps ++ place ∷ []) packet ≡ map (led ds ps) (onward net g 0 node port p) =
      λ i. record { decisions = ds ++ []; places = append-nil (ps ++ place ∷ []) i; end' = Cut; state = p.state } ∷ [] in
      ap (λ l. walks_by net (Ended Cut) hops l packet) q
      ∙ there
      ∙ ap (λ n. map (led ds ps) (onward net g n node port p)) (sym h)
  cut Outward hops ps qs packet node port h q = absurd h

  pub cut_steps : (side : Side) (hops : ℕ) (packet : Packet) (node : NodeId) (port : ℕ)
      → AreLeft side hops None → suc (steps_by net (Ended Cut) hops packet) ≡ steps_by net (stage_before node side port) hops packet
  cut_steps Inward hops packet node port h =
      let g = given_of packet in
      ap (λ n. onward_steps net g n node port (progress_of packet)) (sym h)
  cut_steps Outward hops packet node port h = absurd h

  -- a copy, and then the others
  pub copied : (hops number behind port : ℕ) (ports rest : List ℕ) (ps qs : List Place) (old new : Packet) (node : NodeId)
      → ports ≡ port ∷ rest → behind ≡ number + 1 → qs ≡ ps → given_of new ≡ given_of old
      → new.decisions.items ≡ old.decisions.items ++ Copy number ∷ [] → progress_of new ≡ progress_of old
      → (let g = given_of old in
      map (led new.decisions.items qs) (leave net (given_of new).0 (given_of new).1 (enter net (given_of new).0 (given_of new).1 hops) node port (progress_of new))
      ++ map (led old.decisions.items ps) (copies net g.0 g.1 (enter net g.0 g.1 hops) node behind rest (progress_of old))
      ≡ map (led old.decisions.items ps) (copies net g.0 g.1 (enter net g.0 g.1 hops) node number ports (progress_of old)))
  copied hops number behind port ports rest ps qs old new node p b q given d same =
      let g = given_of old in
      let by = λ (x : Given) (q : Progress ℕ). leave net x.0 x.1 (enter net x.0 x.1 hops) node port q in
      let others = λ (n : ℕ). copies net g.0 g.1 (enter net g.0 g.1 hops) node n rest (progress_of old) in
      let next : behind ≡ suc number = omega arith in
      (λ i. map (led (d i) (q i)) (by (given i) (same i)) ++ map (led old.decisions.items ps) (others (next i)))
      ∙ ap (λ l. l ++ map (led old.decisions.items ps) (others (suc number)))
      (sym (led_decided old.decisions.items (Copy number ∷ []) ps (by g (progress_of old))))
      ∙ sym (led_append old.decisions.items ps (map (decided (Copy number ∷ [])) (by g (progress_of old))) (others (suc number)))
      ∙ ap (λ l. map (led old.decisions.items ps) (copies net g.0 g.1 (enter net g.0 g.1 hops) node number l (progress_of old))) (sym p)

  -- to a copy
  pub copied_steps : (hops port : ℕ) (ports rest : List ℕ) (old new : Packet) (node : NodeId)
      → ports ≡ port ∷ rest → given_of new ≡ given_of old → progress_of new ≡ progress_of old
      → (let g = given_of old in
      suc (steps_left net (given_of new).0 (given_of new).1 (steps_entered net (given_of new).0 (given_of new).1 hops) node port (progress_of new)
      + steps_copied net g.0 g.1 (steps_entered net g.0 g.1 hops) node rest (progress_of old))
      ≡ steps_copied net g.0 g.1 (steps_entered net g.0 g.1 hops) node ports (progress_of old))
  copied_steps hops port ports rest old new node p given same =
      let g = given_of old in
      (λ i. suc (steps_left net (given i).0 (given i).1 (steps_entered net (given i).0 (given i).1 hops) node port (same i)
      + steps_copied net g.0 g.1 (steps_entered net g.0 g.1 hops) node rest (progress_of old)))
      ∙ ap (λ l. steps_copied net g.0 g.1 (steps_entered net g.0 g.1 hops) node l (progress_of old)) (sym p)

-- behind nothing
pub led_none : (ts : List Passage) → map (led [] []) ts ≡ map shown ts
led_none [] = refl
led_none (t ∷ ts) = ap (λ l. shown t ∷ l) (led_none ts)

-- the walks of the packet before the injection's port
pub walks_at_start : (net : Network) (i : Entry) (v : List ℕ) (hops : ℕ) (s : Carried ℕ) (p : Pending) → IsAtStart i (v, unknown_count i) hops s p
    → walks_of net p ≡ walks_from net i v hops s
walks_at_start net i v hops s p at =
    (λ j. map (led (at.decisions j) (at.places j))
    (walks_at net (at.numbers j) (at.stage j) (at.hops j) (progress_at (at.state j) (at.choices j) 0)))
    ∙ led_none (enter net v (unknown_count i) hops i.node i.own.port (starting s))

-- the first of a list that is not empty, and the others
pub first_and_rest : (ports : List ℕ) → 1 ≤ length ports → ports ≡ get_or ports 0 0 ∷ take (length ports - 1) (drop 1 ports)
first_and_rest [] h = absurd (omega arith)
first_and_rest (port ∷ ports) h = grind (arith, common_steps)
