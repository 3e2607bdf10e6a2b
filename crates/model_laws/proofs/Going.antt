-- What code comes to, an instruction at a time.
use Rattle.std.proofs.Common.{◌≡◌, ◌∙◌, refl, sym, ap, ℕ, suc, ◌+◌, ◌%◌, ◌^◌, Bool, true, false, nat_le, if◌then◌else◌, List, [], ◌∷◌, codes, Result, Ok, Err}
use Rattle.sn_width.specs.declared.faults.LayoutFault.{LayoutFault}
use Rattle.sn_width.specs.declared.ids.NodeId.{NodeId}
use Rattle.sn_width.specs.Width.{wrapped_difference}
use Rattle.sefl_syntax.specs.declared.net.Side.TheVariants.{Inward}
use Rattle.sefl_syntax.specs.Trees.{assign, branch, constant, deallocate, destroy_tag, CodeTree, no_code, instr_and}
use Rattle.table_nodes.specs.TableNodes.{guard_instr}
use Rattle.table_nodes.specs.Codes.{code_before}
use Rattle.click_elements.specs.declared.class.Primitive.{Primitive}
use Rattle.table_nodes.specs.declared.field.Field.{Field}
use Rattle.table_nodes.specs.declared.field.Field.TheVariants.{FrameDestination, FrameSource, FrameType, TimeToLive}
use Rattle.click_elements.specs.Classes.{RuleSeen}
use Rattle.table_nodes.specs.Fields.{cell}
use Rattle.click_elements.specs.Patterns.{pattern_test}
use Rattle.click_elements.specs.Codes.{drop_code, forward_code, is_expired, one_less, lowered_code, expired_code, dec_ip_ttl_code, tee_code, strip_code, frame_start, new_cell, ether_encap_code, rule_code, rule_instr, ip_filter_code, pattern_instrs}
use Rattle.cell_stacks.specs.Outcome.{and_then}
use Rattle.job_items.specs.AtomRules.{width_of}
use Rattle.net_check.specs.Network.{code_at}
use Rattle.sefl_meaning.specs.declared.walk.Decision.{Decision}
use Rattle.sefl_meaning.specs.declared.walk.Decision.TheVariants.{Then, Else}
use Rattle.sefl_meaning.specs.Values.{numbers}
use Rattle.sefl_meaning.specs.Carried.{Carried, Scene, scene_at}
use Rattle.sefl_meaning.specs.Steps.{allocated, assigned, deallocated, evaluated, tag_set, tag_destroyed}
use Rattle.sefl_meaning.specs.Terms.{truth_in}
use Rattle.sefl_meaning.specs.Walks.{run_port}
use Rattle.sefl_meaning.specs.Network.{Network, code_of, code_size, inner_size}
use Rattle.sefl_meaning.specs.Runs.{Exit, off, go, forked, failed, Progress, Ran, ran, noting, then_next, then_run, step, unless_fault, run_code}
use Rattle.model_laws.specs.Outcomes.{Outcome, sent, outcome, unless}
use Rattle.model_laws.specs.Passing.{passes, read}
use Rattle.model_laws.specs.Rows.{dropped, tee_row, expired_row, lowered_row, dec_ip_ttl_row, strip_row, with_cell, ether_encap_row, ip_filter_row, ip_classifier_row}
use Rattle.model_laws.proofs.Passing.{pattern_is}

abbrev pub Next : Type 0
Next = Progress ℕ → Ran

-- decisions that are noted change nothing
noted : (ds : List Decision) (r : Ran) (next : Next) → outcome (then_run (noting ds r) next) ≡ outcome (then_run r next)
noted ds r next = by r.exit
  where
    by : (e : Exit) → outcome (then_next e (noting ds r) next) ≡ outcome (then_next e r next)
    by off = refl
    by (go port) = refl
    by (forked ports) = refl
    by (failed failure site) = refl

-- code, and what comes after it
joined : (r : Ran) (first second : Next) → outcome (then_run (then_run r first) second) ≡ outcome (then_run r (λ p. then_run (first p) second))
joined r first second = by r.exit refl
  where
    by : (e : Exit) → r.exit ≡ e → outcome (then_run (then_next e r first) second) ≡ outcome (then_next e r (λ p. then_run (first p) second))
    by off is = noted r.decisions (first r.progress) second
    by (go port) is = ap (λ e. outcome (then_next e r second)) is
    by (forked ports) is = ap (λ e. outcome (then_next e r second)) is
    by (failed failure site) is = ap (λ e. outcome (then_next e r second)) is

alone : (r : Ran) → outcome (then_run r (λ p. ran off p)) ≡ outcome r
alone r = by r.exit refl
  where
    by : (e : Exit) → r.exit ≡ e → outcome (then_next e r (λ p. ran off p)) ≡ outcome r
    by off is = ap (λ e. outcome (record r { exit = e })) (sym is)
    by (go port) is = refl
    by (forked ports) is = refl
    by (failed failure site) is = refl

pub unless_same : {A : Type 0} (r : Result A LayoutFault) (f g : A → Outcome) → ((x : A) → f x ≡ g x) → unless r f ≡ unless r g
unless_same r f g h = λ i. unless r (λ x. h x i)

module _ (v : List ℕ) (unknowns : ℕ) (at : Scene) where
  -- what code comes to, and then what is next
  abbrev pub goes : ℕ → CodeTree → Progress ℕ → Next → Outcome
  goes site code p next = outcome (then_run (run_code v unknowns at site code p) next)

  -- an instruction that only changes the state
  pub step_goes : (site later : ℕ) (r : Result (Carried ℕ) LayoutFault) (is : CodeTree) (p : Progress ℕ) (next : Next)
      → outcome (then_run (then_run (step site r p) (run_code v unknowns at later is)) next) ≡ unless r (λ s. goes later is (record p { state = s }) next)
  step_goes site later (Ok state) is p next = noted [] (run_code v unknowns at later is (record p { state = state })) next
  step_goes site later (Err fault) is p next = refl

  tested : (ds : List Decision) (site : ℕ) (code : CodeTree) (later : ℕ) (is : CodeTree) (p : Progress ℕ) (next : Next)
      → outcome (then_run (then_run (noting ds (run_code v unknowns at site code p)) (run_code v unknowns at later is)) next)
      ≡ goes site code p (λ p. then_run (run_code v unknowns at later is p) next)
  tested ds site code later is p next = joined (noting ds (run_code v unknowns at site code p)) (run_code v unknowns at later is) next
      ∙ noted ds (run_code v unknowns at site code p) (λ p. then_run (run_code v unknowns at later is p) next)

  -- a test
  pub if_goes : (site later held_site other_site : ℕ) (t : Result Bool LayoutFault) (held other is : CodeTree) (p : Progress ℕ) (next : Next)
      → outcome (then_run (then_run (unless_fault site t p (λ holds. if holds then noting (Then ∷ []) (run_code v unknowns at held_site held p)
      else noting (Else ∷ []) (run_code v unknowns at other_site other p))) (run_code v unknowns at later is)) next)
      ≡ unless t (λ holds. if holds then goes held_site held p (λ p. then_run (run_code v unknowns at later is p) next)
      else goes other_site other p (λ p. then_run (run_code v unknowns at later is p) next))
  if_goes site later held_site other_site (Ok true) held other is p next = tested (Then ∷ []) held_site held later is p next
  if_goes site later held_site other_site (Ok false) held other is p next = tested (Else ∷ []) other_site other later is p next
  if_goes site later held_site other_site (Err fault) held other is p next = refl

  -- an instruction more has begun
  abbrev pub begun : Progress ℕ → Progress ℕ
  begun p = record p { begun = suc p.begun }

  -- ---- Discard and Tee

  pub drop_goes : (site : ℕ) (p : Progress ℕ) (next : Next) → goes site drop_code p next ≡ dropped
  drop_goes site p next = refl

  pub tee_goes : (site outputs : ℕ) (p : Progress ℕ) (next : Next) → goes site (tee_code outputs) p next ≡ tee_row outputs p.state
  tee_goes site outputs p next = refl

  -- ---- DecIPTTL

  expired_goes : (site : ℕ) (connected : Bool) (p : Progress ℕ) (next : Next) → goes site (expired_code connected) p next ≡ expired_row at connected p.state
  expired_goes site true p next = refl
  expired_goes site false p next = refl

  -- where the time to live reads as a number
  lowered_goes : (site n : ℕ) (p : Progress ℕ) (next : Next) → read at (cell TimeToLive) p.state ≡ Ok n
      → goes site lowered_code p next ≡ lowered_row at n p.state
  lowered_goes site n p next is =
      step_goes site (suc site) (evaluated (numbers v unknowns) at (cell TimeToLive) one_less p.state) (forward_code 0) (begun p) next
      ∙ ap (λ r. unless (and_then (and_then r (λ n. Ok (wrapped_difference 8 n 1))) (λ n. assigned at (cell TimeToLive) n p.state)) (sent (0 ∷ []))) is

  dec_by : (held_site other_site : ℕ) (connected expired : Bool) (p : Progress ℕ) (n : ℕ) (next : Next) → read at (cell TimeToLive) p.state ≡ Ok n
      → (if expired then goes held_site (expired_code connected) p next else goes other_site lowered_code p next)
      ≡ (if expired then expired_row at connected p.state else lowered_row at n p.state)
  dec_by held_site other_site connected true p n next is = expired_goes held_site connected p next
  dec_by held_site other_site connected false p n next is = lowered_goes other_site n p next is

  abbrev dec_from : ℕ → Bool → Progress ℕ → Next → Bool → Outcome
  dec_from site connected p next expired =
      if expired then goes (suc site) (expired_code connected) p (λ p. then_run (ran off p) next)
      else goes (suc site + code_size (expired_code connected)) lowered_code p (λ p. then_run (ran off p) next)

  dec_read : (site : ℕ) (connected : Bool) (p : Progress ℕ) (next : Next) (r : Result ℕ LayoutFault) → read at (cell TimeToLive) p.state ≡ r
      → unless (truth_in (numbers v unknowns) at is_expired p.state) (dec_from site connected p next)
      ≡ unless r (λ n. if nat_le n 1 then expired_row at connected p.state else lowered_row at n p.state)
  dec_read site connected p next (Ok n) is =
      ap (λ r. unless (and_then r (λ n. Ok (nat_le n 1))) (dec_from site connected p next)) is
      ∙ dec_by (suc site) (suc site + code_size (expired_code connected)) connected (nat_le n 1) p n (λ p. then_run (ran off p) next) is
  dec_read site connected p next (Err fault) is = ap (λ r. unless (and_then r (λ n. Ok (nat_le n 1))) (dec_from site connected p next)) is

  pub dec_goes : (site : ℕ) (connected : Bool) (p : Progress ℕ) (next : Next) → goes site (dec_ip_ttl_code connected) p next ≡ dec_ip_ttl_row at connected p.state
  dec_goes site connected p next =
      if_goes site (suc site + inner_size (branch is_expired (expired_code connected) lowered_code)) (suc site) (suc site + code_size (expired_code connected))
      (truth_in (numbers v unknowns) at is_expired p.state) (expired_code connected) lowered_code no_code (begun p) next
      ∙ dec_read site connected (begun p) next (read at (cell TimeToLive) p.state) refl

  -- ---- IPFilter and IPClassifier

  rule_goes : (site : ℕ) (allows : Bool) (p : Progress ℕ) (next : Next)
      → goes site (rule_code allows) p next ≡ (if allows then sent (0 ∷ []) p.state else dropped)
  rule_goes site true p next = refl
  rule_goes site false p next = refl

  -- of two outcomes, the one that a test chooses
  pub chosen : (b : Bool) (x y w z : Outcome) → x ≡ w → y ≡ z → (if b then x else y) ≡ (if b then w else z)
  chosen true x y w z one other = one
  chosen false x y w z one other = other

  -- what the truth of a pattern's condition decides, where the packet passes or not
  by_pattern : (pattern : List Primitive) (s : Carried ℕ) (f g : Bool → Outcome) → ((b : Bool) → f b ≡ g b)
      → unless (truth_in (numbers v unknowns) at (pattern_test pattern) s) f ≡ unless (passes at pattern s) g
  by_pattern pattern s f g h =
      unless_same (truth_in (numbers v unknowns) at (pattern_test pattern) s) f g h ∙ ap (λ t. unless t g) (pattern_is v unknowns at s pattern)

  pub filter_goes : (site : ℕ) (rules : List RuleSeen) (p : Progress ℕ) (next : Next)
      → goes site (ip_filter_code rules) p next ≡ ip_filter_row at rules p.state
  filter_goes site [] p next = refl
  filter_goes site (r ∷ rules) p next =
      let later = suc site + inner_size (rule_instr r) in
      let rest : Next = λ p. then_run (run_code v unknowns at later (ip_filter_code rules) p) next in
      if_goes site later (suc site) (suc site + code_size (rule_code r.allows)) (truth_in (numbers v unknowns) at (pattern_test r.pattern) p.state)
      (rule_code r.allows) no_code (ip_filter_code rules) (begun p) next
      ∙ by_pattern r.pattern p.state _ _ (λ passed. chosen passed _ _ _ _ (rule_goes (suc site) r.allows (begun p) rest) (filter_goes later rules (begun p) next))

  pub classifier_goes : (site port : ℕ) (patterns : List (List Primitive)) (p : Progress ℕ) (next : Next)
      → goes site (code_before (pattern_instrs port patterns) drop_code) p next ≡ ip_classifier_row at port patterns p.state
  classifier_goes site port [] p next = refl
  classifier_goes site port (pattern ∷ patterns) p next =
      let later = suc site + inner_size (guard_instr (pattern_test pattern, port)) in
      let is = code_before (pattern_instrs (suc port) patterns) drop_code in
      if_goes site later (suc site) (suc site + code_size (forward_code port)) (truth_in (numbers v unknowns) at (pattern_test pattern) p.state)
      (forward_code port) no_code is (begun p) next
      ∙ by_pattern pattern p.state _ _ (λ passed. chosen passed _ _ _ _ refl (classifier_goes later (suc port) patterns (begun p) next))

  -- ---- Strip and EtherEncap

  pub strip_goes : (site : ℕ) (p : Progress ℕ) (next : Next) → goes site strip_code p next ≡ strip_row at p.state
  strip_goes site p next =
      let c3 = instr_and (destroy_tag (codes "L2")) (forward_code 0) in
      let c2 = instr_and (deallocate (cell FrameType)) c3 in
      let c1 = instr_and (deallocate (cell FrameSource)) c2 in
      let n1 = suc site + 0 in
      let n2 = suc n1 + 0 in
      let n3 = suc n2 + 0 in
      let n4 = suc n3 + 0 in
      let p1 : Carried ℕ → Progress ℕ = λ s. record { state = s; choices = p.choices; begun = suc p.begun } in
      let p2 : Carried ℕ → Progress ℕ = λ s. record { state = s; choices = p.choices; begun = suc (suc p.begun) } in
      let p3 : Carried ℕ → Progress ℕ = λ s. record { state = s; choices = p.choices; begun = suc (suc (suc p.begun)) } in
      let p4 : Carried ℕ → Progress ℕ = λ s. record { state = s; choices = p.choices; begun = suc (suc (suc (suc p.begun))) } in
      step_goes site n1 (deallocated at (cell FrameDestination) p.state) c1 (p1 p.state) next
      ∙ unless_same (deallocated at (cell FrameDestination) p.state) _ _ (λ s. step_goes n1 n2 (deallocated at (cell FrameSource) s) c2 (p2 s) next
      ∙ unless_same (deallocated at (cell FrameSource) s) _ _ (λ s. step_goes n2 n3 (deallocated at (cell FrameType) s) c3 (p3 s) next
      ∙ unless_same (deallocated at (cell FrameType) s) _ _ (λ s. step_goes n3 n4 (tag_destroyed at (codes "L2") s) (forward_code 0) (p4 s) next)))

  -- a new cell of a field, and what is done behind it
  cell_goes : (site : ℕ) (f : Field) (n : ℕ) (is : CodeTree) (p : Progress ℕ) (next : Next) (after : Carried ℕ → Outcome)
      → ((later : ℕ) (q : Progress ℕ) → goes later is q next ≡ after q.state)
      → goes site (code_before (new_cell f n) is) p next ≡ with_cell at f n p.state after
  cell_goes site f n is p next after h =
      let n1 = suc site + 0 in
      let n2 = suc n1 + 0 in
      step_goes site n1 (allocated at (cell f) p.state) (instr_and (assign (cell f) (constant n)) is) (begun p) next
      ∙ unless_same (allocated at (cell f) p.state) _ _ (λ s.
      let q : Progress ℕ = record { state = s; choices = p.choices; begun = suc (suc p.begun) } in
      step_goes n1 n2 (evaluated (numbers v unknowns) at (cell f) (constant n) s) is q next
      ∙ unless_same (assigned at (cell f) (n % 2 ^ width_of (cell f)) s) _ _ (λ s. h n2 (record q { state = s })))

  pub encap_goes : (site kind source destination : ℕ) (p : Progress ℕ) (next : Next)
      → goes site (ether_encap_code kind source destination) p next ≡ ether_encap_row at kind source destination p.state
  encap_goes site kind source destination p next =
      let three = code_before (new_cell FrameType kind) (forward_code 0) in
      let two = code_before (new_cell FrameSource source) three in
      let one = code_before (new_cell FrameDestination destination) two in
      step_goes site (suc site + 0) (tag_set at (codes "L2") frame_start p.state) one (begun p) next
      ∙ unless_same (tag_set at (codes "L2") frame_start p.state) _ _ (λ s.
      cell_goes (suc site + 0) FrameDestination destination two (record (begun p) { state = s }) next _ (λ later q.
      cell_goes later FrameSource source three q next _ (λ later q.
      cell_goes later FrameType kind (forward_code 0) q next (sent (0 ∷ [])) (λ later q. refl))))

-- the run of input port 0 of a node with this code
pub port_goes : (net : Network) (v : List ℕ) (unknowns : ℕ) (node : NodeId) (code : CodeTree) (p : Progress ℕ) (row : Outcome)
    → code_at net node Inward 0 ≡ code
    → ((site : ℕ) (next : Next) → goes v unknowns (scene_at net node) site code p next ≡ row)
    → outcome (run_port net v unknowns node Inward 0 p) ≡ row
port_goes net v unknowns node code p row is h =
    let site = suc (code_of net node Inward 0).0 in
    ap (λ c. outcome (run_code v unknowns (scene_at net node) site c p)) is
    ∙ sym (alone (run_code v unknowns (scene_at net node) site code p)) ∙ h site (λ p. ran off p)
