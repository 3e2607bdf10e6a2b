-- Two cells of a header exchanged by way of a local.
use Rattle.std.proofs.Common.{◌≡◌, ◌∙◌, refl, sym, ap, subst, ℕ, suc, ◌+◌, Bool, true, false, true≢false, if◌then◌else◌, List, [], ◌∷◌, Result, Ok, Err, codes}
use Rattle.sn_width.specs.declared.faults.LayoutFault.{LayoutFault}
use Rattle.sn_width.specs.declared.faults.LayoutFault.TheVariants.{NoMeta}
use Rattle.sefl_syntax.specs.declared.reference.Addr.{Addr}
use Rattle.sefl_syntax.specs.declared.reference.Target.{Target}
use Rattle.sefl_syntax.specs.declared.reference.Target.TheVariants.{Header, Meta}
use Rattle.sefl_syntax.specs.declared.reference.Scope.TheVariants.{Local}
use Rattle.sefl_syntax.specs.Trees.{reading, no_code, CodeTree, deallocate, assign, instr_and}
use Rattle.table_nodes.specs.Codes.{code_before}
use Rattle.click_elements.specs.declared.mirror.Swap.TheVariants.{Ports}
use Rattle.table_nodes.specs.Fields.{past}
use Rattle.click_elements.specs.Patterns.{is_ported}
use Rattle.click_elements.specs.Codes.{exchange, forward_code, ether_mirror_code, mirrored_ports, ip_mirror_code, swap_code}
use Rattle.cell_stacks.specs.Outcome.{and_then, on_ok}
use Rattle.cell_stacks.specs.Cells.{popped, pushed, top_value, with_top}
use Rattle.header_layers.specs.Layout as layout
use Rattle.header_layers.specs.Layout.{Layout}
use Rattle.metadata_scopes.specs.Scopes.{Metadata, key_cmp}
use Rattle.sefl_meaning.specs.Values.{numbers}
use Rattle.sefl_meaning.specs.Carried.{Carried, Key, base_tag, Scene, owner_of, with_layers, with_scopes}
use Rattle.sefl_meaning.specs.Network.{code_size, inner_size, name_id}
use Rattle.sefl_meaning.specs.Terms.{truth_in}
use Rattle.sefl_meaning.specs.Runs.{Progress, then_run, run_code}
use Rattle.sefl_meaning.specs.Steps.{allocated, deallocated, evaluated}
use Rattle.model_laws.specs.Elements.{progress}
use Rattle.model_laws.specs.Outcomes.{Outcome, sent, unless}
use Rattle.model_laws.specs.Passing.{has_ports}
use Rattle.model_laws.specs.Rows.{exchanged, ether_mirror_row, ports_row, ip_mirror_row}
use Rattle.model_laws.proofs.Passing.{ported_is}
use Rattle.model_laws.proofs.Going.{Next, begun, goes, if_goes, step_goes, unless_same}

-- a cell that was put on the metadata takes a value, reads it, and leaves them as they were when it is removed
pub record Held (set : ℕ → Metadata ℕ → Result (Metadata ℕ) LayoutFault) (top : Metadata ℕ → Result ℕ LayoutFault)
    (pop : Metadata ℕ → Result (Metadata ℕ) LayoutFault) (m put : Metadata ℕ) (a : ℕ) : Type 0 where
  pub holding : Metadata ℕ
  pub sets : set a put ≡ Ok holding
  pub reads : top holding ≡ Ok a
  pub pops : pop holding ≡ Ok m

abbrev pub LocalLaw : Key → ℕ → Metadata ℕ → Type 0
LocalLaw key w m =
    (put : Metadata ℕ) → pushed key_cmp key w m ≡ Ok put → (a : ℕ)
    → Held (λ a m. with_top key_cmp NoMeta key w a m) (top_value key_cmp NoMeta key w) (popped key_cmp NoMeta key w) m put a

-- ---- the same over any reads and writes of headers, and any steps of metadata

module _ (rx ry : Layout ℕ → Result ℕ LayoutFault) (wx wy : ℕ → Layout ℕ → Result (Layout ℕ) LayoutFault)
    (set : ℕ → Metadata ℕ → Result (Metadata ℕ) LayoutFault) (top : Metadata ℕ → Result ℕ LayoutFault)
    (pop : Metadata ℕ → Result (Metadata ℕ) LayoutFault) (after : Carried ℕ → Outcome) (s : Carried ℕ) where
  abbrev popping : Carried ℕ → Outcome
  popping s = unless (on_ok (with_scopes s) (pop s.scopes)) after

  abbrev writing_y : Carried ℕ → Outcome
  writing_y s = unless (and_then (top s.scopes) (λ a. on_ok (with_layers s) (wy a s.layers))) popping

  abbrev writing_x : Carried ℕ → Outcome
  writing_x s = unless (and_then (ry s.layers) (λ b. on_ok (with_layers s) (wx b s.layers))) writing_y

  abbrev setting : Carried ℕ → Outcome
  setting s = unless (and_then (rx s.layers) (λ a. on_ok (with_scopes s) (set a s.scopes))) writing_x

  -- the two writes, on cells that read
  abbrev writes : ℕ → ℕ → Result (Carried ℕ) LayoutFault
  writes a b = and_then (on_ok (with_layers s) (wx b s.layers)) (λ next. on_ok (with_layers next) (wy a next.layers))

  module _ (held : Metadata ℕ) (a : ℕ) (reads : top held ≡ Ok a) (pops : pop held ≡ Ok s.scopes) where
    abbrev carrying : Layout ℕ → Carried ℕ
    carrying l = record { layers = l; scopes = held }

    by_wy : (l : Layout ℕ) (r : Result (Layout ℕ) LayoutFault)
        → unless (on_ok (with_layers (carrying l)) r) popping ≡ unless (on_ok (with_layers (with_layers s l)) r) after
    by_wy l (Ok last) = ap (λ r. unless (on_ok (with_scopes (carrying last)) r) after) pops
    by_wy l (Err fault) = refl

    by_wx : (r : Result (Layout ℕ) LayoutFault)
        → unless (on_ok (with_layers (carrying s.layers)) r) writing_y
        ≡ unless (and_then (on_ok (with_layers s) r) (λ next. on_ok (with_layers next) (wy a next.layers))) after
    by_wx (Ok l) = ap (λ r. unless (and_then r (λ a. on_ok (with_layers (carrying l)) (wy a l))) popping) reads ∙ by_wy l (wy a l)
    by_wx (Err fault) = refl

    by_ry : (r : Result ℕ LayoutFault)
        → unless (and_then r (λ b. on_ok (with_layers (carrying s.layers)) (wx b s.layers))) writing_y ≡ unless (and_then r (writes a)) after
    by_ry (Ok b) = by_wx (wx b s.layers)
    by_ry (Err fault) = refl

  by_rx : (put : Metadata ℕ) → ((a : ℕ) → Held set top pop s.scopes put a) → (r : Result ℕ LayoutFault)
      → unless (and_then r (λ a. on_ok (with_scopes (with_scopes s put)) (set a put))) writing_x
      ≡ unless (and_then r (λ a. and_then (ry s.layers) (writes a))) after
  by_rx put law (Ok a) =
      let h = law a in
      ap (λ r. unless (on_ok (with_scopes (with_scopes s put)) r) writing_x) h.sets
      ∙ by_ry h.holding a h.reads h.pops (ry s.layers)
  by_rx put law (Err fault) = refl

  by_push : (p : Result (Metadata ℕ) LayoutFault) → ((put : Metadata ℕ) → p ≡ Ok put → (a : ℕ) → Held set top pop s.scopes put a)
      → unless (on_ok (with_scopes s) p) setting
      ≡ unless (and_then (on_ok (with_scopes s) p) (λ room. and_then (rx s.layers) (λ a. and_then (ry s.layers) (writes a)))) after
  by_push (Ok put) law = by_rx put (law put refl) (rx s.layers)
  by_push (Err fault) law = refl

-- the metadata of a state, those of another one where there is none
abbrev scopes_of : Carried ℕ → Result (Carried ℕ) LayoutFault → Metadata ℕ
scopes_of s (Ok next) = next.scopes
scopes_of s (Err fault) = s.scopes

abbrev is_given : Result (Carried ℕ) LayoutFault → Bool
is_given (Ok x) = true
is_given (Err e) = false

err_ok : (fault : LayoutFault) (next : Carried ℕ) → ◌≡◌ {A = Result (Carried ℕ) LayoutFault} (Err fault) (Ok next) → ⊥
err_ok fault next is = true≢false (ap is_given (sym is))

last_scopes : (s next : Carried ℕ) (l : Layout ℕ) (r : Result (Layout ℕ) LayoutFault) → on_ok (with_layers (with_layers s l)) r ≡ Ok next → next.scopes ≡ s.scopes
last_scopes s next l (Ok done) is = ap (scopes_of s) (sym is)
last_scopes s next l (Err fault) is = absurd (err_ok fault next is)

unless_agree : (r : Result (Carried ℕ) LayoutFault) (f g : Carried ℕ → Outcome) → ((x : Carried ℕ) → r ≡ Ok x → f x ≡ g x) → unless r f ≡ unless r g
unless_agree (Ok x) f g h = h x refl
unless_agree (Err fault) f g h = refl

-- where there is a state, the metadata are those of before
by_room : (p : Result (Metadata ℕ) LayoutFault) (rx ry : Result ℕ LayoutFault) (wx : ℕ → Result (Layout ℕ) LayoutFault)
    (wy : ℕ → Layout ℕ → Result (Layout ℕ) LayoutFault) (s next : Carried ℕ)
    → and_then (on_ok (with_scopes s) p) (λ room. and_then rx (λ a. and_then ry (λ b.
    and_then (on_ok (with_layers s) (wx b)) (λ next. on_ok (with_layers next) (wy a next.layers))))) ≡ Ok next
    → next.scopes ≡ s.scopes
by_room (Err fault) rx ry wx wy s next is = absurd (err_ok fault next is)
by_room (Ok put) (Err fault) ry wx wy s next is = absurd (err_ok fault next is)
by_room (Ok put) (Ok a) (Err fault) wx wy s next is = absurd (err_ok fault next is)
by_room (Ok put) (Ok a) (Ok b) wx wy s next is = by (wx b) is
  where
    by : (r : Result (Layout ℕ) LayoutFault) → and_then (on_ok (with_layers s) r) (λ next. on_ok (with_layers next) (wy a next.layers)) ≡ Ok next → next.scopes ≡ s.scopes
    by (Ok l) is = last_scopes s next l (wy a l) is
    by (Err fault) is = absurd (err_ok fault next is)

abbrev local : List ℕ → ℕ → Target
local name width = Meta Local name width

module _ (v : List ℕ) (unknowns : ℕ) (at : Scene) where
  -- the five instructions, one after another
  abbrev by_steps : Target → Target → Target → (Carried ℕ → Outcome) → Carried ℕ → Outcome
  by_steps x y t after s =
      unless (allocated at t s) (λ s. unless (evaluated (numbers v unknowns) at t (reading x) s) (λ s.
      unless (evaluated (numbers v unknowns) at x (reading y) s) (λ s. unless (evaluated (numbers v unknowns) at y (reading t) s) (λ s.
      unless (deallocated at t s) after))))

  -- where the code behind them stands, and how many instructions have begun by then
  abbrev behind : ℕ → ℕ
  behind site = suc (suc (suc (suc (suc site + 0) + 0) + 0) + 0) + 0

  abbrev five_more : ℕ → ℕ
  five_more n = suc (suc (suc (suc (suc n))))

  steps_go : (site : ℕ) (x y t : Target) (rest : CodeTree) (s : Carried ℕ) (ks : List ℕ) (n : ℕ) (next : Next)
      → goes v unknowns at site (code_before (exchange x y t) rest) (progress s ks n) next
      ≡ by_steps x y t (λ s. goes v unknowns at (behind site) rest (progress s ks (five_more n)) next) s
  steps_go site x y t rest s ks n next =
      let c5 = instr_and (deallocate t) rest in
      let c4 = instr_and (assign y (reading t)) c5 in
      let c3 = instr_and (assign x (reading y)) c4 in
      let c2 = instr_and (assign t (reading x)) c3 in
      let n1 = suc site + 0 in
      let n2 = suc n1 + 0 in
      let n3 = suc n2 + 0 in
      let n4 = suc n3 + 0 in
      let n5 = suc n4 + 0 in
      step_goes v unknowns at site n1 (allocated at t s) c2 (progress s ks (suc n)) next
      ∙ unless_same (allocated at t s) _ _ (λ s. step_goes v unknowns at n1 n2 (evaluated (numbers v unknowns) at t (reading x) s) c3 (progress s ks (suc (suc n))) next
      ∙ unless_same (evaluated (numbers v unknowns) at t (reading x) s) _ _ (λ s. step_goes v unknowns at n2 n3 (evaluated (numbers v unknowns) at x (reading y) s) c4 (progress s ks (suc (suc (suc n)))) next
      ∙ unless_same (evaluated (numbers v unknowns) at x (reading y) s) _ _ (λ s. step_goes v unknowns at n3 n4 (evaluated (numbers v unknowns) at y (reading t) s) c5 (progress s ks (suc (suc (suc (suc n))))) next
      ∙ unless_same (evaluated (numbers v unknowns) at y (reading t) s) _ _ (λ s. step_goes v unknowns at n4 n5 (deallocated at t s) rest (progress s ks (five_more n)) next))))

  -- the metadata that the local is
  abbrev pub key_of : List ℕ → Key
  key_of name = (owner_of Local at.node, name_id at.net name)

  -- the metadata that an exchange leaves
  exchanged_scopes : (ax ay : Addr) (name : List ℕ) (w : ℕ) (s next : Carried ℕ)
      → exchanged at (Header ax w) (Header ay w) (local name w) s ≡ Ok next → next.scopes ≡ s.scopes
  exchanged_scopes ax ay name w s next is =
      by_room (pushed key_cmp (key_of name) w s.scopes) (layout.value_of (base_tag at.net ax) ax.offset w s.layers) (layout.value_of (base_tag at.net ay) ay.offset w s.layers)
      (λ b. layout.assigned (base_tag at.net ax) ax.offset w b s.layers) (λ a l. layout.assigned (base_tag at.net ay) ay.offset w a l) s next is

  -- two header cells of one width, by way of a local of that width; what comes behind may rest on the metadata's being as before
  pub swap_goes : (site : ℕ) (ax ay : Addr) (name : List ℕ) (w : ℕ) (rest : CodeTree) (s : Carried ℕ) (ks : List ℕ) (n : ℕ) (next : Next) (after : Carried ℕ → Outcome)
      → LocalLaw (key_of name) w s.scopes
      → ((later : ℕ) (q : Progress ℕ) → q.state.scopes ≡ s.scopes → goes v unknowns at later rest q next ≡ after q.state)
      → goes v unknowns at site (code_before (exchange (Header ax w) (Header ay w) (local name w)) rest) (progress s ks n) next
      ≡ unless (exchanged at (Header ax w) (Header ay w) (local name w) s) after
  swap_goes site ax ay name w rest s ks n next after law h =
      steps_go site (Header ax w) (Header ay w) (local name w) rest s ks n next
      ∙ by_push (layout.value_of (base_tag at.net ax) ax.offset w) (layout.value_of (base_tag at.net ay) ay.offset w)
      (λ b l. layout.assigned (base_tag at.net ax) ax.offset w b l) (λ a l. layout.assigned (base_tag at.net ay) ay.offset w a l)
      (λ a m. with_top key_cmp NoMeta (key_of name) w a m) (top_value key_cmp NoMeta (key_of name) w) (popped key_cmp NoMeta (key_of name) w)
      (λ state. goes v unknowns at (behind site) rest (progress state ks (five_more n)) next) s (pushed key_cmp (key_of name) w s.scopes) law
      ∙ unless_agree (exchanged at (Header ax w) (Header ay w) (local name w) s) (λ state. goes v unknowns at (behind site) rest (progress state ks (five_more n)) next) after
      (λ state is. h (behind site) (progress state ks (five_more n)) (exchanged_scopes ax ay name w s state is))

  -- ---- EtherMirror

  pub ether_mirror_goes : (site : ℕ) (s : Carried ℕ) (ks : List ℕ) (n : ℕ) (next : Next) → LocalLaw (key_of (codes "m48")) 48 s.scopes
      → goes v unknowns at site ether_mirror_code (progress s ks n) next ≡ ether_mirror_row at s
  ether_mirror_goes site s ks n next law =
      swap_goes site (past (codes "L2") 0) (past (codes "L2") 48) (codes "m48") 48 (forward_code 0) s ks n next (sent (0 ∷ [])) law (λ later q same. refl)

  -- ---- IPMirror

  ports_go : (held_site other_site later : ℕ) (ported : Bool) (s : Carried ℕ) (ks : List ℕ) (n : ℕ) (next : Next) → LocalLaw (key_of (codes "m16")) 16 s.scopes
      → (if ported then goes v unknowns at held_site (swap_code Ports no_code) (progress s ks n) (λ p. then_run (run_code v unknowns at later (forward_code 0) p) next)
      else goes v unknowns at other_site no_code (progress s ks n) (λ p. then_run (run_code v unknowns at later (forward_code 0) p) next)) ≡ ports_row at ported s
  ports_go held_site other_site later true s ks n next law =
      swap_goes held_site (past (codes "L4") 0) (past (codes "L4") 16) (codes "m16") 16 no_code s ks n (λ p. then_run (run_code v unknowns at later (forward_code 0) p) next)
      (sent (0 ∷ [])) law (λ site q same. refl)
  ports_go held_site other_site later false s ks n next law = refl

  pub ip_mirror_goes : (site : ℕ) (s : Carried ℕ) (ks : List ℕ) (n : ℕ) (next : Next) → LocalLaw (key_of (codes "m32")) 32 s.scopes → LocalLaw (key_of (codes "m16")) 16 s.scopes
      → goes v unknowns at site ip_mirror_code (progress s ks n) next ≡ ip_mirror_row at s
  ip_mirror_goes site s ks n next law32 law16 =
      swap_goes site (past (codes "L3") 96) (past (codes "L3") 128) (codes "m32") 32 (instr_and mirrored_ports (forward_code 0)) s ks n next
      (λ s. unless (has_ports at s) (λ ported. ports_row at ported s)) law32
      (λ later q same.
      if_goes v unknowns at later (suc later + inner_size mirrored_ports) (suc later) (suc later + code_size (swap_code Ports no_code))
      (truth_in (numbers v unknowns) at is_ported q.state) (swap_code Ports no_code) no_code (forward_code 0) (begun v unknowns at q) next
      ∙ unless_same (truth_in (numbers v unknowns) at is_ported q.state) _ _
      (λ ported. ports_go (suc later) (suc later + code_size (swap_code Ports no_code)) (suc later + inner_size mirrored_ports) ported q.state q.choices (suc q.begun) next
      (subst (LocalLaw (key_of (codes "m16")) 16) (sym same) law16))
      ∙ ap (λ t. unless t (λ ported. ports_row at ported q.state)) (ported_is v unknowns at q.state))
