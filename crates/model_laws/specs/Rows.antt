-- What the elements of each class do with a packet. A step that has a fault ends the packet's walk with it.
use Rattle.std.specs.Prelude.{ℕ, suc, ◌%◌, ◌^◌, nat_le, List, [], ◌∷◌, Bool, if◌then◌else◌, Result, codes}
use Rattle.sn_width.specs.Width.{wrapped_difference}
use Rattle.sn_width.specs.declared.faults.LayoutFault.{LayoutFault}
use Rattle.sefl_syntax.specs.declared.reference.Target.{Target}
use Rattle.table_nodes.specs.TableNodes.{ports_from}
use Rattle.click_elements.specs.declared.class.Primitive.{Primitive}
use Rattle.table_nodes.specs.declared.field.Field.{Field}
use Rattle.table_nodes.specs.declared.field.Field.TheVariants.{FrameDestination, FrameSource, FrameType, TimeToLive}
use Rattle.click_elements.specs.declared.mirror.Swap.{Swap}
use Rattle.click_elements.specs.declared.mirror.Swap.TheVariants.{FrameAddresses, Addresses, Ports}
use Rattle.click_elements.specs.Classes.{RuleSeen}
use Rattle.table_nodes.specs.Fields.{cell}
use Rattle.click_elements.specs.Codes.{between, first_field, frame_start, second_field}
use Rattle.cell_stacks.specs.Outcome.{and_then}
use Rattle.job_items.specs.AtomRules.{width_of}
use Rattle.sefl_meaning.specs.Carried.{Carried, Scene}
use Rattle.sefl_meaning.specs.Steps.{allocated, deallocated, assigned, tag_set, tag_destroyed}
use Rattle.model_laws.specs.Passing.{has_ports, passes, read}
use Rattle.model_laws.specs.Outcomes.{Outcome, sent, refused, unless}

abbrev pub dropped : Outcome
dropped = refused (codes "drop")

abbrev pub tee_row : ℕ → Carried ℕ → Outcome
tee_row outputs s = sent (ports_from 0 outputs) s

module _ (at : Scene) where
  -- ---- DecIPTTL

  abbrev pub expired_row : Bool → Carried ℕ → Outcome
  expired_row connected s = if connected then sent (1 ∷ []) s else dropped

  abbrev pub lowered_row : ℕ → Carried ℕ → Outcome
  lowered_row n s = unless (assigned at (cell TimeToLive) (wrapped_difference 8 n 1) s) (sent (0 ∷ []))

  -- a time to live of at most 1 is over
  abbrev pub dec_ip_ttl_row : Bool → Carried ℕ → Outcome
  dec_ip_ttl_row connected s =
      unless (read at (cell TimeToLive) s) (λ n. if nat_le n 1 then expired_row connected s else lowered_row n s)

  -- ---- EtherMirror and IPMirror

  -- the values of two cells exchanged, where there is room for the local cell
  abbrev pub exchanged : Target → Target → Target → Carried ℕ → Result (Carried ℕ) LayoutFault
  exchanged x y t s =
      and_then (allocated at t s) (λ room. and_then (read at x s) (λ a. and_then (read at y s) (λ b.
      and_then (assigned at x b s) (λ next. assigned at y a next))))

  abbrev pub swapped : Swap → Carried ℕ → Result (Carried ℕ) LayoutFault
  swapped swap s = exchanged (cell (first_field swap)) (cell (second_field swap)) (between swap) s

  abbrev pub ether_mirror_row : Carried ℕ → Outcome
  ether_mirror_row s = unless (swapped FrameAddresses s) (sent (0 ∷ []))

  abbrev pub ports_row : Bool → Carried ℕ → Outcome
  ports_row ported s = if ported then unless (swapped Ports s) (sent (0 ∷ [])) else sent (0 ∷ []) s

  -- the ports where the protocol has some
  abbrev pub ip_mirror_row : Carried ℕ → Outcome
  ip_mirror_row s = unless (swapped Addresses s) (λ s. unless (has_ports at s) (λ ported. ports_row ported s))

  -- ---- Strip and EtherEncap

  abbrev pub strip_row : Carried ℕ → Outcome
  strip_row s =
      unless (deallocated at (cell FrameDestination) s) (λ s. unless (deallocated at (cell FrameSource) s) (λ s.
      unless (deallocated at (cell FrameType) s) (λ s. unless (tag_destroyed at (codes "L2") s) (sent (0 ∷ [])))))

  -- a new cell of a field, with a value
  abbrev pub with_cell : Field → ℕ → Carried ℕ → (Carried ℕ → Outcome) → Outcome
  with_cell f n s next = unless (allocated at (cell f) s) (λ s. unless (assigned at (cell f) (n % 2 ^ width_of (cell f)) s) next)

  abbrev pub ether_encap_row : ℕ → ℕ → ℕ → Carried ℕ → Outcome
  ether_encap_row kind source destination s =
      unless (tag_set at (codes "L2") frame_start s) (λ s. with_cell FrameDestination destination s (λ s.
      with_cell FrameSource source s (λ s. with_cell FrameType kind s (sent (0 ∷ [])))))

  -- ---- IPFilter and IPClassifier

  -- the first rule that the packet passes decides
  abbrev pub ip_filter_row : List RuleSeen → Carried ℕ → Outcome
  ip_filter_row [] s = dropped
  ip_filter_row (r ∷ rules) s =
      unless (passes at r.pattern s) (λ passed. if passed then (if r.allows then sent (0 ∷ []) s else dropped) else ip_filter_row rules s)

  -- the output of the first pattern that the packet passes; the patterns are those of the outputs from this one on
  abbrev pub ip_classifier_row : ℕ → List (List Primitive) → Carried ℕ → Outcome
  ip_classifier_row port [] s = dropped
  ip_classifier_row port (p ∷ ps) s =
      unless (passes at p s) (λ passed. if passed then sent (port ∷ []) s else ip_classifier_row (suc port) ps s)
