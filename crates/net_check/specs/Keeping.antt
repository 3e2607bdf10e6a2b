-- What holds of the items of a job that breaks no rule, and of all of them together.
use Rattle.std.specs.Prelude.{◌≡◌, ◌≤◌, ℕ, true, false, List, [], ◌++◌, length, bytes_eq}
use Rattle.std.specs.List.{AllByRecursion, list_any}
use Rattle.sn_width.specs.Width.{FitsWidth}
use Rattle.sefl_syntax.specs.declared.job.RawField.{RawField}
use Rattle.sefl_syntax.specs.Trees.{InjectionTree}
use Rattle.job_items.specs.Atoms.{Atom}
use Rattle.job_items.specs.AtomRules.{atom_width, width_of}
use Rattle.job_items.specs.Tags.{tags_after}
use Rattle.job_items.specs.Items.{Item, tag_items, value_items}
use Rattle.job_items.specs.Rules as rules
use Rattle.job_items.specs.Rules.{Counts, ports_in, copies_in}
use Rattle.job_names.specs.Names.{Names}
use Rattle.job_names.specs.Occurrences.{item_metas, item_tags}
use Rattle.net_check.specs.Network.{Entry}
use Rattle.net_check.specs.Sound.{IsAcceptedEntry}

-- the item breaks none of the rules that look at it and at what it looks back at
pub record KeepsRules (item : Item) : Type 0 where
  pub node_once : rules.is_twice_node item ≡ false
  pub named : rules.names_no_node item ≡ false
  pub in_range : rules.is_out_of_range item ≡ false
  pub one_link : rules.is_second_link item ≡ false
  pub one_code : rules.is_second_code item ≡ false
  pub one_width : rules.mixes_widths item ≡ false
  pub fits : rules.has_too_wide item ≡ false
  pub bound : rules.is_unbound item ≡ false
  pub stays_outward : rules.leaves_outward item ≡ false
  pub forks : rules.is_empty_fork item ≡ false
  pub in_order : rules.has_reversed item ≡ false
  pub apart : rules.overlaps item ≡ false
  pub ports : ports_in item ≤ 1024
  pub copies : copies_in item ≤ 1024
  pub two_fors : rules.is_third_for item ≡ false
  pub address : rules.has_bad_address item ≡ false

-- none of the limits on whole jobs is passed
pub record KeepsLimits (c : Counts) : Type 0 where
  pub nodes : c.nodes ≤ 10000
  pub names : length c.names ≤ 1024
  pub patterns : length c.patterns ≤ 256
  pub instructions : c.instructions ≤ 1000000
  pub ranges : c.ranges ≤ 4000000
  pub fields : c.fields ≤ 256
  pub tests : c.tests ≤ 256
  pub asks : c.asks ≤ 256

-- all references of an atom have its width, all its constants and ends of ranges fit it, and no range is reversed
pub record KeepsWidth (a : Atom) : Type 0 where
  pub reads : AllByRecursion (λ target. width_of target ≡ atom_width a) a.reads
  pub constants : AllByRecursion (FitsWidth (atom_width a)) a.constants
  pub ranges : AllByRecursion (λ range. (range.0 ≤ range.1) × FitsWidth (atom_width a) range.1) a.ranges

-- the lines of an injection: its tags, fields and tests
abbrev pub line_items : InjectionTree → List Item
line_items i = tag_items [] i.tags ++ value_items (tags_after [] i.tags) i

-- the width of the field is one of 1 to 128 bits
abbrev pub HasWidth : RawField → Type 0
HasWidth f = (1 ≤ width_of f.target) × (width_of f.target ≤ 128)

-- what is kept of an accepted injection
pub record IsKeptEntry (i : Entry) : Type 0 where
  pub accepted : IsAcceptedEntry i
  pub widths : AllByRecursion HasWidth i.own.fields

abbrev pub IsAmong : List (List ℕ) → List ℕ → Type 0
IsAmong names name = list_any (bytes_eq name) names ≡ true

-- the metadata names and the tag names of the item are among these
pub record HasNamesOf (names : Names) (item : Item) : Type 0 where
  pub metas : AllByRecursion (IsAmong names.metas) (item_metas item)
  pub tags : AllByRecursion (IsAmong names.tags) (item_tags item)
