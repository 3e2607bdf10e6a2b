-- The injection of a job that breaks no rule gives what a packet carries, and its tests have truths.
use Rattle.std.proofs.Common.{◌≡◌, ◌∙◌, sym, ap, subst, ◌≤◌, false, [], Some, Result, Ok, Err, map}
use Rattle.std.specs.List.{AllByRecursion}
use Rattle.std.proofs.lemmas.Option.{none-some}
use Rattle.sn_width.specs.declared.ids.NodeId.{NodeId}
use Rattle.cell_stacks.specs.Cells as cells
use Rattle.cell_stacks.specs.Outcome.{and_then}
use Rattle.cell_stacks.specs.Stacks.{stack_at}
use Rattle.sefl_syntax.specs.Trees.{InjectionTree}
use Rattle.job_items.specs.Items.{Item, field_items, tag_items, test_item, value_items}
use Rattle.job_items.specs.Rules.{do_meet, item_atoms}
use Rattle.job_items.specs.Tags.{Tags, tags_after}
use Rattle.metadata_scopes.specs.Scopes.{key_cmp}
use Rattle.net_check.specs.Keeping.{HasNamesOf, HasWidth, KeepsRules, KeepsWidth, line_items}
use Rattle.sefl_meaning.specs.Network.{Network, name_id}
use Rattle.sefl_meaning.specs.Carried.{Carried, nothing, owner_of, scene_at}
use Rattle.sefl_meaning.specs.Injected.{injected, with_fields}
use Rattle.sefl_meaning.specs.Laws.{StackLaws}
use Rattle.sefl_meaning.specs.Terms.{truth_in}
use Rattle.sefl_meaning.specs.Values.{Values}
use Rattle.sefl_meaning.proofs.AllLemmas.{all_first, all_later}
use Rattle.sefl_meaning.proofs.FieldLemmas.{CellsGo, HaveCells, fields_go}
use Rattle.sefl_meaning.proofs.TagLemmas.{HaveAddresses, tags_go}
use Rattle.sefl_meaning.proofs.TestLemmas.{tests_go}

no_cells : {V : Type 0} (net : Network) (node : NodeId) (known : Tags) (s : Carried V) → HaveAddresses net known s.layers.tags → s.layers.heads ≡ [] → s.scopes ≡ []
    → HaveCells net node known [] s
no_cells net node known s tags heads scopes = record {
  tags = tags;
  wide = subst (AllByRecursion (λ p. 1 ≤ cells.width_of p.1)) (sym heads) tt;
  heads = λ a addr w at alone. subst (AllByRecursion (λ p. do_meet (Some a) w (Some p.0) (cells.width_of p.1) ≡ false)) (sym heads) tt;
  metas = λ scope name w among alone. ap (stack_at key_cmp (owner_of scope node, name_id net name)) scopes;
  reads = λ target w found. absurd (none-some w found);
}

abbrev next_of : {A E : Type 0} → A → Result A E → A
next_of default (Ok x) = x
next_of default (Err e) = default

module _ {V F : Type 0} (laws : StackLaws V) (o : Values V F) (net : Network) (node : NodeId) (i : InjectionTree) where
  abbrev known : Tags
  known = tags_after [] i.tags

  pub injection_goes : AllByRecursion KeepsRules (line_items i) → AllByRecursion (HasNamesOf net.names) (line_items i) → AllByRecursion HasWidth i.fields
      → CellsGo net node known i.fields (injected o (scene_at net node) i)
  injection_goes keeps names widths =
      let lines = tag_items [] i.tags in
      let values = value_items known i in
      let fields = field_items known [] i.fields in
      let tests = map (test_item known i.fields) i.tests in
      let tags = tags_go laws.tags o net node [] i.tags nothing (λ name a found. absurd (none-some a found))
      (all_first KeepsRules lines values keeps) (all_first (HasNamesOf net.names) lines values names) in
      let cells = fields_go laws o net node known 0 [] i.fields tags.next (no_cells net node known tags.next tags.have tags.heads tags.scopes)
      (all_first KeepsRules fields tests (all_later KeepsRules lines values keeps))
      (all_first (HasNamesOf net.names) fields tests (all_later (HasNamesOf net.names) lines values names)) widths in
      record {
        next = cells.next;
        goes = ap (λ r. and_then r (with_fields o (scene_at net node) 0 i.fields)) tags.goes ∙ cells.goes;
        have = cells.have;
      }

  pub injection_tests_go : ((item : Item) → KeepsRules item → AllByRecursion KeepsWidth (item_atoms item)) → AllByRecursion KeepsRules (line_items i)
      → AllByRecursion (HasNamesOf net.names) (line_items i) → AllByRecursion HasWidth i.fields
      → (s : Carried V) → injected o (scene_at net node) i ≡ Ok s
      → AllByRecursion (λ test. (truth : F) × (truth_in o (scene_at net node) test s ≡ Ok truth)) i.tests
  injection_tests_go atoms keeps names widths s goes =
      let cells = injection_goes keeps names widths in
      let same : cells.next ≡ s = ap (next_of cells.next) (sym cells.goes ∙ goes) in
      tests_go net node known i.fields s (subst (HaveCells net node known i.fields) same cells.have) o atoms i.tests
      (all_later KeepsRules (field_items known [] i.fields) (map (test_item known i.fields) i.tests)
      (all_later KeepsRules (tag_items [] i.tags) (value_items known i) keeps))
