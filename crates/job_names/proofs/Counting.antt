-- The names that acceptance counts are the names of the items.
use Rattle.std.proofs.Common.{◌≡◌, List, [], ◌∷◌, fold, refl, sym, ◌∙◌, ap}
use Rattle.std.proofs.lemmas.Grind.{fold-append}
use Rattle.std.specs.List.{flat_map}
use Rattle.sefl_syntax.specs.Trees.{InstrTree, allocate, deallocate, assign, assign_any, create_tag, set_tag, destroy_tag, constrain, fail, branch, each, forward, fork, block, no_op, JobTree}
use Rattle.job_items.specs.Items.{Item, node_item, port_item, instr_item, link_item, injection_item, tag_item, field_item, test_item, ask_item, job_items}
use Rattle.job_items.specs.Rules.{Counts, no_counts, counted, with_instr, with_kind, with_text, with_names}
use Rattle.job_names.specs.Occurrences.{item_metas, meta_names}

instr_names : (c : Counts) (i : InstrTree) → (with_instr c i).names ≡ c.names
instr_names c (allocate target) = refl
instr_names c (deallocate target) = refl
instr_names c (assign target value) = refl
instr_names c (assign_any target) = refl
instr_names c (create_tag name addr) = refl
instr_names c (set_tag name addr) = refl
instr_names c (destroy_tag name) = refl
instr_names c (constrain test) = refl
instr_names c (fail text) = refl
instr_names c (branch test first other) = refl
instr_names c (each var pattern body) = refl
instr_names c (forward port) = refl
instr_names c (fork ports) = refl
instr_names c (block body) = refl
instr_names c no_op = refl

kind_names : (c : Counts) (item : Item) → (with_kind c item).names ≡ c.names
kind_names c (node_item nodes d) = refl
kind_names c (port_item n ins outs p) = refl
kind_names c (instr_item place i) = instr_names c i
kind_names c (link_item used from to l) = refl
kind_names c (injection_item n port) = refl
kind_names c (tag_item tags line) = refl
kind_names c (field_item tags before f) = refl
kind_names c (test_item tags fields test) = refl
kind_names c (ask_item ask) = refl

counted_names : (c : Counts) (items : List Item) → (fold counted c items).names ≡ with_names c.names (flat_map item_metas items)
counted_names c [] = refl
counted_names c (item ∷ items) =
    counted_names (counted c item) items
    ∙ ap (λ names. with_names (with_names names (item_metas item)) (flat_map item_metas items)) (kind_names c item)
    ∙ sym (fold-append with_text c.names (item_metas item) (flat_map item_metas items))

pub meta_names-counted : (j : JobTree) → meta_names j ≡ (fold counted no_counts (job_items j)).names
meta_names-counted j = sym (counted_names no_counts (job_items j))
