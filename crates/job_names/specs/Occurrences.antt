-- The names and the patterns that occur in the items of a job.
use Rattle.std.specs.Prelude.{ℕ, ◌+◌, if◌then◌else◌, List, [], ◌∷◌, ◌++◌, map, fold, flat_map, option_to_list, bytes_eq}
use Rattle.std.specs.List.{list_any}
use Rattle.sefl_syntax.specs.declared.reference.Addr.{Addr}
use Rattle.sefl_syntax.specs.declared.reference.Target.{Target}
use Rattle.sefl_syntax.specs.declared.reference.Target.TheVariants.{Header, Meta, Bound}
use Rattle.sefl_syntax.specs.Trees.{InstrTree, allocate, deallocate, assign, assign_any, create_tag, set_tag, destroy_tag, constrain, fail, branch, each, forward, fork, block, no_op, JobTree}
use Rattle.job_items.specs.Atoms.{Atom}
use Rattle.job_items.specs.Items.{Item, node_item, port_item, instr_item, link_item, injection_item, tag_item, field_item, test_item, ask_item, job_items}
use Rattle.job_items.specs.Rules.{item_atoms, names_in, with_names}

-- the tag that an address counts from, where it names one
abbrev pub addr_tags : Addr → List (List ℕ)
addr_tags addr = option_to_list addr.tag

-- the tag that a reference names
abbrev pub target_tags : Target → List (List ℕ)
target_tags (Header addr width) = addr_tags addr
target_tags (Meta scope name width) = []
target_tags (Bound var width) = []

-- the tags that the references of these atoms name
abbrev pub tags_in : List Atom → List (List ℕ)
tags_in atoms = flat_map (λ a. flat_map target_tags a.reads) atoms

-- the tags that an instruction makes, sets or destroys, and those of their addresses
abbrev pub instr_tags : InstrTree → List (List ℕ)
instr_tags (create_tag name addr) = name ∷ addr_tags addr
instr_tags (set_tag name addr) = name ∷ addr_tags addr
instr_tags (destroy_tag name) = name ∷ []
instr_tags (allocate target) = []
instr_tags (deallocate target) = []
instr_tags (assign target value) = []
instr_tags (assign_any target) = []
instr_tags (constrain test) = []
instr_tags (fail text) = []
instr_tags (branch test first other) = []
instr_tags (each var pattern body) = []
instr_tags (forward port) = []
instr_tags (fork ports) = []
instr_tags (block body) = []
instr_tags no_op = []

-- the tags that an item names outside its atoms
abbrev pub own_tags : Item → List (List ℕ)
own_tags (instr_item place i) = instr_tags i
own_tags (tag_item tags line) = line.0 ∷ addr_tags line.1
own_tags (node_item nodes d) = []
own_tags (port_item n ins outs p) = []
own_tags (link_item used from to l) = []
own_tags (injection_item n port) = []
own_tags (field_item tags before f) = []
own_tags (test_item tags fields test) = []
own_tags (ask_item ask) = []

-- the metadata names that an item names
abbrev pub item_metas : Item → List (List ℕ)
item_metas item = names_in (item_atoms item)

-- the tag names that an item names
abbrev pub item_tags : Item → List (List ℕ)
item_tags item = own_tags item ++ tags_in (item_atoms item)

-- the pattern of a For
abbrev pub instr_patterns : InstrTree → List (List ℕ)
instr_patterns (each var pattern body) = pattern ∷ []
instr_patterns (allocate target) = []
instr_patterns (deallocate target) = []
instr_patterns (assign target value) = []
instr_patterns (assign_any target) = []
instr_patterns (create_tag name addr) = []
instr_patterns (set_tag name addr) = []
instr_patterns (destroy_tag name) = []
instr_patterns (constrain test) = []
instr_patterns (fail text) = []
instr_patterns (branch test first other) = []
instr_patterns (forward port) = []
instr_patterns (fork ports) = []
instr_patterns (block body) = []
instr_patterns no_op = []

abbrev pub item_patterns : Item → List (List ℕ)
item_patterns (instr_item place i) = instr_patterns i
item_patterns (node_item nodes d) = []
item_patterns (port_item n ins outs p) = []
item_patterns (link_item used from to l) = []
item_patterns (injection_item n port) = []
item_patterns (tag_item tags line) = []
item_patterns (field_item tags before f) = []
item_patterns (test_item tags fields test) = []
item_patterns (ask_item ask) = []

-- these texts, each once, ascending by bytes
abbrev pub as_set : List (List ℕ) → List (List ℕ)
as_set texts = with_names [] texts

-- the metadata names that occur anywhere in the job
abbrev pub meta_names : JobTree → List (List ℕ)
meta_names j = as_set (flat_map item_metas (job_items j))

-- the tag names that occur anywhere in the job
abbrev pub tag_names : JobTree → List (List ℕ)
tag_names j = as_set (flat_map item_tags (job_items j))

-- the patterns of Fors, each with its For's site, where the first of these items has this site
abbrev pub for_sites : ℕ → List Item → List (List ℕ × ℕ)
for_sites site [] = []
for_sites site (item ∷ items) = map (λ pattern. (pattern, site)) (item_patterns item) ++ for_sites (site + 1) items

-- patterns with sites, and one more, unless the pattern is there
abbrev pub with_first : List (List ℕ × ℕ) → List ℕ × ℕ → List (List ℕ × ℕ)
with_first found e = if list_any (λ own. bytes_eq e.0 own.0) found then found else (found ++ e ∷ [])

-- the patterns of the job, each once, with the site of the first For that has it, in the order of these sites
abbrev pub patterns_of : JobTree → List (List ℕ × ℕ)
patterns_of j = fold with_first [] (for_sites 0 (job_items j))
