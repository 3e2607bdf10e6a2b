-- What items add up to, along the job.
use Rattle.std.proofs.Common.{◌≡◌, ℕ, ◌+◌, add-zero, List, [], ◌∷◌, ◌++◌, map, fold, refl, ◌∙◌, ap}
use Rattle.std.proofs.lemmas.List.Sums.{fold-append}
use Rattle.sefl_syntax.specs.declared.reference.Addr.{Addr}
use Rattle.sefl_syntax.specs.declared.net.Link.{Link}
use Rattle.sefl_syntax.specs.declared.job.RawField.{RawField}
use Rattle.sefl_syntax.specs.Trees.{CondTree, InstrTree, allocate, deallocate, assign, assign_any, create_tag, set_tag, destroy_tag, constrain, fail, branch, each, forward, fork, block, no_op, CodeTree, no_code, instr_and, PortTree, DeclTree, AskTree, JobTree}
use Rattle.job_items.specs.declared.ports.Ports.{Ports}
use Rattle.job_items.specs.Nodes.{Nodes, Outputs, with_node, nodes_after, with_link, ports_of, codes_of}
use Rattle.job_items.specs.Tags.{Tags, with_tag, tags_after}
use Rattle.job_items.specs.Items.{Item, node_item, test_item, ask_item, Place, within, inner_items, code_items, with_input, with_output, one_port_items, port_items, node_items, link_items, net_items, tag_items, field_items, value_items, injection_items, job_items}
use Rattle.job_items.specs.Rules.{Counts, with_atoms, counted}
use Rattle.job_items.specs.Totals.{with_own, with_inner, with_code, with_ports, with_decl, with_nodes, with_field, with_fields, with_test, with_tests, with_ask, with_asks, with_job}

-- some items, and then others
joined : (c d e : Counts) (xs ys : List Item) → fold counted c xs ≡ d → fold counted d ys ≡ e → fold counted c (xs ++ ys) ≡ e
joined c d e xs ys first rest = fold-append counted c xs ys ∙ ap (λ b. fold counted b ys) first ∙ rest

-- what evaluates nothing adds nothing
nothing_more : (c : Counts) → with_atoms c [] ≡ c
nothing_more c = ap (λ n. record c { ranges = n }) (add-zero c.ranges)

mutual
  inner_counted : (place : Place) (c : Counts) (i : InstrTree) → fold counted c (inner_items place i) ≡ with_inner c i
  inner_counted place c (branch test first other) =
      joined c (with_code c first) (with_code (with_code c first) other) (code_items place first) (code_items place other)
      (code_counted place c first) (code_counted place (with_code c first) other)
  inner_counted place c (each var pattern body) = code_counted (within place var) c body
  inner_counted place c (block body) = code_counted place c body
  inner_counted place c (allocate target) = refl
  inner_counted place c (deallocate target) = refl
  inner_counted place c (assign target value) = refl
  inner_counted place c (assign_any target) = refl
  inner_counted place c (create_tag name addr) = refl
  inner_counted place c (set_tag name addr) = refl
  inner_counted place c (destroy_tag name) = refl
  inner_counted place c (constrain test) = refl
  inner_counted place c (fail text) = refl
  inner_counted place c (forward port) = refl
  inner_counted place c (fork ports) = refl
  inner_counted place c no_op = refl

  code_counted : (place : Place) (c : Counts) (code : CodeTree) → fold counted c (code_items place code) ≡ with_code c code
  code_counted place c no_code = refl
  code_counted place c (instr_and i is) =
      let own = with_own c i in
      joined own (with_inner own i) (with_code (with_inner own i) is) (inner_items place i) (code_items place is)
      (inner_counted place own i) (code_counted place (with_inner own i) is)

ports_counted : (ports : Ports) (ins outs : List ℕ) (c : Counts) (ps : List PortTree)
    → fold counted c (port_items ports ins outs ps) ≡ with_ports c ps
ports_counted ports ins outs c [] = refl
ports_counted ports ins outs c (p ∷ ps) =
    let place : Place = record { outs = ports.outs; side = p.side; vars = [] } in
    let ins' = with_input p.side p.port ins in
    let outs' = with_output p.side p.port outs in
    joined c (with_code c p.code) (with_ports (with_code c p.code) ps) (one_port_items ports ins outs p) (port_items ports ins' outs' ps)
    (code_counted place (with_atoms c []) p.code ∙ ap (λ d. with_code d p.code) (nothing_more c))
    (ports_counted ports ins' outs' (with_code c p.code) ps)

nodes_counted : (nodes : Nodes) (c : Counts) (ds : List DeclTree) → fold counted c (node_items nodes ds) ≡ with_nodes c ds
nodes_counted nodes c [] = refl
nodes_counted nodes c (d ∷ ds) =
    let node : Counts = record c { nodes = c.nodes + 1 } in
    let codes = codes_of d.body in
    joined c (with_decl c d) (with_nodes (with_decl c d) ds) (node_item nodes d ∷ port_items (ports_of d.body) [] [] codes) (node_items (with_node nodes d) ds)
    (ports_counted (ports_of d.body) [] [] (with_atoms node []) codes ∙ ap (λ b. with_ports b codes) (nothing_more node))
    (nodes_counted (with_node nodes d) (with_decl c d) ds)

links_counted : (nodes : Nodes) (used : Outputs) (c : Counts) (ls : List Link) → fold counted c (link_items nodes used ls) ≡ c
links_counted nodes used c [] = refl
links_counted nodes used c (l ∷ ls) =
    links_counted nodes (with_link used l) (with_atoms c []) ls ∙ nothing_more c

tags_counted : (tags : Tags) (c : Counts) (lines : List (List ℕ × Addr)) → fold counted c (tag_items tags lines) ≡ c
tags_counted tags c [] = refl
tags_counted tags c (line ∷ lines) = tags_counted (with_tag tags line) (with_atoms c []) lines ∙ nothing_more c

fields_counted : (tags : Tags) (before : List RawField) (c : Counts) (fs : List RawField)
    → fold counted c (field_items tags before fs) ≡ with_fields c fs
fields_counted tags before c [] = refl
fields_counted tags before c (f ∷ fs) = fields_counted tags (before ++ f ∷ []) (with_field c f) fs

tests_counted : (tags : Tags) (fields : List RawField) (c : Counts) (tests : List CondTree)
    → fold counted c (map (test_item tags fields) tests) ≡ with_tests c tests
tests_counted tags fields c [] = refl
tests_counted tags fields c (test ∷ tests) = tests_counted tags fields (with_test c test) tests

asks_counted : (c : Counts) (asks : List AskTree) → fold counted c (map ask_item asks) ≡ with_asks c asks
asks_counted c [] = refl
asks_counted c (ask ∷ asks) = asks_counted (with_ask c ask) asks

net_counted : (c : Counts) (j : JobTree) → fold counted c (net_items j.net) ≡ with_nodes c j.net.nodes
net_counted c j =
    joined c (with_nodes c j.net.nodes) (with_nodes c j.net.nodes) (node_items [] j.net.nodes) (link_items (nodes_after [] j.net.nodes) [] j.net.links)
    (nodes_counted [] c j.net.nodes) (links_counted (nodes_after [] j.net.nodes) [] (with_nodes c j.net.nodes) j.net.links)

injection_counted : (nodes : Nodes) (c : Counts) (j : JobTree)
    → fold counted c (injection_items nodes j.injection) ≡ with_tests (with_fields c j.injection.fields) j.injection.tests
injection_counted nodes c j =
    let i = j.injection in
    let tags = tags_after [] i.tags in
    joined (with_atoms c []) c (with_tests (with_fields c i.fields) i.tests) (tag_items [] i.tags) (value_items tags i)
    (tags_counted [] (with_atoms c []) i.tags ∙ nothing_more c)
    (joined c (with_fields c i.fields) (with_tests (with_fields c i.fields) i.tests) (field_items tags [] i.fields) (map (test_item tags i.fields) i.tests)
    (fields_counted tags [] c i.fields) (tests_counted tags i.fields (with_fields c i.fields) i.tests))

-- what the items of a job have is what the job has
pub job_counted : (c : Counts) (j : JobTree) → fold counted c (job_items j) ≡ with_job c j
job_counted c j =
    let nodes = nodes_after [] j.net.nodes in
    let after_net = with_nodes c j.net.nodes in
    let after_packet = with_tests (with_fields after_net j.injection.fields) j.injection.tests in
    joined c after_net (with_asks after_packet j.asks) (net_items j.net) (injection_items nodes j.injection ++ map ask_item j.asks)
    (net_counted c j)
    (joined after_net after_packet (with_asks after_packet j.asks) (injection_items nodes j.injection) (map ask_item j.asks)
    (injection_counted nodes after_net j) (asks_counted after_packet j.asks))
