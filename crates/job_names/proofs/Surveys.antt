-- What the walk notes is what the definitions say of the items of a job.
use Rattle.std.proofs.Common.{◌≡◌, ℕ, ◌+◌, List, [], ◌∷◌, ◌++◌, map, fold, refl, sym, ◌∙◌, ap}
use Rattle.std.proofs.lemmas.List.{append-nil}
use Rattle.std.proofs.lemmas.Grind.{fold-append, flat_map-append}
use Rattle.std.specs.List.{flat_map}
use Rattle.std.specs.Prelude.{option_to_list}
use Rattle.sefl_syntax.specs.declared.reference.Addr.{Addr}
use Rattle.sefl_syntax.specs.declared.reference.Target.{Target}
use Rattle.sefl_syntax.specs.declared.reference.Target.TheVariants.{Header, Meta, Bound}
use Rattle.sefl_syntax.specs.declared.job.RawField.{RawField}
use Rattle.sefl_syntax.specs.declared.net.Link.{Link}
use Rattle.sefl_syntax.specs.Trees.{ExprTree, constant, reading, sum, SummandTrees, no_summands, summand, CondTree, always, compare, member, all_of, any_of, negation, CondTrees, no_conds, cond_and, InstrTree, allocate, deallocate, assign, assign_any, create_tag, set_tag, destroy_tag, constrain, fail, branch, each, forward, fork, block, no_op, CodeTree, no_code, instr_and, PortTree, DeclTree, InjectionTree, AskTree, reach, invariant, visible, JobTree}
use Rattle.job_items.specs.declared.ports.Ports.{Ports}
use Rattle.job_items.specs.Atoms.{Atom, expr_reads, summand_reads, comparison, membership, assignment, lone, cond_atoms, conds_atoms}
use Rattle.job_items.specs.AtomRules.{meta_name}
use Rattle.job_items.specs.Items.{Place, Item, port_item, instr_item, tag_item, field_item, test_item, ask_item, within, instr_items, code_items, with_input, with_output, one_port_items, port_items, decl_items, node_items, link_items, net_items, tag_items, field_items, value_items, injection_items, job_items}
use Rattle.job_items.specs.Nodes.{Nodes, Outputs, with_node, with_link, nodes_after, ports_of, codes_of}
use Rattle.job_items.specs.Rules.{names_in, with_text, with_names}
use Rattle.job_items.specs.Tags.{Tags, with_tag, tags_after}
use Rattle.job_names.specs.Occurrences.{addr_tags, target_tags, tags_in, item_metas, item_tags, item_patterns, meta_names, tag_names, for_sites, with_first, patterns_of}
use Rattle.job_names.specs.Noted.{Noted, nothing_noted, noted_target, noted_expr, noted_summands, noted_cond, noted_conds, noted_instr, noted_line, noted_field, noted_injection, noted_ask}
use Rattle.job_names.specs.Surveyed.{Surveyed, nothing_surveyed, begun, surveyed_instr, surveyed_code, surveyed_port, surveyed_decl, surveyed_nodes, noted_job}

-- with these metadata names and these tag names
abbrev pub noted_names : Noted → List (List ℕ) → List (List ℕ) → Noted
noted_names n metas tags = record { metas = with_names n.metas metas; tags = with_names n.tags tags }

pub noted_names-append : (n : Noted) (ms ts more_ms more_ts : List (List ℕ))
    → noted_names (noted_names n ms ts) more_ms more_ts ≡ noted_names n (ms ++ more_ms) (ts ++ more_ts)
noted_names-append n ms ts more_ms more_ts = λ i. record {
  metas = sym (fold-append with_text n.metas ms more_ms) i;
  tags = sym (fold-append with_text n.tags ts more_ts) i;
}

-- references

abbrev pub noted_reads : Noted → List Target → Noted
noted_reads n targets = noted_names n (flat_map meta_name targets) (flat_map target_tags targets)

pub noted_reads-append : (n : Noted) (xs ys : List Target) → noted_reads (noted_reads n xs) ys ≡ noted_reads n (xs ++ ys)
noted_reads-append n xs ys =
    noted_names-append n (flat_map meta_name xs) (flat_map target_tags xs) (flat_map meta_name ys) (flat_map target_tags ys)
    ∙ (λ i. noted_names n (sym (flat_map-append meta_name xs ys) i) (sym (flat_map-append target_tags xs ys) i))

pub noted_target-reads : (n : Noted) (t : Target) → noted_target n t ≡ noted_reads n (t ∷ [])
noted_target-reads n (Header addr width) = ap (noted_names n []) (sym (append-nil (addr_tags addr)))
noted_target-reads n (Meta scope name width) = refl
noted_target-reads n (Bound var width) = refl

mutual
  pub noted_expr-reads : (n : Noted) (e : ExprTree) → noted_expr n e ≡ noted_reads n (expr_reads e)
  noted_expr-reads n (constant k) = refl
  noted_expr-reads n (reading target) = noted_target-reads n target
  noted_expr-reads n (sum first rest) =
      ap (λ m. noted_summands m rest) (noted_expr-reads n first) ∙ noted_summands-reads (noted_reads n (expr_reads first)) rest
      ∙ noted_reads-append n (expr_reads first) (summand_reads rest)

  pub noted_summands-reads : (n : Noted) (s : SummandTrees) → noted_summands n s ≡ noted_reads n (summand_reads s)
  noted_summands-reads n no_summands = refl
  noted_summands-reads n (summand sign e rest) =
      ap (λ m. noted_summands m rest) (noted_expr-reads n e) ∙ noted_summands-reads (noted_reads n (expr_reads e)) rest
      ∙ noted_reads-append n (expr_reads e) (summand_reads rest)

-- atoms

abbrev pub noted_atoms : Noted → List Atom → Noted
noted_atoms n atoms = noted_names n (names_in atoms) (tags_in atoms)

pub noted_atoms-append : (n : Noted) (xs ys : List Atom) → noted_atoms (noted_atoms n xs) ys ≡ noted_atoms n (xs ++ ys)
noted_atoms-append n xs ys =
    noted_names-append n (names_in xs) (tags_in xs) (names_in ys) (tags_in ys)
    ∙ (λ i. noted_names n (sym (flat_map-append (λ a. flat_map meta_name a.reads) xs ys) i)
    (sym (flat_map-append (λ a. flat_map target_tags a.reads) xs ys) i))

pub one_atom : (n : Noted) (a : Atom) → noted_reads n a.reads ≡ noted_atoms n (a ∷ [])
one_atom n a =
    λ i. noted_names n (sym (append-nil (flat_map meta_name a.reads)) i) (sym (append-nil (flat_map target_tags a.reads)) i)

mutual
  pub noted_cond-atoms : (n : Noted) (c : CondTree) → noted_cond n c ≡ noted_atoms n (cond_atoms c)
  noted_cond-atoms n always = refl
  noted_cond-atoms n (compare rel left right) =
      ap (λ m. noted_expr m right) (noted_expr-reads n left) ∙ noted_expr-reads (noted_reads n (expr_reads left)) right
      ∙ noted_reads-append n (expr_reads left) (expr_reads right) ∙ one_atom n (comparison left right)
  noted_cond-atoms n (member value ranges) = noted_expr-reads n value ∙ one_atom n (membership value ranges)
  noted_cond-atoms n (all_of conds) = noted_conds-atoms n conds
  noted_cond-atoms n (any_of conds) = noted_conds-atoms n conds
  noted_cond-atoms n (negation c) = noted_cond-atoms n c

  pub noted_conds-atoms : (n : Noted) (cs : CondTrees) → noted_conds n cs ≡ noted_atoms n (conds_atoms cs)
  noted_conds-atoms n no_conds = refl
  noted_conds-atoms n (cond_and c cs) =
      ap (λ m. noted_conds m cs) (noted_cond-atoms n c) ∙ noted_conds-atoms (noted_atoms n (cond_atoms c)) cs
      ∙ noted_atoms-append n (cond_atoms c) (conds_atoms cs)

-- items

abbrev pub noted_item : Noted → Item → Noted
noted_item n item = noted_names n (item_metas item) (item_tags item)

pub noted_instr-item : (n : Noted) (place : Place) (i : InstrTree) → noted_instr n i ≡ noted_item n (instr_item place i)
noted_instr-item n place (allocate target) = noted_target-reads n target ∙ one_atom n (lone target [])
noted_instr-item n place (deallocate target) = noted_target-reads n target ∙ one_atom n (lone target [])
noted_instr-item n place (assign target value) =
    ap (λ m. noted_expr m value) (noted_target-reads n target) ∙ noted_expr-reads (noted_reads n (target ∷ [])) value
    ∙ noted_reads-append n (target ∷ []) (expr_reads value) ∙ one_atom n (assignment target value)
noted_instr-item n place (assign_any target) = noted_target-reads n target ∙ one_atom n (lone target [])
noted_instr-item n place (create_tag name addr) = ap (noted_names n []) (sym (append-nil (name ∷ addr_tags addr)))
noted_instr-item n place (set_tag name addr) = ap (noted_names n []) (sym (append-nil (name ∷ addr_tags addr)))
noted_instr-item n place (destroy_tag name) = refl
noted_instr-item n place (constrain test) = noted_cond-atoms n test
noted_instr-item n place (fail text) = refl
noted_instr-item n place (branch test first other) = noted_cond-atoms n test
noted_instr-item n place (each var pattern body) = refl
noted_instr-item n place (forward port) = refl
noted_instr-item n place (fork ports) = refl
noted_instr-item n place (block body) = refl
noted_instr-item n place no_op = refl

-- the walk with one more item
abbrev pub pass_item : Surveyed → Item → Surveyed
pass_item s item = record {
  noted = noted_item s.noted item;
  site = s.site + 1;
  patterns = fold with_first s.patterns (map (λ pattern. (pattern, s.site)) (item_patterns item));
}

-- an instruction without a pattern
abbrev passed_with : Surveyed → Noted → Surveyed
passed_with s n = record { noted = n; site = s.site + 1; patterns = s.patterns }

on_noted : (s : Surveyed) {n m : Noted} → n ≡ m → passed_with s n ≡ passed_with s m
on_noted s e = ap (passed_with s) e

pub begun-item : (s : Surveyed) (place : Place) (i : InstrTree) → begun s i ≡ pass_item s (instr_item place i)
begun-item s place (allocate target) = on_noted s (noted_instr-item s.noted place (allocate target))
begun-item s place (deallocate target) = on_noted s (noted_instr-item s.noted place (deallocate target))
begun-item s place (assign target value) = on_noted s (noted_instr-item s.noted place (assign target value))
begun-item s place (assign_any target) = on_noted s (noted_instr-item s.noted place (assign_any target))
begun-item s place (create_tag name addr) = on_noted s (noted_instr-item s.noted place (create_tag name addr))
begun-item s place (set_tag name addr) = on_noted s (noted_instr-item s.noted place (set_tag name addr))
begun-item s place (destroy_tag name) = refl
begun-item s place (constrain test) = on_noted s (noted_instr-item s.noted place (constrain test))
begun-item s place (fail text) = refl
begun-item s place (branch test first other) = on_noted s (noted_instr-item s.noted place (branch test first other))
begun-item s place (each var pattern body) = refl
begun-item s place (forward port) = refl
begun-item s place (fork ports) = refl
begun-item s place (block body) = refl
begun-item s place no_op = refl

mutual
  pub surveyed_instr-items : (s : Surveyed) (place : Place) (i : InstrTree) → surveyed_instr s i ≡ fold pass_item s (instr_items place i)
  surveyed_instr-items s place (branch test first other) =
      let head = instr_item place (branch test first other) in
      ap (λ t. surveyed_code (surveyed_code t first) other) (begun-item s place (branch test first other))
      ∙ ap (λ t. surveyed_code t other) (surveyed_code-items (pass_item s head) place first)
      ∙ surveyed_code-items (fold pass_item (pass_item s head) (code_items place first)) place other
      ∙ sym (fold-append pass_item (pass_item s head) (code_items place first) (code_items place other))
  surveyed_instr-items s place (each var pattern body) =
      ap (λ t. surveyed_code t body) (begun-item s place (each var pattern body))
      ∙ surveyed_code-items (pass_item s (instr_item place (each var pattern body))) (within place var) body
  surveyed_instr-items s place (block body) =
      ap (λ t. surveyed_code t body) (begun-item s place (block body))
      ∙ surveyed_code-items (pass_item s (instr_item place (block body))) place body
  surveyed_instr-items s place (allocate target) = begun-item s place (allocate target)
  surveyed_instr-items s place (deallocate target) = begun-item s place (deallocate target)
  surveyed_instr-items s place (assign target value) = begun-item s place (assign target value)
  surveyed_instr-items s place (assign_any target) = begun-item s place (assign_any target)
  surveyed_instr-items s place (create_tag name addr) = begun-item s place (create_tag name addr)
  surveyed_instr-items s place (set_tag name addr) = begun-item s place (set_tag name addr)
  surveyed_instr-items s place (destroy_tag name) = begun-item s place (destroy_tag name)
  surveyed_instr-items s place (constrain test) = begun-item s place (constrain test)
  surveyed_instr-items s place (fail text) = begun-item s place (fail text)
  surveyed_instr-items s place (forward port) = begun-item s place (forward port)
  surveyed_instr-items s place (fork ports) = begun-item s place (fork ports)
  surveyed_instr-items s place no_op = begun-item s place no_op

  pub surveyed_code-items : (s : Surveyed) (place : Place) (c : CodeTree) → surveyed_code s c ≡ fold pass_item s (code_items place c)
  surveyed_code-items s place no_code = refl
  surveyed_code-items s place (instr_and i is) =
      ap (λ t. surveyed_code t is) (surveyed_instr-items s place i)
      ∙ surveyed_code-items (fold pass_item s (instr_items place i)) place is
      ∙ sym (fold-append pass_item s (instr_items place i) (code_items place is))

pub surveyed_ports-items : (s : Surveyed) (n : Ports) (ins outs : List ℕ) (ps : List PortTree)
    → fold surveyed_port s ps ≡ fold pass_item s (port_items n ins outs ps)
surveyed_ports-items s n ins outs [] = refl
surveyed_ports-items s n ins outs (p ∷ ps) =
    let rest = port_items n (with_input p.side p.port ins) (with_output p.side p.port outs) ps in
    surveyed_ports-items (surveyed_port s p) n (with_input p.side p.port ins) (with_output p.side p.port outs) ps
    ∙ ap (λ t. fold pass_item t rest)
    (surveyed_code-items (pass_item s (port_item n ins outs p)) (record { outs = n.outs; side = p.side; vars = [] }) p.code)
    ∙ sym (fold-append pass_item s (one_port_items n ins outs p) rest)

pub surveyed_decls-items : (s : Surveyed) (nodes : Nodes) (ds : List DeclTree) → fold surveyed_decl s ds ≡ fold pass_item s (node_items nodes ds)
surveyed_decls-items s nodes [] = refl
surveyed_decls-items s nodes (d ∷ ds) =
    let rest = node_items (with_node nodes d) ds in
    surveyed_decls-items (surveyed_decl s d) (with_node nodes d) ds
    ∙ ap (λ t. fold pass_item t rest) (surveyed_ports-items (record { noted = s.noted; site = s.site + 1; patterns = s.patterns }) (ports_of d.body) [] [] (codes_of d.body))
    ∙ sym (fold-append pass_item s (decl_items nodes d) rest)

-- the names of items
abbrev pub noted_items : Noted → List Item → Noted
noted_items n items = noted_names n (flat_map item_metas items) (flat_map item_tags items)

pub noted_items-append : (n : Noted) (xs ys : List Item) → noted_items (noted_items n xs) ys ≡ noted_items n (xs ++ ys)
noted_items-append n xs ys =
    noted_names-append n (flat_map item_metas xs) (flat_map item_tags xs) (flat_map item_metas ys) (flat_map item_tags ys)
    ∙ (λ i. noted_names n (sym (flat_map-append item_metas xs ys) i) (sym (flat_map-append item_tags xs ys) i))

-- one item, and then the others
pub noted_items-cons : (n m : Noted) (item : Item) (items : List Item) → m ≡ noted_item n item → noted_items m items ≡ noted_items n (item ∷ items)
noted_items-cons n m item items e =
    ap (λ k. noted_items k items) e
    ∙ noted_names-append n (item_metas item) (item_tags item) (flat_map item_metas items) (flat_map item_tags items)

pub passed-noted : (s : Surveyed) (items : List Item) → (fold pass_item s items).noted ≡ noted_items s.noted items
passed-noted s [] = refl
passed-noted s (item ∷ items) =
    passed-noted (pass_item s item) items ∙ noted_items-cons s.noted (noted_item s.noted item) item items refl

pub passed-patterns : (s : Surveyed) (items : List Item) → (fold pass_item s items).patterns ≡ fold with_first s.patterns (for_sites s.site items)
passed-patterns s [] = refl
passed-patterns s (item ∷ items) =
    passed-patterns (pass_item s item) items
    ∙ sym (fold-append with_first s.patterns (map (λ pattern. (pattern, s.site)) (item_patterns item)) (for_sites (s.site + 1) items))

-- lines that are no nodes

noted_links : (n : Noted) (nodes : Nodes) (used : Outputs) (ls : List Link) → noted_items n (link_items nodes used ls) ≡ n
noted_links n nodes used [] = refl
noted_links n nodes used (l ∷ ls) = noted_links n nodes (with_link used l) ls

noted_lines-items : (n : Noted) (tags : Tags) (lines : List (List ℕ × Addr)) → fold noted_line n lines ≡ noted_items n (tag_items tags lines)
noted_lines-items n tags [] = refl
noted_lines-items n tags (line ∷ lines) =
    noted_lines-items (noted_line n line) (with_tag tags line) lines
    ∙ noted_items-cons n (noted_line n line) (tag_item tags line) (tag_items (with_tag tags line) lines)
    (ap (noted_names n []) (sym (append-nil (line.0 ∷ addr_tags line.1))))

noted_fields-items : (n : Noted) (tags : Tags) (before fs : List RawField) → fold noted_field n fs ≡ noted_items n (field_items tags before fs)
noted_fields-items n tags before [] = refl
noted_fields-items n tags before (f ∷ fs) =
    noted_fields-items (noted_field n f) tags (before ++ f ∷ []) fs
    ∙ noted_items-cons n (noted_field n f) (field_item tags before f) (field_items tags (before ++ f ∷ []) fs)
    (noted_target-reads n f.target ∙ one_atom n (lone f.target (option_to_list f.value)))

noted_tests-items : (n : Noted) (tags : Tags) (fields : List RawField) (cs : List CondTree) → fold noted_cond n cs ≡ noted_items n (map (test_item tags fields) cs)
noted_tests-items n tags fields [] = refl
noted_tests-items n tags fields (c ∷ cs) =
    noted_tests-items (noted_cond n c) tags fields cs
    ∙ noted_items-cons n (noted_cond n c) (test_item tags fields c) (map (test_item tags fields) cs) (noted_cond-atoms n c)

noted_ask-item : (n : Noted) (a : AskTree) → noted_ask n a ≡ noted_item n (ask_item a)
noted_ask-item n (reach place test) = noted_cond-atoms n test
noted_ask-item n (invariant target place) = noted_target-reads n target ∙ one_atom n (lone target [])
noted_ask-item n (visible target place) = noted_target-reads n target ∙ one_atom n (lone target [])

noted_asks-items : (n : Noted) (asks : List AskTree) → fold noted_ask n asks ≡ noted_items n (map ask_item asks)
noted_asks-items n [] = refl
noted_asks-items n (a ∷ others) =
    noted_asks-items (noted_ask n a) others
    ∙ noted_items-cons n (noted_ask n a) (ask_item a) (map ask_item others) (noted_ask-item n a)

noted_injection-items : (n : Noted) (nodes : Nodes) (i : InjectionTree) → noted_injection n i ≡ noted_items n (injection_items nodes i)
noted_injection-items n nodes i =
    let tags = tags_after [] i.tags in
    let lines = tag_items [] i.tags in
    let fields = field_items tags [] i.fields in
    ap (λ m. fold noted_cond (fold noted_field m i.fields) i.tests) (noted_lines-items n [] i.tags)
    ∙ ap (λ m. fold noted_cond m i.tests) (noted_fields-items (noted_items n lines) tags [] i.fields)
    ∙ noted_tests-items (noted_items (noted_items n lines) fields) tags i.fields i.tests
    ∙ noted_items-append (noted_items n lines) fields (map (test_item tags i.fields) i.tests)
    ∙ noted_items-append n lines (value_items tags i)

-- the names of a job
pub noted_job-items : (j : JobTree) → noted_job j ≡ noted_items nothing_noted (job_items j)
noted_job-items j =
    let nodes = node_items [] j.net.nodes in
    let after = nodes_after [] j.net.nodes in
    let links = link_items after [] j.net.links in
    let named : (surveyed_nodes j).noted ≡ noted_items nothing_noted nodes
    = ap (λ s. s.noted) (surveyed_decls-items nothing_surveyed [] j.net.nodes) ∙ passed-noted nothing_surveyed nodes in
    let net : (surveyed_nodes j).noted ≡ noted_items nothing_noted (net_items j.net)
    = named ∙ sym (noted_links (noted_items nothing_noted nodes) after [] j.net.links) ∙ noted_items-append nothing_noted nodes links in
    let packet = injection_items after j.injection in
    ap (λ n. fold noted_ask (noted_injection n j.injection) j.asks) net
    ∙ ap (λ n. fold noted_ask n j.asks) (noted_injection-items (noted_items nothing_noted (net_items j.net)) after j.injection)
    ∙ noted_asks-items (noted_items (noted_items nothing_noted (net_items j.net)) packet) j.asks
    ∙ noted_items-append (noted_items nothing_noted (net_items j.net)) packet (map ask_item j.asks)
    ∙ noted_items-append nothing_noted (net_items j.net) (packet ++ map ask_item j.asks)

pub noted_job-metas : (j : JobTree) → (noted_job j).metas ≡ meta_names j
noted_job-metas j = ap (λ n. n.metas) (noted_job-items j)

pub noted_job-tags : (j : JobTree) → (noted_job j).tags ≡ tag_names j
noted_job-tags j = ap (λ n. n.tags) (noted_job-items j)

-- where items have no For

for_sites-end : (xs ys : List Item) → ((site : ℕ) → for_sites site ys ≡ []) → (site : ℕ) → for_sites site (xs ++ ys) ≡ for_sites site xs
for_sites-end [] ys none site = none site
for_sites-end (x ∷ xs) ys none site =
    ap (λ rest. map (λ pattern. (pattern, site)) (item_patterns x) ++ rest) (for_sites-end xs ys none (site + 1))

both_none : (xs ys : List Item) → ((site : ℕ) → for_sites site xs ≡ []) → ((site : ℕ) → for_sites site ys ≡ []) → (site : ℕ) → for_sites site (xs ++ ys) ≡ []
both_none xs ys first second site = for_sites-end xs ys second site ∙ first site

links_none : (nodes : Nodes) (used : Outputs) (ls : List Link) (site : ℕ) → for_sites site (link_items nodes used ls) ≡ []
links_none nodes used [] site = refl
links_none nodes used (l ∷ ls) site = links_none nodes (with_link used l) ls (site + 1)

lines_none : (tags : Tags) (lines : List (List ℕ × Addr)) (site : ℕ) → for_sites site (tag_items tags lines) ≡ []
lines_none tags [] site = refl
lines_none tags (line ∷ lines) site = lines_none (with_tag tags line) lines (site + 1)

fields_none : (tags : Tags) (before fs : List RawField) (site : ℕ) → for_sites site (field_items tags before fs) ≡ []
fields_none tags before [] site = refl
fields_none tags before (f ∷ fs) site = fields_none tags (before ++ f ∷ []) fs (site + 1)

tests_none : (tags : Tags) (fields : List RawField) (cs : List CondTree) (site : ℕ) → for_sites site (map (test_item tags fields) cs) ≡ []
tests_none tags fields [] site = refl
tests_none tags fields (c ∷ cs) site = tests_none tags fields cs (site + 1)

asks_none : (asks : List AskTree) (site : ℕ) → for_sites site (map ask_item asks) ≡ []
asks_none [] site = refl
asks_none (a ∷ others) site = asks_none others (site + 1)

injection_none : (nodes : Nodes) (i : InjectionTree) (site : ℕ) → for_sites site (injection_items nodes i) ≡ []
injection_none nodes i site =
    let tags = tags_after [] i.tags in
    both_none (tag_items [] i.tags) (value_items tags i) (lines_none [] i.tags)
    (both_none (field_items tags [] i.fields) (map (test_item tags i.fields) i.tests) (fields_none tags [] i.fields) (tests_none tags i.fields i.tests))
    (site + 1)

-- the patterns of a job
pub surveyed_nodes-patterns : (j : JobTree) → (surveyed_nodes j).patterns ≡ patterns_of j
surveyed_nodes-patterns j =
    let nodes = node_items [] j.net.nodes in
    let after = nodes_after [] j.net.nodes in
    let packet = injection_items after j.injection in
    ap (λ s. s.patterns) (surveyed_decls-items nothing_surveyed [] j.net.nodes) ∙ passed-patterns nothing_surveyed nodes
    ∙ ap (fold with_first [])
    (sym (for_sites-end (net_items j.net) (packet ++ map ask_item j.asks)
    (both_none packet (map ask_item j.asks) (injection_none after j.injection) (asks_none j.asks)) 0
    ∙ for_sites-end nodes (link_items after [] j.net.links) (links_none after [] j.net.links) 0))
