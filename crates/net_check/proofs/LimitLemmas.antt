-- A job whose items keep the rules, and pass no limit together, breaks no rule.
use Rattle.std.proofs.Common.{◌≡◌, ◌∙◌, refl, ap, ℕ, ◌+◌, ◌≤◌, nat_lt, Bool, false, if◌then◌else◌, List, [], ◌∷◌, length, fold, Option, None, Some, arith}
use Rattle.std.specs.Cmp.Lexicographic.{slice_cmp}
use Rattle.std.specs.List.{AllByRecursion}
use Rattle.std.specs.Ordering.{match_ordering, nat_cmp}
use Rattle.std.specs.declared.cmp.Ordering.{Ordering}
use Rattle.std.specs.declared.cmp.Ordering.TheVariants.{Less, Equal, Greater}
use Rattle.std.proofs.lemmas.Bool.{le-ltb}
use Rattle.sefl_syntax.specs.Trees.{InstrTree, allocate, deallocate, assign, assign_any, create_tag, set_tag, destroy_tag, constrain, fail, branch, each, forward, fork, block, no_op, JobTree}
use Rattle.job_items.specs.declared.rule.Breach.{Breach}
use Rattle.job_items.specs.Atoms.{Atom}
use Rattle.job_items.specs.AtomRules.{ranges_in}
use Rattle.job_items.specs.Items.{Item, node_item, port_item, instr_item, link_item, injection_item, tag_item, field_item, test_item, ask_item, job_items}
use Rattle.job_items.specs.Rules.{Counts, breach, breach_to_limits, copies_in, counted, early_breach, early_rows, first_breach, item_atoms, late_breach, late_rows, limit_breach, limit_rows, names_in, no_counts, or_else, outcome, ports_in, refusal, refusal_of, stopped_or, with_atoms, with_instr, with_kind, with_names, with_text}
use Rattle.net_check.specs.Keeping.{KeepsLimits, KeepsRules}

-- ---- counts only grow

record Grows (c d : Counts) : Type 0 where
  nodes : c.nodes ≤ d.nodes
  names : length c.names ≤ length d.names
  patterns : length c.patterns ≤ length d.patterns
  instructions : c.instructions ≤ d.instructions
  ranges : c.ranges ≤ d.ranges
  fields : c.fields ≤ d.fields
  tests : c.tests ≤ d.tests
  asks : c.asks ≤ d.asks

same : (n : ℕ) → n ≤ n
same n = omega arith

more : (n : ℕ) → n ≤ n + 1
more n = omega arith

one_text : (texts : List (List ℕ)) (text : List ℕ) → length texts ≤ length (with_text texts text)
one_text [] text = omega arith
one_text (t ∷ texts) text = by (slice_cmp nat_cmp text t) (one_text texts text)
  where
    by : (r : Ordering) → length texts ≤ length (with_text texts text)
        → length (t ∷ texts) ≤ length (match_ordering r (text ∷ t ∷ texts) (t ∷ texts) (t ∷ with_text texts text))
    by Less h = omega arith
    by Equal h = omega arith
    by Greater h = omega (arith, h)

more_texts : (texts others : List (List ℕ)) → length texts ≤ length (with_names texts others)
more_texts texts [] = omega arith
more_texts texts (text ∷ others) =
    let one = one_text texts text in
    let rest = more_texts (with_text texts text) others in
    omega (arith, one, rest)

it_grows : (c : Counts) → Grows c c
it_grows c = record {
  nodes = same c.nodes;
  names = same (length c.names);
  patterns = same (length c.patterns);
  instructions = same c.instructions;
  ranges = same c.ranges;
  fields = same c.fields;
  tests = same c.tests;
  asks = same c.asks;
}

one_instr : (c : Counts) → Grows c (record c { instructions = c.instructions + 1 })
one_instr c = record {
  nodes = same c.nodes;
  names = same (length c.names);
  patterns = same (length c.patterns);
  instructions = more c.instructions;
  ranges = same c.ranges;
  fields = same c.fields;
  tests = same c.tests;
  asks = same c.asks;
}

one_for : (c : Counts) (pattern : List ℕ) → Grows c (record c { instructions = c.instructions + 1; patterns = with_text c.patterns pattern })
one_for c pattern = record {
  nodes = same c.nodes;
  names = same (length c.names);
  patterns = one_text c.patterns pattern;
  instructions = more c.instructions;
  ranges = same c.ranges;
  fields = same c.fields;
  tests = same c.tests;
  asks = same c.asks;
}

instr_grows : (c : Counts) (i : InstrTree) → Grows c (with_instr c i)
instr_grows c (each var pattern body) = one_for c pattern
instr_grows c (allocate target) = one_instr c
instr_grows c (deallocate target) = one_instr c
instr_grows c (assign target value) = one_instr c
instr_grows c (assign_any target) = one_instr c
instr_grows c (create_tag name addr) = one_instr c
instr_grows c (set_tag name addr) = one_instr c
instr_grows c (destroy_tag name) = one_instr c
instr_grows c (constrain test) = one_instr c
instr_grows c (fail text) = one_instr c
instr_grows c (branch test first other) = one_instr c
instr_grows c (forward port) = one_instr c
instr_grows c (fork ports) = one_instr c
instr_grows c (block body) = one_instr c
instr_grows c no_op = one_instr c

one_node : (c : Counts) → Grows c (record c { nodes = c.nodes + 1 })
one_node c = record {
  nodes = more c.nodes;
  names = same (length c.names);
  patterns = same (length c.patterns);
  instructions = same c.instructions;
  ranges = same c.ranges;
  fields = same c.fields;
  tests = same c.tests;
  asks = same c.asks;
}

one_field : (c : Counts) → Grows c (record c { fields = c.fields + 1 })
one_field c = record {
  nodes = same c.nodes;
  names = same (length c.names);
  patterns = same (length c.patterns);
  instructions = same c.instructions;
  ranges = same c.ranges;
  fields = more c.fields;
  tests = same c.tests;
  asks = same c.asks;
}

one_test : (c : Counts) → Grows c (record c { tests = c.tests + 1 })
one_test c = record {
  nodes = same c.nodes;
  names = same (length c.names);
  patterns = same (length c.patterns);
  instructions = same c.instructions;
  ranges = same c.ranges;
  fields = same c.fields;
  tests = more c.tests;
  asks = same c.asks;
}

one_ask : (c : Counts) → Grows c (record c { asks = c.asks + 1 })
one_ask c = record {
  nodes = same c.nodes;
  names = same (length c.names);
  patterns = same (length c.patterns);
  instructions = same c.instructions;
  ranges = same c.ranges;
  fields = same c.fields;
  tests = same c.tests;
  asks = more c.asks;
}

kind_grows : (c : Counts) (item : Item) → Grows c (with_kind c item)
kind_grows c (node_item nodes d) = one_node c
kind_grows c (instr_item place i) = instr_grows c i
kind_grows c (field_item tags before f) = one_field c
kind_grows c (test_item tags fields test) = one_test c
kind_grows c (ask_item ask) = one_ask c
kind_grows c (port_item n ins outs p) = it_grows c
kind_grows c (link_item used from to l) = it_grows c
kind_grows c (injection_item n port) = it_grows c
kind_grows c (tag_item tags line) = it_grows c

further : (n k : ℕ) → n ≤ n + k
further n k = omega arith

atoms_grow : (c : Counts) (atoms : List Atom) → Grows c (with_atoms c atoms)
atoms_grow c atoms = record {
  nodes = same c.nodes;
  names = more_texts c.names (names_in atoms);
  patterns = same (length c.patterns);
  instructions = same c.instructions;
  ranges = further c.ranges (ranges_in atoms);
  fields = same c.fields;
  tests = same c.tests;
  asks = same c.asks;
}

up : (a b n : ℕ) → a ≤ b → b ≤ n → a ≤ n
up a b n h k = omega (arith, h, k)

before_growing : (c d : Counts) → Grows c d → KeepsLimits d → KeepsLimits c
before_growing c d g h = record {
  nodes = up c.nodes d.nodes 10000 g.nodes h.nodes;
  names = up (length c.names) (length d.names) 1024 g.names h.names;
  patterns = up (length c.patterns) (length d.patterns) 256 g.patterns h.patterns;
  instructions = up c.instructions d.instructions 1000000 g.instructions h.instructions;
  ranges = up c.ranges d.ranges 4000000 g.ranges h.ranges;
  fields = up c.fields d.fields 256 g.fields h.fields;
  tests = up c.tests d.tests 256 g.tests h.tests;
  asks = up c.asks d.asks 256 g.asks h.asks;
}

before_item : (c : Counts) (item : Item) → KeepsLimits (counted c item) → KeepsLimits c
before_item c item h =
    before_growing c (with_kind c item) (kind_grows c item)
    (before_growing (with_kind c item) (counted c item) (atoms_grow (with_kind c item) (item_atoms item)) h)

before_items : (c : Counts) (items : List Item) → KeepsLimits (fold counted c items) → KeepsLimits c
before_items c [] h = h
before_items c (item ∷ items) h = before_item c item (before_items (counted c item) items h)

-- ---- no breach

none_holds : (rows : List (Bool × Breach)) → AllByRecursion (λ row. row.0 ≡ false) rows → first_breach rows ≡ None
none_holds [] h = refl
none_holds (row ∷ rows) h = ap (λ b. if b then Some row.1 else first_breach rows) h.0 ∙ none_holds rows h.1

not_past : (a b : ℕ) → b ≤ a → nat_lt a b ≡ false
not_past a b h = le-ltb a b h

early_is_none : (item : Item) → KeepsRules item → early_breach item ≡ None
early_is_none item k =
    none_holds (early_rows item) (k.node_once, (k.named, (k.in_range, (k.one_link, (k.one_code, (k.one_width, (k.fits, (k.bound, (k.stays_outward, (k.forks, (k.in_order, (k.apart, tt))))))))))))

limit_is_none : (c : Counts) (item : Item) → KeepsRules item → KeepsLimits c → limit_breach c item ≡ None
limit_is_none c item k h =
    none_holds (limit_rows c (ports_in item) (copies_in item)) (
      not_past 10000 c.nodes h.nodes,
      (
        not_past 1024 (ports_in item) k.ports,
        (
          not_past 1024 (length c.names) h.names,
          (
            not_past 256 (length c.patterns) h.patterns,
            (
              not_past 1000000 c.instructions h.instructions,
              (
                not_past 4000000 c.ranges h.ranges,
                (
                  not_past 1024 (copies_in item) k.copies,
                  (not_past 256 c.fields h.fields, (not_past 256 c.tests h.tests, (not_past 256 c.asks h.asks, tt))),
                ),
              ),
            ),
          ),
        ),
      ),
    )

late_is_none : (item : Item) → KeepsRules item → late_breach item ≡ None
late_is_none item k = none_holds (late_rows item) (k.two_fors, (k.address, tt))

both_none : (a b : Option Breach) → a ≡ None → b ≡ None → or_else a b ≡ None
both_none a b h k = ap (λ x. or_else x b) h ∙ k

no_breach : (c : Counts) (item : Item) → KeepsRules item → KeepsLimits c → breach c item ≡ None
no_breach c item k h =
    both_none (breach_to_limits c item) (late_breach item)
    (both_none (early_breach item) (limit_breach c item) (early_is_none item k) (limit_is_none c item k h)) (late_is_none item k)

none_refused : (totals c : Counts) (site : ℕ) (items : List Item) → AllByRecursion KeepsRules items → KeepsLimits (fold counted c items)
    → refusal_of totals (outcome site c items) ≡ None
none_refused totals c site [] keep whole = refl
none_refused totals c site (item ∷ items) keep whole =
    ap (λ b. refusal_of totals (stopped_or site b (outcome (site + 1) (counted c item) items)))
    (no_breach (counted c item) item keep.0 (before_items (counted c item) items whole))
    ∙ none_refused totals (counted c item) (site + 1) items keep.1 whole

pub keeping_is_sound : (j : JobTree) → AllByRecursion KeepsRules (job_items j) → KeepsLimits (fold counted no_counts (job_items j)) → refusal j ≡ None
keeping_is_sound j keep whole = none_refused (fold counted no_counts (job_items j)) no_counts 0 (job_items j) keep whole
