-- What is known of the items of a job that breaks no rule.
use Rattle.std.proofs.Common.{◌≡◌, sym, ap, refl, subst, ◌∙◌, ℕ, zero, suc, ◌+◌, ◌≤◌, Bool, true, false, if◌then◌else◌, List, [], ◌∷◌, ◌++◌, Option, None, Some, length, fold, map, arith}
use Rattle.std.specs.Prelude.{is_none, bytes_eq, cond, option_map, slice_get, unwrap_or}
use Rattle.std.specs.List.{AllByRecursion, position_from}
use Rattle.std.specs.Map.{lookup}
use Rattle.std.proofs.lemmas.Option.{none-some, slice_get-map}
use Rattle.std.proofs.lemmas.Bool.{true≢false, ltb-false}
use Rattle.indexmap.specs.IndexMap.{insert_entry}
use Rattle.sefl_syntax.specs.Trees.{AskTree, DeclTree, JobTree}
use Rattle.job_items.specs.declared.rule.Breach.{Breach}
use Rattle.job_items.specs.declared.ports.Ports.{Ports}
use Rattle.job_items.specs.Nodes.{Nodes, node_named, with_node, nodes_after, ports_of}
use Rattle.job_items.specs.Items.{Item, net_items, injection_items, job_items, ask_item}
use Rattle.job_items.specs.Rules.{Counts, stopped_or, outcome, counted, no_counts, breach, breach_to_limits, or_else, first_breach, early_breach, limit_breach, late_breach, early_rows, limit_rows, late_rows, ports_in, copies_in, refusal_of, refusal}
use Rattle.std.proofs.lemmas.Iterator.Adapters.{position_from-zero}
use Rattle.net_check.specs.Places.{has_name, node_position}
use Rattle.net_check.specs.Keeping.{KeepsRules, KeepsLimits, line_items}

first_none : (a b : Option Breach) → or_else a b ≡ None → a ≡ None
first_none None b h = refl
first_none (Some x) b h = h

then_none : (a b : Option Breach) → or_else a b ≡ None → b ≡ None
then_none None b h = h
then_none (Some x) b h = absurd (none-some _ (sym h))

-- no row holds
rows_fail : (rows : List (Bool × Breach)) → first_breach rows ≡ None → AllByRecursion (λ row. row.0 ≡ false) rows
rows_fail [] h = tt
rows_fail (row ∷ rows) h = by row.0 refl h (rows_fail rows)
  where
    by : (b : Bool) → row.0 ≡ b → (if b then Some row.1 else first_breach rows) ≡ None → (first_breach rows ≡ None → AllByRecursion (λ row. row.0 ≡ false) rows)
        → (row.0 ≡ false) × AllByRecursion (λ row. row.0 ≡ false) rows
    by true p h rest = absurd (none-some _ (sym h))
    by false p h rest = (p, rest h)

early_fails : (item : Item) → early_breach item ≡ None → AllByRecursion (λ row. row.0 ≡ false) (early_rows item)
early_fails item h = rows_fail (early_rows item) h

limits_fail : (c : Counts) (item : Item) → limit_breach c item ≡ None → AllByRecursion (λ row. row.0 ≡ false) (limit_rows c (ports_in item) (copies_in item))
limits_fail c item h = rows_fail (limit_rows c (ports_in item) (copies_in item)) h

late_fails : (item : Item) → late_breach item ≡ None → AllByRecursion (λ row. row.0 ≡ false) (late_rows item)
late_fails item h = rows_fail (late_rows item) h

early_none : (c : Counts) (item : Item) → breach c item ≡ None → early_breach item ≡ None
early_none c item h = first_none (early_breach item) (limit_breach c item) (first_none (breach_to_limits c item) (late_breach item) h)

limit_none : (c : Counts) (item : Item) → breach c item ≡ None → limit_breach c item ≡ None
limit_none c item h = then_none (early_breach item) (limit_breach c item) (first_none (breach_to_limits c item) (late_breach item) h)

late_none : (c : Counts) (item : Item) → breach c item ≡ None → late_breach item ≡ None
late_none c item h = then_none (breach_to_limits c item) (late_breach item) h

-- with no breach an item keeps the rules, and the counts with it the limits
keeps_rules : (c : Counts) (item : Item) → breach c item ≡ None → KeepsRules item
keeps_rules c item h =
    let early = early_fails item (early_none c item h) in
    let limit = limits_fail c item (limit_none c item h) in
    let late = late_fails item (late_none c item h) in
    record {
      node_once = early.0;
      named = early.1.0;
      in_range = early.1.1.0;
      one_link = early.1.1.1.0;
      one_code = early.1.1.1.1.0;
      one_width = early.1.1.1.1.1.0;
      fits = early.1.1.1.1.1.1.0;
      bound = early.1.1.1.1.1.1.1.0;
      stays_outward = early.1.1.1.1.1.1.1.1.0;
      forks = early.1.1.1.1.1.1.1.1.1.0;
      in_order = early.1.1.1.1.1.1.1.1.1.1.0;
      apart = early.1.1.1.1.1.1.1.1.1.1.1.0;
      ports = ltb-false 1024 (ports_in item) limit.1.0;
      copies = ltb-false 1024 (copies_in item) limit.1.1.1.1.1.1.0;
      two_fors = late.0;
      address = late.1.0;
    }

keeps_limits : (c : Counts) (item : Item) → breach c item ≡ None → KeepsLimits c
keeps_limits c item h =
    let limit = limits_fail c item (limit_none c item h) in
    record {
      nodes = ltb-false 10000 c.nodes limit.0;
      names = ltb-false 1024 (length c.names) limit.1.1.0;
      patterns = ltb-false 256 (length c.patterns) limit.1.1.1.0;
      instructions = ltb-false 1000000 c.instructions limit.1.1.1.1.0;
      ranges = ltb-false 4000000 c.ranges limit.1.1.1.1.1.0;
      fields = ltb-false 256 c.fields limit.1.1.1.1.1.1.1.0;
      tests = ltb-false 256 c.tests limit.1.1.1.1.1.1.1.1.0;
      asks = ltb-false 256 c.asks limit.1.1.1.1.1.1.1.1.1.0;
    }

record Kept (c : Counts) (items : List Item) : Type 0 where
  each : AllByRecursion KeepsRules items
  whole : KeepsLimits (fold counted c items)

-- no item before the end breaks a rule, and none passes a limit
items_keep : (totals c : Counts) (site : ℕ) (items : List Item) → KeepsLimits c → refusal_of totals (outcome site c items) ≡ None → Kept c items
items_keep totals c site [] limits h = record { each = tt; whole = limits }
items_keep totals c site (item ∷ items) limits h = by (breach (counted c item) item) refl h (items_keep totals (counted c item) (site + 1) items)
  where
    by : (b : Option Breach) → breach (counted c item) item ≡ b → refusal_of totals (stopped_or site b (outcome (site + 1) (counted c item) items)) ≡ None
        → (KeepsLimits (counted c item) → refusal_of totals (outcome (site + 1) (counted c item) items) ≡ None → Kept (counted c item) items)
        → Kept c (item ∷ items)
    by None p h rest =
        let later = rest (keeps_limits (counted c item) item p) h in
        record { each = (keeps_rules (counted c item) item p, later.each); whole = later.whole }
    by (Some b) p h rest = absurd (none-some _ (sym h))

starts_within : KeepsLimits no_counts
starts_within = record { nodes = z; names = z; patterns = z; instructions = z; ranges = z; fields = z; tests = z; asks = z }
  where
    z : {n : ℕ} → 0 ≤ n
    z = omega arith

job_keeps : (j : JobTree) → refusal j ≡ None → Kept no_counts (job_items j)
job_keeps j sound = items_keep (fold counted no_counts (job_items j)) no_counts 0 (job_items j) starts_within sound

pub items_keep_rules : (j : JobTree) → refusal j ≡ None → AllByRecursion KeepsRules (job_items j)
items_keep_rules j sound = (job_keeps j sound).each

pub job_keeps_limits : (j : JobTree) → refusal j ≡ None → KeepsLimits (fold counted no_counts (job_items j))
job_keeps_limits j sound = (job_keeps j sound).whole

all_right : (P : Item → Type 0) (xs ys : List Item) → AllByRecursion P (xs ++ ys) → AllByRecursion P ys
all_right P [] ys all = all
all_right P (x ∷ xs) ys all = all_right P xs ys all.1

all_left : (P : Item → Type 0) (xs ys : List Item) → AllByRecursion P (xs ++ ys) → AllByRecursion P xs
all_left P [] ys all = tt
all_left P (x ∷ xs) ys all = (all.0, all_left P xs ys all.1)

-- the injection and its lines, and the questions
abbrev behind_net : JobTree → List Item
behind_net j = injection_items (nodes_after [] j.net.nodes) j.injection ++ map ask_item j.asks

pub of_net : (P : Item → Type 0) (j : JobTree) → AllByRecursion P (job_items j) → AllByRecursion P (net_items j.net)
of_net P j all = all_left P (net_items j.net) (behind_net j) all

of_injection : (P : Item → Type 0) (j : JobTree) → AllByRecursion P (job_items j)
    → AllByRecursion P (injection_items (nodes_after [] j.net.nodes) j.injection)
of_injection P j all =
    all_left P (injection_items (nodes_after [] j.net.nodes) j.injection) (map ask_item j.asks) (all_right P (net_items j.net) (behind_net j) all)

pub of_lines : (P : Item → Type 0) (j : JobTree) → AllByRecursion P (job_items j) → AllByRecursion P (line_items j.injection)
of_lines P j all = (of_injection P j all).1

pub all_at : {X : Type 0} (P : X → Type 0) (xs : List X) (i : ℕ) (x : X) → AllByRecursion P xs → slice_get xs i ≡ Some x → P x
all_at P [] i x all is = absurd (none-some _ is)
all_at P (y ∷ ys) zero x all is = subst P (ap (λ o. unwrap_or o y) is) all.0
all_at P (y ∷ ys) (suc i) x all is = all_at P ys i x all.1 is

-- a question of the job, by its place
pub of_ask : (P : Item → Type 0) (j : JobTree) → AllByRecursion P (job_items j) → (index : ℕ) (ask : AskTree) → slice_get j.asks index ≡ Some ask → P (ask_item ask)
of_ask P j all index ask is =
    all_at P (map ask_item j.asks) index (ask_item ask)
    (all_right P (injection_items (nodes_after [] j.net.nodes) j.injection) (map ask_item j.asks) (all_right P (net_items j.net) (behind_net j) all))
    (slice_get-map ask_item j.asks index ∙ ap (option_map ask_item) is)

-- the injection's node is one of the job's
injection_is_named : (j : JobTree) → refusal j ≡ None → is_none (node_named (nodes_after [] j.net.nodes) j.injection.node) ≡ false
injection_is_named j sound = (of_injection KeepsRules j (items_keep_rules j sound)).0.named

still_none : (name k : List ℕ) (v : Ports) (es : Nodes) → bytes_eq name k ≡ false → lookup (bytes_eq name) es ≡ None
    → lookup (bytes_eq name) (insert_entry bytes_eq es k v) ≡ None
still_none name k v [] differs h = ap (λ b. cond b (Some v) None) differs
still_none name k v (e ∷ es) differs h = by (bytes_eq name e.0) (bytes_eq k e.0) refl h (still_none name k v es differs)
  where
    by : (b same : Bool) → bytes_eq name e.0 ≡ b → cond b (Some e.1) (lookup (bytes_eq name) es) ≡ None
        → (lookup (bytes_eq name) es ≡ None → lookup (bytes_eq name) (insert_entry bytes_eq es k v) ≡ None)
        → lookup (bytes_eq name) (if same then ((e.0, v) ∷ es) else (e ∷ insert_entry bytes_eq es k v)) ≡ None
    by true same p h rest = absurd (none-some _ (sym h))
    by false true p h rest = ap (λ b. cond b (Some v) (lookup (bytes_eq name) es)) p ∙ h
    by false false p h rest = ap (λ b. cond b (Some e.1) (lookup (bytes_eq name) (insert_entry bytes_eq es k v))) p ∙ rest h

-- where no node has the name, none is found by it
not_named : (name : List ℕ) (nodes : Nodes) (ds : List DeclTree) → lookup (bytes_eq name) nodes ≡ None → AllByRecursion (λ d. bytes_eq name d.name ≡ false) ds
    → node_named (nodes_after nodes ds) name ≡ None
not_named name nodes [] h all = h
not_named name nodes (d ∷ ds) h all = not_named name (with_node nodes d) ds (still_none name d.name (ports_of d.body) nodes all.0 h) all.1

none_has : (t : DeclTree → Bool) (i : ℕ) (ds : List DeclTree) → position_from t i ds ≡ None → AllByRecursion (λ d. t d ≡ false) ds
none_has t i [] h = tt
none_has t i (d ∷ ds) h = by (t d) refl h (none_has t (i + 1) ds)
  where
    by : (b : Bool) → t d ≡ b → cond b (Some i) (position_from t (i + 1) ds) ≡ None → (position_from t (i + 1) ds ≡ None → AllByRecursion (λ d. t d ≡ false) ds)
        → (t d ≡ false) × AllByRecursion (λ d. t d ≡ false) ds
    by true p h rest = absurd (none-some _ (sym h))
    by false p h rest = (p, rest h)

-- so it has a position
pub injection_has_position : (j : JobTree) → refusal j ≡ None → node_position j.net j.injection.node ≡ None → ⊥
injection_has_position j sound none =
    let all = none_has (has_name j.injection.node) 0 j.net.nodes (sym (position_from-zero (has_name j.injection.node) j.net.nodes) ∙ none) in
    let absent = not_named j.injection.node [] j.net.nodes refl all in
    true≢false (sym (ap is_none absent) ∙ injection_is_named j sound)
