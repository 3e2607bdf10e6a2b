use Rattle.std.proofs.Common.{rules, ◌≡◌, ◌∙◌, ◌<◌, ◌≤◌, ◌&&◌, sym, ap, subst, List, All, IsPermutation, nat_lt, None, map}
use Rattle.std.specs.List.Sorted.{IsNonDecreasingBy}
use Rattle.std.proofs.lemmas.Result.{IfOk-weaker}
use Rattle.std.proofs.lemmas.List.Sorted.{IsNonDecreasingBy-from_sort_by_key}
use Rattle.fib_model.specs.Prefixes.{Row, order_key, span_of}
use Rattle.fib_model.specs.Sweeps.{StartFrom, last_port}
use Rattle.table_nodes.specs.TableNodes.{is_port}
use Rattle.fib_model.proofs.Spans.{spans_port, ordered_rows, spans_start, spans_end, spans_ports}
use Rattle.fib_model.proofs.sets.fib_sets.Goals as goal

pub spans_of-requires : goal.spans_of-requires
spans_of-requires c =
    let ordered : List Row = c.sort_unstable_by_key.new.self.items in
    let p : IsPermutation c.args.rows.now ordered = subst (λ xs. IsPermutation xs ordered) c.in_ok-ordered.ensures.items c.sort_unstable_by_key.ensures.permutation in
    subst (All (λ (row : Row). row.1 ≤ 32)) (sym c.deref.ensures.value) (λ k d h. (ordered_rows c.args.rows.now ordered p c.requires.rows k d h).0)

pub sets_of-requires-clause-order : goal.sets_of-requires-clause-order
sets_of-requires-clause-order c =
    let ordered : List Row = c.sort_unstable_by_key.new.self.items in
    let p : IsPermutation c.args.rows.now ordered = subst (λ xs. IsPermutation xs ordered) c.in_ok-ordered.ensures.items c.sort_unstable_by_key.ensures.permutation in
    let sorted : IsNonDecreasingBy order_key ordered = IsNonDecreasingBy-from_sort_by_key order_key _ c.sort_unstable_by_key.ensures.sorted (λ a r q k. search rules) in
    let spans : c.deref-2.result.now ≡ map span_of ordered = c.deref-2.ensures.value ∙ c.in_ok-spans.ensures ∙ ap (map span_of) c.deref.ensures.value in
    subst (StartFrom 0) (sym spans) (spans_start c.args.rows.now ordered p c.requires.rows sorted)

pub sets_of-requires-clause-ports : goal.sets_of-requires-clause-ports
sets_of-requires-clause-ports c =
    let ordered : List Row = c.sort_unstable_by_key.new.self.items in
    let p : IsPermutation c.args.rows.now ordered = subst (λ xs. IsPermutation xs ordered) c.in_ok-ordered.ensures.items c.sort_unstable_by_key.ensures.permutation in
    let spans : c.deref-2.result.now ≡ map span_of ordered = c.deref-2.ensures.value ∙ c.in_ok-spans.ensures ∙ ap (map span_of) c.deref.ensures.value in
    subst (All (λ span. span.port < c.args.ports)) (sym spans) (spans_ports c.args.rows.now ordered p c.requires.rows c.args.ports c.requires.ports)

pub sets_of-requires-clause-end : goal.sets_of-requires-clause-end
sets_of-requires-clause-end c =
    let ordered : List Row = c.sort_unstable_by_key.new.self.items in
    let p : IsPermutation c.args.rows.now ordered = subst (λ xs. IsPermutation xs ordered) c.in_ok-ordered.ensures.items c.sort_unstable_by_key.ensures.permutation in
    let spans : c.deref-2.result.now ≡ map span_of ordered = c.deref-2.ensures.value ∙ c.in_ok-spans.ensures ∙ ap (map span_of) c.deref.ensures.value in
    subst (All (λ span. span.first ≤ 4294967296)) (sym spans) (spans_end c.args.rows.now ordered p c.requires.rows)

pub returns-clause-sets : goal.returns-clause-sets
returns-clause-sets c =
    let ordered : List Row = c.sort_unstable_by_key.new.self.items in
    let p : IsPermutation c.args.rows.now ordered = subst (λ xs. IsPermutation xs ordered) c.in_ok-ordered.ensures.items c.sort_unstable_by_key.ensures.permutation in
    let sorted : IsNonDecreasingBy order_key ordered = IsNonDecreasingBy-from_sort_by_key order_key _ c.sort_unstable_by_key.ensures.sorted (λ a r q k. search rules) in
    let spans : c.deref-2.result.now ≡ map span_of ordered = c.deref-2.ensures.value ∙ c.in_ok-spans.ensures ∙ ap (map span_of) c.deref.ensures.value in
    IfOk-weaker c.sets_of.result _ _ (λ sets h a q. h a q
    ∙ (λ i. nat_lt a 4294967296 && is_port (last_port (spans i) a None) q)
    ∙ (λ i. nat_lt a 4294967296 && is_port (spans_port c.args.rows.now ordered a p sorted c.requires.rows c.requires.distinct i) q)) c.sets_of.ensures.sets
