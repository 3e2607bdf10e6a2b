use Rattle.std.proofs.Common.{◌≡◌, ◌∙◌, ◌+◌, ◌++◌, [], ◌∷◌, ℕ, drop, length, length-append, map, ap, rules, sym, subst, IfSome, None, Some, option_map, slice_get}
use Rattle.std.proofs.lemmas.List.{map-append}
use Rattle.std.specs.Global.{Vec}
use Rattle.std.specs.List.{AllByRecursion}
use Rattle.net_check.specs.Network.{entry, network}
use Rattle.exact_records.specs.View.{record_tree, record_trees}
use Rattle.path_questions.specs.Formulas.{explored}
use Rattle.compare_meaning.specs.Paths.{delivered, delivered_from}
use Rattle.net_compare.specs.Delivering.{AreStatesOf, LeadsBy, delivered_along}
use Rattle.net_compare.specs.Facings.{IsSound}
use Rattle.net_compare.specs.Saying.{seen_path}
use Rattle.net_compare.specs.declared.delivery.Delivery.{Delivery}
use Rattle.net_compare.proofs.DeliveryLemmas.{all_one_more, meaning_here, none_next, some_next, split}
use Rattle.net_compare.proofs.StateLemmas.{none_along, some_along, state_here, states_next, states_past}
use Rattle.net_compare.proofs.deliveries.deliveries_of.Goals.{in-Some+in_ok-push, in_default}
use Rattle.net_compare.proofs.deliveries.deliveries_of.Goals as goal

pub delivery_of-requires-clause-meaning : goal.delivery_of-requires-clause-meaning
delivery_of-requires-clause-meaning c =
    meaning_here (network c.args.net.now) (entry c.args.injection.now) c.args.hops c.requires.exact.0 c.args.records.now c.requires.exact.1
    c.loop-record.record-index c.record-item.result c.loop-record-test.true c.record-item.is

pub delivery_of-requires-clause-state : goal.delivery_of-requires-clause-state
delivery_of-requires-clause-state c =
    let net = network c.args.net.now in
    let start = explored net (entry c.args.injection.now) c.args.hops in
    let records = c.args.records.now in
    let n = c.loop-record.record-index in
    let d = c.record-item.result in
    let rest = record_trees (drop (n + 1) records) in
    let states = c.args.states.now in
    let k = length c.loop-record.list.items in
    let left = subst (λ rs. AreStatesOf start rs (drop k states)) (split net start records n d c.loop-record-test.true c.record-item.is c.loop-record.number) c.loop-record.invariant.states in
    let at : k ≡ c.len.result = search rules in
    subst (LeadsBy start (delivered_along (record_tree d))) (sym c.state_at-state.ensures)
    (subst (λ place. LeadsBy start (delivered_along (record_tree d)) (slice_get states place)) at (state_here start (record_tree d) rest states k left))

pub loop-record-preserved : goal.loop-record-preserved
loop-record-preserved c =
    let net = network c.args.net.now in
    let start = explored net (entry c.args.injection.now) c.args.hops in
    let records = c.args.records.now in
    let n = c.loop-record.record-index in
    let d = c.record-item.result in
    let number = c.loop-record.number in
    let items = c.loop-record.list.items in
    let all = delivered_from net start 0 (record_trees records) in
    let next : number + 1 ≡ c.in-Some-checked_add.next = search rules in
    let rest = λ (k : ℕ). delivered_from net start k (record_trees (drop (n + 1) records)) in
    let later = record_trees (drop (n + 1) records) in
    let states = c.args.states.now in
    let k = length items in
    let left = subst (λ rs. AreStatesOf start rs (drop k states)) (split net start records n d c.loop-record-test.true c.record-item.is number) c.loop-record.invariant.states in
    elim c.match-branch-2.branch [
      | in-Some+in_ok-push w ↦
          let p = w.in-Some.delivery in
          let found : delivered net start number (record_tree d) ≡ Some (seen_path p) = sym c.in_ok-delivery.ensures.path ∙ ap (option_map seen_path) w.in-Some.is in
          let more : c.match-branch-2.list.items ≡ items ++ p ∷ [] = ap (λ (v : Vec Delivery). v.items) w.list-is ∙ w.in_ok-push.ensures.items in
          let seen : map seen_path c.match-branch-2.list.items ≡ map seen_path items ++ seen_path p ∷ [] = ap (map seen_path) more ∙ map-append seen_path items (p ∷ []) in
          record {
            paths = ap (λ ps. ps ++ rest c.in-Some-checked_add.next) seen
                ∙ (ap (λ k. (map seen_path items ++ seen_path p ∷ []) ++ rest k) (sym next)
                ∙ some_next net start records n d c.loop-record-test.true c.record-item.is number (map seen_path items) all c.loop-record.invariant.paths (seen_path p) found);
            sound = subst (AllByRecursion IsSound) (sym more) (all_one_more IsSound items (p ∷ []) c.loop-record.invariant.sound (subst (λ f. IfSome f IsSound) w.in-Some.is c.in_ok-delivery.ensures.sound, tt));
            states = let along = some_along net start number (record_tree d) (seen_path p) found in
                subst (λ m. AreStatesOf start later (drop m states)) (sym (ap length more ∙ length-append items (p ∷ [])))
                (states_next start (record_tree d) later states k left along.0 along.1);
          }
      | in_default w ↦
          let none : c.in_ok-delivery.field-0 ≡ None = w.in_default.is in
          let found : delivered net start number (record_tree d) ≡ None = sym c.in_ok-delivery.ensures.path ∙ ap (option_map seen_path) none in
          let as_before : c.match-branch-2.list.items ≡ items = ap (λ (v : Vec Delivery). v.items) w.list-is in
          record {
            paths = ap (λ ps. map seen_path ps ++ rest c.in-Some-checked_add.next) as_before
                ∙ (ap (λ k. map seen_path items ++ rest k) (sym next)
                ∙ none_next net start records n d c.loop-record-test.true c.record-item.is number (map seen_path items) all c.loop-record.invariant.paths found);
            sound = subst (AllByRecursion IsSound) (sym as_before) c.loop-record.invariant.sound;
            states = subst (λ m. AreStatesOf start later (drop m states)) (sym (ap length as_before))
                (states_past start (record_tree d) later states k left (none_along net start number (record_tree d) found));
          }
    ]
