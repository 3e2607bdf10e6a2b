use Rattle.std.proofs.Common.{rules, refl, arith, ◌≡◌, ◌∙◌, ◌+◌, ◌<◌, ◌≤◌, length, ◌∷◌, [], drop, slice_index_or, drop-cons, add-one, sym, subst, None, nat_lt, ◌&&◌}
use Rattle.std.proofs.lemmas.List.{drop_all}
use Rattle.std.specs.List.{AllByRecursion}
use Rattle.fib_model.specs.declared.sweep.Span.{Span}
use Rattle.fib_model.specs.Sweeps.{StartFrom, Goes, last_port}
use Rattle.table_nodes.specs.TableNodes.{is_port}
use Rattle.fib_model.proofs.Steps.{nothing_yet, took}
use Rattle.fib_model.proofs.sweep.sets_of.Goals as goal

pub loop-span-init : goal.loop-span-init
loop-span-init c = record {
  len = search rules;
  ports = search rules;
  order = c.requires.order;
  end = omega arith;
  ordered = λ q. subst (AllByRecursion (λ range. range.0 ≤ range.1)) (sym (c.in_ok-sets.ensures.empty q)) tt;
  goes = nothing_yet (λ a. last_port c.args.spans.now a None) (record { sets = c.in_ok-sets.sets; pending = c.new.result; start = 0 }) c.args.spans.now
      c.in_ok-sets.ensures.empty refl c.new.ensures.items (λ a. refl);
}

pub loop-span-preserved : goal.loop-span-preserved
loop-span-preserved c =
    let spans = c.args.spans.now in
    let i = c.loop-span.span-index in
    let span : Span = slice_index_or spans i (record { first = 0; last = 0; port = 0 }) in
    let within : i < length spans = c.loop-span-test.true in
    let split : drop i spans ≡ span ∷ drop (i + 1) spans = rw add-one (drop-cons spans i (record { first = 0; last = 0; port = 0 }) within) in
    let t : StartFrom c.move_to.new.self.start (drop (i + 1) spans) × Goes (λ a. last_port spans a None) (last_port (drop (i + 1) spans)) (record { sets = c.move_to.new.self.sets; pending = c.push.new.self; start = c.move_to.new.self.start })
    = took (drop (i + 1) spans) (drop i spans) span c.loop-span.sweep c.move_to.new.self
    (record { sets = c.move_to.new.self.sets; pending = c.push.new.self; start = c.move_to.new.self.start }) split c.loop-span.invariant.order
    c.in_ok-move_to.ensures.goes c.in_ok-move_to.ensures.start refl refl c.in_ok-push.ensures.items (λ a. last_port spans a None) c.loop-span.invariant.goes in
    record {
      len = search rules;
      ports = search (rules, c.requires.ports i (record { first = 0; last = 0; port = 0 }) within);
      order = t.0;
      end = omega (arith, c.in_ok-move_to.ensures.start, c.loop-span.invariant.end, c.requires.end i (record { first = 0; last = 0; port = 0 }) within);
      ordered = c.in_ok-move_to.ensures.ordered c.loop-span.invariant.ordered;
      goes = t.1;
    }

pub returns-clause-sets : goal.returns-clause-sets
returns-clause-sets c =
    let spans = c.args.spans.now in
    let none : drop c.loop-span.span-index spans ≡ [] = drop_all c.loop-span.span-index spans (omega (arith, c.loop-span-test.false)) in
    let start : c.move_to-2.new.self.start ≡ c.args.end = omega (arith, c.in_ok-move_to-2.ensures.start, c.loop-span.invariant.end) in
    let goes : Goes (λ a. last_port spans a None) (last_port []) c.move_to-2.new.self
    = c.in_ok-move_to-2.ensures.goes (λ a. last_port spans a None) (last_port []) (λ a found below. refl)
    (subst (λ xs. Goes (λ a. last_port spans a None) (last_port xs) c.loop-span.sweep) none c.loop-span.invariant.goes) in
    λ a q. goes.0 a q ∙ (λ i. nat_lt a (start i) && is_port (last_port spans a None) q)
