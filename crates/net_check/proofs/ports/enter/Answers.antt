use Rattle.std.proofs.Common.{cond, Some, None, ap, sym, ◌∙◌}
use Rattle.std.specs.Option.{option_or}
use Rattle.std.specs.Ordering.{is_eq}
use Rattle.net_check.specs.Lookups.{port_cmp, at_port}
use Rattle.net_check.proofs.First.{enters, stays, none_from_test, is_eq-port_cmp, port_is_exact}
use Rattle.net_check.proofs.ports.enter.Goals as goal

pub returns-then-contains_key : goal.returns-then-contains_key
returns-then-contains_key g c = λ node at.
    stays (λ a b. is_eq (port_cmp a b)) port_is_exact (λ q. at_port c.args.table.now.entries q.0 q.1) c.args.port c.args.value
    (sym c.contains_key.ensures ∙ c.if-contains_key.true) (node, at)
    ∙ ap (λ t. option_or (at_port c.args.table.now.entries node at) (cond t (Some c.args.value) None)) (is_eq-port_cmp c.args.port (node, at))

pub returns : goal.returns
returns g c = λ node at.
    enters (λ a b. is_eq (port_cmp a b)) port_is_exact (λ q. at_port c.args.table.now.entries q.0 q.1) (λ q. at_port c.insert.new.self.entries q.0 q.1)
    c.args.port c.args.value
    (none_from_test _ (sym c.contains_key.ensures ∙ c.if-contains_key.false)) c.in_ok-insert.ensures.updates.0 (node, at)
    ∙ ap (λ t. option_or (at_port c.args.table.now.entries node at) (cond t (Some c.args.value) None)) (is_eq-port_cmp c.args.port (node, at))
