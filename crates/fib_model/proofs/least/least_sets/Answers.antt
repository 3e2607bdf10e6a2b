use Rattle.std.proofs.Common.{rules, ◌≡◌, ◌∙◌, ◌≤◌, sym, ap, subst}
use Rattle.std.specs.List.{AllByRecursion}
use Rattle.sn_ranges.specs.Ranges.{is_member}
use Rattle.sefl_syntax.specs.declared.net.TableKind.TheVariants.{Fib}
use Rattle.table_nodes.specs.Codes.{lists}
use Rattle.table_nodes.specs.TableNodes.{SetsFor, is_port}
use Rattle.fib_model.specs.Prefixes.{fib_port}
use Rattle.fib_model.specs.Sweeps.{set_at}
use Rattle.fib_model.proofs.LeastLemmas.{raw_fits, next_set}
use Rattle.fib_model.proofs.least.least_sets.Goals as goal

pub least-requires : goal.least-requires
least-requires c =
    let raw : c.raw_of.result.now ≡ set_at c.in_ok-raw.raw.items c.loop-port.port = c.raw_of.ensures ∙ ap (λ sets. set_at sets c.loop-port.port) c.deref.ensures.value in
    raw_fits (λ a. is_port (fib_port c.args.rows.now a) c.loop-port.port) c.raw_of.result.now
    (subst (AllByRecursion (λ r. r.0 ≤ r.1)) (sym raw) (c.in_ok-raw.ensures.ordered c.loop-port.port))
    (λ a. ap (λ set. is_member set a) raw ∙ c.in_ok-raw.ensures.sets a c.loop-port.port)

pub loop-port-preserved : goal.loop-port-preserved
loop-port-preserved c =
    let raw : c.raw_of.result.now ≡ set_at c.in_ok-raw.raw.items c.loop-port.port = c.raw_of.ensures ∙ ap (λ sets. set_at sets c.loop-port.port) c.deref.ensures.value in
    record {
      len = search rules;
      sets = subst (λ sets. SetsFor Fib (λ a. is_port (fib_port c.args.rows.now a)) 0 (lists sets)) (sym c.in_ok-push.ensures.items)
          (next_set c.sets_grow.ensures c.args.rows.now c.loop-port.sets.items c.raw_of.result.now c.in_ok-least.field-0 c.loop-port.port c.loop-port.invariant.len c.loop-port.invariant.sets
          c.in_ok-least.ensures.canonical c.in_ok-least.ensures.members (λ a. ap (λ set. is_member set a) raw ∙ c.in_ok-raw.ensures.sets a c.loop-port.port));
    }
