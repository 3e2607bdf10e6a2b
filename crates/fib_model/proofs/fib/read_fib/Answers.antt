use Rattle.std.proofs.Common.{rules, ◌≡◌, ◌∙◌, sym, ap, subst, map, Ok}
use Rattle.sefl_syntax.specs.declared.net.TableKind.TheVariants.{Fib}
use Rattle.table_lines.specs.Tables.{table_of, seen}
use Rattle.fib_model.specs.Fibs.{IsFib, triple}
use Rattle.fib_model.proofs.FibLemmas.{fib_is}
use Rattle.fib_model.proofs.fib.read_fib.Goals as goal

pub invariant_of-result : goal.invariant_of-result
invariant_of-result c =
    let is : table_of Fib c.args.bytes.now ≡ Ok (seen c.in_ok-table.table) = search rules in
    let rows : c.in_ok-rows.rows.items ≡ map triple c.in_ok-table.table.rows.items = c.in_ok-rows.ensures.rows ∙ ap (map triple) c.deref.ensures.value in
    subst (IsFib c.in_ok-table.table.ports) (sym rows)
    (fib_is (seen c.in_ok-table.table) (c.files_have_tables.ensures Fib c.args.bytes.now (seen c.in_ok-table.table) is))
