use Rattle.std.proofs.Common.{rules, ◌≡◌, ◌∙◌, sym, ap, subst, map, Ok}
use Rattle.sefl_syntax.specs.declared.net.TableKind.TheVariants.{Mac}
use Rattle.table_lines.specs.Tables.{table_of, seen}
use Rattle.mac_model.specs.MacTables.{IsMac, pair}
use Rattle.mac_model.proofs.MacLemmas.{mac_is}
use Rattle.mac_model.proofs.table.read_mac.Goals as goal

pub invariant_of-result : goal.invariant_of-result
invariant_of-result c =
    let is : table_of Mac c.args.bytes.now ≡ Ok (seen c.in_ok-table.table) = search rules in
    let rows : c.in_ok-rows.rows.items ≡ map pair c.in_ok-table.table.rows.items = c.in_ok-rows.ensures.rows ∙ ap (map pair) c.deref.ensures.value in
    subst (IsMac c.in_ok-table.table.ports) (sym rows)
    (mac_is (seen c.in_ok-table.table) (c.files_have_tables.ensures Mac c.args.bytes.now (seen c.in_ok-table.table) is))
