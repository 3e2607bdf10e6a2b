use Rattle.std.proofs.Common.{◌≡◌, ◌∙◌, ◌++◌, ◌∷◌, [], sym, ap, subst, None, rules}
use Rattle.std.specs.Map.{lookup}
use Rattle.table_lines.specs.Rows.{is_key}
use Rattle.table_lines.proofs.Finding.{adds}
use Rattle.table_lines.proofs.entries.Entries.add.Goals as goal

pub invariant_of-self-2 : goal.invariant_of-self-2
invariant_of-self-2 c =
    let rows = c.self.inside.rows.items in
    let none = subst (λ rows. lookup (is_key c.args.key) rows ≡ None) (sym c.self.view_is) c.requires in
    let items : c.push.new.self.items ≡ rows ++ (c.args.key, c.args.seen) ∷ [] = search rules in
    λ key.
    adds rows c.self.inside.found.entries c.insert.new.self.entries c.args.key c.args.seen none c.self.invariant c.in_ok-insert.ensures.updates.0 key
    ∙ ap (λ rows. lookup (is_key key) rows) (sym items)
