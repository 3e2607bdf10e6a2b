use Rattle.std.proofs.Common.{◌≡◌, ◌∙◌, ◌+◌, sym, subst, arith, None, Ok}
use Rattle.std.specs.Map.{lookup}
use Rattle.table_lines.specs.Rows.{State, is_key, placed}
use Rattle.table_lines.proofs.Placing.{place_new}
use Rattle.table_lines.proofs.rows.Rows.place.Goals as goal

pub returns-clause-leaves : goal.returns-clause-leaves
returns-clause-leaves c =
    let none : lookup (is_key c.args.key) c.self.inside.rows ≡ None = sym c.get.ensures ∙ c.in_default.is in
    let s : State = record { kind = c.self.inside.kind; ports = c.self.inside.ports; rows = c.self.inside.rows; count = c.self.inside.count } in
    subst (λ s. placed s c.args.line c.args.key c.args.port (lookup (is_key c.args.key) s.rows)
    ≡ Ok (record { kind = c.self.inside.kind; ports = c.self.inside.ports; rows = c.add.new.self; count = c.self.inside.count + 1 })) c.self.view_is
    (place_new s c.args.line c.args.key c.args.port c.add.new.self none (omega (arith, c.if-self-limit_of.false, c.limit_of.ensures))
    c.in-Ok.ensures.added)
