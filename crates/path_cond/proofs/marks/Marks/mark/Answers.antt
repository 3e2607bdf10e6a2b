use Rattle.std.proofs.Common.{◌≡◌, ℕ, false, List, nat_eq, rules, subst}
use Rattle.std.specs.Prelude.{is_some}
use Rattle.std.specs.Ordering.{nat_cmp}
use Rattle.sn_tree.specs.Pairs.{value_at}
use Rattle.sn_width.specs.declared.ids.SymId.{SymId}
use Rattle.path_cond.specs.Marks.{Adds}
use Rattle.path_cond.proofs.Marking.{adds_with, length_with, none_lent}
use Rattle.path_cond.proofs.marks.Marks.mark.Goals as goal

pub invariant_of-self : goal.invariant_of-self
invariant_of-self c =
    let old = c.self.inside.symbols in
    let k = c.args.symbol.0 in
    let off : is_some c.get.result ≡ false = search rules in
    length_with old c.in-Ok.symbols k c.self.inside.count c.in-Some.count tt
    (none_lent c.get.result (value_at nat_cmp k old) c.get.ensures.value off) c.self.invariant c.in-Some.ensures.1 c.in-Ok.ensures.put

pub returns-in-Ok : goal.returns-in-Ok
returns-in-Ok c =
    subst (λ (old : List (ℕ × Unit {0})). Adds old c.in-Ok.symbols (λ (s : SymId). nat_eq c.args.symbol.0 s.0)) c.self.view_is
    (adds_with c.self.inside.symbols c.in-Ok.symbols c.args.symbol.0 tt c.in-Ok.ensures.put)
