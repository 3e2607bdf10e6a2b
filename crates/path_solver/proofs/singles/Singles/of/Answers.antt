use Rattle.std.proofs.Common.{◌∙◌, ◌++◌, ℕ, List, Option, Vec, Global, map, ap, sym, subst, arith}
use Rattle.std.specs.Prelude.{IfSome}
use Rattle.sn_width.specs.declared.ids.SymId.{SymId}
use Rattle.path_cond.specs.declared.singles.Single.{Single}
use Rattle.path_cond.specs.Coupled.{coupled_symbols}
use Rattle.path_solver.specs.Unknowns.{IsTableOf, bound_of}
use Rattle.path_solver.proofs.Joining.{all_joined, all_ranges}
use Rattle.path_solver.proofs.singles.Singles.of.Goals as goal

pub returns : goal.returns
returns c =
    let cond = c.args.cond.now in
    let symbols = c.args.symbols.now in
    let old = c.loop-symbol.singles in
    let found =
    subst (λ (o : Option (Vec ℕ Global)). IfSome o (λ t. IsTableOf symbols t.items)) c.in-Some.is c.in_ok-table.ensures in
    let table =
    subst (λ (ss : List SymId). IsTableOf ss c.as_slice-2.result.now) c.requires.symbols
    (subst (λ (ts : List ℕ). IsTableOf symbols ts) (sym c.as_slice-2.ensures.value) found) in
    let more =
    c.in_ok-push_singles.ensures (coupled_symbols cond) table
    ∙ ap (λ (xs : List Single). old.bounds.items ++ map (λ s. bound_of (coupled_symbols cond) s.bound) xs)
    (c.as_slice-3.ensures.value ∙ c.in_ok-formulas.ensures) in
    all_joined cond old c.push_singles.new.self c.requires.one more
    (all_ranges cond symbols c.loop-symbol.symbol-index old (omega (arith, c.loop-symbol-test.false)) c.requires.symbols
    c.loop-symbol.invariant)
