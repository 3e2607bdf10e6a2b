use Rattle.std.proofs.Common.{sym, ap, ap₂, ◌∙◌, ◌++◌, ◌∷◌, []}
use Rattle.std.proofs.lemmas.List.{map-append}
use Rattle.path_formula.specs.Bounds.{lists_of, items_of}
use Rattle.path_formula.specs.Cases.{range_case}
use Rattle.path_formula.proofs.CaseSets.{ends_are_narrow, next_range}
use Rattle.path_formula.proofs.atoms.range_cases.Goals as goal

pub within-requires-clause-first : goal.within-requires-clause-first
within-requires-clause-first c =
    (ends_are_narrow c.args.set.now.width c.args.set.now.pairs c.loop-index.index c.in-Some.range c.width.ensures.canonical c.requires (sym c.range.ensures.value ∙ c.in-Some.is)).0

pub within-requires-clause-last : goal.within-requires-clause-last
within-requires-clause-last c =
    (ends_are_narrow c.args.set.now.width c.args.set.now.pairs c.loop-index.index c.in-Some.range c.width.ensures.canonical c.requires (sym c.range.ensures.value ∙ c.in-Some.is)).1

pub loop-index-preserved : goal.loop-index-preserved
loop-index-preserved c =
    let l = c.loop-index in
    let next = next_range (range_case c.args.symbol) c.args.set.now.pairs l.index c.in-Some.range (sym c.range.ensures.value ∙ c.in-Some.is) in
    ap lists_of c.in_ok-push.ensures.items ∙ map-append items_of l.cases.items (c.in_ok-within.field-0 ∷ [])
    ∙ ap₂ (λ xs x. xs ++ x ∷ []) l.invariant c.in_ok-within.ensures ∙ sym next
