-- The outcome of code, instruction by instruction.
use Rattle.std.proofs.Common.{◌≡◌, ℕ, ◌+◌, ◌<◌, List, ◌++◌, length, get_or, drop, suc, Vec, Global, None, Result, Err, sym, ◌∙◌, ap, subst, add-one, drop-cons, rules}
use Rattle.sefl_syntax.specs.Trees.{branch}
use Rattle.sefl_syntax.specs.Views.{cond_tree, instr_tree, code_tree}
use Rattle.sefl_syntax.specs.declared.cond.Cond.{Cond}
use Rattle.sefl_syntax.specs.declared.instr.Instr.{Instr, If, the_lemmas}
use Rattle.job_items.specs.declared.halt.Halt.{Halt}
use Rattle.job_items.specs.Items.{Place, Item, instr_item, inner_items, instr_items, code_items}
use Rattle.job_items.specs.Rules.{counted, breach_to_limits, late_breach, Outcome, went, outcome}
use Rattle.job_items.specs.Progress.{Progress, outcome_from, Follows, begun}
use Rattle.job_items.proofs.Outcomes.{and_then, outcome-append, follows_rest, follows_stop, follows_item, no_breach}

-- the items of what is left: those of the next instruction, and the others
pub code_at : (place : Place) (code : List Instr) (i : ℕ) (x : Instr) → i < length code → x ≡ get_or code i x
    → code_items place (code_tree (drop i code)) ≡ instr_items place (instr_tree x) ++ code_items place (code_tree (drop (i + 1) code))
code_at place code i x h is =
    rw (add-one, drop-cons code i x)
    (ap (λ y. instr_items place (instr_tree y) ++ code_items place (code_tree (drop (suc i) code))) (sym is))

pub stops_in_code : (start p : Progress) (place : Place) (code : List Instr) (i : ℕ) (x : Instr) (e : Halt) (end : Progress)
    → i < length code → x ≡ get_or code i x
    → outcome_from p (code_items place (code_tree (drop i code))) ≡ outcome_from start (code_items place (code_tree code))
    → Follows (outcome_from p (instr_items place (instr_tree x))) (Err e) end
    → Follows (outcome_from start (code_items place (code_tree code))) (Err e) end
stops_in_code start p place code i x e end h is left stop =
    let rest = code_items place (code_tree (drop (i + 1) code)) in
    let P : Outcome → Type 0 = λ o. Follows o (Err e) end in
    subst P (ap (λ items. outcome_from p items) (sym (code_at place code i x h is)) ∙ left)
    (follows_stop p (instr_items place (instr_tree x)) rest e end stop)

pub passes_in_code : (start p q : Progress) (place : Place) (code : List Instr) (i : ℕ) (x : Instr)
    → i < length code → x ≡ get_or code i x
    → outcome_from p (code_items place (code_tree (drop i code))) ≡ outcome_from start (code_items place (code_tree code))
    → outcome_from p (instr_items place (instr_tree x)) ≡ went q.site q.counts
    → outcome_from q (code_items place (code_tree (drop (i + 1) code))) ≡ outcome_from start (code_items place (code_tree code))
passes_in_code start p q place code i x h is left passed =
    let rest = code_items place (code_tree (drop (i + 1) code)) in
    sym (outcome-append (instr_items place (instr_tree x)) rest p.site p.counts ∙ ap (λ o. and_then o (λ s d. outcome s d rest)) passed)
    ∙ ap (λ items. outcome_from p items) (sym (code_at place code i x h is)) ∙ left

instr_tree_If : (test : Cond) (first other : Vec Instr Global)
    → instr_tree (If test first other) ≡ branch (cond_tree test) (code_tree first.items) (code_tree other.items)
instr_tree_If test first other = search (rules, the_lemmas)

-- an If that is passed, and then its blocks
if_items : (p mid q : Progress) (place : Place) (i : Instr) (test : Cond) (first other : Vec Instr Global) (r : Result (Unit {0}) Halt) (end : Progress)
    → i ≡ If test first other
    → breach_to_limits (counted p.counts (instr_item place (instr_tree i))) (instr_item place (instr_tree i)) ≡ None
    → mid ≡ begun p (instr_item place (instr_tree i))
    → q ≡ record { site = mid.site + 1; counts = mid.counts }
    → Follows (outcome_from q (code_items place (code_tree first.items) ++ code_items place (code_tree other.items))) r end
    → Follows (outcome_from p (instr_items place (instr_tree i))) r end
if_items p mid q place i test first other r end is early begins step rest =
    let item = instr_item place (instr_tree i) in
    let tree = ap instr_tree is ∙ instr_tree_If test first other in
    let late : late_breach item ≡ None = ap (λ t. late_breach (instr_item place t)) tree in
    let inner : inner_items place (instr_tree i) ≡ code_items place (code_tree first.items) ++ code_items place (code_tree other.items)
    = ap (λ t. inner_items place t) tree in
    let P : List Item → Type 0 = λ items. Follows (outcome_from q items) r end in
    follows_item p item (inner_items place (instr_tree i)) r q end (no_breach (counted p.counts item) item early late)
    (step ∙ ap (λ (m : Progress). record { site = m.site + 1; counts = m.counts }) begins)
    (subst P (sym inner) rest)

pub stops_in_first : (p mid q : Progress) (place : Place) (i : Instr) (test : Cond) (first other : Vec Instr Global) (xs : List Instr) (e : Halt) (end : Progress)
    → i ≡ If test first other
    → breach_to_limits (counted p.counts (instr_item place (instr_tree i))) (instr_item place (instr_tree i)) ≡ None
    → mid ≡ begun p (instr_item place (instr_tree i))
    → q ≡ record { site = mid.site + 1; counts = mid.counts }
    → xs ≡ first.items
    → Follows (outcome_from q (code_items place (code_tree xs))) (Err e) end
    → Follows (outcome_from p (instr_items place (instr_tree i))) (Err e) end
stops_in_first p mid q place i test first other xs e end is early begins step same stop =
    let P : List Instr → Type 0 = λ code. Follows (outcome_from q (code_items place (code_tree code))) (Err e) end in
    if_items p mid q place i test first other (Err e) end is early begins step
    (follows_stop q (code_items place (code_tree first.items)) (code_items place (code_tree other.items)) e end (subst P same stop))

pub goes_on_in_other : (p mid q q' : Progress) (place : Place) (i : Instr) (test : Cond) (first other : Vec Instr Global) (xs ys : List Instr) (r : Result (Unit {0}) Halt) (end : Progress)
    → i ≡ If test first other
    → breach_to_limits (counted p.counts (instr_item place (instr_tree i))) (instr_item place (instr_tree i)) ≡ None
    → mid ≡ begun p (instr_item place (instr_tree i))
    → q ≡ record { site = mid.site + 1; counts = mid.counts }
    → xs ≡ first.items → ys ≡ other.items
    → outcome_from q (code_items place (code_tree xs)) ≡ went q'.site q'.counts
    → Follows (outcome_from q' (code_items place (code_tree ys))) r end
    → Follows (outcome_from p (instr_items place (instr_tree i))) r end
goes_on_in_other p mid q q' place i test first other xs ys r end is early begins step same same' passed rest =
    let P : List Instr → Type 0 = λ code. outcome_from q (code_items place (code_tree code)) ≡ went q'.site q'.counts in
    let Q : List Instr → Type 0 = λ code. Follows (outcome_from q' (code_items place (code_tree code))) r end in
    if_items p mid q place i test first other r end is early begins step
    (follows_rest q q' (code_items place (code_tree first.items)) (code_items place (code_tree other.items)) r end (subst P same passed) (subst Q same' rest))
