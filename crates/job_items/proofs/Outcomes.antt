-- The outcome of items, one list after another.
use Rattle.std.proofs.Common.{◌≡◌, ℕ, suc, ◌+◌, ◌<◌, length, get_or, drop, take, add-one, drop-cons, List, [], ◌∷◌, ◌++◌, Some, None, Result, Ok, Err, IsErrAnd, refl, sym, ◌∙◌, ap, subst}
use Rattle.std.proofs.Math.Seq.{take-suc}
use Rattle.job_items.specs.declared.rule.Breach.{Breach}
use Rattle.job_items.specs.declared.halt.Halt.{Halt}
use Rattle.job_items.specs.declared.halt.Halt.TheVariants.{Broken, NoMemory}
use Rattle.job_items.specs.Items.{Item}
use Rattle.job_items.specs.Rules.{Counts, counted, breach, breach_to_limits, late_breach, or_else, Outcome, went, stopped, stopped_or, outcome}
use Rattle.job_items.specs.Progress.{Progress, outcome_from, Follows}

-- one outcome, and then that of what follows
abbrev pub and_then : Outcome → (ℕ → Counts → Outcome) → Outcome
and_then (went site c) next = next site c
and_then (stopped site b) next = stopped site b

pub outcome-append : (xs ys : List Item) (site : ℕ) (c : Counts)
    → outcome site c (xs ++ ys) ≡ and_then (outcome site c xs) (λ s d. outcome s d ys)
outcome-append [] ys site c = refl
outcome-append (x ∷ xs) ys site c =
    elim (breach (counted c x) x) as
    (λ b. stopped_or site b (outcome (site + 1) (counted c x) (xs ++ ys))
    ≡ and_then (stopped_or site b (outcome (site + 1) (counted c x) xs)) (λ s d. outcome s d ys))
    [ None ↦ outcome-append xs ys (site + 1) (counted c x) | Some b ↦ refl ]

-- what follows the first items answers for all
pub follows_rest : (p q : Progress) (xs ys : List Item) (r : Result (Unit {0}) Halt) (end : Progress)
    → outcome_from p xs ≡ went q.site q.counts → Follows (outcome_from q ys) r end → Follows (outcome_from p (xs ++ ys)) r end
follows_rest p q xs ys r end first rest =
    let same : outcome_from p (xs ++ ys) ≡ outcome_from q ys
    = outcome-append xs ys p.site p.counts ∙ ap (λ o. and_then o (λ s d. outcome s d ys)) first in
    let P : Outcome → Type 0 = λ o. Follows o r end in
    subst P (sym same) rest

-- where the first items stop, all stop
pub follows_stop : (p : Progress) (xs ys : List Item) (e : Halt) (end : Progress)
    → Follows (outcome_from p xs) (Err e) end → Follows (outcome_from p (xs ++ ys)) (Err e) end
follows_stop p xs ys (Broken b) end first =
    outcome-append xs ys p.site p.counts ∙ ap (λ o. and_then o (λ s d. outcome s d ys)) first
follows_stop p xs ys NoMemory end first = tt

-- an item that breaks no rule is passed, and what follows answers
pub follows_item : (p : Progress) (x : Item) (xs : List Item) (r : Result (Unit {0}) Halt) (q end : Progress)
    → breach (counted p.counts x) x ≡ None → q ≡ record { site = p.site + 1; counts = counted p.counts x }
    → Follows (outcome_from q xs) r end → Follows (outcome_from p (x ∷ xs)) r end
follows_item p x xs r q end none is rest =
    let P : Outcome → Type 0 = λ o. Follows o r end in
    let same : outcome_from p (x ∷ xs) ≡ outcome_from q xs
    = ap (λ b. stopped_or p.site b (outcome (p.site + 1) (counted p.counts x) xs)) none ∙ ap (λ at. outcome_from at xs) (sym is) in
    subst P (sym same) rest

-- an item that breaks a rule stops all
pub stops_at : (p : Progress) (x : Item) (xs : List Item) (b : Breach) (end : Progress)
    → breach (counted p.counts x) x ≡ Some b → end.site ≡ p.site
    → Follows (outcome_from p (x ∷ xs)) (Err (Broken b)) end
stops_at p x xs b end some site =
    ap (λ o. stopped_or p.site o (outcome (p.site + 1) (counted p.counts x) xs)) some ∙ ap (λ s. stopped s b) (sym site)

-- no rule up to the limits and none behind them
pub no_breach : (c : Counts) (x : Item) → breach_to_limits c x ≡ None → late_breach x ≡ None → breach c x ≡ None
no_breach c x early late = ap (λ b. or_else b (late_breach x)) early ∙ late

pub early_breach_is : (c : Counts) (x : Item) (b : Breach) → breach_to_limits c x ≡ Some b → breach c x ≡ Some b
early_breach_is c x b early = ap (λ o. or_else o (late_breach x)) early

pub late_breach_is : (c : Counts) (x : Item) (b : Breach) → breach_to_limits c x ≡ None → late_breach x ≡ Some b → breach c x ≡ Some b
late_breach_is c x b early late = ap (λ o. or_else o (late_breach x)) early ∙ late

-- an error that is passed on
pub follows_error : (o : Outcome) (r : Result (Unit {0}) Halt) (e : Halt) (end : Progress)
    → IsErrAnd r (λ f. f ≡ e) → Follows o (Err e) end → Follows o r end
follows_error o (Ok done) e end h stop = absurd h
follows_error o (Err f) e end h stop = let P : Halt → Type 0 = λ x. Follows o (Err x) end in subst P (sym h) stop

-- items of a list, one for each member: where one breaks a rule, all stop
pub stops_among : {A : Type 0} (items : List A → List Item) (head : A → Item) (tail : A → List A → List Item)
    → ((x : A) (xs : List A) → items (x ∷ xs) ≡ head x ∷ tail x xs)
    → (o : Outcome) (p : Progress) (xs : List A) (i : ℕ) (x : A) (e : Halt) (end : Progress)
    → i < length xs → x ≡ get_or xs i x → outcome_from p (items (drop i xs)) ≡ o
    → Follows (outcome_from p (head x ∷ [])) (Err e) end → Follows o (Err e) end
stops_among {A} items head tail step o p xs i x e end h is left stop =
    let P : Outcome → Type 0 = λ w. Follows w (Err e) end in
    let next : drop i xs ≡ x ∷ drop (suc i) xs = drop-cons xs i x h ∙ ap (λ (y : A). y ∷ drop (suc i) xs) (sym is) in
    subst P (sym (ap (λ l. outcome_from p (items l)) next ∙ ap (outcome_from p) (step x (drop (suc i) xs))) ∙ left)
    (follows_stop p (head x ∷ []) (tail x (drop (suc i) xs)) e end stop)

-- where one is passed, what is left has the outcome of all
pub passes_among : {A : Type 0} (items : List A → List Item) (head : A → Item) (tail : A → List A → List Item)
    → ((x : A) (xs : List A) → items (x ∷ xs) ≡ head x ∷ tail x xs)
    → (o : Outcome) (p q : Progress) (xs : List A) (i : ℕ) (x : A)
    → i < length xs → x ≡ get_or xs i x → outcome_from p (items (drop i xs)) ≡ o
    → outcome_from p (head x ∷ []) ≡ went q.site q.counts
    → outcome_from q (tail x (drop (i + 1) xs)) ≡ o
passes_among {A} items head tail step o p q xs i x h is left passed =
    let next : drop i xs ≡ x ∷ drop (suc i) xs = drop-cons xs i x h ∙ ap (λ (y : A). y ∷ drop (suc i) xs) (sym is) in
    ap (λ k. outcome_from q (tail x (drop k xs))) (add-one i)
    ∙ sym (outcome-append (head x ∷ []) (tail x (drop (suc i) xs)) p.site p.counts ∙ ap (λ w. and_then w (λ s d. outcome s d (tail x (drop (suc i) xs)))) passed)
    ∙ sym (ap (λ l. outcome_from p (items l)) next ∙ ap (outcome_from p) (step x (drop (suc i) xs))) ∙ left

pub take_next : {A : Type 0} (xs : List A) (i : ℕ) (x : A) → i < length xs → x ≡ get_or xs i x → take (i + 1) xs ≡ take i xs ++ x ∷ []
take_next xs i x h is = rw add-one (take-suc xs i x h ∙ ap (λ y. take i xs ++ y ∷ []) (sym is))

pub next_of : {A : Type 0} (xs : List A) (i : ℕ) (x : A) → i < length xs → x ≡ get_or xs i x → drop i xs ≡ x ∷ drop (i + 1) xs
next_of xs i x h is = rw add-one (drop-cons xs i x h ∙ ap (λ y. y ∷ drop (suc i) xs) (sym is))

-- some items of each member of a list: where one breaks a rule, all stop
pub stops_in_blocks : {A : Type 0} (items : List A → List Item) (head : A → List Item) (tail : A → List A → List Item)
    → ((x : A) (xs : List A) → items (x ∷ xs) ≡ head x ++ tail x xs)
    → (o : Outcome) (p : Progress) (xs : List A) (i : ℕ) (x : A) (e : Halt) (end : Progress)
    → i < length xs → x ≡ get_or xs i x → outcome_from p (items (drop i xs)) ≡ o
    → Follows (outcome_from p (head x)) (Err e) end → Follows o (Err e) end
stops_in_blocks {A} items head tail step o p xs i x e end h is left stop =
    let P : Outcome → Type 0 = λ w. Follows w (Err e) end in
    let next = next_of xs i x h is in
    subst P (sym (ap (λ l. outcome_from p (items l)) next ∙ ap (outcome_from p) (step x (drop (i + 1) xs))) ∙ left)
    (follows_stop p (head x) (tail x (drop (i + 1) xs)) e end stop)

pub passes_in_blocks : {A : Type 0} (items : List A → List Item) (head : A → List Item) (tail : A → List A → List Item)
    → ((x : A) (xs : List A) → items (x ∷ xs) ≡ head x ++ tail x xs)
    → (o : Outcome) (p q : Progress) (xs : List A) (i : ℕ) (x : A)
    → i < length xs → x ≡ get_or xs i x → outcome_from p (items (drop i xs)) ≡ o
    → outcome_from p (head x) ≡ went q.site q.counts
    → outcome_from q (tail x (drop (i + 1) xs)) ≡ o
passes_in_blocks {A} items head tail step o p q xs i x h is left passed =
    let next = next_of xs i x h is in
    let rest = tail x (drop (i + 1) xs) in
    sym (outcome-append (head x) rest p.site p.counts ∙ ap (λ w. and_then w (λ s d. outcome s d rest)) passed)
    ∙ sym (ap (λ l. outcome_from p (items l)) next ∙ ap (outcome_from p) (step x (drop (i + 1) xs))) ∙ left

-- the same of items that are given by equations
pub first_stops : (p : Progress) (xs given ys : List Item) (e : Halt) (end : Progress)
    → given ≡ xs → Follows (outcome_from p given) (Err e) end → Follows (outcome_from p (xs ++ ys)) (Err e) end
first_stops p xs given ys e end same stop =
    let P : List Item → Type 0 = λ l. Follows (outcome_from p l) (Err e) end in
    follows_stop p xs ys e end (subst P same stop)

pub second_answers : (p q : Progress) (xs given ys given' : List Item) (r : Result (Unit {0}) Halt) (end : Progress)
    → given ≡ xs → given' ≡ ys → outcome_from p given ≡ went q.site q.counts
    → Follows (outcome_from q given') r end → Follows (outcome_from p (xs ++ ys)) r end
second_answers p q xs given ys given' r end same same' first rest =
    let P : List Item → Type 0 = λ l. outcome_from p l ≡ went q.site q.counts in
    let Q : List Item → Type 0 = λ l. Follows (outcome_from q l) r end in
    follows_rest p q xs ys r end (subst P same first) (subst Q same' rest)
