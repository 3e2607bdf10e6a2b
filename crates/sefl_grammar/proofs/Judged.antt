-- What the automaton finds is so of the grammar.
use Rattle.std.proofs.Common.{◌≡◌, ℕ, zero, suc, ◌+◌, ◌<◌, ◌≤◌, nat_lt, Bool, true, false, List, [], ◌∷◌, ◌++◌, take, Option, None, Some, if◌then◌else◌, refl, sym, ap, ◌∙◌, subst, arith}
use Rattle.std.proofs.lemmas.Option.{none-some, same_Some}
use Rattle.std.proofs.lemmas.Bool.Decides.{nat_tests}
use Rattle.sefl_syntax.specs.Trees.{JobTree}
use Rattle.sefl_grammar.specs.Word.{Word, AreWords, Placed, bare, AreShallow, IsFirstDeep}
use Rattle.sefl_grammar.specs.Automaton.{step, run, and_then, Accepts, open_count, deep_here, deep_place}
use Rattle.sefl_grammar.specs.Grammar.{AreJob, IsJob, IsUnexpected}
use Rattle.sefl_grammar.specs.Words.{IsFound}
use Rattle.sefl_grammar.proofs.Going.{placed_of, placed_then}
use Rattle.sefl_grammar.proofs.Nets.{goes_job}
use Rattle.sefl_grammar.proofs.FoundNets.{found_job}
use Rattle.sefl_grammar.proofs.Runs.{words_append}
use Rattle.sefl_grammar.proofs.Examined.{Leaves, Decides}
use Rattle.sefl_grammar.specs.declared.examination.Finding.{Finding}
use Rattle.sefl_grammar.specs.declared.examination.Finding.TheVariants.{Job, TooDeep, Unexpected}
use Rattle.sefl_grammar.specs.declared.symbol.Symbol.{Symbol}
use Rattle.sefl_grammar.specs.declared.symbol.Symbol.TheVariants.{Start, Asks}

bare_placed : (stack : List Symbol) (words : List Word) (left : List Symbol) → run stack words ≡ Some left → bare (placed_of stack words) ≡ words
bare_placed stack [] left runs = refl
bare_placed stack (word ∷ words) left runs = by (step stack word) (λ new. bare_placed new words left) runs
  where
    by : (o : Option (List Symbol)) → ((new : List Symbol) → run new words ≡ Some left → bare (placed_of new words) ≡ words) → and_then o (λ s. run s words) ≡ Some left
        → bare (placed_then o word (λ s. placed_of s words)) ≡ word ∷ words
    by None later runs = absurd (none-some _ runs)
    by (Some new) later runs = ap (λ ws. word ∷ ws) (later new runs)

-- what is accepted is a job's
pub accepted_job : (words : List Word) → AreWords words → Accepts words → (j : JobTree) × IsJob j (placed_of (Start ∷ []) words)
accepted_job words lexed (left, runs, may) = found_job words (record { lexed = lexed; left = left; runs = runs; may = may })

pub accepted : (words : List Word) → AreWords words → Accepts words → AreJob words
accepted words lexed is =
    let found = accepted_job words lexed is in
    (found.0, placed_of (Start ∷ []) words, bare_placed (Start ∷ []) words is.0 is.1, found.1)

-- what is a job's is accepted
pub is_accepted : (words : List Word) → AreWords words → AreJob words → Accepts words
is_accepted words lexed (j, placed, same, is) =
    (Asks ∷ [], sym (ap (run (Start ∷ [])) same) ∙ (goes_job j placed is).runs (subst AreWords (sym same) lexed), refl)

deep_test : (depth : ℕ) (deep : Bool) → nat_lt 64 depth ≡ deep → (deep ≡ true → 64 < depth) × (deep ≡ false → depth ≤ 64)
deep_test depth deep e = (λ h. grind (arith, nat_tests), λ h. grind (arith, nat_tests))

shallow : (place : ℕ) (stack : List Symbol) (words : List Word) → deep_place place stack words ≡ None → AreShallow (placed_of stack words)
shallow place stack [] none = tt
shallow place stack (word ∷ words) none = by (step stack word) (λ new. shallow (suc place) new words) none
  where
    by : (o : Option (List Symbol)) → ((new : List Symbol) → deep_place (suc place) new words ≡ None → AreShallow (placed_of new words)) → deep_here place o (λ left. deep_place (suc place) left words) ≡ None
        → AreShallow (placed_then o word (λ s. placed_of s words))
    by None later none = tt
    by (Some new) later none = at_depth (nat_lt 64 (open_count new)) refl none
      where
        at_depth : (deep : Bool) → nat_lt 64 (open_count new) ≡ deep → (if deep then Some place else deep_place (suc place) new words) ≡ None → AreShallow (record { word = word; depth = open_count new } ∷ placed_of new words)
        at_depth true e none = absurd (none-some _ (sym none))
        at_depth false e none = ((deep_test (open_count new) false e).1 refl, later new none)

-- behind one word more
later_deep : (p : Placed) (ps : List Placed) (first place : ℕ) → p.depth ≤ 64 → (n : ℕ) → IsFirstDeep ps n → first + suc n ≡ place → IsFirstDeep (p ∷ ps) (suc n)
later_deep p ps first place low n (before, q, after, same, count, shallow', deep) e = (p ∷ before, q, after, ap (λ x. p ∷ x) same, ap suc count, (low, shallow'), deep)

-- the place of the first that is nested past 64, counted from the first place
first_deep : (place : ℕ) (stack : List Symbol) (words : List Word) (found : ℕ) → deep_place place stack words ≡ Some found → (n : ℕ) × (place + n ≡ found) × IsFirstDeep (placed_of stack words) n
first_deep place stack [] found is = absurd (none-some _ is)
first_deep place stack (word ∷ words) found is = by (step stack word) (λ new. first_deep (suc place) new words found) is
  where
    by : (o : Option (List Symbol)) → ((new : List Symbol) → deep_place (suc place) new words ≡ Some found → (n : ℕ) × (suc place + n ≡ found) × IsFirstDeep (placed_of new words) n) → deep_here place o (λ left. deep_place (suc place) left words) ≡ Some found
        → (n : ℕ) × (place + n ≡ found) × IsFirstDeep (placed_then o word (λ s. placed_of s words)) n
    by None later is = absurd (none-some _ is)
    by (Some new) later is = at_depth (nat_lt 64 (open_count new)) refl is
      where
        at_depth : (deep : Bool) → nat_lt 64 (open_count new) ≡ deep → (if deep then Some place else deep_place (suc place) new words) ≡ Some found → (n : ℕ) × (place + n ≡ found) × IsFirstDeep (record { word = word; depth = open_count new } ∷ placed_of new words) n
        at_depth true e is = let same = same_Some _ _ is in (0, omega (arith, same), ([], record { word = word; depth = open_count new }, placed_of new words, refl, refl, tt, (deep_test (open_count new) true e).0 refl))
        at_depth false e is =
            let l = later new is in
            let count = l.1 in
            (suc l.0, omega (arith, count), later_deep (record { word = word; depth = open_count new }) (placed_of new words) 0 (suc l.0) ((deep_test (open_count new) false e).1 refl) l.0 l.2 (omega arith))

take_words : (n : ℕ) (words : List Word) → AreWords words → AreWords (take n words)
take_words zero words l = tt
take_words (suc n) [] l = tt
take_words (suc n) (word ∷ words) l = (l.0, take_words n words l.1)

pub unexpected : (words : List Word) → AreWords words → (place : ℕ) → Leaves words place → IsUnexpected words place
unexpected words lexed place leaves = record {
  within = leaves.within;
  begun =
      let more = leaves.begun in
      (more.0, more.1, accepted (take place words ++ more.0) (words_append (take place words) more.0 (take_words place words lexed) more.1) more.2);
  stuck = λ h more words' is. leaves.stuck h more (is_accepted (take (suc place) words ++ more) (words_append (take (suc place) words) more (take_words (suc place) words lexed) words') is);
  unfinished = λ e is. leaves.unfinished e (is_accepted words lexed is);
}

pub judged : (words : List Word) → AreWords words → (finding : Finding) → Decides words finding → IsFound words finding
judged words lexed Job (is, none) =
    let found = accepted_job words lexed is in
    (found.0, placed_of (Start ∷ []) words, bare_placed (Start ∷ []) words is.0 is.1, found.1, shallow 0 (Start ∷ []) words none)
judged words lexed (TooDeep place) (is, deep) =
    let found = accepted_job words lexed is in
    let first = first_deep 0 (Start ∷ []) words place deep in
    let count = first.1 in
    (found.0, placed_of (Start ∷ []) words, bare_placed (Start ∷ []) words is.0 is.1, found.1, subst (IsFirstDeep (placed_of (Start ∷ []) words)) (omega (arith, count)) first.2)
judged words lexed (Unexpected place) leaves = unexpected words lexed place leaves
