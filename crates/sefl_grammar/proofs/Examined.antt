-- What is known behind some words of a text.
use Rattle.std.proofs.Common.{◌≡◌, ℕ, zero, suc, ◌+◌, ◌<◌, ◌≤◌, Bool, true, false, List, [], ◌∷◌, ◌++◌, take, drop, length, Option, None, Some, slice_get, slice_index_or, if◌then◌else◌, refl, sym, ap, ◌∙◌, subst, true≢false, arith}
use Rattle.std.proofs.lemmas.Option.{none-some, same_Some, slice_get_within}
use Rattle.std.specs.List.{All, list_all}
use Rattle.std.proofs.lemmas.List.Elements.{All-head, All-tail}
use Rattle.sefl_lex.specs.Reads.{IsTokenOf}
use Rattle.sefl_lex.specs.declared.token.Token.{Token}
use Rattle.sefl_grammar.specs.Word.{Word, AreWords}
use Rattle.sefl_grammar.specs.Automaton.{may_end, step, and_then, run, Accepts, is_deep, deep_here, deep_place}
use Rattle.sefl_grammar.specs.Words.{Takes, finding_of, or_later, place_if, word_at, words_of}
use Rattle.sefl_grammar.proofs.Runs.{run_append}
use Rattle.sefl_grammar.proofs.Wells.{run_well, well_ends}
use Rattle.sefl_grammar.specs.declared.examination.Finding.{Finding}
use Rattle.sefl_grammar.specs.declared.examination.Finding.TheVariants.{Job, TooDeep, Unexpected}
use Rattle.sefl_grammar.specs.declared.symbol.Symbol.{Symbol}
use Rattle.sefl_grammar.specs.declared.symbol.Symbol.TheVariants.{Start}

-- The automaton takes the words before the place, and some words lead them to an end; it does not take the word there, or
-- the words end there and are not at an end.
pub record Leaves (words : List Word) (place : ℕ) : Type 0 where
  pub within : place ≤ length words
  pub begun : (more : List Word) × AreWords more × Accepts (take place words ++ more)
  pub stuck : place < length words → (more : List Word) → Accepts (take (suc place) words ++ more) → ⊥
  pub unfinished : place ≡ length words → Accepts words → ⊥

-- what the finding says of the automaton's run
abbrev pub Decides : List Word → Finding → Type 0
Decides words Job = Accepts words × (deep_place 0 (Start ∷ []) words ≡ None)
Decides words (TooDeep place) = Accepts words × (deep_place 0 (Start ∷ []) words ≡ Some place)
Decides words (Unexpected place) = Leaves words place

-- before the word at the place: what is to come, and the first place that was too deep
pub record Stands (words : List Word) (place : ℕ) (stack : List Symbol) (deep : Option ℕ) : Type 0 where
  pub runs : run (Start ∷ []) (take place words) ≡ Some stack
  pub deeper : or_later deep (deep_place place stack (drop place words)) ≡ deep_place 0 (Start ∷ []) words

pub start_stands : (words : List Word) → Stands words 0 (Start ∷ []) None
start_stands words = record { runs = refl; deeper = refl }

take_more : (words : List Word) (place : ℕ) (word : Word) → slice_get words place ≡ Some word → take (suc place) words ≡ take place words ++ word ∷ []
take_more [] place word is = absurd (none-some word is)
take_more (first ∷ words) zero word is = ap (λ w. w ∷ []) (same_Some first word is)
take_more (first ∷ words) (suc place) word is = ap (λ ws. first ∷ ws) (take_more words place word is)

drop_at : (words : List Word) (place : ℕ) (word : Word) → slice_get words place ≡ Some word → drop place words ≡ word ∷ drop (suc place) words
drop_at [] place word is = absurd (none-some word is)
drop_at (first ∷ words) zero word is = ap (λ w. w ∷ words) (same_Some first word is)
drop_at (first ∷ words) (suc place) word is = drop_at words place word is

-- one word more
run_more : (words : List Word) (place : ℕ) (stack : List Symbol) (word : Word) → run (Start ∷ []) (take place words) ≡ Some stack → slice_get words place ≡ Some word
    → run (Start ∷ []) (take (suc place) words) ≡ and_then (step stack word) (λ left. Some left)
run_more words place stack word runs is =
    ap (run (Start ∷ [])) (take_more words place word is) ∙ run_append (Start ∷ []) (take place words) (word ∷ [])
    ∙ ap (λ s. and_then s (λ left. run left (word ∷ []))) runs

later_twice : (deep : Option ℕ) (here : Bool) (place : ℕ) (later : Option ℕ) → or_later (or_later deep (place_if here place)) later ≡ or_later deep (if here then Some place else later)
later_twice None true place later = refl
later_twice None false place later = refl
later_twice (Some first) here place later = refl

stands_more : (words : List Word) (place : ℕ) (stack new : List Symbol) (deep : Option ℕ) (word : Word) → Stands words place stack deep → slice_get words place ≡ Some word
    → step stack word ≡ Some new → Stands words (suc place) new (or_later deep (place_if (is_deep new) place))
stands_more words place stack new deep word s is taken = record {
  runs = run_more words place stack word s.runs is ∙ ap (λ o. and_then o (λ left. Some left)) taken;
  deeper =
      later_twice deep (is_deep new) place (deep_place (suc place) new (drop (suc place) words))
      ∙ ap (λ o. or_later deep (deep_here place o (λ left. deep_place (suc place) left (drop (suc place) words)))) (sym taken)
      ∙ ap (λ ws. or_later deep (deep_place place stack ws)) (sym (drop_at words place word is))
      ∙ s.deeper;
}

pub next_stands : (words : List Word) (place : ℕ) (stack new : List Symbol) (deep : Option ℕ) (word : Word) → Stands words place stack deep → slice_get words place ≡ Some word
    → step stack word ≡ Some new → Stands words (place + 1) new (or_later deep (place_if (is_deep new) place))
next_stands words place stack new deep word s is taken =
    subst (λ n. Stands words n new (or_later deep (place_if (is_deep new) place))) (next_place place) (stands_more words place stack new deep word s is taken)
  where
    next_place : (n : ℕ) → suc n ≡ n + 1
    next_place n = omega arith

-- some words lead what stands behind the words to an end
begun : (words : List Word) (stack : List Symbol) → run (Start ∷ []) words ≡ Some stack → (more : List Word) × AreWords more × Accepts (words ++ more)
begun words stack runs =
    let ends = well_ends stack (run_well (Start ∷ []) words stack refl runs) in (
      ends.words,
      ends.lexed,
      (ends.left, run_append (Start ∷ []) words ends.words ∙ ap (λ s. and_then s (λ left. run left ends.words)) runs ∙ ends.runs, ends.may),
    )

stuck : (words more : List Word) → run (Start ∷ []) words ≡ None → Accepts (words ++ more) → ⊥
stuck words more runs accepts =
    none-some _ (sym (run_append (Start ∷ []) words more ∙ ap (λ s. and_then s (λ left. run left more)) runs) ∙ accepts.1)

pub refused : (words : List Word) (place : ℕ) (stack : List Symbol) (deep : Option ℕ) (word : Word) → Stands words place stack deep → slice_get words place ≡ Some word
    → step stack word ≡ None → Leaves words place
refused words place stack deep word s is taken =
    let within = slice_get_within words place word is in
    record {
      within = omega (arith, within);
      begun = begun (take place words) stack s.runs;
      stuck = λ h more. stuck (take (suc place) words) more (run_more words place stack word s.runs is ∙ ap (λ o. and_then o (λ left. Some left)) taken);
      unfinished = λ e. absurd (omega (arith, within, e));
    }

take_all : (words : List Word) → take (length words) words ≡ words
take_all [] = refl
take_all (word ∷ words) = ap (λ ws. word ∷ ws) (take_all words)

drop_all : (words : List Word) → drop (length words) words ≡ []
drop_all [] = refl
drop_all (word ∷ words) = drop_all words

later_none : (deep : Option ℕ) → or_later deep None ≡ deep
later_none None = refl
later_none (Some place) = refl

found_by : (words : List Word) (stack : List Symbol) (deep : Option ℕ) (ends : Bool) → list_all may_end stack ≡ ends → run (Start ∷ []) words ≡ Some stack
    → deep ≡ deep_place 0 (Start ∷ []) words → Decides words (finding_of ends deep (length words))
found_by words stack None true may runs deeper = ((stack, runs, may), sym deeper)
found_by words stack (Some place) true may runs deeper = ((stack, runs, may), sym deeper)
found_by words stack deep false may runs deeper = record {
  within = omega arith;
  begun = subst (λ ws. (more : List Word) × AreWords more × Accepts (ws ++ more)) (sym (take_all words)) (begun words stack runs);
  stuck = λ h. absurd (omega (arith, h));
  unfinished = λ e accepts.
      true≢false (sym (accepts.2) ∙ ap (list_all may_end) (same_Some _ _ (sym accepts.1 ∙ runs)) ∙ may);
}

pub ended : (words : List Word) (stack : List Symbol) (deep : Option ℕ) (count : ℕ) → count ≡ length words → Stands words count stack deep → Decides words (finding_of (list_all may_end stack) deep count)
ended words stack deep count all s =
    let at_end : Stands words (length words) stack deep = subst (λ n. Stands words n stack deep) all s in
    let runs = sym (ap (run (Start ∷ [])) (take_all words)) ∙ at_end.runs in
    let deeper = sym (later_none deep) ∙ sym (ap (λ ws. or_later deep (deep_place (length words) stack ws)) (drop_all words)) ∙ at_end.deeper in
    subst (λ n. Decides words (finding_of (list_all may_end stack) deep n)) (sym all) (found_by words stack deep (list_all may_end stack) refl runs deeper)

pub word_there : (text : List ℕ) (tokens : List Token) (place : ℕ) (d : Token) → place < length tokens → slice_get (words_of text tokens) place ≡ Some (word_at text (slice_index_or tokens place d))
word_there text [] place d h = absurd (omega (arith, h))
word_there text (token ∷ tokens) zero d h = refl
word_there text (token ∷ tokens) (suc place) d h = word_there text tokens place d (omega (arith, h))

pub count_words : (text : List ℕ) (tokens : List Token) → length tokens ≡ length (words_of text tokens)
count_words text [] = refl
count_words text (token ∷ tokens) = ap suc (count_words text tokens)

pub is_taken : (taken : Bool) (after : Option (List Symbol)) (new : List Symbol) → taken ≡ true → Takes taken after new → after ≡ Some new
is_taken true after new h t = t
is_taken false after new h t = absurd (true≢false (sym h))

pub is_refused : (taken : Bool) (after : Option (List Symbol)) (new : List Symbol) → taken ≡ false → Takes taken after new → after ≡ None
is_refused true after new h t = absurd (true≢false h)
is_refused false after new h t = t

pub are_words : (text : List ℕ) (tokens : List Token) → All (IsTokenOf text) tokens → AreWords (words_of text tokens)
are_words text [] all = tt
are_words text (token ∷ tokens) all = ((All-head (IsTokenOf text) token tokens all).word, are_words text tokens (All-tail (IsTokenOf text) token tokens all))
