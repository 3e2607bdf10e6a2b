-- Runs over words, and stacks that can be led to an end.
use Rattle.std.proofs.Common.{◌≡◌, ◌&&◌, ◌⊎◌, inl, inr, Bool, true, false, List, [], ◌∷◌, ◌++◌, Option, None, Some, refl, sym, ap, ◌∙◌}
use Rattle.std.proofs.lemmas.Option.{same_Some}
use Rattle.std.proofs.lemmas.Bool.{and_parts}
use Rattle.std.specs.List.{list_all}
use Rattle.sefl_grammar.specs.Word.{Word, AreWords}
use Rattle.sefl_grammar.specs.Automaton.{may_end, step, and_then, run}
use Rattle.sefl_grammar.proofs.Closings.{closing, closing_words, is_inner, Closes, closes, Starts, starts, skips}
use Rattle.sefl_grammar.specs.declared.symbol.Symbol.{Symbol}

and_then_later : (s : Option (List Symbol)) (f g : List Symbol → Option (List Symbol)) → ((left : List Symbol) → f left ≡ g left) → and_then s f ≡ and_then s g
and_then_later None f g h = refl
and_then_later (Some left) f g h = h left

and_then_twice : (s : Option (List Symbol)) (f g : List Symbol → Option (List Symbol)) → and_then (and_then s f) g ≡ and_then s (λ left. and_then (f left) g)
and_then_twice None f g = refl
and_then_twice (Some left) f g = refl

pub run_append : (stack : List Symbol) (words more : List Word) → run stack (words ++ more) ≡ and_then (run stack words) (λ left. run left more)
run_append stack [] more = refl
run_append stack (word ∷ words) more =
    and_then_later (step stack word) _ _ (λ left. run_append left words more)
    ∙ sym (and_then_twice (step stack word) (λ left. run left words) (λ left. run left more))

pub words_append : (words more : List Word) → AreWords words → AreWords more → AreWords (words ++ more)
words_append [] more h k = k
words_append (word ∷ words) more h k = (h.0, words_append words more h.1 k)

-- the words end the stack; they are none, or begin with a plain word
pub record CanEnd (stack : List Symbol) : Type 0 where
  pub words : List Word
  pub lexed : AreWords words
  pub none_or_plain : (words ≡ []) ⊎ Starts words
  pub left : List Symbol
  pub runs : run stack words ≡ Some left
  pub may : list_all may_end left ≡ true

pub and_true : (a b : Bool) → a ≡ true → b ≡ true → a && b ≡ true
and_true true b h k = k
and_true false b h k = h

pub all_append : (p : Symbol → Bool) (xs ys : List Symbol) → list_all p xs ≡ true → list_all p ys ≡ true → list_all p (xs ++ ys) ≡ true
all_append p [] ys h k = k
all_append p (x ∷ xs) ys h k = and_true (p x) _ (and_parts (p x) (list_all p xs) h).0 (all_append p xs ys (and_parts (p x) (list_all p xs) h).1 k)

-- behind what may end, the words of the stack below serve
pub below_ends : (ends rest : List Symbol) → list_all may_end ends ≡ true → CanEnd rest → CanEnd (ends ++ rest)
below_ends ends rest all can = by can.none_or_plain
  where
    by : (can.words ≡ []) ⊎ Starts can.words → CanEnd (ends ++ rest)
    by (inl none) =
        let same : rest ≡ can.left = same_Some _ _ (sym (ap (run rest) none) ∙ can.runs) in
        record {
          words = [];
          lexed = tt;
          none_or_plain = inl refl;
          left = ends ++ rest;
          runs = refl;
          may = all_append may_end ends rest all (ap (list_all may_end) same ∙ can.may);
        }
    by (inr begins) =
        record {
          words = can.words;
          lexed = can.lexed;
          none_or_plain = inr begins;
          left = can.left;
          runs = ap (run (ends ++ rest)) begins.is ∙ ap (λ s. and_then s (λ left. run left begins.others)) (skips ends rest begins.first all begins.plain) ∙ sym (ap (run rest) begins.is) ∙ can.runs;
          may = can.may;
        }

closed_ends : (symbol : Symbol) (rest : List Symbol) → Closes symbol rest → Starts (closing symbol) → CanEnd rest → CanEnd (symbol ∷ rest)
closed_ends symbol rest c begins later =
    let can = below_ends c.left rest c.may later in
    record {
      words = closing symbol ++ can.words;
      lexed = words_append (closing symbol) can.words (closing_words symbol) can.lexed;
      none_or_plain = inr (record { first = begins.first; others = begins.others ++ can.words; is = ap (λ ws. ws ++ can.words) begins.is; plain = begins.plain });
      left = can.left;
      runs = run_append (symbol ∷ rest) (closing symbol) can.words ∙ ap (λ s. and_then s (λ left. run left can.words)) c.done ∙ can.runs;
      may = can.may;
    }

one_ends : (symbol : Symbol) (rest : List Symbol) (ends : Bool) → may_end symbol ≡ ends → is_inner symbol ≡ true → CanEnd rest → CanEnd (symbol ∷ rest)
one_ends symbol rest true ends inner later = below_ends (symbol ∷ []) rest (and_true (may_end symbol) true ends refl) later
one_ends symbol rest false ends inner later = closed_ends symbol rest (closes symbol rest ends) (starts symbol inner ends) later

-- a stack without a sign behind a tag can be led to an end
pub inner_ends : (stack : List Symbol) → list_all is_inner stack ≡ true → CanEnd stack
inner_ends [] h = record { words = []; lexed = tt; none_or_plain = inl refl; left = []; runs = refl; may = refl }
inner_ends (symbol ∷ rest) h =
    one_ends symbol rest (may_end symbol) refl (and_parts (is_inner symbol) (list_all is_inner rest) h).0
    (inner_ends rest (and_parts (is_inner symbol) (list_all is_inner rest) h).1)
