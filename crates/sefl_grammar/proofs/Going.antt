-- How the automaton goes along words, with the depths that it has.
use Rattle.std.proofs.Common.{◌≡◌, ℕ, List, [], ◌∷◌, Option, None, Some, refl, sym, ap, ◌∙◌, subst}
use Rattle.sefl_lex.specs.Words.{IsWord}
use Rattle.sefl_lex.specs.declared.token.TokenKind.{TokenKind}
use Rattle.sefl_grammar.specs.Word.{Word, AreWords, Placed, bare}
use Rattle.sefl_grammar.specs.Automaton.{step, run, and_then, open_count}
use Rattle.sefl_grammar.specs.Grammar.{Spelling, ◌⨾◌, key}
use Rattle.sefl_grammar.specs.declared.symbol.Symbol.{Symbol}

-- each word with the number of constructs that the automaton has open behind it
abbrev pub placed_then : Option (List Symbol) → Word → (List Symbol → List Placed) → List Placed
placed_then None word more = []
placed_then (Some stack) word more = record { word = word; depth = open_count stack } ∷ more stack

abbrev pub placed_of : List Symbol → List Word → List Placed
placed_of stack [] = []
placed_of stack (word ∷ words) = placed_then (step stack word) word (λ left. placed_of left words)

abbrev pub AreLexed : List Placed → Type 0
AreLexed ps = AreWords (bare ps)

-- The automaton goes from the one stack to the other, taking the words of `before` that are not in `after`, each at its depth.
pub record Goes (stack : List Symbol) (before : List Placed) (stack' : List Symbol) (after : List Placed) : Type 0 where
  pub lexed : AreLexed before → AreLexed after
  pub runs : AreLexed before → run stack (bare before) ≡ run stack' (bare after)
  pub places : AreLexed before → placed_of stack' (bare after) ≡ after → placed_of stack (bare before) ≡ before

pub goes_on : {s s' s'' : List Symbol} {b m a : List Placed} → Goes s b s' m → Goes s' m s'' a → Goes s b s'' a
goes_on g h = record {
  lexed = λ l. h.lexed (g.lexed l);
  runs = λ l. g.runs l ∙ h.runs (g.lexed l);
  places = λ l e. g.places l (h.places (g.lexed l) e);
}

pub stays : (s : List Symbol) (b a : List Placed) → b ≡ a → Goes s b s a
stays s b a e = subst (λ x. Goes s b s x) e (record { lexed = λ l. l; runs = λ l. refl; places = λ l e. e })

takes : (s s' : List Symbol) (w : Word) (d : ℕ) (a : List Placed) → (IsWord w.kind w.text → step s w ≡ Some s') → open_count s' ≡ d → Goes s (record { word = w; depth = d } ∷ a) s' a
takes s s' w d a st o = record {
  lexed = λ l. l.1;
  runs = λ l. ap (λ t. and_then t (λ left. run left (bare a))) (st l.0);
  places = λ l e.
      ap (λ t. placed_then t w (λ left. placed_of left (bare a))) (st l.0)
      ∙ (λ i. record { word = w; depth = o i } ∷ e i);
}

-- one word
pub goes_word : (s s' : List Symbol) (w : Word) (d : ℕ) (b a : List Placed) → b ≡ record { word = w; depth = d } ∷ a → (IsWord w.kind w.text → step s w ≡ Some s') → open_count s' ≡ d → Goes s b s' a
goes_word s s' w d b a e st o = subst (λ x. Goes s x s' a) (sym e) (takes s s' w d a st o)

-- a word that is known
pub goes_key : (text : List ℕ) (s s' : List Symbol) (d : ℕ) (b a : List Placed) → key text d b a → ((k : TokenKind) → step s (record { kind = k; text = text }) ≡ Some s') → open_count s' ≡ d → Goes s b s' a
goes_key text s s' d b a (w, is, e) st o =
    goes_word s s' w d b a e (λ l. subst (λ t. step s (record { kind = w.kind; text = t }) ≡ Some s') (sym is) (st w.kind)) o

-- the symbols, with what may lie below them, take what is spelled
abbrev pub Does : Spelling → (List Symbol → List Symbol) → Type 0
Does p f = (d : ℕ) (b a : List Placed) → p d b a → (rest : List Symbol) → open_count rest ≡ d → Goes (f rest) b rest a

-- the symbols open nothing
abbrev pub Closed : (List Symbol → List Symbol) → Type 0
Closed f = (rest : List Symbol) → open_count (f rest) ≡ open_count rest

pub seq : (p q : Spelling) (f g : List Symbol → List Symbol) → Does p f → Does q g → Closed g → Does (p ⨾ q) (λ rest. f (g rest))
seq p q f g first second closed d b a (m, x, y) rest o =
    goes_on (first d b m x (g rest) (closed rest ∙ o)) (second d m a y rest o)

pub does_key : (text : List ℕ) (x : Symbol) → ((k : TokenKind) (rest : List Symbol) → step (x ∷ rest) (record { kind = k; text = text }) ≡ Some rest) → Does (key text) (λ rest. x ∷ rest)
does_key text x st d b a is rest o = goes_key text (x ∷ rest) rest d b a is (λ k. st k rest) o
