-- Words, and words with their nesting.
use Rattle.std.specs.Prelude.{ℕ, ◌≡◌, ◌<◌, ◌≤◌, List, [], ◌∷◌, ◌++◌, map, length}
use Rattle.sefl_lex.specs.Words.{IsWord}
use Rattle.sefl_lex.specs.declared.token.TokenKind.{TokenKind}

-- a token: its kind and its bytes
pub record Word : Type 0 where
  pub kind : TokenKind
  pub text : List ℕ

-- each word is one of its kind
abbrev pub AreWords : List Word → Type 0
AreWords [] = Unit {0}
AreWords (word ∷ words) = IsWord word.kind word.text × AreWords words

-- a word, and how many constructs are open at it: blocks, brackets, parentheses and `not`s. The word that opens one is in
-- it, the sign that closes one is not.
pub record Placed : Type 0 where
  pub word : Word
  pub depth : ℕ

-- the words, without their nesting
abbrev pub bare : List Placed → List Word
bare placed = map (λ p. p.word) placed

-- no word is nested past 64
abbrev pub AreShallow : List Placed → Type 0
AreShallow [] = Unit {0}
AreShallow (p ∷ ps) = (p.depth ≤ 64) × AreShallow ps

-- the word at the place is the first that is nested past 64
abbrev pub IsFirstDeep : List Placed → ℕ → Type 0
IsFirstDeep placed place =
    (before : List Placed) × (p : Placed) × (after : List Placed) × (placed ≡ before ++ p ∷ after) × (length before ≡ place)
    × AreShallow before × (64 < p.depth)
