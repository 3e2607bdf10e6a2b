-- The automaton that decides the grammar: it takes word by word and has a stack of what is to come.
use Rattle.std.specs.Prelude.{◌≡◌, ℕ, suc, nat_le, nat_lt, Bool, true, false, List, [], ◌∷◌, ◌++◌, Option, None, Some, bytes_eq, if◌then◌else◌}
use Rattle.std.specs.List.{list_all}
use Rattle.sefl_lex.specs.Words.{value_of}
use Rattle.sefl_lex.specs.declared.token.TokenKind.{TokenKind}
use Rattle.sefl_lex.specs.declared.token.TokenKind.TheVariants as kind
use Rattle.sefl_grammar.specs.Word.{Word}
use Rattle.sefl_grammar.specs.Table.{Alternative, alternatives}
use Rattle.sefl_grammar.specs.declared.symbol.Symbol.{Symbol}
use Rattle.sefl_grammar.specs.declared.symbol.Symbol.TheVariants.{Start, NodeBody, OldNodeBody, Codes, OldCodes, Instrs, OldInstrs, Value, Ports, MorePorts, Addr, AddrSign, Operand, SumTail, Test, NotEnd, TestTail, Relation, Asks, Name, Number, Port, Offset, Width, Text, OpenBrace, CloseParenthesis, CloseBracket, Arrow}

-- what is to come behind the first of these words that is this one
abbrev pub find : List ℕ → List Alternative → Option (List Symbol)
find word [] = None
find word (a ∷ others) = if bytes_eq word a.0 then Some a.1 else find word others

-- what is to come behind a name
abbrev pub named : Symbol → Option (List Symbol)
named Name = Some []
named Addr = Some (AddrSign ∷ [])
named _ = None

abbrev pub up_to : ℕ → ℕ → List Symbol → Option (List Symbol)
up_to most value then' = if nat_le value most then Some then' else None

-- what is to come behind a number of this value
abbrev pub numbered : Symbol → ℕ → Option (List Symbol)
numbered Number value = Some []
numbered Port value = up_to 4294967295 value []
numbered Offset value = up_to 1048576 value []
numbered Width value = if nat_le 1 value then up_to 128 value [] else None
numbered Addr value = up_to 1048576 value []
numbered Ports value = up_to 4294967295 value (MorePorts ∷ [])
numbered NodeBody value = up_to 4294967295 value (Arrow ∷ Port ∷ OpenBrace ∷ Codes ∷ [])
numbered OldNodeBody value = up_to 4294967295 value (Arrow ∷ Port ∷ OpenBrace ∷ OldCodes ∷ [])
numbered Operand value = Some []
numbered Value value = Some (SumTail ∷ [])
numbered Test value = Some (SumTail ∷ Relation ∷ [])
numbered _ value = None

-- what is to come behind a text
abbrev pub quoted : Symbol → Option (List Symbol)
quoted Text = Some []
quoted _ = None

-- what is to come behind a token of this kind, with this value if it is a number
abbrev pub by_kind : Symbol → TokenKind → ℕ → Option (List Symbol)
by_kind symbol kind.Name value = named symbol
by_kind symbol kind.Number value = numbered symbol value
by_kind symbol kind.Text value = quoted symbol
by_kind symbol kind.Sign value = None

abbrev pub first_of : Option (List Symbol) → Option (List Symbol) → Option (List Symbol)
first_of (Some then') other = Some then'
first_of None other = other

-- what is to come behind the word, where it may stand first in the symbol's place
abbrev pub behind : Symbol → Word → Option (List Symbol)
behind symbol word = first_of (find word.text (alternatives symbol)) (by_kind symbol word.kind (value_of word.text))

-- the symbol may stand for no token
abbrev pub may_end : Symbol → Bool
may_end SumTail = true
may_end NotEnd = true
may_end TestTail = true
may_end Asks = true
may_end _ = false

-- what is to come after a word: what is behind it here, or, where this may end, what comes of it later
abbrev pub chosen : Option (List Symbol) → Bool → List Symbol → Option (List Symbol) → Option (List Symbol)
chosen (Some then') ends rest later = Some (then' ++ rest)
chosen None true rest later = later
chosen None false rest later = None

-- what is to come after the word, where this was to come before it; None where the word may not come
abbrev pub step : List Symbol → Word → Option (List Symbol)
step [] word = None
step (symbol ∷ rest) word = chosen (behind symbol word) (may_end symbol) rest (step rest word)

abbrev pub and_then : Option (List Symbol) → (List Symbol → Option (List Symbol)) → Option (List Symbol)
and_then None next = None
and_then (Some stack) next = next stack

-- what is to come after the words
abbrev pub run : List Symbol → List Word → Option (List Symbol)
run stack [] = Some stack
run stack (word ∷ words) = and_then (step stack word) (λ left. run left words)

-- all words are taken, and nothing more has to come
abbrev pub Accepts : List Word → Type 0
Accepts words = (left : List Symbol) × (run (Start ∷ []) words ≡ Some left) × (list_all may_end left ≡ true)

-- the symbol ends a construct that is open: a block, a bracket, a parenthesis, or a `not`
abbrev pub is_open : Symbol → Bool
is_open Instrs = true
is_open OldInstrs = true
is_open CloseParenthesis = true
is_open CloseBracket = true
is_open NotEnd = true
is_open _ = false

-- how many constructs are open
abbrev pub open_count : List Symbol → ℕ
open_count [] = 0
open_count (symbol ∷ rest) = if is_open symbol then suc (open_count rest) else open_count rest

-- more constructs are open than may be
abbrev pub is_deep : List Symbol → Bool
is_deep stack = nat_lt 64 (open_count stack)

abbrev pub deep_here : ℕ → Option (List Symbol) → (List Symbol → Option ℕ) → Option ℕ
deep_here place None later = None
deep_here place (Some stack) later = if is_deep stack then Some place else later stack

-- the first place after whose word too many constructs are open, where the first word has this place
abbrev pub deep_place : ℕ → List Symbol → List Word → Option ℕ
deep_place place stack [] = None
deep_place place stack (word ∷ words) = deep_here place (step stack word) (λ left. deep_place (suc place) left words)
