-- Each stack can be led to an end.
use Rattle.std.proofs.Common.{◌≡◌, ℕ, Bool, true, false, List, [], ◌∷◌, ◌++◌, None, Some, codes, refl, sym, true≢false}
use Rattle.std.proofs.lemmas.Bool.{and_parts}
use Rattle.std.specs.List.{list_all}
use Rattle.sefl_lex.specs.Words.{value_of, is_number, are_digits, have_value}
use Rattle.sefl_lex.specs.declared.token.TokenKind.TheVariants as kind
use Rattle.sefl_grammar.specs.Word.{Word, AreWords}
use Rattle.sefl_grammar.specs.Automaton.{behind, may_end, step, run}
use Rattle.sefl_grammar.specs.declared.symbol.Symbol.{Symbol}
use Rattle.sefl_grammar.specs.declared.symbol.Symbol.TheVariants.{Start, Version, Nodes, OldNodes, Links, NodeBody, OldNodeBody, TableKind, Style, Codes, OldCodes, Block, OldBlock, Instrs, OldInstrs, Value, Ports, MorePorts, Target, Addr, AddrSign, Operand, SumTail, Test, NotEnd, TestTail, Relation, RangeTail, MoreRanges, Tags, Fields, Wheres, FieldTarget, FieldValue, Asks, Question, Side, With, Name, Number, Port, Offset, Width, Text, Semicolon, Colon, Dot, Equals, Arrow, OpenBrace, CloseParenthesis, CloseBracket, In, Else, At}

abbrev name : List ℕ → Word
name text = record { kind = kind.Name; text = text }

abbrev number : List ℕ → Word
number text = record { kind = kind.Number; text = text }

abbrev sign : List ℕ → Word
sign text = record { kind = kind.Sign; text = text }

abbrev text : List ℕ → Word
text bytes = record { kind = kind.Text; text = bytes }

-- few words that end what a symbol stands for
abbrev pub closing : Symbol → List Word
closing Start = name (codes "symnet") ∷ number (codes "1") ∷ sign (codes ";") ∷ name (codes "inject") ∷ name (codes "a") ∷ sign (codes ".") ∷ number (codes "1") ∷ sign (codes "{") ∷ sign (codes "}") ∷ []
closing Version = number (codes "1") ∷ sign (codes ";") ∷ name (codes "inject") ∷ name (codes "a") ∷ sign (codes ".") ∷ number (codes "1") ∷ sign (codes "{") ∷ sign (codes "}") ∷ []
closing Nodes = name (codes "inject") ∷ name (codes "a") ∷ sign (codes ".") ∷ number (codes "1") ∷ sign (codes "{") ∷ sign (codes "}") ∷ []
closing OldNodes = name (codes "inject") ∷ name (codes "a") ∷ sign (codes ".") ∷ number (codes "1") ∷ sign (codes "{") ∷ sign (codes "}") ∷ []
closing Links = name (codes "inject") ∷ name (codes "a") ∷ sign (codes ".") ∷ number (codes "1") ∷ sign (codes "{") ∷ sign (codes "}") ∷ []
closing NodeBody = number (codes "1") ∷ sign (codes "->") ∷ number (codes "1") ∷ sign (codes "{") ∷ sign (codes "}") ∷ []
closing OldNodeBody = number (codes "1") ∷ sign (codes "->") ∷ number (codes "1") ∷ sign (codes "{") ∷ sign (codes "}") ∷ []
closing TableKind = name (codes "mac") ∷ []
closing Style = name (codes "chain") ∷ []
closing Codes = sign (codes "}") ∷ []
closing OldCodes = sign (codes "}") ∷ []
closing Block = sign (codes "{") ∷ sign (codes "}") ∷ []
closing OldBlock = sign (codes "{") ∷ sign (codes "}") ∷ []
closing Instrs = sign (codes "}") ∷ []
closing OldInstrs = sign (codes "}") ∷ []
closing Value = name (codes "any") ∷ []
closing Ports = sign (codes ";") ∷ []
closing MorePorts = sign (codes ";") ∷ []
closing Target = sign (codes "$") ∷ name (codes "a") ∷ sign (codes ":") ∷ number (codes "1") ∷ []
closing Addr = number (codes "1") ∷ []
closing AddrSign = sign (codes "+") ∷ number (codes "1") ∷ []
closing Operand = number (codes "1") ∷ []
closing SumTail = []
closing Test = name (codes "true") ∷ []
closing NotEnd = []
closing TestTail = []
closing Relation = sign (codes "==") ∷ number (codes "1") ∷ []
closing RangeTail = sign (codes "}") ∷ []
closing MoreRanges = sign (codes "}") ∷ []
closing Tags = sign (codes "}") ∷ []
closing Fields = sign (codes "}") ∷ []
closing Wheres = sign (codes "}") ∷ []
closing FieldTarget = name (codes "global") ∷ name (codes "a") ∷ sign (codes ":") ∷ number (codes "1") ∷ []
closing FieldValue = sign (codes ";") ∷ []
closing Asks = []
closing Question = name (codes "reach") ∷ name (codes "in") ∷ name (codes "a") ∷ sign (codes ".") ∷ number (codes "1") ∷ sign (codes ";") ∷ []
closing Side = name (codes "in") ∷ []
closing With = sign (codes ";") ∷ []
closing Name = name (codes "a") ∷ []
closing Number = number (codes "1") ∷ []
closing Port = number (codes "1") ∷ []
closing Offset = number (codes "1") ∷ []
closing Width = number (codes "1") ∷ []
closing Text = text (codes "\"\"") ∷ []
closing Semicolon = sign (codes ";") ∷ []
closing Colon = sign (codes ":") ∷ []
closing Dot = sign (codes ".") ∷ []
closing Equals = sign (codes "=") ∷ []
closing Arrow = sign (codes "->") ∷ []
closing OpenBrace = sign (codes "{") ∷ []
closing CloseParenthesis = sign (codes ")") ∷ []
closing CloseBracket = sign (codes "]") ∷ []
closing In = name (codes "in") ∷ []
closing Else = name (codes "else") ∷ []
closing At = name (codes "at") ∷ []

-- what may stand below the top of a stack: a sign behind a tag stands on top alone
abbrev pub is_inner : Symbol → Bool
is_inner AddrSign = false
is_inner _ = true

-- a word behind which nothing that may end goes on
pub record IsPlain (word : Word) : Type 0 where
  pub sum : behind SumTail word ≡ None
  pub opposite : behind NotEnd word ≡ None
  pub chain : behind TestTail word ≡ None
  pub asks : behind Asks word ≡ None

ends_on : (symbol : Symbol) (word : Word) → may_end symbol ≡ true → IsPlain word → behind symbol word ≡ None
ends_on Start word ends plain = absurd (true≢false (sym ends))
ends_on Version word ends plain = absurd (true≢false (sym ends))
ends_on Nodes word ends plain = absurd (true≢false (sym ends))
ends_on OldNodes word ends plain = absurd (true≢false (sym ends))
ends_on Links word ends plain = absurd (true≢false (sym ends))
ends_on NodeBody word ends plain = absurd (true≢false (sym ends))
ends_on OldNodeBody word ends plain = absurd (true≢false (sym ends))
ends_on TableKind word ends plain = absurd (true≢false (sym ends))
ends_on Style word ends plain = absurd (true≢false (sym ends))
ends_on Codes word ends plain = absurd (true≢false (sym ends))
ends_on OldCodes word ends plain = absurd (true≢false (sym ends))
ends_on Block word ends plain = absurd (true≢false (sym ends))
ends_on OldBlock word ends plain = absurd (true≢false (sym ends))
ends_on Instrs word ends plain = absurd (true≢false (sym ends))
ends_on OldInstrs word ends plain = absurd (true≢false (sym ends))
ends_on Value word ends plain = absurd (true≢false (sym ends))
ends_on Ports word ends plain = absurd (true≢false (sym ends))
ends_on MorePorts word ends plain = absurd (true≢false (sym ends))
ends_on Target word ends plain = absurd (true≢false (sym ends))
ends_on Addr word ends plain = absurd (true≢false (sym ends))
ends_on AddrSign word ends plain = absurd (true≢false (sym ends))
ends_on Operand word ends plain = absurd (true≢false (sym ends))
ends_on SumTail word ends plain = plain.sum
ends_on Test word ends plain = absurd (true≢false (sym ends))
ends_on NotEnd word ends plain = plain.opposite
ends_on TestTail word ends plain = plain.chain
ends_on Relation word ends plain = absurd (true≢false (sym ends))
ends_on RangeTail word ends plain = absurd (true≢false (sym ends))
ends_on MoreRanges word ends plain = absurd (true≢false (sym ends))
ends_on Tags word ends plain = absurd (true≢false (sym ends))
ends_on Fields word ends plain = absurd (true≢false (sym ends))
ends_on Wheres word ends plain = absurd (true≢false (sym ends))
ends_on FieldTarget word ends plain = absurd (true≢false (sym ends))
ends_on FieldValue word ends plain = absurd (true≢false (sym ends))
ends_on Asks word ends plain = plain.asks
ends_on Question word ends plain = absurd (true≢false (sym ends))
ends_on Side word ends plain = absurd (true≢false (sym ends))
ends_on With word ends plain = absurd (true≢false (sym ends))
ends_on Name word ends plain = absurd (true≢false (sym ends))
ends_on Number word ends plain = absurd (true≢false (sym ends))
ends_on Port word ends plain = absurd (true≢false (sym ends))
ends_on Offset word ends plain = absurd (true≢false (sym ends))
ends_on Width word ends plain = absurd (true≢false (sym ends))
ends_on Text word ends plain = absurd (true≢false (sym ends))
ends_on Semicolon word ends plain = absurd (true≢false (sym ends))
ends_on Colon word ends plain = absurd (true≢false (sym ends))
ends_on Dot word ends plain = absurd (true≢false (sym ends))
ends_on Equals word ends plain = absurd (true≢false (sym ends))
ends_on Arrow word ends plain = absurd (true≢false (sym ends))
ends_on OpenBrace word ends plain = absurd (true≢false (sym ends))
ends_on CloseParenthesis word ends plain = absurd (true≢false (sym ends))
ends_on CloseBracket word ends plain = absurd (true≢false (sym ends))
ends_on In word ends plain = absurd (true≢false (sym ends))
ends_on Else word ends plain = absurd (true≢false (sym ends))
ends_on At word ends plain = absurd (true≢false (sym ends))

-- a plain word is not for what may end
pub skips : (ends rest : List Symbol) (word : Word) → list_all may_end ends ≡ true → IsPlain word → step (ends ++ rest) word ≡ step rest word
skips [] rest word all plain = refl
skips (symbol ∷ ends) rest word all plain =
    let here = (and_parts (may_end symbol) (list_all may_end ends) all).0 in
    rw (ends_on symbol word here plain, here) (skips ends rest word (and_parts (may_end symbol) (list_all may_end ends) all).1 plain)

-- some words end what the symbol stands for, but for what may end
pub record Closes (symbol : Symbol) (rest : List Symbol) : Type 0 where
  pub left : List Symbol
  pub may : list_all may_end left ≡ true
  pub done : run (symbol ∷ rest) (closing symbol) ≡ Some (left ++ rest)

pub closes : (symbol : Symbol) (rest : List Symbol) → may_end symbol ≡ false → Closes symbol rest
unfolding value_of are_digits have_value
closes Start rest h = record { left = Asks ∷ []; may = refl; done = refl }
closes Version rest h = record { left = Asks ∷ []; may = refl; done = refl }
closes Nodes rest h = record { left = Asks ∷ []; may = refl; done = refl }
closes OldNodes rest h = record { left = Asks ∷ []; may = refl; done = refl }
closes Links rest h = record { left = Asks ∷ []; may = refl; done = refl }
closes NodeBody rest h = record { left = []; may = refl; done = refl }
closes OldNodeBody rest h = record { left = []; may = refl; done = refl }
closes TableKind rest h = record { left = []; may = refl; done = refl }
closes Style rest h = record { left = []; may = refl; done = refl }
closes Codes rest h = record { left = []; may = refl; done = refl }
closes OldCodes rest h = record { left = []; may = refl; done = refl }
closes Block rest h = record { left = []; may = refl; done = refl }
closes OldBlock rest h = record { left = []; may = refl; done = refl }
closes Instrs rest h = record { left = []; may = refl; done = refl }
closes OldInstrs rest h = record { left = []; may = refl; done = refl }
closes Value rest h = record { left = []; may = refl; done = refl }
closes Ports rest h = record { left = []; may = refl; done = refl }
closes MorePorts rest h = record { left = []; may = refl; done = refl }
closes Target rest h = record { left = []; may = refl; done = refl }
closes Addr rest h = record { left = []; may = refl; done = refl }
closes AddrSign rest h = record { left = []; may = refl; done = refl }
closes Operand rest h = record { left = []; may = refl; done = refl }
closes SumTail rest h = absurd (true≢false h)
closes Test rest h = record { left = []; may = refl; done = refl }
closes NotEnd rest h = absurd (true≢false h)
closes TestTail rest h = absurd (true≢false h)
closes Relation rest h = record { left = SumTail ∷ []; may = refl; done = refl }
closes RangeTail rest h = record { left = []; may = refl; done = refl }
closes MoreRanges rest h = record { left = []; may = refl; done = refl }
closes Tags rest h = record { left = []; may = refl; done = refl }
closes Fields rest h = record { left = []; may = refl; done = refl }
closes Wheres rest h = record { left = []; may = refl; done = refl }
closes FieldTarget rest h = record { left = []; may = refl; done = refl }
closes FieldValue rest h = record { left = []; may = refl; done = refl }
closes Asks rest h = absurd (true≢false h)
closes Question rest h = record { left = []; may = refl; done = refl }
closes Side rest h = record { left = []; may = refl; done = refl }
closes With rest h = record { left = []; may = refl; done = refl }
closes Name rest h = record { left = []; may = refl; done = refl }
closes Number rest h = record { left = []; may = refl; done = refl }
closes Port rest h = record { left = []; may = refl; done = refl }
closes Offset rest h = record { left = []; may = refl; done = refl }
closes Width rest h = record { left = []; may = refl; done = refl }
closes Text rest h = record { left = []; may = refl; done = refl }
closes Semicolon rest h = record { left = []; may = refl; done = refl }
closes Colon rest h = record { left = []; may = refl; done = refl }
closes Dot rest h = record { left = []; may = refl; done = refl }
closes Equals rest h = record { left = []; may = refl; done = refl }
closes Arrow rest h = record { left = []; may = refl; done = refl }
closes OpenBrace rest h = record { left = []; may = refl; done = refl }
closes CloseParenthesis rest h = record { left = []; may = refl; done = refl }
closes CloseBracket rest h = record { left = []; may = refl; done = refl }
closes In rest h = record { left = []; may = refl; done = refl }
closes Else rest h = record { left = []; may = refl; done = refl }
closes At rest h = record { left = []; may = refl; done = refl }

pub record Starts (words : List Word) : Type 0 where
  pub first : Word
  pub others : List Word
  pub is : words ≡ first ∷ others
  pub plain : IsPlain first

pub starts : (symbol : Symbol) → is_inner symbol ≡ true → may_end symbol ≡ false → Starts (closing symbol)
unfolding value_of are_digits have_value
starts Start inner h = record { first = _; others = _; is = refl; plain = record { sum = refl; opposite = refl; chain = refl; asks = refl } }
starts Version inner h = record { first = _; others = _; is = refl; plain = record { sum = refl; opposite = refl; chain = refl; asks = refl } }
starts Nodes inner h = record { first = _; others = _; is = refl; plain = record { sum = refl; opposite = refl; chain = refl; asks = refl } }
starts OldNodes inner h = record { first = _; others = _; is = refl; plain = record { sum = refl; opposite = refl; chain = refl; asks = refl } }
starts Links inner h = record { first = _; others = _; is = refl; plain = record { sum = refl; opposite = refl; chain = refl; asks = refl } }
starts NodeBody inner h = record { first = _; others = _; is = refl; plain = record { sum = refl; opposite = refl; chain = refl; asks = refl } }
starts OldNodeBody inner h = record { first = _; others = _; is = refl; plain = record { sum = refl; opposite = refl; chain = refl; asks = refl } }
starts TableKind inner h = record { first = _; others = _; is = refl; plain = record { sum = refl; opposite = refl; chain = refl; asks = refl } }
starts Style inner h = record { first = _; others = _; is = refl; plain = record { sum = refl; opposite = refl; chain = refl; asks = refl } }
starts Codes inner h = record { first = _; others = _; is = refl; plain = record { sum = refl; opposite = refl; chain = refl; asks = refl } }
starts OldCodes inner h = record { first = _; others = _; is = refl; plain = record { sum = refl; opposite = refl; chain = refl; asks = refl } }
starts Block inner h = record { first = _; others = _; is = refl; plain = record { sum = refl; opposite = refl; chain = refl; asks = refl } }
starts OldBlock inner h = record { first = _; others = _; is = refl; plain = record { sum = refl; opposite = refl; chain = refl; asks = refl } }
starts Instrs inner h = record { first = _; others = _; is = refl; plain = record { sum = refl; opposite = refl; chain = refl; asks = refl } }
starts OldInstrs inner h = record { first = _; others = _; is = refl; plain = record { sum = refl; opposite = refl; chain = refl; asks = refl } }
starts Value inner h = record { first = _; others = _; is = refl; plain = record { sum = refl; opposite = refl; chain = refl; asks = refl } }
starts Ports inner h = record { first = _; others = _; is = refl; plain = record { sum = refl; opposite = refl; chain = refl; asks = refl } }
starts MorePorts inner h = record { first = _; others = _; is = refl; plain = record { sum = refl; opposite = refl; chain = refl; asks = refl } }
starts Target inner h = record { first = _; others = _; is = refl; plain = record { sum = refl; opposite = refl; chain = refl; asks = refl } }
starts Addr inner h = record { first = _; others = _; is = refl; plain = record { sum = refl; opposite = refl; chain = refl; asks = refl } }
starts AddrSign inner h = absurd (true≢false (sym inner))
starts Operand inner h = record { first = _; others = _; is = refl; plain = record { sum = refl; opposite = refl; chain = refl; asks = refl } }
starts SumTail inner h = absurd (true≢false h)
starts Test inner h = record { first = _; others = _; is = refl; plain = record { sum = refl; opposite = refl; chain = refl; asks = refl } }
starts NotEnd inner h = absurd (true≢false h)
starts TestTail inner h = absurd (true≢false h)
starts Relation inner h = record { first = _; others = _; is = refl; plain = record { sum = refl; opposite = refl; chain = refl; asks = refl } }
starts RangeTail inner h = record { first = _; others = _; is = refl; plain = record { sum = refl; opposite = refl; chain = refl; asks = refl } }
starts MoreRanges inner h = record { first = _; others = _; is = refl; plain = record { sum = refl; opposite = refl; chain = refl; asks = refl } }
starts Tags inner h = record { first = _; others = _; is = refl; plain = record { sum = refl; opposite = refl; chain = refl; asks = refl } }
starts Fields inner h = record { first = _; others = _; is = refl; plain = record { sum = refl; opposite = refl; chain = refl; asks = refl } }
starts Wheres inner h = record { first = _; others = _; is = refl; plain = record { sum = refl; opposite = refl; chain = refl; asks = refl } }
starts FieldTarget inner h = record { first = _; others = _; is = refl; plain = record { sum = refl; opposite = refl; chain = refl; asks = refl } }
starts FieldValue inner h = record { first = _; others = _; is = refl; plain = record { sum = refl; opposite = refl; chain = refl; asks = refl } }
starts Asks inner h = absurd (true≢false h)
starts Question inner h = record { first = _; others = _; is = refl; plain = record { sum = refl; opposite = refl; chain = refl; asks = refl } }
starts Side inner h = record { first = _; others = _; is = refl; plain = record { sum = refl; opposite = refl; chain = refl; asks = refl } }
starts With inner h = record { first = _; others = _; is = refl; plain = record { sum = refl; opposite = refl; chain = refl; asks = refl } }
starts Name inner h = record { first = _; others = _; is = refl; plain = record { sum = refl; opposite = refl; chain = refl; asks = refl } }
starts Number inner h = record { first = _; others = _; is = refl; plain = record { sum = refl; opposite = refl; chain = refl; asks = refl } }
starts Port inner h = record { first = _; others = _; is = refl; plain = record { sum = refl; opposite = refl; chain = refl; asks = refl } }
starts Offset inner h = record { first = _; others = _; is = refl; plain = record { sum = refl; opposite = refl; chain = refl; asks = refl } }
starts Width inner h = record { first = _; others = _; is = refl; plain = record { sum = refl; opposite = refl; chain = refl; asks = refl } }
starts Text inner h = record { first = _; others = _; is = refl; plain = record { sum = refl; opposite = refl; chain = refl; asks = refl } }
starts Semicolon inner h = record { first = _; others = _; is = refl; plain = record { sum = refl; opposite = refl; chain = refl; asks = refl } }
starts Colon inner h = record { first = _; others = _; is = refl; plain = record { sum = refl; opposite = refl; chain = refl; asks = refl } }
starts Dot inner h = record { first = _; others = _; is = refl; plain = record { sum = refl; opposite = refl; chain = refl; asks = refl } }
starts Equals inner h = record { first = _; others = _; is = refl; plain = record { sum = refl; opposite = refl; chain = refl; asks = refl } }
starts Arrow inner h = record { first = _; others = _; is = refl; plain = record { sum = refl; opposite = refl; chain = refl; asks = refl } }
starts OpenBrace inner h = record { first = _; others = _; is = refl; plain = record { sum = refl; opposite = refl; chain = refl; asks = refl } }
starts CloseParenthesis inner h = record { first = _; others = _; is = refl; plain = record { sum = refl; opposite = refl; chain = refl; asks = refl } }
starts CloseBracket inner h = record { first = _; others = _; is = refl; plain = record { sum = refl; opposite = refl; chain = refl; asks = refl } }
starts In inner h = record { first = _; others = _; is = refl; plain = record { sum = refl; opposite = refl; chain = refl; asks = refl } }
starts Else inner h = record { first = _; others = _; is = refl; plain = record { sum = refl; opposite = refl; chain = refl; asks = refl } }
starts At inner h = record { first = _; others = _; is = refl; plain = record { sum = refl; opposite = refl; chain = refl; asks = refl } }

-- each of these words is one of its kind
pub closing_words : (symbol : Symbol) → AreWords (closing symbol)
unfolding is_number are_digits have_value
closing_words Start = (refl, (refl, (refl, (refl, (refl, (refl, (refl, (refl, (refl, tt)))))))))
closing_words Version = (refl, (refl, (refl, (refl, (refl, (refl, (refl, (refl, tt))))))))
closing_words Nodes = (refl, (refl, (refl, (refl, (refl, (refl, tt))))))
closing_words OldNodes = (refl, (refl, (refl, (refl, (refl, (refl, tt))))))
closing_words Links = (refl, (refl, (refl, (refl, (refl, (refl, tt))))))
closing_words NodeBody = (refl, (refl, (refl, (refl, (refl, tt)))))
closing_words OldNodeBody = (refl, (refl, (refl, (refl, (refl, tt)))))
closing_words TableKind = (refl, tt)
closing_words Style = (refl, tt)
closing_words Codes = (refl, tt)
closing_words OldCodes = (refl, tt)
closing_words Block = (refl, (refl, tt))
closing_words OldBlock = (refl, (refl, tt))
closing_words Instrs = (refl, tt)
closing_words OldInstrs = (refl, tt)
closing_words Value = (refl, tt)
closing_words Ports = (refl, tt)
closing_words MorePorts = (refl, tt)
closing_words Target = (refl, (refl, (refl, (refl, tt))))
closing_words Addr = (refl, tt)
closing_words AddrSign = (refl, (refl, tt))
closing_words Operand = (refl, tt)
closing_words SumTail = tt
closing_words Test = (refl, tt)
closing_words NotEnd = tt
closing_words TestTail = tt
closing_words Relation = (refl, (refl, tt))
closing_words RangeTail = (refl, tt)
closing_words MoreRanges = (refl, tt)
closing_words Tags = (refl, tt)
closing_words Fields = (refl, tt)
closing_words Wheres = (refl, tt)
closing_words FieldTarget = (refl, (refl, (refl, (refl, tt))))
closing_words FieldValue = (refl, tt)
closing_words Asks = tt
closing_words Question = (refl, (refl, (refl, (refl, (refl, (refl, tt))))))
closing_words Side = (refl, tt)
closing_words With = (refl, tt)
closing_words Name = (refl, tt)
closing_words Number = (refl, tt)
closing_words Port = (refl, tt)
closing_words Offset = (refl, tt)
closing_words Width = (refl, tt)
closing_words Text = (([], refl, refl), tt)
closing_words Semicolon = (refl, tt)
closing_words Colon = (refl, tt)
closing_words Dot = (refl, tt)
closing_words Equals = (refl, tt)
closing_words Arrow = (refl, tt)
closing_words OpenBrace = (refl, tt)
closing_words CloseParenthesis = (refl, tt)
closing_words CloseBracket = (refl, tt)
closing_words In = (refl, tt)
closing_words Else = (refl, tt)
closing_words At = (refl, tt)
