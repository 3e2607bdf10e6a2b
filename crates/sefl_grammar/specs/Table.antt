-- The table of the grammar.
use denote.Ref.{Bor}
use Rattle.std.specs.Prelude.{ℕ, List, [], ◌∷◌, codes}
use Rattle.sefl_grammar.specs.declared.symbol.Symbol.{Symbol}
use Rattle.sefl_grammar.specs.declared.symbol.Symbol.TheVariants.{Start, Version, Nodes, OldNodes, Links, NodeBody, OldNodeBody, TableKind, Style, Codes, OldCodes, Block, OldBlock, Instrs, OldInstrs, Value, Ports, MorePorts, Target, Addr, AddrSign, Operand, SumTail, Test, NotEnd, TestTail, Relation, RangeTail, MoreRanges, Tags, Fields, Wheres, FieldTarget, FieldValue, Asks, Question, Side, With, Name, Number, Port, Offset, Width, Text, Semicolon, Colon, Dot, Equals, Arrow, OpenBrace, CloseParenthesis, CloseBracket, In, Else, At}

-- a word, and what is to come behind it
abbrev pub Alternative : Type 0
Alternative = List ℕ × List Symbol

abbrev pub alternative_of : Bor (List ℕ) × Bor (List Symbol) → Alternative
alternative_of a = (a.0.now, a.1.now)

-- the words that may come first in a symbol's place, each with what is to come behind it
abbrev pub alternatives : Symbol → List Alternative
alternatives Start = (codes "symnet", Version ∷ []) ∷ []
alternatives Version = (codes "1", Semicolon ∷ OldNodes ∷ []) ∷ (codes "2", Semicolon ∷ Nodes ∷ []) ∷ []
alternatives Nodes = (codes "node", Name ∷ NodeBody ∷ Nodes ∷ []) ∷ (codes "link", Name ∷ Dot ∷ Port ∷ Arrow ∷ Name ∷ Dot ∷ Port ∷ Semicolon ∷ Links ∷ []) ∷ (codes "inject", Name ∷ Dot ∷ Port ∷ OpenBrace ∷ Tags ∷ Asks ∷ []) ∷ []
alternatives OldNodes = (codes "node", Name ∷ OldNodeBody ∷ OldNodes ∷ []) ∷ (codes "link", Name ∷ Dot ∷ Port ∷ Arrow ∷ Name ∷ Dot ∷ Port ∷ Semicolon ∷ Links ∷ []) ∷ (codes "inject", Name ∷ Dot ∷ Port ∷ OpenBrace ∷ Tags ∷ Asks ∷ []) ∷ []
alternatives Links = (codes "link", Name ∷ Dot ∷ Port ∷ Arrow ∷ Name ∷ Dot ∷ Port ∷ Semicolon ∷ Links ∷ []) ∷ (codes "inject", Name ∷ Dot ∷ Port ∷ OpenBrace ∷ Tags ∷ Asks ∷ []) ∷ []
alternatives NodeBody = (codes "=", TableKind ∷ Text ∷ Style ∷ Semicolon ∷ []) ∷ []
alternatives OldNodeBody = (codes "=", TableKind ∷ Text ∷ Style ∷ Semicolon ∷ []) ∷ []
alternatives TableKind = (codes "mac", []) ∷ (codes "fib", []) ∷ []
alternatives Style = (codes "chain", []) ∷ (codes "grouped", []) ∷ (codes "egress", []) ∷ []
alternatives Codes = (codes "in", Port ∷ Block ∷ Codes ∷ []) ∷ (codes "out", Port ∷ Block ∷ Codes ∷ []) ∷ (codes "}", []) ∷ []
alternatives OldCodes = (codes "in", Port ∷ OldBlock ∷ OldCodes ∷ []) ∷ (codes "out", Port ∷ OldBlock ∷ OldCodes ∷ []) ∷ (codes "}", []) ∷ []
alternatives Block = (codes "{", Instrs ∷ []) ∷ []
alternatives OldBlock = (codes "{", OldInstrs ∷ []) ∷ []
alternatives Instrs = (codes "}", []) ∷ (codes "allocate", Target ∷ Semicolon ∷ Instrs ∷ []) ∷ (codes "deallocate", Target ∷ Semicolon ∷ Instrs ∷ []) ∷ (codes "set", Target ∷ Equals ∷ Value ∷ Semicolon ∷ Instrs ∷ []) ∷ (codes "tag", Name ∷ Equals ∷ Addr ∷ Semicolon ∷ Instrs ∷ []) ∷ (codes "retag", Name ∷ Equals ∷ Addr ∷ Semicolon ∷ Instrs ∷ []) ∷ (codes "untag", Name ∷ Semicolon ∷ Instrs ∷ []) ∷ (codes "constrain", Test ∷ TestTail ∷ Semicolon ∷ Instrs ∷ []) ∷ (codes "fail", Text ∷ Semicolon ∷ Instrs ∷ []) ∷ (codes "if", Test ∷ TestTail ∷ Block ∷ Else ∷ Block ∷ Instrs ∷ []) ∷ (codes "for", Name ∷ In ∷ Text ∷ Block ∷ Instrs ∷ []) ∷ (codes "forward", Port ∷ Semicolon ∷ Instrs ∷ []) ∷ (codes "fork", Ports ∷ Instrs ∷ []) ∷ (codes "noop", Semicolon ∷ Instrs ∷ []) ∷ (codes "{", Instrs ∷ Instrs ∷ []) ∷ []
alternatives OldInstrs = (codes "}", []) ∷ (codes "allocate", Target ∷ Semicolon ∷ OldInstrs ∷ []) ∷ (codes "deallocate", Target ∷ Semicolon ∷ OldInstrs ∷ []) ∷ (codes "set", Target ∷ Equals ∷ Value ∷ Semicolon ∷ OldInstrs ∷ []) ∷ (codes "tag", Name ∷ Equals ∷ Addr ∷ Semicolon ∷ OldInstrs ∷ []) ∷ (codes "untag", Name ∷ Semicolon ∷ OldInstrs ∷ []) ∷ (codes "constrain", Test ∷ TestTail ∷ Semicolon ∷ OldInstrs ∷ []) ∷ (codes "fail", Text ∷ Semicolon ∷ OldInstrs ∷ []) ∷ (codes "if", Test ∷ TestTail ∷ OldBlock ∷ Else ∷ OldBlock ∷ OldInstrs ∷ []) ∷ (codes "for", Name ∷ In ∷ Text ∷ OldBlock ∷ OldInstrs ∷ []) ∷ (codes "forward", Port ∷ Semicolon ∷ OldInstrs ∷ []) ∷ (codes "fork", Ports ∷ OldInstrs ∷ []) ∷ (codes "noop", Semicolon ∷ OldInstrs ∷ []) ∷ (codes "{", OldInstrs ∷ OldInstrs ∷ []) ∷ []
alternatives Value = (codes "any", []) ∷ (codes "head", Addr ∷ Colon ∷ Width ∷ SumTail ∷ []) ∷ (codes "global", Name ∷ Colon ∷ Width ∷ SumTail ∷ []) ∷ (codes "local", Name ∷ Colon ∷ Width ∷ SumTail ∷ []) ∷ (codes "$", Name ∷ Colon ∷ Width ∷ SumTail ∷ []) ∷ (codes "(", Operand ∷ SumTail ∷ CloseParenthesis ∷ SumTail ∷ []) ∷ []
alternatives Ports = (codes ";", []) ∷ []
alternatives MorePorts = (codes ",", Port ∷ MorePorts ∷ []) ∷ (codes ";", []) ∷ []
alternatives Target = (codes "head", Addr ∷ Colon ∷ Width ∷ []) ∷ (codes "global", Name ∷ Colon ∷ Width ∷ []) ∷ (codes "local", Name ∷ Colon ∷ Width ∷ []) ∷ (codes "$", Name ∷ Colon ∷ Width ∷ []) ∷ []
alternatives Addr = (codes "-", Offset ∷ []) ∷ []
alternatives AddrSign = (codes "+", Offset ∷ []) ∷ (codes "-", Offset ∷ []) ∷ []
alternatives Operand = (codes "head", Addr ∷ Colon ∷ Width ∷ []) ∷ (codes "global", Name ∷ Colon ∷ Width ∷ []) ∷ (codes "local", Name ∷ Colon ∷ Width ∷ []) ∷ (codes "$", Name ∷ Colon ∷ Width ∷ []) ∷ (codes "(", Operand ∷ SumTail ∷ CloseParenthesis ∷ []) ∷ []
alternatives SumTail = (codes "+", Operand ∷ SumTail ∷ []) ∷ (codes "-", Operand ∷ SumTail ∷ []) ∷ []
alternatives Test = (codes "not", Test ∷ NotEnd ∷ []) ∷ (codes "true", []) ∷ (codes "[", Test ∷ TestTail ∷ CloseBracket ∷ []) ∷ (codes "head", Addr ∷ Colon ∷ Width ∷ SumTail ∷ Relation ∷ []) ∷ (codes "global", Name ∷ Colon ∷ Width ∷ SumTail ∷ Relation ∷ []) ∷ (codes "local", Name ∷ Colon ∷ Width ∷ SumTail ∷ Relation ∷ []) ∷ (codes "$", Name ∷ Colon ∷ Width ∷ SumTail ∷ Relation ∷ []) ∷ (codes "(", Operand ∷ SumTail ∷ CloseParenthesis ∷ SumTail ∷ Relation ∷ []) ∷ []
alternatives NotEnd = []
alternatives TestTail = (codes "and", Test ∷ TestTail ∷ []) ∷ (codes "or", Test ∷ TestTail ∷ []) ∷ []
alternatives Relation = (codes "==", Operand ∷ SumTail ∷ []) ∷ (codes "!=", Operand ∷ SumTail ∷ []) ∷ (codes "<", Operand ∷ SumTail ∷ []) ∷ (codes "<=", Operand ∷ SumTail ∷ []) ∷ (codes ">", Operand ∷ SumTail ∷ []) ∷ (codes ">=", Operand ∷ SumTail ∷ []) ∷ (codes "in", OpenBrace ∷ Number ∷ RangeTail ∷ []) ∷ []
alternatives RangeTail = (codes "..", Number ∷ MoreRanges ∷ []) ∷ (codes ",", Number ∷ RangeTail ∷ []) ∷ (codes "}", []) ∷ []
alternatives MoreRanges = (codes ",", Number ∷ RangeTail ∷ []) ∷ (codes "}", []) ∷ []
alternatives Tags = (codes "tag", Name ∷ Equals ∷ Addr ∷ Semicolon ∷ Tags ∷ []) ∷ (codes "field", FieldTarget ∷ FieldValue ∷ Fields ∷ []) ∷ (codes "where", Test ∷ TestTail ∷ Semicolon ∷ Wheres ∷ []) ∷ (codes "}", []) ∷ []
alternatives Fields = (codes "field", FieldTarget ∷ FieldValue ∷ Fields ∷ []) ∷ (codes "where", Test ∷ TestTail ∷ Semicolon ∷ Wheres ∷ []) ∷ (codes "}", []) ∷ []
alternatives Wheres = (codes "where", Test ∷ TestTail ∷ Semicolon ∷ Wheres ∷ []) ∷ (codes "}", []) ∷ []
alternatives FieldTarget = (codes "head", Addr ∷ Colon ∷ Width ∷ []) ∷ (codes "global", Name ∷ Colon ∷ Width ∷ []) ∷ []
alternatives FieldValue = (codes "=", Number ∷ Semicolon ∷ []) ∷ (codes ";", []) ∷ []
alternatives Asks = (codes "ask", Question ∷ Asks ∷ []) ∷ []
alternatives Question = (codes "reach", Side ∷ Name ∷ Dot ∷ Port ∷ With ∷ []) ∷ (codes "invariant", Target ∷ At ∷ Side ∷ Name ∷ Dot ∷ Port ∷ Semicolon ∷ []) ∷ (codes "visible", Target ∷ At ∷ Side ∷ Name ∷ Dot ∷ Port ∷ Semicolon ∷ []) ∷ []
alternatives Side = (codes "in", []) ∷ (codes "out", []) ∷ []
alternatives With = (codes ";", []) ∷ (codes "with", Test ∷ TestTail ∷ Semicolon ∷ []) ∷ []
alternatives Name = []
alternatives Number = []
alternatives Port = []
alternatives Offset = []
alternatives Width = []
alternatives Text = []
alternatives Semicolon = (codes ";", []) ∷ []
alternatives Colon = (codes ":", []) ∷ []
alternatives Dot = (codes ".", []) ∷ []
alternatives Equals = (codes "=", []) ∷ []
alternatives Arrow = (codes "->", []) ∷ []
alternatives OpenBrace = (codes "{", []) ∷ []
alternatives CloseParenthesis = (codes ")", []) ∷ []
alternatives CloseBracket = (codes "]", []) ∷ []
alternatives In = (codes "in", []) ∷ []
alternatives Else = (codes "else", []) ∷ []
alternatives At = (codes "at", []) ∷ []
