-- A sign behind a tag stands on top of a stack alone.
use Rattle.std.proofs.Common.{◌≡◌, ℕ, ◌⊎◌, inl, inr, Bool, true, false, List, [], ◌∷◌, ◌++◌, Option, None, Some, refl, sym, ap, ◌∙◌, true≢false, bytes_eq, nat_le, if◌then◌else◌, subst}
use Rattle.std.proofs.lemmas.Option.{none-some, same_Some}
use Rattle.std.proofs.lemmas.Bool.{and_parts}
use Rattle.std.specs.List.{list_all}
use Rattle.sefl_lex.specs.Words.{value_of}
use Rattle.sefl_lex.specs.declared.token.TokenKind.{TokenKind}
use Rattle.sefl_lex.specs.declared.token.TokenKind.TheVariants as kind
use Rattle.sefl_grammar.specs.Table.{Alternative, alternatives}
use Rattle.sefl_grammar.specs.Word.{Word, AreWords}
use Rattle.sefl_grammar.specs.Automaton.{find, first_of, by_kind, named, numbered, quoted, behind, may_end, chosen, step, and_then, run}
use Rattle.sefl_grammar.proofs.Closings.{closing, closes, is_inner, closing_words}
use Rattle.sefl_grammar.proofs.Runs.{and_true, below_ends, all_append, inner_ends, run_append, words_append}
use Rattle.sefl_grammar.specs.declared.symbol.Symbol.{Symbol}
use Rattle.sefl_grammar.specs.declared.symbol.Symbol.TheVariants.{Start, Version, Nodes, OldNodes, Links, NodeBody, OldNodeBody, TableKind, Style, Codes, OldCodes, Block, OldBlock, Instrs, OldInstrs, Value, Ports, MorePorts, Target, Addr, AddrSign, Operand, SumTail, Test, NotEnd, TestTail, Relation, RangeTail, MoreRanges, Tags, Fields, Wheres, FieldTarget, FieldValue, Asks, Question, Side, With, Name, Number, Port, Offset, Width, Text, Semicolon, Colon, Dot, Equals, Arrow, OpenBrace, CloseParenthesis, CloseBracket, In, Else, At}

-- below the top no sign behind a tag stands
abbrev pub IsWell : List Symbol → Type 0
IsWell [] = Unit {0}
IsWell (symbol ∷ rest) = list_all is_inner rest ≡ true

-- what comes behind a word: no sign behind a tag, or that alone
abbrev pub ComesWell : List Symbol → Type 0
ComesWell then' = (list_all is_inner then' ≡ true) ⊎ (then' ≡ AddrSign ∷ [])

abbrev all_inner : Alternative → Bool
all_inner a = list_all is_inner a.1

table_inner : (symbol : Symbol) → list_all all_inner (alternatives symbol) ≡ true
table_inner Start = refl
table_inner Version = refl
table_inner Nodes = refl
table_inner OldNodes = refl
table_inner Links = refl
table_inner NodeBody = refl
table_inner OldNodeBody = refl
table_inner TableKind = refl
table_inner Style = refl
table_inner Codes = refl
table_inner OldCodes = refl
table_inner Block = refl
table_inner OldBlock = refl
table_inner Instrs = refl
table_inner OldInstrs = refl
table_inner Value = refl
table_inner Ports = refl
table_inner MorePorts = refl
table_inner Target = refl
table_inner Addr = refl
table_inner AddrSign = refl
table_inner Operand = refl
table_inner SumTail = refl
table_inner Test = refl
table_inner NotEnd = refl
table_inner TestTail = refl
table_inner Relation = refl
table_inner RangeTail = refl
table_inner MoreRanges = refl
table_inner Tags = refl
table_inner Fields = refl
table_inner Wheres = refl
table_inner FieldTarget = refl
table_inner FieldValue = refl
table_inner Asks = refl
table_inner Question = refl
table_inner Side = refl
table_inner With = refl
table_inner Name = refl
table_inner Number = refl
table_inner Port = refl
table_inner Offset = refl
table_inner Width = refl
table_inner Text = refl
table_inner Semicolon = refl
table_inner Colon = refl
table_inner Dot = refl
table_inner Equals = refl
table_inner Arrow = refl
table_inner OpenBrace = refl
table_inner CloseParenthesis = refl
table_inner CloseBracket = refl
table_inner In = refl
table_inner Else = refl
table_inner At = refl

find_inner : (word : List ℕ) (table : List Alternative) (then' : List Symbol) → list_all all_inner table ≡ true → find word table ≡ Some then' → list_all is_inner then' ≡ true
find_inner word [] then' all is = absurd (none-some _ is)
find_inner word (a ∷ table) then' all is =
    by_word (bytes_eq word a.0) is (and_parts (all_inner a) (list_all all_inner table) all).0 (find_inner word table then' (and_parts (all_inner a) (list_all all_inner table) all).1)
  where
    by_word : (same : Bool) → (if same then Some a.1 else find word table) ≡ Some then' → all_inner a ≡ true → (find word table ≡ Some then' → list_all is_inner then' ≡ true) → list_all is_inner then' ≡ true
    by_word true is here later = ap (list_all is_inner) (sym (same_Some _ _ is)) ∙ here
    by_word false is here later = later is

is_well : (given then' : List Symbol) → Some given ≡ Some then' → list_all is_inner given ≡ true → ComesWell then'
is_well given then' is inner = inl (ap (list_all is_inner) (sym (same_Some _ _ is)) ∙ inner)

up_to_well : (fits : Bool) (given then' : List Symbol) → (if fits then Some given else None) ≡ Some then' → list_all is_inner given ≡ true → ComesWell then'
up_to_well true given then' is inner = is_well given then' is inner
up_to_well false given then' is inner = absurd (none-some _ is)

width_well : (least most : Bool) (then' : List Symbol) → (if least then (if most then Some [] else None) else None) ≡ Some then' → ComesWell then'
width_well true most then' is = up_to_well most [] then' is refl
width_well false most then' is = absurd (none-some _ is)

named_well : (symbol : Symbol) (then' : List Symbol) → named symbol ≡ Some then' → ComesWell then'
named_well Start then' is = absurd (none-some _ is)
named_well Version then' is = absurd (none-some _ is)
named_well Nodes then' is = absurd (none-some _ is)
named_well OldNodes then' is = absurd (none-some _ is)
named_well Links then' is = absurd (none-some _ is)
named_well NodeBody then' is = absurd (none-some _ is)
named_well OldNodeBody then' is = absurd (none-some _ is)
named_well TableKind then' is = absurd (none-some _ is)
named_well Style then' is = absurd (none-some _ is)
named_well Codes then' is = absurd (none-some _ is)
named_well OldCodes then' is = absurd (none-some _ is)
named_well Block then' is = absurd (none-some _ is)
named_well OldBlock then' is = absurd (none-some _ is)
named_well Instrs then' is = absurd (none-some _ is)
named_well OldInstrs then' is = absurd (none-some _ is)
named_well Value then' is = absurd (none-some _ is)
named_well Ports then' is = absurd (none-some _ is)
named_well MorePorts then' is = absurd (none-some _ is)
named_well Target then' is = absurd (none-some _ is)
named_well Addr then' is = inr (sym (same_Some _ _ is))
named_well AddrSign then' is = absurd (none-some _ is)
named_well Operand then' is = absurd (none-some _ is)
named_well SumTail then' is = absurd (none-some _ is)
named_well Test then' is = absurd (none-some _ is)
named_well NotEnd then' is = absurd (none-some _ is)
named_well TestTail then' is = absurd (none-some _ is)
named_well Relation then' is = absurd (none-some _ is)
named_well RangeTail then' is = absurd (none-some _ is)
named_well MoreRanges then' is = absurd (none-some _ is)
named_well Tags then' is = absurd (none-some _ is)
named_well Fields then' is = absurd (none-some _ is)
named_well Wheres then' is = absurd (none-some _ is)
named_well FieldTarget then' is = absurd (none-some _ is)
named_well FieldValue then' is = absurd (none-some _ is)
named_well Asks then' is = absurd (none-some _ is)
named_well Question then' is = absurd (none-some _ is)
named_well Side then' is = absurd (none-some _ is)
named_well With then' is = absurd (none-some _ is)
named_well Name then' is = is_well [] then' is refl
named_well Number then' is = absurd (none-some _ is)
named_well Port then' is = absurd (none-some _ is)
named_well Offset then' is = absurd (none-some _ is)
named_well Width then' is = absurd (none-some _ is)
named_well Text then' is = absurd (none-some _ is)
named_well Semicolon then' is = absurd (none-some _ is)
named_well Colon then' is = absurd (none-some _ is)
named_well Dot then' is = absurd (none-some _ is)
named_well Equals then' is = absurd (none-some _ is)
named_well Arrow then' is = absurd (none-some _ is)
named_well OpenBrace then' is = absurd (none-some _ is)
named_well CloseParenthesis then' is = absurd (none-some _ is)
named_well CloseBracket then' is = absurd (none-some _ is)
named_well In then' is = absurd (none-some _ is)
named_well Else then' is = absurd (none-some _ is)
named_well At then' is = absurd (none-some _ is)

numbered_well : (symbol : Symbol) (value : ℕ) (then' : List Symbol) → numbered symbol value ≡ Some then' → ComesWell then'
numbered_well Start value then' is = absurd (none-some _ is)
numbered_well Version value then' is = absurd (none-some _ is)
numbered_well Nodes value then' is = absurd (none-some _ is)
numbered_well OldNodes value then' is = absurd (none-some _ is)
numbered_well Links value then' is = absurd (none-some _ is)
numbered_well NodeBody value then' is = up_to_well (nat_le value 4294967295) (Arrow ∷ Port ∷ OpenBrace ∷ Codes ∷ []) then' is refl
numbered_well OldNodeBody value then' is = up_to_well (nat_le value 4294967295) (Arrow ∷ Port ∷ OpenBrace ∷ OldCodes ∷ []) then' is refl
numbered_well TableKind value then' is = absurd (none-some _ is)
numbered_well Style value then' is = absurd (none-some _ is)
numbered_well Codes value then' is = absurd (none-some _ is)
numbered_well OldCodes value then' is = absurd (none-some _ is)
numbered_well Block value then' is = absurd (none-some _ is)
numbered_well OldBlock value then' is = absurd (none-some _ is)
numbered_well Instrs value then' is = absurd (none-some _ is)
numbered_well OldInstrs value then' is = absurd (none-some _ is)
numbered_well Value value then' is = is_well (SumTail ∷ []) then' is refl
numbered_well Ports value then' is = up_to_well (nat_le value 4294967295) (MorePorts ∷ []) then' is refl
numbered_well MorePorts value then' is = absurd (none-some _ is)
numbered_well Target value then' is = absurd (none-some _ is)
numbered_well Addr value then' is = up_to_well (nat_le value 1048576) [] then' is refl
numbered_well AddrSign value then' is = absurd (none-some _ is)
numbered_well Operand value then' is = is_well [] then' is refl
numbered_well SumTail value then' is = absurd (none-some _ is)
numbered_well Test value then' is = is_well (SumTail ∷ Relation ∷ []) then' is refl
numbered_well NotEnd value then' is = absurd (none-some _ is)
numbered_well TestTail value then' is = absurd (none-some _ is)
numbered_well Relation value then' is = absurd (none-some _ is)
numbered_well RangeTail value then' is = absurd (none-some _ is)
numbered_well MoreRanges value then' is = absurd (none-some _ is)
numbered_well Tags value then' is = absurd (none-some _ is)
numbered_well Fields value then' is = absurd (none-some _ is)
numbered_well Wheres value then' is = absurd (none-some _ is)
numbered_well FieldTarget value then' is = absurd (none-some _ is)
numbered_well FieldValue value then' is = absurd (none-some _ is)
numbered_well Asks value then' is = absurd (none-some _ is)
numbered_well Question value then' is = absurd (none-some _ is)
numbered_well Side value then' is = absurd (none-some _ is)
numbered_well With value then' is = absurd (none-some _ is)
numbered_well Name value then' is = absurd (none-some _ is)
numbered_well Number value then' is = is_well [] then' is refl
numbered_well Port value then' is = up_to_well (nat_le value 4294967295) [] then' is refl
numbered_well Offset value then' is = up_to_well (nat_le value 1048576) [] then' is refl
numbered_well Width value then' is = width_well (nat_le 1 value) (nat_le value 128) then' is
numbered_well Text value then' is = absurd (none-some _ is)
numbered_well Semicolon value then' is = absurd (none-some _ is)
numbered_well Colon value then' is = absurd (none-some _ is)
numbered_well Dot value then' is = absurd (none-some _ is)
numbered_well Equals value then' is = absurd (none-some _ is)
numbered_well Arrow value then' is = absurd (none-some _ is)
numbered_well OpenBrace value then' is = absurd (none-some _ is)
numbered_well CloseParenthesis value then' is = absurd (none-some _ is)
numbered_well CloseBracket value then' is = absurd (none-some _ is)
numbered_well In value then' is = absurd (none-some _ is)
numbered_well Else value then' is = absurd (none-some _ is)
numbered_well At value then' is = absurd (none-some _ is)

quoted_well : (symbol : Symbol) (then' : List Symbol) → quoted symbol ≡ Some then' → ComesWell then'
quoted_well Start then' is = absurd (none-some _ is)
quoted_well Version then' is = absurd (none-some _ is)
quoted_well Nodes then' is = absurd (none-some _ is)
quoted_well OldNodes then' is = absurd (none-some _ is)
quoted_well Links then' is = absurd (none-some _ is)
quoted_well NodeBody then' is = absurd (none-some _ is)
quoted_well OldNodeBody then' is = absurd (none-some _ is)
quoted_well TableKind then' is = absurd (none-some _ is)
quoted_well Style then' is = absurd (none-some _ is)
quoted_well Codes then' is = absurd (none-some _ is)
quoted_well OldCodes then' is = absurd (none-some _ is)
quoted_well Block then' is = absurd (none-some _ is)
quoted_well OldBlock then' is = absurd (none-some _ is)
quoted_well Instrs then' is = absurd (none-some _ is)
quoted_well OldInstrs then' is = absurd (none-some _ is)
quoted_well Value then' is = absurd (none-some _ is)
quoted_well Ports then' is = absurd (none-some _ is)
quoted_well MorePorts then' is = absurd (none-some _ is)
quoted_well Target then' is = absurd (none-some _ is)
quoted_well Addr then' is = absurd (none-some _ is)
quoted_well AddrSign then' is = absurd (none-some _ is)
quoted_well Operand then' is = absurd (none-some _ is)
quoted_well SumTail then' is = absurd (none-some _ is)
quoted_well Test then' is = absurd (none-some _ is)
quoted_well NotEnd then' is = absurd (none-some _ is)
quoted_well TestTail then' is = absurd (none-some _ is)
quoted_well Relation then' is = absurd (none-some _ is)
quoted_well RangeTail then' is = absurd (none-some _ is)
quoted_well MoreRanges then' is = absurd (none-some _ is)
quoted_well Tags then' is = absurd (none-some _ is)
quoted_well Fields then' is = absurd (none-some _ is)
quoted_well Wheres then' is = absurd (none-some _ is)
quoted_well FieldTarget then' is = absurd (none-some _ is)
quoted_well FieldValue then' is = absurd (none-some _ is)
quoted_well Asks then' is = absurd (none-some _ is)
quoted_well Question then' is = absurd (none-some _ is)
quoted_well Side then' is = absurd (none-some _ is)
quoted_well With then' is = absurd (none-some _ is)
quoted_well Name then' is = absurd (none-some _ is)
quoted_well Number then' is = absurd (none-some _ is)
quoted_well Port then' is = absurd (none-some _ is)
quoted_well Offset then' is = absurd (none-some _ is)
quoted_well Width then' is = absurd (none-some _ is)
quoted_well Text then' is = is_well [] then' is refl
quoted_well Semicolon then' is = absurd (none-some _ is)
quoted_well Colon then' is = absurd (none-some _ is)
quoted_well Dot then' is = absurd (none-some _ is)
quoted_well Equals then' is = absurd (none-some _ is)
quoted_well Arrow then' is = absurd (none-some _ is)
quoted_well OpenBrace then' is = absurd (none-some _ is)
quoted_well CloseParenthesis then' is = absurd (none-some _ is)
quoted_well CloseBracket then' is = absurd (none-some _ is)
quoted_well In then' is = absurd (none-some _ is)
quoted_well Else then' is = absurd (none-some _ is)
quoted_well At then' is = absurd (none-some _ is)

kind_well : (symbol : Symbol) (k : TokenKind) (value : ℕ) (then' : List Symbol) → by_kind symbol k value ≡ Some then' → ComesWell then'
kind_well symbol kind.Name value then' is = named_well symbol then' is
kind_well symbol kind.Number value then' is = numbered_well symbol value then' is
kind_well symbol kind.Text value then' is = quoted_well symbol then' is
kind_well symbol kind.Sign value then' is = absurd (none-some _ is)

first_well : (a b : Option (List Symbol)) (then' : List Symbol) → first_of a b ≡ Some then' → ((x : List Symbol) → a ≡ Some x → ComesWell x) → ((x : List Symbol) → b ≡ Some x → ComesWell x) → ComesWell then'
first_well (Some x) b then' is h k = h then' is
first_well None b then' is h k = k then' is

behind_well : (symbol : Symbol) (word : Word) (then' : List Symbol) → behind symbol word ≡ Some then' → ComesWell then'
behind_well symbol word then' is =
    first_well (find word.text (alternatives symbol)) (by_kind symbol word.kind (value_of word.text)) then' is
    (λ x e. inl (find_inner word.text (alternatives symbol) x (table_inner symbol) e))
    (λ x e. kind_well symbol word.kind (value_of word.text) x e)

inner_well : (stack : List Symbol) → list_all is_inner stack ≡ true → IsWell stack
inner_well [] h = tt
inner_well (symbol ∷ rest) h = (and_parts (is_inner symbol) (list_all is_inner rest) h).1

joined_well : (then' rest : List Symbol) → ComesWell then' → list_all is_inner rest ≡ true → IsWell (then' ++ rest)
joined_well then' rest (inl inner) h = inner_well (then' ++ rest) (all_append is_inner then' rest inner h)
joined_well then' rest (inr alone) h = subst (λ t. IsWell (t ++ rest)) (sym alone) h

chosen_well : (b : Option (List Symbol)) (ends : Bool) (rest new : List Symbol) (later : Option (List Symbol))
    → ((x : List Symbol) → b ≡ Some x → ComesWell x) → list_all is_inner rest ≡ true → (later ≡ Some new → IsWell new)
    → chosen b ends rest later ≡ Some new → IsWell new
chosen_well (Some then') ends rest new later comes inner go is = subst IsWell (same_Some _ _ is) (joined_well then' rest (comes then' refl) inner)
chosen_well None true rest new later comes inner go is = go is
chosen_well None false rest new later comes inner go is = absurd (none-some _ is)

pub step_well : (stack : List Symbol) (word : Word) (new : List Symbol) → IsWell stack → step stack word ≡ Some new → IsWell new
step_well [] word new well is = absurd (none-some _ is)
step_well (symbol ∷ rest) word new well is =
    chosen_well (behind symbol word) (may_end symbol) rest new (step rest word) (behind_well symbol word) well
    (step_well rest word new (inner_well rest well)) is

pub run_well : (stack : List Symbol) (words : List Word) (new : List Symbol) → IsWell stack → run stack words ≡ Some new → IsWell new
run_well stack [] new well is = subst IsWell (same_Some _ _ is) well
run_well stack (word ∷ words) new well is =
    over (step stack word) (λ left e. step_well stack word left well e) (λ left w e. run_well left words new w e) is
  where
    over : (s : Option (List Symbol)) → ((left : List Symbol) → s ≡ Some left → IsWell left) → ((left : List Symbol) → IsWell left → run left words ≡ Some new → IsWell new) → and_then s (λ left. run left words) ≡ Some new → IsWell new
    over None h go is = absurd (none-some _ is)
    over (Some left) h go is = go left (h left refl) is

outer_stays : (symbol : Symbol) → is_inner symbol ≡ false → may_end symbol ≡ false
outer_stays Start h = absurd (true≢false h)
outer_stays Version h = absurd (true≢false h)
outer_stays Nodes h = absurd (true≢false h)
outer_stays OldNodes h = absurd (true≢false h)
outer_stays Links h = absurd (true≢false h)
outer_stays NodeBody h = absurd (true≢false h)
outer_stays OldNodeBody h = absurd (true≢false h)
outer_stays TableKind h = absurd (true≢false h)
outer_stays Style h = absurd (true≢false h)
outer_stays Codes h = absurd (true≢false h)
outer_stays OldCodes h = absurd (true≢false h)
outer_stays Block h = absurd (true≢false h)
outer_stays OldBlock h = absurd (true≢false h)
outer_stays Instrs h = absurd (true≢false h)
outer_stays OldInstrs h = absurd (true≢false h)
outer_stays Value h = absurd (true≢false h)
outer_stays Ports h = absurd (true≢false h)
outer_stays MorePorts h = absurd (true≢false h)
outer_stays Target h = absurd (true≢false h)
outer_stays Addr h = absurd (true≢false h)
outer_stays AddrSign h = refl
outer_stays Operand h = absurd (true≢false h)
outer_stays SumTail h = absurd (true≢false h)
outer_stays Test h = absurd (true≢false h)
outer_stays NotEnd h = absurd (true≢false h)
outer_stays TestTail h = absurd (true≢false h)
outer_stays Relation h = absurd (true≢false h)
outer_stays RangeTail h = absurd (true≢false h)
outer_stays MoreRanges h = absurd (true≢false h)
outer_stays Tags h = absurd (true≢false h)
outer_stays Fields h = absurd (true≢false h)
outer_stays Wheres h = absurd (true≢false h)
outer_stays FieldTarget h = absurd (true≢false h)
outer_stays FieldValue h = absurd (true≢false h)
outer_stays Asks h = absurd (true≢false h)
outer_stays Question h = absurd (true≢false h)
outer_stays Side h = absurd (true≢false h)
outer_stays With h = absurd (true≢false h)
outer_stays Name h = absurd (true≢false h)
outer_stays Number h = absurd (true≢false h)
outer_stays Port h = absurd (true≢false h)
outer_stays Offset h = absurd (true≢false h)
outer_stays Width h = absurd (true≢false h)
outer_stays Text h = absurd (true≢false h)
outer_stays Semicolon h = absurd (true≢false h)
outer_stays Colon h = absurd (true≢false h)
outer_stays Dot h = absurd (true≢false h)
outer_stays Equals h = absurd (true≢false h)
outer_stays Arrow h = absurd (true≢false h)
outer_stays OpenBrace h = absurd (true≢false h)
outer_stays CloseParenthesis h = absurd (true≢false h)
outer_stays CloseBracket h = absurd (true≢false h)
outer_stays In h = absurd (true≢false h)
outer_stays Else h = absurd (true≢false h)
outer_stays At h = absurd (true≢false h)

-- some words end the stack
pub record Ends (stack : List Symbol) : Type 0 where
  pub words : List Word
  pub lexed : AreWords words
  pub left : List Symbol
  pub runs : run stack words ≡ Some left
  pub may : list_all may_end left ≡ true

inner_or_not : (symbol : Symbol) (rest : List Symbol) (inner : Bool) → is_inner symbol ≡ inner → list_all is_inner rest ≡ true → Ends (symbol ∷ rest)
inner_or_not symbol rest true is well =
    let can = inner_ends (symbol ∷ rest) (and_true (is_inner symbol) (list_all is_inner rest) is well) in
    record { words = can.words; lexed = can.lexed; left = can.left; runs = can.runs; may = can.may }
inner_or_not symbol rest false is well =
    let c = closes symbol rest (outer_stays symbol is) in
    let can = below_ends c.left rest c.may (inner_ends rest well) in
    record {
      words = closing symbol ++ can.words;
      lexed = words_append (closing symbol) can.words (closing_words symbol) can.lexed;
      left = can.left;
      runs = run_append (symbol ∷ rest) (closing symbol) can.words ∙ ap (λ s. and_then s (λ left. run left can.words)) c.done ∙ can.runs;
      may = can.may;
    }

-- each stack that comes up can be led to an end
pub well_ends : (stack : List Symbol) → IsWell stack → Ends stack
well_ends [] well = record { words = []; lexed = tt; left = []; runs = refl; may = refl }
well_ends (symbol ∷ rest) well = inner_or_not symbol rest (is_inner symbol) refl well
