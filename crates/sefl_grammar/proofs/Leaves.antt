-- Single words, addresses and targets, as the automaton takes them.
use Rattle.std.proofs.Common.{◌≡◌, ℕ, ℤ, ◌≤◌, ◌⊎◌, inl, inr, ◌&&◌, ◌==◌, not, nat_le, Bool, true, false, List, [], ◌∷◌, ◌++◌, drop, bytes_eq, if◌then◌else◌, Option, None, Some, codes, refl, sym, ap, ◌∙◌, subst, true≢false, arith}
use Rattle.std.proofs.lemmas.Bool.{and_parts}
use Rattle.std.proofs.lemmas.Bool.Decides.{nat_tests}
use Rattle.sefl_lex.specs.Bytes.{is_name_start, is_decimal, begins}
use Rattle.sefl_lex.specs.Words.{IsWord, is_name, is_number, are_digits, have_value, is_hexadecimal, value_of}
use Rattle.sefl_lex.specs.declared.token.TokenKind.{TokenKind}
use Rattle.sefl_lex.specs.declared.token.TokenKind.TheVariants as kind
use Rattle.sefl_syntax.specs.declared.reference.Scope.TheVariants.{Global, Local}
use Rattle.sefl_syntax.specs.declared.reference.Target.{Target}
use Rattle.sefl_syntax.specs.declared.reference.Target.TheVariants.{Header, Meta, Bound}
use Rattle.sefl_syntax.specs.declared.reference.Addr.{Addr}
use Rattle.sefl_grammar.specs.Word.{Word, Placed}
use Rattle.sefl_grammar.specs.Table.{Alternative, alternatives}
use Rattle.sefl_grammar.specs.Automaton.{step, find, first_of, numbered, up_to, chosen, open_count}
use Rattle.sefl_grammar.specs.Grammar.{Spelling, ◌⨾◌, key, name, number, text, port, offset, width, ahead, back, place_of, addr, target, field_target}
use Rattle.sefl_grammar.proofs.Going.{Goes, goes_on, goes_word, goes_key, Does, Closed, seq, does_key}
use Rattle.sefl_grammar.specs.declared.symbol.Symbol.{Symbol}
use Rattle.sefl_grammar.specs.declared.symbol.Symbol.TheVariants.{Addr as AddrSymbol, AddrSign, Target as TargetSymbol, FieldTarget, Name, Number, Port, Offset, Width, Text, Colon, Semicolon}

-- no alternative begins with a byte of the class
abbrev pub avoids : (ℕ → Bool) → List Alternative → Bool
avoids class [] = true
avoids class (a ∷ others) = not (begins class a.0) && avoids class others

apart : (class : ℕ → Bool) (c : ℕ) (word other : List ℕ) → class c ≡ true → not (begins class other) ≡ true → bytes_eq (c ∷ word) other ≡ false
apart class c word [] is none = refl
apart class c word (d ∷ other) is none = here (c == d) refl
  where
    here : (same : Bool) → (c == d) ≡ same → bytes_eq (c ∷ word) (d ∷ other) ≡ false
    here true e = absurd (true≢false (sym none ∙ ap not (ap class (sym (grind (arith, nat_tests))) ∙ is)))
    here false e = rw e refl

-- such a word is not found
pub not_found : (class : ℕ → Bool) (word : List ℕ) (as' : List Alternative) → begins class word ≡ true → avoids class as' ≡ true → find word as' ≡ None
not_found class [] as' is none = absurd (true≢false (sym is))
not_found class (c ∷ word) [] is none = refl
not_found class (c ∷ word) (a ∷ others) is none =
    let parts = and_parts (not (begins class a.0)) (avoids class others) none in
    rw (apart class c word a.0 is parts.0) (not_found class (c ∷ word) others is parts.1)

hexadecimal_begins : (word : List ℕ) → is_hexadecimal word ≡ true → begins is_decimal word ≡ true
hexadecimal_begins [] h = absurd (true≢false (sym h))
hexadecimal_begins (a ∷ []) h = absurd (true≢false (sym h))
hexadecimal_begins (a ∷ b ∷ rest) h = grind (arith, nat_tests)

digits_begin : (word : List ℕ) → are_digits 10 word ≡ true → begins is_decimal word ≡ true
unfolding are_digits have_value
digits_begin [] h = absurd (true≢false (sym h))
digits_begin (c ∷ word) h = grind (arith, nat_tests)

digits_begin_by : (hexadecimal : Bool) (word : List ℕ) → is_hexadecimal word ≡ hexadecimal → is_number word ≡ true → begins is_decimal word ≡ true
unfolding is_number
digits_begin_by true word e h = hexadecimal_begins word e
digits_begin_by false word e h = digits_begin word (subst (λ x. are_digits (if x then 16 else 10) (if x then drop 2 word else word) ≡ true) e h)

-- a number begins with a digit
pub number_begins : (word : List ℕ) → is_number word ≡ true → begins is_decimal word ≡ true
number_begins word h = digits_begin_by (is_hexadecimal word) word refl h

-- a name begins with a letter or an underscore
pub name_begins : (word : List ℕ) → is_name word ≡ true → begins is_name_start word ≡ true
name_begins word h = (and_parts _ _ (and_parts (begins is_name_start word && _) _ h).0).0

kind_step : (s s' : List Symbol) (w : Word) (k : TokenKind) → w.kind ≡ k → step s (record { kind = k; text = w.text }) ≡ Some s' → step s w ≡ Some s'
kind_step s s' w k is st = subst (λ x. step s (record { kind = x; text = w.text }) ≡ Some s') (sym is) st

pub word_of_kind : (w : Word) (k : TokenKind) → w.kind ≡ k → IsWord w.kind w.text → IsWord k w.text
word_of_kind w k is l = subst (λ x. IsWord x w.text) is l

-- a name, where the symbol's own words do not begin as one
pub goes_name : (n : List ℕ) (s s' : List Symbol) (d : ℕ) (b a : List Placed) → name n d b a
    → ((t : List ℕ) → begins is_name_start t ≡ true → step s (record { kind = kind.Name; text = t }) ≡ Some s') → open_count s' ≡ d → Goes s b s' a
goes_name n s s' d b a (w, is, e) st o =
    goes_word s s' w d b a e (λ l. kind_step s s' w kind.Name is.0 (st w.text (name_begins w.text (word_of_kind w kind.Name is.0 l)))) o

-- a number, where the symbol's own words do not begin as one
pub goes_number : (n : ℕ) (s s' : List Symbol) (d : ℕ) (b a : List Placed) → number n d b a
    → ((t : List ℕ) → begins is_decimal t ≡ true → value_of t ≡ n → step s (record { kind = kind.Number; text = t }) ≡ Some s') → open_count s' ≡ d → Goes s b s' a
goes_number n s s' d b a (w, is, e) st o =
    goes_word s s' w d b a e (λ l. kind_step s s' w kind.Number is.0 (st w.text (number_begins w.text (word_of_kind w kind.Number is.0 l)) is.1)) o

pub does_name : (n : List ℕ) → Does (name n) (λ rest. Name ∷ rest)
does_name n d b a is rest o = goes_name n (Name ∷ rest) rest d b a is (λ t h. refl) o

pub does_number : (n : ℕ) → Does (number n) (λ rest. Number ∷ rest)
does_number n d b a is rest o = goes_number n (Number ∷ rest) rest d b a is (λ t h v. refl) o

pub does_text : (body : List ℕ) → Does (text body) (λ rest. Text ∷ rest)
does_text body d b a (w, is, e) rest o = goes_word (Text ∷ rest) rest w d b a e (λ l. kind_step (Text ∷ rest) rest w kind.Text is.0 refl) o

le_yes : (a b : ℕ) → a ≤ b → nat_le a b ≡ true
le_yes a b h = grind (arith, nat_tests)

-- the number is no more than the symbol allows
pub in_limit : (most value n : ℕ) (then' : List Symbol) → n ≤ most → value ≡ n → up_to most value then' ≡ Some then'
in_limit most value n then' h v = rw (le_yes value most (subst (λ x. x ≤ most) (sym v) h)) refl

pub in_step : (o : Option (List Symbol)) (then' rest : List Symbol) (later : Option (List Symbol)) → o ≡ Some then' → chosen o false rest later ≡ Some (then' ++ rest)
in_step o then' rest later e = rw e refl

pub does_port : (n : ℕ) → Does (port n) (λ rest. Port ∷ rest)
does_port n d b a (low, high, is) rest o =
    goes_number n (Port ∷ rest) rest d b a is (λ t h v. in_step _ [] rest _ (in_limit 4294967295 (value_of t) n [] high v)) o

pub does_offset : (n : ℕ) → Does (offset n) (λ rest. Offset ∷ rest)
does_offset n d b a (low, high, is) rest o =
    goes_number n (Offset ∷ rest) rest d b a is (λ t h v. in_step _ [] rest _ (in_limit 1048576 (value_of t) n [] high v)) o

width_numbered : (value n : ℕ) → 1 ≤ n → n ≤ 128 → value ≡ n → numbered Width value ≡ Some []
width_numbered value n low high v = rw (le_yes 1 value (subst (λ x. 1 ≤ x) (sym v) low)) (in_limit 128 value n [] high v)

pub does_width : (n : ℕ) → Does (width n) (λ rest. Width ∷ rest)
does_width n d b a (low, high, is) rest o =
    goes_number n (Width ∷ rest) rest d b a is (λ t h v. in_step _ [] rest _ (width_numbered (value_of t) n low high v)) o

pub does_colon : Does (key (codes ":")) (λ rest. Colon ∷ rest)
does_colon = does_key (codes ":") Colon (λ k rest. refl)

pub does_semicolon : Does (key (codes ";")) (λ rest. Semicolon ∷ rest)
does_semicolon = does_key (codes ";") Semicolon (λ k rest. refl)

pub found_else : (o : Option (List Symbol)) (other : Option (List Symbol)) → o ≡ None → first_of o other ≡ other
found_else o other e = rw e refl

-- an offset without a sign stands for an address
ahead_addr : (z : ℤ) (d : ℕ) (b a : List Placed) → ahead z d b a → (rest : List Symbol) → open_count rest ≡ d → Goes (AddrSymbol ∷ rest) b rest a
ahead_addr z d b a (n, is, (low, high, spelled)) rest o =
    goes_number n (AddrSymbol ∷ rest) rest d b a spelled
    (λ t h v. in_step _ [] rest _ (found_else _ _ (not_found is_decimal t (alternatives AddrSymbol) h refl) ∙ in_limit 1048576 (value_of t) n [] high v)) o

back_from : (s : List Symbol) (z : ℤ) (d : ℕ) (b a : List Placed) → back z d b a → (rest : List Symbol) → open_count rest ≡ d
    → ((k : TokenKind) → step s (record { kind = k; text = codes "-" }) ≡ Some (Offset ∷ rest)) → Goes s b rest a
back_from s z d b a (n, is, (m, minus, spelled)) rest o st =
    goes_on (goes_key (codes "-") s (Offset ∷ rest) d b m minus st o) (does_offset n d m a spelled rest o)

signed : (z : ℤ) (d : ℕ) (b a : List Placed) → ((key (codes "+") ⨾ ahead z) d b a ⊎ back z d b a) → (rest : List Symbol) → open_count rest ≡ d → Goes (AddrSign ∷ rest) b rest a
signed z d b a (inl (m, plus, (n, is, spelled))) rest o =
    goes_on (goes_key (codes "+") (AddrSign ∷ rest) (Offset ∷ rest) d b m plus (λ k. refl) o) (does_offset n d m a spelled rest o)
signed z d b a (inr minus) rest o = back_from (AddrSign ∷ rest) z d b a minus rest o (λ k. refl)

does_place : (tag : Option (List ℕ)) (z : ℤ) → Does (place_of tag z) (λ rest. AddrSymbol ∷ rest)
does_place None z d b a (inl is) rest o = ahead_addr z d b a is rest o
does_place None z d b a (inr is) rest o = back_from (AddrSymbol ∷ rest) z d b a is rest o (λ k. refl)
does_place (Some tag) z d b a (m, is, sign) rest o =
    goes_on
    (goes_name tag (AddrSymbol ∷ rest) (AddrSign ∷ rest) d b m is (λ t h. in_step _ (AddrSign ∷ []) rest _ (found_else _ _ (not_found is_name_start t (alternatives AddrSymbol) h refl))) o)
    (signed z d m a sign rest o)

pub does_addr : (x : Addr) → Does (addr x) (λ rest. AddrSymbol ∷ rest)
does_addr x = does_place x.tag x.offset

-- the symbols on the stack take a target as an operand does
pub record TakesTarget (s rest : List Symbol) : Type 0 where
  pub head : (k : TokenKind) → step s (record { kind = k; text = codes "head" }) ≡ Some (AddrSymbol ∷ Colon ∷ Width ∷ rest)
  pub global : (k : TokenKind) → step s (record { kind = k; text = codes "global" }) ≡ Some (Name ∷ Colon ∷ Width ∷ rest)
  pub local : (k : TokenKind) → step s (record { kind = k; text = codes "local" }) ≡ Some (Name ∷ Colon ∷ Width ∷ rest)
  pub dollar : (k : TokenKind) → step s (record { kind = k; text = codes "$" }) ≡ Some (Name ∷ Colon ∷ Width ∷ rest)

sized : (w : ℕ) → Does (key (codes ":") ⨾ width w) (λ rest. Colon ∷ Width ∷ rest)
sized w = seq (key (codes ":")) (width w) (λ rest. Colon ∷ rest) (λ rest. Width ∷ rest) does_colon (does_width w) (λ rest. refl)

named : (n : List ℕ) (w : ℕ) → Does (name n ⨾ key (codes ":") ⨾ width w) (λ rest. Name ∷ Colon ∷ Width ∷ rest)
named n w = seq (name n) (key (codes ":") ⨾ width w) (λ rest. Name ∷ rest) (λ rest. Colon ∷ Width ∷ rest) (does_name n) (sized w) (λ rest. refl)

placed : (x : Addr) (w : ℕ) → Does (addr x ⨾ key (codes ":") ⨾ width w) (λ rest. AddrSymbol ∷ Colon ∷ Width ∷ rest)
placed x w = seq (addr x) (key (codes ":") ⨾ width w) (λ rest. AddrSymbol ∷ rest) (λ rest. Colon ∷ Width ∷ rest) (does_addr x) (sized w) (λ rest. refl)

-- a key, and then symbols that open nothing
pub begun_by : (word : List ℕ) (p : Spelling) (f : List Symbol → List Symbol) (s : List Symbol) (d : ℕ) (b a : List Placed) → (key word ⨾ p) d b a → (rest : List Symbol) → open_count rest ≡ d
    → ((k : TokenKind) → step s (record { kind = k; text = word }) ≡ Some (f rest)) → Does p f → Closed f → Goes s b rest a
begun_by word p f s d b a (m, is, more) rest o st does closed =
    goes_on (goes_key word s (f rest) d b m is st (closed rest ∙ o)) (does d m a more rest o)

pub goes_target : (t : Target) (s : List Symbol) (d : ℕ) (b a : List Placed) → target t d b a → (rest : List Symbol) → open_count rest ≡ d → TakesTarget s rest → Goes s b rest a
goes_target (Header x w) s d b a is rest o takes = begun_by (codes "head") (addr x ⨾ key (codes ":") ⨾ width w) (λ r. AddrSymbol ∷ Colon ∷ Width ∷ r) s d b a is rest o takes.head (placed x w) (λ r. refl)
goes_target (Meta Global n w) s d b a is rest o takes = begun_by (codes "global") (name n ⨾ key (codes ":") ⨾ width w) (λ r. Name ∷ Colon ∷ Width ∷ r) s d b a is rest o takes.global (named n w) (λ r. refl)
goes_target (Meta Local n w) s d b a is rest o takes = begun_by (codes "local") (name n ⨾ key (codes ":") ⨾ width w) (λ r. Name ∷ Colon ∷ Width ∷ r) s d b a is rest o takes.local (named n w) (λ r. refl)
goes_target (Bound n w) s d b a is rest o takes = begun_by (codes "$") (name n ⨾ key (codes ":") ⨾ width w) (λ r. Name ∷ Colon ∷ Width ∷ r) s d b a is rest o takes.dollar (named n w) (λ r. refl)

pub does_target : (t : Target) → Does (target t) (λ rest. TargetSymbol ∷ rest)
does_target t d b a is rest o = goes_target t (TargetSymbol ∷ rest) d b a is rest o (record { head = λ k. refl; global = λ k. refl; local = λ k. refl; dollar = λ k. refl })

pub does_field_target : (t : Target) → Does (field_target t) (λ rest. FieldTarget ∷ rest)
does_field_target (Header x w) d b a is rest o = begun_by (codes "head") (addr x ⨾ key (codes ":") ⨾ width w) (λ r. AddrSymbol ∷ Colon ∷ Width ∷ r) (FieldTarget ∷ rest) d b a is rest o (λ k. refl) (placed x w) (λ r. refl)
does_field_target (Meta Global n w) d b a is rest o = begun_by (codes "global") (name n ⨾ key (codes ":") ⨾ width w) (λ r. Name ∷ Colon ∷ Width ∷ r) (FieldTarget ∷ rest) d b a is rest o (λ k. refl) (named n w) (λ r. refl)
does_field_target (Meta Local n w) d b a is rest o = absurd is
does_field_target (Bound n w) d b a is rest o = absurd is
