-- What the first word of an accepted list is.
use Rattle.std.proofs.Common.{◌≡◌, ℕ, suc, ◌<◌, ◌≤◌, ◌⊎◌, inl, inr, Bool, true, false, List, [], ◌∷◌, ◌++◌, length, bytes_eq, Option, None, Some, if◌then◌else◌, refl, sym, ap, ◌∙◌, subst, true≢false, arith}
use Rattle.std.proofs.lemmas.Option.{none-some, same_Some}
use Rattle.std.proofs.lemmas.Bool.{and_parts}
use Rattle.std.proofs.lemmas.Slice.Eq.{bytes_eq-Decides}
use Rattle.std.specs.List.{list_all}
use Rattle.sefl_lex.specs.Words.{IsWord, value_of}
use Rattle.sefl_lex.specs.declared.token.TokenKind.{TokenKind}
use Rattle.sefl_lex.specs.declared.token.TokenKind.TheVariants as kind
use Rattle.sefl_grammar.specs.Word.{Word, AreWords, Placed}
use Rattle.sefl_grammar.specs.Table.{Alternative, alternatives}
use Rattle.sefl_grammar.specs.Automaton.{step, run, and_then, chosen, behind, find, first_of, by_kind, named, numbered, quoted, may_end, open_count}
use Rattle.sefl_grammar.specs.Grammar.{Spelling, ◌⨾◌, one, key}
use Rattle.sefl_grammar.proofs.Going.{placed_of, placed_then, Closed}
use Rattle.sefl_grammar.specs.declared.symbol.Symbol.{Symbol}

-- the words end what is to come
pub record Ends (stack : List Symbol) (words : List Word) : Type 0 where
  pub lexed : AreWords words
  pub left : List Symbol
  pub runs : run stack words ≡ Some left
  pub may : list_all may_end left ≡ true

-- the text is that of one of the alternatives
abbrev pub Among : List ℕ → List Symbol → List Alternative → Type 0
Among text then' [] = ⊥
Among text then' (a ∷ others) = ((text ≡ a.0) × (a.1 ≡ then')) ⊎ Among text then' others

-- why a word may come first
pub data Choice (x : Symbol) (word : Word) (then' : List Symbol) : Type 0 where
  a_key : Among word.text then' (alternatives x) → Choice x word then'
  a_name : word.kind ≡ kind.Name → named x ≡ Some then' → Choice x word then'
  a_number : word.kind ≡ kind.Number → numbered x (value_of word.text) ≡ Some then' → Choice x word then'
  a_text : word.kind ≡ kind.Text → quoted x ≡ Some then' → Choice x word then'

among_by : (text : List ℕ) (then' : List Symbol) (a : Alternative) (others : List Alternative) (same : Bool) → bytes_eq text a.0 ≡ same → (find text others ≡ Some then' → Among text then' others)
    → (if same then Some a.1 else find text others) ≡ Some then' → Among text then' (a ∷ others)
among_by text then' a others true e later h = inl ((bytes_eq-Decides text a.0).0 e, same_Some _ _ h)
among_by text then' a others false e later h = inr (later h)

found_among : (text : List ℕ) (then' : List Symbol) (as' : List Alternative) → find text as' ≡ Some then' → Among text then' as'
found_among text then' [] is = absurd (none-some _ is)
found_among text then' (a ∷ others) is = among_by text then' a others (bytes_eq text a.0) refl (found_among text then' others) is

choice_by_kind : (x : Symbol) (word : Word) (then' : List Symbol) (k : TokenKind) → word.kind ≡ k → by_kind x k (value_of word.text) ≡ Some then' → Choice x word then'
choice_by_kind x word then' kind.Name e is = a_name e is
choice_by_kind x word then' kind.Number e is = a_number e is
choice_by_kind x word then' kind.Text e is = a_text e is
choice_by_kind x word then' kind.Sign e is = absurd (none-some _ is)

choice_of : (x : Symbol) (word : Word) (then' : List Symbol) (o : Option (List Symbol)) → find word.text (alternatives x) ≡ o → first_of o (by_kind x word.kind (value_of word.text)) ≡ Some then' → Choice x word then'
choice_of x word then' (Some t) e is = a_key (found_among word.text then' (alternatives x) (e ∙ ap Some (same_Some _ _ is)))
choice_of x word then' None e is = choice_by_kind x word then' word.kind refl is

-- the first word, and why it may come
pub record First (x : Symbol) (rest : List Symbol) (words : List Word) : Type 0 where
  pub word : Word
  pub left : List Word
  pub then' : List Symbol
  pub lexed : IsWord word.kind word.text
  pub choice : Choice x word then'
  pub is : words ≡ word ∷ left
  pub placed : placed_of (x ∷ rest) words ≡ record { word = word; depth = open_count (then' ++ rest) } ∷ placed_of (then' ++ rest) left
  pub ends : Ends (then' ++ rest) left

first_here : (x : Symbol) (rest : List Symbol) (word : Word) (words : List Word) (left then' : List Symbol) → AreWords (word ∷ words) → behind x word ≡ Some then' → run (then' ++ rest) words ≡ Some left → list_all may_end left ≡ true → First x rest (word ∷ words)
first_here x rest word words left then' l b runs may = record {
  word = word;
  left = words;
  then' = then';
  lexed = l.0;
  choice = choice_of x word then' (find word.text (alternatives x)) refl b;
  is = refl;
  placed = ap (λ o. placed_then (chosen o (may_end x) rest (step rest word)) word (λ s. placed_of s words)) b;
  ends = record { lexed = l.1; left = left; runs = runs; may = may };
}

first_by : (x : Symbol) (rest : List Symbol) (word : Word) (words : List Word) (left : List Symbol) (b : Option (List Symbol)) → AreWords (word ∷ words) → may_end x ≡ false → behind x word ≡ b
    → and_then (chosen b (may_end x) rest (step rest word)) (λ s. run s words) ≡ Some left → list_all may_end left ≡ true → First x rest (word ∷ words)
first_by x rest word words left (Some then') l stays e runs may = first_here x rest word words left then' l e runs may
first_by x rest word words left None l stays e runs may =
    absurd (none-some left (sym (ap (λ b. and_then (chosen None b rest (step rest word)) (λ s. run s words)) stays) ∙ runs))

-- a symbol that may not end begins with a word
pub first : (x : Symbol) (rest : List Symbol) (words : List Word) → may_end x ≡ false → Ends (x ∷ rest) words → First x rest words
first x rest [] stays e =
    absurd (true≢false (sym (and_parts (may_end x) (list_all may_end rest) (ap (list_all may_end) (same_Some _ _ e.runs) ∙ e.may)).0 ∙ stays))
first x rest (word ∷ words) stays e = first_by x rest word words e.left (behind x word) e.lexed stays refl e.runs e.may

-- a word was taken
pub record Took (is : Word → Type 0) (stack : List Symbol) (words : List Word) (new : List Symbol) : Type 0 where
  pub left : List Word
  pub spelled : (depth : ℕ) → open_count new ≡ depth → one is depth (placed_of stack words) (placed_of new left)
  pub ends : Ends new left
  pub shorter : length left < length words

-- the first word is such a one
pub took : {x : Symbol} {rest : List Symbol} {words : List Word} (is : Word → Type 0) (f : First x rest words) (then0 : List Symbol) → is f.word → then0 ≡ f.then' → Took is (x ∷ rest) words (then0 ++ rest)
took {x} {rest} {words} is f then0 h e = subst (λ t. Took is (x ∷ rest) words (t ++ rest)) (sym e) (record {
  left = f.left;
  spelled = λ depth o. (f.word, h, f.placed ∙ ap (λ d. record { word = f.word; depth = d } ∷ placed_of (f.then' ++ rest) f.left) o);
  ends = f.ends;
  shorter = subst (λ ws. length f.left < length ws) (sym f.is) (omega arith);
})

-- a part was found, and what stands behind it
pub record Found {V : Type 0} (p : V → Spelling) (depth : ℕ) (stack rest : List Symbol) (words : List Word) : Type 0 where
  pub value : V
  pub left : List Word
  pub is : p value depth (placed_of stack words) (placed_of rest left)
  pub ends : Ends rest left
  pub shorter : length left ≤ length words

-- among at most this many words, the symbols stand for such a part
abbrev pub Finds : {V : Type 0} → ℕ → (V → Spelling) → (List Symbol → List Symbol) → Type 0
Finds n p f = (depth : ℕ) (rest : List Symbol) (words : List Word) → length words ≤ n → open_count rest ≡ depth → Ends (f rest) words → Found p depth (f rest) rest words

-- a word is found
pub found_word : {V : Type 0} {stack rest : List Symbol} {words : List Word} (p : V → Spelling) (value : V) (depth : ℕ) (is : Word → Type 0) → Took is stack words rest
    → ((before after : List Placed) → one is depth before after → p value depth before after) → open_count rest ≡ depth → Found p depth stack rest words
found_word {stack = stack} {rest = rest} {words = words} p value depth is t h o = record {
  value = value;
  left = t.left;
  is = h (placed_of stack words) (placed_of rest t.left) (t.spelled depth o);
  ends = t.ends;
  shorter = let s = t.shorter in omega (arith, s);
}

-- one part and then the other
pub found_seq : {V W : Type 0} {n : ℕ} (p : V → Spelling) (q : W → Spelling) (f g : List Symbol → List Symbol) → Finds n p f → Finds n q g → Closed g
    → Finds {V = V × W} n (λ x. p x.0 ⨾ q x.1) (λ rest. f (g rest))
found_seq p q f g first' second closed depth rest words h o ends =
    let a = first' depth (g rest) words h (closed rest ∙ o) ends in
    let s = a.shorter in
    let b = second depth rest a.left (omega (arith, h, s)) o a.ends in
    let t = b.shorter in
    record { value = (a.value, b.value); left = b.left; is = (placed_of (g rest) a.left, a.is, b.is); ends = b.ends; shorter = omega (arith, s, t) }

-- the same part under another name
pub found_as : {V W : Type 0} {n : ℕ} (p : V → Spelling) (q : W → Spelling) (f : List Symbol → List Symbol) (make : V → W) → ((x : V) (depth : ℕ) (before after : List Placed) → p x depth before after → q (make x) depth before after) → Finds n p f → Finds n q f
found_as p q f make h finds depth rest words b o ends =
    let a = finds depth rest words b o ends in
    record { value = make a.value; left = a.left; is = h a.value depth (placed_of (f rest) words) (placed_of rest a.left) a.is; ends = a.ends; shorter = a.shorter }

-- a key, and what it leads to
pub found_behind : {V : Type 0} {stack : List Symbol} {words : List Word} {n : ℕ} (text : List ℕ) (p : V → Spelling) (f : List Symbol → List Symbol) (depth : ℕ) (rest : List Symbol)
    → Took (λ word. word.text ≡ text) stack words (f rest) → length words ≤ n → Finds n p f → Closed f → open_count rest ≡ depth → Found (λ x. key text ⨾ p x) depth stack rest words
found_behind text p f depth rest t h finds closed o =
    let s = t.shorter in
    let a = finds depth rest t.left (omega (arith, h, s)) o t.ends in
    let u = a.shorter in
    record { value = a.value; left = a.left; is = (placed_of (f rest) t.left, t.spelled depth (closed rest ∙ o), a.is); ends = a.ends; shorter = omega (arith, s, u) }

-- the symbol stands for this word alone
pub only_key : (x : Symbol) (text : List ℕ) → may_end x ≡ false → alternatives x ≡ (text, []) ∷ [] → named x ≡ None → ((v : ℕ) → numbered x v ≡ None) → quoted x ≡ None
    → (rest : List Symbol) (words : List Word) → Ends (x ∷ rest) words → Took (λ word. word.text ≡ text) (x ∷ rest) words rest
only_key x text stays alone no_name no_number no_text rest words ends = by (first x rest words stays ends) (first x rest words stays ends).choice
  where
    by : (f : First x rest words) → Choice x f.word f.then' → Took (λ word. word.text ≡ text) (x ∷ rest) words rest
    by f (a_key among) = of (subst (Among f.word.text f.then') alone among)
      where
        of : Among f.word.text f.then' ((text, []) ∷ []) → Took (λ word. word.text ≡ text) (x ∷ rest) words rest
        of (inl (t, e)) = took (λ word. word.text ≡ text) f [] t e
        of (inr none) = absurd none
    by f (a_name k e) = absurd (none-some _ (sym no_name ∙ e))
    by f (a_number k e) = absurd (none-some _ (sym (no_number (value_of f.word.text)) ∙ e))
    by f (a_text k e) = absurd (none-some _ (sym no_text ∙ e))

pub finds_key : {n : ℕ} (x : Symbol) (text : List ℕ) → may_end x ≡ false → alternatives x ≡ (text, []) ∷ [] → named x ≡ None → ((v : ℕ) → numbered x v ≡ None) → quoted x ≡ None
    → Finds {V = Unit {0}} n (λ u. key text) (λ rest. x ∷ rest)
finds_key x text stays alone no_name no_number no_text depth rest words h o ends =
    found_word (λ u. key text) tt depth (λ word. word.text ≡ text) (only_key x text stays alone no_name no_number no_text rest words ends) (λ b a is. is) o

-- a symbol that may end: it stands for nothing, or begins with a word
pub data Tail (x : Symbol) (rest : List Symbol) (words : List Word) : Type 0 where
  stops : Ends rest words → placed_of (x ∷ rest) words ≡ placed_of rest words → Tail x rest words
  goes : First x rest words → Tail x rest words

tail_by : (x : Symbol) (rest : List Symbol) (word : Word) (words : List Word) (left : List Symbol) (b : Option (List Symbol)) → AreWords (word ∷ words) → may_end x ≡ true → behind x word ≡ b
    → and_then (chosen b (may_end x) rest (step rest word)) (λ s. run s words) ≡ Some left → list_all may_end left ≡ true → Tail x rest (word ∷ words)
tail_by x rest word words left (Some then') l ends e runs may = goes (first_here x rest word words left then' l e runs may)
tail_by x rest word words left None l ends e runs may =
    stops
    (record { lexed = l; left = left; runs = sym (ap (λ b. and_then (chosen None b rest (step rest word)) (λ s. run s words)) ends) ∙ runs; may = may })
    (ap (λ o. placed_then (chosen o (may_end x) rest (step rest word)) word (λ s. placed_of s words)) e
    ∙ ap (λ b. placed_then (chosen None b rest (step rest word)) word (λ s. placed_of s words)) ends)

pub tail : (x : Symbol) (rest : List Symbol) (words : List Word) → may_end x ≡ true → Ends (x ∷ rest) words → Tail x rest words
tail x rest [] ends e =
    stops (record { lexed = tt; left = rest; runs = refl; may = (and_parts (may_end x) (list_all may_end rest) (ap (list_all may_end) (same_Some _ _ e.runs) ∙ e.may)).1 }) refl
tail x rest (word ∷ words) ends e = tail_by x rest word words e.left (behind x word) e.lexed ends refl e.runs e.may

-- nothing more is found
pub found_none : {V : Type 0} {stack rest : List Symbol} {words : List Word} (p : V → Spelling) (value : V) (depth : ℕ) → Ends rest words → placed_of stack words ≡ placed_of rest words
    → ((before after : List Placed) → before ≡ after → p value depth before after) → Found p depth stack rest words
found_none {stack = stack} {rest = rest} {words = words} p value depth ends e h = record {
  value = value;
  left = words;
  is = h (placed_of stack words) (placed_of rest words) e;
  ends = ends;
  shorter = omega arith;
}

-- a first word shows that there are some
pub some_words : {x : Symbol} {rest : List Symbol} {words : List Word} → First x rest words → length words ≤ 0 → ⊥
some_words f h = omega (arith, h, ap length f.is)

pub fewer : {V : Type 0} {p : V → Spelling} {f : List Symbol → List Symbol} (n : ℕ) → Finds (suc n) p f → Finds n p f
fewer n finds depth rest words h o ends = finds depth rest words (omega (arith, h)) o ends

-- a part was found, and a word at least was taken
abbrev pub Strictly : {V : Type 0} → (V → Spelling) → ℕ → List Symbol → List Symbol → List Word → Type 0
Strictly p depth stack rest words = (a : Found p depth stack rest words) × (length a.left < length words)

pub strictly_behind : {V : Type 0} {stack : List Symbol} {words : List Word} {n : ℕ} (text : List ℕ) (p : V → Spelling) (f : List Symbol → List Symbol) (depth : ℕ) (rest : List Symbol)
    → Took (λ word. word.text ≡ text) stack words (f rest) → length words ≤ suc n → Finds n p f → Closed f → open_count rest ≡ depth → Strictly (λ x. key text ⨾ p x) depth stack rest words
strictly_behind text p f depth rest t h finds closed o =
    let s = t.shorter in
    let a = finds depth rest t.left (omega (arith, h, s)) o t.ends in
    let u = a.shorter in
    (record { value = a.value; left = a.left; is = (placed_of (f rest) t.left, t.spelled depth (closed rest ∙ o), a.is); ends = a.ends; shorter = omega (arith, s, u) }, omega (arith, s, u))

pub strictly_as : {V W : Type 0} {stack rest : List Symbol} {words : List Word} (p : V → Spelling) (q : W → Spelling) (depth : ℕ) → Strictly p depth stack rest words
    → ((x : V) (before after : List Placed) → p x depth before after → (y : W) × q y depth before after) → Strictly q depth stack rest words
strictly_as {stack = stack} {rest = rest} {words = words} p q depth (a, less) h =
    let m = h a.value (placed_of stack words) (placed_of rest a.left) a.is in
    (record { value = m.0; left = a.left; is = m.1; ends = a.ends; shorter = a.shorter }, less)
