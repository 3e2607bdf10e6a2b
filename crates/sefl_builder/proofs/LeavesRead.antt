-- Single words, addresses and targets are read.
use Rattle.std.proofs.Common.{◌≡◌, ℕ, ℤ, pos, ◌≤◌, ◌⊎◌, inl, inr, nat_le, Bool, true, false, List, [], ◌∷◌, length, Option, None, Some, codes, bytes_eq, if◌then◌else◌, refl, sym, ap, ◌∙◌, subst, true≢false, IsTrue, arith}
use Rattle.std.proofs.lemmas.Bool.Decides.{nat_tests}
use Rattle.sefl_lex.specs.Words.{IsWord, is_name as is_lexed_name, is_number, are_digits, have_value}
use Rattle.sefl_lex.specs.declared.token.TokenKind.{TokenKind}
use Rattle.sefl_lex.specs.declared.token.TokenKind.TheVariants as kind
use Rattle.sefl_syntax.specs.Name.{is_name}
use Rattle.sefl_syntax.specs.declared.reference.Scope.{Scope}
use Rattle.sefl_syntax.specs.declared.reference.Scope.TheVariants.{Global, Local}
use Rattle.sefl_syntax.specs.declared.reference.Addr.{Addr}
use Rattle.sefl_syntax.specs.declared.reference.Target.{Target}
use Rattle.sefl_syntax.specs.declared.reference.Target.TheVariants.{Header, Meta, Bound}
use Rattle.sefl_grammar.specs.Word.{Word, Placed, bare}
use Rattle.sefl_grammar.specs.Grammar as grammar
use Rattle.sefl_grammar.specs.Grammar.{minus, ◌⨾◌}
use Rattle.sefl_builder.specs.Reading.{then', begins_with, begins_name, begins_number, is_name_kind, is_number_kind}
use Rattle.sefl_builder.specs.Leaves.{key, name, number, text, number_in, port, offset, width, within, word}
use Rattle.sefl_builder.specs.Terms.{ahead, back, signed, unsigned, tagged, untagged, addr, sized, header, scope, meta, bound, target}
use Rattle.sefl_builder.proofs.Bodies.{body_of_quoted}
use Rattle.sefl_builder.proofs.Taking.{Fine, Takes, done, next, if_so, if_not, takes_key, takes_word, begins}

lexed_of : (w : Word) (k : TokenKind) → w.kind ≡ k → IsWord w.kind w.text → IsWord k w.text
lexed_of w k is l = subst (λ x. IsWord x w.text) is l

-- what the lexer takes for a name is one
is_a_name : (word : List ℕ) → IsTrue (is_lexed_name word) → is_name word ≡ true
is_a_name [] h = h
is_a_name (c ∷ word) h = h

pub takes_name : (n : List ℕ) (d : ℕ) (b a : List Placed) → grammar.name n d b a → Fine b → Takes name n b a
unfolding name
takes_name n d b a (w, is, e) l =
    let first : Fine (record { word = w; depth = d } ∷ a) = subst Fine e l in
    record {
      fine = first.2;
      shorter = omega (arith, ap length e);
      reads = ap (λ m. name (bare m)) e ∙ rw (is_a_name w.text (lexed_of w kind.Name is.0 first.0)) (ap (λ t. Some (t, bare a)) is.1);
    }

pub takes_number : (n : ℕ) (d : ℕ) (b a : List Placed) → grammar.number n d b a → Fine b → Takes number n b a
unfolding number
takes_number n d b a (w, is, e) l =
    let first : Fine (record { word = w; depth = d } ∷ a) = subst Fine e l in
    record {
      fine = first.2;
      shorter = omega (arith, ap length e);
      reads = ap (λ m. number (bare m)) e ∙ rw (is.0, is.1) refl;
    }

pub takes_text : (t : List ℕ) (d : ℕ) (b a : List Placed) → grammar.text t d b a → Fine b → Takes text t b a
unfolding text
takes_text t d b a (w, is, e) l =
    let first : Fine (record { word = w; depth = d } ∷ a) = subst Fine e l in
    record {
      fine = first.2;
      shorter = omega (arith, ap length e);
      reads = ap (λ m. text (bare m)) e ∙ rw (is.0, is.1) (ap (λ t. Some (t, bare a)) (body_of_quoted t));
    }

le_yes : (a b : ℕ) → a ≤ b → nat_le a b ≡ true
le_yes a b h = grind (arith, nat_tests)

pub takes_number_in : (least most n : ℕ) (d : ℕ) (b a : List Placed) → grammar.number_in least most n d b a → Fine b → Takes (number_in least most) n b a
unfolding number_in
takes_number_in least most n d b a (low, high, is) l =
    next number (within least most) n n b a a (takes_number n d b a is l)
    (λ f. record { fine = f; shorter = omega arith; reads = rw (le_yes least n low, le_yes n most high) refl })

-- what a name, a number or a known word begins
pub begins_as_name : (n : List ℕ) (d : ℕ) (b a : List Placed) → grammar.name n d b a → begins_name (bare b) ≡ true
begins_as_name n d b a (w, is, e) = ap (λ m. begins_name (bare m)) e ∙ ap is_name_kind is.0

pub number_is_no_name : (n : ℕ) (d : ℕ) (b a : List Placed) → grammar.number n d b a → begins_name (bare b) ≡ false
number_is_no_name n d b a (w, is, e) = ap (λ m. begins_name (bare m)) e ∙ ap is_name_kind is.0

pub begins_as_number : (n : ℕ) (d : ℕ) (b a : List Placed) → grammar.number n d b a → begins_number (bare b) ≡ true
begins_as_number n d b a (w, is, e) = ap (λ m. begins_number (bare m)) e ∙ ap is_number_kind is.0

no_name_kind : (k : TokenKind) (t : List ℕ) → IsWord k t → is_lexed_name t ≡ false → is_name_kind k ≡ false
no_name_kind kind.Name t l none = absurd (true≢false (sym l ∙ none))
no_name_kind kind.Number t l none = refl
no_name_kind kind.Text t l none = refl
no_name_kind kind.Sign t l none = refl

no_number_kind : (k : TokenKind) (t : List ℕ) → IsWord k t → is_number t ≡ false → is_number_kind k ≡ false
no_number_kind kind.Number t l none = absurd (true≢false (sym l ∙ none))
no_number_kind kind.Name t l none = refl
no_number_kind kind.Text t l none = refl
no_number_kind kind.Sign t l none = refl

pub key_is_no_name : (t : List ℕ) (d : ℕ) (b a : List Placed) → grammar.key t d b a → Fine b → is_lexed_name t ≡ false → begins_name (bare b) ≡ false
key_is_no_name t d b a (w, is, e) l none =
    let first : Fine (record { word = w; depth = d } ∷ a) = subst Fine e l in
    ap (λ m. begins_name (bare m)) e ∙ no_name_kind w.kind w.text first.0 (ap is_lexed_name is ∙ none)

pub key_is_no_number : (t : List ℕ) (d : ℕ) (b a : List Placed) → grammar.key t d b a → Fine b → is_number t ≡ false → begins_number (bare b) ≡ false
key_is_no_number t d b a (w, is, e) l none =
    let first : Fine (record { word = w; depth = d } ∷ a) = subst Fine e l in
    ap (λ m. begins_number (bare m)) e ∙ no_number_kind w.kind w.text first.0 (ap is_number is ∙ none)

pub takes_offset : (n : ℕ) (d : ℕ) (b a : List Placed) → grammar.offset n d b a → Fine b → Takes offset n b a
takes_offset n d b a is l = takes_number_in 0 1048576 n d b a is l

pub takes_port : (n : ℕ) (d : ℕ) (b a : List Placed) → grammar.port n d b a → Fine b → Takes port n b a
takes_port n d b a is l = takes_number_in 0 4294967295 n d b a is l

takes_width : (n : ℕ) (d : ℕ) (b a : List Placed) → grammar.width n d b a → Fine b → Takes width n b a
takes_width n d b a is l = takes_number_in 1 128 n d b a is l

takes_ahead : (z : ℤ) (d : ℕ) (b a : List Placed) → grammar.ahead z d b a → Fine b → Takes ahead z b a
unfolding ahead
takes_ahead z d b a (n, e, is) l =
    subst (λ x. Takes ahead x b a) (sym e)
    (next offset (λ n ws. Some (pos n, ws)) n (pos n) b a a (takes_offset n d b a is l) (λ f. done (pos n) a a refl f))

takes_back : (z : ℤ) (d : ℕ) (b a : List Placed) → grammar.back z d b a → Fine b → Takes back z b a
unfolding back
takes_back z d b a (n, e, (m, sign, is)) l =
    subst (λ x. Takes back x b a) (sym e)
    (next (key (codes "-")) (λ _ ws. then' (offset ws) (λ n ws. Some (minus n, ws))) tt (minus n) b m a (takes_key (codes "-") d b m sign l) (λ f.
    next offset (λ n ws. Some (minus n, ws)) n (minus n) m a a (takes_offset n d m a is f) (λ f. done (minus n) a a refl f)))

begins_back : (z : ℤ) (t : List ℕ) (v : Bool) (d : ℕ) (b a : List Placed) → grammar.back z d b a → (bytes_eq (codes "-") t ≡ v) → begins_with t (bare b) ≡ v
begins_back z t v d b a (n, e, (m, sign, is)) h = begins (codes "-") t v d b m sign h

takes_signed : (z : ℤ) (d : ℕ) (b a : List Placed) → ((grammar.key (codes "+") ⨾ grammar.ahead z) d b a ⊎ grammar.back z d b a) → Fine b → Takes signed z b a
unfolding signed
takes_signed z d b a (inl (m, sign, is)) l =
    if_not (begins_with (codes "-")) back (λ ws. then' (key (codes "+") ws) (λ _ ws. ahead ws)) z b a (begins (codes "+") (codes "-") false d b m sign refl)
    (next (key (codes "+")) (λ _ ws. ahead ws) tt z b m a (takes_key (codes "+") d b m sign l) (λ f. takes_ahead z d m a is f))
takes_signed z d b a (inr is) l =
    if_so (begins_with (codes "-")) back (λ ws. then' (key (codes "+") ws) (λ _ ws. ahead ws)) z b a (begins_back z (codes "-") true d b a is refl) (takes_back z d b a is l)

back_is_no_number : (z : ℤ) (d : ℕ) (b a : List Placed) → grammar.back z d b a → Fine b → begins_number (bare b) ≡ false
unfolding is_number are_digits have_value
back_is_no_number z d b a (n, e, (m, sign, is)) l = key_is_no_number (codes "-") d b m sign l refl

ahead_is_number : (z : ℤ) (d : ℕ) (b a : List Placed) → grammar.ahead z d b a → begins_number (bare b) ≡ true
ahead_is_number z d b a (n, e, (low, high, is)) = begins_as_number n d b a is

takes_unsigned : (z : ℤ) (d : ℕ) (b a : List Placed) → (grammar.ahead z d b a ⊎ grammar.back z d b a) → Fine b → Takes unsigned z b a
unfolding unsigned
takes_unsigned z d b a (inl is) l = if_so begins_number ahead back z b a (ahead_is_number z d b a is) (takes_ahead z d b a is l)
takes_unsigned z d b a (inr is) l = if_not begins_number ahead back z b a (back_is_no_number z d b a is l) (takes_back z d b a is l)

no_name_begins : (z : ℤ) (d : ℕ) (b a : List Placed) → (grammar.ahead z d b a ⊎ grammar.back z d b a) → Fine b → begins_name (bare b) ≡ false
no_name_begins z d b a (inl (n, e, (low, high, is))) l = number_is_no_name n d b a is
no_name_begins z d b a (inr (n, e, (m, sign, is))) l = key_is_no_name (codes "-") d b m sign l refl

takes_place : (t : Option (List ℕ)) (z : ℤ) (d : ℕ) (b a : List Placed) → grammar.place_of t z d b a → Fine b → Takes addr (record { tag = t; offset = z }) b a
unfolding addr tagged untagged
takes_place None z d b a is l =
    if_not begins_name tagged untagged _ b a (no_name_begins z d b a is l)
    (next unsigned (λ z ws. Some (record { tag = None; offset = z }, ws)) z _ b a a (takes_unsigned z d b a is l) (λ f. done _ a a refl f))
takes_place (Some n) z d b a (m, is, sign) l =
    if_so begins_name tagged untagged _ b a (begins_as_name n d b m is)
    (next name (λ tag ws. then' (signed ws) (λ z ws. Some (record { tag = Some tag; offset = z }, ws))) n _ b m a (takes_name n d b m is l) (λ f.
    next signed (λ z ws. Some (record { tag = Some n; offset = z }, ws)) z _ m a a (takes_signed z d m a sign f) (λ f. done _ a a refl f)))

pub takes_addr : (x : Addr) (d : ℕ) (b a : List Placed) → grammar.addr x d b a → Fine b → Takes addr x b a
takes_addr x d b a is l = takes_place x.tag x.offset d b a is l

takes_sized : (w : ℕ) (d : ℕ) (b a : List Placed) → (grammar.key (codes ":") ⨾ grammar.width w) d b a → Fine b → Takes sized w b a
unfolding sized
takes_sized w d b a (m, colon, is) l =
    next (key (codes ":")) (λ _ ws. width ws) tt w b m a (takes_key (codes ":") d b m colon l) (λ f. takes_width w d m a is f)

takes_scope : (s : Scope) (d : ℕ) (b a : List Placed) → grammar.scope s d b a → Fine b → Takes scope s b a
unfolding scope
takes_scope Global d b a is l =
    if_so (begins_with (codes "global")) (word (codes "global") Global) (word (codes "local") Local) Global b a (begins (codes "global") (codes "global") true d b a is refl) (takes_word (codes "global") Global d b a is l)
takes_scope Local d b a is l =
    if_not (begins_with (codes "global")) (word (codes "global") Global) (word (codes "local") Local) Local b a (begins (codes "local") (codes "global") false d b a is refl) (takes_word (codes "local") Local d b a is l)

scope_begins : (s : Scope) (t : List ℕ) (d : ℕ) (b a : List Placed) → grammar.scope s d b a → bytes_eq (codes "global") t ≡ false → bytes_eq (codes "local") t ≡ false → begins_with t (bare b) ≡ false
scope_begins Global t d b a is g l = begins (codes "global") t false d b a is g
scope_begins Local t d b a is g l = begins (codes "local") t false d b a is l

pub takes_target : (t : Target) (d : ℕ) (b a : List Placed) → grammar.target t d b a → Fine b → Takes target t b a
unfolding target header meta bound
takes_target (Header x w) d b a (m, word, (m', at', is)) l =
    if_so (begins_with (codes "head")) header (λ ws. if begins_with (codes "$") ws then bound ws else meta ws) (Header x w) b a (begins (codes "head") (codes "head") true d b m word refl)
    (next (key (codes "head")) (λ _ ws. then' (addr ws) (λ a ws. then' (sized ws) (λ w ws. Some (Header a w, ws)))) tt (Header x w) b m a (takes_key (codes "head") d b m word l) (λ f.
    next addr (λ a ws. then' (sized ws) (λ w ws. Some (Header a w, ws))) x (Header x w) m m' a (takes_addr x d m m' at' f) (λ f.
    next sized (λ w ws. Some (Header x w, ws)) w (Header x w) m' a a (takes_sized w d m' a is f) (λ f. done (Header x w) a a refl f))))
takes_target (Meta s n w) d b a (m, word, (m', named, is)) l =
    if_not (begins_with (codes "head")) header (λ ws. if begins_with (codes "$") ws then bound ws else meta ws) (Meta s n w) b a (scope_begins s (codes "head") d b m word refl refl)
    (if_not (begins_with (codes "$")) bound meta (Meta s n w) b a (scope_begins s (codes "$") d b m word refl refl)
    (next scope (λ s ws. then' (name ws) (λ n ws. then' (sized ws) (λ w ws. Some (Meta s n w, ws)))) s (Meta s n w) b m a (takes_scope s d b m word l) (λ f.
    next name (λ n ws. then' (sized ws) (λ w ws. Some (Meta s n w, ws))) n (Meta s n w) m m' a (takes_name n d m m' named f) (λ f.
    next sized (λ w ws. Some (Meta s n w, ws)) w (Meta s n w) m' a a (takes_sized w d m' a is f) (λ f. done (Meta s n w) a a refl f)))))
takes_target (Bound n w) d b a (m, word, (m', named, is)) l =
    if_not (begins_with (codes "head")) header (λ ws. if begins_with (codes "$") ws then bound ws else meta ws) (Bound n w) b a (begins (codes "$") (codes "head") false d b m word refl)
    (if_so (begins_with (codes "$")) bound meta (Bound n w) b a (begins (codes "$") (codes "$") true d b m word refl)
    (next (key (codes "$")) (λ _ ws. then' (name ws) (λ n ws. then' (sized ws) (λ w ws. Some (Bound n w, ws)))) tt (Bound n w) b m a (takes_key (codes "$") d b m word l) (λ f.
    next name (λ n ws. then' (sized ws) (λ w ws. Some (Bound n w, ws))) n (Bound n w) m m' a (takes_name n d m m' named f) (λ f.
    next sized (λ w ws. Some (Bound n w, ws)) w (Bound n w) m' a a (takes_sized w d m' a is f) (λ f. done (Bound n w) a a refl f)))))
