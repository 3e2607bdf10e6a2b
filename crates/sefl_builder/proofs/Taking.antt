-- Readers along words that spell a thing.
use Rattle.std.proofs.Common.{◌≡◌, ℕ, zero, suc, ◌<◌, ◌≤◌, ◌||◌, Bool, true, false, List, [], ◌∷◌, length, Option, Some, bytes_eq, if◌then◌else◌, refl, sym, ap, ◌∙◌, subst, arith, eq-eqb}
use Rattle.std.proofs.lemmas.List.{length-map}
use Rattle.sefl_lex.specs.Words.{IsWord}
use Rattle.sefl_lex.specs.declared.token.TokenKind.{TokenKind}
use Rattle.sefl_grammar.specs.Word.{Word, Placed, bare}
use Rattle.sefl_grammar.specs.Grammar as grammar
use Rattle.sefl_builder.specs.Reading.{Reader, then', known, many, all, added, begins_with}
use Rattle.sefl_builder.specs.Leaves.{key, skip, word}

-- each word is one of its kind, and has no more than 64 constructs open
abbrev pub Fine : List Placed → Type 0
Fine [] = Unit {0}
Fine (p ∷ ps) = IsWord p.word.kind p.word.text × (p.depth ≤ 64) × Fine ps

-- the reader finds this in the first words, and leaves the second
pub record Takes {A : Type 0} (read : Reader A) (x : A) (before after : List Placed) : Type 0 where
  pub fine : Fine after
  pub shorter : length after ≤ length before
  pub reads : read (bare before) ≡ Some (x, bare after)

-- the same, and it takes one word at least
pub record Steps {A : Type 0} (read : Reader A) (x : A) (before after : List Placed) : Type 0 where
  pub takes : Takes read x before after
  pub less : length after < length before

-- nothing more is taken
pub done : {A : Type 0} (x : A) (b a : List Placed) → b ≡ a → Fine b → Takes (λ ws. Some (x, ws)) x b a
done x b a e l = subst (λ m. Takes (λ ws. Some (x, ws)) x b m) e (record { fine = l; shorter = omega arith; reads = refl })

pub next : {A B : Type 0} (p : Reader A) (k : A → Reader B) (x : A) (y : B) (b m a : List Placed) → Takes p x b m → (Fine m → Takes (k x) y m a) → Takes (λ ws. then' (p ws) k) y b a
next p k x y b m a f g =
    let h : Takes (k x) y m a = g f.fine in
    record {
      fine = h.fine;
      shorter = omega (arith, f.shorter, h.shorter);
      reads = ap (λ r. then' r k) f.reads ∙ h.reads;
    }

pub if_so : {A : Type 0} (test : List Word → Bool) (p q : Reader A) (x : A) (b a : List Placed) → test (bare b) ≡ true → Takes p x b a → Takes (λ ws. if test ws then p ws else q ws) x b a
if_so test p q x b a e f = record { fine = f.fine; shorter = f.shorter; reads = ap (λ v. if v then p (bare b) else q (bare b)) e ∙ f.reads }

pub if_not : {A : Type 0} (test : List Word → Bool) (p q : Reader A) (x : A) (b a : List Placed) → test (bare b) ≡ false → Takes q x b a → Takes (λ ws. if test ws then p ws else q ws) x b a
if_not test p q x b a e f = record { fine = f.fine; shorter = f.shorter; reads = ap (λ v. if v then p (bare b) else q (bare b)) e ∙ f.reads }

-- the same words by the same reader under another name
pub as_read : {A : Type 0} (p q : Reader A) (x : A) (b a : List Placed) → p (bare b) ≡ q (bare b) → Takes q x b a → Takes p x b a
as_read p q x b a e f = record { fine = f.fine; shorter = f.shorter; reads = e ∙ f.reads }

yes : (t : List ℕ) → bytes_eq t t ≡ true
yes [] = refl
yes (c ∷ t) = rw (eq-eqb c c refl, yes t) refl

-- a word that is known
pub takes_key : (t : List ℕ) (d : ℕ) (b a : List Placed) → grammar.key t d b a → Fine b → Takes (key t) tt b a
unfolding key
takes_key t d b a (w, is, e) l =
    let first : Fine (record { word = w; depth = d } ∷ a) = subst Fine e l in
    record {
      fine = first.2;
      shorter = omega (arith, ap length e);
      reads = ap (λ m. key t (bare m)) e ∙ rw (is, yes t) refl;
    }

pub key_less : (t : List ℕ) (d : ℕ) (b a : List Placed) → grammar.key t d b a → length a < length b
key_less t d b a (w, is, e) = omega (arith, ap length e)

pub key_depth : (t : List ℕ) (d : ℕ) (b a : List Placed) → grammar.key t d b a → Fine b → d ≤ 64
key_depth t d b a (w, is, e) l = let first : Fine (record { word = w; depth = d } ∷ a) = subst Fine e l in first.1

-- this word, which stands for the value
pub takes_word : {A : Type 0} (t : List ℕ) (x : A) (d : ℕ) (b a : List Placed) → grammar.key t d b a → Fine b → Takes (word t x) x b a
takes_word t x d b a is l = next (key t) (λ _ ws. Some (x, ws)) tt x b a a (takes_key t d b a is l) (λ f. done x a a refl f)

-- what is said of the words, where the first is known
pub at_key : {X : Type 0} (f : List Word → X) (t : List ℕ) (d : ℕ) (b a : List Placed) → grammar.key t d b a → (v : X) → ((k : TokenKind) → f (record { kind = k; text = t } ∷ bare a) ≡ v) → f (bare b) ≡ v
at_key f t d b a (w, is, e) v h =
    ap (λ m. f (bare m)) e ∙ ap (λ x. f (record { kind = w.kind; text = x } ∷ bare a)) is ∙ h w.kind

pub takes_skip : (t : List ℕ) (d : ℕ) (b a : List Placed) → grammar.key t d b a → Fine b → Takes skip tt b a
unfolding skip
takes_skip t d b a is l =
    let f : Takes (key t) tt b a = takes_key t d b a is l in
    record { fine = f.fine; shorter = f.shorter; reads = at_key skip t d b a is (Some (tt, bare a)) (λ k. refl) }

pub takes_known : {A B : Type 0} (ahead : List Word → Option A) (k : A → Reader B) (x : A) (y : B) (b a : List Placed) → ahead (bare b) ≡ Some x → Takes (k x) y b a → Takes (λ ws. known (ahead ws) (λ x. k x ws)) y b a
takes_known ahead k x y b a e f = record { fine = f.fine; shorter = f.shorter; reads = ap (λ o. known o (λ x. k x (bare b))) e ∙ f.reads }

-- whether another word begins there
pub begins : (t t' : List ℕ) (v : Bool) (d : ℕ) (b a : List Placed) → grammar.key t d b a → bytes_eq t t' ≡ v → begins_with t' (bare b) ≡ v
begins t t' v d b a (w, is, e) h = ap (λ m. begins_with t' (bare m)) e ∙ ap (λ x. bytes_eq x t') is ∙ h

-- a key, and then the others
pub steps_key : {A : Type 0} (t : List ℕ) (k : Unit {0} → Reader A) (x : A) (d : ℕ) (b m a : List Placed) → grammar.key t d b m → Fine b → (Fine m → Takes (k tt) x m a) → Steps (λ ws. then' (key t ws) k) x b a
steps_key t k x d b m a is l g =
    let f : Takes (key t) tt b m = takes_key t d b m is l in
    let h : Takes (k tt) x m a = g f.fine in
    record { takes = next (key t) k tt x b m a f g; less = omega (arith, key_less t d b m is, h.shorter) }

-- one test or the other
pub or_false : (x y : Bool) → x ≡ false → y ≡ false → (x || y) ≡ false
or_false x y e f = rw (e, f) refl

pub or_true : (x y : Bool) → x ≡ false → y ≡ true → (x || y) ≡ true
or_true x y e f = rw (e, f) refl

pub or_first : (x y : Bool) → x ≡ true → (x || y) ≡ true
or_first x y e = rw e refl

-- values one after another
pub record TakesMany {A : Type 0} (goes : List Word → Bool) (item : Reader A) (xs : List A) (before after : List Placed) : Type 0 where
  pub fine : Fine after
  pub shorter : length after ≤ length before
  pub reads : (most : ℕ) → length before ≤ most → many goes item most (bare before) ≡ Some (xs, bare after)

no_more : {A : Type 0} (goes : List Word → Bool) (item : Reader A) (most : ℕ) (ws : List Word) → goes ws ≡ false → many goes item most ws ≡ Some ([], ws)
no_more goes item zero ws g = refl
no_more goes item (suc most) ws g = rw g refl

pub many_none : {A : Type 0} (goes : List Word → Bool) (item : Reader A) (b a : List Placed) → b ≡ a → Fine b → goes (bare a) ≡ false → TakesMany goes item [] b a
many_none goes item b a e l g =
    subst (λ m. TakesMany goes item [] m a) (sym e)
    (record { fine = subst Fine e l; shorter = omega arith; reads = λ most h. no_more goes item most (bare a) g })

one_more : {A : Type 0} (goes : List Word → Bool) (item : Reader A) (x : A) (xs : List A) (b m a : List Placed) (most : ℕ)
    → goes (bare b) ≡ true → Steps item x b m → TakesMany goes item xs m a → length b ≤ most → many goes item most (bare b) ≡ Some (x ∷ xs, bare a)
one_more goes item x xs b m a zero g s r h = absurd (omega (arith, s.less))
one_more goes item x xs b m a (suc most) g s r h =
    let e : many goes item most (bare m) ≡ Some (xs, bare a) = r.reads most (omega (arith, s.less)) in
    rw (g, s.takes.reads, e) refl

pub many_one : {A : Type 0} (goes : List Word → Bool) (item : Reader A) (x : A) (xs : List A) (b m a : List Placed)
    → goes (bare b) ≡ true → Steps item x b m → (Fine m → TakesMany goes item xs m a) → TakesMany goes item (x ∷ xs) b a
many_one goes item x xs b m a g s r =
    let rest : TakesMany goes item xs m a = r s.takes.fine in
    record {
      fine = rest.fine;
      shorter = omega (arith, s.less, rest.shorter);
      reads = λ most h. one_more goes item x xs b m a most g s rest h;
    }

pub takes_all : {A : Type 0} (goes : List Word → Bool) (item : Reader A) (xs : List A) (b a : List Placed) → TakesMany goes item xs b a → Takes (all goes item) xs b a
unfolding all
takes_all goes item xs b a f = record { fine = f.fine; shorter = f.shorter; reads = f.reads (length (bare b)) (omega (arith, length-map b (λ p. p.word))) }

-- the value that is known, and those behind it
pub takes_added : {A : Type 0} (goes : List Word → Bool) (item : Reader A) (x : A) (xs : List A) (b a : List Placed) → TakesMany goes item xs b a → Takes (λ ws. added (x ∷ []) (all goes item ws)) (x ∷ xs) b a
takes_added goes item x xs b a f =
    let g : Takes (all goes item) xs b a = takes_all goes item xs b a f in
    record { fine = g.fine; shorter = g.shorter; reads = ap (added (x ∷ [])) g.reads }

-- there is one
abbrev pub some_of : {A : Type 0} → List A → Bool
some_of [] = false
some_of (x ∷ xs) = true

-- a value alone, or the chain that it begins
abbrev pub joined : {A : Type 0} → (List A → A) → A → List A → A
joined of x [] = x
joined of x (y ∷ ys) = of (x ∷ y ∷ ys)

pub takes_chain : {A : Type 0} (goes : List Word → Bool) (item : Reader A) (of : List A → A) (x : A) (xs : List A) (b a : List Placed)
    → goes (bare b) ≡ some_of xs → TakesMany goes item xs b a
    → Takes (λ ws. if goes ws then then' (added (x ∷ []) (all goes item ws)) (λ xs ws. Some (of xs, ws)) else Some (x, ws)) (joined of x xs) b a
takes_chain goes item of x [] b a g f =
    if_not goes (λ ws. then' (added (x ∷ []) (all goes item ws)) (λ xs ws. Some (of xs, ws))) (λ ws. Some (x, ws)) x b a g
    (record {
      fine = f.fine;
      shorter = f.shorter;
      reads = ap (λ r. then' r (λ _ ws. Some (x, ws))) (sym (no_more goes item (length b) (bare b) g) ∙ f.reads (length b) (omega arith));
    })
takes_chain goes item of x (y ∷ ys) b a g f =
    if_so goes (λ ws. then' (added (x ∷ []) (all goes item ws)) (λ xs ws. Some (of xs, ws))) (λ ws. Some (x, ws)) (of (x ∷ y ∷ ys)) b a g
    (next (λ ws. added (x ∷ []) (all goes item ws)) (λ xs ws. Some (of xs, ws)) (x ∷ y ∷ ys) (of (x ∷ y ∷ ys)) b a a (takes_added goes item x (y ∷ ys) b a f)
    (λ f. done (of (x ∷ y ∷ ys)) a a refl f))
