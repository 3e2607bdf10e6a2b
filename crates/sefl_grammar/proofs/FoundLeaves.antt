-- Single words, addresses and targets in an accepted list.
use Rattle.std.proofs.Common.{◌≡◌, ℕ, ℤ, pos, ◌≤◌, ◌⊎◌, inl, inr, nat_le, Bool, true, false, List, [], ◌∷◌, ◌++◌, length, None, Some, if◌then◌else◌, codes, refl, subst, arith}
use Rattle.std.proofs.lemmas.Option.{none-some, same_Some}
use Rattle.std.proofs.lemmas.Bool.Decides.{nat_tests}
use Rattle.sefl_lex.specs.Words.{IsWord, value_of}
use Rattle.sefl_lex.specs.declared.token.TokenKind.TheVariants as kind
use Rattle.sefl_syntax.specs.declared.reference.Scope.TheVariants.{Global, Local}
use Rattle.sefl_syntax.specs.declared.reference.Addr.{Addr as AddrOf}
use Rattle.sefl_syntax.specs.declared.reference.Target.TheVariants.{Header, Meta, Bound}
use Rattle.sefl_grammar.specs.Word.{Word}
use Rattle.sefl_grammar.specs.Automaton.{up_to, numbered, open_count}
use Rattle.sefl_grammar.specs.Grammar.{Spelling, ◌⨾◌, key, name, number, text, port, offset, width, ahead, back, minus, addr, target, field_target}
use Rattle.sefl_grammar.proofs.Going.{placed_of}
use Rattle.sefl_grammar.proofs.Ending.{Choice, a_key, a_name, a_number, a_text, First, first, Took, took, Found, Finds, found_word, found_seq, found_behind, finds_key}
use Rattle.sefl_grammar.specs.declared.symbol.Symbol.{Symbol}
use Rattle.sefl_grammar.specs.declared.symbol.Symbol.TheVariants.{Name, Number, Port, Offset, Width, Text, Addr, AddrSign, Target, FieldTarget, Semicolon, Colon}

pub found_semicolon : {n : ℕ} → Finds {V = Unit {0}} n (λ u. key (codes ";")) (λ rest. Semicolon ∷ rest)
found_semicolon = finds_key Semicolon (codes ";") refl refl refl (λ v. refl) refl

found_colon : {n : ℕ} → Finds {V = Unit {0}} n (λ u. key (codes ":")) (λ rest. Colon ∷ rest)
found_colon = finds_key Colon (codes ":") refl refl refl (λ v. refl) refl

pub found_name : {n : ℕ} → Finds n name (λ rest. Name ∷ rest)
found_name depth rest words h o ends = by (first Name rest words refl ends) (first Name rest words refl ends).choice
  where
    by : (f : First Name rest words) → Choice Name f.word f.then' → Found name depth (Name ∷ rest) rest words
    by f (a_key none) = absurd none
    by f (a_name k e) =
        found_word name f.word.text depth (λ word. (word.kind ≡ kind.Name) × (word.text ≡ f.word.text)) (took (λ word. (word.kind ≡ kind.Name) × (word.text ≡ f.word.text)) f [] (k, refl) (same_Some _ _ e)) (λ b a is. is) o
    by f (a_number k e) = absurd (none-some _ e)
    by f (a_text k e) = absurd (none-some _ e)

IsTextOf : List ℕ → Word → Type 0
IsTextOf body word = (word.kind ≡ kind.Text) × (word.text ≡ codes "\"" ++ body ++ codes "\"")

pub found_text : {n : ℕ} → Finds n text (λ rest. Text ∷ rest)
unfolding IsTextOf
found_text depth rest words h o ends = by (first Text rest words refl ends) (first Text rest words refl ends).choice
  where
    by : (f : First Text rest words) → Choice Text f.word f.then' → Found text depth (Text ∷ rest) rest words
    by f (a_key none) = absurd none
    by f (a_name k e) = absurd (none-some _ e)
    by f (a_number k e) = absurd (none-some _ e)
    by f (a_text k e) =
        let body = subst (λ x. IsWord x f.word.text) k f.lexed in
        found_word text body.0 depth (IsTextOf body.0) (took (IsTextOf body.0) f [] (k, body.2) (same_Some _ _ e)) (λ b a is. is) o

-- a number was taken
abbrev pub IsNumber : ℕ → Word → Type 0
IsNumber n word = (word.kind ≡ kind.Number) × (value_of word.text ≡ n)

pub found_number : {n : ℕ} → Finds n number (λ rest. Number ∷ rest)
found_number depth rest words h o ends = by (first Number rest words refl ends) (first Number rest words refl ends).choice
  where
    by : (f : First Number rest words) → Choice Number f.word f.then' → Found number depth (Number ∷ rest) rest words
    by f (a_key none) = absurd none
    by f (a_number k e) = found_word number (value_of f.word.text) depth (IsNumber (value_of f.word.text)) (took (IsNumber (value_of f.word.text)) f [] (k, refl) (same_Some _ _ e)) (λ b a is. is) o
    by f (a_name k e) = absurd (none-some _ e)
    by f (a_text k e) = absurd (none-some _ e)

-- a number that is no more than the most
pub limited : (most value : ℕ) (then0 then' : List Symbol) → up_to most value then0 ≡ Some then' → (value ≤ most) × (then0 ≡ then')
limited most value then0 then' e = by (nat_le value most) refl e
  where
    by : (fits : Bool) → nat_le value most ≡ fits → (if fits then Some then0 else None) ≡ Some then' → (value ≤ most) × (then0 ≡ then')
    by true h e = (grind (arith, nat_tests), same_Some _ _ e)
    by false h e = absurd (none-some _ e)

pub found_port : {n : ℕ} → Finds n port (λ rest. Port ∷ rest)
found_port depth rest words h o ends = by (first Port rest words refl ends) (first Port rest words refl ends).choice
  where
    by : (f : First Port rest words) → Choice Port f.word f.then' → Found port depth (Port ∷ rest) rest words
    by f (a_key none) = absurd none
    by f (a_number k e) =
        let fits = limited 4294967295 (value_of f.word.text) [] f.then' e in
        found_word port (value_of f.word.text) depth (IsNumber (value_of f.word.text)) (took (IsNumber (value_of f.word.text)) f [] (k, refl) fits.1) (λ b a is. (omega arith, fits.0, is)) o
    by f (a_name k e) = absurd (none-some _ e)
    by f (a_text k e) = absurd (none-some _ e)

pub found_offset : {n : ℕ} → Finds n offset (λ rest. Offset ∷ rest)
found_offset depth rest words h o ends = by (first Offset rest words refl ends) (first Offset rest words refl ends).choice
  where
    by : (f : First Offset rest words) → Choice Offset f.word f.then' → Found offset depth (Offset ∷ rest) rest words
    by f (a_key none) = absurd none
    by f (a_number k e) =
        let fits = limited 1048576 (value_of f.word.text) [] f.then' e in
        found_word offset (value_of f.word.text) depth (IsNumber (value_of f.word.text)) (took (IsNumber (value_of f.word.text)) f [] (k, refl) fits.1) (λ b a is. (omega arith, fits.0, is)) o
    by f (a_name k e) = absurd (none-some _ e)
    by f (a_text k e) = absurd (none-some _ e)

width_limits : (value : ℕ) (then' : List Symbol) → numbered Width value ≡ Some then' → (1 ≤ value) × (value ≤ 128) × ([] ≡ then')
width_limits value then' e = by (nat_le 1 value) refl e
  where
    by : (fits : Bool) → nat_le 1 value ≡ fits → (if fits then up_to 128 value [] else None) ≡ Some then' → (1 ≤ value) × (value ≤ 128) × ([] ≡ then')
    by true h e = let most = limited 128 value [] then' e in (grind (arith, nat_tests), most.0, most.1)
    by false h e = absurd (none-some _ e)

pub found_width : {n : ℕ} → Finds n width (λ rest. Width ∷ rest)
found_width depth rest words h o ends = by (first Width rest words refl ends) (first Width rest words refl ends).choice
  where
    by : (f : First Width rest words) → Choice Width f.word f.then' → Found width depth (Width ∷ rest) rest words
    by f (a_key none) = absurd none
    by f (a_number k e) =
        let fits = width_limits (value_of f.word.text) f.then' e in
        found_word width (value_of f.word.text) depth (IsNumber (value_of f.word.text)) (took (IsNumber (value_of f.word.text)) f [] (k, refl) fits.2) (λ b a is. (fits.0, fits.1, is)) o
    by f (a_name k e) = absurd (none-some _ e)
    by f (a_text k e) = absurd (none-some _ e)

-- an offset behind a minus
found_back : {n : ℕ} (stack : List Symbol) (words : List Word) (depth : ℕ) (rest : List Symbol) → Took (λ word. word.text ≡ codes "-") stack words (Offset ∷ rest) → length words ≤ n → open_count rest ≡ depth → Found back depth stack rest words
found_back {n} stack words depth rest t h o =
    let a = found_behind (codes "-") offset (λ r. Offset ∷ r) depth rest t h (found_offset {n = n}) (λ r. refl) o in
    record { value = minus a.value; left = a.left; is = (a.value, refl, a.is); ends = a.ends; shorter = a.shorter }

Signed : ℤ → Spelling
Signed z depth before after = (key (codes "+") ⨾ ahead z) depth before after ⊎ back z depth before after

found_signed : {n : ℕ} → Finds n Signed (λ rest. AddrSign ∷ rest)
unfolding Signed
found_signed {n} depth rest words h o ends = by (first AddrSign rest words refl ends) (first AddrSign rest words refl ends).choice
  where
    by : (f : First AddrSign rest words) → Choice AddrSign f.word f.then' → Found Signed depth (AddrSign ∷ rest) rest words
    by f (a_key (inl (t, e))) =
        let a = found_behind (codes "+") offset (λ r. Offset ∷ r) depth rest (took (λ word. word.text ≡ codes "+") f (Offset ∷ []) t e) h (found_offset {n = n}) (λ r. refl) o in
        record { value = pos a.value; left = a.left; is = inl (a.is.0, a.is.1, (a.value, refl, a.is.2)); ends = a.ends; shorter = a.shorter }
    by f (a_key (inr (inl (t, e)))) =
        let a = found_back {n = n} (AddrSign ∷ rest) words depth rest (took (λ word. word.text ≡ codes "-") f (Offset ∷ []) t e) h o in
        record { value = a.value; left = a.left; is = inr a.is; ends = a.ends; shorter = a.shorter }
    by f (a_key (inr (inr none))) = absurd none
    by f (a_name k e) = absurd (none-some _ e)
    by f (a_number k e) = absurd (none-some _ e)
    by f (a_text k e) = absurd (none-some _ e)

pub found_addr : {n : ℕ} → Finds n addr (λ rest. Addr ∷ rest)
unfolding Signed
found_addr {n} depth rest words h o ends = by (first Addr rest words refl ends) (first Addr rest words refl ends).choice
  where
    by : (f : First Addr rest words) → Choice Addr f.word f.then' → Found addr depth (Addr ∷ rest) rest words
    by f (a_key (inl (t, e))) =
        let a = found_back {n = n} (Addr ∷ rest) words depth rest (took (λ word. word.text ≡ codes "-") f (Offset ∷ []) t e) h o in
        record { value = record { tag = None; offset = a.value }; left = a.left; is = inr a.is; ends = a.ends; shorter = a.shorter }
    by f (a_key (inr none)) = absurd none
    by f (a_name k e) =
        let t = took (λ word. (word.kind ≡ kind.Name) × (word.text ≡ f.word.text)) f (AddrSign ∷ []) (k, refl) (same_Some _ _ e) in
        let s = t.shorter in
        let a = found_signed {n = n} depth rest t.left (omega (arith, h, s)) o t.ends in
        let u = a.shorter in
        record { value = record { tag = Some f.word.text; offset = a.value }; left = a.left; is = (placed_of (AddrSign ∷ rest) t.left, t.spelled depth o, a.is); ends = a.ends; shorter = omega (arith, s, u) }
    by f (a_number k e) =
        let fits = limited 1048576 (value_of f.word.text) [] f.then' e in
        let t = took (IsNumber (value_of f.word.text)) f [] (k, refl) fits.1 in
        let s = t.shorter in
        record { value = record { tag = None; offset = pos (value_of f.word.text) }; left = t.left; is = inl (value_of f.word.text, refl, (omega arith, fits.0, t.spelled depth o)); ends = t.ends; shorter = omega (arith, s) }
    by f (a_text k e) = absurd (none-some _ e)

sized : {n : ℕ} → Finds {V = Unit {0} × ℕ} n (λ x. key (codes ":") ⨾ width x.1) (λ rest. Colon ∷ Width ∷ rest)
sized = found_seq (λ u. key (codes ":")) width (λ rest. Colon ∷ rest) (λ rest. Width ∷ rest) found_colon found_width (λ r. refl)

placed : {n : ℕ} → Finds {V = AddrOf × (Unit {0} × ℕ)} n (λ x. addr x.0 ⨾ key (codes ":") ⨾ width x.1.1) (λ rest. Addr ∷ Colon ∷ Width ∷ rest)
placed = found_seq addr (λ x. key (codes ":") ⨾ width x.1) (λ rest. Addr ∷ rest) (λ rest. Colon ∷ Width ∷ rest) found_addr sized (λ r. refl)

named : {n : ℕ} → Finds {V = List ℕ × (Unit {0} × ℕ)} n (λ x. name x.0 ⨾ key (codes ":") ⨾ width x.1.1) (λ rest. Name ∷ Colon ∷ Width ∷ rest)
named = found_seq name (λ x. key (codes ":") ⨾ width x.1) (λ rest. Name ∷ rest) (λ rest. Colon ∷ Width ∷ rest) found_name sized (λ r. refl)

-- the first word of a target was taken
pub data TargetBegun (stack rest : List Symbol) (words : List Word) : Type 0 where
  head : Took (λ word. word.text ≡ codes "head") stack words (Addr ∷ Colon ∷ Width ∷ rest) → TargetBegun stack rest words
  global : Took (λ word. word.text ≡ codes "global") stack words (Name ∷ Colon ∷ Width ∷ rest) → TargetBegun stack rest words
  local : Took (λ word. word.text ≡ codes "local") stack words (Name ∷ Colon ∷ Width ∷ rest) → TargetBegun stack rest words
  dollar : Took (λ word. word.text ≡ codes "$") stack words (Name ∷ Colon ∷ Width ∷ rest) → TargetBegun stack rest words

pub found_target_behind : {n : ℕ} (stack rest : List Symbol) (words : List Word) (depth : ℕ) → TargetBegun stack rest words → length words ≤ n → open_count rest ≡ depth → Found target depth stack rest words
found_target_behind {n} stack rest words depth (head t) h o =
    let a = found_behind (codes "head") (λ x. addr x.0 ⨾ key (codes ":") ⨾ width x.1.1) (λ r. Addr ∷ Colon ∷ Width ∷ r) depth rest t h (placed {n = n}) (λ r. refl) o in
    record { value = Header a.value.0 a.value.1.1; left = a.left; is = a.is; ends = a.ends; shorter = a.shorter }
found_target_behind {n} stack rest words depth (global t) h o =
    let a = found_behind (codes "global") (λ x. name x.0 ⨾ key (codes ":") ⨾ width x.1.1) (λ r. Name ∷ Colon ∷ Width ∷ r) depth rest t h (named {n = n}) (λ r. refl) o in
    record { value = Meta Global a.value.0 a.value.1.1; left = a.left; is = a.is; ends = a.ends; shorter = a.shorter }
found_target_behind {n} stack rest words depth (local t) h o =
    let a = found_behind (codes "local") (λ x. name x.0 ⨾ key (codes ":") ⨾ width x.1.1) (λ r. Name ∷ Colon ∷ Width ∷ r) depth rest t h (named {n = n}) (λ r. refl) o in
    record { value = Meta Local a.value.0 a.value.1.1; left = a.left; is = a.is; ends = a.ends; shorter = a.shorter }
found_target_behind {n} stack rest words depth (dollar t) h o =
    let a = found_behind (codes "$") (λ x. name x.0 ⨾ key (codes ":") ⨾ width x.1.1) (λ r. Name ∷ Colon ∷ Width ∷ r) depth rest t h (named {n = n}) (λ r. refl) o in
    record { value = Bound a.value.0 a.value.1.1; left = a.left; is = a.is; ends = a.ends; shorter = a.shorter }

target_begun : (rest : List Symbol) (words : List Word) (f : First Target rest words) → Choice Target f.word f.then' → TargetBegun (Target ∷ rest) rest words
target_begun rest words f (a_key (inl (t, e))) = head (took (λ word. word.text ≡ codes "head") f (Addr ∷ Colon ∷ Width ∷ []) t e)
target_begun rest words f (a_key (inr (inl (t, e)))) = global (took (λ word. word.text ≡ codes "global") f (Name ∷ Colon ∷ Width ∷ []) t e)
target_begun rest words f (a_key (inr (inr (inl (t, e))))) = local (took (λ word. word.text ≡ codes "local") f (Name ∷ Colon ∷ Width ∷ []) t e)
target_begun rest words f (a_key (inr (inr (inr (inl (t, e)))))) = dollar (took (λ word. word.text ≡ codes "$") f (Name ∷ Colon ∷ Width ∷ []) t e)
target_begun rest words f (a_key (inr (inr (inr (inr none))))) = absurd none
target_begun rest words f (a_name k e) = absurd (none-some _ e)
target_begun rest words f (a_number k e) = absurd (none-some _ e)
target_begun rest words f (a_text k e) = absurd (none-some _ e)

pub found_target : {n : ℕ} → Finds n target (λ rest. Target ∷ rest)
found_target {n} depth rest words h o ends =
    let f = first Target rest words refl ends in
    found_target_behind {n = n} (Target ∷ rest) rest words depth (target_begun rest words f f.choice) h o

pub found_field_target : {n : ℕ} → Finds n field_target (λ rest. FieldTarget ∷ rest)
found_field_target {n} depth rest words h o ends = by (first FieldTarget rest words refl ends) (first FieldTarget rest words refl ends).choice
  where
    by : (f : First FieldTarget rest words) → Choice FieldTarget f.word f.then' → Found field_target depth (FieldTarget ∷ rest) rest words
    by f (a_key (inl (t, e))) =
        let a = found_behind (codes "head") (λ x. addr x.0 ⨾ key (codes ":") ⨾ width x.1.1) (λ r. Addr ∷ Colon ∷ Width ∷ r) depth rest (took (λ word. word.text ≡ codes "head") f (Addr ∷ Colon ∷ Width ∷ []) t e) h (placed {n = n}) (λ r. refl) o in
        record { value = Header a.value.0 a.value.1.1; left = a.left; is = a.is; ends = a.ends; shorter = a.shorter }
    by f (a_key (inr (inl (t, e)))) =
        let a = found_behind (codes "global") (λ x. name x.0 ⨾ key (codes ":") ⨾ width x.1.1) (λ r. Name ∷ Colon ∷ Width ∷ r) depth rest (took (λ word. word.text ≡ codes "global") f (Name ∷ Colon ∷ Width ∷ []) t e) h (named {n = n}) (λ r. refl) o in
        record { value = Meta Global a.value.0 a.value.1.1; left = a.left; is = a.is; ends = a.ends; shorter = a.shorter }
    by f (a_key (inr (inr none))) = absurd none
    by f (a_name k e) = absurd (none-some _ e)
    by f (a_number k e) = absurd (none-some _ e)
    by f (a_text k e) = absurd (none-some _ e)
