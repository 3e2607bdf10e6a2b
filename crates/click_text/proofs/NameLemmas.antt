-- The names of items are names.
use Rattle.std.proofs.Common.{◌≡◌, ◌∙◌, refl, sym, ap, subst, ℕ, zero, suc, ◌+◌, ◌≤◌, ◌<◌, nat_lt, nat_le, Bool, true, false, true≢false, cond, if◌then◌else◌, not, ◌&&◌, ◌||◌, ◌==◌, List, [], ◌∷◌, ◌++◌, take, drop, length, map, Option, None, Some, Result, Ok, Err, add-one, arith}
use Rattle.std.specs.List.{AllByRecursion, All, list_all, prefix_len}
use Rattle.std.proofs.lemmas.Bool.Decides.{nat_tests}
use Rattle.std.proofs.lemmas.List.Elements.{All-from_recursion}
use Rattle.sefl_lex.specs.Bytes.{begins, is_blank, is_decimal, is_name_byte, is_name_start}
use Rattle.sefl_lex.specs.Words.{is_name}
use Rattle.click_text.specs.declared.comment.Mode.TheVariants.{Plain, Line, Block}
use Rattle.click_text.specs.declared.token.TokenKind.{TokenKind}
use Rattle.click_text.specs.declared.token.TokenKind.TheVariants.{Name, Number, Arrow, Colons, OpenPort, ClosePort, Semicolon, Arguments, OpenArguments, Stray, End}
use Rattle.click_text.specs.declared.front.Front.{Front}
use Rattle.click_text.specs.declared.stage.Stage.{Stage}
use Rattle.click_text.specs.declared.stage.Move.{Move}
use Rattle.click_text.specs.declared.stage.Move.TheVariants.{Refused, Goes, Puts, Names, Classes, Argues, Outputs, Inputs}
use Rattle.click_text.specs.declared.fault.Unread.{Unread}
use Rattle.click_text.specs.declared.item.Item.{Item}
use Rattle.click_text.specs.Comments.{arguments_end, comment_end, line_behind}
use Rattle.click_text.specs.Fronts.{gap, word, name_front, slash_front, closed_front, arguments_front, single, sign_front, front_of}
use Rattle.click_text.specs.Numbers.{number}
use Rattle.click_text.specs.Tokens.{TokenSeen, with_token, tokens_in, tokens_of}
use Rattle.click_text.specs.Stages.{move_of}
use Rattle.click_text.specs.Items.{ItemSeen, seen_item, PartialSeen, StepSeen, refused, goes, puts, blank, with_output, with_input, made, step_of, State, taken, and_then, items_from, items_of}
use Rattle.click_text.proofs.NamedStages.{is_named, is_name_kind, implies, keeps, moves_keep}

-- ---- tokens

front_passes : (p : ℕ → Bool) (cs : List ℕ) → list_all p (take (prefix_len p cs) cs) ≡ true
front_passes p [] = refl
front_passes p (c ∷ cs) = by (p c) refl (front_passes p cs)
  where
    by : (b : Bool) → p c ≡ b → list_all p (take (prefix_len p cs) cs) ≡ true → list_all p (take (cond b (1 + prefix_len p cs) 0) (c ∷ cs)) ≡ true
    by true is rest =
        let e : 1 + prefix_len p cs ≡ suc (prefix_len p cs) = omega arith in
        ap (λ n. list_all p (take n (c ∷ cs))) e ∙ ap (λ b. b && list_all p (take (prefix_len p cs) cs)) is ∙ rest
    by false is rest = refl

taken_size : (n : ℕ) (cs : List ℕ) → length (take n cs) ≤ n
taken_size zero cs = omega arith
taken_size (suc n) [] = omega arith
taken_size (suc n) (c ∷ cs) = let h = taken_size n cs in omega (arith, h)

all_of : (b d a l : Bool) → b ≡ true → a ≡ true → l ≡ true → (b && ((b || d) && a)) && l ≡ true
all_of b d a l is all long = λ i. (is i && ((is i || d) && all i)) && long i

name_word : (c : ℕ) (rest : List ℕ) → is_name_start c ≡ true → prefix_len is_name_byte rest < 64 → is_name (take (prefix_len is_name_byte rest + 1) (c ∷ rest)) ≡ true
name_word c rest start less =
    let n = prefix_len is_name_byte rest in
    let size = taken_size n rest in
    let long : nat_le (length (c ∷ take n rest)) 64 ≡ true = grind (arith, nat_tests, size, less) in
    ap (λ m. is_name (take m (c ∷ rest))) (add-one n)
    ∙ all_of (is_name_start c) (is_decimal c) (list_all is_name_byte (take n rest)) (nat_le (length (c ∷ take n rest)) 64) start (front_passes is_name_byte rest) long

-- the word of a token that is a name is one
abbrev is_good : TokenKind → List ℕ → Bool
is_good Name w = is_name w
is_good Number w = true
is_good Arrow w = true
is_good Colons w = true
is_good OpenPort w = true
is_good ClosePort w = true
is_good Semicolon w = true
is_good Arguments w = true
is_good OpenArguments w = true
is_good Stray w = true
is_good End w = true

abbrev is_good_if : Option TokenKind → List ℕ → Bool
is_good_if None w = true
is_good_if (Some kind) w = is_good kind w

abbrev ok : Front → List ℕ → Bool
ok f all = is_good_if f.token (take (f.more + 1) all)

either : (all : List ℕ) (b : Bool) (f g : Front) → (b ≡ true → ok f all ≡ true) → ok g all ≡ true → ok (if b then f else g) all ≡ true
either all true f g one other = one refl
either all false f g one other = other

kind_either : (w : List ℕ) (b : Bool) (k l : TokenKind) → is_good k w ≡ true → is_good l w ≡ true → is_good (if b then k else l) w ≡ true
kind_either w true k l one other = one
kind_either w false k l one other = other

single_good : (c : ℕ) (w : List ℕ) → is_good (single c) w ≡ true
single_good c w =
    let last : TokenKind = if c == 59 then Semicolon else Stray in
    let later : TokenKind = if c == 93 then ClosePort else last in
    kind_either w (c == 91) OpenPort later refl (kind_either w (c == 93) ClosePort last refl (kind_either w (c == 59) Semicolon Stray refl refl))

slash_ok : (all rest : List ℕ) → ok (slash_front rest) all ≡ true
slash_ok all [] = refl
slash_ok all (c ∷ inside) =
    let blocks : Front = if c == 42 then gap (comment_end Block 0 inside + 1) else word Stray 0 in
    either all (c == 47) (gap (comment_end Line 0 inside + 1)) blocks (λ _. refl)
    (either all (c == 42) (gap (comment_end Block 0 inside + 1)) (word Stray 0) (λ _. refl) refl)

closed_ok : (all : List ℕ) (o : Option ℕ) (n : ℕ) → ok (closed_front o n) all ≡ true
closed_ok all (Some more) n = refl
closed_ok all None n = refl

sign_ok : (all : List ℕ) (c : ℕ) (rest : List ℕ) → ok (sign_front c rest) all ≡ true
sign_ok all c rest =
    let others : Front = if c == 58 && begins (λ d. d == 58) rest then word Colons 1 else word (single c) 0 in
    either all (c == 45 && begins (λ d. d == 62) rest) (word Arrow 1) others (λ _. refl)
    (either all (c == 58 && begins (λ d. d == 58) rest) (word Colons 1) (word (single c) 0) (λ _. refl) (single_good c (take (0 + 1) all)))

name_ok : (c : ℕ) (rest : List ℕ) → is_name_start c ≡ true → ok (name_front rest) (c ∷ rest) ≡ true
name_ok c rest start =
    either (c ∷ rest) (nat_lt (prefix_len is_name_byte rest) 64) (word Name (prefix_len is_name_byte rest)) (word Stray 0)
    (λ less. let h : prefix_len is_name_byte rest < 64 = grind (arith, nat_tests, less) in name_word c rest start h) refl

front_ok : (c : ℕ) (rest : List ℕ) → ok (front_of c rest) (c ∷ rest) ≡ true
front_ok c rest =
    let all = c ∷ rest in
    let opens : Front = if c == 40 then arguments_front rest else sign_front c rest in
    let slashed : Front = if c == 47 then slash_front rest else opens in
    let numbers : Front = if is_decimal c then word Number (prefix_len is_name_byte rest) else slashed in
    let names : Front = if is_name_start c then name_front rest else numbers in
    either all (is_blank c) (gap 0) names (λ _. refl) (either all (is_name_start c) (name_front rest) numbers (name_ok c rest)
    (either all (is_decimal c) (word Number (prefix_len is_name_byte rest)) slashed (λ _. refl) (either all (c == 47) (slash_front rest) opens (λ _. slash_ok all rest)
    (either all (c == 40) (arguments_front rest) (sign_front c rest) (λ _. closed_ok all (arguments_end Plain 0 rest) (length rest)) (sign_ok all c rest)))))

abbrev AreGood : List TokenSeen → Type 0
AreGood ts = AllByRecursion (λ t. is_good t.kind t.word ≡ true) ts

with_good : (token : Option TokenKind) (line : ℕ) (w : List ℕ) (ts : List TokenSeen) → is_good_if token w ≡ true → AreGood ts → AreGood (with_token token line w ts)
with_good None line w ts good all = all
with_good (Some kind) line w ts good all = (good, all)

tokens_good : (n line : ℕ) (bytes : List ℕ) → AreGood (tokens_in n line bytes)
tokens_good zero line bytes = (refl, tt)
tokens_good (suc n) line [] = (refl, tt)
tokens_good (suc n) line (c ∷ rest) =
    let f = front_of c rest in
    let w = take (f.more + 1) (c ∷ rest) in
    with_good f.token line w _ (front_ok c rest) (tokens_good n (line_behind line w) (drop (f.more + 1) (c ∷ rest)))

-- ---- statements

modus : (a b : Bool) → implies a b ≡ true → a ≡ true → b ≡ true
modus true b so is = so
modus false b so is = absurd (true≢false (sym is))

left_true : (a b : Bool) → a && b ≡ true → a ≡ true
left_true true b is = refl
left_true false b is = absurd (true≢false (sym is))

right_false : (a b : Bool) → a && not b ≡ true → b ≡ false
right_false true false is = refl
right_false true true is = absurd (true≢false (sym is))
right_false false b is = absurd (true≢false (sym is))

name_good : (k : TokenKind) (w : List ℕ) → is_name_kind k ≡ true → is_good k w ≡ true → is_name w ≡ true
name_good Name w is good = good
name_good Number w is good = absurd (true≢false (sym is))
name_good Arrow w is good = absurd (true≢false (sym is))
name_good Colons w is good = absurd (true≢false (sym is))
name_good OpenPort w is good = absurd (true≢false (sym is))
name_good ClosePort w is good = absurd (true≢false (sym is))
name_good Semicolon w is good = absurd (true≢false (sym is))
name_good Arguments w is good = absurd (true≢false (sym is))
name_good OpenArguments w is good = absurd (true≢false (sym is))
name_good Stray w is good = absurd (true≢false (sym is))
name_good End w is good = absurd (true≢false (sym is))

-- where a stage has read a name, it is one
abbrev IsGood : PartialSeen → Type 0
IsGood p = is_named p.stage ≡ true → is_name p.item.name ≡ true

abbrev IsGoodStep : ItemSeen → StepSeen → Type 0
IsGoodStep i refused = Unit {0}
IsGoodStep i (goes p) = IsGood p
IsGoodStep i (puts stage) = (is_name i.name ≡ true) × (is_named stage ≡ false)

output_good : (i : ItemSeen) (o : Option ℕ) → is_name i.name ≡ true → IsGoodStep i (with_output i o)
output_good i None named = tt
output_good i (Some port) named = λ _. named

input_good : (i : ItemSeen) (o : Option ℕ) → IsGoodStep i (with_input i o)
input_good i None = tt
input_good i (Some port) = λ is. absurd (true≢false (sym is))

made_good : (s : Stage) (i : ItemSeen) (t : TokenSeen) (m : Move) → keeps s t.kind m ≡ true → (is_named s ≡ true → is_name i.name ≡ true) → is_good t.kind t.word ≡ true
    → IsGoodStep i (made i t m)
made_good s i t Refused kept named good = tt
made_good s i t (Goes stage) kept named good = λ is. named (modus (is_named stage) (is_named s) kept is)
made_good s i t (Puts stage) kept named good =
    (named (left_true (is_named s) (not (is_named stage)) kept), right_false (is_named s) (is_named stage) kept)
made_good s i t Names kept named good = λ _. name_good t.kind t.word kept good
made_good s i t Classes kept named good = λ _. named kept
made_good s i t Argues kept named good = λ _. named kept
made_good s i t Outputs kept named good = output_good i (number t.word) (named kept)
made_good s i t Inputs kept named good = input_good i (number t.word)

abbrev AreNamed : List ItemSeen → Type 0
AreNamed items = AllByRecursion (λ i. is_name i.name ≡ true) items

one_more : (items : List ItemSeen) (i : ItemSeen) → AreNamed items → is_name i.name ≡ true → AreNamed (items ++ i ∷ [])
one_more [] i all named = (named, tt)
one_more (j ∷ items) i all named = (all.0, one_more items i all.1 named)

unnamed : (stage : Stage) → is_named stage ≡ false → IsGood (blank stage)
unnamed stage is = λ named. absurd (true≢false (sym named ∙ is))

abbrev read_of : List ItemSeen → Result (List ItemSeen) Unread → List ItemSeen
read_of none (Ok items) = items
read_of none (Err fault) = none

abbrev is_read : Result (List ItemSeen) Unread → Bool
is_read (Ok items) = true
is_read (Err fault) = false

items_named : (s : State) (ts : List TokenSeen) (items : List ItemSeen) → AreGood ts → AreNamed s.items → IsGood s.partial → items_from s ts ≡ Ok items → AreNamed items
items_named s [] items good all partial is = subst AreNamed (ap (read_of []) is) all
items_named s (t ∷ later) items good all partial is =
    by (step_of s.partial t) (made_good s.partial.stage s.partial.item t (move_of s.partial.stage t.kind) (moves_keep s.partial.stage t.kind) partial good.0)
    (λ next named more. items_named next later items good.1 named more) is
  where
    by : (r : StepSeen) → IsGoodStep s.partial.item r → ((next : State) → AreNamed next.items → IsGood next.partial → items_from next later ≡ Ok items → AreNamed items)
        → and_then (taken s t.line r) (λ s. items_from s later) ≡ Ok items → AreNamed items
    by refused step go is = absurd (true≢false (sym (ap is_read is)))
    by (goes p) step go is = go (record s { partial = p }) all step is
    by (puts stage) step go is =
        go (record { items = s.items ++ s.partial.item ∷ []; partial = blank stage }) (one_more s.items s.partial.item all step.0) (unnamed stage step.1) is

unseen : (items : List Item) → AreNamed (map seen_item items) → AllByRecursion (λ i. is_name i.name.now ≡ true) items
unseen [] all = tt
unseen (i ∷ items) all = (all.0, unseen items all.1)

pub names_are_names : (bytes : List ℕ) (items : List Item) → items_of bytes ≡ Ok (map seen_item items) → All (λ i. is_name i.name.now ≡ true) items
names_are_names bytes items is =
    All-from_recursion (λ i. is_name i.name.now ≡ true) items
    (unseen items (items_named _ (tokens_of bytes) (map seen_item items) (tokens_good (length bytes) 1 bytes) tt (λ named. absurd (true≢false (sym named))) is))
