-- A compact text, with a line end, is read as the value that it was written for.
use Rattle.std.proofs.Common.{◌≡◌, ℕ, suc, ◌≤◌, max, pos, negsuc, List, [], ◌∷◌, ◌++◌, Some, Greater, refl, sym, ap, ◌∙◌, arith, append-nil, nat_cmp}
use Rattle.std.specs.Prelude.{Option, option_and_then, option_map}
use Rattle.std.specs.Cmp.Lexicographic.{slice_cmp}
use Rattle.json.specs.Token.{Token}
use Rattle.json.specs.Lex.{tokens}
use Rattle.json.specs.Json as json
use Rattle.json.specs.Tree as tree
use Rattle.json.proofs.Printed.Tokens.{tokens-print}
use Rattle.json.proofs.Printed.Decimals.{IsNumber-decimal, IsNumber-signed_decimal}
use Rattle.json.proofs.Printed.Trees.{value-json_tokens, ArePrintable-json_tokens}
use Rattle.serde_json.specs.Data.{Num, unsigned, negative, float, Data, null, boolean, number, string, array, object, Items, no_items, item, Members, no_members, member, put, depth, items_depth, members_depth}
use Rattle.serde_json.specs.Read.{read, of_json, of_items, of_members, max_depth}
use Rattle.serde_json.specs.Written.{outline, items_outline, members_outline, compact_text}
use Rattle.serde_json.proofs.Numbers.{number_of-decimal, number_of-negative}
use Rattle.serde_json.proofs.Texts.{print-outline}
use Rattle.run_text.specs.Plain.{IsAbove, AllAbove, IsSorted, IsPlainNumber, IsPlain, ArePlain, HasPlain}
use Rattle.run_text.proofs.Lines.{tokens_of_line}

-- ---- keys that ascend go in one after another

abbrev snoc : Members → List ℕ → Data → Members
snoc no_members k d = member k d no_members
snoc (member l e ms) k d = member l e (snoc ms k d)

abbrev joined : Members → Members → Members
joined no_members ms = ms
joined (member l e xs) ms = member l e (joined xs ms)

joined-snoc : (xs : Members) (k : List ℕ) (d : Data) (ms : Members) → joined (snoc xs k d) ms ≡ joined xs (member k d ms)
joined-snoc no_members k d ms = refl
joined-snoc (member l e xs) k d ms = ap (member l e) (joined-snoc xs k d ms)

put-last : (k : List ℕ) (d : Data) (ms : Members) → IsAbove k ms → put k d ms ≡ snoc ms k d
put-last k d no_members h = refl
put-last k d (member l e ms) h = rw h.0 (ap (member l e) (put-last k d ms h.1))

above-snoc : (x : List ℕ) (found : Members) (k : List ℕ) (d : Data) → IsAbove x found → slice_cmp nat_cmp x k ≡ Greater → IsAbove x (snoc found k d)
above-snoc x no_members k d h g = (g, tt)
above-snoc x (member l e ms) k d h g = (h.0, above-snoc x ms k d h.1 g)

all_above-snoc : (found ms : Members) (k : List ℕ) (d : Data) → AllAbove found ms → AllAbove (member k d no_members) ms → AllAbove (snoc found k d) ms
all_above-snoc found no_members k d h g = tt
all_above-snoc found (member x e ms) k d h g = (above-snoc x found k d h.0 g.0.0, all_above-snoc found ms k d h.1 g.1)

all_above_none : (ms : Members) → AllAbove no_members ms
all_above_none no_members = tt
all_above_none (member k d ms) = (tt, all_above_none ms)

joined_none : (xs : Members) → joined xs no_members ≡ xs
joined_none no_members = refl
joined_none (member l e xs) = ap (member l e) (joined_none xs)

-- ---- what is read back

number_back : (n : Num) → IsPlainNumber n → of_json (outline (number n)) ≡ Some (number n)
number_back (unsigned n) h = ap (option_map number) (number_of-decimal n h)
number_back (negative (pos n)) h = absurd h
number_back (negative (negsuc n)) h = ap (option_map number) (number_of-negative n (omega arith))
number_back (float x) h = absurd h

mutual
  back : (d : Data) → IsPlain d → of_json (outline d) ≡ Some d
  back null h = refl
  back (boolean b) h = refl
  back (number n) h = number_back n h
  back (string s) h = refl
  back (array ds) h = ap (option_map array) (items_back ds h)
  back (object ms) h = ap (option_map object) (members_back ms no_members h.1 (all_above_none ms) h.0)

  items_back : (ds : Items) → ArePlain ds → of_items (items_outline ds) ≡ Some ds
  items_back no_items h = refl
  items_back (item d ds) h = rw (back d h.0, items_back ds h.1) refl

  members_back : (ms found : Members) → HasPlain ms → AllAbove found ms → IsSorted ms → of_members (members_outline ms) found ≡ Some (joined found ms)
  members_back no_members found h above sorted = ap Some (sym (joined_none found))
  members_back (member k d ms) found h above sorted =
      rw (back d h.0, put-last k d found above.0)
      (members_back ms (snoc found k d) h.1 (all_above-snoc found ms k d above.1 sorted.0) sorted.1 ∙ ap Some (joined-snoc found k d ms))

number_has : (n : Num) → IsPlainNumber n → tree.HasNumbers (outline (number n))
number_has (unsigned n) h = IsNumber-decimal n h
number_has (negative (pos n)) h = absurd h
number_has (negative (negsuc n)) h = IsNumber-signed_decimal (negsuc n) (omega arith)
number_has (float x) h = absurd h

mutual
  has : (d : Data) → IsPlain d → tree.HasNumbers (outline d)
  has null h = tt
  has (boolean b) h = tt
  has (number n) h = number_has n h
  has (string s) h = tt
  has (array ds) h = items_have ds h
  has (object ms) h = members_have ms h.1

  items_have : (ds : Items) → ArePlain ds → tree.ItemsHaveNumbers (items_outline ds)
  items_have no_items h = tt
  items_have (item d ds) h = (has d h.0, items_have ds h.1)

  members_have : (ms : Members) → HasPlain ms → tree.MembersHaveNumbers (members_outline ms)
  members_have no_members h = tt
  members_have (member k d ms) h = (has d h.0, members_have ms h.1)

mutual
  deep : (d : Data) → tree.depth (outline d) ≡ depth d
  deep null = refl
  deep (boolean b) = refl
  deep (number n) = refl
  deep (string s) = refl
  deep (array ds) = ap suc (items_deep ds)
  deep (object ms) = ap suc (members_deep ms)

  items_deep : (ds : Items) → tree.items_depth (items_outline ds) ≡ items_depth ds
  items_deep no_items = refl
  items_deep (item d ds) = λ i. max (deep d i) (items_deep ds i)

  members_deep : (ms : Members) → tree.members_depth (members_outline ms) ≡ members_depth ms
  members_deep no_members = refl
  members_deep (member k d ms) = λ i. max (deep d i) (members_deep ms i)

abbrev whole : Option (json.Json × List Token) → Option Data
whole o = option_and_then of_json (option_and_then (λ p. json.if_last p.0 p.1) o)

pub line_read : (d : Data) → IsPlain d → depth d ≤ max_depth → read (compact_text d ++ 10 ∷ []) ≡ Some d
line_read d plain shallow =
    let ts = tree.json_tokens (outline d) in
    let printable = ArePrintable-json_tokens (outline d) (has d plain) in
    let same : tokens (compact_text d ++ 10 ∷ []) ≡ ts = ap (λ s. tokens (s ++ 10 ∷ [])) (sym (print-outline d)) ∙ tokens_of_line ts printable ∙ tokens-print ts printable in
    ap whole (ap (json.value max_depth) (same ∙ sym (append-nil ts)) ∙ value-json_tokens (outline d) max_depth [] (omega (arith, deep d)))
    ∙ back d plain
