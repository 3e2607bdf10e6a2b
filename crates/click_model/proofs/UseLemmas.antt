-- The items behind the first one.
use Rattle.std.proofs.Common.{◌≡◌, ◌∙◌, sym, ap, ℕ, suc, ◌+◌, ◌-◌, ◌<◌, List, ◌∷◌, length, get_or, map, take, drop, add-one, drop-cons}
use Rattle.std.specs.Prelude.{Option}
use Rattle.std.proofs.lemmas.List.{take_rest}
use Rattle.click_text.specs.declared.item.Item.{Item}
use Rattle.click_text.specs.Items.{ItemSeen, seen_item}
use Rattle.click_model.specs.declared.declare.Known.{Known}
use Rattle.click_model.specs.Connections.{ConnectedSeen, connected, connected_from, joined_to}

-- a list by its first member
pub first_of : {A : Type 0} (xs : List A) (x : A) → 0 < length xs → x ≡ get_or xs 0 x → xs ≡ x ∷ take (length xs - 1) (drop 1 xs)
first_of xs x some is = next_of xs 0 x some is ∙ ap (λ l. x ∷ l) (sym (take_rest xs 1))
  where
    next_of : {A : Type 0} (xs : List A) (i : ℕ) (x : A) → i < length xs → x ≡ get_or xs i x → drop i xs ≡ x ∷ drop (i + 1) xs
    next_of xs i x some is = rw add-one (drop-cons xs i x some ∙ ap (λ y. y ∷ drop (suc i) xs) (sym is))

-- what the first item connects, and then what the others do
pub one_more : (names : List (List ℕ × Known)) (left : List Item) (x : Item) (joined : Option ItemSeen) (old new whole : ConnectedSeen)
    → left ≡ x ∷ take (length left - 1) (drop 1 left) → connected_from names old (map seen_item left) ≡ whole
    → joined ≡ joined_to (map seen_item (take (length left - 1) (drop 1 left))) → new ≡ connected names old (seen_item x) joined
    → connected_from names new (map seen_item (take (length left - 1) (drop 1 left))) ≡ whole
one_more names left x joined old new whole first goes next done =
    let rest = take (length left - 1) (drop 1 left) in
    ap (λ c. connected_from names c (map seen_item rest)) (done ∙ ap (λ j. connected names old (seen_item x) j) next)
    ∙ ap (λ l. connected_from names old (map seen_item l)) (sym first) ∙ goes
