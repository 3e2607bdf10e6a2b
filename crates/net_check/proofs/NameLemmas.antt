-- The names of the items of a job are among its names.
use Rattle.std.proofs.Common.{◌≡◌, ◌∙◌, ap, ℕ, Bool, true, ◌||◌, List, [], ◌∷◌, ◌++◌, bytes_eq}
use Rattle.std.specs.Prelude.{flat_map}
use Rattle.std.specs.List.{AllByRecursion, list_any}
use Rattle.std.specs.Cmp.Lexicographic.{nat_list_eq_equiv}
use Rattle.std.proofs.Math.Bool.{or-true}
use Rattle.std.proofs.lemmas.List.Folds.{list_any-append}
use Rattle.sefl_syntax.specs.Trees.{JobTree}
use Rattle.job_items.specs.Items.{Item, job_items}
use Rattle.job_names.specs.Names.{names_of}
use Rattle.job_names.specs.Occurrences.{as_set, item_metas, item_tags}
use Rattle.net_check.specs.Keeping.{HasNamesOf, IsAmong}

left_of : (a b : Bool) → a ≡ true → (a || b) ≡ true
left_of a b h = ap (λ x. x || b) h

right_of : (a b : Bool) → b ≡ true → (a || b) ≡ true
right_of a b h = ap (λ x. a || x) h ∙ or-true a

-- what holds of all that is found in a list holds of each of it
each_found : (P : List ℕ → Type 0) (names : List (List ℕ)) → ((name : List ℕ) → IsAmong names name → P name) → AllByRecursion P names
each_found P [] h = tt
each_found P (n ∷ ns) h = (
  h n (left_of (bytes_eq n n) (list_any (bytes_eq n) ns) (nat_list_eq_equiv.refl n)),
  each_found P ns (λ name k. h name (right_of (bytes_eq name n) (list_any (bytes_eq name) ns) k)),
)

among_first : (name : List ℕ) (xs ys : List (List ℕ)) → IsAmong xs name → IsAmong (xs ++ ys) name
among_first name xs ys h = list_any-append (bytes_eq name) xs ys ∙ left_of (list_any (bytes_eq name) xs) (list_any (bytes_eq name) ys) h

among_second : (name : List ℕ) (xs ys : List (List ℕ)) → IsAmong ys name → IsAmong (xs ++ ys) name
among_second name xs ys h = list_any-append (bytes_eq name) xs ys ∙ right_of (list_any (bytes_eq name) xs) (list_any (bytes_eq name) ys) h

-- the texts of each item are among those of all
each_known : (f : Item → List (List ℕ)) (P : List ℕ → Type 0) (items : List Item) → ((name : List ℕ) → IsAmong (flat_map f items) name → P name)
    → AllByRecursion (λ item. AllByRecursion P (f item)) items
each_known f P [] h = tt
each_known f P (item ∷ items) h = (
  each_found P (f item) (λ name k. h name (among_first name (f item) (flat_map f items) k)),
  each_known f P items (λ name k. h name (among_second name (f item) (flat_map f items) k)),
)

both : (P Q R : Item → Type 0) → ((item : Item) → P item → Q item → R item) → (items : List Item) → AllByRecursion P items → AllByRecursion Q items
    → AllByRecursion R items
both P Q R f [] h k = tt
both P Q R f (item ∷ items) h k = (f item h.0 k.0, both P Q R f items h.1 k.1)

pub job_names_known : (j : JobTree) → ((texts : List (List ℕ)) (text : List ℕ) → list_any (bytes_eq text) (as_set texts) ≡ list_any (bytes_eq text) texts)
    → AllByRecursion (HasNamesOf (names_of j)) (job_items j)
job_names_known j members =
    both (λ item. AllByRecursion (IsAmong (names_of j).metas) (item_metas item)) (λ item. AllByRecursion (IsAmong (names_of j).tags) (item_tags item))
    (HasNamesOf (names_of j)) (λ item metas tags. record { metas = metas; tags = tags }) (job_items j)
    (each_known item_metas (IsAmong (names_of j).metas) (job_items j) (λ name k. members (flat_map item_metas (job_items j)) name ∙ k))
    (each_known item_tags (IsAmong (names_of j).tags) (job_items j) (λ name k. members (flat_map item_tags (job_items j)) name ∙ k))
