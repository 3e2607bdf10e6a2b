-- Members of lists; and lists of records that have one for each decision that is offered along them.
use Rattle.std.proofs.Common.{◌≡◌, inl, inr, List, [], ◌∷◌, ◌++◌, refl, sym, ap, subst, ◌∙◌, append_assoc}
use Rattle.std.specs.List.{AllByRecursion}
use Rattle.sefl_meaning.specs.declared.walk.Decision.{Decision}
use Rattle.sefl_meaning.specs.Order.{BeginsWith, Has}
use Rattle.sefl_meaning.specs.Routes.{IsOpen}
use Rattle.exact_records.specs.Records.{RecordTree, SymStart, SymTree, decisions_of}
use Rattle.exact_records.specs.Exact.{AllBegun, SomeOne}
use Rattle.exact_records.proofs.Lists.{append_nil}
use Rattle.one_list.proofs.Comparing.{Meets}

module _ {A : Type 0} (P : A → Type 0) where
  pub all_has : (xs : List A) (x : A) → AllByRecursion P xs → Has xs x → P x
  all_has [] x h k = absurd k
  all_has (y ∷ xs) x h (inl e) = subst P e h.0
  all_has (y ∷ xs) x h (inr k) = all_has xs x h.1 k

  some_has : (xs : List A) → SomeOne P xs → (x : A) × Has xs x × P x
  some_has [] h = absurd h
  some_has (x ∷ xs) (inl h) = (x, inl refl, h)
  some_has (x ∷ xs) (inr h) = let k = some_has xs h in (k.0, inr k.1, k.2)

  has_some : (xs : List A) (x : A) → Has xs x → P x → SomeOne P xs
  has_some [] x h k = absurd h
  has_some (y ∷ xs) x (inl e) k = inl (subst P (sym e) k)
  has_some (y ∷ xs) x (inr h) k = inr (has_some xs x h k)

-- what holds of the decisions of any member holds of those of all
pub all_so : (P : List Decision → Type 0) (rs : List RecordTree) → ((ds : List Decision) → SomeOne (λ x. decisions_of x ≡ ds) rs → P ds)
    → AllByRecursion (λ x. P (decisions_of x)) rs
all_so P [] h = tt
all_so P (x ∷ rs) h = (h (decisions_of x) (inl refl), all_so P rs (λ ds k. h ds (inr k)))

-- a record whose decisions meet these
abbrev pub Reached : List RecordTree → List Decision → Type 0
Reached rs ds = (x : RecordTree) × Has rs x × Meets ds (decisions_of x)

module _ (prefix : (t : SymTree) (ds es : List Decision) → IsOpen t (ds ++ es) → IsOpen t ds) (s : SymStart) (rs : List RecordTree)
    (begun : AllBegun s (λ ds. Unit {0}) rs) where
  beside : (p : List Decision) (d : Decision) → IsOpen s.tree (p ++ d ∷ []) → (x : RecordTree) → Has rs x → (rest : List Decision)
      → p ++ rest ≡ decisions_of x → Reached rs (p ++ d ∷ [])
  beside p d opened x has [] e = (x, has, inr (d ∷ [], ap (λ q. q ++ d ∷ []) (sym e ∙ append_nil p)))
  beside p d opened x has (c ∷ rest) e =
      let b = begun p c d rest (has_some (λ y. decisions_of y ≡ p ++ c ∷ rest) rs x has (sym e)) opened tt in
      let k = some_has (λ y. BeginsWith (p ++ d ∷ []) (decisions_of y)) rs b in
      (k.0, k.1, inl k.2)

  one_further : (p : List Decision) (d : Decision) → IsOpen s.tree (p ++ d ∷ []) → (x : RecordTree) → Has rs x → Meets p (decisions_of x)
      → Reached rs (p ++ d ∷ [])
  one_further p d opened x has (inl b) = beside p d opened x has b.0 b.1
  one_further p d opened x has (inr b) =
      (x, has, inr (b.0 ++ d ∷ [], sym (append_assoc (decisions_of x) b.0 (d ∷ [])) ∙ ap (λ q. q ++ d ∷ []) b.1))

  further : (p rest : List Decision) → IsOpen s.tree (p ++ rest) → Reached rs p → Reached rs (p ++ rest)
  further p [] opened h = subst (Reached rs) (sym (append_nil p)) h
  further p (d ∷ rest) opened h =
      let same : (p ++ d ∷ []) ++ rest ≡ p ++ d ∷ rest = append_assoc p (d ∷ []) rest in
      let there = subst (IsOpen s.tree) (sym same) opened in
      subst (Reached rs) same
      (further (p ++ d ∷ []) rest there (one_further p d (prefix s.tree (p ++ d ∷ []) rest there) h.0 h.1 h.2))

  first_one : (xs : List RecordTree) → (xs ≡ [] → ⊥) → Reached xs []
  first_one [] some = absurd (some refl)
  first_one (x ∷ xs) some = (x, inl refl, inl (decisions_of x, refl))

  -- decisions that lead along a route meet those of a record
  pub reached : (rs ≡ [] → ⊥) → (ds : List Decision) → IsOpen s.tree ds → Reached rs ds
  reached some ds opened = further [] ds opened (first_one rs some)
