-- Records that are confirmed one after another, and that the answer is the only one.
use Rattle.std.proofs.Common.{◌≡◌, ℕ, ◌+◌, ◌<◌, inl, inr, List, [], ◌∷◌, ◌++◌, drop, get_or, length, take, Result, Ok, Err, refl, sym, ap, subst, ◌∙◌, arith}
use Rattle.std.specs.List.{AllByRecursion}
use Rattle.std.proofs.lemmas.List.{drop_more, length-map, length-take-le, map-append, take-append-drop, take_more}
use Rattle.path_records.specs.declared.records.Record.{Record}
use Rattle.exact_records.specs.Records.{HasMeaning, RecordTree, SymStart}
use Rattle.exact_records.specs.View.{record_tree, record_trees}
use Rattle.record_checks.specs.Confirming.{Confirms, ConfirmsNext, IsConfirmedBack, IsFirstBroken}
use Rattle.record_checks.specs.Counts.{AreCountedSo, with_record}
use Rattle.record_checks.specs.Parts.{IsBroken, PartsMakeTheMeaning}
use Rattle.record_checks.specs.declared.counts.Confirmed.{Confirmed}
use Rattle.record_checks.specs.declared.fault.ReplayFault.{ReplayFault}
use Rattle.record_checks.specs.declared.fault.ReplayFault.TheVariants.{NotConfirmed, NoMemory}
use Rattle.record_checks.specs.declared.part.Part.{Part}
use Rattle.record_checks.proofs.Counting.{counts_more}

module _ {A : Type 0} where
  pub all_pushed : (P : A → Type 0) (xs : List A) (x : A) → AllByRecursion P xs → P x → AllByRecursion P (xs ++ x ∷ [])
  all_pushed P [] x h k = (k, tt)
  all_pushed P (y ∷ xs) x h k = (h.0, all_pushed P xs x h.1 k)

  member_of : (P : A → Type 0) (front : List A) (x : A) (later : List A) → AllByRecursion P (front ++ x ∷ later) → P x
  member_of P [] x later h = h.0
  member_of P (y ∷ front) x later h = member_of P front x later h.1

  same_head : {a b : A} {xs ys : List A} → a ∷ xs ≡ b ∷ ys → a ≡ b
  same_head e = cc

  same_tail : {a b : A} {xs ys : List A} → a ∷ xs ≡ b ∷ ys → xs ≡ ys
  same_tail e = cc

  -- what stands at the same place of one list
  pub record AreSameMembers (front : List A) (x : A) (front' : List A) (y : A) : Type 0 where
    pub fronts : front ≡ front'
    pub members : x ≡ y

  -- of two ways to take a list apart, one member has the property of the other's front, or both are the same
  parts_apart : (P : A → Type 0) (front : List A) (x : A) (later front' : List A) (y : A) (later' : List A) → front ++ x ∷ later ≡ front' ++ y ∷ later'
      → AllByRecursion P front → (P x → ⊥) → AllByRecursion P front' → (P y → ⊥) → AreSameMembers front x front' y
  parts_apart P [] x later [] y later' e h n k m = record { fronts = refl; members = same_head e }
  parts_apart P [] x later (z ∷ front') y later' e h n k m = absurd (n (subst P (sym (same_head e)) k.0))
  parts_apart P (w ∷ front) x later [] y later' e h n k m = absurd (m (subst P (same_head e) h.0))
  parts_apart P (w ∷ front) x later (z ∷ front') y later' e h n k m =
      let r = parts_apart P front x later front' y later' (same_tail e) h.1 n k.1 m in
      record { fronts = λ i. same_head e i ∷ r.fronts i; members = r.members }

module _ (s : SymStart) (parts : PartsMakeTheMeaning s) where
  -- a list whose records all have their meaning has no first that has not
  all_or_broken : (xs : List RecordTree) (number : ℕ) (part : Part) → AllByRecursion (HasMeaning s) xs → IsFirstBroken s number part xs → ⊥
  all_or_broken xs number part h b =
      parts.broken part b.it b.broken (member_of (HasMeaning s) b.front b.it b.later (subst (AllByRecursion (HasMeaning s)) b.is h))

  pub record AreSameFaults (number : ℕ) (part : Part) (number' : ℕ) (part' : Part) : Type 0 where
    pub numbers : number ≡ number'
    pub kinds : part ≡ part'

  one_fault : (xs : List RecordTree) (number number' : ℕ) (part part' : Part) → IsFirstBroken s number part xs → IsFirstBroken s number' part' xs
      → AreSameFaults number part number' part'
  one_fault xs number number' part part' a b =
      let same = parts_apart (HasMeaning s) a.front a.it a.later b.front b.it b.later (sym a.is ∙ b.is) a.before (parts.broken part a.it a.broken)
      b.before (parts.broken part' b.it b.broken) in
      record {
        numbers = sym a.at ∙ (ap length same.fronts ∙ b.at);
        kinds = parts.one part part' b.it (subst (IsBroken s part) same.members a.broken) b.broken;
      }

  pub confirmed_back : (xs : List RecordTree) (result : Result Confirmed ReplayFault) → Confirms s xs result → IsConfirmedBack s xs result
  confirmed_back xs (Ok counts) h = record {
    confirmed = λ all. inl (ap Ok h.1);
    refused = λ number part b. absurd (all_or_broken xs number part h.0 b);
  }
  confirmed_back xs (Err (NotConfirmed number part)) h = record {
    confirmed = λ all. absurd (all_or_broken xs number part all h);
    refused = λ number' part' b. let same = one_fault xs number number' part part' h b in inl (λ i. Err (NotConfirmed (same.numbers i) (same.kinds i)));
  }
  confirmed_back xs (Err NoMemory) h = record { confirmed = λ all. inr refl; refused = λ number part b. inr refl }

-- ---- one record further

module _ (xs : List Record) (i : ℕ) (x : Record) (less : i < length xs) (at : x ≡ get_or xs i x) where
  trees_taken : record_trees (take (i + 1) xs) ≡ record_trees (take i xs) ++ record_tree x ∷ []
  trees_taken =
      ap record_trees (take_more xs i x less)
      ∙ (map-append record_tree (take i xs) (get_or xs i x ∷ []) ∙ ap (λ (y : Record). record_trees (take i xs) ++ record_tree y ∷ []) (sym at))

  trees_left : record_trees (drop i xs) ≡ record_tree x ∷ record_trees (drop (i + 1) xs)
  trees_left = ap record_trees (drop_more xs i x less) ∙ ap (λ (y : Record). record_tree y ∷ record_trees (drop (i + 1) xs)) (sym at)

  pub meaning_more : (P : RecordTree → Type 0) → AllByRecursion P (record_trees (take i xs)) → P (record_tree x) → AllByRecursion P (record_trees (take (i + 1) xs))
  meaning_more P h k = subst (AllByRecursion P) (sym trees_taken) (all_pushed P (record_trees (take i xs)) (record_tree x) h k)

  pub counted_more : (c : Confirmed) (whole : List RecordTree) → AreCountedSo c (record_trees (drop i xs)) whole
      → AreCountedSo (with_record (record_tree x) c) (record_trees (drop (i + 1) xs)) whole
  counted_more c whole h = counts_more c (record_tree x) (record_trees (drop (i + 1) xs)) whole (subst (λ (ys : List RecordTree). AreCountedSo c ys whole) trees_left h)

  apart : record_trees xs ≡ record_trees (take i xs) ++ record_tree x ∷ record_trees (drop (i + 1) xs)
  apart =
      ap record_trees (sym (take-append-drop i xs))
      ∙ (map-append record_tree (take i xs) (drop i xs) ∙ ap (λ (ys : List RecordTree). record_trees (take i xs) ++ ys) trees_left)

pub broken_there : (s : SymStart) (xs : List Record) (i : ℕ) (x : Record) (number : ℕ) (part : Part) → i < length xs → x ≡ get_or xs i x → number ≡ i
    → AllByRecursion (HasMeaning s) (record_trees (take i xs)) → IsBroken s part (record_tree x) → IsFirstBroken s number part (record_trees xs)
broken_there s xs i x number part less at numbered h k = record {
  front = record_trees (take i xs);
  it = record_tree x;
  later = record_trees (drop (i + 1) xs);
  is = apart xs i x less at;
  at = length-map (take i xs) record_tree ∙ (length-take-le i xs (omega (arith, less)) ∙ sym numbered);
  before = h;
  broken = k;
}

-- where one is refused, that is the answer for all of them
pub stopped_there : (s : SymStart) (xs : List Record) (i : ℕ) (x : Record) (number : ℕ) (counts : Confirmed) (fault : ReplayFault) → i < length xs → x ≡ get_or xs i x → number ≡ i
    → AllByRecursion (HasMeaning s) (record_trees (take i xs)) → ConfirmsNext s (record_tree x) number counts (Err fault) → Confirms s (record_trees xs) (Err fault)
stopped_there s xs i x number counts (NotConfirmed at part) less is numbered h k = broken_there s xs i x at part less is (k.0 ∙ numbered) h k.1
stopped_there s xs i x number counts NoMemory less is numbered h k = tt
