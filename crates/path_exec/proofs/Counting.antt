-- The count of steps beside the records and the obligations that stand for the whole.
use Rattle.std.proofs.Common.{◌≡◌, ℕ, ◌+◌, ◌≤◌, inl, inr, List, [], ◌∷◌, ◌++◌, sym, ap, subst, ◌∙◌, arith, None}
use Rattle.std.specs.List.{AllByRecursion}
use Rattle.sefl_meaning.specs.declared.walk.Decision.{Decision}
use Rattle.sefl_meaning.specs.Order.{Parts}
use Rattle.exact_records.specs.Records.{RecordTree, SymStart, decisions_of}
use Rattle.exact_records.specs.Points.{Point, Stands, Obligation, first_point, to_decide}
use Rattle.exact_records.specs.Work.{at_last, begun_at, count_of, work_of}
use Rattle.exact_records.specs.Laws.{StandingIsExact, StepsStand}
use Rattle.exact_records.proofs.Lists.{all_append, split_last}
use Rattle.path_exec.specs.Paying.{HasGrown, Holds, Paid, PaidBy, begun_before}
use Rattle.path_exec.proofs.Ways.{last_at}
use Rattle.path_exec.proofs.Spending.{paid_first, paid_made, paid_next, paid_opened}

-- each is behind one decision more
abbrev pub AreBehind : List Decision → List Obligation → Type 0
AreBehind ds obligations = AllByRecursion (λ (k : Obligation). (c : Decision) × (k.0.decisions ≡ ds ++ c ∷ [])) obligations

module _ (s : SymStart) (exact : StandingIsExact s) where
  -- the records that are done part from the first obligation that is left
  parts_first : (limit : ℕ) (done : List RecordTree) (obligation : Obligation) (obligations : List Obligation) → Stands s limit done (obligation ∷ obligations)
      → (front : List RecordTree) (last : RecordTree) → done ≡ front ++ last ∷ [] → Parts (decisions_of last) obligation.0.decisions
  parts_first limit done obligation obligations h front last e =
      exact.apart limit front last obligation obligations (subst (λ rs. Stands s limit rs (obligation ∷ obligations)) e h)

  next_paid : (limit : ℕ) (done : List RecordTree) (y : RecordTree) (obligations : List Obligation) (raised : ℕ) → raised ≤ work_of s (done ++ y ∷ [])
      → Stands s limit (done ++ y ∷ []) obligations → AllByRecursion (HasGrown s) obligations → PaidBy s (done ++ y ∷ []) obligations raised
  next_paid limit done y [] raised h st grown = h
  next_paid limit done y (obligation ∷ obligations) raised h st grown =
      paid_next (begun_at s.tree) done y obligation.0.decisions (begun_before s obligation) raised
      (exact.apart limit done y obligation obligations st) grown.0 h

  -- a record was made of the first obligation
  pub record IsPaidFor (limit : ℕ) (done : List RecordTree) (y : RecordTree) (obligations : List Obligation) (raised : ℕ) : Type 0 where
    pub holds : Holds s limit (done ++ y ∷ []) obligations raised
    pub spent : raised ≤ work_of s (done ++ y ∷ [])

  pub holds_made : (limit : ℕ) (done : List RecordTree) (obligation : Obligation) (obligations : List Obligation) (y : RecordTree) (raised steps : ℕ)
      → Holds s limit done (obligation ∷ obligations) raised → Stands s limit (done ++ y ∷ []) obligations → decisions_of y ≡ obligation.0.decisions
      → steps + begun_before s obligation ≡ count_of (begun_at s.tree) y → IsPaidFor limit done y obligations (raised + steps)
  holds_made limit done obligation obligations y raised steps h new same e =
      let within = paid_made (begun_at s.tree) done obligation.0.decisions (begun_before s obligation) steps raised y (parts_first limit done obligation obligations h.stands) same e h.paid in
      record {
        holds = record { stands = new; paid = next_paid limit done y obligations (raised + steps) within new h.grown.1; grown = h.grown.1 };
        spent = within;
      }

  -- the first obligation became another one with the same decisions
  pub holds_decided : (limit : ℕ) (done : List RecordTree) (obligation next : Obligation) (obligations : List Obligation) (raised : ℕ) → obligation.0 ≡ next.0
      → Holds s limit done (obligation ∷ obligations) raised → Stands s limit done (next ∷ obligations) → Holds s limit done (next ∷ obligations) raised
  holds_decided limit done obligation next obligations raised e h new = record {
    stands = new;
    paid = subst (λ (a : Point). Paid (begun_at s.tree) done a.decisions (at_last (begun_at s.tree) a.decisions) raised) e h.paid;
    grown = (subst (λ (a : Point). (p : List Decision) (d : Decision) (rest : List Decision) → a.decisions ≡ p ++ d ∷ rest → begun_at s.tree p ≤ at_last (begun_at s.tree) a.decisions) e h.grown.0, h.grown.1);
  }

  -- behind the node that the first obligation reached
  grown_behind : (obligation : Obligation) (ds : List Decision) (d : Decision) (begun : ℕ) → obligation.0.decisions ≡ ds ++ d ∷ [] → begun_at s.tree ds ≡ begun
      → ((p : List Decision) (c : Decision) (rest : List Decision) → ds ≡ p ++ c ∷ rest → begun_at s.tree p ≤ begun) → HasGrown s obligation
  grown_behind obligation ds d begun is e below p c rest k =
      let same : begun_before s obligation ≡ begun = ap (at_last (begun_at s.tree)) is ∙ (last_at (begun_at s.tree) ds d ∙ e) in
      elim (split_last ds d c p rest (sym is ∙ k)) [
        | inl h ↦ let q : begun_at s.tree p ≡ begun = ap (begun_at s.tree) h.0 ∙ e in omega (arith, same, q)
        | inr h ↦ let q = below p c h.0 h.1 in omega (arith, same, q)
      ]

  each_grown : (ds : List Decision) (begun : ℕ) → begun_at s.tree ds ≡ begun
      → ((p : List Decision) (c : Decision) (rest : List Decision) → ds ≡ p ++ c ∷ rest → begun_at s.tree p ≤ begun)
      → (ks : List Obligation) → AreBehind ds ks → AllByRecursion (HasGrown s) ks
  each_grown ds begun here below [] g = tt
  each_grown ds begun here below (k ∷ ks) g = (grown_behind k ds g.0.0 begun g.0.1 here below, each_grown ds begun here below ks g.1)

  -- a node was opened, and an obligation for each of its decisions stands in front
  pub holds_opened : (limit : ℕ) (done : List RecordTree) (obligation first : Obligation) (more obligations : List Obligation) (raised steps begun : ℕ)
      → Holds s limit done (obligation ∷ obligations) raised → Stands s limit done (first ∷ more ++ obligations) → AreBehind obligation.0.decisions (first ∷ more)
      → begun_at s.tree obligation.0.decisions ≡ begun → steps + begun_before s obligation ≡ begun → Holds s limit done (first ∷ more ++ obligations) (raised + steps)
  holds_opened limit done obligation first more obligations raised steps begun h new all here e =
      let at = begun_at s.tree in
      let d = all.0.0 in
      let is = all.0.1 in
      let below : (p : List Decision) (c : Decision) (rest : List Decision) → obligation.0.decisions ≡ p ++ c ∷ rest → at p ≤ begun =
      λ p c rest k. let q = h.grown.0 p c rest k in omega (arith, q, e) in
      let paid = paid_opened at done obligation.0.decisions (d ∷ []) (begun_before s obligation) begun steps raised (parts_first limit done obligation obligations h.stands) e h.paid in
      let same : begun_before s first ≡ begun = ap (at_last at) is ∙ (last_at at obligation.0.decisions d ∙ here) in
      record {
        stands = new;
        paid = subst (λ (b : ℕ). Paid at done first.0.decisions b (raised + steps)) (sym same) (subst (λ ds. Paid at done ds begun (raised + steps)) (sym is) paid);
        grown = all_append (HasGrown s) (first ∷ more) obligations (each_grown obligation.0.decisions begun here below (first ∷ more) all) h.grown.1;
      }

-- nothing is done yet
pub holds_first : (s : SymStart) (limit : ℕ) → StepsStand s → Holds s limit [] ((first_point s, to_decide None) ∷ []) 0
holds_first s limit below = record {
  stands = below.begins limit;
  paid = paid_first (begun_at s.tree);
  grown = (λ p d rest k. absurd (empty p d rest k), tt);
}
  where
    empty : (p : List Decision) (d : Decision) (rest : List Decision) → [] ≡ p ++ d ∷ rest → ⊥
    empty [] d rest k = cc
    empty (c ∷ p) d rest k = let bad : [] ≡ c ∷ (p ++ d ∷ rest) = k in cc
