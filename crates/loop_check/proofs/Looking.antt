-- The visits of a path, one after another.
use Rattle.std.proofs.Common.{◌≡◌, ℕ, ◌+◌, ◌<◌, ◌≤◌, suc, inl, inr, List, [], ◌∷◌, ◌++◌, length, map, take, drop, get_or, refl, sym, ap, subst, ◌∙◌, append_assoc, arith, None, Some}
use Rattle.std.proofs.lemmas.List.{append-nil, drop_all, drop_more, get_or-map, length-map, length-take-le, take-append-drop, take_more}
use Rattle.std.specs.List.{AllByRecursion}
use Rattle.sefl_meaning.specs.declared.walk.Place.{Place}
use Rattle.sym_state.specs.Symbolic.{Symbolic, held_of}
use Rattle.exact_records.specs.Records.{SymCondition}
use Rattle.loop_meaning.specs.declared.answer.Differ.{Differ}
use Rattle.loop_meaning.specs.declared.answer.Why.{Why}
use Rattle.loop_meaning.specs.Answers.{AreDiffers, Arrival, IsFirstLoop}
use Rattle.loop_meaning.specs.Visits.{HasNoDiffer, IsWhy, Visit, visit_of}
use Rattle.loop_check.specs.Seen.{AreSeen, SaysOf}

abbrev pub ports_of : List Arrival → List Place
ports_of arrivals = map (λ (a : Arrival). a.0) arrivals

all_append : (P : Arrival → Type 0) (xs : List Arrival) (x : Arrival) → AllByRecursion P xs → P x → AllByRecursion P (xs ++ x ∷ [])
all_append P [] x h k = (k, tt)
all_append P (y ∷ xs) x h k = (h.0, all_append P xs x h.1 k)

same_first : {A : Type 0} {a b : A} {xs ys : List A} → a ∷ xs ≡ b ∷ ys → a ≡ b
same_first e = cc

same_rest : {A : Type 0} {a b : A} {xs ys : List A} → a ∷ xs ≡ b ∷ ys → xs ≡ ys
same_rest e = cc

module _ (c : SymCondition) (port : Place) (earlier : List Arrival) (end' : Arrival) (here : end'.0 ≡ port) where
  -- a visit of the last port has a cause
  abbrev HasWhy : Arrival → Type 0
  HasWhy a = a.0 ≡ end'.0 → (why : Why) × IsWhy (visit_of a.1) (visit_of end'.1) c why

  -- this many arrivals were looked at, these visits differ, and these states are left
  pub record Looked (k : ℕ) (differs : List Differ) (left : List Symbolic) : Type 0 where
    pub seen : AreSeen port (drop k earlier) left
    pub sooner : AllByRecursion HasWhy (take k earlier)
    pub goes : (rest : List Differ) → AreDiffers c end' k (drop k earlier) rest → AreDiffers c end' 0 earlier (differs ++ rest)

  pub looked_first : (left : List Symbolic) → AreSeen port earlier left → Looked 0 [] left
  looked_first left h = record { seen = h; sooner = tt; goes = λ rest k. k }

  module _ (k : ℕ) (less : k < length earlier) (differs : List Differ) (left : List Symbolic) (h : Looked k differs left) where
    abbrev now : Arrival
    now = get_or earlier k end'

    split : drop k earlier ≡ now ∷ drop (k + 1) earlier
    split = drop_more earlier k end' less

    seen_now : AreSeen port (now ∷ drop (k + 1) earlier) left
    seen_now = subst (λ as'. AreSeen port as' left) split h.seen

    taken : take (k + 1) earlier ≡ take k earlier ++ now ∷ []
    taken = take_more earlier k end' less

    next : (rest : List Differ) → AreDiffers c end' (k + 1) (drop (k + 1) earlier) rest → AreDiffers c end' (suc k) (drop (k + 1) earlier) rest
    next rest g =
        let e : k + 1 ≡ suc k = omega arith in
        subst (λ n. AreDiffers c end' n (drop (k + 1) earlier) rest) e g

    -- at another port
    pub looked_past : (now.0 ≡ port → ⊥) → Looked (k + 1) differs left
    looked_past other = record {
      seen = by seen_now;
      sooner = subst (AllByRecursion HasWhy) (sym taken) (all_append HasWhy (take k earlier) now h.sooner (λ e. absurd (other (e ∙ here))));
      goes = λ rest g. h.goes rest (subst (λ as'. AreDiffers c end' k as' rest) (sym split) (inr (λ e. other (e ∙ here), next rest g)));
    }
      where
        by : AreSeen port (now ∷ drop (k + 1) earlier) left → AreSeen port (drop (k + 1) earlier) left
        by (inl s) = absurd (other s.at)
        by (inr s) = s.1

    module _ (at : now.0 ≡ port) (x : Symbolic) (rest : List Symbolic) (is : left ≡ x ∷ rest) where
      record Location : Type 0 where
        pub held : held_of x ≡ visit_of now.1
        pub others : AreSeen port (drop (k + 1) earlier) rest

      here_seen : AreSeen port (now ∷ drop (k + 1) earlier) left → Location
      here_seen (inl s) = record {
        held = ap held_of (same_first (sym is ∙ s.is)) ∙ s.holds;
        others = subst (AreSeen port (drop (k + 1) earlier)) (sym (same_rest (sym is ∙ s.is))) s.others;
      }
      here_seen (inr s) = absurd (s.0 at)

      why_now : (last : Visit) → visit_of end'.1 ≡ last → (why : Why) → SaysOf c last x (Some why) → IsWhy (visit_of now.1) (visit_of end'.1) c why
      why_now last same why says =
          subst (λ (v : Visit). IsWhy v (visit_of end'.1) c why) (here_seen seen_now).held
          (subst (λ (v : Visit). IsWhy (held_of x) v c why) (sym same) says)

      -- a visit that differs
      pub looked_differs : (last : Visit) → visit_of end'.1 ≡ last → (why : Why) → SaysOf c last x (Some why) → (place : ℕ) → place ≡ k
          → Looked (k + 1) (differs ++ record { place = place; why = why } ∷ []) rest
      looked_differs last same why says place number = record {
        seen = (here_seen seen_now).others;
        sooner = subst (AllByRecursion HasWhy) (sym taken) (all_append HasWhy (take k earlier) now h.sooner (λ e. (why, why_now last same why says)));
        goes = λ more g.
            subst (AreDiffers c end' 0 earlier) (sym (append_assoc differs (record { place = place; why = why } ∷ []) more))
            (h.goes (record { place = place; why = why } ∷ more)
            (subst (λ as'. AreDiffers c end' k as' (record { place = place; why = why } ∷ more)) (sym split) (inl (record {
              at = at ∙ sym here;
              why = why;
              because = why_now last same why says;
              rest = more;
              is = ap (λ (n : ℕ). record { place = n; why = why } ∷ more) number;
              others = next more g;
            }))));
      }

      -- a visit that does not
      pub looked_loop : (last : Visit) → visit_of end'.1 ≡ last → SaysOf c last x None → (first : ℕ) → first ≡ k → IsFirstLoop c end' earlier first
      looked_loop last same says first number = record {
        front = take k earlier;
        visit = now;
        rest = drop (k + 1) earlier;
        joined = sym (take-append-drop k earlier) ∙ ap (λ as'. take k earlier ++ as') split;
        numbered = number ∙ sym (length-take-le k earlier (omega (arith, less)));
        at = at ∙ sym here;
        none =
            subst (λ (v : Visit). HasNoDiffer v (visit_of end'.1) c) (here_seen seen_now).held
            (subst (λ (v : Visit). HasNoDiffer (held_of x) v c) (sym same) says);
        sooner = h.sooner;
      }

  pub looked_all : (k : ℕ) (differs : List Differ) (left : List Symbolic) → Looked k differs left → length earlier ≤ k → AreDiffers c end' 0 earlier differs
  looked_all k differs left h past =
      subst (AreDiffers c end' 0 earlier) (append-nil differs)
      (h.goes [] (subst (λ as'. AreDiffers c end' k as' []) (sym (drop_all k earlier past)) refl))

-- a place of the list of ports is that of its arrival
pub place_at : (earlier : List Arrival) (before : List Place) (end' : Arrival) (k : ℕ) (p : Place) → ports_of earlier ≡ before → k < length before
    → p ≡ get_or before k p → (get_or earlier k end').0 ≡ p
place_at earlier before end' k p same less is =
    let within : k < length earlier = omega (arith, less, ap length same, length-map earlier (λ (a : Arrival). a.0)) in
    sym (get_or-map (λ (a : Arrival). a.0) earlier k end' p within) ∙ (ap (λ ps. get_or ps k p) same ∙ sym is)

pub as_many : (earlier : List Arrival) (before : List Place) → ports_of earlier ≡ before → length earlier ≡ length before
as_many earlier before same = omega (arith, ap length same, length-map earlier (λ (a : Arrival). a.0))

pub not_place_at : (earlier : List Arrival) (before : List Place) (end' : Arrival) (k : ℕ) (p : Place) → ports_of earlier ≡ before → k < length before
    → (p ≡ get_or before k p → ⊥) → (get_or earlier k end').0 ≡ p → ⊥
not_place_at earlier before end' k p same less not at =
    let within : k < length earlier = omega (arith, less, ap length same, length-map earlier (λ (a : Arrival). a.0)) in
    not (sym at ∙ (sym (get_or-map (λ (a : Arrival). a.0) earlier k end' p within) ∙ ap (λ ps. get_or ps k p) same))
