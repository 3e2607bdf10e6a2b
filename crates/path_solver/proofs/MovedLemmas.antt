-- The least values of a condition with one simple formula more, where no formula is inside.
use Rattle.std.proofs.Common.{◌≡◌, ℕ, zero, suc, ◌+◌, ◌<◌, Bool, true, false, cond, ◌&&◌, ◌||◌, nat_eq, List, [], ◌∷◌, ◌++◌, length, take, Option, Some, None, refl, sym, ap, subst, ◌∙◌, arith}
use Rattle.std.specs.Prelude.{slice_get, slice_index, slice_set, ◌≤◌, reverse, IfSome}
use Rattle.std.specs.List.{list_all, list_any}
use Rattle.std.proofs.lemmas.Bool.{eqb-true, eq-eqb}
use Rattle.std.proofs.lemmas.List.{length-set, get_or-set_same, reverse-reverse}
use Rattle.sn_width.specs.declared.ids.SymId.{SymId}
use Rattle.sn_ranges.specs.Ranges.{RangeSet, IsLeast, fits_width}
use Rattle.path_formula.specs.Kinds.{kind_of}
use Rattle.path_formula.specs.Solutions.{alone}
use Rattle.path_formula.specs.View.{view}
use Rattle.path_formula.specs.declared.kinds.Kind.{Kind}
use Rattle.path_formula.specs.declared.kinds.Kind.TheVariants.{Constant, Simple, Inside, Outside}
use Rattle.path_cond.specs.Conditions.{Condition, Entry, AllTyped, first_broken, is_entry_on, is_possible, is_simple_on, meets, entry_holds}
use Rattle.path_cond.specs.Summaries.{inside_picks, picks_where}
use Rattle.interval_solver.specs.Domains.{AreDomainsOf}
use Rattle.interval_solver.specs.Verdicts.{AreLeastValues, IsLeastPossible}
use Rattle.path_cond.specs.Coupled.{is_inside}
use Rattle.path_cond.specs.Picks.{passes, is_simple_pick}
use Rattle.refutation_check.specs.Least.{AreLeast, is_at_most}
use Rattle.path_solver.specs.Bases.{IsMoved, with_first}
use Rattle.path_solver.specs.Decisions.{HasNoInside}
use Rattle.path_solver.specs.Laws.{Facts}
use Rattle.path_solver.specs.Origins.{origins_of}
use Rattle.path_solver.proofs.Ascending.{or_no_left, or_no_right, other_place, unlisted_first}
use Rattle.path_solver.proofs.Bridge.{origins_are, meet_all}
use Rattle.path_solver.proofs.Candidates.{candidate_possible, met_candidate}
use Rattle.path_solver.proofs.Fragment.{no_origin, not_either, simple_least}

-- Formulas that are not inside

picked_by : (b : Bool) (n : ℕ) (picks : List ℕ) (rest : Bool) → cond b (n ∷ picks) picks ≡ [] → (picks ≡ [] → rest ≡ false) → (b || rest) ≡ false
picked_by true n picks rest h later = absurd (cc)
picked_by false n picks rest h later = later h

-- where there are no picks of the formulas that pass, none passes
pub none_picked : {E : Type 0} (p : E → Bool) (n : ℕ) (es : List E) → picks_where p n es ≡ [] → list_any p es ≡ false
none_picked p n [] h = refl
none_picked p n (e ∷ es) h = picked_by (p e) n (picks_where p (suc n) es) (list_any p es) h (λ g. none_picked p (suc n) es g)

any_front : {X : Type 0} (p : X → Bool) (xs ys : List X) → list_any p (xs ++ ys) ≡ false → list_any p xs ≡ false
any_front p [] ys h = refl
any_front p (x ∷ xs) ys h =
    not_either (p x) (list_any p xs) (or_no_left (p x) (list_any p (xs ++ ys)) h)
    (any_front p xs ys (or_no_right (p x) (list_any p (xs ++ ys)) h))

typed_front : (widths : List ℕ) (xs ys : List Entry) → AllTyped widths (xs ++ ys) → AllTyped widths xs
typed_front widths [] ys h = tt
typed_front widths (x ∷ xs) ys h = (h.0, typed_front widths xs ys h.1)

-- The last formula

last_split : {X : Type 0} (xs : List X) (n : ℕ) (x : X) → length xs ≡ n + 1 → slice_get xs n ≡ Some x → xs ≡ take n xs ++ x ∷ []
last_split [] n x e h = absurd (omega (arith, e))
last_split (y ∷ []) zero x e h = let same : y ≡ x = cc in ap (λ z. z ∷ []) same
last_split (y ∷ z ∷ xs) zero x e h = absurd (omega (arith, e))
last_split (y ∷ xs) (suc n) x e h = ap (λ zs. y ∷ zs) (last_split xs n x (omega (arith, e)) h)

-- a formula that is simple on the symbol, at the pick
record StandsOn (c : Condition) (s : SymId) (n : ℕ) : Type 0 where
  pub entry : Entry
  pub at : slice_get c.entries n ≡ Some entry
  pub on : is_entry_on s entry ≡ true

stands_on : (c : Condition) (s : SymId) (n : ℕ) (o : Option Entry) → slice_get c.entries n ≡ o → passes (is_entry_on s) o ≡ true → StandsOn c s n
stands_on c s n None e h = absurd (cc)
stands_on c s n (Some entry) e h = record { entry = entry; at = e; on = h }

on_another : (k : Kind) (s r : SymId) → is_simple_on s k ≡ true → nat_eq s.0 r.0 ≡ false → is_simple_on r k ≡ false
on_another (Constant truth) s r h e = refl
on_another (Simple t) s r h e = let same : t.0 ≡ s.0 = eqb-true t.0 s.0 h in ap (λ (n : ℕ). nat_eq n r.0) same ∙ e
on_another Inside s r h e = refl
on_another Outside s r h e = refl

all_last : {X : Type 0} (p : X → Bool) (xs : List X) (x : X) → p x ≡ true → list_all p (xs ++ x ∷ []) ≡ list_all p xs
all_last p [] x h = ap (λ b. b && true) h
all_last p (y ∷ xs) x h = ap (λ b. p y && b) (all_last p xs x h)

unmet_not : (b c : Bool) → b ≡ false → cond b c true ≡ true
unmet_not true c e = absurd (cc)
unmet_not false c e = refl

-- a formula that is not simple on a symbol changes none of its possible values
possible_front : (c : Condition) (front : List Entry) (e : Entry) (r : SymId) (value : ℕ) → c.entries ≡ front ++ e ∷ [] → is_entry_on r e ≡ false
    → is_possible c r value ≡ is_possible (record c { entries = front }) r value
possible_front c front e r value split other =
    ap (λ b. fits_width (slice_index c.widths r.0) value && b)
    (ap (λ (es : List Entry). list_all (meets r (alone r value)) es) split
    ∙ all_last (meets r (alone r value)) front e (unmet_not (is_entry_on r e) (entry_holds (alone r value) e) other))

least_front : (c : Condition) (front : List Entry) (e : Entry) (r : SymId) (value : ℕ) → c.entries ≡ front ++ e ∷ [] → is_entry_on r e ≡ false
    → IsLeastPossible (record c { entries = front }) r value → IsLeastPossible c r value
least_front c front e r value split other h =
    record {
      possible = possible_front c front e r value split other ∙ h.possible;
      least = λ n p. h.least n (sym (possible_front c front e r n split other) ∙ p);
    }

-- The least values

each_at_most : (xs ys : List ℕ) → length xs ≡ length ys → ((i : ℕ) → i < length xs → slice_index xs i ≤ slice_index ys i) → is_at_most xs ys ≡ true
each_at_most [] ys e h = refl
each_at_most (x ∷ xs) [] e h = absurd (omega (arith, e))
each_at_most (x ∷ xs) (y ∷ ys) e h =
    unlisted_first x y xs ys (h 0 (omega arith)) (each_at_most xs ys (omega (arith, e)) (λ i lt. h (suc i) (omega (arith, lt))))

-- where no formula is inside, the least possible value of each symbol
possible_least : Facts → (c : Condition) (values : List ℕ) → AllTyped c.widths c.entries → HasNoInside c → first_broken c ≡ None
    → AreLeastValues c values → AreLeast c values
possible_least facts c values typed none unbroken h =
    record {
      candidates =
          met_candidate facts c values typed unbroken h.count_is (λ r known. (h.each r known).possible)
          (meet_all c values (origins_of c) (origins_are c) (λ o is. absurd (no_origin c o none is)));
      first = λ others k.
          each_at_most values others (h.count_is ∙ sym k.fitting.one_each)
          (λ i lt.
          let known : i < length c.widths = omega (arith, lt, h.count_is) in
          (h.each (record { 0 = i }) known).least (slice_index others i) (candidate_possible facts c others (record { 0 = i }) k known));
    }

moved_at : (c : Condition) (s : SymId) (value : ℕ) (values : List ℕ) (front : List Entry) (e : Entry) (r : SymId) (b : Bool) → nat_eq s.0 r.0 ≡ b
    → c.entries ≡ front ++ e ∷ [] → is_entry_on s e ≡ true → IsLeastPossible c s value
    → AreLeastValues (record c { entries = front }) values
    → r.0 < length c.widths → IsLeastPossible c r (slice_index (slice_set values s.0 value) r.0)
moved_at c s value values front e r true same split on least h known =
    let here : s.0 ≡ r.0 = eqb-true s.0 r.0 same in
    subst (λ (n : ℕ). IsLeastPossible c (record { 0 = n }) (slice_index (slice_set values s.0 value) n)) here
    (subst (λ (v : ℕ). IsLeastPossible c s v) (sym (get_or-set_same values s.0 value 0 (omega (arith, here, known, h.count_is)))) least)
moved_at c s value values front e r false other split on least h known =
    subst (λ (v : ℕ). IsLeastPossible c r v) (sym (other_place values s.0 r.0 value other))
    (least_front c front e r (slice_index values r.0) split (on_another (kind_of (view e.0)) s r on other) (h.each r known))

-- one value moves
pub moved_least : Facts → (c : Condition) (n : ℕ) (s : SymId) (value : ℕ) (values : List ℕ) → AllTyped c.widths c.entries → IsMoved c n s
    → IsLeastPossible c s value → AreLeast (with_first n c) values → AreLeast c (slice_set values s.0 value)
moved_least facts c n s value values typed h least before =
    let stands = stands_on c s n (slice_get c.entries n) refl h.simple in
    let e = stands.entry in
    let front = take n c.entries in
    let split : c.entries ≡ front ++ e ∷ [] = last_split c.entries n e h.last stands.at in
    let front_typed = typed_front c.widths front (e ∷ []) (subst (λ (es : List Entry). AllTyped c.widths es) split typed) in
    let front_none = any_front is_inside front (e ∷ []) (ap (list_any is_inside) (sym split) ∙ h.no_inside) in
    let values_are = simple_least facts (with_first n c) values front_typed front_none before in
    possible_least facts c (slice_set values s.0 value) typed h.no_inside h.unbroken
    (record {
      count_is = length-set values s.0 value ∙ values_are.count_is;
      each = λ r known. moved_at c s value values front e r (nat_eq s.0 r.0) refl split stands.on least values_are known;
    })

-- The least value of a domain

domain_least : (c : Condition) (sets : List RangeSet) (s : SymId) (set : RangeSet) (value : ℕ) → AreDomainsOf c sets → slice_get sets s.0 ≡ Some set
    → IsLeast set.pairs value → IsLeastPossible c s value
domain_least c sets s set value h at least =
    let domain = h.domains s set at in
    record {
      possible = sym (domain.members value) ∙ least.member;
      least = λ other p. least.least other (domain.members other ∙ p);
    }

-- ---- the answers of the code

no_reverse : (xs ys : List ℕ) → ys ≡ reverse xs → ys ≡ [] → xs ≡ []
no_reverse xs ys h e = sym (reverse-reverse xs) ∙ ap reverse (sym h ∙ e)

pub none_inside : (c : Condition) (picks : List ℕ) → picks ≡ reverse (inside_picks c) → picks ≡ [] → HasNoInside c
none_inside c picks h e = none_picked is_inside 0 c.entries (no_reverse (inside_picks c) picks h e)

pub on_itself : (s : SymId) → is_simple_on s (Simple s) ≡ true
on_itself s = eq-eqb s.0 s.0 refl

pub simple_there : (o : Option SymId) (k : Kind) (c : Condition) (pick : ℕ) (e : Entry) → k ≡ kind_of (view e.0) → Some e ≡ slice_get c.entries pick
    → IfSome o (λ s. is_simple_on s k ≡ true) → IfSome o (λ s. is_simple_pick s c pick ≡ true)
simple_there None k c pick e same at h = tt
simple_there (Some s) k c pick e same at h = ap (passes (is_entry_on s)) (sym at) ∙ (ap (is_simple_on s) (sym same) ∙ h)

pub moved_of : (o : Option SymId) (c : Condition) (n : ℕ) → length c.entries ≡ n + 1 → HasNoInside c → first_broken c ≡ None
    → IfSome o (λ s. is_simple_pick s c n ≡ true) → IfSome o (IsMoved c n)
moved_of None c n last none unbroken h = tt
moved_of (Some s) c n last none unbroken h = record { last = last; no_inside = none; unbroken = unbroken; simple = h }

pub least_there : (o : Option ℕ) (sets : List RangeSet) (s : SymId) (set : RangeSet) → Some set ≡ slice_get sets s.0 → IfSome o (IsLeast set.pairs)
    → IfSome o (λ value. (c : Condition) → AreDomainsOf c sets → IsLeastPossible c s value)
least_there None sets s set at h = tt
least_there (Some value) sets s set at h = λ c are. domain_least c sets s set value are (sym at) h
