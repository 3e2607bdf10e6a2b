-- What is found of a condition, taken to a longer one.
use Rattle.std.proofs.Common.{◌≡◌, ℕ, zero, suc, ◌+◌, ◌-◌, ◌<◌, ◌≤◌, Bool, true, false, ◌&&◌, List, [], ◌∷◌, ◌++◌, Option, Some, cond, length, drop, take, refl, sym, ap, ◌∙◌, subst, arith}
use Rattle.std.specs.Prelude.{slice_get, IfSome}
use Rattle.std.specs.List.{list_all, position_from}
use Rattle.std.specs.Option.{option_or}
use Rattle.std.proofs.lemmas.List.{append-nil, drop_all, length-take, take-append-drop}
use Rattle.path_formula.specs.View.{view}
use Rattle.path_cond.specs.Conditions.{AllTyped, Condition, Entry}
use Rattle.refutation_check.specs.Least.{AreLeast, first_broken_outside, holds_unless_outside, is_broken_outside}
use Rattle.refutation_check.specs.Longer.{LeastStay, zeros, with_entries, with_widths}
use Rattle.refutation_check.specs.declared.outcome.Cause.TheVariants.{Outside, Cases, Coupled}
use Rattle.path_solver.specs.Bases.{IsBaseOf, HasValues, broken_in, front_of, with_first}
use Rattle.path_solver.specs.Decisions.{IsDecisionOn}
use Rattle.path_solver.specs.declared.base.Base.{Base}
use Rattle.path_solver.specs.declared.decision.Decided.{Decided}
use Rattle.path_solver.specs.declared.decision.Decided.TheVariants.{Sat, Unsat, Undecided}

-- one more formula that was looked at
pub test_step : {X : Type 0} (p : X → Bool) (xs : List X) (i : ℕ) (r : Bool) → i < length xs → IfSome (slice_get xs i) (λ x. r ≡ p x)
    → list_all p (drop i xs) ≡ (r && list_all p (drop (i + 1) xs))
test_step p [] i r lt h = absurd (omega arith)
test_step p (x ∷ xs) zero r lt h = ap (λ b. b && list_all p xs) (sym h)
test_step p (x ∷ xs) (suc i) r lt h =
    let next : suc (i + 1) ≡ suc i + 1 = omega arith in
    test_step p xs i r (omega arith) h ∙ ap (λ k. r && list_all p (drop k (x ∷ xs))) next

-- this many zeros
abbrev pub nils : ℕ → List ℕ
nils zero = []
nils (suc n) = 0 ∷ nils n

nils_more : (n : ℕ) → nils n ++ 0 ∷ [] ≡ nils (suc n)
nils_more zero = refl
nils_more (suc n) = ap (λ ns. 0 ∷ ns) (nils_more n)

append_more : (xs ys : List ℕ) (x : ℕ) → (xs ++ ys) ++ x ∷ [] ≡ xs ++ (ys ++ x ∷ [])
append_more [] ys x = refl
append_more (z ∷ xs) ys x = ap (λ zs. z ∷ zs) (append_more xs ys x)

pub next_nil : (least values : List ℕ) (first place : ℕ) → first ≤ place → values ≡ least ++ nils (place - first)
    → values ++ 0 ∷ [] ≡ least ++ nils (place + 1 - first)
next_nil least values first place le h =
    let next : suc (place - first) ≡ place + 1 - first = omega arith in
    ap (λ vs. vs ++ 0 ∷ []) h ∙ append_more least (nils (place - first)) 0 ∙ ap (λ ns. least ++ ns) (nils_more (place - first) ∙ ap nils next)

pub no_nil : (least values : List ℕ) → values ≡ least → values ≡ least ++ nils (length least - length least)
no_nil least values h =
    let none : 0 ≡ length least - length least = omega arith in
    h ∙ sym (append-nil least) ∙ ap (λ k. least ++ nils k) none

nils_are : (widths : List ℕ) (n : ℕ) → n ≤ length widths → nils (length widths - n) ≡ zeros (drop n widths)
nils_are [] zero le = refl
nils_are [] (suc n) le = absurd (omega arith)
nils_are (w ∷ widths) zero le =
    let same : suc (length widths) - 0 ≡ suc (length widths - 0) = omega arith in
    ap nils same ∙ ap (λ ns. 0 ∷ ns) (nils_are widths 0 (omega arith))
nils_are (w ∷ widths) (suc n) le =
    let same : suc (length widths) - suc n ≡ length widths - n = omega arith in
    ap nils same ∙ nils_are widths n (omega arith)

pub padded_is : (widths least values : List ℕ) (place : ℕ) → length least ≤ length widths → place ≡ length widths → values ≡ least ++ nils (place - length least)
    → values ≡ least ++ zeros (drop (length least) widths)
padded_is widths least values place le end h = h ∙ ap (λ k. least ++ nils (k - length least)) end ∙ ap (λ ns. least ++ ns) (nils_are widths (length least) le)

-- the values of a base stay the least where they satisfy what is new
pub stay_least : LeastStay view → (cond : Condition) (b : Base) (values : List ℕ) → IsBaseOf cond b
    → values ≡ b.least ++ zeros (drop (length b.least) cond.widths)
    → list_all (holds_unless_outside values) (drop b.formulas cond.entries) ≡ true → AreLeast cond values
stay_least law cond b values base is holds =
    let n = length b.least in
    let k = b.formulas in
    let new = subst (λ vs. list_all (holds_unless_outside vs) (drop k cond.entries) ≡ true) is holds in
    let all = law.wider (front_of n k cond) (drop n cond.widths) (drop k cond.entries) b.least base.typed base.least new in
    let whole : with_entries (with_widths (front_of n k cond) (drop n cond.widths)) (drop k cond.entries) ≡ cond =
    λ i. record cond { widths = take-append-drop n cond.widths i; entries = take-append-drop k cond.entries i } in
    subst (λ (c : Condition). AreLeast c values) whole (subst (λ vs. AreLeast (with_entries (with_widths (front_of n k cond) (drop n cond.widths)) (drop k cond.entries)) vs) (sym is) all)

-- with the first formulas alone the condition has the values of the base, with zeros behind
pub front_least : LeastStay view → (cond : Condition) (b : Base) (values : List ℕ) → IsBaseOf cond b
    → values ≡ b.least ++ zeros (drop (length b.least) cond.widths) → AreLeast (with_first b.formulas cond) values
front_least law cond b values base is =
    let n = length b.least in
    let k = b.formulas in
    let longer = with_entries (with_widths (front_of n k cond) (drop n cond.widths)) [] in
    let all = law.wider (front_of n k cond) (drop n cond.widths) [] b.least base.typed base.least refl in
    let front : longer ≡ with_first k cond =
    λ i. record cond { widths = take-append-drop n cond.widths i; entries = append-nil (take k cond.entries) i } in
    subst (λ (c : Condition). AreLeast c values) front (subst (λ vs. AreLeast longer vs) (sym is) all)

take_whole : {X : Type 0} (xs : List X) (n : ℕ) → n ≡ length xs → take n xs ≡ xs
take_whole [] zero e = refl
take_whole [] (suc n) e = absurd (omega (arith, e))
take_whole (x ∷ xs) zero e = absurd (omega (arith, e))
take_whole (x ∷ xs) (suc n) e = ap (λ ys. x ∷ ys) (take_whole xs n (omega (arith, e)))

take_none : {X : Type 0} (xs : List X) → take 0 xs ≡ []
take_none [] = refl
take_none (x ∷ xs) = refl

take_front : {X : Type 0} (xs ys : List X) (n : ℕ) → n ≤ length xs → take n (xs ++ ys) ≡ take n xs
take_front xs ys zero le = take_none (xs ++ ys) ∙ sym (take_none xs)
take_front [] ys (suc n) le = absurd (omega arith)
take_front (x ∷ xs) ys (suc n) le = ap (λ zs. x ∷ zs) (take_front xs ys n (omega arith))

append_longer : {X : Type 0} (xs ys : List X) → length xs ≤ length (xs ++ ys)
append_longer [] ys = omega arith
append_longer (x ∷ xs) ys = let more = append_longer xs ys in omega (arith, more)

-- the least values of a condition are a base of it, with what they break
least_base : (c : Condition) (b : Base) → AllTyped c.widths c.entries → b.formulas ≡ length c.entries → AreLeast c b.least → first_broken_outside c b.least ≡ b.broken → IsBaseOf c b
least_base c b typed count least broken =
    let one_each = least.candidates.fitting.one_each in
    let front : front_of (length b.least) b.formulas c ≡ c =
    λ i. record c { widths = take_whole c.widths (length b.least) one_each i; entries = take_whole c.entries b.formulas count i } in
    record {
      symbols = omega (arith, one_each);
      formulas = omega (arith, count);
      typed = subst (λ (d : Condition). AllTyped d.widths d.entries) (sym front) typed;
      least = subst (λ (d : Condition). AreLeast d b.least) (sym front) least;
      broken_is = subst (λ (d : Condition). first_broken_outside d b.least ≡ b.broken) (sym front) broken;
    }

pub decision_base : (c : Condition) (d : Decided) (b : Base) → AllTyped c.widths c.entries → IsDecisionOn c d → HasValues b.least d → broken_in d ≡ b.broken → b.formulas ≡ length c.entries → IsBaseOf c b
decision_base c (Sat found) b typed h has broken count =
    least_base c b typed count (subst (AreLeast c) has h.least) (subst (λ vs. first_broken_outside c vs ≡ b.broken) has (h.broken_is ∙ broken))
decision_base c (Unsat refutation) b typed h has broken count = absurd has
decision_base c (Undecided (Outside pick found)) b typed h has broken count =
    least_base c b typed count (subst (AreLeast c) has h.least) (subst (λ vs. first_broken_outside c vs ≡ b.broken) has (h.broken_is ∙ broken))
decision_base c (Undecided (Cases n)) b typed h has broken count = absurd has
decision_base c (Undecided (Coupled n)) b typed h has broken count = absurd has

-- a base of a condition is one of any with the same front
same_front : (c d : Condition) (b : Base) → length b.least ≤ length d.widths → b.formulas ≤ length d.entries
    → front_of (length b.least) b.formulas d ≡ front_of (length b.least) b.formulas c → IsBaseOf c b → IsBaseOf d b
same_front c d b symbols formulas front h =
    record {
      symbols = symbols;
      formulas = formulas;
      typed = subst (λ (x : Condition). AllTyped x.widths x.entries) (sym front) h.typed;
      least = subst (λ (x : Condition). AreLeast x b.least) (sym front) h.least;
      broken_is = subst (λ (x : Condition). first_broken_outside x b.least ≡ b.broken) (sym front) h.broken_is;
    }

pub base_wider : (c : Condition) (b : Base) (widths : List ℕ) → IsBaseOf c b → IsBaseOf (with_widths c widths) b
base_wider c b widths h =
    let longer = append_longer c.widths widths in
    same_front c (with_widths c widths) b (omega (arith, longer, h.symbols)) h.formulas
    (λ i. record c { widths = take_front c.widths widths (length b.least) h.symbols i; entries = take b.formulas c.entries }) h

pub base_longer : (c : Condition) (b : Base) (more : List Entry) → IsBaseOf c b → IsBaseOf (with_entries c more) b
base_longer c b more h =
    let longer = append_longer c.entries more in
    same_front c (with_entries c more) b h.symbols (omega (arith, longer, h.formulas))
    (λ i. record c { widths = take (length b.least) c.widths; entries = take_front c.entries more b.formulas h.formulas i }) h

-- ---- the first broken outside formula

-- one more formula that was looked at for the first that passes
pub position_step : {X : Type 0} (p : X → Bool) (xs : List X) (i k : ℕ) (r : Bool) → i < length xs → IfSome (slice_get xs i) (λ x. r ≡ p x)
    → position_from p k (drop i xs) ≡ cond r (Some k) (position_from p (k + 1) (drop (i + 1) xs))
position_step p [] i k r lt h = absurd (omega arith)
position_step p (x ∷ xs) zero k r lt h = ap (λ b. cond b (Some k) (position_from p (k + 1) xs)) (sym h)
position_step p (x ∷ xs) (suc i) k r lt h =
    let next : suc (i + 1) ≡ suc i + 1 = omega arith in
    position_step p xs i k r (omega arith) h ∙ ap (λ n. cond r (Some k) (position_from p (k + 1) (drop n (x ∷ xs)))) next

choose : {X : Type 0} (b : Bool) (x : X) (rest front : Option X) (other : Option X) → rest ≡ option_or front other
    → cond b (Some x) rest ≡ option_or (cond b (Some x) front) other
choose true x rest front other h = refl
choose false x rest front other h = h

-- the first that passes is in the first list, or else in the second
or_later : {X : Type 0} (p : X → Bool) (xs ys : List X) (k : ℕ)
    → position_from p k (xs ++ ys) ≡ option_or (position_from p k xs) (position_from p (k + length xs) ys)
or_later p [] ys k = ap (λ n. position_from p n ys) (omega arith)
or_later p (x ∷ xs) ys k =
    let next : k + 1 + length xs ≡ k + suc (length xs) = omega arith in
    choose (p x) k _ (position_from p (k + 1) xs) _
    (or_later p xs ys (k + 1) ∙ ap (λ n. option_or (position_from p (k + 1) xs) (position_from p n ys)) next)

-- of a base with all symbols: what it breaks, or else the first of the newer formulas that is broken
pub broken_goes_on : (c : Condition) (b : Base) (values : List ℕ) → IsBaseOf c b → values ≡ b.least ++ zeros (drop (length b.least) c.widths)
    → length b.least ≡ length c.widths
    → first_broken_outside c values ≡ option_or b.broken (position_from (is_broken_outside values) b.formulas (drop b.formulas c.entries))
broken_goes_on c b values base is one_each =
    let p = is_broken_outside values in
    let k = b.formulas in
    let no_more : drop (length b.least) c.widths ≡ [] = drop_all (length b.least) c.widths (omega (arith, one_each)) in
    let same : values ≡ b.least = is ∙ ap (λ ws. b.least ++ zeros ws) no_more ∙ append-nil b.least in
    let front : position_from p 0 (take k c.entries) ≡ b.broken =
    subst (λ (vs : List ℕ). first_broken_outside (front_of (length b.least) k c) vs ≡ b.broken) (sym same) base.broken_is in
    let count : 0 + length (take k c.entries) ≡ k = omega (arith, length-take k c.entries, base.formulas) in
    ap (position_from p 0) (sym (take-append-drop k c.entries)) ∙ or_later p (take k c.entries) (drop k c.entries) 0
    ∙ ap (λ o. option_or o (position_from p (0 + length (take k c.entries)) (drop k c.entries))) front
    ∙ ap (λ n. option_or b.broken (position_from p n (drop k c.entries))) count
