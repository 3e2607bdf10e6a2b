-- A constant formula that has the truth that it must have changes no verdict.
use Rattle.std.proofs.Common.{◌≡◌, ℕ, suc, ◌+◌, ◌-◌, ◌*◌, ◌<◌, ◌≤◌, nat_lt, Bool, true, false, not, ◌&&◌, ◌||◌, cond, List, [], ◌∷◌, ◌++◌, map, length, Option, Some, None, refl, sym, ap, ap₂, subst, ◌∙◌, arith}
use Rattle.std.specs.Prelude.{slice_index}
use Rattle.std.specs.List.{list_all, list_any, position_from}
use Rattle.std.specs.Option.{option_map}
use Rattle.std.proofs.lemmas.Bool.Decides.{nat_tests}
use Rattle.std.proofs.lemmas.List.{append-nil}
use Rattle.sn_width.specs.declared.ids.SymId.{SymId}
use Rattle.path_formula.specs.Formulas.{FormulaTree, truth_at}
use Rattle.path_formula.specs.Kinds.{kind_of}
use Rattle.path_formula.specs.Solutions.{agrees, alone}
use Rattle.path_formula.specs.declared.kinds.Kind.TheVariants.{Constant}
use Rattle.path_cond.specs.Seen.{entry_holds, is_simple_on, meets, in_domain, is_broken, is_broken_kind}
use Rattle.path_formula.specs.Cases.{cases_of}
use Rattle.path_formula.specs.CaseCounts.{capped}
use Rattle.sn_ranges.specs.Sets.{ranges_where}
use Rattle.path_cond.specs.Kept.{is_inside_kind}
use Rattle.path_cond.specs.Occurring.{occurs_in, symbols_from}
use Rattle.path_cond.specs.Choices.{product, couples, coupled_symbols, entry_case_count, range_count, choice_count}
use Rattle.refutation_check.specs.Longer.{condition_of, pick_behind, pick_before, ConstantsAreFree}
use Rattle.refutation_check.specs.Seen.{holds_unless_outside, is_broken_outside, is_outside_kind}
use Rattle.refutation_check.proofs.Agreeing.{Agrees, turned, agree_throughout, refuted, met, undecided, undecided_same}

-- the law of formulas, as it is handed on
abbrev pub OneTruth : Type 0
OneTruth = (f : FormulaTree) (truth : Bool) (values : List ℕ) → kind_of f ≡ Constant truth → truth_at f values ≡ truth

agrees_itself : (b : Bool) → agrees b b ≡ true
agrees_itself true = refl
agrees_itself false = refl

times_one : (n : ℕ) → 1 * n ≡ n
times_one n = omega arith

-- One element more in a list

module _ {E : Type 0} (p : E → Bool) (e : E) where
  all_with : p e ≡ true → (xs ys : List E) → list_all p (xs ++ e ∷ ys) ≡ list_all p (xs ++ ys)
  all_with h [] ys = ap (λ b. b && list_all p ys) h
  all_with h (x ∷ xs) ys = ap (λ b. p x && b) (all_with h xs ys)

  any_with : p e ≡ false → (xs ys : List E) → list_any p (xs ++ e ∷ ys) ≡ list_any p (xs ++ ys)
  any_with h [] ys = ap (λ b. b || list_any p ys) h
  any_with h (x ∷ xs) ys = ap (λ b. p x || b) (any_with h xs ys)

product_with : {E : Type 0} (count : E → ℕ) (e : E) → count e ≡ 1 → (xs ys : List E) → product (map count (xs ++ e ∷ ys)) ≡ product (map count (xs ++ ys))
product_with count e h [] ys = ap (λ n. n * product (map count ys)) h ∙ times_one (product (map count ys))
product_with count e h (x ∷ xs) ys = ap (λ n. count x * n) (product_with count e h xs ys)

-- Places of the first element that passes a test

behind_low : (place n : ℕ) → n < place → n ≡ pick_behind place n
behind_low place n h = let low : nat_lt n place ≡ true = grind (arith, nat_tests) in ap (λ b. cond b n (suc n)) (sym low)

behind_high : (place n : ℕ) → place ≤ n → n + 1 ≡ pick_behind place n
behind_high place n h =
    let high : nat_lt n place ≡ false = grind (arith, nat_tests) in
    let next : n + 1 ≡ suc n = omega arith in
    next ∙ ap (λ b. cond b n (suc n)) (sym high)

before_low : (place n : ℕ) → n < place → n ≡ pick_before place n
before_low place n h = let low : nat_lt n place ≡ true = grind (arith, nat_tests) in ap (λ b. cond b n (n - 1)) (sym low)

before_high : (place n : ℕ) → place ≤ n → n ≡ pick_before place (n + 1)
before_high place n h =
    let high : nat_lt (n + 1) place ≡ false = grind (arith, nat_tests) in
    let back : n ≡ n + 1 - 1 = omega arith in
    back ∙ ap (λ b. cond b (n + 1) (n + 1 - 1)) (sym high)

found_by : (b : Bool) (to : ℕ → ℕ) (n m : ℕ) (o q : Option ℕ) → m ≡ to n → o ≡ option_map to q → cond b (Some m) o ≡ option_map to (cond b (Some n) q)
found_by true to n m o q h k = ap Some h
found_by false to n m o q h k = k

module _ {E : Type 0} (p : E → Bool) (place : ℕ) where
  later : (n : ℕ) (ys : List E) → place ≤ n → position_from p (n + 1) ys ≡ option_map (pick_behind place) (position_from p n ys)
  later n [] h = refl
  later n (y ∷ ys) h = found_by (p y) (pick_behind place) n (n + 1) (position_from p (n + 1 + 1) ys) (position_from p (n + 1) ys) (behind_high place n h) (later (n + 1) ys (omega (arith, h)))

  earlier : (n : ℕ) (ys : List E) → place ≤ n → position_from p n ys ≡ option_map (pick_before place) (position_from p (n + 1) ys)
  earlier n [] h = refl
  earlier n (y ∷ ys) h = found_by (p y) (pick_before place) (n + 1) n (position_from p (n + 1) ys) (position_from p (n + 1 + 1) ys) (before_high place n h) (earlier (n + 1) ys (omega (arith, h)))

  module _ (e : E) (off : p e ≡ false) where
    with_one : (n : ℕ) (xs ys : List E) → place ≡ n + length xs → position_from p n (xs ++ e ∷ ys) ≡ option_map (pick_behind place) (position_from p n (xs ++ ys))
    with_one n [] ys h = ap (λ b. cond b (Some n) (position_from p (n + 1) ys)) off ∙ later n ys (omega (arith, h))
    with_one n (x ∷ xs) ys h =
        found_by (p x) (pick_behind place) n n (position_from p (n + 1) (xs ++ e ∷ ys)) (position_from p (n + 1) (xs ++ ys)) (behind_low place n (omega (arith, h))) (with_one (n + 1) xs ys (omega (arith, h)))

    without_one : (n : ℕ) (xs ys : List E) → place ≡ n + length xs → position_from p n (xs ++ ys) ≡ option_map (pick_before place) (position_from p n (xs ++ e ∷ ys))
    without_one n [] ys h = earlier n ys (omega (arith, h)) ∙ ap (λ b. option_map (pick_before place) (cond b (Some n) (position_from p (n + 1) ys))) (sym off)
    without_one n (x ∷ xs) ys h =
        found_by (p x) (pick_before place) n n (position_from p (n + 1) (xs ++ ys)) (position_from p (n + 1) (xs ++ e ∷ ys)) (before_low place n (omega (arith, h))) (without_one (n + 1) xs ys (omega (arith, h)))

last_off : {E : Type 0} (p : E → Bool) (e : E) → p e ≡ false → (n : ℕ) (xs : List E) → position_from p n (xs ++ e ∷ []) ≡ position_from p n xs
last_off p e off n [] = ap (λ b. cond b (Some n) None) off
last_off p e off n (x ∷ xs) = ap (λ (o : Option ℕ). cond (p x) (Some n) o) (last_off p e off (n + 1) xs)

module _ {X : Type 0} (tree : X → FormulaTree) (law : OneTruth) (most : ℕ) (widths : List ℕ) (e : X × Bool) (is : kind_of (tree e.0) ≡ Constant e.1) where
  holds : (values : List ℕ) → entry_holds tree values e ≡ true
  holds values = ap (agrees e.1) (law (tree e.0) e.1 values is) ∙ agrees_itself e.1

  unless_outside : (values : List ℕ) → holds_unless_outside tree values e ≡ true
  unless_outside values = ap₂ (λ a b. a || b) (ap is_outside_kind is) (holds values)

  not_broken : is_broken tree e ≡ false
  not_broken = ap (is_broken_kind e.1) is ∙ ap not (agrees_itself e.1)

  not_outside : (values : List ℕ) → is_broken_outside tree values e ≡ false
  not_outside values = ap (λ k. is_outside_kind k && not (entry_holds tree values e)) is

  meets_all : (s : SymId) (values : List ℕ) → meets tree s values e ≡ true
  meets_all s values = ap (λ k. cond (is_simple_on s k) (entry_holds tree values e) true) is

  not_coupling : (s : SymId) → couples tree s e ≡ false
  not_coupling s = ap (λ k. is_inside_kind k && occurs_in s (tree e.0)) is

  one_case : entry_case_count tree e ≡ 1
  one_case = ap (λ k. cond (is_inside_kind k) (length (cases_of (tree e.0) e.1)) 1) is

  module _ (xs ys : List (X × Bool)) where
    domain_with : (s : SymId) (value : ℕ) → in_domain tree s (condition_of most widths (xs ++ e ∷ ys)) value ≡ in_domain tree s (condition_of most widths (xs ++ ys)) value
    domain_with s value = all_with (meets tree s (alone s value)) e (meets_all s (alone s value)) xs ys

    symbols_with : coupled_symbols tree (condition_of most widths (xs ++ e ∷ ys)) ≡ coupled_symbols tree (condition_of most widths (xs ++ ys))
    symbols_with = λ i. symbols_from (λ (s : SymId). any_with (couples tree s) e (not_coupling s) xs ys i) 0 (length widths)

    range_with : (s : SymId) → range_count tree (condition_of most widths (xs ++ e ∷ ys)) s ≡ range_count tree (condition_of most widths (xs ++ ys)) s
    range_with s = λ i. length (ranges_where (slice_index widths s.0) (λ value. domain_with s value i))

    choices_with : choice_count tree (condition_of most widths (xs ++ e ∷ ys)) ≡ choice_count tree (condition_of most widths (xs ++ ys))
    choices_with = λ i. capped (product_with (entry_case_count tree) e one_case xs ys i * product (map (λ (s : SymId). range_with s i) (symbols_with i)))

    satisfied_with : (values : List ℕ) → list_all (holds_unless_outside tree values) (xs ++ e ∷ ys) ≡ list_all (holds_unless_outside tree values) (xs ++ ys)
    satisfied_with values = all_with (holds_unless_outside tree values) e (unless_outside values) xs ys

    -- without it and with it
    agrees_with : Agrees tree tree (pick_behind (length xs)) (pick_before (length xs)) (condition_of most widths (xs ++ ys)) (condition_of most widths (xs ++ e ∷ ys))
    agrees_with =
        let here : length xs ≡ 0 + length xs = omega arith in
        record {
          widths_are = refl;
          broken_to = with_one (is_broken tree) (length xs) e not_broken 0 xs ys here;
          broken_from = without_one (is_broken tree) (length xs) e not_broken 0 xs ys here;
          domains_are = λ s value. sym (domain_with s value);
          coupled_are = ap length (sym symbols_with);
          choices_are = sym choices_with;
          most_are = refl;
          satisfied_are = λ values. sym (satisfied_with values);
          outside_to = λ values. with_one (is_broken_outside tree values) (length xs) e (not_outside values) 0 xs ys here;
          outside_from = λ values. without_one (is_broken_outside tree values) (length xs) e (not_outside values) 0 xs ys here;
        }

    with_agrees : Agrees tree tree (pick_before (length xs)) (pick_behind (length xs)) (condition_of most widths (xs ++ e ∷ ys)) (condition_of most widths (xs ++ ys))
    with_agrees = turned tree tree (pick_behind (length xs)) (pick_before (length xs)) (condition_of most widths (xs ++ ys)) (condition_of most widths (xs ++ e ∷ ys)) agrees_with

  -- at the end
  agrees_last : (xs : List (X × Bool)) → Agrees tree tree (λ n. n) (λ n. n) (condition_of most widths xs) (condition_of most widths (xs ++ e ∷ []))
  agrees_last xs =
      subst (λ (es : List (X × Bool)). Agrees tree tree (λ n. n) (λ n. n) (condition_of most widths es) (condition_of most widths (xs ++ e ∷ []))) (append-nil xs)
      (agree_throughout tree tree (condition_of most widths (xs ++ [])) (condition_of most widths (xs ++ e ∷ [])) refl
      (ap (position_from (is_broken tree) 0) (append-nil xs) ∙ sym (last_off (is_broken tree) e not_broken 0 xs))
      (λ s value. sym (domain_with xs [] s value)) (ap length (sym (symbols_with xs []))) (sym (choices_with xs [])) refl
      (λ values. sym (satisfied_with xs [] values))
      (λ values. ap (position_from (is_broken_outside tree values) 0) (append-nil xs) ∙ sym (last_off (is_broken_outside tree values) e (not_outside values) 0 xs)))

module _ {X : Type 0} (tree : X → FormulaTree) (law : OneTruth) where
  pub constants_are_free : ConstantsAreFree tree
  constants_are_free = record {
    refuted = λ most widths xs ys e is.
        let without = condition_of most widths (xs ++ ys) in
        let whole = condition_of most widths (xs ++ e ∷ ys) in (
          refuted tree tree (pick_before (length xs)) (pick_behind (length xs)) whole without (with_agrees tree law most widths e is xs ys),
          refuted tree tree (pick_behind (length xs)) (pick_before (length xs)) without whole (agrees_with tree law most widths e is xs ys),
        );
    met = λ most widths xs ys e values is.
        let without = condition_of most widths (xs ++ ys) in
        let whole = condition_of most widths (xs ++ e ∷ ys) in (
          met tree tree (pick_before (length xs)) (pick_behind (length xs)) whole without (with_agrees tree law most widths e is xs ys) values,
          met tree tree (pick_behind (length xs)) (pick_before (length xs)) without whole (agrees_with tree law most widths e is xs ys) values,
        );
    undecided = λ most widths xs ys e cause is h.
        undecided tree tree (pick_behind (length xs)) (pick_before (length xs)) (condition_of most widths (xs ++ ys)) (condition_of most widths (xs ++ e ∷ ys)) (agrees_with tree law most widths e is xs ys) cause h;
    undecided_without = λ most widths xs ys e cause is h.
        undecided tree tree (pick_before (length xs)) (pick_behind (length xs)) (condition_of most widths (xs ++ e ∷ ys)) (condition_of most widths (xs ++ ys)) (with_agrees tree law most widths e is xs ys) cause h;
    undecided_last = λ c e cause is.
        let a = agrees_last tree law c.most_choices c.widths e is c.entries in
        let longer = condition_of c.most_choices c.widths (c.entries ++ e ∷ []) in
        (undecided_same tree tree longer c (turned tree tree (λ n. n) (λ n. n) c longer a) cause, undecided_same tree tree c longer a cause);
  }
