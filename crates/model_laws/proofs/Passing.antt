-- The condition of a pattern is true where the packet passes the pattern.
use Rattle.std.proofs.Common.{◌≡◌, ◌∙◌, refl, sym, ap, ℕ, ◌%◌, ◌^◌, ◌==◌, ◌&&◌, ◌||◌, nat_le, nat_eq, Bool, true, false, List, [], ◌∷◌, ◌++◌, Result, Ok, Err, arith}
use Rattle.std.specs.List.{list_all}
use Rattle.sn_ranges.specs.Ranges.{is_member, in_range}
use Rattle.sn_width.specs.declared.faults.LayoutFault.{LayoutFault}
use Rattle.sefl_syntax.specs.Trees.{CondTree}
use Rattle.sefl_syntax.specs.Views.{conds_of}
use Rattle.click_elements.specs.declared.class.Primitive.{Primitive}
use Rattle.click_elements.specs.declared.class.Primitive.TheVariants.{All, Host, Net, Protocol, Port}
use Rattle.table_nodes.specs.declared.field.Field.{Field}
use Rattle.table_nodes.specs.declared.field.Field.TheVariants as field
use Rattle.table_nodes.specs.Fields.{cell}
use Rattle.click_elements.specs.Patterns.{address_field, all_tests, equals, is_ported, joined, pattern_test, port_field, tests_of, within}
use Rattle.cell_stacks.specs.Outcome.{and_then, on_ok}
use Rattle.job_items.specs.AtomRules.{width_of}
use Rattle.sefl_meaning.specs.Values.{numbers}
use Rattle.sefl_meaning.specs.Carried.{Carried, Scene}
use Rattle.sefl_meaning.specs.Terms.{truth_in, truths_in}
use Rattle.model_laws.specs.Passing.{both, has_number, has_ports, lies_between, passes, passes_one, read}

abbrev Truth : Type 0
Truth = Result Bool LayoutFault

-- ---- results

and_then_ok : {A B : Type 0} (f : A → B) (r : Result A LayoutFault) → ◌≡◌ {A = Result B LayoutFault} (and_then r (λ x. Ok (f x))) (on_ok f r)
and_then_ok f (Ok x) = refl
and_then_ok f (Err fault) = refl

and_true : (b : Bool) → b && true ≡ b
and_true true = refl
and_true false = refl

pub or_false : (b : Bool) → b || false ≡ b
or_false true = refl
or_false false = refl

and_assoc : (a b c : Bool) → a && (b && c) ≡ (a && b) && c
and_assoc true b c = refl
and_assoc false b c = refl

gathered : (b : Bool) (r : Result (List Bool) LayoutFault) → on_ok (list_all (λ t. t)) (on_ok (λ ts. b ∷ ts) r) ≡ on_ok (λ t. b && t) (on_ok (list_all (λ t. t)) r)
gathered b (Ok ts) = refl
gathered b (Err fault) = refl

module _ (v : List ℕ) (unknowns : ℕ) (at : Scene) (s : Carried ℕ) where
  both_with_true : (r : Truth) → r ≡ both at r (Ok true)
  both_with_true (Ok b) = ap Ok (sym (and_true b))
  both_with_true (Err fault) = refl

  both_assoc : (one two three : Truth) → both at one (both at two three) ≡ both at (both at one two) three
  both_assoc (Ok a) (Ok b) (Ok c) = ap Ok (and_assoc a b c)
  both_assoc (Ok a) (Ok b) (Err fault) = refl
  both_assoc (Ok a) (Err fault) three = refl
  both_assoc (Err fault) two three = refl

  abbrev truth : CondTree → Truth
  truth c = truth_in (numbers v unknowns) at c s

  -- all of these conditions, each asked
  abbrev all_true : List CondTree → Truth
  all_true [] = Ok true
  all_true (c ∷ cs) = both at (truth c) (all_true cs)

  all_is : (cs : List CondTree) → on_ok (list_all (λ t. t)) (truths_in (numbers v unknowns) at (conds_of cs) s) ≡ all_true cs
  all_is [] = refl
  all_is (c ∷ cs) = by (truth c) (all_is cs)
    where
      by : (r : Truth) → on_ok (list_all (λ t. t)) (truths_in (numbers v unknowns) at (conds_of cs) s) ≡ all_true cs
          → on_ok (list_all (λ t. t)) (and_then r (λ b. on_ok (λ ts. b ∷ ts) (truths_in (numbers v unknowns) at (conds_of cs) s))) ≡ both at r (all_true cs)
      by (Ok b) rest = gathered b (truths_in (numbers v unknowns) at (conds_of cs) s) ∙ ap (on_ok (λ t. b && t)) rest
      by (Err fault) rest = refl

  joined_is : (cs : List CondTree) → truth (joined cs) ≡ all_true cs
  joined_is [] = refl
  joined_is (c ∷ []) = both_with_true (truth c)
  joined_is (c ∷ d ∷ cs) = all_is (c ∷ d ∷ cs)

  -- ---- primitives

  equals_is : (f : Field) (n : ℕ) → truth (equals f n) ≡ has_number at f n s
  equals_is f n = and_then_ok (λ m. nat_eq m (n % 2 ^ width_of (cell f))) (read at (cell f) s)

  one_range : (first last m : ℕ) → is_member ((first, last) ∷ []) m ≡ nat_le first m && nat_le m last
  unfolding is_member in_range
  one_range first last m = or_false (nat_le first m && nat_le m last)

  pub within_is : (f : Field) (first last : ℕ) → truth (within f first last) ≡ lies_between at f first last s
  within_is f first last = λ i. on_ok (λ m. one_range first last m i) (read at (cell f) s)

  le_antisymmetric : (m n : ℕ) → nat_le n m && nat_le m n ≡ (m == n)
  le_antisymmetric m n = grind arith

  two_ranges : (m : ℕ) → is_member ((6, 6) ∷ (17, 17) ∷ []) m ≡ (m == 6) || (m == 17)
  unfolding is_member in_range
  two_ranges m = λ i. le_antisymmetric m 6 i || (or_false (nat_le 17 m && nat_le m 17) ∙ le_antisymmetric m 17) i

  pub ported_is : truth is_ported ≡ has_ports at s
  ported_is = λ i. on_ok (λ m. two_ranges m i) (read at (cell field.Protocol) s)

  tests_are : (p : Primitive) (cs : List CondTree) → all_true (tests_of p ++ cs) ≡ both at (passes_one at p s) (all_true cs)
  tests_are All cs = refl
  tests_are (Host direction address) cs = ap (λ t. both at t (all_true cs)) (equals_is (address_field direction) address)
  tests_are (Net direction first last) cs = ap (λ t. both at t (all_true cs)) (within_is (address_field direction) first last)
  tests_are (Protocol number) cs = ap (λ t. both at t (all_true cs)) (equals_is field.Protocol number)
  tests_are (Port direction port) cs =
      (λ i. both at (ported_is i) (both at (equals_is (port_field direction) port i) (all_true cs)))
      ∙ both_assoc (has_ports at s) (has_number at (port_field direction) port s) (all_true cs)

  all_are : (ps : List Primitive) → all_true (all_tests ps) ≡ passes at ps s
  all_are [] = refl
  all_are (p ∷ ps) = tests_are p (all_tests ps) ∙ ap (both at (passes_one at p s)) (all_are ps)

  pub pattern_is : (ps : List Primitive) → truth (pattern_test ps) ≡ passes at ps s
  pattern_is ps = joined_is (all_tests ps) ∙ all_are ps
