-- The tests of the fields, one after another.
use Rattle.std.proofs.Common.{◌≡◌, ◌∙◌, refl, sym, ap, ℕ, zero, suc, ◌<◌, List, [], ◌∷◌, ◌++◌, append_assoc, drop, get_or, length, arith}
use Rattle.sefl_syntax.specs.Trees.{CondTree}
use Rattle.table_nodes.specs.declared.field.Field.{Field}
use Rattle.acl_rules.specs.Packets.{Range}
use Rattle.acl_model.specs.Nodes.{range_test, range_tests}

-- the tests from a place on are its own, and those from the next place on
next_test : (fs : List Field) (rs : List Range) (i : ℕ) (f : Field) (r : Range) → i < length fs → i < length rs
    → range_tests (drop i fs) (drop i rs) ≡ range_test (get_or fs i f) (get_or rs i r) ∷ range_tests (drop (suc i) fs) (drop (suc i) rs)
next_test [] rs i f r h k = absurd (omega (arith, h))
next_test (g ∷ fs) [] i f r h k = absurd (omega (arith, k))
next_test (g ∷ fs) (s ∷ rs) zero f r h k = refl
next_test (g ∷ fs) (s ∷ rs) (suc i) f r h k = next_test fs rs i f r (omega (arith, h)) (omega (arith, k))

-- what was written, with one test more, and what is left behind it
pub one_more : (fs : List Field) (rs : List Range) (i j : ℕ) (f : Field) (r : Range) (all old whole : List CondTree) (test : CondTree)
    → i < length fs → i < length rs → j ≡ suc i → all ≡ old ++ test ∷ [] → test ≡ range_test (get_or fs i f) (get_or rs i r)
    → old ++ range_tests (drop i fs) (drop i rs) ≡ whole → all ++ range_tests (drop j fs) (drop j rs) ≡ whole
one_more fs rs i j f r all old whole test h k next written is known =
    (λ n. written n ++ range_tests (drop (next n) fs) (drop (next n) rs))
    ∙ append_assoc old (test ∷ []) (range_tests (drop (suc i) fs) (drop (suc i) rs))
    ∙ ap (λ t. old ++ t ∷ range_tests (drop (suc i) fs) (drop (suc i) rs)) is
    ∙ ap (λ ts. old ++ ts) (sym (next_test fs rs i f r h k)) ∙ known
