-- Texts of comparisons.
use Rattle.std.proofs.Common.{◌≡◌, ℕ, List, [], ◌∷◌, true, false, Option, Some, None, refl, ap, arith}
use Rattle.std.specs.Prelude.{bytes_eq, codes, if◌then◌else◌, option_map, unwrap_or}
use Rattle.serde_json.specs.Data.{Data}
use Rattle.compare_meaning.specs.Comparing.{Comparison, same, other, unknown}
use Rattle.compare_command.specs.Texts.{Cuts, compared_data, compared_text, partial_data, partial_text}
use Rattle.told_texts.specs.Compared.{ComparisonFits, CutsFit}
use Rattle.told_texts.proofs.Lines.{IsGood, ReadsLines, count_good, object_good, one_good, same_told, text_good, values_good}
use Rattle.told_texts.proofs.Back.{counts_is, member_back, number_back, numbers_back, text_back, values_is}
use Rattle.told_texts.proofs.Replies.{counts_good}

-- what is said: how many paths are cut, and an answer
abbrev Said : Type 0
Said = Cuts × Comparison

-- this, or that some decision was not tried
abbrev shown : Option Said → Data
shown None = partial_data
shown (Some c) = compared_data c.0 c.1

abbrev Fits : Option Said → Type 0
Fits None = Unit {0}
Fits (Some c) = CutsFit c.0 × ComparisonFits c.1

abbrev cuts_by : List ℕ → Cuts
cuts_by [] = None
cuts_by (l ∷ []) = None
cuts_by (l ∷ r ∷ []) = Some (l, r)
cuts_by (l ∷ r ∷ n ∷ ns) = None

abbrev cuts_back : Data → Cuts
cuts_back d = cuts_by (numbers_back (member_back (codes "cut") d))

abbrev answer_by : List ℕ → Data → Option Comparison
answer_by s d =
    if bytes_eq s (codes "same") then Some same
    else (if bytes_eq s (codes "other") then Some (other (bytes_eq (text_back (member_back (codes "side") d)) (codes "left")) (number_back (member_back (codes "number") d))
    (numbers_back (member_back (codes "values") d)))
    else (if bytes_eq s (codes "unknown") then Some (unknown (numbers_back (member_back (codes "left") d)) (numbers_back (member_back (codes "right") d))) else None))

abbrev answer_back : Data → Option Said
answer_back d = option_map (λ c. (cuts_back d, c)) (answer_by (text_back (member_back (codes "answer") d)) d)

answer_is : (c : Option Said) → Fits c → answer_back (shown c) ≡ c
unfolding partial_data
answer_is None h = refl
answer_is (Some (None, same)) h = refl
answer_is (Some (None, other true number values)) h = λ i. Some (None, other true number (values_is values h.1.1 i))
answer_is (Some (None, other false number values)) h = λ i. Some (None, other false number (values_is values h.1.1 i))
answer_is (Some (None, unknown lefts rights)) h = λ i. Some (None, unknown (counts_is lefts h.1.0 i) (counts_is rights h.1.1 i))
answer_is (Some (Some (l, r), same)) h = λ i. Some (cuts_by (counts_is (l ∷ r ∷ []) h.0 i), same)
answer_is (Some (Some (l, r), other true number values)) h =
    λ i. Some (cuts_by (counts_is (l ∷ r ∷ []) h.0 i), other true number (values_is values h.1.1 i))
answer_is (Some (Some (l, r), other false number values)) h =
    λ i. Some (cuts_by (counts_is (l ∷ r ∷ []) h.0 i), other false number (values_is values h.1.1 i))
answer_is (Some (Some (l, r), unknown lefts rights)) h =
    λ i. Some (cuts_by (counts_is (l ∷ r ∷ []) h.0 i), unknown (counts_is lefts h.1.0 i) (counts_is rights h.1.1 i))

answer_good : (c : Option Said) → Fits c → IsGood 2 (shown c)
unfolding partial_data
answer_good None h = object_good 1 _ refl (text_good 1 (codes "partial"), (one_good 1, tt))
answer_good (Some (None, same)) h = object_good 1 _ refl (text_good 1 (codes "same"), (one_good 1, tt))
answer_good (Some (None, other left number values)) h =
    object_good 1 _ refl (text_good 1 (codes "other"), (count_good 1 number h.1.0, (text_good 1 _, (one_good 1, (values_good 0 values, tt)))))
answer_good (Some (None, unknown lefts rights)) h =
    object_good 1 _ refl (text_good 1 (codes "unknown"), (counts_good lefts h.1.0, (counts_good rights h.1.1, (one_good 1, tt))))
answer_good (Some (Some (l, r), same)) h = object_good 1 _ refl (text_good 1 (codes "same"), (counts_good (l ∷ r ∷ []) h.0, (one_good 1, tt)))
answer_good (Some (Some (l, r), other left number values)) h =
    object_good 1 _ refl (
      text_good 1 (codes "other"),
      (counts_good (l ∷ r ∷ []) h.0, (count_good 1 number h.1.0, (text_good 1 _, (one_good 1, (values_good 0 values, tt))))),
    )
answer_good (Some (Some (l, r), unknown lefts rights)) h =
    object_good 1 _ refl
    (text_good 1 (codes "unknown"), (counts_good (l ∷ r ∷ []) h.0, (counts_good lefts h.1.0, (counts_good rights h.1.1, (one_good 1, tt)))))

abbrev line_of : Option Said → List ℕ
line_of None = partial_text
line_of (Some c) = compared_text c.0 c.1

line_same : ReadsLines → (c d : Option Said) → Fits c → Fits d → line_of c ≡ line_of d → c ≡ d
unfolding compared_text partial_text
line_same lines None None h k e = refl
line_same lines None (Some d) h k e = same_told shown answer_back (λ x. x) Fits 2 (omega arith) answer_good answer_is lines None (Some d) h k e
line_same lines (Some c) None h k e = same_told shown answer_back (λ x. x) Fits 2 (omega arith) answer_good answer_is lines (Some c) None h k e
line_same lines (Some c) (Some d) h k e = same_told shown answer_back (λ x. x) Fits 2 (omega arith) answer_good answer_is lines (Some c) (Some d) h k e

pub compared_same : ReadsLines → (k m : Cuts) (c d : Comparison) → CutsFit k → CutsFit m → ComparisonFits c → ComparisonFits d
    → compared_text k c ≡ compared_text m d → (k ≡ m) × (c ≡ d)
compared_same lines k m c d one two h j e =
    let equal = line_same lines (Some (k, c)) (Some (m, d)) (one, h) (two, j) e in
    (ap (λ (o : Option Said). (unwrap_or o (k, c)).0) equal, ap (λ (o : Option Said). (unwrap_or o (k, c)).1) equal)

none_some : (c : Said) → Some c ≡ None → ⊥
none_some c e = cc e

pub compared_whole : ReadsLines → (k : Cuts) (c : Comparison) → CutsFit k → ComparisonFits c → compared_text k c ≡ partial_text → ⊥
compared_whole lines k c one h e = none_some (k, c) (line_same lines (Some (k, c)) None (one, h) tt e)
