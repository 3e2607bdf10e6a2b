-- Texts of loops.
use Rattle.std.proofs.Common.{◌≡◌, ◌<◌, ◌^◌, ℕ, List, [], map, refl, arith}
use Rattle.std.specs.Prelude.{bytes_eq, codes, if◌then◌else◌}
use Rattle.std.specs.List.{AllByRecursion}
use Rattle.serde_json.specs.Data.{Data}
use Rattle.run_text.specs.Forms.{count}
use Rattle.refutation_check.specs.declared.outcome.Cause.{Cause}
use Rattle.refutation_check.specs.declared.outcome.Cause.TheVariants.{Outside, Cases, Coupled}
use Rattle.loop_meaning.specs.declared.answer.Differ.{Differ}
use Rattle.loop_meaning.specs.declared.answer.LoopAnswer.{LoopAnswer}
use Rattle.loop_meaning.specs.declared.answer.Why.{Why}
use Rattle.loop_meaning.specs.declared.answer.Why.TheVariants.{Choice, Layout, Cell, Unknown}
use Rattle.loops_command.specs.declared.text.OpenPaths.{OpenPaths}
use Rattle.loops_command.specs.declared.text.OpenPaths.TheVariants.{Numbers, Visits}
use Rattle.loops_command.specs.Texts.{cause_word, found_data, loop_data, loop_list_data, loops_in, loops_text, open_data, open_in, open_list_data, visit_data, visit_list_data, why_data}
use Rattle.told_texts.specs.Loops.{FoundFits, LoopFits, OpenFits, VisitFits, WhyFits, cause_told, loops_told, open_told, visit_told, why_told}
use Rattle.told_texts.proofs.Lines.{IsGood, ReadsLines, count_good, deeper, list_good, object_good, one_good, same_told, text_good, values_good}
use Rattle.told_texts.proofs.Back.{all_back, list_back, member_back, number_back, numbers_back, text_back, told_back, values_is}

-- the loops, and the paths without one
abbrev Found : Type 0
Found = List (ℕ × ℕ) × List (ℕ × List Differ)

abbrev loop_back : Data → ℕ × ℕ
loop_back d = (number_back (member_back (codes "first") d), number_back (member_back (codes "number") d))

abbrev cause_back : List ℕ → Cause
cause_back s = if bytes_eq s (codes "outside") then Outside 0 [] else (if bytes_eq s (codes "cases") then Cases 0 else Coupled 0)

abbrev why_by : List ℕ → Data → Why
why_by s d =
    if bytes_eq s (codes "choice") then Choice
    else (if bytes_eq s (codes "layout") then Layout
    else (if bytes_eq s (codes "cell") then Cell (numbers_back (member_back (codes "values") d)) else Unknown (cause_back (text_back (member_back (codes "cause") d)))))

abbrev visit_back : Data → Differ
visit_back d = record { place = number_back (member_back (codes "place") d); why = why_by (text_back (member_back (codes "why") d)) d }

abbrev open_back : OpenPaths → Data → ℕ × List Differ
open_back Numbers d = (number_back d, [])
open_back Visits d = (number_back (member_back (codes "number") d), list_back visit_back (member_back (codes "visits") d))

abbrev found_back : OpenPaths → Data → Found
found_back detail d = (list_back loop_back (member_back (codes "loops") d), list_back (open_back detail) (member_back (codes "open") d))

cause_is : (c : Cause) → cause_back (cause_word c) ≡ cause_told c
cause_is (Outside pick values) = refl
cause_is (Cases count) = refl
cause_is (Coupled count) = refl

visit_by : (place : ℕ) (w : Why) → WhyFits w → visit_back (why_data place w) ≡ record { place = place; why = why_told w }
visit_by place Choice h = refl
visit_by place Layout h = refl
visit_by place (Cell values) h = λ i. record { place = place; why = Cell (values_is values h i) }
visit_by place (Unknown cause) h = λ i. record { place = place; why = Unknown (cause_is cause i) }

visit_is : (d : Differ) → VisitFits d → visit_back (visit_data d) ≡ visit_told d
visit_is d h = visit_by d.place d.why h.1

visits_is : (ds : List Differ) → AllByRecursion VisitFits ds → list_back visit_back (visit_list_data ds) ≡ map visit_told ds
unfolding visit_list_data
visits_is ds h = told_back visit_data visit_back visit_told VisitFits visit_is ds h

open_is : (detail : OpenPaths) (o : ℕ × List Differ) → OpenFits o → open_back detail (open_data detail o) ≡ open_told detail o
open_is Numbers o h = refl
open_is Visits o h = λ i. (o.0, visits_is o.1 h.1 i)

loop_is : (l : ℕ × ℕ) → LoopFits l → loop_back (loop_data l) ≡ l
loop_is l h = refl

loops_is : (ls : List (ℕ × ℕ)) → AllByRecursion LoopFits ls → list_back loop_back (loop_list_data ls) ≡ ls
unfolding loop_list_data
loops_is ls h = all_back loop_data loop_back LoopFits loop_is ls h

opens_is : (detail : OpenPaths) (os : List (ℕ × List Differ)) → AllByRecursion OpenFits os
    → list_back (open_back detail) (open_list_data detail os) ≡ map (open_told detail) os
unfolding open_list_data
opens_is detail os h = told_back (open_data detail) (open_back detail) (open_told detail) OpenFits (open_is detail) os h

abbrev shown : OpenPaths → List (ℕ × LoopAnswer) → Data
shown detail found = found_data detail (loops_in found) (open_in found)

found_is : (detail : OpenPaths) (found : List (ℕ × LoopAnswer)) → FoundFits found → found_back detail (shown detail found) ≡ loops_told detail found
unfolding found_data
found_is detail found h = λ i. (loops_is (loops_in found) h.0 i, opens_is detail (open_in found) h.1 i)

-- ---- what is written

loop_good : (l : ℕ × ℕ) → LoopFits l → IsGood 1 (loop_data l)
loop_good l h = object_good 0 _ refl (count_good 0 l.0 h.0, (count_good 0 l.1 h.1, tt))

why_good : (place : ℕ) (w : Why) → place < 2 ^ 64 → IsGood 2 (why_data place w)
why_good place Choice low = object_good 1 _ refl (count_good 1 place low, (text_good 1 (codes "choice"), tt))
why_good place Layout low = object_good 1 _ refl (count_good 1 place low, (text_good 1 (codes "layout"), tt))
why_good place (Cell values) low = object_good 1 _ refl (count_good 1 place low, (values_good 0 values, (text_good 1 (codes "cell"), tt)))
why_good place (Unknown cause) low =
    object_good 1 _ refl (text_good 1 (cause_word cause), (count_good 1 place low, (text_good 1 (codes "unknown"), tt)))

visit_good : (d : Differ) → VisitFits d → IsGood 2 (visit_data d)
visit_good d h = why_good d.place d.why h.0

visits_good : (ds : List Differ) → AllByRecursion VisitFits ds → IsGood 3 (visit_list_data ds)
unfolding visit_list_data
visits_good ds h = list_good visit_data VisitFits 2 visit_good ds h

open_good : (detail : OpenPaths) (o : ℕ × List Differ) → OpenFits o → IsGood 4 (open_data detail o)
open_good Numbers o h = count_good 4 o.0 h.0
open_good Visits o h = object_good 3 _ refl (count_good 3 o.0 h.0, (visits_good o.1 h.1, tt))

loops_good : (ls : List (ℕ × ℕ)) → AllByRecursion LoopFits ls → IsGood 2 (loop_list_data ls)
unfolding loop_list_data
loops_good ls h = list_good loop_data LoopFits 1 loop_good ls h

opens_good : (detail : OpenPaths) (os : List (ℕ × List Differ)) → AllByRecursion OpenFits os → IsGood 5 (open_list_data detail os)
unfolding open_list_data
opens_good detail os h = list_good (open_data detail) OpenFits 4 (open_good detail) os h

found_good : (detail : OpenPaths) (found : List (ℕ × LoopAnswer)) → FoundFits found → IsGood 6 (shown detail found)
unfolding found_data
found_good detail found h =
    object_good 5 _ refl (deeper 2 5 _ (omega arith) (loops_good (loops_in found) h.0), (opens_good detail (open_in found) h.1, (one_good 5, tt)))

pub loops_same : ReadsLines → (detail : OpenPaths) (a b : List (ℕ × LoopAnswer)) → FoundFits a → FoundFits b → loops_text detail a ≡ loops_text detail b
    → loops_told detail a ≡ loops_told detail b
unfolding loops_text
loops_same lines detail a b h k same =
    same_told (shown detail) (found_back detail) (loops_told detail) FoundFits 6 (omega arith) (found_good detail) (found_is detail) lines a b h k same
