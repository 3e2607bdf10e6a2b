-- Texts of answers.
use Rattle.std.proofs.Common.{◌≡◌, ◌<◌, ◌^◌, ℕ, List, Option, Some, None, refl, sym, ap, ◌∙◌, arith}
use Rattle.std.specs.Prelude.{bytes_eq, codes, if◌then◌else◌}
use Rattle.serde_json.specs.Data.{Data}
use Rattle.serde_json.specs.Find.{get}
use Rattle.run_text.specs.Forms.{count}
use Rattle.queries.specs.Answers.{Reply, yes, no, unknown}
use Rattle.ask_command.specs.Texts.{answers_data, answers_text, counts_data, decided_data, replies_data, reply_data}
use Rattle.told_texts.specs.Ranges.{AllFit, Fit64, ReplyFits, number_of_hit}
use Rattle.told_texts.proofs.Lines.{IsGood, ReadsLines, count_good, list_good, object_good, one_good, same_told, text_good, values_good}
use Rattle.told_texts.proofs.Back.{all_back, counts_is, list_back, member_back, number_back, numbers_back, text_back, values_is}

pub counts_good : (ns : List ℕ) → Fit64 ns → IsGood 1 (counts_data ns)
unfolding counts_data
counts_good ns h = list_good count (λ n. n < 2 ^ 64) 0 (count_good 0) ns h

abbrev hit_back : Option Data → Data → Option (ℕ × List ℕ)
hit_back None d = None
hit_back (Some values) d = Some (number_back (member_back (codes "number") d), numbers_back values)

abbrev reply_by : List ℕ → Data → Reply
reply_by s d =
    if bytes_eq s (codes "yes") then yes (hit_back (get (codes "values") d) d)
    else (if bytes_eq s (codes "no") then no (hit_back (get (codes "values") d) d) else unknown (numbers_back (member_back (codes "numbers") d)))

abbrev reply_back : Data → Reply
reply_back d = reply_by (text_back (member_back (codes "answer") d)) d

reply_is : (r : Reply) → ReplyFits r → reply_back (reply_data r) ≡ r
reply_is (yes None) h = refl
reply_is (yes (Some hit)) h = λ i. yes (Some (hit.0, values_is hit.1 h.1 i))
reply_is (no None) h = refl
reply_is (no (Some hit)) h = λ i. no (Some (hit.0, values_is hit.1 h.1 i))
reply_is (unknown numbers) h = ap unknown (counts_is numbers h.0)

decided_good : (word : List ℕ) (hit : Option (ℕ × List ℕ)) → Fit64 (number_of_hit hit) → IsGood 2 (decided_data word hit)
decided_good word None h = object_good 1 _ refl (text_good 1 word, tt)
decided_good word (Some hit) h = object_good 1 _ refl (text_good 1 word, (count_good 1 hit.0 h.0, (values_good 0 hit.1, tt)))

reply_good : (r : Reply) → ReplyFits r → IsGood 2 (reply_data r)
reply_good (yes hit) h = decided_good (codes "yes") hit h.0
reply_good (no hit) h = decided_good (codes "no") hit h.0
reply_good (unknown numbers) h = object_good 1 _ refl (text_good 1 (codes "unknown"), (counts_good numbers h.0, tt))

abbrev answers_back : Data → List Reply
answers_back d = list_back reply_back (member_back (codes "answers") d)

answers_is : (rs : List Reply) → AllFit rs → answers_back (answers_data rs) ≡ rs
unfolding answers_data replies_data
answers_is rs h = all_back reply_data reply_back ReplyFits reply_is rs h

answers_good : (rs : List Reply) → AllFit rs → IsGood 4 (answers_data rs)
unfolding answers_data replies_data
answers_good rs h = object_good 3 _ refl (list_good reply_data ReplyFits 2 reply_good rs h, (one_good 3, tt))

pub answers_same : ReadsLines → (a b : List Reply) → AllFit a → AllFit b → answers_text a ≡ answers_text b → a ≡ b
unfolding answers_text
answers_same lines a b h k same = same_told answers_data answers_back (λ x. x) AllFit 4 (omega arith) answers_good answers_is lines a b h k same

pub answers_told : ReadsLines → (whole : List ℕ) (a b : List Reply) → AllFit a → AllFit b → whole ≡ answers_text a → whole ≡ answers_text b → a ≡ b
answers_told lines whole a b h k e f = answers_same lines a b h k (sym e ∙ f)
