-- Texts of counts.
use Rattle.std.proofs.Common.{◌≡◌, ℕ, refl, ap, arith}
use Rattle.std.specs.Prelude.{codes}
use Rattle.serde_json.specs.Data.{Data}
use Rattle.record_checks.specs.declared.counts.Confirmed.{Confirmed}
use Rattle.grow_command.specs.Summary.{summary_data, summary_text}
use Rattle.grow_command.specs.declared.counts.Counts.{Counts}
use Rattle.replay_command.specs.Counted.{confirmed_data, confirmed_text}
use Rattle.told_texts.specs.Ranges.{ConfirmedFits, SummaryFits}
use Rattle.told_texts.proofs.Lines.{IsGood, ReadsLines, count_good, object_good, one_good, same_told}
use Rattle.told_texts.proofs.Back.{member_back, number_back}

-- ---- of `replay`

abbrev confirmed_back : Data → Confirmed
confirmed_back d = record {
  sat = number_back (member_back (codes "sat") d);
  undecided = number_back (member_back (codes "undecided") d);
  pruned = number_back (member_back (codes "pruned") d);
  unexplored = number_back (member_back (codes "unexplored") d);
}

confirmed_is : (c : Confirmed) → ConfirmedFits c → confirmed_back (confirmed_data c) ≡ c
unfolding confirmed_data
confirmed_is c h = refl

confirmed_good : (c : Confirmed) → ConfirmedFits c → IsGood 1 (confirmed_data c)
unfolding confirmed_data
confirmed_good c h =
    object_good 0 _ refl (
      count_good 0 c.pruned h.pruned,
      (
        count_good 0 c.sat h.sat,
        (
          one_good 0,
          (
            count_good 0 c.undecided h.undecided,
            (count_good 0 c.unexplored h.unexplored, tt),
          ),
        ),
      ),
    )

pub confirmed_same : ReadsLines → (c d : Confirmed) → ConfirmedFits c → ConfirmedFits d → confirmed_text c ≡ confirmed_text d → c ≡ d
unfolding confirmed_text
confirmed_same lines c d h k same =
    same_told confirmed_data confirmed_back (λ x. x) ConfirmedFits 1 (omega arith) confirmed_good confirmed_is lines c d h k same

-- ---- of `grow`

-- the seed, the number of boxes and the counts
abbrev Summary : Type 0
Summary = ℕ × ℕ × Counts

abbrev Fits : Summary → Type 0
Fits s = SummaryFits s.0 s.1 s.2

abbrev shown : Summary → Data
shown s = summary_data s.0 s.1 s.2

abbrev summary_back : Data → Summary
summary_back d = (
  number_back (member_back (codes "seed") d),
  number_back (member_back (codes "nodes") d),
  record {
    stopped = number_back (member_back (codes "stopped") d);
    delivered = number_back (member_back (codes "delivered") d);
    failed = number_back (member_back (codes "failed") d);
    cut = number_back (member_back (codes "cut") d);
    sat = number_back (member_back (codes "sat") d);
    undecided = number_back (member_back (codes "undecided") d);
    pruned = number_back (member_back (codes "pruned") d);
    unexplored = number_back (member_back (codes "unexplored") d);
  },
)

summary_is : (s : Summary) → Fits s → summary_back (shown s) ≡ s
unfolding summary_data
summary_is s h = refl

summary_good : (s : Summary) → Fits s → IsGood 1 (shown s)
unfolding summary_data
summary_good s h =
    let c = s.2 in
    let k = h.counted in
    object_good 0 _ refl (
      count_good 0 c.cut k.cut,
      (
        count_good 0 c.delivered k.delivered,
        (
          count_good 0 c.failed k.failed,
          (
            count_good 0 s.1 h.few_boxes,
            (
              count_good 0 c.pruned k.pruned,
              (
                count_good 0 c.sat k.sat,
                (
                  count_good 0 s.0 h.low_seed,
                  (
                    count_good 0 c.stopped k.stopped,
                    (
                      one_good 0,
                      (
                        count_good 0 c.undecided k.undecided,
                        (count_good 0 c.unexplored k.unexplored, tt),
                      ),
                    ),
                  ),
                ),
              ),
            ),
          ),
        ),
      ),
    )

same_summary : ReadsLines → (s t : Summary) → Fits s → Fits t → summary_text s.0 s.1 s.2 ≡ summary_text t.0 t.1 t.2 → s ≡ t
unfolding summary_text
same_summary lines s t h k same = same_told shown summary_back (λ x. x) Fits 1 (omega arith) summary_good summary_is lines s t h k same

pub summary_same : ReadsLines → (seed boxes again more : ℕ) (a b : Counts) → SummaryFits seed boxes a → SummaryFits again more b
    → summary_text seed boxes a ≡ summary_text again more b → (seed ≡ again) × (boxes ≡ more) × (a ≡ b)
summary_same lines seed boxes again more a b h k same =
    let is : (let s : Summary = (seed, boxes, a) in s) ≡ (again, more, b) = same_summary lines (seed, boxes, a) (again, more, b) h k same in
    (ap (λ (s : Summary). s.0) is, ap (λ (s : Summary). s.1) is, ap (λ (s : Summary). s.2) is)
