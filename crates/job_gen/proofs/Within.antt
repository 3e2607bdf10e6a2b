-- Cuts lie in their spans, and a box's span is a part of its parent's.
use Rattle.std.proofs.Common.{◌≡◌, refl, ap, ℕ, zero, suc, ◌+◌, ◌/◌, ◌%◌, ◌^◌, ◌==◌, ◌<◌, ◌≤◌, if◌then◌else◌, Bool, true, false, arith}
use Rattle.std.proofs.lemmas.Nat.{mod_below}
use Rattle.job_gen.specs.declared.split.Span.{Span}
use Rattle.job_gen.specs.declared.split.Split.{Split}
use Rattle.job_gen.specs.Splits.{IsWithin, drawn, lower, part, remainder, span_of, span_within, split_at, split_of, upper}

pub remainder_small : (n by : ℕ) → remainder n by ≤ by
remainder_small n zero = omega arith
remainder_small n (suc by) = let below : n % suc by < suc by = mod_below n (suc by) (omega arith) in omega (arith, below)

pub cut_within : (drawn : ℕ) (span : Span) → span.first + span.size ≤ 2 ^ 32 → IsWithin (split_at drawn span)
cut_within drawn span bounded =
    let small = remainder_small drawn (span.size / 2) in
    record {
      from = omega arith;
      to = omega (arith, small);
      bounded = bounded;
    }

pub chosen_within : (parent : Split) → IsWithin parent → (is_lower : Bool)
    → (if is_lower then lower parent else upper parent).first + (if is_lower then lower parent else upper parent).size ≤ 2 ^ 32
chosen_within parent w true = omega (arith, w.from, w.to, w.bounded)
chosen_within parent w false = omega (arith, w.from, w.to, w.bounded)

-- a part of a split whose cut lies in it stays among the addresses
pub part_within : (box : ℕ) (parent : Split) → IsWithin parent → (part box parent).first + (part box parent).size ≤ 2 ^ 32
part_within box parent w = chosen_within parent w (box % 2 == 1)

pub span_bounded : (seed depth box : ℕ) → (span_within seed depth box).first + (span_within seed depth box).size ≤ 2 ^ 32
span_bounded seed depth zero = omega arith
span_bounded seed zero (suc j) = omega arith
span_bounded seed (suc depth) (suc j) = part_within (suc j) (split_at (drawn seed (j / 2)) (span_within seed depth (j / 2))) (cut_within (drawn seed (j / 2)) (span_within seed depth (j / 2)) (span_bounded seed depth (j / 2)))

pub all_within : (seed box : ℕ) → IsWithin (split_of seed box)
all_within seed box = cut_within (drawn seed box) (span_of seed box) (span_bounded seed box box)

-- more depth than a box has changes nothing
pub depth_free : (seed m box k : ℕ) → box ≤ m → box ≤ k → span_within seed m box ≡ span_within seed k box
depth_free seed m zero k a b = refl
depth_free seed zero (suc j) k a b = absurd (omega (arith, a))
depth_free seed (suc m) (suc j) zero a b = absurd (omega (arith, b))
depth_free seed (suc m) (suc j) (suc k) a b =
    let below : j / 2 ≤ m = omega (arith, a) in
    let within : j / 2 ≤ k = omega (arith, b) in
    ap (λ s. part (suc j) (split_at (drawn seed (j / 2)) s)) (depth_free seed m (j / 2) k below within)

pub span_next : (seed j : ℕ) → span_of seed (suc j) ≡ part (suc j) (split_of seed (j / 2))
span_next seed j =
    let below : j / 2 ≤ j = omega arith in
    let same : j / 2 ≤ j / 2 = omega arith in
    ap (λ s. part (suc j) (split_at (drawn seed (j / 2)) s)) (depth_free seed j (j / 2) (j / 2) below same)
