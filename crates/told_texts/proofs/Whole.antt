-- Where no decision was left untried, numbers and counts of records are within the limit.
use Rattle.std.proofs.Common.{◌≡◌, ◌<◌, ◌≤◌, ◌+◌, ◌^◌, ◌⊎◌, inl, inr, ℕ, suc, List, [], ◌∷◌, ◌++◌, length, Bool, true, false, refl, sym, ap, subst, arith, length-append}
use Rattle.std.specs.List.{AllByRecursion}
use Rattle.sefl_syntax.specs.Trees.{AskTree}
use Rattle.net_check.specs.Network.{Network, Entry}
use Rattle.exact_records.specs.Exact.{IsCutOff, IsTried, IsUnexplored, IsWhole}
use Rattle.exact_records.specs.Packets.{AreExactFor}
use Rattle.exact_records.specs.Records.{RecordTree, SymStart}
use Rattle.path_questions.specs.Answers.{IsRight}
use Rattle.path_questions.specs.Questions.{Question, reach, invariant, visible}
use Rattle.path_questions.specs.Telling.{AreOpenBy, IsFirstHit, LeavesItOpen, Outcome, found, left_open, saying}
use Rattle.queries.specs.Answers.{AreReplies, Reply, reply_of}
use Rattle.command_edge.specs.declared.ending.Ending.TheVariants.{Done}
use Rattle.ask_command.specs.Asks.{IsAnswersText}
use Rattle.grow_command.specs.Counted.{count_where, ends_so, has_cause, has_values, is_cut, is_delivered, is_failed, is_pruned, is_stopped, is_unexplored, judged_so, one_more}
use Rattle.grow_command.specs.Grows.{AreCounts}
use Rattle.grow_command.specs.declared.counts.Counts.{Counts}
use Rattle.grow_command.specs.declared.grow.TheConstants.{LIMIT}
use Rattle.told_texts.specs.Ranges.{AllBelow, CountsFit, numbers_of}

tried_behind : (xs ys : List RecordTree) → AllByRecursion IsTried (xs ++ ys) → AllByRecursion IsTried ys
tried_behind [] ys h = h
tried_behind (x ∷ xs) ys h = tried_behind xs ys h.1

none_untried : (left : List RecordTree) → AllByRecursion IsUnexplored left → AllByRecursion IsTried left → (left ≡ [] → ⊥) → ⊥
none_untried [] untried tried some = some refl
none_untried (x ∷ left) untried tried some = tried.0 untried.0

within_limit : (s : SymStart) (limit : ℕ) (rs : List RecordTree) → IsWhole limit rs ⊎ IsCutOff s limit rs → AllByRecursion IsTried rs → length rs ≤ limit
within_limit s limit rs (inl whole) tried = whole.count
within_limit s limit rs (inr cut) tried =
    absurd (none_untried cut.left cut.untried (tried_behind (cut.done ++ cut.last ∷ []) cut.left (subst (AllByRecursion IsTried) cut.joined tried)) cut.some)

few_records : (net : Network) (i : Entry) (hops limit : ℕ) (rs : List RecordTree) → AreExactFor net i hops limit rs → AllByRecursion IsTried rs → length rs ≤ limit
few_records net i hops limit rs exact tried = within_limit exact.start limit rs exact.exact.limited tried

-- ---- numbers that answers name

abbrev OutcomeBelow : ℕ → Outcome → Type 0
OutcomeBelow most (found number values) = number < most
OutcomeBelow most (left_open ns) = AllBelow most ns

reply_below : (most : ℕ) (q : Question) (outcome : Outcome) → OutcomeBelow most outcome → AllBelow most (numbers_of (reply_of q outcome))
reply_below most (reach place test) (found number values) h = (h, tt)
reply_below most (invariant place field) (found number values) h = (h, tt)
reply_below most (visible place field) (found number values) h = (h, tt)
reply_below most (reach place test) (left_open []) h = tt
reply_below most (invariant place field) (left_open []) h = tt
reply_below most (visible place field) (left_open []) h = tt
reply_below most q (left_open (n ∷ ns)) h = h

module _ (net : Network) (i : Entry) (hops most : ℕ) where
  open_below : (q : Question) (Out : RecordTree → Type 0) (n : ℕ) (xs : List RecordTree) (ns : List ℕ) → n + length xs ≤ most
      → AreOpenBy (saying net i hops q) Out n xs ns → AllBelow most ns
  open_below q Out n [] ns low h = subst (AllBelow most) (sym h) tt
  open_below q Out n (x ∷ xs) ns low (inl (left, ms, is, rest)) =
      let later : suc n + length xs ≤ most = omega arith in
      subst (AllBelow most) (sym is) (omega arith, open_below q Out (suc n) xs ms later rest)
  open_below q Out n (x ∷ xs) ns low (inr (out, rest)) =
      let later : suc n + length xs ≤ most = omega arith in
      open_below q Out (suc n) xs ns later rest

  module _ (rs : List RecordTree) (few : length rs ≤ most) where
    hit_below : (q : Question) (number : ℕ) (values : List ℕ) → IsFirstHit (saying net i hops q) rs number values → number < most
    hit_below q number values h =
        let is = h.numbered in
        let all = ap length h.joined in
        omega (arith, is, all, few, length-append h.front (h.shower ∷ h.rest))

    outcome_below : (q : Question) (outcome : Outcome) → IsRight net i hops q rs outcome → OutcomeBelow most outcome
    outcome_below q (found number values) h = hit_below q number values h.told
    outcome_below q (left_open ns) h = open_below q (λ x. LeavesItOpen net i hops q x → ⊥) 0 rs ns (omega (arith, few)) h.told.1

    replies_below : (qs : List Question) (replies : List Reply) → AreReplies net i hops rs qs replies → AllByRecursion (λ r. AllBelow most (numbers_of r)) replies
    replies_below [] [] h = tt
    replies_below [] (reply ∷ replies) h = absurd h
    replies_below (q ∷ qs) [] h = absurd h
    replies_below (q ∷ qs) (reply ∷ replies) h =
        let one = reply_below most q h.0.outcome (outcome_below q h.0.outcome h.0.right) in
        (subst (λ r. AllBelow most (numbers_of r)) (sym h.0.is) one, replies_below qs replies h.1)

pub answers_below : (hops limit : ℕ) (net : Network) (i : Entry) (asks : List AskTree) (whole : List ℕ) → (a : IsAnswersText hops limit net i asks Done whole)
    → AllByRecursion (λ r. AllBelow limit (numbers_of r)) a.replies
answers_below hops limit net i asks whole a =
    replies_below net i hops limit a.records (few_records net i hops limit a.records a.exact a.ends) a.questions a.replies a.right

-- ---- counts

next_within : (b : Bool) (n m : ℕ) → n ≤ m → one_more b n ≤ suc m
next_within true n m h = omega arith
next_within false n m h = omega arith

count_within : (test : RecordTree → Bool) (rs : List RecordTree) → count_where test rs ≤ length rs
count_within test [] = omega arith
count_within test (x ∷ rs) = next_within (test x) (count_where test rs) (length rs) (count_within test rs)

low : (test : RecordTree → Bool) (rs : List RecordTree) → length rs ≤ LIMIT → count_where test rs < 2 ^ 64
low test rs few = omega (arith, few, count_within test rs)

pub counts_low : (net : Network) (i : Entry) (counts : Counts) → AreCounts net i Done counts → CountsFit counts
counts_low net i counts h =
    let few = few_records net i _ LIMIT h.records h.exact h.ends in
    subst CountsFit (sym h.counted) (record {
      stopped = low (ends_so is_stopped) h.records few;
      delivered = low (ends_so is_delivered) h.records few;
      failed = low (ends_so is_failed) h.records few;
      cut = low (ends_so is_cut) h.records few;
      sat = low (judged_so has_values) h.records few;
      undecided = low (judged_so has_cause) h.records few;
      pruned = low is_pruned h.records few;
      unexplored = low is_unexplored h.records few;
    })
