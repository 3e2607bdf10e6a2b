-- What exact records tell, by how they end.
use Rattle.std.proofs.Common.{◌≡◌, ◌⊎◌, ◌∙◌, inl, inr, refl, subst, ℕ, ◌≤◌, List, [], ◌∷◌, ◌++◌, length, Option, None, Some}
use Rattle.std.specs.List.{AllByRecursion}
use Rattle.refutation_check.specs.declared.outcome.Verdict.{Verdict}
use Rattle.net_check.specs.Network.{Network, Entry}
use Rattle.sefl_meaning.specs.declared.walk.Decision.{Decision}
use Rattle.sefl_meaning.specs.Order.{BeginsWith}
use Rattle.sefl_meaning.specs.Walks.{Trail}
use Rattle.exact_records.specs.Exact.{ExactlyOne, IsCutOff, IsGood, IsTried, IsUnexplored, IsUnrefuted, IsWhole, SomeOne}
use Rattle.exact_records.specs.Packets.{AreExactFor, IsWalkOf, Shows}
use Rattle.exact_records.specs.Records.{HasMeaning, HasVerdict, IsVerdictBefore, RecordTree, SymStart, condition_on, decisions_of, path, pruned, unexplored}
use Rattle.exact_records.specs.Whole.{WalksHaveOnePath}
use Rattle.exact_records.proofs.Lists.{all_both, all_later, all_weaker, append_nil}
use Rattle.hop_bounds.specs.Beyond.{UncutRecordsGoBeyond}
use Rattle.command_edge.specs.declared.ending.Ending.{Ending}
use Rattle.command_edge.specs.declared.ending.Ending.TheVariants.{Done, Partial}
use Rattle.explore_command.specs.Explores.{IsEnding}
use Rattle.explore_command.specs.Headline.{HasOnlyVerdict, IsOnlyVerdictBefore, IsRecordOf, Tells, TellsEach}
use Rattle.explore_command.proofs.VerdictLemmas.{only_verdict}

-- ---- the verdict of each record

module _ (start : SymStart) where
  only_before : (ds : List Decision) (before : Option Verdict) → IsVerdictBefore start ds before → IsOnlyVerdictBefore start ds before
  only_before ds None h = tt
  only_before ds (Some before) h = λ side. only_verdict (condition_on start side.way) before (h side)

  only_one : (x : RecordTree) → HasVerdict start x → HasOnlyVerdict start x
  only_one (path ds places ended fields verdict) h = λ way leads. only_verdict (condition_on start way) verdict (h way leads)
  only_one (pruned ds before refutation) h = (only_before ds before h.0, h.1)
  only_one (unexplored ds) h = tt

-- ---- the limit

none_untried : (left : List RecordTree) → AllByRecursion IsUnexplored left → AllByRecursion IsTried left → (left ≡ [] → ⊥) → ⊥
none_untried [] untried tried some = some refl
none_untried (x ∷ left) untried tried some = tried.0 untried.0

some_untried : (rs : List RecordTree) → AllByRecursion IsTried rs → SomeOne IsUnexplored rs → ⊥
some_untried [] tried some = some
some_untried (x ∷ rs) tried (inl h) = tried.0 h
some_untried (x ∷ rs) tried (inr h) = some_untried rs tried.1 h

module _ (start : SymStart) (limit : ℕ) (rs : List RecordTree) where
  few_tried : IsWhole limit rs ⊎ IsCutOff start limit rs → AllByRecursion IsTried rs → length rs ≤ limit
  few_tried (inl whole) tried = whole.count
  few_tried (inr cut) tried =
      absurd (none_untried cut.left cut.untried (all_later IsTried (cut.done ++ cut.last ∷ []) cut.left (subst (AllByRecursion IsTried) cut.joined tried)) cut.some)

  cut_untried : IsWhole limit rs ⊎ IsCutOff start limit rs → SomeOne IsUnexplored rs → IsCutOff start limit rs
  cut_untried (inl whole) some = absurd (some_untried rs whole.tried some)
  cut_untried (inr cut) some = cut

-- ---- one record for each walk

-- of two properties that each member has alike, one has one member where the other has
module _ {A : Type 0} (P Q : A → Type 0) where
  record Alike (x : A) : Type 0 where
    pub there : P x → Q x
    pub back : Q x → P x

  one_alike : (xs : List A) → AllByRecursion Alike xs → ExactlyOne P xs → ExactlyOne Q xs
  one_alike [] h k = k
  one_alike (x ∷ xs) h (inl k) =
      inl (h.0.there k.0, all_both Alike (λ y. P y → ⊥) (λ y. Q y → ⊥) xs (λ y (a : Alike y) (none : P y → ⊥) q. none (a.back q)) h.1 k.1)
  one_alike (x ∷ xs) h (inr k) = inr (λ q. k.0 (h.0.back q), one_alike xs h.1 k.1)

module _ (v : List ℕ) (w : Trail) where
  abbrev Begins : RecordTree → Type 0
  Begins x = BeginsWith (decisions_of x) w.decisions

  record_alike : (x : RecordTree) → (Begins x → Shows v w x) → Alike Begins (IsRecordOf v w) x
  record_alike (path ds places ended fields verdict) h = record { there = h; back = λ is. ([], append_nil ds ∙ is.0) }
  record_alike (pruned ds before refutation) h = record { there = h; back = λ is. absurd is }
  record_alike (unexplored ds) h = record { there = λ begins. begins; back = λ begins. begins }

-- ---- what all this tells

module _ (net : Network) (i : Entry) (hops limit : ℕ) (one : WalksHaveOnePath net i hops) (go : UncutRecordsGoBeyond net i hops) (rs : List RecordTree)
    (exact : AreExactFor net i hops limit rs) where
  abbrev each : TellsEach net i hops rs
  each = record {
    start = exact.start;
    explored = exact.explored;
    ascend = exact.exact.ascend;
    begun = exact.exact.begun;
    means = all_weaker (IsGood exact.start) (HasMeaning exact.start) rs (λ x (good : IsGood exact.start x). good.meaning) exact.exact.good;
    verdicts = all_weaker (IsGood exact.start) (HasOnlyVerdict exact.start) rs (λ x (good : IsGood exact.start x). only_one exact.start x good.verdict)
        exact.exact.good;
    unrefuted = all_weaker (IsGood exact.start) (λ x. IsUnrefuted exact.start (decisions_of x)) rs (λ x (good : IsGood exact.start x). good.unrefuted)
        exact.exact.good;
    packets = exact.packets;
    not_taken = exact.refuted;
  }

  one_record : (v : List ℕ) (w : Trail) → IsWalkOf net i hops v w → ExactlyOne (IsRecordOf v w) rs
  one_record v w walk =
      let shown = exact.walks v w walk in
      one_alike (Begins v w) (IsRecordOf v w) rs
      (all_weaker (λ x. Begins v w x → Shows v w x) (Alike (Begins v w) (IsRecordOf v w)) rs (record_alike v w) shown.shown) shown.once

  pub told : (ending : Ending) → IsEnding ending rs → Tells net i hops limit ending rs
  told Done ends = record {
    each = each;
    walks = one limit rs exact ends;
    tried = ends;
    few = few_tried exact.start limit rs exact.exact.limited ends;
    beyond = go limit rs exact;
  }
  told Partial ends = record {
    each = each;
    walks = one_record;
    cut_off = cut_untried exact.start limit rs exact.exact.limited ends;
  }
