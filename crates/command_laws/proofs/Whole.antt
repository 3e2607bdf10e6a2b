-- A report that was written whole is confirmed whole; and one that is partial is not.
use Rattle.std.proofs.Common.{◌≡◌, ◌≤◌, ℕ, suc, ◌+◌, arith, Bool, true, false, inl, inr, List, [], ◌∷◌, ◌++◌, length, map, refl, sym, ap, subst, ◌∙◌, Option, None, Some, Ok}
use Rattle.std.specs.List.{AllByRecursion, fold}
use Rattle.sefl_meaning.specs.declared.walk.Decision.{Decision}
use Rattle.net_check.specs.Network.{Network, Entry}
use Rattle.path_records.specs.declared.records.Record.{Record}
use Rattle.path_records.specs.declared.records.Record.TheVariants.{Path, Pruned, Unexplored}
use Rattle.path_records.specs.declared.sides.RefutedSides.TheVariants.{Written}
use Rattle.exact_records.specs.Exact.{AreExact, IsCutOff, IsTried, IsUnexplored}
use Rattle.exact_records.specs.Packets.{AreExactFor}
use Rattle.exact_records.specs.Records.{HasMeaning, RecordTree, SymStart, decisions_of}
use Rattle.exact_records.specs.View.{record_trees}
use Rattle.record_lines.specs.Lines.{refuted_by, refuted_count}
use Rattle.record_text.specs.declared.report.Report.{Report}
use Rattle.report_forms.specs.Seen as seen
use Rattle.path_report.specs.Reading.{ReadsReport}
use Rattle.record_checks.specs.Counts.{count_where, counts_of, is_pruned, is_sat, is_undecided, is_unexplored, one_more, with_record}
use Rattle.record_checks.specs.declared.counts.Confirmed.{Confirmed}
use Rattle.whole_checks.specs.Chains.{IsChain, IsChainBehind}
use Rattle.whole_checks.specs.Confirming.{ConfirmsBehind}
use Rattle.whole_checks.specs.Walks.{ChainsShowWalks, ExactRecordsAreChains}
use Rattle.command_edge.specs.Puts.{Outcome, text, refused}
use Rattle.command_edge.specs.declared.ending.Ending.{Ending}
use Rattle.command_edge.specs.declared.ending.Ending.TheVariants.{Done, Partial}
use Rattle.command_edge.specs.declared.fault.OwnFault.TheVariants.{BadReport, NotConfirmed}
use Rattle.explore_command.specs.Explores.{IsEnding, IsReport, is_done, said_by}
use Rattle.explore_command.specs.Headline.{IsReadBack}
use Rattle.replay_command.specs.Counted.{confirmed_text}
use Rattle.replay_command.specs.Replays.{choices_of}
use Rattle.replay_command.specs.Wholes.{IsWholeText, Told, WholeOf, told_by}
use Rattle.command_laws.proofs.Confirmed.{meanings, no_fault, said_back, tree_of, trees_seen}

-- ---- counts, from the first record on and by recursion

abbrev counted_on : Confirmed → List RecordTree → Confirmed
counted_on counts [] = counts
counted_on counts (x ∷ xs) = counted_on (with_record x counts) xs

swap_more : (a b : Bool) (n : ℕ) → one_more a (one_more b n) ≡ one_more b (one_more a n)
swap_more true true n = refl
swap_more true false n = refl
swap_more false true n = refl
swap_more false false n = refl

swap_records : (x y : RecordTree) (counts : Confirmed) → with_record y (with_record x counts) ≡ with_record x (with_record y counts)
swap_records x y counts = λ i. record {
  sat = swap_more (is_sat y) (is_sat x) counts.sat i;
  undecided = swap_more (is_undecided y) (is_undecided x) counts.undecided i;
  pruned = swap_more (is_pruned y) (is_pruned x) counts.pruned i;
  unexplored = swap_more (is_unexplored y) (is_unexplored x) counts.unexplored i;
}

counted_one : (x : RecordTree) (xs : List RecordTree) (counts : Confirmed) → counted_on (with_record x counts) xs ≡ with_record x (counted_on counts xs)
counted_one x [] counts = refl
counted_one x (y ∷ ys) counts =
    ap (λ (n : Confirmed). counted_on n ys) (swap_records x y counts) ∙ counted_one x ys (with_record y counts)

counted_all : (xs : List RecordTree) → counted_on (counts_of []) xs ≡ counts_of xs
counted_all [] = refl
counted_all (x ∷ xs) = counted_one x xs (counts_of []) ∙ ap (with_record x) (counted_all xs)

-- as many refuted sides as the report's own number says, with some before them
folded : (n : ℕ) (xs : List Record) → fold (λ a x. a + refuted_by x) n xs ≡ n + count_where is_pruned (record_trees xs)
folded n [] = omega arith
folded n (Path decisions places end' fields verdict ∷ xs) =
    let rest : n + 0 + count_where is_pruned (record_trees xs) ≡ n + count_where is_pruned (record_trees xs) = omega arith in folded (n + 0) xs ∙ rest
folded n (Pruned decisions before refutation ∷ xs) =
    let rest : n + 1 + count_where is_pruned (record_trees xs) ≡ n + suc (count_where is_pruned (record_trees xs)) = omega arith in folded (n + 1) xs ∙ rest
folded n (Unexplored decisions ∷ xs) =
    let rest : n + 0 + count_where is_pruned (record_trees xs) ≡ n + count_where is_pruned (record_trees xs) = omega arith in folded (n + 0) xs ∙ rest

refuted_counted : (xs : List Record) → refuted_count xs ≡ count_where is_pruned (record_trees xs)
refuted_counted xs = let all : 0 + count_where is_pruned (record_trees xs) ≡ count_where is_pruned (record_trees xs) = omega arith in folded 0 xs ∙ all

-- ---- a chain is confirmed

chain_confirms : (s : SymStart) (xs : List RecordTree) (before : Option (List Decision)) (number : ℕ) (counts : Confirmed) → AllByRecursion (HasMeaning s) xs
    → IsChainBehind s before xs → ConfirmsBehind s before number counts xs (Ok (counted_on counts xs))
chain_confirms s [] before number counts all ends = inl (ends, refl)
chain_confirms s (x ∷ xs) before number counts all chain =
    inr (inr (all.0, chain.0, chain_confirms s xs (Some (decisions_of x)) (suc number) (with_record x counts) all.1 chain.1))

-- ---- where nothing was left, the records keep the limit

all_behind : (P : RecordTree → Type 0) (xs ys : List RecordTree) → AllByRecursion P (xs ++ ys) → AllByRecursion P ys
all_behind P [] ys all = all
all_behind P (x ∷ xs) ys all = all_behind P xs ys all.1

none_untried : (xs : List RecordTree) → AllByRecursion IsTried xs → AllByRecursion IsUnexplored xs → (xs ≡ [] → ⊥) → ⊥
none_untried [] tried untried some = some refl
none_untried (x ∷ xs) tried untried some = tried.0 untried.0

module _ (s : SymStart) (limit : ℕ) (rs : List RecordTree) (tried : AllByRecursion IsTried rs) where
  not_cut : IsCutOff s limit rs → ⊥
  not_cut cut =
      none_untried cut.left (all_behind IsTried (cut.done ++ cut.last ∷ []) cut.left (subst (λ (xs : List RecordTree). AllByRecursion IsTried xs) cut.joined tried)) cut.untried cut.some

  within : AreExact s limit rs → length rs ≤ limit
  within exact = elim exact.limited [
    | inl whole ↦ whole.count
    | inr cut ↦ absurd (not_cut cut)
  ]

-- ---- the report that was written

-- what a report that is seen so tells
abbrev told : seen.ReportSeen → Told
told r = record {
  most = choices_of r.cases;
  hops = r.hops;
  records = map tree_of r.records;
  limit = r.limit;
  refuted = r.refuted;
  complete = r.complete;
}

told_seen : (r : Report) → told_by r ≡ told (seen.report_seen r)
told_seen r = ap (λ (rs : List RecordTree). record {
  most = choices_of r.cases;
  hops = r.hops;
  records = rs;
  limit = r.limit;
  refuted = r.refuted;
  complete = r.complete;
}) (trees_seen r.records.items)

module _ (hops limit : ℕ) (net : Network) (i : Entry) (ending : Ending) (whole : List ℕ)
    (report : IsReport hops limit Written net i ending whole) (read : IsReadBack net (said_by i) hops limit Written report.records ending whole) where
  abbrev rs : List RecordTree
  rs = record_trees report.records

  -- what it tells
  abbrev own : Told
  own = record {
    most = i.most_choices;
    hops = hops;
    records = rs;
    limit = limit;
    refuted = refuted_count report.records;
    complete = is_done ending;
  }

  own_told : told (seen.line_seen (said_by i) hops limit report.records (refuted_count report.records) (is_done ending)) ≡ own
  own_told = λ l. record {
    most = said_back i.most_choices l;
    hops = hops;
    records = sym (trees_seen report.records) l;
    limit = limit;
    refuted = refuted_count report.records;
    complete = is_done ending;
  }

  read_told : (r : Report) → ReadsReport net whole (Ok r) → told_by r ≡ own
  read_told r reads = told_seen r ∙ (ap told (read (Ok r) reads) ∙ own_told)

  -- a partial one has no text of counts
  pub partial_back : ending ≡ Partial → (e : Ending) (w : List ℕ) → WholeOf net i whole (text e w) → ⊥
  partial_back partial e w h =
      let head = subst (λ (t : Told). IsWholeText net i t w) (read_told h.1.report h.1.reads) h.1.holds in
      clash (subst (λ (x : Ending). is_done x ≡ true) partial head.head.complete)
    where
      clash : false ≡ true → ⊥
      clash e = cc e

  module _ (done : ending ≡ Done) (chains : (s : SymStart) → ExactRecordsAreChains s) (shows : ChainsShowWalks net i hops)
      (one : (a b : Outcome) → WholeOf net i whole a → WholeOf net i whole b → a ≡ b) where
    abbrev exact : AreExactFor net i hops limit rs
    exact = report.found.exact

    tried : AllByRecursion IsTried rs
    tried = subst (λ (e : Ending). IsEnding e rs) done report.found.ends

    chain : IsChain exact.start rs
    chain = chains exact.start limit rs exact.exact tried

    has_meaning : AllByRecursion (HasMeaning exact.start) rs
    has_meaning = meanings exact.start rs exact.exact.good

    confirms : ConfirmsBehind exact.start None 0 (counts_of []) rs (Ok (counts_of rs))
    confirms = subst (λ (n : Confirmed). ConfirmsBehind exact.start None 0 (counts_of []) rs (Ok n)) (counted_all rs)
        (chain_confirms exact.start rs None 0 (counts_of []) has_meaning chain)

    own_text : IsWholeText net i own (confirmed_text (counts_of rs))
    own_text = record {
      counts = counts_of rs;
      confirms = inr (record { start = exact.start; explored = exact.explored; holds = confirms });
      packets = record { packets = exact.packets; refuted = exact.refuted };
      walks = shows exact.start exact.explored rs has_meaning chain;
      head = record {
        complete = ap is_done done;
        refuted = refuted_counted report.records;
        within = within exact.start limit rs tried exact.exact;
      };
      written = refl;
    }

    own_outcome : (r : Report) → ReadsReport net whole (Ok r) → WholeOf net i whole (text Done (confirmed_text (counts_of rs)))
    own_outcome r reads =
        (refl, record { report = r; reads = reads; holds = subst (λ (t : Told). IsWholeText net i t (confirmed_text (counts_of rs))) (sym (read_told r reads)) own_text })

    pub confirmed_whole : (outcome : Outcome) → WholeOf net i whole outcome → outcome ≡ text Done (confirmed_text (counts_of rs))
    confirmed_whole (text e w) h = one (text e w) (text Done (confirmed_text (counts_of rs))) h (own_outcome h.1.report h.1.reads)
    confirmed_whole (refused (NotConfirmed number kind)) h =
        one (refused (NotConfirmed number kind)) (text Done (confirmed_text (counts_of rs))) h (own_outcome h.report h.reads)
    confirmed_whole (refused (BadReport kind pointer)) h =
        absurd (no_fault hops limit net i ending whole report read h.fault (kind, pointer) h.reads h.told)
    confirmed_whole (refused fault) h = absurd h
