-- What `compare` writes of two accepted jobs.
use Rattle.std.specs.Prelude.{ℕ, ◌≡◌, ◌⊎◌, Bool, true, false, List, [], ◌∷◌, if◌then◌else◌, suc, None, Some}
use Rattle.sefl_meaning.specs.declared.walk.End.{End}
use Rattle.sefl_meaning.specs.declared.walk.End.TheVariants.{Stopped, Delivered, Failed, Cut}
use Rattle.net_check.specs.Network.{Network, Entry, with_choices}
use Rattle.exact_records.specs.Packets.{AreExactFor}
use Rattle.exact_records.specs.Records.{RecordTree, path, pruned, unexplored}
use Rattle.compare_meaning.specs.Clashes.{IsFirstClash, both_paths}
use Rattle.compare_meaning.specs.Comparing.{Comparison}
use Rattle.compare_meaning.specs.Paths.{Half}
use Rattle.net_compare.specs.Halves.{IsAnswer, half_of}
use Rattle.net_compare.specs.declared.nets.CompareFault.{CompareFault}
use Rattle.net_compare.specs.declared.nets.CompareFault.TheVariants as compared
use Rattle.command_runs.specs.Inputs.{Given, a_net}
use Rattle.command_edge.specs.Puts.{Outcome, text, refused}
use Rattle.command_edge.specs.declared.ending.Ending.{Ending}
use Rattle.command_edge.specs.declared.ending.Ending.TheVariants.{Done, Partial}
use Rattle.command_edge.specs.declared.fault.OwnFault.{OwnFault}
use Rattle.command_edge.specs.declared.fault.OwnFault.TheVariants.{BadCompare, NoMemory}
use Rattle.explore_command.specs.Explores.{IsEnding}
use Rattle.compare_command.specs.Texts.{Cuts, compared_text, partial_text}

-- 1: the injections differ; 2: two paths clash, by their numbers
abbrev pub fault_of : CompareFault → OwnFault
fault_of compared.OtherInjection = BadCompare 1 0 0
fault_of (compared.Widths one other) = BadCompare 2 one other
fault_of compared.NoMemory = NoMemory

abbrev pub is_cut_end : End → Bool
is_cut_end Cut = true
is_cut_end Delivered = false
is_cut_end Stopped = false
is_cut_end (Failed failure site) = false

-- the record is a path that is cut at the bound of hops
abbrev pub is_cut : RecordTree → Bool
is_cut (path ds places end' fields verdict) = is_cut_end end'
is_cut (pruned ds before refutation) = false
is_cut (unexplored ds) = false

abbrev pub cut_count : List RecordTree → ℕ
cut_count [] = 0
cut_count (x ∷ xs) = if is_cut x then suc (cut_count xs) else cut_count xs

-- how many are cut of each of two lists, where they are counted
abbrev pub cuts_of : Bool → List RecordTree → List RecordTree → Cuts
cuts_of false ls rs = None
cuts_of true ls rs = Some (cut_count ls, cut_count rs)

module _ (hops limit : ℕ) where
  -- the records of an exploration are exact, and end so
  pub record AreFoundFor (net : Network) (i : Entry) (ending : Ending) (records : List RecordTree) : Type 0 where
    pub exact : AreExactFor net i hops limit records
    pub ends : IsEnding ending records

  -- some records end so
  abbrev pub EndsSo : Network → Entry → Ending → Type 0
  EndsSo net i ending = (records : List RecordTree) × AreFoundFor net i ending records

  module _ (ln : Network) (li : Entry) (rn : Network) (ri : Entry) where
    -- of the records of two explorations that leave nothing out this is so
    pub record OfBoth (Fact : Half → Half → Type 0) : Type 0 where
      pub lefts : List RecordTree
      pub left : AreFoundFor ln li Done lefts
      pub rights : List RecordTree
      pub right : AreFoundFor rn ri Done rights
      pub fact : Fact (half_of hops ln li lefts) (half_of hops rn ri rights)

    -- it is the text of an answer that is right, with the numbers of paths that are cut where they are counted
    abbrev pub IsTextOf : Bool → List ℕ → Half → Half → Type 0
    IsTextOf counts whole l r = (answer : Comparison) × IsAnswer hops l r answer × (whole ≡ compared_text (cuts_of counts l.records r.records) answer)

    -- The injections are the same. The exploration of the left net leaves something out; or it leaves nothing out, and that of the
    -- right net does.
    pub record IsLeftOut : Type 0 where
      pub own : li.own ≡ ri.own
      pub some : EndsSo ln li Partial ⊎ (EndsSo ln li Done × EndsSo rn ri Partial)

    -- kind 1: the injections differ; kind 2: they are the same, and these are the numbers of the first two paths that clash
    abbrev pub IsNotCompared : ℕ → ℕ → ℕ → Type 0
    IsNotCompared kind one other =
        ((kind ≡ 1) × (one ≡ 0) × (other ≡ 0) × (li.own ≡ ri.own → ⊥))
        ⊎ ((kind ≡ 2) × (li.own ≡ ri.own) × OfBoth (λ l r. IsFirstClash (both_paths l r) one other))

    abbrev pub ComparesTo : Bool → Outcome → Type 0
    ComparesTo counts (text Done whole) = OfBoth (IsTextOf counts whole)
    ComparesTo counts (text Partial whole) = IsLeftOut × (whole ≡ partial_text)
    ComparesTo counts (refused (BadCompare kind one other)) = IsNotCompared kind one other
    ComparesTo counts (refused _) = ⊥

-- `compare` of two jobs, with this bound on choices of cases; and whether paths that are cut are counted
abbrev pub CompareComes : ℕ → ℕ → ℕ → Bool → List Given → Outcome → Type 0
CompareComes most hops limit counts (a_net ln li lasks ∷ a_net rn ri rasks ∷ []) outcome =
    ComparesTo hops limit ln (with_choices most li) rn (with_choices most ri) counts outcome
CompareComes most hops limit counts _ outcome = ⊥
