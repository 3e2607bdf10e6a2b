-- What a comparison says of walks with more hops.
use Rattle.std.specs.Prelude.{ℕ, ◌≡◌, ◌≤◌, List}
use Rattle.net_check.specs.Network.{Network, Entry}
use Rattle.exact_records.specs.Records.{RecordTree}
use Rattle.compare_meaning.specs.Answers.{IsTrueOf}
use Rattle.compare_meaning.specs.Comparing.{Comparison}
use Rattle.net_compare.specs.Halves.{half_of}
use Rattle.command_edge.specs.declared.ending.Ending.TheVariants.{Done}
use Rattle.compare_command.specs.Compares.{AreFoundFor, cut_count}

-- where no path of either exploration is cut, an answer that is true is so under every larger bound of hops
abbrev pub UncutComparisonsGoBeyond : ℕ → ℕ → Network → Entry → Network → Entry → Type 0
UncutComparisonsGoBeyond hops limit ln li rn ri = (lefts rights : List RecordTree) → AreFoundFor hops limit ln li Done lefts
    → AreFoundFor hops limit rn ri Done rights → cut_count lefts ≡ 0 → cut_count rights ≡ 0 → (answer : Comparison)
    → IsTrueOf hops (half_of hops ln li lefts) (half_of hops rn ri rights) answer → (more : ℕ) → hops ≤ more
    → IsTrueOf more (half_of more ln li lefts) (half_of more rn ri rights) answer
