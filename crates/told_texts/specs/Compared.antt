-- Comparisons whose numbers have texts of their own.
use Rattle.std.specs.Prelude.{◌<◌, ◌^◌, [], ◌∷◌, None, Some}
use Rattle.report_forms.specs.Fits.{Fit128}
use Rattle.compare_meaning.specs.Comparing.{Comparison, same, other, unknown}
use Rattle.compare_command.specs.Texts.{Cuts}
use Rattle.told_texts.specs.Ranges.{Fit64}

-- the numbers of paths have 64 bits, and those of a packet 128
abbrev pub ComparisonFits : Comparison → Type 0
ComparisonFits same = Unit {0}
ComparisonFits (other left number values) = (number < 2 ^ 64) × Fit128 values
ComparisonFits (unknown lefts rights) = Fit64 lefts × Fit64 rights

-- and so have the numbers of paths that are cut
abbrev pub CutsFit : Cuts → Type 0
CutsFit None = Unit {0}
CutsFit (Some cuts) = Fit64 (cuts.0 ∷ cuts.1 ∷ [])
