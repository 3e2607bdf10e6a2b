use Rattle.std.proofs.Common.{ℕ, List, [], Option, None, Some, refl, length, ◌≡◌}
use Rattle.std.specs.Prelude.{bytes_eq, position, slice_get, unwrap_or}
use Rattle.std.specs.Map.{keys_of}
use Rattle.std.specs.List.{AllByRecursion}
use Rattle.sn_width.specs.declared.ids.NameId.{NameId}
use Rattle.net_check.specs.Network.{found_at}
use Rattle.net_check.specs.Sound.{AreIds}
use Rattle.net_check.proofs.SoundLemmas.{all_at}
use Rattle.net_check.proofs.laws.found_names_ascend.Goals as goal

found_ascend : (count : ℕ) (place : Option ℕ) (found : List (List NameId)) → AllByRecursion (AreIds count) found → AreIds count (found_at place found)
found_ascend count None found all = tt
found_ascend count (Some index) found all = by (slice_get found index) refl
  where
    by : (list : Option (List NameId)) → slice_get found index ≡ list → AreIds count (unwrap_or list [])
    by None is = tt
    by (Some ids) is = all_at (AreIds count) found index ids all is

pub returns : goal.returns
returns c = λ net (j, sound, is) pattern.
    found_ascend (length net.names.metas) (position (bytes_eq pattern) (keys_of net.names.patterns)) net.found is.ids
