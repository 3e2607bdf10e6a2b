-- Places behind the end of the bytes.
use Rattle.std.proofs.Common.{◌≡◌, ◌≤◌, ◌∙◌, sym, ℕ, List, length, take}
use Rattle.std.proofs.Math.Seq.{take-length}
use Rattle.std.proofs.lemmas.List.{take_all}

pub take_behind : (at : ℕ) (bytes : List ℕ) → length bytes ≤ at → take (length bytes) bytes ≡ take at bytes
take_behind at bytes behind = take-length bytes ∙ sym (take_all at bytes behind)
