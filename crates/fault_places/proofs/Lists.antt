-- Lists that are no longer than what is taken of them.
use Rattle.std.proofs.Common.{◌≡◌, ◌≤◌, sym, ℕ, List, length, take}
use Rattle.std.proofs.lemmas.List.{take_all}

pub all_taken : (n : ℕ) (xs : List ℕ) → length xs ≤ n → xs ≡ take n xs
all_taken n xs short = sym (take_all n xs short)
