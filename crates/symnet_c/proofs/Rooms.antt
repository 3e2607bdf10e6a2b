-- A room into which nothing was put.
use Rattle.std.proofs.Common.{ℕ, zero, suc, ◌≡◌, List, [], length, take, refl}
use Rattle.symnet_c.specs.Calls.{HasPut}

taken_of_none : (n : ℕ) → take {A = ℕ} n [] ≡ []
taken_of_none zero = refl
taken_of_none (suc n) = refl

pub nothing_put : (before : List ℕ) → HasPut 0 before before
nothing_put before = ([], record { is_wanted = refl; is_put = rw (taken_of_none (length before)) })
