-- Paths whose domains are apart.
use Rattle.std.specs.Prelude.{◌≡◌, ◌<◌, ℕ, Bool, true, false, length}
use Rattle.sn_width.specs.declared.ids.SymId.{SymId}
use Rattle.path_cond.specs.Seen.{itself}
use Rattle.refutation_check.specs.Seen.{is_possible}
use Rattle.compare_meaning.specs.Paths.{DeliveredPath}

-- both have the symbol, and no value of it is possible in both
pub record IsApartAt (p q : DeliveredPath) (s : SymId) : Type 0 where
  pub one : s.0 < length p.condition.widths
  pub other : s.0 < length q.condition.widths
  pub none : (value : ℕ) → is_possible itself p.condition s value ≡ true → is_possible itself q.condition s value ≡ true → ⊥

-- there is such a symbol
abbrev pub TellsApart : DeliveredPath → DeliveredPath → Bool → Type 0
TellsApart p q true = (s : SymId) × IsApartAt p q s
TellsApart p q false = Unit {0}
