-- Lists of filter rules without rules that decide no packet.
use Rattle.std.specs.Prelude.{ℕ, ◌≡◌, ◌+◌, Bool, true, if◌then◌else◌, List, [], ◌∷◌}
use Rattle.acl_rules.specs.Covers.{IsHidden, permits}
use Rattle.acl_rules.specs.Packets.{IsPacket}
use Rattle.acl_rules.specs.declared.rule.Rule.{Rule}

-- of rules that are numbered from this number on, those that are not left out
abbrev pub without_from : (ℕ → Bool) → ℕ → List Rule → List Rule
without_from is_out number [] = []
without_from is_out number (r ∷ rs) =
    if is_out number then without_from is_out (number + 1) rs else r ∷ without_from is_out (number + 1) rs

abbrev pub without : (ℕ → Bool) → List Rule → List Rule
without is_out rules = without_from is_out 0 rules

-- a list permits and denies the same where hidden rules are left out of it: one, some or all
abbrev pub HiddenRulesMayGo : Type 0
HiddenRulesMayGo = (rules : List Rule) (is_out : ℕ → Bool) → ((rule : ℕ) → is_out rule ≡ true → IsHidden rules rule)
    → (packet : List ℕ) → IsPacket packet → permits (without is_out rules) packet ≡ permits rules packet
