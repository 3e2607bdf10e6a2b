-- Hidden rules may be left out.
use Rattle.std.proofs.Common.{◌≡◌, ◌∙◌, refl, ap, ℕ, ◌+◌, Bool, true, false, cond, List, [], ◌∷◌, Option, Some}
use Rattle.std.specs.List.{position_from}
use Rattle.std.specs.Prelude.{find, if◌then◌else◌, option_map, unwrap_or}
use Rattle.acl_rules.specs.Packets.{is_in}
use Rattle.acl_rules.specs.declared.rule.Rule.{Rule}
use Rattle.model_laws.specs.Hidden.{HiddenRulesMayGo, without_from}

module _ (is_out : ℕ → Bool) (test : Rule → Bool) where
  -- where the first that passes is not left out, it stays the first
  first_stays : (number : ℕ) (rs : List Rule) → ((rule : ℕ) → is_out rule ≡ true → position_from test number rs ≡ Some rule → ⊥)
      → find test (without_from is_out number rs) ≡ find test rs
  first_stays number [] hidden = refl
  first_stays number (r ∷ rs) hidden =
      by (test r) refl (is_out number) refl
      (λ fails. first_stays (number + 1) rs (λ rule out at. hidden rule out (ap (λ b. cond b (Some number) (position_from test (number + 1) rs)) fails ∙ at)))
    where
      others : List Rule
      others = without_from is_out (number + 1) rs

      later : Option ℕ
      later = position_from test (number + 1) rs

      by : (b : Bool) → test r ≡ b → (o : Bool) → is_out number ≡ o → (test r ≡ false → find test others ≡ find test rs)
          → find test (if o then others else r ∷ others) ≡ cond b (Some r) (find test rs)
      by true passes true out behind = absurd (hidden number out (ap (λ b. cond b (Some number) later) passes))
      by true passes false stays behind = ap (λ b. cond b (Some r) (find test others)) passes
      by false fails true out behind = behind fails
      by false fails false stays behind = ap (λ b. cond b (Some r) (find test others)) fails ∙ behind fails

pub hidden_rules_go : HiddenRulesMayGo
hidden_rules_go = λ rules is_out hidden packet fits.
    ap (λ (o : Option Rule). unwrap_or (option_map (λ (r : Rule). r.permits) o) false)
    (first_stays is_out (λ (r : Rule). is_in r.ranges packet) 0 rules (λ rule out at. hidden rule out packet fits at))
