-- What is connected of outputs, with one output more.
use Rattle.std.proofs.Common.{◌≡◌, ◌∙◌, refl, ap, ℕ, Bool, true, false, cond, if◌then◌else◌, List, Some}
use Rattle.std.specs.Prelude.{bytes_eq, unwrap_or}
use Rattle.std.specs.Map.{lookup}
use Rattle.std.proofs.lemmas.Slice.Eq.{bytes_eq-Decides}
use Rattle.click_elements.specs.declared.node.Leads.{Leads}
use Rattle.click_model.specs.Nets.{no_leads, with_port}

module _ (key : List ℕ) (port : ℕ) (more : Leads) (old new : List (List ℕ × Leads))
    (puts : (name : List ℕ) → lookup (bytes_eq name) new ≡ cond (bytes_eq key name) (Some more) (lookup (bytes_eq name) old))
    (is : more ≡ with_port (unwrap_or (lookup (bytes_eq key) old) no_leads) port) where
  by : (b : Bool) (name : List ℕ) → (b ≡ true → key ≡ name)
      → unwrap_or (cond b (Some more) (lookup (bytes_eq name) old)) no_leads
      ≡ (if b then with_port (unwrap_or (lookup (bytes_eq name) old) no_leads) port else unwrap_or (lookup (bytes_eq name) old) no_leads)
  by true name same = is ∙ ap (λ k. with_port (unwrap_or (lookup (bytes_eq k) old) no_leads) port) (same refl)
  by false name same = refl

  pub noted : (name : List ℕ) → unwrap_or (lookup (bytes_eq name) new) no_leads
      ≡ (if bytes_eq key name then with_port (unwrap_or (lookup (bytes_eq name) old) no_leads) port else unwrap_or (lookup (bytes_eq name) old) no_leads)
  noted name = ap (λ o. unwrap_or o no_leads) (puts name) ∙ by (bytes_eq key name) name (bytes_eq-Decides key name).0
