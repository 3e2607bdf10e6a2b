-- Inputs in two parts.
use Rattle.std.proofs.Common.{inl, inr, ap, sym, subst, refl, ℕ, List, [], ◌∷◌, ◌++◌, Result, Ok, Err, IfOk, Vec}
use Rattle.std.specs.declared.alloc.Global.{Global}
use Rattle.sn_edge.specs.Told.{FolderTold, PatternsTold}
use Rattle.sn_edge.specs.declared.folder.Loaded.{Loaded}
use Rattle.sn_edge.specs.declared.patterns.Found.{Found}
use Rattle.command_edge.specs.Files.{IsLoaded}
use Rattle.command_runs.specs.Outside.{Outside, outside}
use Rattle.command_runs.specs.Inputs.{Input, Given, AllOpen, FirstFails, a_file, some_bytes}
use Rattle.command_edge.specs.declared.fault.InputFault.{InputFault}

module _ {S : Type 0} (o : Outside S) where
  -- a refusal in the first part
  pub fails_first : (u v : S) (is js : List Input) (fault : InputFault) → FirstFails o u is fault v → FirstFails o u (is ++ js) fault v
  fails_first u v [] js fault h = absurd h
  fails_first u v (i ∷ is) js fault (inl h) = inl h
  fails_first u v (i ∷ is) js fault (inr (g, m, opens, h)) = inr (g, m, opens, fails_first m v is js fault h)

  -- a refusal in the second, where the first is open
  pub fails_later : (u m v : S) (is js : List Input) (given : List Given) (fault : InputFault) → AllOpen o u is given m → FirstFails o m js fault v → FirstFails o u (is ++ js) fault v
  fails_later u m v [] js given fault h f = subst (λ s. FirstFails o s js fault v) h.1 f
  fails_later u m v (i ∷ is) js given fault (g, n, opens, rest, more, same) f = inr (g, n, opens, fails_later n m v is js rest fault more f)

  -- both parts open
  pub open_both : (u m v : S) (is js : List Input) (given others : List Given) → AllOpen o u is given m → AllOpen o m js others v → AllOpen o u (is ++ js) (given ++ others) v
  open_both u m v [] js given others h k =
      subst (λ gs. AllOpen o u js (gs ++ others) v) (sym h.0) (subst (λ s. AllOpen o s js others v) h.1 k)
  open_both u m v (i ∷ is) js given others (g, n, opens, rest, more, same) k =
      (g, n, opens, rest ++ others, open_both n m v is js rest others more k, ap (λ gs. gs ++ others) same)

-- a file that is loaded is an input that is open
pub file_opens : {F P E : Type 0} (told : F → FolderTold) (gives : F → List ℕ → ℕ → Loaded → F → Type 0) (patterns : P → PatternsTold)
    (finds : P → List ℕ → List ℕ → Found → P → Type 0) (limit : ℕ) (name : List ℕ) (f g : F) (p : P) (answer : Result (Vec ℕ Global) E)
    → IfOk answer (λ bytes. IsLoaded told gives limit name f bytes.items g)
    → IfOk answer (λ bytes. AllOpen (outside told gives patterns finds) (f, p) (a_file limit name ∷ []) (some_bytes bytes.items ∷ []) (g, p))
file_opens told gives patterns finds limit name f g p (Ok bytes) loaded =
    (some_bytes bytes.items, (g, p), (bytes.items, (loaded, refl), refl), [], (refl, refl), refl)
file_opens told gives patterns finds limit name f g p (Err fault) loaded = tt
