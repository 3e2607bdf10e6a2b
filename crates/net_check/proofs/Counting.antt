-- How many items code is, instruction by instruction.
use Rattle.std.proofs.Common.{◌≡◌, ℕ, ◌+◌, ◌<◌, List, ◌∷◌, length, get_or, drop, suc, sym, ◌∙◌, ap, add-one, drop-cons}
use Rattle.sefl_syntax.specs.Views.{instr_tree, code_tree}
use Rattle.sefl_syntax.specs.declared.instr.Instr.{Instr}
use Rattle.net_check.specs.Places.{code_size, instr_size}

pub next_of : {A : Type 0} (xs : List A) (i : ℕ) (x : A) → i < length xs → x ≡ get_or xs i x → drop i xs ≡ x ∷ drop (i + 1) xs
next_of xs i x h is = rw add-one (drop-cons xs i x h ∙ ap (λ y. y ∷ drop (suc i) xs) (sym is))

pub code_size-drop : (code : List Instr) (i : ℕ) (x : Instr) → i < length code → x ≡ get_or code i x
    → code_size (code_tree (drop i code)) ≡ instr_size (instr_tree x) + code_size (code_tree (drop (i + 1) code))
code_size-drop code i x h is = ap (λ l. code_size (code_tree l)) (next_of code i x h is)
