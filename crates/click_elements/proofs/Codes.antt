-- Code that is written one instruction after another.
use Rattle.std.proofs.Common.{◌≡◌, ◌∙◌, refl, ap, List, [], ◌∷◌, ◌++◌, append_assoc}
use Rattle.sefl_syntax.specs.Trees.{InstrTree, instr_and}
use Rattle.sefl_syntax.specs.Views.{code_of}
use Rattle.table_nodes.specs.TableNodes.{alone}
use Rattle.table_nodes.specs.Codes.{code_before}

before_more : (is js : List InstrTree) → code_of (is ++ js) ≡ code_before is (code_of js)
before_more [] js = refl
before_more (i ∷ is) js = ap (instr_and i) (before_more is js)

-- what ends with one instruction more
pub ended : (all code is : List InstrTree) (i x : InstrTree) → all ≡ code ++ i ∷ [] → code ≡ is → i ≡ x → code_of all ≡ code_before is (alone x)
ended all code is i x whole known one =
    ap code_of whole ∙ (λ k. code_of (known k ++ one k ∷ [])) ∙ before_more is (x ∷ [])

-- two instructions more
pub two_more : (old more all : List InstrTree) (i j x y : InstrTree) → more ≡ old ++ i ∷ [] → i ≡ x → all ≡ more ++ j ∷ [] → j ≡ y
    → all ≡ old ++ x ∷ y ∷ []
two_more old more all i j x y first one second other =
    second ∙ (λ k. (first ∙ (λ l. old ++ one l ∷ [])) k ++ other k ∷ []) ∙ append_assoc old (x ∷ []) (y ∷ [])
