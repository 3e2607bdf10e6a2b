-- Code that is written one instruction after another.
use Rattle.std.proofs.Common.{◌≡◌, ◌∙◌, refl, sym, ap, ℕ, zero, suc, ◌+◌, ◌<◌, List, [], ◌∷◌, ◌++◌, length, map, arith, add-one}
use Rattle.sefl_syntax.specs.declared.reference.Target.{Target}
use Rattle.sefl_syntax.specs.Trees.{reading, member, InstrTree, instr_and, CodeTree, no_code}
use Rattle.std.proofs.lemmas.List.{map-append}
use Rattle.sefl_syntax.specs.declared.instr.Instr.{Instr}
use Rattle.sefl_syntax.specs.Views.{code_of, code_tree, instr_tree}
use Rattle.table_nodes.specs.TableNodes.{Guard, Set, alone, guard_instr, guarded, set_guards, ports_from}
use Rattle.table_nodes.specs.Codes.{code_before}

pub before_more : (is : List InstrTree) (i : InstrTree) (last : CodeTree) → code_before (is ++ i ∷ []) last ≡ code_before is (instr_and i last)
before_more [] i last = refl
before_more (j ∷ is) i last = ap (instr_and j) (before_more is i last)

pub code_is : (is : List InstrTree) → code_of is ≡ code_before is no_code
code_is [] = refl
code_is (i ∷ is) = ap (instr_and i) (code_is is)

pub no_guard : (d : Target) (port : ℕ) (set : Set) (sets : List Set) → length set ≡ 0 → set_guards d port (set ∷ sets) ≡ set_guards d (suc port) sets
no_guard d port [] sets none = refl
no_guard d port (r ∷ rs) sets none = absurd (omega (arith, none))

pub one_guard : (d : Target) (port : ℕ) (set : Set) (sets : List Set) → 0 < length set
    → set_guards d port (set ∷ sets) ≡ (member (reading d) set, port) ∷ set_guards d (suc port) sets
one_guard d port [] sets some = absurd (omega (arith, some))
one_guard d port (r ∷ rs) sets some = refl

pub ports_more : (port n : ℕ) → ports_from port (suc n) ≡ ports_from port n ++ (port + n) ∷ []
ports_more port zero = let e : port + 0 ≡ port = omega arith in ap (λ p. p ∷ []) (sym e)
ports_more port (suc n) = let e : suc port + n ≡ port + suc n = omega arith in ap (λ ps. port ∷ ps) (ports_more (suc port) n ∙ ap (λ p. ports_from (suc port) n ++ p ∷ []) e)

pub guarded_rows : {A : Type 0} (f : A → Guard) (rows : List A) (last : CodeTree)
    → code_before (map (λ row. guard_instr (f row)) rows) last ≡ guarded (map f rows) last
guarded_rows f [] last = refl
guarded_rows f (row ∷ rows) last = ap (instr_and (guard_instr (f row))) (guarded_rows f rows last)

pub ports_next : (n : ℕ) → ports_from 0 (n + 1) ≡ ports_from 0 n ++ n ∷ []
ports_next n = let e : 0 + n ≡ n = omega arith in rw add-one (ports_more 0 n ∙ ap (λ p. ports_from 0 n ++ p ∷ []) e)

pub last_added : (code : List Instr) (i : Instr) → code_tree (code ++ i ∷ []) ≡ code_before (map instr_tree code) (alone (instr_tree i))
last_added code i =
    code_is (map instr_tree (code ++ i ∷ [])) ∙ ap (λ is. code_before is no_code) (map-append instr_tree code (i ∷ []))
    ∙ before_more (map instr_tree code) (instr_tree i) no_code

module _ (d : Target) (code : List Instr) (i : Instr) (port : ℕ) (set : Set) (is : instr_tree i ≡ guard_instr (member (reading d) set, port)) (some : 0 < length set) where
  pub guard_added : (sets : List Set) (last : CodeTree) → code_before (map instr_tree (code ++ i ∷ [])) (guarded (set_guards d (port + 1) sets) last)
      ≡ code_before (map instr_tree code) (guarded (set_guards d port (set ∷ sets)) last)
  guard_added sets last =
      let e : port + 1 ≡ suc port = omega arith in
      ap (λ is. code_before is (guarded (set_guards d (port + 1) sets) last)) (map-append instr_tree code (i ∷ []))
      ∙ before_more (map instr_tree code) (instr_tree i) (guarded (set_guards d (port + 1) sets) last)
      ∙ ap (λ t. code_before (map instr_tree code) (instr_and t (guarded (set_guards d (port + 1) sets) last))) is
      ∙ ap (λ p. code_before (map instr_tree code) (guarded ((member (reading d) set, port) ∷ set_guards d p sets) last)) e
      ∙ ap (λ gs. code_before (map instr_tree code) (guarded gs last)) (sym (one_guard d port set sets some))
