-- Faults come in the order of the text.
use Rattle.std.proofs.Common.{◌≡◌, ℕ, List, [], ◌∷◌, ◌++◌, refl, sym, ap, ap₂, ◌∙◌, Option, None, Some, Result, Ok, Err}
use Rattle.sn_width.specs.declared.faults.LayoutFault.{LayoutFault}
use Rattle.sefl_syntax.specs.declared.reference.Target.{Target}
use Rattle.sefl_syntax.specs.Trees.{ExprTree, constant, reading, sum, SummandTrees, no_summands, summand, CondTree, always, compare, member, all_of, any_of, negation, CondTrees, no_conds, cond_and}
use Rattle.cell_stacks.specs.Outcome.{and_then, on_ok}
use Rattle.job_items.specs.Atoms.{Atom, expr_reads, summand_reads, comparison, membership, cond_atoms, conds_atoms}
use Rattle.job_items.specs.AtomRules.{atom_width}
use Rattle.sefl_meaning.specs.Values.{Values}
use Rattle.sefl_meaning.specs.Carried.{Carried, Scene, read_at}
use Rattle.sefl_meaning.specs.Terms.{joined, value_in, sum_in, truth_in, truths_in}
use Rattle.sefl_meaning.specs.Faults.{fault_of, earlier, reads_fault, atoms_fault}

fault_then : {A B : Type 0} (r : Result A LayoutFault) (next : A → Result B LayoutFault) (later : Option LayoutFault) →
    ((x : A) → fault_of (next x) ≡ later) → fault_of (and_then r next) ≡ earlier (fault_of r) later
fault_then (Ok x) next later h = h x
fault_then (Err fault) next later h = refl

fault_on : {A B : Type 0} (f : A → B) (r : Result A LayoutFault) → fault_of (on_ok f r) ≡ fault_of r
fault_on f (Ok x) = refl
fault_on f (Err fault) = refl

earlier_none : (a : Option LayoutFault) → a ≡ earlier a None
earlier_none None = refl
earlier_none (Some fault) = refl

earlier_assoc : (a b c : Option LayoutFault) → earlier a (earlier b c) ≡ earlier (earlier a b) c
earlier_assoc None b c = refl
earlier_assoc (Some fault) b c = refl

module _ {V F : Type 0} (o : Values V F) (at : Scene) (s : Carried V) where
  reads_append : (w : ℕ) (xs ys : List Target) →
      reads_fault at w (xs ++ ys) s ≡ earlier (reads_fault at w xs s) (reads_fault at w ys s)
  reads_append w [] ys = refl
  reads_append w (target ∷ xs) ys =
      ap (earlier (fault_of (read_at at w target s))) (reads_append w xs ys)
      ∙ earlier_assoc (fault_of (read_at at w target s)) (reads_fault at w xs s) (reads_fault at w ys s)

  atoms_append : (xs ys : List Atom) → atoms_fault at (xs ++ ys) s ≡ earlier (atoms_fault at xs s) (atoms_fault at ys s)
  atoms_append [] ys = refl
  atoms_append (a ∷ xs) ys =
      ap (earlier (reads_fault at (atom_width a) a.reads s)) (atoms_append xs ys)
      ∙ earlier_assoc (reads_fault at (atom_width a) a.reads s) (atoms_fault at xs s) (atoms_fault at ys s)

  mutual
    pub value_fault : (w : ℕ) (e : ExprTree) → fault_of (value_in o at w e s) ≡ reads_fault at w (expr_reads e) s
    value_fault w (constant n) = refl
    value_fault w (reading target) = earlier_none (fault_of (read_at at w target s))
    value_fault w (sum first rest) =
        fault_then (value_in o at w first s) (λ a. sum_in o at w a rest s) (reads_fault at w (summand_reads rest) s)
        (λ a. sum_fault w a rest)
        ∙ ap (λ z. earlier z (reads_fault at w (summand_reads rest) s)) (value_fault w first)
        ∙ sym (reads_append w (expr_reads first) (summand_reads rest))

    sum_fault : (w : ℕ) (a : V) (rest : SummandTrees) →
        fault_of (sum_in o at w a rest s) ≡ reads_fault at w (summand_reads rest) s
    sum_fault w a no_summands = refl
    sum_fault w a (summand sign e rest) =
        fault_then (value_in o at w e s) (λ b. sum_in o at w (joined o w sign a b) rest s)
        (reads_fault at w (summand_reads rest) s)
        (λ b. sum_fault w (joined o w sign a b) rest)
        ∙ ap (λ z. earlier z (reads_fault at w (summand_reads rest) s)) (value_fault w e)
        ∙ sym (reads_append w (expr_reads e) (summand_reads rest))

  mutual
    pub truth_fault : (test : CondTree) → fault_of (truth_in o at test s) ≡ atoms_fault at (cond_atoms test) s
    truth_fault always = refl
    truth_fault (compare rel left right) =
        let w : ℕ = atom_width (comparison left right) in
        fault_then (value_in o at w left s) (λ a. on_ok (o.compare w rel a) (value_in o at w right s))
        (fault_of (value_in o at w right s))
        (λ a. fault_on (o.compare w rel a) (value_in o at w right s))
        ∙ ap₂ earlier (value_fault w left) (value_fault w right)
        ∙ sym (reads_append w (expr_reads left) (expr_reads right))
        ∙ earlier_none (reads_fault at w (expr_reads left ++ expr_reads right) s)
    truth_fault (member value ranges) =
        let w : ℕ = atom_width (membership value ranges) in
        fault_on (λ a. o.member w a ranges) (value_in o at w value s) ∙ value_fault w value ∙ earlier_none
        (reads_fault at w (expr_reads value) s)
    truth_fault (all_of conds) = fault_on o.all_of (truths_in o at conds s) ∙ truths_fault conds
    truth_fault (any_of conds) = fault_on o.any_of (truths_in o at conds s) ∙ truths_fault conds
    truth_fault (negation c) = fault_on o.negation (truth_in o at c s) ∙ truth_fault c

    truths_fault : (conds : CondTrees) → fault_of (truths_in o at conds s) ≡ atoms_fault at (conds_atoms conds) s
    truths_fault no_conds = refl
    truths_fault (cond_and c conds) =
        fault_then (truth_in o at c s) (λ t. on_ok (λ ts. t ∷ ts) (truths_in o at conds s))
        (fault_of (truths_in o at conds s))
        (λ t. fault_on (λ ts. t ∷ ts) (truths_in o at conds s))
        ∙ ap₂ earlier (truth_fault c) (truths_fault conds)
        ∙ sym (atoms_append (cond_atoms c) (conds_atoms conds))
