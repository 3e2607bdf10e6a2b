-- What is read in states that are alike, and the truths of tests there.
use Rattle.std.proofs.Common.{◌≡◌, refl, ap, ℕ, ◌∷◌, ok_or}
use Rattle.std.specs.List.{AllByRecursion}
use Rattle.std.specs.Ordering.{int_cmp}
use Rattle.sn_width.specs.declared.faults.LayoutFault.TheVariants.{NoField, NoMeta, Unset}
use Rattle.sn_width.specs.declared.ids.NodeId.{NodeId}
use Rattle.sefl_syntax.specs.declared.reference.Target.{Target}
use Rattle.sefl_syntax.specs.declared.reference.Target.TheVariants.{Header, Meta, Bound}
use Rattle.sefl_syntax.specs.Trees.{ExprTree, constant, reading, sum, SummandTrees, no_summands, summand, CondTree, always, compare, member, all_of, any_of, negation, CondTrees, no_conds, cond_and}
use Rattle.cell_stacks.specs.Cells.{top_cell, top_value}
use Rattle.cell_stacks.specs.Outcome.{and_then, on_ok}
use Rattle.job_items.specs.AtomRules.{atom_width}
use Rattle.job_items.specs.Atoms.{Atom, comparison, cond_atoms, conds_atoms, expr_reads, membership, summand_reads}
use Rattle.sefl_meaning.specs.Carried.{Carried, read_at, scene_at}
use Rattle.sefl_meaning.specs.Laws.{StackLaws}
use Rattle.sefl_meaning.specs.Network.{Network}
use Rattle.sefl_meaning.specs.Terms.{joined, sum_in, truth_in, truths_in, value_in}
use Rattle.sefl_meaning.specs.Values.{Values}
use Rattle.same_injections.proofs.Names.{all_first, all_later}
use Rattle.same_injections.proofs.Steps.{Alike, KnownTarget, address_alike}

module _ (a b : Network) (m n : NodeId) {V F : Type 0} (laws : StackLaws V) (o : Values V F) (s t : Carried V) (alike : Alike a b m n V s t) where
  read_alike : (w : ℕ) (target : Target) → KnownTarget a b m n target → read_at (scene_at a m) w target s ≡ read_at (scene_at b n) w target t
  read_alike w (Header addr width) k =
      let address = address_alike a b m n laws s t alike addr k.0 in
      λ i. and_then (address i) (λ x. top_value int_cmp NoField x w (alike.heads i))
  read_alike w (Meta scope name width) k = ap (λ stack. and_then (top_cell NoMeta w stack) (λ top. ok_or top.value Unset)) (alike.metas scope name k.1.0)
  read_alike w (Bound var width) k = refl

  mutual
    value_alike : (w : ℕ) (e : ExprTree) → AllByRecursion (KnownTarget a b m n) (expr_reads e)
        → value_in o (scene_at a m) w e s ≡ value_in o (scene_at b n) w e t
    value_alike w (constant number) k = refl
    value_alike w (reading target) k = read_alike w target k.0
    value_alike w (sum first rest) k =
        let here = value_alike w first (all_first (KnownTarget a b m n) (expr_reads first) (summand_reads rest) k) in
        let more = sum_alike w rest (all_later (KnownTarget a b m n) (expr_reads first) (summand_reads rest) k) in
        λ i. and_then (here i) (λ x. more x i)

    sum_alike : (w : ℕ) (rest : SummandTrees) → AllByRecursion (KnownTarget a b m n) (summand_reads rest)
        → (x : V) → sum_in o (scene_at a m) w x rest s ≡ sum_in o (scene_at b n) w x rest t
    sum_alike w no_summands k x = refl
    sum_alike w (summand sign e rest) k x =
        let here = value_alike w e (all_first (KnownTarget a b m n) (expr_reads e) (summand_reads rest) k) in
        let more = sum_alike w rest (all_later (KnownTarget a b m n) (expr_reads e) (summand_reads rest) k) in
        λ i. and_then (here i) (λ y. more (joined o w sign x y) i)

  abbrev pub KnownAtom : Atom → Type 0
  KnownAtom atom = AllByRecursion (KnownTarget a b m n) atom.reads

  mutual
    pub truth_alike : (c : CondTree) → AllByRecursion KnownAtom (cond_atoms c) → truth_in o (scene_at a m) c s ≡ truth_in o (scene_at b n) c t
    truth_alike always k = refl
    truth_alike (compare rel left right) k =
        let w = atom_width (comparison left right) in
        let first = value_alike w left (all_first (KnownTarget a b m n) (expr_reads left) (expr_reads right) k.0) in
        let second = value_alike w right (all_later (KnownTarget a b m n) (expr_reads left) (expr_reads right) k.0) in
        λ i. and_then (first i) (λ x. on_ok (o.compare w rel x) (second i))
    truth_alike (member value ranges) k =
        let w = atom_width (membership value ranges) in
        ap (on_ok (λ x. o.member w x ranges)) (value_alike w value k.0)
    truth_alike (all_of conds) k = ap (on_ok o.all_of) (truths_alike conds k)
    truth_alike (any_of conds) k = ap (on_ok o.any_of) (truths_alike conds k)
    truth_alike (negation c) k = ap (on_ok o.negation) (truth_alike c k)

    truths_alike : (conds : CondTrees) → AllByRecursion KnownAtom (conds_atoms conds) → truths_in o (scene_at a m) conds s ≡ truths_in o (scene_at b n) conds t
    truths_alike no_conds k = refl
    truths_alike (cond_and c conds) k =
        let here = truth_alike c (all_first KnownAtom (cond_atoms c) (conds_atoms conds) k) in
        let more = truths_alike conds (all_later KnownAtom (cond_atoms c) (conds_atoms conds) k) in
        λ i. and_then (here i) (λ f. on_ok (λ fs. f ∷ fs) (more i))
