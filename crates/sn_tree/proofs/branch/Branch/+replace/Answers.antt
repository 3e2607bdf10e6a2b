use Rattle.std.proofs.Common.{rules, ◌≡◌, ◌+◌, max, OnOk, IsOk, ◌<◌, length, sym, subst, ap, ◌∙◌}
use Rattle.sn_tree.specs.Nodes.{IsBalanced, pairs_and_height, DifferByAtMost}
use Rattle.sn_tree.specs.Pairs.{pairs_with}
use Rattle.sn_tree.proofs.Around.{with_less_whole, with_greater_whole}
use Rattle.sn_tree.proofs.Owned.{at_owned, shorter_left, shorter_right, present_left, present_right, left_changed_ascends, right_changed_ascends, balanced_after, pairs_after_change, on_ok_map, set_balanced, set_pairs}
use Rattle.sn_tree.proofs.branch.Branch.+replace.Goals as goal
use Rattle.sn_tree.proofs.branch.Branch.+replace.Goals.{in-Less, in-Equal, in-Some-get_mut, in_default-get_mut+in_ok-node-in-Equal, in-Greater}

pub replace-requires : goal.replace-requires
replace-requires g t c κs within =
    let f = at_owned g.K.Ord.cmp c.args.self.now c.self.inside.node c.in-Some.held c.in_ok-node.node.now c.self.view_is c.self.invariant c.in-Some.is c.in_ok-node.ensures.value in
    let s : length c.in_ok-node.node.now.left.0 < length c.args.self.now.0 = shorter_left f.around in
    (search rules, (search rules, (search rules, present_left g.met.K.Ord.total f.around c.args.key (sym c.in-Less.ensures) c.requires.present)))

pub replace-requires-in-Greater : goal.replace-requires-in-Greater
replace-requires-in-Greater g t c κs within =
    let f = at_owned g.K.Ord.cmp c.args.self.now c.self.inside.node c.in-Some.held c.in_ok-node.node.now c.self.view_is c.self.invariant c.in-Some.is c.in_ok-node.ensures.value in
    let s : length c.in_ok-node.node.now.right.0 < length c.args.self.now.0 = shorter_right f.around in
    (search rules, (search rules, (search rules, present_right g.met.K.Ord.total f.around c.args.key (sym c.in-Greater.ensures) c.requires.present)))

pub invariant_of-self-2 : goal.invariant_of-self-2
invariant_of-self-2 g t c =
    let f = at_owned g.K.Ord.cmp c.args.self.now c.self.inside.node c.in-Some.held c.in_ok-node.node.now c.self.view_is c.self.invariant c.in-Some.is c.in_ok-node.ensures.value in
    let ok : IsOk c.make_mut.result = search rules in
    elim c.match-cmp.branch [
      | in-Less w ↦ subst (λ z. IsBalanced g.K.Ord.cmp z.node) (sym w.self-inside-is) (balanced_after g.K.Ord.cmp (c.make_mut.follows.lender _) _ (c.make_mut.follows.holds _ ok)
          (left_changed_ascends g.met.K.Ord.total f.around c.args.key w.replace.result c.args.value w.replace.new.self.0 (sym w.in-Less.ensures) w.replace.ensures.pairs w.replace.ensures.same)
          (f.height ∙ f.around.height ∙ ap (λ z. max z c.in_ok-node.node.now.right.1 + 1) (sym w.replace.ensures.height))
          (subst (λ z. DifferByAtMost 1 z c.in_ok-node.node.now.right.1) (sym w.replace.ensures.height) f.around.balanced))
      | in-Equal w ↦ elim w.match-get_mut.branch [
        | in-Some-get_mut w' ↦ subst (λ z. IsBalanced g.K.Ord.cmp z.node) (sym w.self-inside-is) (set_balanced g.met.K.Ord.total c.args.self.now c.in_ok-node.node.now w.match-get_mut.node c.args.key c.args.value (c.make_mut.follows.lender _) f (sym w.in-Equal.ensures)
            (ap (λ z. z.left) w'.node-is, ap (λ z. z.right) w'.node-is, ap (λ z. z.height) w'.node-is, ap (λ z. z.value.value) w'.node-is) (c.make_mut.follows.holds _ ok))
        | in_default-get_mut+in_ok-node-in-Equal w' ↦ subst (λ z. IsBalanced g.K.Ord.cmp z.node) (sym w.self-inside-is) (set_balanced g.met.K.Ord.total c.args.self.now c.in_ok-node.node.now w.match-get_mut.node c.args.key c.args.value (c.make_mut.follows.lender _) f (sym w.in-Equal.ensures)
            (ap (λ z. z.left) w'.node-is, ap (λ z. z.right) w'.node-is, ap (λ z. z.height) w'.node-is, ap (λ z. z.value.value) w'.node-is ∙ w'.in_ok-node-in-Equal.ensures.ok) (c.make_mut.follows.holds _ ok))
      ]
      | in-Greater w ↦ subst (λ z. IsBalanced g.K.Ord.cmp z.node) (sym w.self-inside-is) (balanced_after g.K.Ord.cmp (c.make_mut.follows.lender _) _ (c.make_mut.follows.holds _ ok)
          (right_changed_ascends g.met.K.Ord.total f.around c.args.key w.replace-in-Greater.result c.args.value w.replace-in-Greater.new.self.0 (sym w.in-Greater.ensures) w.replace-in-Greater.ensures.pairs w.replace-in-Greater.ensures.same)
          (f.height ∙ f.around.height ∙ ap (λ z. max c.in_ok-node.node.now.left.1 z + 1) (sym w.replace-in-Greater.ensures.height))
          (subst (λ z. DifferByAtMost 1 c.in_ok-node.node.now.left.1 z) (sym w.replace-in-Greater.ensures.height) f.around.balanced))
    ]

pub returns-clause-pairs : goal.returns-clause-pairs
returns-clause-pairs g t c =
    let f = at_owned g.K.Ord.cmp c.args.self.now c.self.inside.node c.in-Some.held c.in_ok-node.node.now c.self.view_is c.self.invariant c.in-Some.is c.in_ok-node.ensures.value in
    let ok : IsOk c.make_mut.result = search rules in
    elim c.match-cmp.branch [
      | in-Less w ↦ subst (λ r. OnOk r ((pairs_and_height c.match-cmp.self-inside.node).0 ≡ pairs_with g.K.Ord.cmp c.args.key c.args.value c.args.self.now.0)) (sym w.result-is)
          (on_ok_map w.replace.result (λ e. ap (λ z. (pairs_and_height z.node).0) w.self-inside-is ∙ pairs_after_change (c.make_mut.follows.lender _) _ (c.make_mut.follows.holds _ ok) ∙ with_less_whole g.met.K.Ord.total f.around c.args.key c.args.value _ (sym w.in-Less.ensures) e) w.replace.ensures.pairs)
      | in-Equal w ↦ subst (λ r. OnOk r ((pairs_and_height c.match-cmp.self-inside.node).0 ≡ pairs_with g.K.Ord.cmp c.args.key c.args.value c.args.self.now.0)) (sym w.result-is)
          (ap (λ z. (pairs_and_height z.node).0) w.self-inside-is ∙ (elim w.match-get_mut.branch [
            | in-Some-get_mut w' ↦ set_pairs g.met.K.Ord.total c.args.self.now c.in_ok-node.node.now w.match-get_mut.node c.args.key c.args.value (c.make_mut.follows.lender _) f (sym w.in-Equal.ensures)
                (ap (λ z. z.left) w'.node-is, ap (λ z. z.right) w'.node-is, ap (λ z. z.height) w'.node-is, ap (λ z. z.value.value) w'.node-is) (c.make_mut.follows.holds _ ok)
            | in_default-get_mut+in_ok-node-in-Equal w' ↦ set_pairs g.met.K.Ord.total c.args.self.now c.in_ok-node.node.now w.match-get_mut.node c.args.key c.args.value (c.make_mut.follows.lender _) f (sym w.in-Equal.ensures)
                (ap (λ z. z.left) w'.node-is, ap (λ z. z.right) w'.node-is, ap (λ z. z.height) w'.node-is, ap (λ z. z.value.value) w'.node-is ∙ w'.in_ok-node-in-Equal.ensures.ok) (c.make_mut.follows.holds _ ok)
          ]))
      | in-Greater w ↦ subst (λ r. OnOk r ((pairs_and_height c.match-cmp.self-inside.node).0 ≡ pairs_with g.K.Ord.cmp c.args.key c.args.value c.args.self.now.0)) (sym w.result-is)
          (on_ok_map w.replace-in-Greater.result (λ e. ap (λ z. (pairs_and_height z.node).0) w.self-inside-is ∙ pairs_after_change (c.make_mut.follows.lender _) _ (c.make_mut.follows.holds _ ok) ∙ with_greater_whole g.met.K.Ord.total f.around c.args.key c.args.value _ (sym w.in-Greater.ensures) e) w.replace-in-Greater.ensures.pairs)
    ]
