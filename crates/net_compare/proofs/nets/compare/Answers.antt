use Rattle.std.proofs.Common.{◌≡◌, ◌∙◌, ◌++◌, Some, length, map, ap, rules, sym, subst}
use Rattle.net_check.specs.Network.{entry, network}
use Rattle.compare_meaning.specs.Clashes.{IsFirstClash, NoneClash}
use Rattle.compare_meaning.specs.Comparing.{IsKnown}
use Rattle.net_compare.specs.Clashing.{TellsClash, shifted}
use Rattle.net_compare.specs.Saying.{compared_seen, seen_path}
use Rattle.net_compare.proofs.ClashLemmas.{unshifted}
use Rattle.net_compare.proofs.NetLemmas.{answered, both_are}
use Rattle.net_compare.proofs.nets.compare.Goals as goal

pub paths_of-requires-clause-exact : goal.paths_of-requires-clause-exact
paths_of-requires-clause-exact c = (c.requires.left.limit, c.requires.left.exact)

pub paths_of-requires-2-clause-exact : goal.paths_of-requires-2-clause-exact
paths_of-requires-2-clause-exact c = (c.requires.right.limit, c.requires.right.exact)

pub returns-in-Some : goal.returns-in-Some
returns-in-Some c =
    let lefts = map seen_path c.deref.result.now in
    let rights = map seen_path c.deref-2.result.now in
    let left = ap (map seen_path) c.deref.ensures.value ∙ c.in_ok-own.ensures.paths in
    let right = ap (map seen_path) c.deref-2.ensures.value ∙ c.in_ok-others.ensures.paths in
    let n = c.len.result in
    let counted : n ≡ length c.args.lefts.now.records.items = search rules in
    let clash : TellsClash (lefts ++ map (shifted n) rights) (Some (c.in-Some.one, c.in-Some.other)) =
    subst (TellsClash (lefts ++ map (shifted n) rights)) c.in-Some.is c.in_ok-one.ensures in (
      c.same_injection.ensures.0 c.if-not-same_injection.false,
      subst (λ ps. IsFirstClash ps c.in-Some.one c.in-Some.other)
          (both_are c.args.hops (network c.args.left.now.net) (network c.args.right.now.net) (entry c.args.left.now.injection) (entry c.args.right.now.injection)
          c.args.lefts.now.records.items c.args.rights.now.records.items lefts rights left right n counted) clash,
    )

pub compare_paths-requires-clause-none : goal.compare_paths-requires-clause-none
compare_paths-requires-clause-none c =
    let lefts = map seen_path c.deref.result.now in
    let rights = map seen_path c.deref-2.result.now in
    let n = c.len.result in
    let none : NoneClash (lefts ++ map (shifted n) rights) = subst (TellsClash (lefts ++ map (shifted n) rights)) c.in_default.is c.in_ok-one.ensures in
    subst (λ ls. NoneClash (map seen_path ls ++ map seen_path c.deref-4.result.now)) (c.deref.ensures.value ∙ sym c.deref-3.ensures.value)
    (subst (λ rs. NoneClash (lefts ++ map seen_path rs)) (c.deref-2.ensures.value ∙ sym c.deref-4.ensures.value) (unshifted n lefts rights none))

pub returns : goal.returns
returns c =
    let lefts = map seen_path c.in_ok-own.own.items in
    let rights = map seen_path c.in_ok-others.others.items in
    let n = c.len.result in
    let counted : n ≡ length c.args.lefts.now.records.items = search rules in
    let answer = compared_seen c.in_ok-compared.compared in
    let told = subst (TellsClash (map seen_path c.deref.result.now ++ map (shifted n) (map seen_path c.deref-2.result.now))) c.in_default.is c.in_ok-one.ensures in
    let none : NoneClash (lefts ++ map (shifted n) rights) =
    subst (λ ls. NoneClash (map seen_path ls ++ map (shifted n) rights)) c.deref.ensures.value
    (subst (λ rs. NoneClash (map seen_path c.deref.result.now ++ map (shifted n) (map seen_path rs))) c.deref-2.ensures.value told) in
    let known : IsKnown lefts rights answer =
    subst (λ ls. IsKnown (map seen_path ls) rights answer) c.deref-3.ensures.value
    (subst (λ rs. IsKnown (map seen_path c.deref-3.result.now) (map seen_path rs) answer) c.deref-4.ensures.value c.in_ok-compared.ensures) in
    answered c.args.hops (network c.args.left.now.net) (network c.args.right.now.net) (entry c.args.left.now.injection) (entry c.args.right.now.injection)
    c.args.lefts.now.records.items c.args.rights.now.records.items lefts rights c.in_ok-own.ensures.paths c.in_ok-others.ensures.paths
    (c.known_comparisons_are_right.ensures c.args.hops) c.what_is_known_is_the_comparison.ensures (c.same_injection.ensures.0 c.if-not-same_injection.false)
    c.requires.left c.requires.right n counted none answer known
