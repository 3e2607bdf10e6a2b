use Rattle.std.proofs.Common.{◌≡◌, ◌∙◌, ◌+◌, ◌≤◌, ℕ, arith, drop, get_or, length, map, sym, ap, subst}
use Rattle.compare_meaning.specs.Clashes.{IsFirstClash, IsFirstWith}
use Rattle.net_compare.specs.Clashing.{numbered_path}
use Rattle.net_compare.specs.Saying.{seen_path}
use Rattle.net_compare.proofs.ClashLemmas.{ClashOn, first_two_here, same_there, take_rest}
use Rattle.net_compare.proofs.SliceLemmas.{split_mapped}
use Rattle.net_compare.proofs.clashes.first_clash.Goals as goal

pub returns-in-Some-clause-some : goal.returns-in-Some-clause-some
returns-in-Some-clause-some c =
    let paths = c.args.paths.now in
    let n = c.loop-at.at in
    let d = c.index-paths-at.result in
    let rest = map numbered_path (drop (n + 1) paths) in
    let past : n + 1 ≤ length paths = omega (arith, c.loop-at-test.true) in
    let on = subst (ClashOn (map numbered_path paths)) (split_mapped numbered_path paths n d c.loop-at-test.true c.index-paths-at.is) c.loop-at.invariant in
    let with' = subst (λ x. IsFirstWith (seen_path x.1.now) rest c.in-Some.other) (sym c.index-paths-at.is)
    (subst (λ xs. IsFirstWith (seen_path (get_or paths n d).1.now) (map numbered_path xs) c.in-Some.other) (take_rest paths (n + 1) past) c.in-Some.ensures) in
    let e = c.index-paths-at-in-Some.result in
    let same : d.0 ≡ (get_or paths n e).0 = ap (λ x. x.0) (c.index-paths-at.is ∙ same_there paths n d e c.loop-at-test.true) in
    subst {A = ℕ} (λ k. IsFirstClash (map numbered_path paths) k c.in-Some.other) same
    (first_two_here (map numbered_path paths) (numbered_path d) rest on c.in-Some.other with')
