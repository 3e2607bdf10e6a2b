use Rattle.std.proofs.Common.{sym, subst}
use Rattle.compare_meaning.specs.Facing.{joined}
use Rattle.net_compare.specs.Apart.{TellsApart}
use Rattle.net_compare.specs.Facings.{TellsOpen}
use Rattle.net_compare.specs.Saying.{Says, seen_path}
use Rattle.net_compare.proofs.Joined.{open_told}
use Rattle.net_compare.proofs.facing.are_open.Goals as goal

pub returns-then-branch : goal.returns-then-branch
returns-then-branch c =
    let p = seen_path c.args.path.now in
    let q = seen_path c.args.other.now in
    let apart = subst (TellsApart p q) c.if-branch.true c.in_ok-are_domains_apart.ensures in
    c.paths_with_domains_apart_do_not_face.ensures.apart p q apart.0 c.requires.agree c.requires.path.typed c.requires.other.typed apart.1.one apart.1.other apart.1.none

pub returns : goal.returns
returns c =
    let both = joined (seen_path c.args.path.now) (seen_path c.args.other.now) in
    let says = subst (λ x. Says x c.in_ok-judged.judged) c.in_ok-both.ensures.joined c.in_ok-judged.ensures in
    subst (TellsOpen both) (sym c.is_open.ensures) (open_told c.verdicts_on_trees_are_exact.ensures both c.in_ok-judged.judged says)
