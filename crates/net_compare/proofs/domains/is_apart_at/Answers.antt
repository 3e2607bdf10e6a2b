use Rattle.std.proofs.Common.{◌≡◌, ◌∙◌, Some, eqb-true, rules, slice_get, sym}
use Rattle.std.proofs.lemmas.List.{nil_from_length}
use Rattle.net_compare.proofs.ApartLemmas.{has_symbol, none_in_both}
use Rattle.net_compare.proofs.domains.is_apart_at.Goals as goal

pub returns : goal.returns
returns c = λ e.
    let path = c.args.path.now in
    let other = c.args.other.now in
    let s = c.args.symbol in
    let one = c.in-Some-Some.one.now in
    let two = c.in-Some-Some.two.now in
    let first : slice_get path.domains.now s.0 ≡ Some one = search rules in
    let second : slice_get other.domains.now s.0 ≡ Some two = search rules in
    let none = nil_from_length c.in_ok-both.both.pairs (eqb-true _ _ (sym c.is_empty.ensures ∙ e)) in
    record {
      one = has_symbol path.condition.now path.domains.now c.requires.path s one first;
      other = has_symbol other.condition.now other.domains.now c.requires.other s two second;
      none = none_in_both path.condition.now other.condition.now one two c.in_ok-both.both s
          (c.a_condition_is_judged_by_its_trees.ensures path.condition.now) (c.a_condition_is_judged_by_its_trees.ensures other.condition.now)
          c.in_ok-both.ensures none (c.requires.path.domains s one first).members (c.requires.other.domains s two second).members;
    }
