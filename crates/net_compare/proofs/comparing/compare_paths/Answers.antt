use Rattle.std.proofs.Common.{◌≡◌, ◌∙◌, ◌++◌, arith, eqb-true, length, map, sym, subst}
use Rattle.std.proofs.lemmas.List.{nil_from_length}
use Rattle.net_compare.specs.Saying.{Tells, seen_path}
use Rattle.net_compare.proofs.Fitting.{first_fit_last, fit_turned, together, together_first, together_last}
use Rattle.net_compare.proofs.Telling.{those_out, those_unmet}
use Rattle.net_compare.proofs.comparing.compare_paths.Goals as goal

pub returns-in-Met-2 : goal.returns-in-Met-2
returns-in-Met-2 c =
    let lefts = map seen_path c.args.lefts.now in
    let rights = map seen_path c.args.rights.now in (
      those_unmet rights lefts c.in-Open.numbers.items (subst (Tells rights lefts) c.in-Open.is c.in_ok-number.ensures),
      subst (Tells lefts rights) c.in-Met-2.is c.in_ok-number-2.ensures,
    )

pub returns-then-is_empty-2 : goal.returns-then-is_empty-2
returns-then-is_empty-2 c =
    let lefts = map seen_path c.args.lefts.now in
    let rights = map seen_path c.args.rights.now in
    let one = eqb-true _ _ (sym c.is_empty.ensures ∙ c.if-is_empty.true) in
    let other = eqb-true _ _ (sym c.is_empty-then-is_empty.ensures ∙ c.if-is_empty-2.true) in
    let no_left : length c.in-Open.numbers.items ≡ 0 = omega (arith, one, c.in-Open.numbers.ok.0) in
    let no_right : length c.in-Open-2.numbers.items ≡ 0 = omega (arith, other, c.in-Open-2.numbers.ok.0) in (
      those_out rights lefts c.in-Open.numbers.items (nil_from_length c.in-Open.numbers.items no_left) (subst (Tells rights lefts) c.in-Open.is c.in_ok-number.ensures),
      those_out lefts rights c.in-Open-2.numbers.items (nil_from_length c.in-Open-2.numbers.items no_right) (subst (Tells lefts rights) c.in-Open-2.is c.in_ok-number-2.ensures),
    )

pub tell-requires-clause-fit : goal.tell-requires-clause-fit
tell-requires-clause-fit c =
    let lefts = map seen_path c.args.lefts.now in
    let rights = map seen_path c.args.rights.now in
    first_fit_last lefts rights (together c.paths_that_do_not_clash_agree.ensures (lefts ++ rights) c.requires.none)

pub tell-requires-clause-together : goal.tell-requires-clause-together
tell-requires-clause-together c =
    let lefts = map seen_path c.args.lefts.now in
    let rights = map seen_path c.args.rights.now in
    together_last lefts rights (together c.paths_that_do_not_clash_agree.ensures (lefts ++ rights) c.requires.none)

pub tell-requires-2-clause-fit : goal.tell-requires-2-clause-fit
tell-requires-2-clause-fit c =
    let lefts = map seen_path c.args.lefts.now in
    let rights = map seen_path c.args.rights.now in
    fit_turned lefts rights (first_fit_last lefts rights (together c.paths_that_do_not_clash_agree.ensures (lefts ++ rights) c.requires.none))

pub tell-requires-2-clause-together : goal.tell-requires-2-clause-together
tell-requires-2-clause-together c =
    let lefts = map seen_path c.args.lefts.now in
    let rights = map seen_path c.args.rights.now in
    together_first lefts rights (together c.paths_that_do_not_clash_agree.ensures (lefts ++ rights) c.requires.none)
