use Rattle.std.proofs.Common.{◌≡◌, ◌++◌, true, subst}
use Rattle.std.specs.List.{list_all}
use Rattle.path_cond.specs.Seen.{entry_holds, itself}
use Rattle.net_compare.specs.Rows.{row_seen}
use Rattle.net_compare.specs.Weighing.{whole_seen}
use Rattle.net_compare.proofs.WeighLemmas as lemmas
use Rattle.net_compare.proofs.WeighLemmas.{pass_both}
use Rattle.net_compare.proofs.missing.met_by.Goals as goal

pub returns-then-all_agree-2 : goal.returns-then-all_agree-2
returns-then-all_agree-2 c =
    let w = c.args.whole.now in
    let values = c.args.values in
    let firsts = row_seen w.firsts.now in
    let seconds = row_seen w.seconds.now in
    let one = subst (λ vs. list_all (entry_holds itself vs) firsts ≡ true) c.as_slice.ensures (c.all_agree.ensures c.if-all_agree.true) in
    let two = subst (λ vs. list_all (entry_holds itself vs) seconds ≡ true) c.as_slice-then-all_agree.ensures (c.all_agree-then-all_agree.ensures c.if-all_agree-2.true) in
    lemmas.met_by (whole_seen w) values (c.is_small.ensures c.if-not-is_small.false (firsts ++ seconds)) c.requires (pass_both (entry_holds itself values) firsts seconds one two)
