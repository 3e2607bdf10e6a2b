use Rattle.std.proofs.Common.{◌≡◌, true, length, ◌<◌, arith}
use Rattle.std.proofs.lemmas.List.Elements.{All-rest}
use Rattle.sefl_lex.specs.Words.{is_name}
use Rattle.click_text.specs.declared.item.Item.{Item}
use Rattle.click_model.proofs.UseLemmas.{first_of, one_more}
use Rattle.click_model.proofs.connect.connect_all.Goals as goal

pub loop-left-preserved : goal.loop-left-preserved
loop-left-preserved c =
    let left = c.loop-left.left.now in
    let some : 0 < length c.loop-left.left.now = omega (arith, c.in-len1-up.len_at_least) in
    let first = first_of left c.first_of.result some c.first_of.ensures in
    record {
      goes = one_more c.args.names.now.entries left c.first_of.result _ _ _ _ first c.loop-left.invariant.goes c.joined_to.ensures.item c.in_ok-take.ensures;
      named = All-rest (λ (x : Item). is_name x.name.now ≡ true) c.first_of.result _ left first c.loop-left.invariant.named;
    }
