use Rattle.std.proofs.Common.{rules, ◌≡◌, ◌∙◌, ◌+◌, ◌∷◌, take, drop, sym, arith}
use Rattle.click_text.proofs.TokenLemmas.{gap_first, token_first, split_sizes}
use Rattle.click_text.proofs.token.next_token.Goals as goal

pub returns-in-Some-token-clause-more : goal.returns-in-Some-token-clause-more
returns-in-Some-token-clause-more c =
    let is : c.loop-first.left.now ≡ c.in-Some.first.now ∷ c.in-Some.rest.now = search rules in
    let word : c.split_at.result.0.now ≡ take (c.front_of-front.result.more + 1) c.loop-first.left.now = c.split_at.ensures.front in
    let behind : c.split_at.result.1.now ≡ drop (c.front_of-front.result.more + 1) c.loop-first.left.now = c.split_at.ensures.back in
    sym c.loop-first.invariant.goes
    ∙ token_first c.loop-first.number c.in-Some.first.now c.line_behind-next.result c.loop-first.left.now c.in-Some.rest.now c.split_at.result.0.now c.split_at.result.1.now
    c.front_of-front.result is c.front_of-front.ensures.front word behind c.line_behind-next.ensures.line c.in-Some-token.kind c.in-Some-token.is

pub loop-first-preserved : goal.loop-first-preserved
loop-first-preserved c =
    let is : c.loop-first.left.now ≡ c.in-Some.first.now ∷ c.in-Some.rest.now = search rules in
    let word : c.split_at.result.0.now ≡ take (c.front_of-front.result.more + 1) c.loop-first.left.now = c.split_at.ensures.front in
    let behind : c.split_at.result.1.now ≡ drop (c.front_of-front.result.more + 1) c.loop-first.left.now = c.split_at.ensures.back in
    let sizes = split_sizes c.front_of-front.result.more c.in-Some.first.now c.loop-first.left.now c.in-Some.rest.now c.split_at.result.0.now c.split_at.result.1.now is c.front_of-front.ensures.within word behind in
    record {
      goes = sym (gap_first c.loop-first.number c.in-Some.first.now c.line_behind-next.result c.loop-first.left.now c.in-Some.rest.now c.split_at.result.0.now c.split_at.result.1.now
          c.front_of-front.result is c.front_of-front.ensures.front word behind c.line_behind-next.ensures.line c.in_default-token.is)
          ∙ c.loop-first.invariant.goes;
      room = omega (arith, sizes, c.line_behind-next.ensures.within, c.loop-first.invariant.room);
      shorter = omega (arith, sizes, c.loop-first.invariant.shorter);
    }
