use Rattle.std.proofs.Common.{rules, ◌≡◌, reverse, subst, length}
use Rattle.sefl_grammar.specs.Words.{words_of}
use Rattle.sefl_grammar.proofs.Examined.{Stands, refused, next_stands, ended, word_there, count_words, is_taken, is_refused, are_words}
use Rattle.sefl_grammar.proofs.Judged.{judged, unexpected}
use Rattle.sefl_grammar.proofs.examination.examine.Goals as goal

pub returns-then-not-branch : goal.returns-then-not-branch
returns-then-not-branch c =
    unexpected (words_of c.args.text.now c.args.tokens.now) (are_words c.args.text.now c.args.tokens.now c.requires) c.loop-place.place (refused _ _ _ _ _ c.loop-place.invariant (word_there c.args.text.now c.args.tokens.now c.loop-place.place _ c.loop-place-test.true)
    (is_refused c.in_ok-take_token.field-0 _ _ (search rules) c.in_ok-take_token.ensures))

pub loop-place-preserved : goal.loop-place-preserved
loop-place-preserved c =
    rw (c.noted-deep.ensures, c.deref.ensures.value) (next_stands _ _ _ _ _ _ c.loop-place.invariant (word_there c.args.text.now c.args.tokens.now c.loop-place.place _ c.loop-place-test.true)
    (is_taken c.in_ok-take_token.field-0 _ _ (search rules) c.in_ok-take_token.ensures))

pub returns : goal.returns
returns c =
    let words = words_of c.args.text.now c.args.tokens.now in
    let at_end : c.loop-place.place ≡ length c.args.tokens.now = search rules in
    let stands : Stands words (length c.args.tokens.now) (reverse c.loop-place.stack.items) c.loop-place.deep =
    subst (λ n. Stands words n (reverse c.loop-place.stack.items) c.loop-place.deep) at_end c.loop-place.invariant in
    judged words (are_words c.args.text.now c.args.tokens.now c.requires) _ (rw c.found_at_end.ensures (ended words _ _ _ (count_words c.args.text.now c.args.tokens.now) stands))
