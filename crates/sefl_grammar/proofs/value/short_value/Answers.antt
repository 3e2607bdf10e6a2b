use Rattle.std.proofs.Common.{◌≡◌, ◌∙◌, length, take, get_or, ap, arith, rules, ◌+◌, ◌*◌, true}
use Rattle.std.specs.Char.{digit_value}
use Rattle.std.proofs.lemmas.Grind.{common_steps}
use Rattle.std.proofs.Math.Seq.{take-length}
use Rattle.sefl_lex.specs.Bytes.{is_decimal}
use Rattle.sefl_grammar.proofs.Values.{is_value, more_digits, more_value}
use Rattle.sefl_grammar.proofs.value.short_value.Goals as goal

pub loop-byte-preserved : goal.loop-byte-preserved
loop-byte-preserved c =
    let decimal : is_decimal (get_or c.args.word.now c.loop-byte.byte-index 0) ≡ true = grind (arith, common_steps) in
    let digit_is : c.in_ok-digit.digit ≡ digit_value (get_or c.args.word.now c.loop-byte.byte-index 0) = grind (arith, common_steps) in
    record {
      digits = more_digits c.loop-byte.byte-index c.args.word.now (omega arith) decimal c.loop-byte.invariant.digits;
      value =
          let value_is : c.in_ok-value.value ≡ c.loop-byte.value * 10 + c.in_ok-digit.digit = search (rules, c.in_ok-value.ensures) in
          value_is ∙ more_value c.loop-byte.byte-index c.loop-byte.value c.in_ok-digit.digit c.args.word.now (omega arith) c.loop-byte.invariant.value digit_is;
    }

pub returns : goal.returns
returns c =
    let at_end : c.loop-byte.byte-index ≡ length c.args.word.now = omega arith in
    let whole : take c.loop-byte.byte-index c.args.word.now ≡ c.args.word.now = ap (λ n. take n c.args.word.now) at_end ∙ take-length c.args.word.now in
    c.loop-byte.invariant.value ∙ (rw whole (is_value c.args.word.now (rw whole at c.loop-byte.invariant.digits)))
