use Rattle.std.proofs.Common.{◌≡◌, ◌*◌, ◌+◌, ◌∙◌, length, take, get_or, ap, arith, rules}
use Rattle.std.specs.Char.{digit_value}
use Rattle.std.proofs.lemmas.Grind.{common_steps}
use Rattle.std.proofs.Math.Seq.{take-length}
use Rattle.sefl_lex.proofs.Numbers.{no_value-digit, no_value-step, value_step, all_digits_more, has_value}
use Rattle.sefl_lex.proofs.number.digits_value.Goals as goal

pub returns-in_err-digit-clause-none : goal.returns-in_err-digit-clause-none
returns-in_err-digit-clause-none c = grind (arith, common_steps, no_value-digit)

pub returns-in_err-value-clause-none : goal.returns-in_err-value-clause-none
returns-in_err-value-clause-none c =
    let digit_is : c.in_ok-digit.digit ≡ digit_value (get_or c.args.digits.now c.loop-byte.byte-index 0) = grind (arith, common_steps) in
    let none = no_value-step c.args.base c.loop-byte.byte-index c.loop-byte.value c.in_ok-digit.digit c.args.digits.now c.requires.least (omega arith) c.loop-byte.invariant.value digit_is c.in_err-value.ensures in
    search (rules, none)

pub loop-byte-preserved : goal.loop-byte-preserved
loop-byte-preserved c =
    let digit_is : c.in_ok-digit.digit ≡ digit_value (get_or c.args.digits.now c.loop-byte.byte-index 0) = grind (arith, common_steps) in
    record {
      digits = grind (arith, common_steps, all_digits_more);
      fits = search (rules, c.in_ok-value.ensures);
      value =
          let value_is : c.in_ok-value.value ≡ c.loop-byte.value * c.args.base + c.in_ok-digit.digit = search (rules, c.in_ok-value.ensures) in
          value_is ∙ value_step c.args.base c.loop-byte.byte-index c.loop-byte.value c.in_ok-digit.digit c.args.digits.now (omega arith) c.loop-byte.invariant.value digit_is;
    }

pub returns-clause-some : goal.returns-clause-some
returns-clause-some c =
    let at_end : c.loop-byte.byte-index ≡ length c.args.digits.now = omega arith in
    let whole : take c.loop-byte.byte-index c.args.digits.now ≡ c.args.digits.now = ap (λ n. take n c.args.digits.now) at_end ∙ take-length c.args.digits.now in
    has_value c.args.base c.args.digits.now (rw whole at c.loop-byte.invariant.digits)
    (rw (← whole, ← c.loop-byte.invariant.value) c.loop-byte.invariant.fits)
