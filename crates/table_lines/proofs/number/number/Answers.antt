use Rattle.std.proofs.Common.{◌+◌, ◌*◌, ◌<◌, ◌≤◌, ◌^◌, arith}
use Rattle.table_lines.proofs.NumberLemmas.{digit_more, few_digits}
use Rattle.table_lines.proofs.number.number.Goals as goal

pub overflow_add-value : goal.overflow_add-value
overflow_add-value c =
    let i = c.loop-byte.byte-index in
    let more : c.loop-byte.value * c.args.base + c.digit_value-digit.result < 16 ^ (i + 1)
    = digit_more c.loop-byte.value c.args.base c.digit_value-digit.result i c.requires.base (omega (arith, c.if-digit-base.false)) c.loop-byte.invariant.room in
    let few : 16 ^ (i + 1) ≤ 268435456 = few_digits i (omega (arith, c.loop-byte-test.true, c.if-bytes-most.false, c.requires.most)) in
    omega (arith, more, few)

pub overflow_mul-value : goal.overflow_mul-value
overflow_mul-value c =
    let i = c.loop-byte.byte-index in
    let more : c.loop-byte.value * c.args.base + c.digit_value-digit.result < 16 ^ (i + 1)
    = digit_more c.loop-byte.value c.args.base c.digit_value-digit.result i c.requires.base (omega (arith, c.if-digit-base.false)) c.loop-byte.invariant.room in
    let few : 16 ^ (i + 1) ≤ 268435456 = few_digits i (omega (arith, c.loop-byte-test.true, c.if-bytes-most.false, c.requires.most)) in
    omega (arith, more, few)
