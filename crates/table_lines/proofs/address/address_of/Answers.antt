use Rattle.std.proofs.Common.{rules, ◌≡◌, ◌∙◌, ◌<◌, ◌≤◌, ◌+◌, ◌-◌, ◌*◌, ◌^◌, ◌∷◌, None, Some, sym, ap, arith}
use Rattle.table_lines.specs.declared.pieces.Separator.{Separator}
use Rattle.table_lines.specs.Pieces.{pieces}
use Rattle.table_lines.specs.Addresses.{parts_of, separator_of, part_of, bytes_from}
use Rattle.table_lines.proofs.NumberLemmas.{byte_more, few_bytes}
use Rattle.table_lines.proofs.ByteLemmas.{pieces_left, one_piece, none_left, bad_part, good_part, all_read, too_many}
use Rattle.table_lines.proofs.address.address_of.Goals as goal

pub returns-in_err-left : goal.returns-in_err-left
returns-in_err-left c =
    let k = c.args.kind in
    let less : c.loop.counter < parts_of k = omega (arith, c.loop-test.true, c.parts_of-end.ensures.value) in
    let none : c.loop.left ≡ None = search rules in
    let answer : c.from_residual.result ≡ None = search rules in
    answer ∙ sym (none_left k (parts_of k) c.loop.counter c.loop.value less)
    ∙ ap (λ l. bytes_from k (parts_of k - c.loop.counter) c.loop.value (pieces_left (separator_of k) l)) (sym none) ∙ c.loop.invariant.goes

pub overflow_mul-value : goal.overflow_mul-value
overflow_mul-value c =
    let i = c.loop.counter in
    let more : c.loop.value * 256 + 0 < 256 ^ (i + 1) = byte_more c.loop.value 0 i (omega arith) c.loop.invariant.room in
    let few : 256 ^ (i + 1) ≤ 281474976710656 = few_bytes i (omega (arith, c.loop-test.true, c.parts_of-end.ensures.within)) in
    omega (arith, more, few)

pub overflow_add-value : goal.overflow_add-value
overflow_add-value c =
    let i = c.loop.counter in
    let byte : c.from.result ≤ 255 = search rules in
    let more : c.loop.value * 256 + c.from.result < 256 ^ (i + 1) = byte_more c.loop.value c.from.result i byte c.loop.invariant.room in
    let few : 256 ^ (i + 1) ≤ 281474976710656 = few_bytes i (omega (arith, c.loop-test.true, c.parts_of-end.ensures.within)) in
    omega (arith, more, few)

pub returns-in_err-part_of : goal.returns-in_err-part_of
returns-in_err-part_of c =
    let k = c.args.kind in
    let sep : Separator = separator_of k in
    let less : c.loop.counter < parts_of k = omega (arith, c.loop-test.true, c.parts_of-end.ensures.value) in
    let some : c.loop.left ≡ Some c.in_ok-left.field-0 = search rules in
    let is : pieces sep c.in_ok-left.field-0.now ≡ c.next_piece.result.0.now ∷ pieces_left sep c.next_piece.result.1
    = one_piece sep c.separator_of.result c.in_ok-left.field-0.now c.next_piece.result.0.now c.next_piece.result.1 c.separator_of.ensures c.next_piece.ensures.last c.next_piece.ensures.more in
    let none : part_of k c.next_piece.result.0.now ≡ None = search rules in
    let answer : c.from_residual-in_err-part_of.result ≡ None = search rules in
    answer
    ∙ sym (bad_part k (parts_of k) c.loop.counter c.loop.value less c.in_ok-left.field-0.now c.next_piece.result.0.now sep (pieces_left sep c.next_piece.result.1) is none)
    ∙ ap (λ l. bytes_from k (parts_of k - c.loop.counter) c.loop.value (pieces_left sep l)) (sym some) ∙ c.loop.invariant.goes

pub loop-preserved : goal.loop-preserved
loop-preserved c =
    let k = c.args.kind in
    let i = c.loop.counter in
    let sep : Separator = separator_of k in
    let less : i < parts_of k = omega (arith, c.loop-test.true, c.parts_of-end.ensures.value) in
    let some : c.loop.left ≡ Some c.in_ok-left.field-0 = search rules in
    let is : pieces sep c.in_ok-left.field-0.now ≡ c.next_piece.result.0.now ∷ pieces_left sep c.next_piece.result.1
    = one_piece sep c.separator_of.result c.in_ok-left.field-0.now c.next_piece.result.0.now c.next_piece.result.1 c.separator_of.ensures c.next_piece.ensures.last c.next_piece.ensures.more in
    let byte : part_of k c.next_piece.result.0.now ≡ Some c.from.result = search rules in
    let most : c.from.result ≤ 255 = search rules in
    record {
      goes = sym (good_part k (parts_of k) i c.loop.value less c.in_ok-left.field-0.now c.next_piece.result.0.now sep (pieces_left sep c.next_piece.result.1) c.from.result is byte)
          ∙ ap (λ l. bytes_from k (parts_of k - i) c.loop.value (pieces_left sep l)) (sym some) ∙ c.loop.invariant.goes;
      room = byte_more c.loop.value c.from.result i most c.loop.invariant.room;
    }

pub returns-in-Some : goal.returns-in-Some
returns-in-Some c =
    let k = c.args.kind in
    let is : parts_of k ≡ c.loop.counter = omega (arith, c.loop-test.false, c.loop.auto.counter-end, c.parts_of-end.ensures.value) in
    sym (too_many k (parts_of k) c.loop.counter c.loop.value (separator_of k) c.in-Some.field-0.now is)
    ∙ ap (λ l. bytes_from k (parts_of k - c.loop.counter) c.loop.value (pieces_left (separator_of k) l)) (sym c.in-Some.is) ∙ c.loop.invariant.goes

pub returns-in-None : goal.returns-in-None
returns-in-None c =
    let k = c.args.kind in
    let is : parts_of k ≡ c.loop.counter = omega (arith, c.loop-test.false, c.loop.auto.counter-end, c.parts_of-end.ensures.value) in
    sym (all_read k (parts_of k) c.loop.counter c.loop.value is)
    ∙ ap (λ l. bytes_from k (parts_of k - c.loop.counter) c.loop.value (pieces_left (separator_of k) l)) (sym c.in-None.is) ∙ c.loop.invariant.goes
