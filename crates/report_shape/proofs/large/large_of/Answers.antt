use Rattle.std.proofs.Common.{◌≡◌, string_bytes, true≢false, sym, ap, ◌∙◌, arith, rules}
use Rattle.std.specs.Prelude.{decimal}
use Rattle.std.proofs.lemmas.Slice.Eq.{bytes_eq-Decides}
use Rattle.report_shape.proofs.LargeLemmas.{large_some, large_none}
use Rattle.report_shape.proofs.large.large_of.Goals as goal

pub returns-in_default : goal.returns-in_default
returns-in_default c = large_none c.args.text.now c.parse.result c.parse.ensures.value.0 (λ n is e. absurd (c.in_default.not-Ok n is))

pub returns-then-number-lt18446744073709551616 : goal.returns-then-number-lt18446744073709551616
returns-then-number-lt18446744073709551616 c =
    large_none c.args.text.now c.parse.result c.parse.ensures.value.0 (λ n is e. let same : n ≡ c.in-Ok.number = cc (is, c.in-Ok.is) in omega arith)

pub returns-then-eq : goal.returns-then-eq
returns-then-eq c =
    let written : string_bytes c.in_ok-digits.digits ≡ decimal c.in-Ok.number = search rules in
    let same : decimal c.in-Ok.number ≡ c.args.text.now = sym written ∙ sym c.as_str.ensures.value ∙ (bytes_eq-Decides c.as_str.result.now c.args.text.now).0 (sym c.if-eq.ensures) in
    large_some c.args.text.now c.in-Ok.number same (omega arith) (omega arith)

pub returns : goal.returns
returns c =
    let written : string_bytes c.in_ok-digits.digits ≡ decimal c.in-Ok.number = search rules in
    large_none c.args.text.now c.parse.result c.parse.ensures.value.0 (λ n is e.
    let same : n ≡ c.in-Ok.number = cc (is, c.in-Ok.is) in
    let both : c.as_str.result.now ≡ c.args.text.now = c.as_str.ensures.value ∙ written ∙ ap decimal (sym same) ∙ e in
    absurd (true≢false (sym ((bytes_eq-Decides c.as_str.result.now c.args.text.now).1 both) ∙ sym c.if-eq.ensures)))
