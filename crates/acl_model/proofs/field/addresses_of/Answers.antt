use Rattle.std.proofs.Common.{◌≡◌, ◌∙◌, sym, ap, ℕ, option_map, Some}
use Rattle.sefl_syntax.specs.declared.net.TableKind.TheVariants.{Fib}
use Rattle.table_lines.specs.Addresses.{key_of}
use Rattle.acl_model.specs.Fields.{span_of}
use Rattle.acl_model.proofs.Addresses.{last_fits, span_fits}
use Rattle.acl_model.proofs.field.addresses_of.Goals as goal

pub span_of-requires : goal.span_of-requires
span_of-requires c =
    let key : ℕ × ℕ = (c.in_ok-address.address, c.in_ok-address.length) in
    let is : key_of Fib c.args.word.now ≡ Some key = sym c.key_of.ensures ∙ c.in_ok-address.was in
    let fine = c.words_have_keys.ensures Fib c.args.word.now key is in
    record { length = fine.0; last = last_fits c.in_ok-address.address c.in_ok-address.length fine }

pub returns : goal.returns
returns c =
    let key : ℕ × ℕ = (c.in_ok-address.address, c.in_ok-address.length) in
    let is : key_of Fib c.args.word.now ≡ Some key = sym c.key_of.ensures ∙ c.in_ok-address.was in
    record {
      value = ap Some c.span_of.ensures ∙ ap (option_map span_of) (sym is);
      range = span_fits c.in_ok-address.address c.in_ok-address.length c.span_of.result c.span_of.ensures (c.words_have_keys.ensures Fib c.args.word.now key is);
    }
