use Rattle.std.proofs.Common.{◌≡◌, subst, ℕ, Option, Some}
use Rattle.std.specs.Prelude.{IfSome}
use Rattle.table_lines.specs.Addresses.{key_of}
use Rattle.table_lines.specs.Laws.{IsKey}
use Rattle.table_lines.proofs.KeyLemmas.{key_is}
use Rattle.table_lines.proofs.laws.words_have_keys.Goals as goal

pub returns : goal.returns
returns c = λ kind word key is. subst (λ found. IfSome found (λ key. IsKey kind key.0 key.1)) is (key_is kind word)
