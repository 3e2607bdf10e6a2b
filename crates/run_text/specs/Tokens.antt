-- What a text of compact JSON gains, in tokens.
use Rattle.std.specs.Prelude.{◌≡◌, List, [], ◌∷◌, ◌++◌, Result, OnOk}
use Rattle.json.specs.Token.{Token}
use Rattle.json.specs.Tree.{json_tokens, items_tokens, members_tokens}
use Rattle.serde_json.specs.Data.{Data, Items, Members}
use Rattle.serde_json.specs.View.{items_of}
use Rattle.serde_json.specs.Written.{outline, items_outline, members_outline}

-- the tokens of a value
abbrev pub tokens_of : Data → List Token
tokens_of d = json_tokens (outline d)

-- the tokens of values, one after another
abbrev pub all_tokens : List Data → List Token
all_tokens [] = []
all_tokens (d ∷ ds) = tokens_of d ++ all_tokens ds

-- the tokens of the last items of a list, with its end
abbrev pub ending : List Data → List Token
ending ds = items_tokens (items_outline (items_of ds))

-- one token more
pub record Puts (t : Token) (old new : List Token) : Type 0 where
  pub tokens : new ≡ old ++ t ∷ []

-- a value more
pub record Adds (d : Data) (old new : List Token) : Type 0 where
  pub tokens : new ≡ old ++ tokens_of d

-- values more
pub record AddsAll (ds : List Data) (old new : List Token) : Type 0 where
  pub tokens : new ≡ old ++ all_tokens ds

-- the last items of a list, and its end
pub record EndsList (ds : Items) (old new : List Token) : Type 0 where
  pub tokens : new ≡ old ++ items_tokens (items_outline ds)

-- the last members of an object, and its end
pub record EndsObject (ms : Members) (old new : List Token) : Type 0 where
  pub tokens : new ≡ old ++ members_tokens (members_outline ms)

-- where it went well the text has gained the value
abbrev pub Gains : {E : Type 0} → Data → Result (Unit {0}) E → List Token → List Token → Type 0
Gains d r old new = OnOk r (Adds d old new)
