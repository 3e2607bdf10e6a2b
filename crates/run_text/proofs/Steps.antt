-- Values are written token by token.
use Rattle.std.proofs.Common.{◌≡◌, ℕ, List, [], ◌∷◌, ◌++◌, refl, sym, ap, ◌∙◌, append_assoc, append-nil}
use Rattle.json.specs.Token.{Token, begin_object, end_object, begin_array, end_array, key}
use Rattle.json.specs.Tree.{items_tokens, members_tokens}
use Rattle.serde_json.specs.Data.{Data, array, object, Items, no_items, item, Members, no_members, member}
use Rattle.serde_json.specs.View.{items_of}
use Rattle.serde_json.specs.Written.{items_outline, members_outline}
use Rattle.run_text.specs.Tokens.{tokens_of, all_tokens, ending, Puts, Adds, AddsAll, EndsList, EndsObject}

-- two pieces behind what was written
twice : (a b c x y : List Token) → b ≡ a ++ x → c ≡ b ++ y → c ≡ a ++ (x ++ y)
twice a b c x y e f = f ∙ ap (λ s. s ++ y) e ∙ append_assoc a x y

pub list_closed : (a b : List Token) → Puts end_array a b → EndsList no_items a b
list_closed a b h = record { tokens = h.tokens }

pub list_item : (a b c : List Token) (d : Data) (ds : Items) → Adds d a b → EndsList ds b c → EndsList (item d ds) a c
list_item a b c d ds h k = record { tokens = twice a b c (tokens_of d) (items_tokens (items_outline ds)) h.tokens k.tokens }

pub list_opened : (a b c : List Token) (ds : Items) → Puts begin_array a b → EndsList ds b c → Adds (array ds) a c
list_opened a b c ds h k = record { tokens = twice a b c (begin_array ∷ []) (items_tokens (items_outline ds)) h.tokens k.tokens }

pub object_closed : (a b : List Token) → Puts end_object a b → EndsObject no_members a b
object_closed a b h = record { tokens = h.tokens }

pub object_member : (a b c e : List Token) (k : List ℕ) (d : Data) (ms : Members) → Puts (key k) a b → Adds d b c → EndsObject ms c e → EndsObject (member k d ms) a e
object_member a b c e k d ms h i j =
    record { tokens = twice a b e (key k ∷ []) (tokens_of d ++ members_tokens (members_outline ms)) h.tokens (twice b c e (tokens_of d) (members_tokens (members_outline ms)) i.tokens j.tokens) }

pub object_opened : (a b c : List Token) (ms : Members) → Puts begin_object a b → EndsObject ms b c → Adds (object ms) a c
object_opened a b c ms h k = record { tokens = twice a b c (begin_object ∷ []) (members_tokens (members_outline ms)) h.tokens k.tokens }

pub none_added : (a : List Token) → AddsAll [] a a
none_added a = record { tokens = sym (append-nil a) }

pub more_added : (a b c : List Token) (d : Data) (ds : List Data) → Adds d a b → AddsAll ds b c → AddsAll (d ∷ ds) a c
more_added a b c d ds h k = record { tokens = twice a b c (tokens_of d) (all_tokens ds) h.tokens k.tokens }

all_end : (ds : List Data) → all_tokens ds ++ end_array ∷ [] ≡ ending ds
all_end [] = refl
all_end (d ∷ ds) = append_assoc (tokens_of d) (all_tokens ds) (end_array ∷ []) ∙ ap (λ s. tokens_of d ++ s) (all_end ds)

pub last_added : (a b c : List Token) (ds : List Data) → AddsAll ds a b → Puts end_array b c → EndsList (items_of ds) a c
last_added a b c ds h k = record { tokens = twice a b c (all_tokens ds) (end_array ∷ []) h.tokens k.tokens ∙ ap (λ s. a ++ s) (all_end ds) }
