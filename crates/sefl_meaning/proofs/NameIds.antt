-- Names that a net has are told apart by their ids.
use Rattle.std.proofs.Common.{◌≡◌, ◌∙◌, refl, sym, subst, ℕ, ◌+◌, ◌<◌, Bool, true, false, not, ◌||◌, cond, List, [], ◌∷◌, bytes_eq, true≢false, arith}
use Rattle.std.specs.Cmp.{ranks}
use Rattle.std.specs.List.{list_any, position_or_len}
use Rattle.std.specs.Ordering.{MatchOrdering, nat_cmp}
use Rattle.std.specs.declared.cmp.Ordering.TheVariants.{Equal}
use Rattle.std.proofs.lemmas.Slice.Eq.{bytes_eq-Decides}
use Rattle.net_check.specs.Keeping.{IsAmong}
use Rattle.sefl_meaning.specs.Network.{Network, tag_id, name_id}

pub same_bytes : (a b : List ℕ) → bytes_eq a b ≡ true → a ≡ b
same_bytes a b h = (bytes_eq-Decides a b).0 h

pub nat_equal : (a b : ℕ) → nat_cmp a b ≡ Equal → a ≡ b
nat_equal a b e = subst (λ r. MatchOrdering r (a < b) (a ≡ b) (b < a)) e (ranks a b)

same_index : (names : List (List ℕ)) (a b : List ℕ) → IsAmong names a
    → position_or_len (bytes_eq a) names ≡ position_or_len (bytes_eq b) names → a ≡ b
same_index [] a b among e = absurd (true≢false (sym among))
same_index (n ∷ ns) a b among e = by (bytes_eq a n) (bytes_eq b n) (same_bytes a n) (same_bytes b n) among e (same_index ns a b)
  where
    by : (p q : Bool) → (p ≡ true → a ≡ n) → (q ≡ true → b ≡ n) → (p || list_any (bytes_eq a) ns) ≡ true
        → cond (not p) (1 + position_or_len (bytes_eq a) ns) 0 ≡ cond (not q) (1 + position_or_len (bytes_eq b) ns) 0
        → (IsAmong ns a → position_or_len (bytes_eq a) ns ≡ position_or_len (bytes_eq b) ns → a ≡ b) → a ≡ b
    by true true is other h e rest = is refl ∙ sym (other refl)
    by true false is other h e rest = absurd (omega (arith, e))
    by false true is other h e rest = absurd (omega (arith, e))
    by false false is other h e rest = rest h (omega (arith, e))

-- ids that compare as equal are those of one name
pub same_tag : (net : Network) (a b : List ℕ) → IsAmong net.names.tags a → nat_cmp (tag_id net a).0 (tag_id net b).0 ≡ Equal → a ≡ b
same_tag net a b among e = same_index net.names.tags a b among (nat_equal (tag_id net a).0 (tag_id net b).0 e)

pub same_name : (net : Network) (a b : List ℕ) → IsAmong net.names.metas a → nat_cmp (name_id net a).0 (name_id net b).0 ≡ Equal → a ≡ b
same_name net a b among e = same_index net.names.metas a b among (nat_equal (name_id net a).0 (name_id net b).0 e)
