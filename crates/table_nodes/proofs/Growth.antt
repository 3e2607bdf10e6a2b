-- Sets of ports, one after another.
use Rattle.std.proofs.Common.{◌≡◌, ◌∙◌, refl, sym, ap, subst, ℕ, zero, suc, ◌+◌, ◌^◌, ◌≤◌, ◌<◌, ◌&&◌, ◌||◌, Bool, nat_le, List, [], ◌∷◌, ◌++◌, length, take, Some, add-one, arith}
use Rattle.std.specs.Prelude.{slice_get}
use Rattle.std.specs.declared.alloc.Global.{Global}
use Rattle.std.specs.declared.vec.Vec.{Vec}
use Rattle.std.proofs.lemmas.List.{length-map, map-append}
use Rattle.std.proofs.lemmas.Option.{none-some, same_Some}
use Rattle.sn_ranges.specs.Ranges.{IsCanonical, is_member, in_range}
use Rattle.sefl_syntax.specs.declared.net.TableKind.{TableKind}
use Rattle.table_nodes.specs.Exits.{lies_in}
use Rattle.table_nodes.specs.Codes.{lists}
use Rattle.table_nodes.specs.Laws.{SetsGrow}
use Rattle.table_nodes.specs.TableNodes.{Set, SetsFor, bits_of}

pub lies_is_member : (set : Set) (a : ℕ) → lies_in a set ≡ is_member set a
unfolding is_member in_range
lies_is_member [] a = refl
lies_is_member (r ∷ rs) a = ap (λ b. (nat_le r.0 a && nat_le a r.1) || b) (lies_is_member rs a)

pub taken_more : {A : Type 0} (xs : List A) (i : ℕ) (x : A) → slice_get xs i ≡ Some x → take (i + 1) xs ≡ take i xs ++ x ∷ []
taken_more xs i x is = rw add-one (by xs i x is)
  where
    by : {A : Type 0} (xs : List A) (i : ℕ) (x : A) → slice_get xs i ≡ Some x → take (suc i) xs ≡ take i xs ++ x ∷ []
    by [] zero x is = absurd (none-some x is)
    by [] (suc i) x is = absurd (none-some x is)
    by (y ∷ ys) zero x is = ap (λ z. z ∷ []) (same_Some y x is)
    by (y ∷ ys) (suc i) x is = ap (λ zs. y ∷ zs) (by ys i x is)

pub within_more : {A : Type 0} (xs : List A) (i : ℕ) (x : A) → slice_get xs i ≡ Some x → i + 1 ≤ length xs
within_more [] zero x is = absurd (none-some x is)
within_more [] (suc i) x is = absurd (none-some x is)
within_more (y ∷ ys) zero x is = omega arith
within_more (y ∷ ys) (suc i) x is = let h = within_more ys i x is in omega (arith, h)

sets_more : (kind : TableKind) (test : ℕ → ℕ → Bool) (port : ℕ) (sets : List Set) (set : Set) → SetsFor kind test port sets → IsCanonical (bits_of kind) set
    → ((a : ℕ) → a < 2 ^ bits_of kind → lies_in a set ≡ test a (port + length sets)) → SetsFor kind test port (sets ++ set ∷ [])
sets_more kind test port [] set are canonical is = (canonical, λ a less. is a less ∙ ap (test a) (omega arith), tt)
sets_more kind test port (x ∷ sets) set are canonical is =
    (are.0, are.1, sets_more kind test (suc port) sets set are.2 canonical (λ a less. is a less ∙ ap (test a) (omega arith)))

pub sets_grow : SetsGrow
sets_grow = λ kind test sets set are canonical is.
    let many : length sets ≡ 0 + length (lists sets) = sym (length-map sets (λ (set : Vec (ℕ × ℕ) Global). set.items)) ∙ omega arith in
    subst (SetsFor kind test 0) (sym (map-append (λ set. set.items) sets (set ∷ [])))
    (sets_more kind test 0 (lists sets) set.items are canonical (λ a less. is a less ∙ ap (test a) many))
