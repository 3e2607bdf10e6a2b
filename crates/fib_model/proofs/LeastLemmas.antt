-- The least ranges of each port.
use Rattle.std.proofs.Common.{◌≡◌, ◌∙◌, refl, sym, ap, ℕ, ◌^◌, ◌≤◌, ◌<◌, ◌&&◌, ◌||◌, Bool, true, false, nat_le, nat_lt, List, [], ◌∷◌, ◌++◌, length, All, arith}
use Rattle.std.specs.List.{AllByRecursion}
use Rattle.std.specs.declared.alloc.Global.{Global}
use Rattle.std.specs.declared.vec.Vec.{Vec}
use Rattle.std.proofs.lemmas.Bool.{le-leb}
use Rattle.std.proofs.lemmas.Bool.Decides.{nat_tests}
use Rattle.std.proofs.lemmas.List.Elements.{All-from_recursion}
use Rattle.sn_ranges.specs.Ranges.{IsCanonical, is_member, in_range}
use Rattle.sefl_syntax.specs.declared.net.TableKind.TheVariants.{Fib}
use Rattle.table_nodes.specs.Exits.{lies_in}
use Rattle.table_nodes.specs.Codes.{lists}
use Rattle.table_nodes.specs.Laws.{SetsGrow}
use Rattle.table_nodes.specs.TableNodes.{Set, SetsFor, is_port}
use Rattle.fib_model.specs.Prefixes.{Row, fib_port}

pub lies_is_member : (set : Set) (a : ℕ) → lies_in a set ≡ is_member set a
unfolding is_member in_range
lies_is_member [] a = refl
lies_is_member (r ∷ rs) a = ap (λ b. (nat_le r.0 a && nat_le a r.1) || b) (lies_is_member rs a)

or_second : (x y : Bool) → y ≡ true → (x || y) ≡ true
or_second true y h = refl
or_second false y h = h

own_end : (r : ℕ × ℕ) (rs : Set) → r.0 ≤ r.1 → is_member (r ∷ rs) r.1 ≡ true
unfolding is_member in_range
own_end r rs le =
    let one : nat_le r.0 r.1 ≡ true = le-leb r.0 r.1 le in
    let two : nat_le r.1 r.1 ≡ true = le-leb r.1 r.1 (omega arith) in
    λ i. (one i && two i) || is_member rs r.1

later_member : (r : ℕ × ℕ) (rs : Set) (a : ℕ) → is_member rs a ≡ true → is_member (r ∷ rs) a ≡ true
unfolding is_member
later_member r rs a is = or_second (in_range r a) (is_member rs a) is

-- the ends of ranges are members
fit : (n : ℕ) (set : Set) → AllByRecursion (λ r. r.0 ≤ r.1) set → ((a : ℕ) → is_member set a ≡ true → a < n)
    → AllByRecursion (λ r. (r.0 ≤ r.1) × (r.1 < n)) set
fit n [] ordered less = tt
fit n (r ∷ rs) ordered less = ((ordered.0, less r.1 (own_end r rs ordered.0)), fit n rs ordered.1 (λ a is. less a (later_member r rs a is)))

and_first : (x y : Bool) → (x && y) ≡ true → x ≡ true
and_first true y h = refl
and_first false y h = h

pub raw_fits : (test : ℕ → Bool) (set : Set) → AllByRecursion (λ r. r.0 ≤ r.1) set → ((a : ℕ) → is_member set a ≡ (nat_lt a 4294967296 && test a))
    → All (λ r. (r.0 ≤ r.1) × (r.1 < 2 ^ 32)) set
raw_fits test set ordered is =
    All-from_recursion (λ r. (r.0 ≤ r.1) × (r.1 < 2 ^ 32)) set
    (fit (2 ^ 32) set ordered (λ a member. let h : nat_lt a 4294967296 ≡ true = and_first (nat_lt a 4294967296) (test a) (sym (is a) ∙ member) in grind (arith, nat_tests, h)))

-- the set of the next port
pub next_set : SetsGrow → (rows : List Row) (sets : List (Vec (ℕ × ℕ) Global)) (raw : Set) (set : Vec (ℕ × ℕ) Global) (port : ℕ) → length sets ≡ port
    → SetsFor Fib (λ a. is_port (fib_port rows a)) 0 (lists sets) → IsCanonical 32 set.items → ((a : ℕ) → lies_in a set.items ≡ lies_in a raw)
    → ((a : ℕ) → is_member raw a ≡ (nat_lt a 4294967296 && is_port (fib_port rows a) port))
    → SetsFor Fib (λ a. is_port (fib_port rows a)) 0 (lists (sets ++ set ∷ []))
next_set grow rows sets raw set port many are canonical members is =
    grow Fib (λ a. is_port (fib_port rows a)) sets set are canonical
    (λ a less.
    let e : nat_lt a 4294967296 ≡ true = grind (arith, nat_tests, less) in
    members a ∙ lies_is_member raw a ∙ is a ∙ (λ i. e i && is_port (fib_port rows a) (sym many i)))
