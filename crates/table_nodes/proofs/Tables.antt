-- Where the nodes of tables send an address.
use Rattle.std.proofs.Common.{◌≡◌, ◌∙◌, refl, sym, ap, subst, ℕ, zero, suc, ◌+◌, ◌^◌, ◌≤◌, ◌<◌, ◌==◌, Bool, true, false, cond, if◌then◌else◌, List, [], ◌∷◌, length, filter, Option, None, Some, option_map, arith}
use Rattle.std.specs.Prelude.{is_none, unwrap_or, find}
use Rattle.sefl_syntax.specs.declared.reference.Target.{Target}
use Rattle.sefl_syntax.specs.declared.net.Style.{Style}
use Rattle.sefl_syntax.specs.declared.net.Style.TheVariants.{Chain, Grouped, Egress}
use Rattle.sefl_syntax.specs.declared.net.TableKind.{TableKind}
use Rattle.sefl_syntax.specs.declared.net.TableKind.TheVariants.{Mac, Fib}
use Rattle.sefl_syntax.specs.Trees.{NodeTree, CodeTree, no_code}
use Rattle.sefl_syntax.specs.declared.net.Side.TheVariants.{Outward}
use Rattle.table_nodes.specs.Exits.{exits, is_code_of, first_way, holds, lies_in, way}
use Rattle.table_nodes.specs.TableNodes.{Guard, bits_of, Set, SetsFor, IsNode, RowsSend, InRange, first_held, port_or, lets, last_of, rest_of, destination, in_code, node_with, guarded, is_port, out_code, out_codes, ports_from, set_guards, set_test}

abbrev pub one_port : Option ℕ → Option (List ℕ)
one_port None = None
one_port (Some port) = Some (port ∷ [])

-- one test after another: the first that holds sends it, and otherwise the last code does
pub guarded_way : (a : ℕ) (gs : List Guard) (last : CodeTree) → way a (guarded gs last) ≡ first_way (one_port (first_held a gs)) (way a last)
guarded_way a [] last = refl
guarded_way a (g ∷ gs) last = by (holds a g.0) (guarded_way a gs last)
  where
    by : (b : Bool) → way a (guarded gs last) ≡ first_way (one_port (first_held a gs)) (way a last) → first_way (if b then Some (g.1 ∷ []) else None) (way a (guarded gs last))
        ≡ first_way (one_port (if b then Some g.1 else first_held a gs)) (way a last)
    by true rest = refl
    by false rest = rest

passing : (b : Bool) → is_none (first_way (if b then None else Some []) None) ≡ b
passing true = refl
passing false = refl

module _ (d : Target) where
  -- a test for each port
  pub none_held : (kind : TableKind) (f : ℕ → Option ℕ) (a port : ℕ) (sets : List Set) → SetsFor kind (λ a. is_port (f a)) port sets → a < 2 ^ bits_of kind → f a ≡ None → first_held a (set_guards d port sets) ≡ None
  none_held kind f a port [] are fits none = refl
  none_held kind f a port ([] ∷ sets) are fits none = none_held kind f a (suc port) sets are.2 fits none
  none_held kind f a port ((r ∷ rs) ∷ sets) are fits none =
      ap (λ b. if b then Some port else first_held a (set_guards d (suc port) sets)) (are.1 a fits ∙ ap (λ p. is_port p port) none)
      ∙ none_held kind f a (suc port) sets are.2 fits none

  pub some_held : (kind : TableKind) (f : ℕ → Option ℕ) (a port q : ℕ) (sets : List Set) → SetsFor kind (λ a. is_port (f a)) port sets → a < 2 ^ bits_of kind → f a ≡ Some q → port ≤ q → q < port + length sets
      → first_held a (set_guards d port sets) ≡ Some q
  some_held kind f a port q [] are fits is from to = absurd (omega (arith, from, to))
  some_held kind f a port q ([] ∷ sets) are fits is from to =
      let differs : (q == port) ≡ false = sym (are.1 a fits ∙ ap (λ p. is_port p port) is) in
      some_held kind f a (suc port) q sets are.2 fits is (grind (arith, differs, from)) (omega (arith, to))
  some_held kind f a port q ((r ∷ rs) ∷ sets) are fits is from to =
      ap (λ b. if b then Some port else first_held a (set_guards d (suc port) sets)) (are.1 a fits ∙ ap (λ p. is_port p port) is) ∙ by (q == port) refl (some_held kind f a (suc port) q sets are.2 fits is)
    where
      by : (b : Bool) → (q == port) ≡ b → (suc port ≤ q → q < suc port + length sets → first_held a (set_guards d (suc port) sets) ≡ Some q) → (if b then Some port else first_held a (set_guards d (suc port) sets)) ≡ Some q
      by true same rest = ap Some (grind (arith, same))
      by false differs rest = rest (grind (arith, differs, from)) (omega (arith, to))

  -- ---- the output ports of style egress

  -- the code of a port among those of the sets
  abbrev out_of : ℕ → List Set → ℕ → CodeTree
  out_of port sets q = unwrap_or (option_map (λ p. p.code) (find (is_code_of Outward q) (out_codes d port sets))) no_code

  -- what is let out at a port
  pub let_out : (kind : TableKind) (f : ℕ → ℕ → Bool) (a port q : ℕ) (sets : List Set) → SetsFor kind f port sets → a < 2 ^ bits_of kind → port ≤ q → q < port + length sets
      → is_none (way a (out_of port sets q)) ≡ f a q
  let_out kind f a port q [] are fits from to = absurd (omega (arith, from, to))
  let_out kind f a port q (set ∷ sets) are fits from to = by (port == q) refl (let_out kind f a (suc port) q sets are.2 fits)
    where
      here : (set : Set) → lies_in a set ≡ f a port → port ≡ q
          → is_none (first_way (if holds a (set_test d set) then None else Some []) None) ≡ f a q
      here [] is same = is ∙ ap (f a) same
      here (r ∷ rs) is same = passing (lies_in a (r ∷ rs)) ∙ is ∙ ap (f a) same

      by : (b : Bool) → (port == q) ≡ b → (suc port ≤ q → q < suc port + length sets → is_none (way a (out_of (suc port) sets q)) ≡ f a q)
          → is_none (way a (unwrap_or (option_map (λ p. p.code) (cond b (Some (out_code d port set)) (find (is_code_of Outward q) (out_codes d (suc port) sets)))) no_code))
          ≡ f a q
      by true same rest = here set (are.1 a fits) (grind (arith, same))
      by false differs rest = rest (grind (arith, differs, from)) (omega (arith, to))

differ : (p q : ℕ) → p < q → (p == q) ≡ false
differ p q h = grind arith

-- ports that pass

pub filter_none : (test : ℕ → Bool) (port n : ℕ) → ((q : ℕ) → port ≤ q → q < port + n → test q ≡ false) → filter test (ports_from port n) ≡ []
filter_none test port zero h = refl
filter_none test port (suc n) h =
    ap (λ b. cond b (port ∷ filter test (ports_from (suc port) n)) (filter test (ports_from (suc port) n))) (h port (omega arith) (omega arith))
    ∙ filter_none test (suc port) n (λ q from to. h q (omega (arith, from)) (omega (arith, to)))

pub filter_one : (test : ℕ → Bool) (port n p : ℕ) → ((q : ℕ) → port ≤ q → q < port + n → test q ≡ (p == q)) → port ≤ p → p < port + n
    → filter test (ports_from port n) ≡ p ∷ []
filter_one test port zero p h from to = absurd (omega (arith, from, to))
filter_one test port (suc n) p h from to = by (p == port) refl (filter_one test (suc port) n p (λ q from to. h q (omega (arith, from)) (omega (arith, to))))
  where
    by : (b : Bool) → (p == port) ≡ b → (suc port ≤ p → p < suc port + n → filter test (ports_from (suc port) n) ≡ p ∷ [])
        → filter test (port ∷ ports_from (suc port) n) ≡ p ∷ []
    by true same rest =
        let is : p ≡ port = grind (arith, same) in
        ap (λ b. cond b (port ∷ filter test (ports_from (suc port) n)) (filter test (ports_from (suc port) n))) (h port (omega arith) (omega arith) ∙ same)
        ∙ (λ i. sym is i ∷ filter_none test (suc port) n (λ q from to. h q (omega (arith, from)) (omega (arith, to)) ∙ differ p q (omega (arith, is, from))) i)
    by false differs rest =
        ap (λ b. cond b (port ∷ filter test (ports_from (suc port) n)) (filter test (ports_from (suc port) n))) (h port (omega arith) (omega arith) ∙ differs)
        ∙ rest (grind (arith, differs, from)) (omega (arith, to))

filter_every : (test : ℕ → Bool) (port n : ℕ) → ((q : ℕ) → port ≤ q → q < port + n → test q ≡ true) → filter test (ports_from port n) ≡ ports_from port n
filter_every test port zero h = refl
filter_every test port (suc n) h =
    ap (λ b. cond b (port ∷ filter test (ports_from (suc port) n)) (filter test (ports_from (suc port) n))) (h port (omega arith) (omega arith))
    ∙ ap (λ ps. port ∷ ps) (filter_every test (suc port) n (λ q from to. h q (omega (arith, from)) (omega (arith, to))))

filter_all : (xs : List ℕ) → filter (λ x. true) xs ≡ xs
filter_all [] = refl
filter_all (x ∷ xs) = ap (λ ys. x ∷ ys) (filter_all xs)

-- ---- each style

-- what the last code does
last_way : (kind : TableKind) (ports a : ℕ) → way a (last_of kind ports) ≡ Some (rest_of kind ports)
last_way Mac ports a = refl
last_way Fib ports a = refl

by_one : (found : Option ℕ) (rest : List ℕ) → unwrap_or (first_way (one_port found) (Some rest)) [] ≡ port_or rest found
by_one None rest = refl
by_one (Some port) rest = refl

guarded_exits : (kind : TableKind) (ports a : ℕ) (gs : List Guard)
    → exits (node_with ports (in_code (guarded gs (last_of kind ports)) ∷ [])) a ≡ port_or (rest_of kind ports) (first_held a gs)
guarded_exits kind ports a gs =
    filter_all _ ∙ ap (λ w. unwrap_or w []) (guarded_way a gs (last_of kind ports) ∙ ap (first_way (one_port (first_held a gs))) (last_way kind ports a))
    ∙ by_one (first_held a gs) (rest_of kind ports)

set_held : (d : Target) (kind : TableKind) (f : ℕ → Option ℕ) (a : ℕ) (sets : List Set) → SetsFor kind (λ a. is_port (f a)) 0 sets → a < 2 ^ bits_of kind
    → ((port : ℕ) → f a ≡ Some port → port < length sets) → first_held a (set_guards d 0 sets) ≡ f a
set_held d kind f a sets are fits within = by (f a) refl
  where
    by : (found : Option ℕ) → f a ≡ found → first_held a (set_guards d 0 sets) ≡ f a
    by None is = none_held d kind f a 0 sets are fits is ∙ sym is
    by (Some port) is = some_held d kind f a 0 port sets are fits is (omega arith) (omega (arith, within port is)) ∙ sym is

-- ports of a set of numbers
out_found : (kind : TableKind) (found : Option ℕ) (test : ℕ → Bool) (ports : ℕ) → ((port : ℕ) → found ≡ Some port → port < ports)
    → ((q : ℕ) → q < ports → test q ≡ lets kind found q) → filter test (ports_from 0 ports) ≡ port_or (rest_of kind ports) found
out_found Mac None test ports within same = filter_every test 0 ports (λ q from to. same q (omega (arith, to)))
out_found Mac (Some port) test ports within same = filter_one test 0 ports port (λ q from to. same q (omega (arith, to))) (omega arith) (omega (arith, within port refl))
out_found Fib None test ports within same = filter_none test 0 ports (λ q from to. same q (omega (arith, to)))
out_found Fib (Some port) test ports within same = filter_one test 0 ports port (λ q from to. same q (omega (arith, to))) (omega arith) (omega (arith, within port refl))

-- a node of a table sends each address to the port of the table, or to those for addresses without one
pub table_exits : (kind : TableKind) (ports : ℕ) (f : ℕ → Option ℕ) (rows : List Guard) (style : Style) (node : NodeTree)
    → IsNode kind ports f rows style node → RowsSend style kind f rows → InRange ports f → (a : ℕ) → a < 2 ^ bits_of kind → exits node a ≡ port_or (rest_of kind ports) (f a)
table_exits kind ports f rows Chain node is sends within a fits =
    ap (λ n. exits n a) is ∙ guarded_exits kind ports a rows ∙ ap (port_or (rest_of kind ports)) (sends a fits)
table_exits kind ports f rows Grouped node is sends within a fits =
    ap (λ n. exits n a) is.3 ∙ guarded_exits kind ports a (set_guards (destination kind) 0 is.0)
    ∙ ap (port_or (rest_of kind ports)) (set_held (destination kind) kind f a is.0 is.2 fits (λ port h. subst (λ n. port < n) (sym is.1) (within a port h)))
table_exits kind ports f rows Egress node is sends within a fits =
    ap (λ n. exits n a) is.3
    ∙ out_found kind (f a) _ ports (within a)
    (λ q to. let_out (destination kind) kind (λ a. lets kind (f a)) a 0 q is.0 is.2 fits (omega arith) (omega (arith, is.1, to)))
