-- The code of the nodes of tables tests the destination alone.
use Rattle.std.proofs.Common.{refl, sym, subst, ℕ, suc, ◌^◌, ◌<◌, Bool, true, false, cond, List, [], ◌∷◌, map, Option, Some, option_map}
use Rattle.std.specs.Prelude.{unwrap_or, find}
use Rattle.std.specs.List.{AllByRecursion}
use Rattle.sefl_syntax.specs.declared.reference.Target.{Target}
use Rattle.sefl_syntax.specs.declared.net.Side.{Side}
use Rattle.sefl_syntax.specs.declared.net.Style.{Style}
use Rattle.sefl_syntax.specs.declared.net.Style.TheVariants.{Chain, Grouped, Egress}
use Rattle.sefl_syntax.specs.declared.net.TableKind.{TableKind}
use Rattle.sefl_syntax.specs.declared.net.TableKind.TheVariants.{Mac, Fib}
use Rattle.sefl_syntax.specs.Trees.{NodeTree, CodeTree, PortTree, no_code}
use Rattle.table_nodes.specs.Exits.{code_in, is_code_of}
use Rattle.table_nodes.specs.TableNodes.{Guard, IsNode, Row, Set, bits_of, destination, guarded, in_code, last_of, out_codes, row_guard, set_guards, set_test, to_all}
use Rattle.model_laws.specs.Reads.{OnlyTests, TestsIt}

abbrev pub AllTest : TableKind → List Guard → Type 0
AllTest kind gs = AllByRecursion (λ g. TestsIt (destination kind) g.0) gs

set_guards_test : (d : Target) (port : ℕ) (sets : List Set) → AllByRecursion (λ g. TestsIt d g.0) (set_guards d port sets)
set_guards_test d port [] = tt
set_guards_test d port ([] ∷ sets) = set_guards_test d (suc port) sets
set_guards_test d port ((r ∷ rs) ∷ sets) = (refl, set_guards_test d (suc port) sets)

guarded_tests : (d : Target) (gs : List Guard) (last : CodeTree) → AllByRecursion (λ g. TestsIt d g.0) gs → OnlyTests d last → OnlyTests d (guarded gs last)
guarded_tests d [] last all h = h
guarded_tests d (g ∷ gs) last all h = ((all.0, (tt, tt), tt), guarded_tests d gs last all.1 h)

last_tests : (kind : TableKind) (ports : ℕ) → OnlyTests (destination kind) (last_of kind ports)
last_tests Mac ports = (tt, tt)
last_tests Fib ports = (tt, tt)

-- where the code of each port only tests it, the code at every port does so
codes_test : (d : Target) (codes : List PortTree) → AllByRecursion (λ p. OnlyTests d p.code) codes → (side : Side) (port : ℕ)
    → OnlyTests d (unwrap_or (option_map (λ p. p.code) (find (is_code_of side port) codes)) no_code)
codes_test d [] all side port = tt
codes_test d (p ∷ ps) all side port = by (is_code_of side port p) (codes_test d ps all.1 side port)
  where
    by : (b : Bool) → OnlyTests d (unwrap_or (option_map (λ p. p.code) (find (is_code_of side port) ps)) no_code)
        → OnlyTests d (unwrap_or (option_map (λ p. p.code) (cond b (Some p) (find (is_code_of side port) ps))) no_code)
    by true rest = all.0
    by false rest = rest

set_tests : (d : Target) (set : Set) → TestsIt d (set_test d set)
set_tests d [] = tt
set_tests d (r ∷ rs) = refl

out_tests : (d : Target) (port : ℕ) (sets : List Set) → AllByRecursion (λ p. OnlyTests d p.code) (out_codes d port sets)
out_tests d port [] = tt
out_tests d port (set ∷ sets) = ((set_tests d set, tt), out_tests d (suc port) sets)

pub node_tests : (kind : TableKind) (ports : ℕ) (f : ℕ → Option ℕ) (rows : List Guard) (style : Style) (node : NodeTree)
    → IsNode kind ports f rows style node → AllTest kind rows → (side : Side) (port : ℕ) → OnlyTests (destination kind) (code_in node side port)
node_tests kind ports f rows Chain node is all side port =
    subst (λ n. OnlyTests (destination kind) (code_in n side port)) (sym is)
    (codes_test (destination kind) (in_code (guarded rows (last_of kind ports)) ∷ []) (guarded_tests (destination kind) rows (last_of kind ports) all (last_tests kind ports), tt) side port)
node_tests kind ports f rows Grouped node is all side port =
    subst (λ n. OnlyTests (destination kind) (code_in n side port)) (sym is.3)
    (codes_test (destination kind) (in_code (guarded (set_guards (destination kind) 0 is.0) (last_of kind ports)) ∷ [])
    (guarded_tests (destination kind) (set_guards (destination kind) 0 is.0) (last_of kind ports) (set_guards_test (destination kind) 0 is.0) (last_tests kind ports), tt) side port)
node_tests kind ports f rows Egress node is all side port =
    subst (λ n. OnlyTests (destination kind) (code_in n side port)) (sym is.3)
    (codes_test (destination kind) (in_code (to_all ports) ∷ out_codes (destination kind) 0 is.0) ((tt, tt), out_tests (destination kind) 0 is.0) side port)

-- the addresses of rows fit the destination
pub rows_test : (kind : TableKind) (rows : List Row) → AllByRecursion (λ row. row.0 < 2 ^ bits_of kind) rows → AllTest kind (map (row_guard kind) rows)
rows_test kind [] fit = tt
rows_test Mac (row ∷ rows) fit = ((refl, fit.0), rows_test Mac rows fit.1)
rows_test Fib (row ∷ rows) fit = (refl, rows_test Fib rows fit.1)
