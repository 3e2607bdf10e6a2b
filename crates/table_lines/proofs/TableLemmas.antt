-- The rows that were read are those of a table.
use Rattle.std.proofs.Common.{◌≡◌, refl, sym, subst, ℕ, suc, ◌+◌, ◌<◌, ◌==◌, Bool, true, false, cond, nat_lt, if◌then◌else◌, List, [], ◌∷◌, ◌++◌, map, Option, None, Some, Result, Ok, Err, arith}
use Rattle.std.specs.Prelude.{IfOk}
use Rattle.std.specs.List.{AllByRecursion}
use Rattle.std.specs.Map.{lookup}
use Rattle.std.proofs.lemmas.Bool.Decides.{nat_tests}
use Rattle.std.proofs.lemmas.Option.{none-some}
use Rattle.sefl_syntax.specs.declared.net.TableKind.{TableKind}
use Rattle.table_lines.specs.declared.fault.TableFault.{TableFault}
use Rattle.table_lines.specs.declared.fault.TableFault.TheVariants.{BadLine, Conflict, Limit}
use Rattle.table_lines.specs.declared.entries.Seen.{Seen}
use Rattle.table_lines.specs.declared.content.Content.{Content}
use Rattle.table_lines.specs.declared.content.Content.TheVariants.{Skipped, Bad, Ports, Row}
use Rattle.table_lines.specs.Lines.{lines}
use Rattle.table_lines.specs.Reading.{and_then, read_from}
use Rattle.table_lines.specs.Contents.{content_of}
use Rattle.table_lines.specs.Rows.{Key, State, is_key, limit_of, row_of_entry, counted, placed, row_read, header_read, said, step}
use Rattle.table_lines.specs.Tables.{TableSeen, nothing_read, finished, table_of}
use Rattle.table_lines.specs.Laws.{IsKey, NoneTwice, IsTable}
use Rattle.table_lines.proofs.KeyLemmas.{IsFine, content_fine}

abbrev Entry : Type 0
Entry = Key × Seen

-- a row comes only behind the number of ports, and its port is less
abbrev IsBelow : Option ℕ → ℕ → Type 0
IsBelow None port = ⊥
IsBelow (Some ports) port = port < ports

abbrev AreKeys : TableKind → List Entry → Type 0
AreKeys kind rows = AllByRecursion (λ e. IsKey kind e.0.0 e.0.1) rows

abbrev AreBelow : Option ℕ → List Entry → Type 0
AreBelow ports rows = AllByRecursion (λ e. IsBelow ports e.1.port) rows

-- no key stands twice
abbrev AreApart : List Entry → Type 0
AreApart [] = Unit {0}
AreApart (e ∷ rows) = AllByRecursion (λ x. is_key x.0 e.0 ≡ false) rows × AreApart rows

record Good (kind : TableKind) (s : State) : Type 0 where
  same : s.kind ≡ kind
  keys : AreKeys kind s.rows
  below : AreBelow s.ports s.rows
  apart : AreApart s.rows

all_and : (P : Entry → Type 0) (rows : List Entry) (e : Entry) → AllByRecursion P rows → P e → AllByRecursion P (rows ++ e ∷ [])
all_and P [] e all h = (h, tt)
all_and P (x ∷ rows) e all h = (all.0, all_and P rows e all.1 h)

-- the key of the last row is that of none before it
apart_and : (rows : List Entry) (e : Entry) → AreApart rows → lookup (is_key e.0) rows ≡ None → AreApart (rows ++ e ∷ [])
apart_and [] e apart none = (tt, tt)
apart_and (x ∷ rows) e apart none = by (is_key e.0 x.0) refl none (apart_and rows e apart.1)
  where
    by : (b : Bool) → is_key e.0 x.0 ≡ b → cond b (Some x.1) (lookup (is_key e.0) rows) ≡ None → (lookup (is_key e.0) rows ≡ None → AreApart (rows ++ e ∷ []))
        → AllByRecursion (λ y. is_key y.0 x.0 ≡ false) (rows ++ e ∷ []) × AreApart (rows ++ e ∷ [])
    by true is none rest = absurd (none-some x.1 (sym none))
    by false is none rest = (all_and (λ y. is_key y.0 x.0 ≡ false) rows e apart.0 is, rest none)

-- ---- a step at a time

counted_good : (kind : TableKind) (s : State) (line : ℕ) (rows : List Entry) → s.kind ≡ kind → AreKeys kind rows → AreBelow s.ports rows → AreApart rows → IfOk (counted s line rows) (Good kind)
counted_good kind s line rows same keys below apart = by (nat_lt s.count (limit_of s.kind))
  where
    by : (b : Bool) → IfOk (if b then Ok (record s { rows = rows; count = s.count + 1 }) else Err (Limit line)) (Good kind)
    by true = record { same = same; keys = keys; below = below; apart = apart }
    by false = tt

placed_good : (kind : TableKind) (s : State) (line : ℕ) (key : Key) (port : ℕ) (found : Option Seen) → lookup (is_key key) s.rows ≡ found → Good kind s → IsKey kind key.0 key.1 → IsBelow s.ports port
    → IfOk (placed s line key port found) (Good kind)
placed_good kind s line key port None none good is less =
    let e : Entry = (key, record { line = line; port = port }) in
    counted_good kind s line (s.rows ++ e ∷ []) good.same (all_and (λ e. IsKey kind e.0.0 e.0.1) s.rows e good.keys is)
    (all_and (λ e. IsBelow s.ports e.1.port) s.rows e good.below less) (apart_and s.rows e good.apart none)
placed_good kind s line key port (Some seen) some good is less = by (seen.port == port)
  where
    by : (b : Bool) → IfOk (if b then counted s line s.rows else Err (Conflict line seen.line)) (Good kind)
    by true = counted_good kind s line s.rows good.same good.keys good.below good.apart
    by false = tt

row_good : (kind : TableKind) (s : State) (line : ℕ) (key : Key) (port : ℕ) (ports : Option ℕ) → s.ports ≡ ports → Good kind s → IsKey kind key.0 key.1 → IfOk (row_read s line key port ports) (Good kind)
row_good kind s line key port None none good is = tt
row_good kind s line key port (Some ports) some good is = by (nat_lt port ports) refl
  where
    by : (b : Bool) → nat_lt port ports ≡ b → IfOk (if b then placed s line key port (lookup (is_key key) s.rows) else Err (BadLine line)) (Good kind)
    by true less = placed_good kind s line key port (lookup (is_key key) s.rows) refl good is (subst (λ p. IsBelow p port) (sym some) (grind (arith, nat_tests, less)))
    by false less = tt

-- before the number of ports there are no rows
none_below : (rows : List Entry) (ports : Option ℕ) → AreBelow None rows → AreBelow ports rows
none_below [] ports below = tt
none_below (e ∷ rows) ports below = absurd below.0

header_good : (kind : TableKind) (s : State) (line n : ℕ) (ports : Option ℕ) → AreBelow ports s.rows → Good kind s → IfOk (header_read s line n ports) (Good kind)
header_good kind s line n None below good = record { same = good.same; keys = good.keys; below = none_below s.rows (Some n) below; apart = good.apart }
header_good kind s line n (Some other) below good = tt

said_good : (kind : TableKind) (s : State) (line : ℕ) (content : Content) → IsFine kind content → Good kind s → IfOk (said s line content) (Good kind)
said_good kind s line Skipped fine good = good
said_good kind s line Bad fine good = tt
said_good kind s line (Ports n) fine good = header_good kind s line n s.ports good.below good
said_good kind s line (Row key port) fine good = row_good kind s line key port s.ports refl good fine

read_good : (kind : TableKind) (number : ℕ) (s : State) (ls : List (List ℕ)) → Good kind s → IfOk (read_from step number s ls) (Good kind)
read_good kind number s [] good = good
read_good kind number s (line ∷ later) good =
    by (step s number line)
    (said_good kind s number (content_of s.kind line) (subst (λ k. IsFine k (content_of s.kind line)) good.same (content_fine s.kind line)) good)
    (λ next good. read_good kind (suc number) next later good)
  where
    by : (r : Result State TableFault) → IfOk r (Good kind) → ((next : State) → Good kind next → IfOk (read_from step (suc number) next later) (Good kind))
        → IfOk (and_then r (λ s. read_from step (suc number) s later)) (Good kind)
    by (Ok next) good rest = rest next good
    by (Err fault) good rest = tt

-- ---- the table

keys_of : (kind : TableKind) (rows : List Entry) → AreKeys kind rows → AllByRecursion (λ row. IsKey kind row.address row.length) (map row_of_entry rows)
keys_of kind [] keys = tt
keys_of kind (e ∷ rows) keys = (keys.0, keys_of kind rows keys.1)

ports_of : (ports : ℕ) (rows : List Entry) → AreBelow (Some ports) rows → AllByRecursion (λ row. row.port < ports) (map row_of_entry rows)
ports_of ports [] below = tt
ports_of ports (e ∷ rows) below = (below.0, ports_of ports rows below.1)

differ : (x e : Entry) → is_key x.0 e.0 ≡ false → x.0.0 ≡ e.0.0 → x.0.1 ≡ e.0.1 → ⊥
differ x e is one two = grind (arith, nat_tests, is, one, two)

others_of : (e : Entry) (rows : List Entry) → AllByRecursion (λ x. is_key x.0 e.0 ≡ false) rows
    → AllByRecursion (λ other. other.address ≡ e.0.0 → other.length ≡ e.0.1 → ⊥) (map row_of_entry rows)
others_of e [] apart = tt
others_of e (x ∷ rows) apart = (differ x e apart.0, others_of e rows apart.1)

apart_of : (rows : List Entry) → AreApart rows → NoneTwice (map row_of_entry rows)
apart_of [] apart = tt
apart_of (e ∷ rows) apart = (others_of e rows apart.0, apart_of rows apart.1)

finished_is : (kind : TableKind) (s : State) (ports : Option ℕ) → AreBelow ports s.rows → Good kind s → IfOk (finished s ports) (IsTable kind)
finished_is kind s None below good = tt
finished_is kind s (Some ports) below good =
    record { keys = keys_of kind s.rows good.keys; ports = ports_of ports s.rows below; apart = apart_of s.rows good.apart }

all_tables : (kind : TableKind) (bytes : List ℕ) → IfOk (table_of kind bytes) (IsTable kind)
all_tables kind bytes =
    by (read_from step 1 (nothing_read kind) (lines bytes))
    (read_good kind 1 (nothing_read kind) (lines bytes) (record { same = refl; keys = tt; below = tt; apart = tt }))
  where
    by : (r : Result State TableFault) → IfOk r (Good kind) → IfOk (and_then r (λ s. finished s s.ports)) (IsTable kind)
    by (Ok s) good = finished_is kind s s.ports good.below good
    by (Err fault) good = tt

pub files_have_tables : (kind : TableKind) (bytes : List ℕ) (table : TableSeen) → table_of kind bytes ≡ Ok table → IsTable kind table
files_have_tables kind bytes table is = subst (λ r. IfOk r (IsTable kind)) is (all_tables kind bytes)
