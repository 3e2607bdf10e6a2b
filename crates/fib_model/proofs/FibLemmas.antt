-- The table of a file is one of prefixes.
use Rattle.std.proofs.Common.{◌≡◌, ◌∙◌, sym, ap, ℕ, ◌<◌, inl, inr, List, [], ◌∷◌, map}
use Rattle.std.specs.List.{AllByRecursion}
use Rattle.std.proofs.lemmas.List.Elements.{All-from_recursion}
use Rattle.sefl_syntax.specs.declared.net.TableKind.TheVariants.{Fib}
use Rattle.table_lines.specs.declared.table.Row as lines
use Rattle.table_lines.specs.Laws.{IsKey, NoneTwice, IsTable}
use Rattle.table_lines.specs.Tables.{TableSeen}
use Rattle.fib_model.specs.Prefixes.{Row, IsRow, Has, Distinct}
use Rattle.fib_model.specs.Fibs.{IsFib, triple}

rows_are : (rows : List lines.Row) → AllByRecursion (λ row. IsKey Fib row.address row.length) rows → AllByRecursion IsRow (map triple rows)
rows_are [] keys = tt
rows_are (row ∷ rows) keys = (keys.0, rows_are rows keys.1)

rows_below : (ports : ℕ) (rows : List lines.Row) → AllByRecursion (λ row. row.port < ports) rows → AllByRecursion (λ row. row.2 < ports) (map triple rows)
rows_below ports [] below = tt
rows_below ports (row ∷ rows) below = (below.0, rows_below ports rows below.1)

-- a row behind another one has another prefix
not_again : (row : lines.Row) (rows : List lines.Row) (x : Row) → AllByRecursion (λ other. other.address ≡ row.address → other.length ≡ row.length → ⊥) rows
    → Has (map triple rows) x → x.0 ≡ row.address → x.1 ≡ row.length → ⊥
not_again row [] x apart has one two = has
not_again row (other ∷ rows) x apart (inl is) one two = apart.0 (ap (λ r. r.0) (sym is) ∙ one) (ap (λ r. r.1) (sym is) ∙ two)
not_again row (other ∷ rows) x apart (inr later) one two = not_again row rows x apart.1 later one two

distinct : (rows : List lines.Row) → NoneTwice rows → Distinct (map triple rows)
distinct [] apart = λ x y hx hy one two. absurd hx
distinct (row ∷ rows) apart = by (distinct rows apart.1)
  where
    by : Distinct (map triple rows) → (x y : Row) → Has (map triple (row ∷ rows)) x → Has (map triple (row ∷ rows)) y → x.0 ≡ y.0 → x.1 ≡ y.1 → x ≡ y
    by rest x y (inl is) (inl same) one two = is ∙ sym same
    by rest x y (inl is) (inr later) one two =
        absurd (not_again row rows y apart.0 later (sym one ∙ ap (λ r. r.0) is) (sym two ∙ ap (λ r. r.1) is))
    by rest x y (inr later) (inl same) one two =
        absurd (not_again row rows x apart.0 later (one ∙ ap (λ r. r.0) same) (two ∙ ap (λ r. r.1) same))
    by rest x y (inr hx) (inr hy) one two = rest x y hx hy one two

pub fib_is : (table : TableSeen) → IsTable Fib table → IsFib table.ports (map triple table.rows)
fib_is table is = record {
  prefixes = All-from_recursion IsRow (map triple table.rows) (rows_are table.rows is.keys);
  below = All-from_recursion (λ row. row.2 < table.ports) (map triple table.rows) (rows_below table.ports table.rows is.ports);
  distinct = distinct table.rows is.apart;
}
