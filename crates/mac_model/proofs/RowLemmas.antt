-- The row of an address is one, in whatever order the rows stand.
use Rattle.std.proofs.Common.{◌≡◌, ◌∙◌, refl, ap, ℕ, ◌==◌, ◌⊎◌, inl, inr, Bool, true, false, cond, if◌then◌else◌, List, [], ◌∷◌, map, Option, None, Some, option_map}
use Rattle.std.specs.Prelude.{find}
use Rattle.sefl_syntax.specs.declared.net.TableKind.TheVariants.{Mac}
use Rattle.table_nodes.specs.TableNodes.{first_held, row_guard}
use Rattle.mac_model.specs.MacTables.{Row}
use Rattle.mac_model.specs.Nodes.{mac_port, whole}

abbrev pub Has : List Row → Row → Type 0
Has [] x = ⊥
Has (row ∷ rows) x = (x ≡ row) ⊎ Has rows x

abbrev pub IsFor : List Row → ℕ → Option Row → Type 0
IsFor rows a None = (x : Row) → Has rows x → (a == x.0) ≡ false
IsFor rows a (Some row) = Has rows row × ((a == row.0) ≡ true)

pub found_is : (rows : List Row) (a : ℕ) → IsFor rows a (find (λ row. a == row.0) rows)
found_is [] a = λ x has. absurd has
found_is (row ∷ rows) a = by (a == row.0) refl (find (λ row. a == row.0) rows) (found_is rows a)
  where
    by : (b : Bool) → (a == row.0) ≡ b → (o : Option Row) → IsFor rows a o → IsFor (row ∷ rows) a (cond b (Some row) o)
    by true is o rest = (inl refl, is)
    by false is None rest = λ x has. elim has [ inl same ↦ ap (λ r. a == r.0) same ∙ is | inr later ↦ rest x later ]
    by false is (Some r) rest = (inr rest.0, rest.1)

-- a test for each row
pub rows_held : (a : ℕ) (rows : List Row) → first_held a (map (row_guard Mac) (map whole rows)) ≡ mac_port rows a
rows_held a [] = refl
rows_held a (row ∷ rows) = by (a == row.0) (rows_held a rows)
  where
    by : (b : Bool) → first_held a (map (row_guard Mac) (map whole rows)) ≡ mac_port rows a
        → (if b then Some row.1 else first_held a (map (row_guard Mac) (map whole rows)))
        ≡ option_map (λ row. row.1) (cond b (Some row) (find (λ row. a == row.0) rows))
    by true rest = refl
    by false rest = rest
