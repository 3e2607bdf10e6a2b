-- The count of open constructs.
use Rattle.std.proofs.Common.{◌≡◌, suc, ◌+◌, ◌≤◌, Bool, true, false, List, [], ◌∷◌, ◌++◌, length, reverse, if◌then◌else◌, refl, ap, ◌∙◌, arith}
use Rattle.std.proofs.lemmas.List.{reverse-append}
use Rattle.sefl_grammar.specs.Automaton.{is_open, open_count}
use Rattle.sefl_grammar.specs.declared.symbol.Symbol.{Symbol}

pub open_count_le : (stack : List Symbol) → open_count stack ≤ length stack
open_count_le [] = omega arith
open_count_le (symbol ∷ rest) = by_open (is_open symbol) (open_count_le rest)
  where
    by_open : (open' : Bool) → open_count rest ≤ length rest → (if open' then suc (open_count rest) else open_count rest) ≤ suc (length rest)
    by_open true h = omega (arith, h)
    by_open false h = omega (arith, h)

open_count_append : (xs ys : List Symbol) → open_count (xs ++ ys) ≡ open_count xs + open_count ys
open_count_append [] ys = omega arith
open_count_append (x ∷ xs) ys = by_open (is_open x) (open_count_append xs ys)
  where
    by_open : (open' : Bool) → open_count (xs ++ ys) ≡ open_count xs + open_count ys
        → (if open' then suc (open_count (xs ++ ys)) else open_count (xs ++ ys)) ≡ (if open' then suc (open_count xs) else open_count xs) + open_count ys
    by_open true h = omega (arith, h)
    by_open false h = h

pub open_count_reverse : (xs : List Symbol) → open_count (reverse xs) ≡ open_count xs
open_count_reverse [] = refl
open_count_reverse (x ∷ xs) =
    let turned : open_count (reverse (x ∷ xs)) ≡ open_count (reverse xs) + open_count (x ∷ []) =
    ap open_count (reverse-append (x ∷ []) xs) ∙ open_count_append (reverse xs) (x ∷ []) in
    let rest = open_count_reverse xs in
    let front : open_count (x ∷ xs) ≡ open_count (x ∷ []) + open_count xs = open_count_append (x ∷ []) xs in
    omega (arith, turned, rest, front)
