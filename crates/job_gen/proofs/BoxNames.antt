-- The names of boxes are names.
use Rattle.std.proofs.Common.{rules, ◌≡◌, refl, sym, ℕ, zero, suc, ◌+◌, ◌<◌, ◌≤◌, ◌^◌, ◌%◌, ◌++◌, ◌&&◌, nat_le, Bool, true, false, List, [], ◌∷◌, length, arith}
use Rattle.std.proofs.lemmas.Bool.{true≢false}
use Rattle.std.proofs.lemmas.Nat.{mod_below}
use Rattle.std.specs.Fmt.{decimal}
use Rattle.std.specs.List.{list_all}
use Rattle.std.proofs.lemmas.Fmt.{decimal_by_steps, length-decimal-le}
use Rattle.sefl_lex.specs.Bytes.{is_name_byte}
use Rattle.sefl_syntax.specs.Name.{is_name}
use Rattle.job_gen.specs.Grown.{box_name}

digit_is_name_byte : (d : ℕ) → d < 10 → is_name_byte (48 + d) ≡ true
digit_is_name_byte zero small = refl
digit_is_name_byte (suc zero) small = refl
digit_is_name_byte (suc (suc zero)) small = refl
digit_is_name_byte (suc (suc (suc zero))) small = refl
digit_is_name_byte (suc (suc (suc (suc zero)))) small = refl
digit_is_name_byte (suc (suc (suc (suc (suc zero))))) small = refl
digit_is_name_byte (suc (suc (suc (suc (suc (suc zero)))))) small = refl
digit_is_name_byte (suc (suc (suc (suc (suc (suc (suc zero))))))) small = refl
digit_is_name_byte (suc (suc (suc (suc (suc (suc (suc (suc zero)))))))) small = refl
digit_is_name_byte (suc (suc (suc (suc (suc (suc (suc (suc (suc zero))))))))) small = refl
digit_is_name_byte (suc (suc (suc (suc (suc (suc (suc (suc (suc (suc d)))))))))) small = absurd (omega (arith, small))

parts : (a b : Bool) → (a && b) ≡ true → (a ≡ true) × (b ≡ true)
parts true b e = (refl, e)
parts false b e = absurd (true≢false (sym e))

all_appended : (test : ℕ → Bool) (ds : List ℕ) (d : ℕ) → list_all test ds ≡ true → test d ≡ true → list_all test (ds ++ d ∷ []) ≡ true
all_appended test [] d all one = rw (one) refl
all_appended test (x ∷ ds) d all one =
    let p = parts (test x) (list_all test ds) all in
    rw (p.0) (all_appended test ds d p.1 one)

digits_are_name_bytes : (n : ℕ) → n < 2 ^ 64 → list_all is_name_byte (decimal n) ≡ true
digits_are_name_bytes =
    decimal_by_steps (λ m ds. list_all is_name_byte ds ≡ true) (λ m l. rw (digit_is_name_byte m l) refl)
    (λ m ds l h. all_appended is_name_byte ds (48 + m % 10) h (digit_is_name_byte (m % 10) (mod_below m 10 (omega arith))))

pub box_name_is_name : (box : ℕ) → box < 2 ^ 32 → is_name (box_name box) ≡ true
box_name_is_name box small =
    let few : length (decimal box) ≤ 20 = length-decimal-le 20 box (omega arith) (omega (arith, small)) (omega (arith, small)) in
    let fits : nat_le (length (box_name box)) 64 ≡ true = search rules in
    rw (digits_are_name_bytes box (omega (arith, small)), fits) refl
