-- Constructs that nest.
use Rattle.std.proofs.Common.{◌≡◌, ℕ, zero, suc, ◌-◌, ◌<◌, List, None, Some, codes, if◌then◌else◌, refl, arith}
use Rattle.sefl_grammar.specs.Word.{Word}
use Rattle.sefl_builder.specs.Reading.{Found, then', known, begins_with}
use Rattle.sefl_builder.specs.Leaves.{key, skip}
use Rattle.sefl_builder.specs.Terms.{group, expr, operand, summand}
use Rattle.sefl_syntax.specs.Trees.{negation, InstrTree}
use Rattle.sefl_syntax.specs.Views.{code_of}
use Rattle.sefl_builder.specs.declared.version.Version.{Version}
use Rattle.sefl_builder.specs.declared.head.Head.{Head}
use Rattle.sefl_builder.specs.declared.head.Head.TheVariants.{If, For}
use Rattle.sefl_builder.specs.Instructions.{head_ahead, statement_rest, block_here, blocks, for_rest, if_rest, instr, instrs}
use Rattle.sefl_builder.specs.Conditions.{neg, neg_by, opposite, bracket, cond, conj, next_neg, next_conj}

within : (room : ℕ) → 0 < room → (r : ℕ) × (room ≡ suc r)
within zero h = absurd (omega arith)
within (suc r) h = (r, refl)

group_suc : (r : ℕ) (ws : List Word) → group (suc r) ws ≡ then' (key (codes "(") ws) (λ _ ws. then' (expr r ws) (λ e ws. then' (key (codes ")") ws) (λ _ ws. Some (e, ws))))
unfolding group expr operand summand
group_suc r ws = refl

pub prior : (r : ℕ) → suc r - 1 ≡ r
prior r = omega arith

-- one more may be open
pub group_within : (room : ℕ) (ws : List Word) → 0 < room → group room ws ≡ then' (key (codes "(") ws) (λ _ ws. then' (expr (room - 1) ws) (λ e ws. then' (key (codes ")") ws) (λ _ ws. Some (e, ws))))
group_within zero ws h = absurd (omega arith)
group_within (suc r) ws h = rw (prior r) (group_suc r ws)

-- none may be open any more
pub group_full : (room : ℕ) (ws : List Word) → room ≡ 0 → group room ws ≡ None
unfolding group
group_full room ws e = rw e refl

-- a condition that is no chain, by its first word
pub neg_is : (room : ℕ) (ws : List Word) → neg room ws ≡ neg_by (opposite room) (bracket room) room ws
unfolding neg opposite bracket cond conj next_neg next_conj
neg_is zero ws = refl
neg_is (suc r) ws = refl

pub opposite_within : (room : ℕ) (ws : List Word) → 0 < room → opposite room ws ≡ then' (key (codes "not") ws) (λ _ ws. then' (neg (room - 1) ws) (λ c ws. Some (negation c, ws)))
unfolding opposite
opposite_within zero ws h = absurd (omega arith)
opposite_within (suc r) ws h = rw (prior r) refl

pub opposite_full : (room : ℕ) (ws : List Word) → room ≡ 0 → opposite room ws ≡ None
unfolding opposite
opposite_full room ws e = rw e refl

pub bracket_within : (room : ℕ) (ws : List Word) → 0 < room → bracket room ws ≡ then' (key (codes "[") ws) (λ _ ws. then' (cond (room - 1) ws) (λ c ws. then' (key (codes "]") ws) (λ _ ws. Some (c, ws))))
unfolding bracket
bracket_within zero ws h = absurd (omega arith)
bracket_within (suc r) ws h = rw (prior r) refl

pub bracket_full : (room : ℕ) (ws : List Word) → room ≡ 0 → bracket room ws ≡ None
unfolding bracket
bracket_full room ws e = rw e refl

abbrev pub rest_is : Version → ℕ → Head → List Word → Found InstrTree
rest_is v room If ws = if_rest v room ws
rest_is v room For ws = for_rest v room ws
rest_is v room h ws = statement_rest v room h ws

-- an instruction, by its first word
pub instr_is : (v : Version) (room : ℕ) (ws : List Word) → instr v room ws ≡ (if begins_with (codes "{") ws then block_here v room ws else known (head_ahead ws) (λ h. then' (skip ws) (λ _ ws. rest_is v room h ws)))
unfolding instr block_here if_rest for_rest
instr_is v room ws = refl

pub blocks_suc : (v : Version) (r : ℕ) (ws : List Word) → blocks v (suc r) ws ≡ then' (key (codes "{") ws) (λ _ ws. then' (instrs v r ws) (λ is ws. then' (key (codes "}") ws) (λ _ ws. Some (code_of is, ws))))
unfolding blocks instr
blocks_suc v r ws = refl

pub blocks_within : (v : Version) (room : ℕ) (ws : List Word) → 0 < room → blocks v room ws ≡ then' (key (codes "{") ws) (λ _ ws. then' (instrs v (room - 1) ws) (λ is ws. then' (key (codes "}") ws) (λ _ ws. Some (code_of is, ws))))
blocks_within v zero ws h = absurd (omega arith)
blocks_within v (suc r) ws h = rw (prior r) (blocks_suc v r ws)

pub blocks_full : (v : Version) (room : ℕ) (ws : List Word) → room ≡ 0 → blocks v room ws ≡ None
unfolding blocks
blocks_full v room ws e = rw e refl
