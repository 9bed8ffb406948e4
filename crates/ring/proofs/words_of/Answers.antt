use Rattle.std.proofs.Common.{◌≡◌, ℕ, ◌%◌, ◌≤◌, ◌<◌, refl, sym, ap, ◌∙◌, Bool, true, false, eqb, eqb-true, arith}
use Rattle.std.proofs.lemmas.Bool.{eqb-false}
use Rattle.gmch.specs.Ring.{opcode, words_of}
use Rattle.gmch.proofs.Choice.{pick_elim}
use Rattle.ring.proofs.words_of.Goals as goal

parity : {n k : ℕ} → n ≡ k → n % 2 ≡ k % 2
parity e = ap (λ (n : ℕ). n % 2) e

-- what is left up to 4
three : (n : ℕ) → n ≤ 4 → (n ≡ 0 → ⊥) → (n ≡ 1 → ⊥) → (n ≡ 2 → ⊥) → (n ≡ 4 → ⊥) → n ≡ 3
three n h a b c d = omega arith

-- the opcodes that are known
unknown : (word : ℕ) → (opcode word ≡ 0 → ⊥) → (opcode word ≡ 2 → ⊥) → (opcode word ≡ 4 → ⊥) → words_of word ≡ 0
unfolding words_of
unknown word a b c =
    pick_elim P _ (λ t. absurd (a (eqb-true _ _ t))) (λ _.
    pick_elim P _ (λ t. absurd (b (eqb-true _ _ t))) (λ _. pick_elim P _ (λ t. absurd (c (eqb-true _ _ t))) (λ _. refl)))
  where
    P : ℕ → Type 0
    P n = n ≡ 0

past : (word : ℕ) → 4 < opcode word → words_of word ≡ 0
past word h = unknown word (λ q. omega arith) (λ q. omega arith) (λ q. omega arith)

odd : (word : ℕ) → opcode word % 2 ≡ 1 → words_of word ≡ 0
odd word e = unknown word (λ q. no (sym e ∙ parity q)) (λ q. no (sym e ∙ parity q)) (λ q. no (sym e ∙ parity q))
  where
    no : ◌≡◌ {A = ℕ} 1 0 → ⊥
    no z = omega arith

even : (word : ℕ) → opcode word ≤ 4 → (opcode word % 2 ≡ 1 → ⊥) → 1 ≡ words_of word
unfolding words_of
even word h f =
    pick_elim P _ (λ _. refl) (λ a. pick_elim P _ (λ _. refl) (λ b. pick_elim P _ (λ _. refl) (λ c.
    absurd (by (eqb (opcode word) 1) refl (eqb-false _ _ a) (eqb-false _ _ b) (eqb-false _ _ c)))))
  where
    P : ℕ → Type 0
    P n = 1 ≡ n

    by : (x : Bool) → eqb (opcode word) 1 ≡ x → (opcode word ≡ 0 → ⊥) → (opcode word ≡ 2 → ⊥) → (opcode word ≡ 4 → ⊥) → ⊥
    by true p a b c = f (parity (eqb-true _ _ p))
    by false p a b c = f (parity (three (opcode word) h a (eqb-false _ _ p) b c))

pub returns-then-op-gt4 : goal.returns-then-op-gt4
returns-then-op-gt4 c = past _ (omega arith)

pub returns-then-op-eq1 : goal.returns-then-op-eq1
returns-then-op-eq1 c = odd _ c.if-op-eq1.true

pub returns : goal.returns
returns c = (even _ (omega arith) c.if-op-eq1.false, omega arith, omega arith)
