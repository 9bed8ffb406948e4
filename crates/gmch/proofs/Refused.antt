-- Request 5 of document 02: which offset a refusal names.
use Rattle.std.proofs.Common.{Ok, Err, ℕ, ◌≡◌, refl, sym, ◌∙◌, List, [], ◌∷◌, arith}
use Rattle.gmch.specs.Look.{Look, Reach, denied}
use Rattle.gmch.specs.Fence.{fence_reach, fenced}
use Rattle.gmch.specs.Table.{foreign_reach, entry_reach, entry_at, entered, translate, translated, window_reach, word_reach}
use Rattle.gmch.specs.Mapped.{entry_number}
use Rattle.gmch.specs.Access.{entry_target, resolved}
use Rattle.gmch.specs.declared.Map.{Map}
use Rattle.gmch.specs.declared.Access.{Access}
use Rattle.gmch.specs.declared.Place.{Place}
use Rattle.gmch.specs.declared.Place.TheVariants.{InMain, InCache}
use Rattle.gmch.specs.declared.Target.{Target}
use Rattle.gmch.specs.declared.Target.TheVariants.{Refused, Mapped}
use Rattle.gmch.specs.declared.Route.TheVariants.{Registers}
use Rattle.gmch.proofs.Choice.{pick_elim}
use Rattle.gmch.proofs.Fence.{not_reached, same_refusal}

-- ---- through the window

-- a fence's refusal is 9, and names the offset before fencing
fenced_names : (fences : List ℕ) (o c n : ℕ) → fenced fences o ≡ denied c n → (c ≡ 9) × (n ≡ o)
unfolding fenced fence_reach
fenced_names [] o c n = λ e. not_reached (sym e)
fenced_names (f ∷ fs) o c n =
    pick_elim P _ (λ _. pick_elim P _ (λ _ e. let q = same_refusal e in (sym q.0, sym q.1)) (λ _ e. not_reached (sym e))) (λ _. fenced_names fs o c n)
  where
    P : Reach ℕ → Type 0
    P r = r ≡ denied c n → (c ≡ 9) × (n ≡ o)

-- a translation's, with whatever code, names the offset that it was given
module _ (m : Map) (o : ℕ) where
  abbrev P : Reach Place → Type 0
  P (Ok (InMain p)) = Unit {0}
  P (Ok (InCache p)) = Unit {0}
  P (Err r) = r.offset ≡ o

  entered_names : (x : Look) → P (entered m o x)
  unfolding entered entry_reach foreign_reach
  entered_names (Ok entry) =
      pick_elim P _ (λ _. refl) (λ _. pick_elim P _ (λ _. pick_elim P _ (λ _. pick_elim P _ (λ _. refl) (λ _. tt)) (λ _. refl)) (λ _.
      pick_elim P _ (λ _. refl) (λ _. pick_elim P _ (λ _. refl) (λ _. tt))))
  entered_names (Err d) = refl

  translate_names : (control : ℕ) (look : ℕ → Look) → P (translate m control look o)
  translate_names control look = entered_names (entry_at control look o)

-- so a window access at o that is refused with c names n: o itself where the fence refuses, which is 9; the offset after
-- fencing where the table does
pub data Names (fences : List ℕ) (o c n : ℕ) : Type 0 where
  before_fencing : c ≡ 9 → n ≡ o → Names fences o c n
  after_fencing : fenced fences o ≡ Ok n → Names fences o c n

pub window_names : (m : Map) (fences : List ℕ) (control : ℕ) (look : ℕ → Look) (o c n : ℕ) → window_reach m fences control look o ≡ denied c n
    → Names fences o c n
unfolding translated
window_names m fences control look o c n = go (fenced fences o) refl
  where
    go : (r : Reach ℕ) → fenced fences o ≡ r → translated m control look r ≡ denied c n → Names fences o c n
    go (Ok v) f e = let q = rw e at (translate_names m v control look) in after_fencing (rw q f)
    go (Err r) f e =
        let q = fenced_names fences o r.code r.offset f in
        let h = same_refusal e in
        before_fencing (sym h.0 ∙ q.0) (sym h.1 ∙ q.1)

-- ---- at a register

word_names_none : (m : Map) (control i c n : ℕ) → word_reach m control i ≡ denied c n → n ≡ 0
unfolding word_reach
word_names_none m control i c n = pick_elim P _ (λ _ e. sym (same_refusal e).1) (λ _. pick_elim P _ (λ _ e. sym (same_refusal e).1) (λ _ e. not_reached (sym e)))
  where
    P : Reach ℕ → Type 0
    P r = r ≡ denied c n → n ≡ 0

-- code 10, and a table word's 7 and 6, name none
pub registers_name_none : (m : Map) (fences : List ℕ) (control : ℕ) (look : ℕ → Look) (a : Access) (o c n : ℕ)
    → resolved m fences control look a (Registers o) ≡ Refused c n → n ≡ 0
unfolding resolved
registers_name_none m fences control look a o c n =
    pick_elim P _ (λ _ e. cc) (λ _. pick_elim P _ (λ _. word (word_reach m control (entry_number o)) refl) (λ _.
    pick_elim P _ (λ _ e. let q : ◌≡◌ {A = ℕ} 0 1 = cc in absurd (omega arith)) (λ _. answered)))
  where
    P : Target → Type 0
    P t = t ≡ Refused c n → n ≡ 0

    answered : {p : ℕ} → Mapped p ≡ Refused c n → n ≡ 0
    answered e = let q : ◌≡◌ {A = ℕ} 0 1 = cc in absurd (omega arith)

    word : (r : Reach ℕ) → word_reach m control (entry_number o) ≡ r → P (entry_target o r)
    word (Err r) e f =
        let q = word_names_none m control (entry_number o) r.code r.offset e in
        let h : r.offset ≡ n = cc in
        sym h ∙ q
    word (Ok p) e f = let q : ◌≡◌ {A = ℕ} 0 1 = cc in absurd (omega arith)
