-- The entry and what it makes of the address are the definition's translation: a fetch lies inside the memory that it reaches.
use Rattle.std.proofs.Common.{◌≡◌, ℕ, sym, ap, ◌∙◌, arith, Ok, Err}
use Rattle.std.proofs.lemmas.Bool.{lt-leb, le-leb}
use Rattle.gmch.specs.Look.{Look, Reach}
use Rattle.gmch.specs.Words.{load_le}
use Rattle.gmch.specs.Table.{entry_at, entered, translate, fetch}
use Rattle.gmch.specs.declared.Map.{Map}
use Rattle.gmch.specs.declared.Place.{Place}
use Rattle.gmch.specs.declared.Place.TheVariants.{InMain, InCache}
use Rattle.gmch.proofs.Choice.{pick_true}
use Rattle.gmch.proofs.Table.{translate_at, reached_fits, fetch_main, fetch_cache, fetch_none}
use Rattle.ring.proofs.parser.Parser.fetch.Goals as goal

-- where the two calls lead
leads : (m : Map) (control : ℕ) (look : ℕ → Look) (o : ℕ) {v : ℕ} {entry : Look} {place p : Reach Place}
    → v ≡ o → entry ≡ entry_at control look o → place ≡ entered m v entry → place ≡ p → translate m control look o ≡ p
leads m control look o same found reached e = sym (rw (same, found) at reached) ∙ e

pub returns-then-table-o : goal.returns-then-table-o
returns-then-table-o c = unfold fetch in sym (pick_true _ _ (le-leb _ _ (omega arith)))

pub load4-requires : goal.load4-requires
load4-requires c =
    let t = c.args.self.now.translation in
    let e : c.entered.result ≡ Ok (InMain c.in-Ok-InMain.a) = (cc) in
    let q = translate_at _ _ _ _ (leads _ _ _ _ (omega arith) c.entry_at.ensures c.entered.ensures e) in
    let h = reached_fits _ _ t.sized.0 q.0 4 (omega (arith, q.1)) in
    omega arith

pub load4-requires-in-Ok-InCache : goal.load4-requires-in-Ok-InCache
load4-requires-in-Ok-InCache c =
    let e : c.entered.result ≡ Ok (InCache c.in-Ok-InCache.a) = (cc) in
    let q = translate_at _ _ _ _ (leads _ _ _ _ (omega arith) c.entry_at.ensures c.entered.ensures e) in
    let n = c.args.self.now.cached.whole q.0 in
    omega (arith, n, q.1, q.2)

pub returns-in-Ok-InMain : goal.returns-in-Ok-InMain
returns-in-Ok-InMain c =
    let e : c.entered.result ≡ Ok (InMain c.in-Ok-InMain.a) = (cc) in
    ap Ok (c.load4.ensures ∙ ap (λ (a : ℕ). load_le 4 a c.args.self.now.translation.memory.now) (omega arith))
    ∙ fetch_main _ _ _ _ _ (lt-leb _ _ (omega arith)) _ c.requires (leads _ _ _ _ (omega arith) c.entry_at.ensures c.entered.ensures e)

pub returns-in-Ok-InCache : goal.returns-in-Ok-InCache
returns-in-Ok-InCache c =
    let e : c.entered.result ≡ Ok (InCache c.in-Ok-InCache.a) = (cc) in
    ap Ok c.load4-in-Ok-InCache.ensures
    ∙ fetch_cache _ _ _ _ _ (lt-leb _ _ (omega arith)) _ c.requires (leads _ _ _ _ (omega arith) c.entry_at.ensures c.entered.ensures e)

pub returns-in-Err : goal.returns-in-Err
returns-in-Err c =
    ap Err (omega arith) ∙ fetch_none _ _ _ _ _ (lt-leb _ _ (omega arith)) _ _ (leads _ _ _ _ (omega arith) c.entry_at.ensures c.entered.ensures c.in-Err.is)
