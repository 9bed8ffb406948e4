-- By the home; a word that is reached in main memory lies inside it.
use Rattle.std.proofs.Common.{sym, ap, ◌∙◌, arith, le-leb, Ok}
use Rattle.std.proofs.lemmas.Result.{err_from_is_err_and}
use Rattle.gmch.specs.Table.{look_in}
use Rattle.gmch.proofs.Choice.{tests}
use Rattle.gmch.proofs.Table.{word_at, look_at, look_denied}
use Rattle.graphics.specs.Refusal.{at_offset}
use Rattle.graphics.proofs.translation.Translation.lookup.Goals as goal

pub returns-then-self-lt2 : goal.returns-then-self-lt2
returns-then-self-lt2 c = unfold look_in in search tests

pub returns-in_err-p : goal.returns-in_err-p
returns-in_err-p c =
    let r = err_from_is_err_and c.from_residual.result c.from_residual.ensures.1 in
    let e = sym c.main_word.ensures ∙ ap (at_offset 0) c.in_err-p.was in
    rw (r.1, r.2) (look_denied _ _ _ _ _ (le-leb 2 c.args.self.now.map.kind (omega arith)) _ _ e)

pub load4-requires : goal.load4-requires
load4-requires c =
    let e = sym c.main_word.ensures ∙ ap (at_offset 0) c.in_ok-p.was in
    let q = word_at _ _ _ _ e in
    omega (arith, q.below, q.aligned, c.requires)

pub returns : goal.returns
returns c =
    let e = sym c.main_word.ensures ∙ ap (at_offset 0) c.in_ok-p.was in
    ap Ok c.load4.ensures ∙ look_at _ _ _ _ _ (le-leb 2 c.args.self.now.map.kind (omega arith)) _ e
