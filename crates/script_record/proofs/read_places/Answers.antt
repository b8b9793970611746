-- `script_record::read_places` meets its contract. The loop keeps: the places read and those that the rest of the line gives are all.
use native.Mathlib.Omega.{arith}
use mathlib.Core.Path.{sym, ap, ◌∙◌}
use lib.ListN.{length-set}
use Rattle.std.proofs.lemmas.Result.{err_from_is_err_and}
use Rattle.std.specs.Prelude.{Result}
use Rattle.card_isdp.specs.declared.Isdp.{Isdp}
use Rattle.script_words.specs.declared.Reason.{Reason}
use Rattle.script_words.specs.declared.Words.{Words}
use Rattle.script_words.specs.Words.{read_to}
use Rattle.script_record.proofs.PlaceList.{same-line, places-end, places-bad, places-next}
use Rattle.script_record.proofs.read_places.Goals as goal

pub returns-in_err-place : goal.returns-in_err-place
returns-in_err-place c = let l = c.loop-place in
    let p = err_from_is_err_and c.from_residual.result c.from_residual.ensures.1 in
    let q = ap (λ (r : Result Isdp Reason). read_to r c.next_place.new.words.at) (sym c.in_err-place.was) ∙ c.next_place.ensures.found in
    rw (p.1, p.2) (places-bad _ _ l.place-index l.place-items _ l.invariant.1 _ (omega arith) q)

pub loop-place-preserved : goal.loop-place-preserved
loop-place-preserved c = let l = c.loop-place in
    let q = ap (λ (r : Result Isdp Reason). read_to r c.next_place.new.words.at) (sym c.in_ok-place.was) ∙ c.next_place.ensures.found in
    let m = ap (λ (w : Words). w.line.now) c.next_place.ensures.moved in
    (simp length-set l.invariant.0, same-line _ _ _ m ∙ places-next _ _ l.place-index l.place-items _ l.invariant.1 _ _ (omega arith) l.invariant.0 q)

pub returns : goal.returns
returns c = let l = c.loop-place in
    places-end _ _ l.place-index l.place-items _ l.invariant.1 (omega arith) l.invariant.0
