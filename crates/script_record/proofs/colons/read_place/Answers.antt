-- `colons::read_place` meets its contract: what `read_hex` leaves in sixteen zeros is the AID with zeros after it, by `aid-read`.
use mathlib.Core.Path.{sym, ◌∙◌}
use Rattle.base_choice.proofs.Branches.{no! }
use Rattle.script_record.specs.Colons.{place_word}
use Rattle.script_record.proofs.Names.{hex-ok, hex-taken, aid-read, place-as}
use borrow.Author.Rules.{rules}
use Rattle.script_record.proofs.colons.read_place.Goals as goal

pub overflow_cast-n : goal.overflow_cast-n
overflow_cast-n c = let h = (hex-taken _ _ _ (hex-ok _ _ (sym c.in_ok-n.was ∙ c.ok.ensures.value) ∙ c.read_hex.ensures.0)).1.0 in search rules

pub returns : goal.returns
unfolding place_word
returns c =
    let bytes = hex-ok _ _ (sym c.in_ok-n.was ∙ c.ok.ensures.value) ∙ c.read_hex.ensures.0 in
    let aid = aid-read _ _ _ bytes c.read_hex.ensures.1 in
    no! _ (sym c.same.ensures ∙ c.if-same.false) (rw (← (sym c.in_ok-from.was ∙ c.next_field.ensures.value)) (rw (← bytes) (c.place_with.ensures ∙ place-as _ _ _ aid)))
