-- `script_record::record_at` meets its contract: what `read_hex` leaves in sixteen zeros is the EID where it has sixteen bytes, by `eid-read`.
use mathlib.Core.Path.{sym, ap, ◌∙◌}
use Rattle.std.specs.Prelude.{Result}
use Rattle.text_words.specs.declared.words.Span.{Span}
use mathlib.Core.List.{List}
use Prim.Native.Nat.{ℕ}
use Rattle.text_words.specs.Words.{part}
use Rattle.text_words.specs.Hex.{spelled, hex_read_of}
use Rattle.card_isdp.specs.Sizes.{eid_size}
use Rattle.script_words.specs.declared.Words.{Words}
use Rattle.script_words.specs.declared.Reason.{Reason}
use Rattle.script_words.specs.Words.{read_to, word_next}
use Rattle.base_choice.proofs.Branches.{eq! }
use Rattle.script_record.specs.Records.{record_at}
use Rattle.script_record.proofs.Names.{record-as, eid-read, mapped-ok, word-read}
use Rattle.script_record.proofs.record_at.Goals as goal

pub returns : goal.returns
unfolding record_at word_next
returns c =
    let w = c.in_ok-from.field-0 in
    let line = ap (λ (v : Words). v.line.now) c.next.ensures.moved in
    let bytes = mapped-ok _ _ _ _ c.map_err.ensures.cases c.map_err.ensures.variant (sym c.in_ok-n.was) ∙ c.read_hex.ensures.0 in
    let eid = eid-read _ _ _ bytes c.if-n-ne16.false c.read_hex.ensures.1 ∙ ap (λ (s : List ℕ). spelled (part s w.from w.to)) line in
    let found = ap (λ (r : Result Span Reason). read_to r c.next.new.self.at) (sym c.in_ok-from.was) ∙ c.next.ensures.found in
    let word = word-read _ _ _ found in
    rw (← word.0)
    (rw (← (bytes ∙ ap (λ (s : List ℕ). hex_read_of (part s w.from w.to) eid_size) line))
    (eq! _ c.if-n-ne16.false (c.record_with.ensures ∙ record-as line word.1 eid)))
