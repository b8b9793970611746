-- "`card EID CAPACITY VOLATILE FREE LAST FALLBACK PHASE KEPT PLACE0 .. PLACE31` hands in any record, sound or not: EID 16 bytes; FALLBACK a
-- place number 0-255", with a PLACE for each place of a card. The words are read from left to right, and the first that is wrong gives the reason.
use Rattle.std.specs.Prelude.{ℕ, zero, suc, ◌-◌, List, [], ◌∷◌, ◌++◌, Option, Some, Result, Ok, Err}
use Rattle.base_choice.specs.Choice.{pick, is_same}
use Rattle.base_bytes.specs.Bytes.{same_bytes}
use Rattle.text_words.specs.Words.{part, word_at, on_word}
use Rattle.text_words.specs.Numbers.{decimal_of}
use Rattle.text_words.specs.Hex.{hex_read_of, spelled}
use Rattle.card_isdp.specs.Sizes.{most_places, eid_size}
use Rattle.card_isdp.specs.declared.Isdp.{Isdp}
use Rattle.card_record.specs.Cards.{card_with, no_place}
use Rattle.card_record.specs.declared.Card.{Card}
use Rattle.card_record.specs.declared.Phase.{Phase}
use Rattle.script_words.specs.Ascii.{ascii}
use Rattle.script_words.specs.Arguments.{most32, most16, most8, on_some, on_ok, on_next, value_at}
use Rattle.script_record.specs.Colons.{on_read, phase_word, place_word}
use Rattle.script_words.specs.declared.Reason.{Reason}
use Rattle.script_words.specs.declared.Reason.TheVariants.{WordsMissing, BadHex, BadNumber, BadPlace, BadPhase}
use Rattle.script_words.specs.declared.Read.{Read}
use Rattle.script_record.specs.declared.Pending.{Pending}
use Rattle.script_record.specs.declared.Memory.{Memory}
use Rattle.script_record.specs.declared.Head.{Head}

-- PHASE, and the place after it
unfoldable pub phase_at : List ℕ → ℕ → Result (Read Phase) Reason
phase_at s at =
    on_word (word_at s at) (Err WordsMissing) λ a e.
    on_some (phase_word (part s a e)) (Err BadPhase) λ phase. Ok (record { value = phase; next = e })

-- KEPT: `-`, or the number of a place. The number that stands for none is not taken, so that none has one spelling (decision B76)
unfoldable pub kept_in : List ℕ → Option ℕ
kept_in w = pick (same_bytes w (ascii "-")) (Some no_place) (decimal_of (no_place - 1) w)

unfoldable pub kept_at : List ℕ → ℕ → Result (Read ℕ) Reason
kept_at s at =
    on_word (word_at s at) (Err WordsMissing) λ a e.
    on_some (kept_in (part s a e)) (Err BadNumber) λ n. Ok (record { value = n; next = e })

-- PHASE KEPT, the change and the listing that are open, and the place after them
unfoldable pub pending_at : List ℕ → ℕ → Result (Read Pending) Reason
pending_at s at =
    on_next (phase_at s at) Err λ phase b.
    on_next (kept_at s b) Err λ kept next. Ok (record { value = record { phase = phase; kept = kept }; next = next })

-- CAPACITY VOLATILE FREE, and the place after them (decision B68)
unfoldable pub record_memory_at : List ℕ → ℕ → Result (Read Memory) Reason
record_memory_at s at =
    on_next (value_at most32 s at) Err λ capacity b.
    on_next (value_at most32 s b) Err λ volatile c.
    on_next (value_at most32 s c) Err λ free next. Ok (record { value = record { capacity = capacity; volatile = volatile; free = free }; next = next })

-- these, LAST FALLBACK PHASE KEPT, and the place after them
unfoldable pub record_head_at : List ℕ → ℕ → Result (Read Head) Reason
record_head_at s at =
    on_next (record_memory_at s at) Err λ memory b.
    on_next (value_at most16 s b) Err λ last c.
    on_next (value_at most8 s c) Err λ fallback d.
    on_next (pending_at s d) Err λ pending next.
    Ok (record { value = record { memory = memory; last = last; fallback = fallback; pending = pending }; next = next })

-- PLACE, and the place in the line after it
unfoldable pub place_at : List ℕ → ℕ → Result (Read Isdp) Reason
place_at s at =
    on_word (word_at s at) (Err WordsMissing) λ a e.
    on_some (place_word (part s a e)) (Err BadPlace) λ place. Ok (record { value = place; next = e })

-- n places more, where `before` was read
unfoldable pub places_on : ℕ → List ℕ → ℕ → List Isdp → Result (List Isdp) Reason
places_on zero s at before = Ok before
places_on (suc n) s at before = on_next (place_at s at) Err λ place next. places_on n s next (before ++ (place ∷ []))

-- what stands after the EID
unfoldable pub record_with : List ℕ → ℕ → List ℕ → Result Card Reason
record_with s at eid =
    on_next (record_head_at s at) Err λ h next.
    on_ok (places_on most_places s next []) Err λ places.
    Ok (card_with eid h.memory.capacity h.memory.volatile h.memory.free h.last h.fallback h.pending.phase h.pending.kept places)

-- the words after `card`; an EID that has not 16 bytes is bad hex (decision B25)
unfoldable pub record_at : List ℕ → ℕ → Result Card Reason
record_at s at =
    on_word (word_at s at) (Err WordsMissing) λ a e.
    on_read (hex_read_of (part s a e) eid_size) (Err BadHex) λ n.
    pick (is_same n eid_size) (record_with s e (spelled (part s a e))) (Err BadHex)
