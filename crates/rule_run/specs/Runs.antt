-- What is said of a call in a run: whether the table takes it, whether it is a tick, whether it confirms the outstanding number; and of a
-- card, which profile is enabled and which is the fall-back.
use Rattle.std.specs.Prelude.{ℕ, ◌+◌, List, [], ◌∷◌, Bool, true, false, cond, ◌&&◌}
use Rattle.base_status.specs.StatusWords.{is_done}
use Rattle.base_status.specs.Rows.{word_of}
use Rattle.base_status.specs.declared.Status.{Status}
use Rattle.card_isdp.specs.Aids.{aid_of, bytes_of}
use Rattle.card_places.specs.Places.{at}
use Rattle.card_record.specs.Cards.{enabled_aid}
use Rattle.card_record.specs.declared.Card.{Card}
use Rattle.rule_steps.specs.Asked.{Asked, Asked.unread, Asked.create, Asked.on, Asked.confirm, Asked.status_of_all, Asked.get_data, Asked.tick, Asked.lost}
use Rattle.rule_run.specs.Calls.{Call, Call.Command, Call.Keyed, Call.Stored, Call.Finished, Call.Tick, Call.Lost, Call.PolicyUpdate, asked}
use Rattle.rule_run.specs.Table.{table}
use Rattle.rule_run.specs.Step.{work}

-- the AID of the enabled profile and of the fall-back, as bytes
abbrev pub enabled_bytes : Card → List ℕ
enabled_bytes c = bytes_of (enabled_aid c)

abbrev pub fallback_bytes : Card → List ℕ
fallback_bytes c = aid_of (at c.places c.fallback)

-- the word of the table
abbrev pub table_word : Card → Call → Status
table_word c call = word_of (work c call).success (table c call)

-- no row of the table refuses the call
abbrev pub taken : Card → Call → Bool
taken c call = is_done (table_word c call)

abbrev pub is_tick : Call → Bool
is_tick (Command verdict s room) = false
is_tick (Keyed aid) = false
is_tick (Stored aid n) = false
is_tick (Finished aid policy mark) = false
is_tick Tick = true
is_tick Lost = false
is_tick (PolicyUpdate speaker s room) = false

abbrev pub is_confirmation : Asked → Bool
is_confirmation unread = false
is_confirmation (create aid quota) = false
is_confirmation (on aid act) = false
is_confirmation (confirm number) = true
is_confirmation (status_of_all next life fallback) = false
is_confirmation get_data = false
is_confirmation tick = false
is_confirmation lost = false

-- the confirmation of the outstanding number: of any other number the table refuses it (decision 62)
abbrev pub confirms : Card → Call → Bool
confirms c call = is_confirmation (asked c call) && taken c call

unfoldable pub ticks_among : List Call → ℕ
ticks_among [] = 0
ticks_among (call ∷ calls) = cond (is_tick call) 1 0 + ticks_among calls
