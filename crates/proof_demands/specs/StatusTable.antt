-- Document 01, 'Status words', computed: for each row of the table calls that meet it and, where the rows before allow it, a neighbour
-- that does not. The calls that meet a row and a later one too pin the order: each pair of adjacent rows that one call can meet is here.
-- 6D 00 is never met without 6A 86. "Create with an AID already held" meets neither 6A 88 nor a wrong state, 69 82 neither 69 E1 nor 6A 84;
-- a command that cannot be read asks nothing of the card, so that 6A 80 in an open change is one row's answer alone.
use Rattle.std.specs.Prelude.{ℕ, suc, ◌≡◌, List, [], ◌∷◌, ◌++◌, cond, replicate}
use Rattle.base_status.specs.StatusWords.{number_of}
use Rattle.base_status.specs.Rows.{Row}
use Rattle.card_isdp.specs.LifeCycle.{selectable, personalized, disabled, enabled, with_policy, with_mark}
use Rattle.card_isdp.specs.Place.{vacant, made}
use Rattle.card_isdp.specs.declared.Isdp.{Isdp}
use Rattle.card_record.specs.Cards.{keeping}
use Rattle.card_record.specs.Fresh.{zero_card}
use Rattle.card_record.specs.Free.{with_free}
use Rattle.card_record.specs.declared.Card.{Card}
use Rattle.card_record.specs.declared.Phase.TheVariants.{Quiet}
use Rattle.rule_run.specs.Calls.{Call, Call.Command, Call.Keyed, Call.Stored, Call.Finished, Call.Tick, Call.Lost}
use Rattle.rule_run.specs.Table.{table}
use Rattle.rule_run.specs.Step.{step, run}
use Rattle.rule_run.specs.Samples.{aid, command, get_status, set_fall_back, enable, disable, confirm, delete, create, creates, fresh, load_with, load, example_card, card_of_two}

-- the number of the first row that holds, counted from 1; 16 where none of the fifteen does
unfoldable pub row_met : List Row → ℕ
row_met [] = 1
row_met (r ∷ rs) = cond r.when 1 (suc (row_met rs))

-- after these calls from this card, this one is answered by this row with this word
pub record Case : Type 0 where
  pub row : ℕ
  pub word : ℕ
  pub start : Card
  pub before : List Call
  pub call : Call

-- GET STATUS of all, with this class and this last byte
abbrev pub listing_bytes : ℕ → ℕ → List ℕ
listing_bytes class le = class ∷ 0xF2 ∷ 0x40 ∷ 0x02 ∷ 0x02 ∷ 0x4F ∷ 0x00 ∷ le ∷ []

-- GET STATUS of the next rows; the same with an AID named
abbrev pub next : List ℕ
next = 0x80 ∷ 0xF2 ∷ 0x40 ∷ 0x03 ∷ 0x02 ∷ 0x4F ∷ 0x00 ∷ 0x00 ∷ []

abbrev pub next_part_of : ℕ → Call
next_part_of n = command (0x80 ∷ 0xF2 ∷ 0x40 ∷ 0x03 ∷ 0x07 ∷ 0x4F ∷ 0x05 ∷ aid n)

-- a command of no byte
abbrev pub no_bytes : Call
no_bytes = command []

-- set fall-back of 02, with this P1
abbrev pub marking : ℕ → Call
marking p1 = command (0x80 ∷ 0xE2 ∷ p1 ∷ 0x00 ∷ 0x0A ∷ 0x3A ∷ 0x05 ∷ 0x07 ∷ 0x4F ∷ 0x05 ∷ aid 2)

-- enable with an element too many
abbrev pub malformed : Call
malformed = command (0x80 ∷ 0xE2 ∷ 0x88 ∷ 0x00 ∷ 0x0C ∷ 0x3A ∷ 0x03 ∷ 0x09 ∷ 0x4F ∷ 0x05 ∷ (aid 2 ++ 0x4F ∷ 0x00 ∷ []))

abbrev pub master_delete : ℕ → ℕ → Call
master_delete verdict n =
    Command verdict
    (0x80 ∷ 0xE4 ∷ 0x00 ∷ 0x40 ∷ 0x19
    ∷ 0x4F ∷ 0x05 ∷ (aid n
    ++ 0xB6 ∷ 0x0D ∷ 0x42 ∷ 0x01 ∷ 0x01 ∷ 0x45 ∷ 0x01 ∷ 0x02 ∷ 0x5F ∷ 0x20 ∷ 0x01 ∷ 0x03 ∷ 0x93 ∷ 0x01 ∷ 0x04 ∷ 0x9E ∷ 0x01 ∷ 0x55 ∷ []))
    256

-- a card handed in: F, which is enabled and the fall-back, with this mark, and beside it this place
abbrev pub starts_on : ℕ → Isdp → Card
starts_on mark other = example_card (with_mark (made (aid 1) enabled 100 10) mark ∷ other ∷ []) 0 0 Quiet

-- F is enabled and the fall-back, 02 is DISABLED; the same in Trial, to 02
abbrev pub quiet : Card
quiet = card_of_two enabled disabled 0

abbrev pub opening : List Call
opening = enable 2 ∷ []

-- 02 is SELECTABLE
abbrev pub begun : List Call
begun = create 2 50 ∷ []

-- 02 is enabled with this policy, and F is the fall-back
abbrev pub onto : ℕ → List Call
onto policy = load 2 policy ++ enable 2 ∷ confirm 1 ∷ []

abbrev pub case : ℕ → ℕ → Card → List Call → Call → Case
case row word start before call = record { row = row; word = word; start = start; before = before; call = call }

-- pairs of rows that no call can meet have no case (decision B40)
abbrev pub cases : List Case
cases =
    -- 6F 00, also before 6F 02
    case 1 0x6F00 zero_card [] (Command 0 (listing_bytes 0x80 0) 255)
    ∷ case 1 0x6F00 zero_card [] Tick
    -- for a fall-back with no mark, a mark of 2, and a mark in a place not held; a profile of any state may be marked or not
    ∷ case 1 0x6F00 (starts_on 0 vacant) [] Tick
    ∷ case 1 0x6F00 (starts_on 2 vacant) [] Tick
    ∷ case 1 0x6F00 (starts_on 1 (with_mark (made (aid 2) disabled 50 5) 2)) [] Tick
    ∷ case 1 0x6F00 (starts_on 1 (with_mark vacant 1)) [] Tick
    ∷ case 16 0x9000 (starts_on 1 (with_mark (made (aid 2) selectable 50 0) 1)) [] Tick
    ∷ case 16 0x9000 (starts_on 1 (made (aid 2) disabled 50 5)) [] Tick
    ∷ case 16 0x9000 fresh [] Tick
    -- request 2026-04: for a number kept for free that is not what the quotas leave, and for quotas over the capacity; also before 6F 02
    ∷ case 1 0x6F00 (with_free fresh 899) [] Tick
    ∷ case 1 0x6F00 (with_free fresh 901) [] Lost
    ∷ case 1 0x6F00 (with_free fresh 0) [] (create 2 1)
    ∷ case 1 0x6F00 (with_free fresh 1000) [] get_status
    ∷ case 1 0x6F00 (with_free fresh 4294967295) [] (Command 0 (listing_bytes 0x80 0) 255)
    ∷ case 1 0x6F00 (starts_on 1 (made (aid 2) disabled 901 5)) [] Tick
    ∷ case 16 0x9000 (with_free fresh 900) [] Tick
    ∷ case 16 0x9000 (starts_on 1 (made (aid 2) disabled 900 5)) [] Tick
    -- request 2026-05: for a kept place that is not held, the last of them, and past the last
    ∷ case 1 0x6F00 (keeping fresh 1) [] Tick
    ∷ case 1 0x6F00 (keeping fresh 31) [] get_status
    ∷ case 1 0x6F00 (keeping fresh 32) [] (command next)
    ∷ case 16 0x9000 (keeping fresh 0) [] Tick
    -- P2 03 passes 6A 86, and 01 and 04 do not; with an AID named it is 6A 80, held or not, whatever is kept; with none kept 6A 88, also in an open
    -- change; where a place is kept it is taken, and forgotten by the last part
    ∷ case 6 0x6A86 (keeping fresh 0) [] (command (0x80 ∷ 0xF2 ∷ 0x40 ∷ 0x01 ∷ 0x02 ∷ 0x4F ∷ 0x00 ∷ []))
    ∷ case 6 0x6A86 (keeping fresh 0) [] (command (0x80 ∷ 0xF2 ∷ 0x40 ∷ 0x04 ∷ 0x02 ∷ 0x4F ∷ 0x00 ∷ []))
    ∷ case 7 0x6700 (keeping fresh 0) [] (command (0x80 ∷ 0xF2 ∷ 0x40 ∷ 0x03 ∷ []))
    ∷ case 8 0x6A80 (keeping fresh 0) [] (next_part_of 1)
    ∷ case 8 0x6A80 fresh [] (next_part_of 1)
    ∷ case 8 0x6A80 fresh [] (next_part_of 9)
    ∷ case 10 0x6A88 fresh [] (command next)
    ∷ case 10 0x6A88 quiet opening (command next)
    ∷ case 16 0x9000 (keeping fresh 0) [] (command next)
    ∷ case 10 0x6A88 (keeping fresh 0) (command next ∷ []) (command next)
    ∷ case 16 0x9000 (keeping fresh 0) (no_bytes ∷ next_part_of 1 ∷ []) (command next)
    ∷ case 10 0x6A88 (keeping fresh 0) (Tick ∷ []) (command next)
    -- 6F 02, also before 67 00
    ∷ case 2 0x6F02 fresh [] (Command 0 (0x80 ∷ 0xF2 ∷ 0x40 ∷ []) 255)
    ∷ case 2 0x6F02 fresh [] (Command 0 (listing_bytes 0x80 0) 255)
    ∷ case 16 0x9000 fresh [] (Command 0 (listing_bytes 0x80 0) 256)
    -- 67 00 for 3 and for 262 bytes, also before 6E 00; 4 and 261 bytes pass
    ∷ case 3 0x6700 fresh [] (command (0x00 ∷ 0xF2 ∷ 0x40 ∷ []))
    ∷ case 3 0x6700 fresh [] (command (0x00 ∷ replicate 261 0))
    ∷ case 3 0x6700 fresh [] (command (0x80 ∷ 0xF2 ∷ 0x40 ∷ []))
    ∷ case 7 0x6700 fresh [] (command (0x80 ∷ 0xF2 ∷ 0x40 ∷ 0x02 ∷ []))
    ∷ case 16 0x9000 fresh [] (command (0x80 ∷ 0xF2 ∷ 0x40 ∷ 0x02 ∷ 0xFF ∷ 0x4F ∷ 0x00 ∷ 0x5C ∷ 0x81 ∷ 0xFA ∷ (replicate 250 0x53 ++ 0x00 ∷ [])))
    -- 6E 00, also before 6D 00; the bounds of the three ranges
    ∷ case 4 0x6E00 fresh [] (command (0x90 ∷ 0xAA ∷ 0x40 ∷ 0x02 ∷ []))
    ∷ case 4 0x6E00 fresh [] (command (listing_bytes 0x7F 0))
    ∷ case 16 0x9000 fresh [] (command (listing_bytes 0x8F 0))
    ∷ case 4 0x6E00 fresh [] (command (listing_bytes 0x90 0))
    ∷ case 4 0x6E00 fresh [] (command (listing_bytes 0xBF 0))
    ∷ case 16 0x9000 fresh [] (command (listing_bytes 0xC0 0))
    ∷ case 16 0x9000 fresh [] (command (listing_bytes 0xCF 0))
    ∷ case 4 0x6E00 fresh [] (command (listing_bytes 0xD0 0))
    ∷ case 4 0x6E00 fresh [] (command (listing_bytes 0xDF 0))
    ∷ case 16 0x9000 fresh [] (command (listing_bytes 0xE0 0))
    ∷ case 16 0x9000 fresh [] (command (listing_bytes 0xEF 0))
    ∷ case 4 0x6E00 fresh [] (command (listing_bytes 0xF0 0))
    -- 6D 00, always before 6A 86
    ∷ case 5 0x6D00 fresh [] (command (0x80 ∷ 0xAA ∷ 0x40 ∷ 0x02 ∷ []))
    -- 6A 86, also before 67 00; the bounds of P1
    ∷ case 6 0x6A86 quiet [] (command (0x80 ∷ 0xE2 ∷ 0x87 ∷ 0x00 ∷ []))
    ∷ case 6 0x6A86 quiet [] (marking 0x87)
    ∷ case 16 0x9000 quiet [] (marking 0x88)
    ∷ case 16 0x9000 quiet [] (marking 0x8F)
    ∷ case 6 0x6A86 quiet [] (marking 0x90)
    -- 67 00 for the length shape, also before 6A 80
    ∷ case 7 0x6700 quiet [] (command (0x80 ∷ 0xE2 ∷ 0x88 ∷ 0x00 ∷ 0x09 ∷ 0x3A ∷ 0x05 ∷ 0x07 ∷ 0x4F ∷ 0x05 ∷ aid 2))
    ∷ case 7 0x6700 fresh [] (command (listing_bytes 0x80 1))
    ∷ case 7 0x6700 fresh [] (command (0x80 ∷ 0xCA ∷ 0xFF ∷ 0x21 ∷ 0x01 ∷ []))
    ∷ case 16 0x9000 fresh [] (command (0x80 ∷ 0xCA ∷ 0xFF ∷ 0x21 ∷ 0x00 ∷ []))
    -- 6A 80 for the data field and for the values of an inner call, also in an open change and for an AID not held
    ∷ case 8 0x6A80 quiet opening malformed
    ∷ case 8 0x6A80 quiet opening (create 2 1001)
    ∷ case 8 0x6A80 quiet [] malformed
    ∷ case 8 0x6A80 fresh [] (Keyed (0xA0 ∷ 0x00 ∷ 0x00 ∷ 0x00 ∷ []))
    ∷ case 8 0x6A80 fresh [] (Stored (replicate 17 0xA0) 1)
    ∷ case 8 0x6A80 fresh [] (Finished (aid 9) 0x05 1)
    ∷ case 8 0x6A80 fresh [] (Finished (aid 9) 0x04 2)
    ∷ case 8 0x6A80 fresh [] (Finished (aid 9) 0x04 255)
    ∷ case 10 0x6A88 fresh [] (Keyed (aid 9))
    ∷ case 10 0x6A88 fresh [] (Stored (replicate 16 0xA0) 1)
    ∷ case 10 0x6A88 fresh [] (Finished (aid 9) 0x04 0)
    ∷ case 10 0x6A88 fresh [] (Finished (aid 9) 0x04 1)
    -- 69 85 in an open change, and a confirmation in none, also before 6A 88 and before an AID already held
    ∷ case 9 0x6985 quiet opening (enable 9)
    ∷ case 9 0x6985 quiet opening (create 2 1)
    ∷ case 9 0x6985 quiet [] (confirm 0)
    ∷ case 9 0x6985 quiet opening (set_fall_back 1)
    ∷ case 16 0x9000 quiet (enable 2 ∷ confirm 1 ∷ []) (set_fall_back 1)
    ∷ case 16 0x9000 quiet opening get_status
    -- 6A 88, also before the state
    ∷ case 10 0x6A88 quiet [] (enable 9)
    ∷ case 10 0x6A88 quiet opening (confirm 2)
    ∷ case 16 0x9000 quiet opening (confirm 1)
    -- 6A 80 for an AID already held, also before 6A 84
    ∷ case 11 0x6A80 fresh [] (create 1 901)
    ∷ case 11 0x6A80 fresh (creates 2 31) (create 2 1)
    ∷ case 11 0x6A80 fresh [] (create 1 1)
    ∷ case 16 0x9000 fresh [] (create 2 1)
    -- 69 85 for the state, also before 69 E1, 69 82 and 6A 84
    ∷ case 12 0x6985 fresh (onto 2) (delete 2)
    ∷ case 12 0x6985 fresh (load 2 1 ++ set_fall_back 2 ∷ enable 2 ∷ confirm 1 ∷ []) (disable 2)
    ∷ case 12 0x6985 fresh (onto 1 ++ create 3 50 ∷ []) (enable 3)
    ∷ case 12 0x6985 fresh (onto 0) (master_delete 0 2)
    ∷ case 12 0x6985 fresh (create 2 50 ∷ []) (Stored (aid 2) 51)
    ∷ case 12 0x6985 fresh (create 2 50 ∷ Keyed (aid 2) ∷ []) (Finished (aid 2) 0 1)
    ∷ case 16 0x9000 fresh (create 2 50 ∷ Keyed (aid 2) ∷ Stored (aid 2) 1 ∷ []) (Finished (aid 2) 0 0)
    ∷ case 16 0x9000 fresh (create 2 50 ∷ Keyed (aid 2) ∷ Stored (aid 2) 1 ∷ []) (Finished (aid 2) 0 1)
    ∷ case 12 0x6985 fresh (create 2 50 ∷ []) (set_fall_back 2)
    -- and for a target of set fall-back that has no mark, DISABLED or ENABLED; the mark is asked nowhere else
    ∷ case 9 0x6985 fresh (load_with 2 0 0 ++ enable 2 ∷ []) (set_fall_back 2)
    ∷ case 12 0x6985 fresh (load_with 2 0 0) (set_fall_back 2)
    ∷ case 12 0x6985 fresh (load_with 2 0 0 ++ enable 2 ∷ confirm 1 ∷ []) (set_fall_back 2)
    ∷ case 12 0x6985 fresh (load 2 0 ++ delete 2 ∷ load_with 2 0 0) (set_fall_back 2)
    ∷ case 16 0x9000 fresh (load 2 0) (set_fall_back 2)
    ∷ case 16 0x9000 fresh (load 2 0 ++ enable 2 ∷ confirm 1 ∷ []) (set_fall_back 2)
    ∷ case 16 0x9000 fresh (load 2 0) (set_fall_back 1)
    ∷ case 16 0x9000 fresh (load_with 2 0 0) (enable 2)
    ∷ case 16 0x9000 fresh (load_with 2 0 0 ++ enable 2 ∷ confirm 1 ∷ []) (disable 2)
    ∷ case 12 0x6985 fresh (load 2 0) (Keyed (aid 2))
    -- request 2026-03, "69 85 for Delete narrows to ENABLED or fall-back": both, either alone, neither; in an open change by an earlier row
    ∷ case 12 0x6985 fresh [] (delete 1)
    ∷ case 12 0x6985 fresh (onto 0) (delete 2)
    ∷ case 12 0x6985 fresh (onto 0) (delete 1)
    ∷ case 16 0x9000 fresh begun (delete 2)
    ∷ case 16 0x9000 fresh (begun ++ Keyed (aid 2) ∷ []) (delete 2)
    ∷ case 16 0x9000 fresh (begun ++ Keyed (aid 2) ∷ Stored (aid 2) 50 ∷ []) (delete 2)
    ∷ case 9 0x6985 fresh (begun ++ load 3 0 ++ enable 3 ∷ []) (delete 2)
    ∷ case 10 0x6A88 fresh (begun ++ delete 2 ∷ []) (delete 2)
    -- "master delete stays with DISABLED only"
    ∷ case 12 0x6985 fresh begun (master_delete 1 2)
    ∷ case 12 0x6985 fresh (begun ++ Keyed (aid 2) ∷ []) (master_delete 1 2)
    ∷ case 12 0x6985 fresh (onto 0) (master_delete 1 1)
    ∷ case 16 0x9000 fresh (load 2 0) (master_delete 1 2)
    -- 69 E1, of a record handed in also where the profile is SELECTABLE or PERSONALIZED
    ∷ case 13 0x69E1 fresh (load 2 2) (delete 2)
    ∷ case 16 0x9000 fresh (load 2 1) (delete 2)
    ∷ case 13 0x69E1 (starts_on 1 (with_policy (made (aid 2) selectable 50 0) 2)) [] (delete 2)
    ∷ case 13 0x69E1 (starts_on 1 (with_policy (made (aid 2) personalized 50 5) 3)) [] (delete 2)
    ∷ case 16 0x9000 (starts_on 1 (with_policy (made (aid 2) personalized 50 5) 4)) [] (delete 2)
    ∷ case 13 0x69E1 fresh (onto 1) (disable 2)
    ∷ case 16 0x9000 fresh (onto 2) (disable 2)
    ∷ case 13 0x69E1 fresh (onto 1 ++ load 3 0) (enable 3)
    ∷ case 16 0x9000 fresh (onto 0 ++ load 3 1) (enable 3)
    -- 69 82
    ∷ case 14 0x6982 fresh (load 2 2) (master_delete 0 2)
    ∷ case 14 0x6982 fresh (load 2 2) (master_delete 2 2)
    ∷ case 16 0x9000 fresh (load 2 2) (master_delete 1 2)
    -- 6A 84
    ∷ case 15 0x6A84 fresh [] (create 2 901)
    ∷ case 16 0x9000 fresh [] (create 2 900)
    ∷ case 15 0x6A84 fresh (creates 2 31) (create 33 1)
    -- "Freed places and room are used again", those of a download that broke off too
    ∷ case 16 0x9000 fresh (creates 2 31 ++ delete 3 ∷ []) (create 33 1)
    ∷ case 15 0x6A84 fresh (create 2 900 ∷ []) (create 3 1)
    ∷ case 16 0x9000 fresh (create 2 900 ∷ Keyed (aid 2) ∷ Stored (aid 2) 900 ∷ delete 2 ∷ []) (create 3 900)
    -- and what a confirmation's deletion gives back: 02 is gone, F and 03 are left
    ∷ case 15 0x6A84 fresh (onto 4 ++ load 3 0 ++ enable 3 ∷ confirm 2 ∷ []) (create 4 851)
    ∷ case 16 0x9000 fresh (onto 4 ++ load 3 0 ++ enable 3 ∷ confirm 2 ∷ []) (create 4 850)
    ∷ case 15 0x6A84 fresh (create 2 50 ∷ Keyed (aid 2) ∷ []) (Stored (aid 2) 51)
    ∷ case 15 0x6A84 fresh (create 2 50 ∷ Keyed (aid 2) ∷ []) (Stored (aid 2) 4294967295)
    ∷ case 16 0x9000 fresh (create 2 50 ∷ Keyed (aid 2) ∷ []) (Stored (aid 2) 50)
    -- "Tick and lost are refused only by 6F 00"
    ∷ case 1 0x6F00 zero_card [] Lost
    ∷ case 16 0x9000 quiet opening Lost
    ∷ []

-- the row that answers, and the word
pub record RowAndWord : Type 0 where
  pub row : ℕ
  pub word : ℕ

unfoldable pub all_told : List Case → List RowAndWord
all_told [] = []
all_told (x ∷ rest) =
    record { row = row_met (table (run x.start x.before) x.call); word = number_of (step (run x.start x.before) x.call).status }
    ∷ all_told rest

unfoldable pub all_meant : List Case → List RowAndWord
all_meant [] = []
all_meant (x ∷ rest) = record { row = x.row; word = x.word } ∷ all_meant rest

abbrev pub StatusTable : Type 0
StatusTable = all_told cases ≡ all_meant cases
