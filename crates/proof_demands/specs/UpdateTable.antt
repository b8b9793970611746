-- Request 2026-06, 'Refusals', computed: the status table over policy updates, as `StatusTable` has it over the other calls: for each row
-- updates that meet it, with neighbours that do not, and those that meet a later row too, which pin the order; then what an update leaves
-- for the calls after it. No update meets "an AID already held", a policy that forbids, a verdict or a lack of room.
use Rattle.std.specs.Prelude.{ℕ, ◌≡◌, List, [], ◌∷◌, ◌++◌, replicate}
use Rattle.card_record.specs.Cards.{keeping}
use Rattle.card_record.specs.Fresh.{zero_card}
use Rattle.rule_run.specs.Calls.{Call, Call.Keyed, Call.Lost, Call.PolicyUpdate}
use Rattle.rule_run.specs.Samples.{aid, command, enable, disable, confirm, delete, fresh, ticks}
use Rattle.proof_demands.specs.StatusTable.{Case, case, next, quiet, opening, begun, onto, all_told, all_meant}

-- STORE DATA with this P1 and this policy (000, Tables 67 to 69)
abbrev pub storing : ℕ → ℕ → List ℕ
storing p1 policy = 0x80 ∷ 0xE2 ∷ p1 ∷ 0x00 ∷ 0x06 ∷ 0x3A ∷ 0x06 ∷ 0x03 ∷ 0x81 ∷ 0x01 ∷ policy ∷ []

-- the domain of F speaks
abbrev pub sent : List ℕ → Call
sent s = PolicyUpdate (aid 1) s 256

-- the domain of this profile sets this policy
abbrev pub policy : ℕ → ℕ → Call
policy n p = PolicyUpdate (aid n) (storing 0x88 p) 256

-- a lost network: Fallen, F enabled
abbrev pub lost_calls : List Call
lost_calls = onto 0 ++ Lost ∷ []

abbrev pub updates : List Case
updates =
    -- 6F 00, also before 6F 02
    case 1 0x6F00 zero_card [] (policy 1 2)
    ∷ case 1 0x6F00 zero_card [] (PolicyUpdate [] [] 255)
    -- 6F 02, also before 67 00
    ∷ case 2 0x6F02 fresh [] (PolicyUpdate (aid 1) [] 255)
    ∷ case 2 0x6F02 fresh [] (PolicyUpdate (aid 1) (storing 0x88 2) 255)
    ∷ case 16 0x9000 fresh [] (PolicyUpdate (aid 1) (storing 0x88 2) 256)
    -- 67 00, also before 6E 00
    ∷ case 3 0x6700 fresh [] (sent (0x00 ∷ 0xE2 ∷ 0x88 ∷ []))
    ∷ case 3 0x6700 fresh [] (sent (0x00 ∷ replicate 261 0))
    ∷ case 7 0x6700 fresh [] (sent (0x80 ∷ 0xE2 ∷ 0x88 ∷ 0x00 ∷ []))
    -- 6E 00, also before 6D 00
    ∷ case 4 0x6E00 fresh [] (sent (0x90 ∷ 0xE4 ∷ 0x00 ∷ 0x40 ∷ []))
    ∷ case 4 0x6E00 fresh [] (sent (0x7F ∷ 0xE2 ∷ 0x88 ∷ 0x00 ∷ 0x06 ∷ 0x3A ∷ 0x06 ∷ 0x03 ∷ 0x81 ∷ 0x01 ∷ 0x02 ∷ []))
    ∷ case 16 0x9000 fresh [] (sent (0xEF ∷ 0xE2 ∷ 0x88 ∷ 0x00 ∷ 0x06 ∷ 0x3A ∷ 0x06 ∷ 0x03 ∷ 0x81 ∷ 0x01 ∷ 0x02 ∷ 0x00 ∷ []))
    -- 6D 00 for INSTALL [for personalization], also before 6A 86, and for the root domain's own instructions, in commands that are right there
    ∷ case 5 0x6D00 fresh [] (sent (0x80 ∷ 0xE6 ∷ 0x20 ∷ 0x00 ∷ []))
    ∷ case 5 0x6D00 fresh [] (sent (0x80 ∷ 0xE4 ∷ 0x00 ∷ 0x40 ∷ 0x07 ∷ 0x4F ∷ 0x05 ∷ aid 1))
    ∷ case 5 0x6D00 fresh [] (sent (0x80 ∷ 0xF2 ∷ 0x40 ∷ 0x02 ∷ 0x02 ∷ 0x4F ∷ 0x00 ∷ []))
    ∷ case 5 0x6D00 fresh [] (sent (0x80 ∷ 0xCA ∷ 0xFF ∷ 0x21 ∷ 0x00 ∷ []))
    -- 6A 86, also before 67 00; the bounds of P1
    ∷ case 6 0x6A86 fresh [] (sent (0x80 ∷ 0xE2 ∷ 0x88 ∷ 0x01 ∷ []))
    ∷ case 6 0x6A86 fresh [] (sent (storing 0x87 2))
    ∷ case 16 0x9000 fresh [] (sent (storing 0x8F 2))
    ∷ case 6 0x6A86 fresh [] (sent (storing 0x90 2))
    -- 67 00 for the length shape, also before 6A 80
    ∷ case 7 0x6700 fresh [] (PolicyUpdate [] (0x80 ∷ 0xE2 ∷ 0x88 ∷ 0x00 ∷ 0x05 ∷ 0x3A ∷ 0x06 ∷ 0x03 ∷ 0x81 ∷ 0x01 ∷ 0x02 ∷ []) 256)
    ∷ case 7 0x6700 fresh [] (sent (0x80 ∷ 0xE2 ∷ 0x88 ∷ 0x00 ∷ 0x06 ∷ 0x3A ∷ 0x06 ∷ 0x03 ∷ 0x81 ∷ 0x01 ∷ 0x02 ∷ 0x01 ∷ []))
    -- 6A 80: the speaker's length, also in an open change
    ∷ case 8 0x6A80 fresh [] (PolicyUpdate [] (storing 0x88 2) 256)
    ∷ case 8 0x6A80 quiet opening (PolicyUpdate (replicate 4 0xA0) (storing 0x88 2) 256)
    ∷ case 10 0x6A88 fresh [] (PolicyUpdate (replicate 5 0xA0) (storing 0x88 2) 256)
    ∷ case 10 0x6A88 fresh [] (PolicyUpdate (replicate 16 0xA0) (storing 0x88 2) 256)
    ∷ case 8 0x6A80 fresh [] (PolicyUpdate (replicate 17 0xA0) (storing 0x88 2) 256)
    -- the DGI and what it holds: those of the root domain, 81 of no byte and of two, a second element; at the root domain 3A06 is no DGI
    ∷ case 8 0x6A80 fresh [] (sent (0x80 ∷ 0xE2 ∷ 0x88 ∷ 0x00 ∷ 0x0A ∷ 0x3A ∷ 0x05 ∷ 0x07 ∷ 0x4F ∷ 0x05 ∷ aid 1))
    ∷ case 8 0x6A80 fresh [] (sent (0x80 ∷ 0xE2 ∷ 0x88 ∷ 0x00 ∷ 0x06 ∷ 0x3A ∷ 0x05 ∷ 0x03 ∷ 0x81 ∷ 0x01 ∷ 0x02 ∷ []))
    ∷ case 8 0x6A80 fresh [] (sent (0x80 ∷ 0xE2 ∷ 0x88 ∷ 0x00 ∷ 0x05 ∷ 0x3A ∷ 0x06 ∷ 0x02 ∷ 0x81 ∷ 0x00 ∷ []))
    ∷ case 8 0x6A80 fresh [] (sent (0x80 ∷ 0xE2 ∷ 0x88 ∷ 0x00 ∷ 0x07 ∷ 0x3A ∷ 0x06 ∷ 0x04 ∷ 0x81 ∷ 0x02 ∷ 0x02 ∷ 0x02 ∷ []))
    ∷ case 8 0x6A80 fresh [] (sent (0x80 ∷ 0xE2 ∷ 0x88 ∷ 0x00 ∷ 0x09 ∷ 0x3A ∷ 0x06 ∷ 0x06 ∷ 0x81 ∷ 0x01 ∷ 0x02 ∷ 0x81 ∷ 0x01 ∷ 0x02 ∷ []))
    ∷ case 8 0x6A80 fresh [] (command (storing 0x88 2))
    -- and the policies that Table 70 has not
    ∷ case 16 0x9000 fresh [] (policy 1 0x00)
    ∷ case 16 0x9000 fresh [] (policy 1 0x01)
    ∷ case 16 0x9000 fresh [] (policy 1 0x03)
    ∷ case 16 0x9000 fresh [] (policy 1 0x04)
    ∷ case 8 0x6A80 fresh [] (policy 1 0x05)
    ∷ case 8 0x6A80 fresh [] (policy 1 0x06)
    ∷ case 8 0x6A80 fresh [] (policy 1 0x07)
    ∷ case 8 0x6A80 fresh [] (policy 1 0x08)
    ∷ case 8 0x6A80 fresh [] (policy 1 0x80)
    ∷ case 8 0x6A80 fresh [] (policy 1 0xFF)
    ∷ case 8 0x6A80 quiet opening (policy 2 0x06)
    -- 69 85 in an open change, in each phase, also before 6A 88 and before the state
    ∷ case 9 0x6985 quiet opening (policy 9 2)
    ∷ case 9 0x6985 quiet opening (policy 1 2)
    ∷ case 9 0x6985 quiet opening (policy 2 2)
    ∷ case 9 0x6985 quiet (opening ++ ticks 10) (policy 1 2)
    ∷ case 9 0x6985 fresh lost_calls (policy 1 2)
    ∷ case 16 0x9000 quiet (opening ++ confirm 1 ∷ []) (policy 2 2)
    -- 6A 88; an AID is told by its length too
    ∷ case 10 0x6A88 quiet [] (policy 9 2)
    ∷ case 10 0x6A88 quiet [] (PolicyUpdate (aid 1 ++ 0x00 ∷ []) (storing 0x88 2) 256)
    -- 69 85 for a profile that is not enabled: DISABLED, SELECTABLE, PERSONALIZED
    ∷ case 12 0x6985 quiet [] (policy 2 2)
    ∷ case 12 0x6985 fresh begun (policy 2 2)
    ∷ case 12 0x6985 fresh (begun ++ Keyed (aid 2) ∷ []) (policy 2 2)
    ∷ case 12 0x6985 fresh (onto 0) (policy 1 2)
    ∷ case 16 0x9000 fresh (onto 0) (policy 2 2)
    -- the old policy is not asked, and the same value again is taken
    ∷ case 16 0x9000 fresh (onto 3) (policy 2 0)
    ∷ case 16 0x9000 fresh (policy 1 2 ∷ []) (policy 1 2)
    -- what it then forbids is asked by the calls that asked before: disabling, deletion; a policy set back allows it again
    ∷ case 13 0x69E1 fresh (onto 0 ++ policy 2 1 ∷ []) (disable 2)
    ∷ case 13 0x69E1 quiet (policy 1 1 ∷ []) (enable 2)
    ∷ case 16 0x9000 quiet (policy 1 1 ∷ policy 1 0 ∷ []) (enable 2)
    ∷ case 16 0x9000 fresh (onto 1 ++ policy 2 0 ∷ []) (disable 2)
    ∷ case 13 0x69E1 fresh (onto 0 ++ policy 2 2 ∷ disable 2 ∷ confirm 2 ∷ []) (delete 2)
    ∷ case 16 0x9000 fresh (onto 0 ++ policy 2 2 ∷ policy 2 1 ∷ policy 2 0 ∷ disable 2 ∷ confirm 2 ∷ []) (delete 2)
    -- delete once disabled: the confirmation has deleted 02
    ∷ case 10 0x6A88 fresh (onto 0 ++ policy 2 4 ∷ disable 2 ∷ confirm 2 ∷ []) (delete 2)
    -- an accepted update forgets an open listing, a refused one does not
    ∷ case 10 0x6A88 (keeping fresh 0) (policy 1 0 ∷ []) (command next)
    ∷ case 16 0x9000 (keeping fresh 0) (policy 9 0 ∷ policy 1 6 ∷ []) (command next)
    ∷ []

abbrev pub UpdateTable : Type 0
UpdateTable = all_told updates ≡ all_meant updates
