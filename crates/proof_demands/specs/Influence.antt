-- Document 01, 'Who may influence what': "Two sound cards that differ only in one profile's used bytes give equal answers over any
-- calls without stored or finished for that profile, and differ afterwards at most in that number."
use Rattle.std.specs.Prelude.{ℕ, ◌≡◌, List, [], ◌∷◌, ◌++◌, Bool, true, false, not, ◌&&◌, set}
use Rattle.base_bytes.specs.Bytes.{same_bytes}
use Rattle.card_isdp.specs.LifeCycle.{with_used}
use Rattle.card_record.specs.Cards.{place_of, profile_of, over}
use Rattle.card_record.specs.Sound.{sound}
use Rattle.card_record.specs.declared.Card.{Card}
use Rattle.rule_run.specs.Calls.{Call, Call.Command, Call.Keyed, Call.Stored, Call.Finished, Call.Tick, Call.Lost, Call.PolicyUpdate}
use Rattle.rule_run.specs.Step.{run}
use Rattle.proof_demands.specs.Said.{exchanges}
use Rattle.rule_run.specs.Samples.{aid, create, confirm}
use Rattle.proof_demands.specs.SampleRun.{changing, loaded}

-- the card with u used bytes in the profile that bears this AID; where none does, the card itself
abbrev pub reuse : List ℕ → ℕ → Card → Card
reuse name u c = over c (set c.places (place_of c name) (with_used (profile_of c name) u))

-- two cards differ at most in the used bytes of the profile that bears this AID
abbrev pub Differ : List ℕ → Card → Card → Type 0
Differ name c d = (u : ℕ) × (d ≡ reuse name u c)

-- "stored or finished for that profile" names its AID (decisions 39, B86)
abbrev pub fills : List ℕ → Call → Bool
fills name (Command verdict s room) = false
fills name (Keyed other) = false
fills name (Stored other n) = same_bytes other name
fills name (Finished other policy mark) = same_bytes other name
fills name Tick = false
fills name Lost = false
fills name (PolicyUpdate speaker s room) = false

unfoldable pub none_fills : List ℕ → List Call → Bool
none_fills name [] = true
none_fills name (call ∷ calls) = not (fills name call) && none_fills name calls

-- "equal answers" are equal exchanges (decision 67)
abbrev pub UsedBytesStayPrivate : Type 0
UsedBytesStayPrivate =
    (c : Card) (name : List ℕ) (u : ℕ) (calls : List Call) → sound c ≡ true → sound (reuse name u c) ≡ true →
    none_fills name calls ≡ true →
    (exchanges (reuse name u c) calls ≡ exchanges c calls) × Differ name (run c calls) (run (reuse name u c) calls)

-- 02 has 5 used bytes, or 30; the calls enable it, delete it and make it anew
pub record UsedBytesMet : Type 0 where
  pub five : (profile_of loaded (aid 2)).used ≡ 5
  pub one-sound : sound loaded ≡ true
  pub other-sound : sound (reuse (aid 2) 30 loaded) ≡ true
  pub spared : none_fills (aid 2) (changing ++ confirm 2 ∷ create 2 10 ∷ Keyed (aid 2) ∷ []) ≡ true
