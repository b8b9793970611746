-- Document 01, 'Who may influence what': "Free always equals capacity less the quotas of all profiles made by fresh or by an accepted
-- creation and not since deleted, counted from the calls." The count sees calls and what was said to them, never a card.
use Rattle.std.specs.Prelude.{ℕ, ◌+◌, ◌-◌, ◌≤◌, ◌≡◌, List, [], ◌∷◌, ◌++◌, true, cond, drop}
use Rattle.base_bytes.specs.Bytes.{same_bytes}
use Rattle.base_status.specs.StatusWords.{is_done}
use Rattle.card_record.specs.Cards.{free_in}
use Rattle.rule_steps.specs.Asked.{Act, Act.enable, Act.disable, Act.delete, Act.master_delete, Act.set_fall_back, Act.status, Act.keyed, Act.stored, Act.finished, Act.set_policy, Asked, Asked.unread, Asked.create, Asked.on, Asked.confirm, Asked.status_of_all, Asked.get_data, Asked.tick, Asked.lost}
use Rattle.rule_run.specs.Calls.{Call, asked_of}
use Rattle.rule_run.specs.Step.{run}
use Rattle.rule_run.specs.Inputs.{Inputs, fresh_of}
use Rattle.rule_run.specs.Samples as sample
use Rattle.rule_run.specs.Samples.{inputs}
use Rattle.proof_demands.specs.SampleRun.{loading, changing}
use Rattle.proof_demands.specs.Said.{Exchange, exchanges}

-- a profile that was made: its AID and its quota as they were requested
pub record Made : Type 0 where
  pub aid : List ℕ
  pub quota : ℕ

-- those made, but for the one with this AID
unfoldable pub without : List ℕ → List Made → List Made
without aid [] = []
without aid (m ∷ ms) = cond (same_bytes m.aid aid) (without aid ms) (m ∷ without aid ms)

-- a confirmation's response is empty, or 80 L 4F l and the AID that was deleted
abbrev pub after_confirm : List ℕ → List Made → List Made
after_confirm [] ms = ms
after_confirm (tag ∷ rest) ms = without (drop 3 rest) ms

abbrev pub after_act : List ℕ → Act → List Made → List Made
after_act aid enable ms = ms
after_act aid disable ms = ms
after_act aid delete ms = without aid ms
after_act aid (master_delete verdict) ms = without aid ms
after_act aid set_fall_back ms = ms
after_act aid (status life fallback) ms = ms
after_act aid keyed ms = ms
after_act aid (stored n) ms = ms
after_act aid (finished policy mark) ms = ms
after_act aid (set_policy policy) ms = ms

-- what an accepted call did to those made, by what it asked and the response to it
abbrev pub after_asked : Asked → List ℕ → List Made → List Made
after_asked unread response ms = ms
after_asked (create aid quota) response ms = record { aid = aid; quota = quota } ∷ ms
after_asked (on aid act) response ms = after_act aid act ms
after_asked (confirm number) response ms = after_confirm response ms
after_asked (status_of_all next life fallback) response ms = ms
after_asked get_data response ms = ms
after_asked tick response ms = ms
after_asked lost response ms = ms

-- "made .. and not since deleted": a call is read with the capacity that fresh was given, and a refused one changes nothing (decision 69)
abbrev pub made_after : ℕ → Exchange → List Made → List Made
made_after capacity x ms =
    cond (is_done x.answer.status) (after_asked (asked_of capacity x.call) x.answer.response ms) ms

unfoldable pub history : ℕ → List Made → List Exchange → List Made
history capacity ms [] = ms
history capacity ms (x ∷ xs) = history capacity (made_after capacity x ms) xs

-- their quotas, together
unfoldable pub room : List Made → ℕ
room [] = 0
room (m ∷ ms) = m.quota + room ms

-- what fresh made
abbrev pub first : Inputs → List Made
first x = record { aid = x.aid; quota = x.quota } ∷ []

-- those made by fresh or by an accepted creation in these calls, and not since deleted
abbrev pub live : Inputs → List Call → List Made
live x calls = history x.capacity (first x) (exchanges (fresh_of x).card calls)

abbrev pub FreeIsCounted : Type 0
FreeIsCounted =
    (x : Inputs) (calls : List Call) → is_done (fresh_of x).status ≡ true →
    (free_in (run (fresh_of x).card calls) ≡ x.capacity - room (live x calls)) × (room (live x calls) ≤ x.capacity)

-- of three made, with 100, 50 and 50, the confirmation deletes 02
pub record FreeMet : Type 0 where
  pub accepted : is_done (fresh_of inputs).status ≡ true
  pub three : room (live inputs (loading ++ changing)) ≡ 200
  pub two-left : live inputs (loading ++ (changing ++ sample.confirm 2 ∷ [])) ≡ record { aid = sample.aid 3; quota = 50 } ∷ first inputs
