-- Request 2026-04: "the card adds up all quotas each time. Keep free as a stored number in the card record. .. All answers stay as they are."
-- The manager that adds them up each time stands here as a definition, and the manager that reads the number is held against it.
use Rattle.std.specs.Prelude.{ℕ, ◌-◌, min, max, ◌≡◌, List, [], ◌∷◌, ◌++◌, true, not, ◌||◌, ltb, leb}
use Rattle.base_bytes.specs.Bytes.{four_at, four_bytes}
use Rattle.card_isdp.specs.Sizes.{most_places}
use Rattle.card_isdp.specs.Place.{held}
use Rattle.card_places.specs.Places.{quotas, count_of}
use Rattle.card_record.specs.Cards.{free_place, free_in}
use Rattle.card_record.specs.Sound.{free_ok, sound}
use Rattle.card_record.specs.Free.{with_free, summed}
use Rattle.card_record.specs.Answers.{Outcome, outcome}
use Rattle.card_record.specs.declared.Card.{Card}
use Rattle.rule_responses.specs.Responses.{data_response}
use Rattle.rule_steps.specs.Asked.{Asked.create}
use Rattle.rule_steps.specs.Conditions.{no_room}
use Rattle.rule_steps.specs.Steps.{asked_work}
use Rattle.rule_run.specs.Calls.{Call}
use Rattle.rule_run.specs.Step.{step, on_sound}
use Rattle.rule_run.specs.Samples as sample
use Rattle.proof_demands.specs.SampleRun.{loading, changing}
use Rattle.proof_demands.specs.StatusTable.{master_delete}
use Rattle.proof_demands.specs.Engines.{reached_by}
use Rattle.proof_demands.specs.WrongEngines.{with_card}

-- the manager of a record whose free is summed (decision B69)
abbrev pub summing : Card → Call → Outcome
summing c call = step (summed c) call

-- how it is to be read: it looks at no number kept; GET DATA gives, and create asks, capacity less the quotas; of the quotas soundness asks
-- that they are within the capacity
pub record SumsAnew : Type 0 where
  pub looks-at-none : (c : Card) (free : ℕ) (call : Call) → summing (with_free c free) call ≡ summing c call
  pub gives : (c : Card) → data_response (summed c) ≡ 0xFF ∷ 0x21 ∷ 0x0F ∷ 0x81 ∷ 1 ∷ count_of held c.places ∷ 0x82 ∷ 4 ∷ four_bytes (c.capacity - quotas c.places) ++ (0x83 ∷ 4 ∷ four_bytes c.volatile)
  pub asks : (c : Card) (aid : List ℕ) (quota : ℕ) → no_room (summed c) (create aid quota) ≡ (not (ltb (free_place c) most_places) || not (leb quota (c.capacity - quotas c.places)))
  pub within : (c : Card) → free_ok (summed c) ≡ leb (quotas c.places) c.capacity

-- what an engine answers to these calls, each made on the card that the answer before it handed back
unfoldable pub answers_by : (Card → Call → Outcome) → Card → List Call → List Outcome
answers_by answer c [] = []
answers_by answer c (call ∷ calls) = answer c call ∷ answers_by answer (answer c call).card calls

-- it answers any calls from any sound card as the manager that sums
abbrev pub AsSummed : (Card → Call → Outcome) → Type 0
AsSummed answer = (c : Card) (calls : List Call) → sound c ≡ true → answers_by answer c calls ≡ answers_by summing c calls

-- "All answers stay as they are": of every sound card the response of GET DATA, the answer to a create,
-- and every answer to any calls (decision B69)
pub record AnswersStay : Type 0 where
  pub get-data : (c : Card) → sound c ≡ true → data_response c ≡ data_response (summed c)
  pub create : (c : Card) (aid : List ℕ) (quota : ℕ) → sound c ≡ true → outcome c (asked_work c (create aid quota)) ≡ outcome (summed c) (asked_work (summed c) (create aid quota))
  pub every : AsSummed step

-- engines that do not keep it true, and do not ask for it either (`on_sound`): no creation takes its quota from free, no deletion gives it back
abbrev pub takes_nothing : Card → Call → Outcome
takes_nothing c call = with_card (on_sound c call) (with_free (on_sound c call).card (max (free_in c) (free_in (on_sound c call).card)))

abbrev pub gives_nothing_back : Card → Call → Outcome
gives_nothing_back c call = with_card (on_sound c call) (with_free (on_sound c call).card (min (free_in c) (free_in (on_sound c call).card)))

abbrev pub get_data : Call
get_data = sample.command (0x80 ∷ 0xCA ∷ 0xFF ∷ 0x21 ∷ 0x00 ∷ [])

-- the figure that GET DATA gives, its tag 82, after these calls on the fresh card of the examples
abbrev pub figure_after : (Card → Call → Outcome) → List Call → ℕ
figure_after answer calls = four_at (answer (reached_by answer sample.fresh calls) get_data).response 8

-- the engine gives this figure, the manager that sums that one
abbrev pub Gives : (Card → Call → Outcome) → List Call → ℕ → ℕ → Type 0
Gives engine calls wrong right = (figure_after engine calls ≡ wrong) × (figure_after summing calls ≡ right)

-- by create, by delete, by master delete and by the deletion at confirmation, each by itself; so neither answers as the manager that sums
pub record NotKept : Type 0 where
  pub create : Gives takes_nothing (sample.create 2 50 ∷ []) 900 850
  pub delete : Gives gives_nothing_back (sample.create 2 50 ∷ sample.delete 2 ∷ []) 850 900
  pub master-delete : Gives gives_nothing_back (sample.load 2 0 ++ master_delete 1 2 ∷ []) 850 900
  pub confirmation : Gives gives_nothing_back (loading ++ (changing ++ sample.confirm 2 ∷ [])) 800 850
  pub taking-nothing : AsSummed takes_nothing → ⊥
  pub giving-nothing-back : AsSummed gives_nothing_back → ⊥
