-- Document 01, 'Steps' and 'Responses': what an accepted call does and answers.
use Rattle.std.specs.Prelude.{ℕ, ◌+◌, List, [], ◌∷◌, ◌≡◌, Bool, cond, eqb}
use Rattle.base_status.specs.Rows.{row}
use Rattle.base_status.specs.declared.Status.{Status}
use Rattle.base_status.specs.declared.Status.TheVariants.{DataWrong, More, Done}
use Rattle.card_isdp.specs.Aids.{no_aid}
use Rattle.card_isdp.specs.LifeCycle.{selectable, personalized, with_life, with_used, with_policy, finish}
use Rattle.card_isdp.specs.Place.{made}
use Rattle.card_record.specs.Cards.{no_place, keeping, forgotten, place_of, profile_of, free_place, filled, cleared, rewritten, with_fallback}
use Rattle.card_record.specs.Clock.{opened}
use Rattle.card_record.specs.Steps.{step_to, tick_step, lost_step, confirm_step}
use Rattle.card_record.specs.Answers.{Outcome, Work, as_answer}
use Rattle.card_record.specs.declared.Card.{Card}
use Rattle.card_record.specs.declared.Step.{Step}
use Rattle.card_record.specs.declared.Answer.{Answer}
use Rattle.rule_responses.specs.Responses.{part_given, next_row_after, one_status, data_response, deleted_response}
use Rattle.base_bytes.specs.Put.{put}
use Rattle.rule_steps.specs.Asked.{Act, Act.enable, Act.disable, Act.delete, Act.master_delete, Act.set_fall_back, Act.status, Act.keyed, Act.stored, Act.finished, Act.set_policy, Asked, Asked.unread, Asked.create, Asked.on, Asked.confirm, Asked.status_of_all, Asked.get_data, Asked.tick, Asked.lost}
use Rattle.rule_steps.specs.Conditions.{inner_wrong, card_rows}

-- nothing changes, but that a listing is forgotten (decision B75)
abbrev pub still : Card → Step
still c = step_to c (forgotten c) no_aid

-- where a listing begins: at the lowest place, and with P2 03 at the kept one (decision B72)
abbrev pub begins_at : Card → Bool → ℕ
begins_at c next = cond next c.kept 0

-- the place from which it then goes on
abbrev pub goes_on_at : Card → Bool → Bool → Bool → ℕ
goes_on_at c next life fallback = next_row_after c (begins_at c next) life fallback

-- "as many whole rows as fit 255 bytes with 63 10": 90 00 where none is left (decision B74)
abbrev pub part_word : ℕ → Status
part_word left = cond (eqb left no_place) Done More

-- naming the holder, or setting the policy that stands, is a step like any other (decisions 38, B84)
abbrev pub act_step : Card → List ℕ → Act → Step
-- "Enable: .. They trade states; Trial."
act_step c aid enable = step_to c (opened c (place_of c aid)) no_aid
-- "Disable: .. The fall-back is enabled; Trial."
act_step c aid disable = step_to c (opened c c.fallback) no_aid
-- "Delete", "Master delete is the same without policy, with the token verdict"
act_step c aid delete = step_to c (cleared c (place_of c aid)) no_aid
act_step c aid (master_delete verdict) = step_to c (cleared c (place_of c aid)) no_aid
-- "Set fall-back: .. Naming the holder changes nothing"
act_step c aid set_fall_back = step_to c (with_fallback c (place_of c aid)) no_aid
act_step c aid (status life fallback) = still c
-- "Keyed: .. to PERSONALIZED", "Stored n: .. used grows by n (0 allowed)", "Finished with a policy" and a mark: ".. to DISABLED"
act_step c aid keyed = step_to c (rewritten c (place_of c aid) (with_life (profile_of c aid) personalized)) no_aid
act_step c aid (stored n) = step_to c (rewritten c (place_of c aid) (with_used (profile_of c aid) ((profile_of c aid).used + n))) no_aid
act_step c aid (finished policy mark) = step_to c (rewritten c (place_of c aid) (finish (profile_of c aid) policy mark)) no_aid
-- request 2026-06: "It touches the policy of the enabled profile only"
act_step c aid (set_policy policy) = step_to c (rewritten c (place_of c aid) (with_policy (profile_of c aid) policy)) no_aid

abbrev pub step_of : Card → Asked → Step
step_of c unread = still c
-- "Create: the lowest free place, SELECTABLE, used 0, empty policy."
step_of c (create aid quota) = step_to c (filled c (free_place c) (made aid selectable quota 0)) no_aid
step_of c (on aid act) = act_step c aid act
step_of c (confirm number) = confirm_step c
-- "The card keeps the place of the first row not yet given"
step_of c (status_of_all next life fallback) = step_to c (keeping c (goes_on_at c next life fallback)) no_aid
step_of c get_data = still c
step_of c tick = tick_step c
step_of c lost = lost_step c

-- "Response of both: 00" (delete and master delete); create too (000, 4.1.1.1); enable, disable and set fall-back have none, nor has the policy update
abbrev pub act_response : Card → List ℕ → Act → List ℕ
act_response c aid enable = []
act_response c aid disable = []
act_response c aid delete = 0x00 ∷ []
act_response c aid (master_delete verdict) = 0x00 ∷ []
act_response c aid set_fall_back = []
act_response c aid (status life fallback) = one_status c (place_of c aid) life fallback
act_response c aid keyed = []
act_response c aid (stored n) = []
act_response c aid (finished policy mark) = []
act_response c aid (set_policy policy) = []

abbrev pub response_of : Card → Asked → List ℕ
response_of c unread = []
response_of c (create aid quota) = 0x00 ∷ []
response_of c (on aid act) = act_response c aid act
response_of c (confirm number) = deleted_response (confirm_step c).deleted
response_of c (status_of_all next life fallback) = part_given c (begins_at c next) life fallback
response_of c get_data = data_response c
response_of c tick = []
response_of c lost = []

-- "Otherwise 90 00": the word of success; of a listing "63 10 is a success" too (decision B36)
abbrev pub success_of : Card → Asked → Status
success_of c unread = Done
success_of c (create aid quota) = Done
success_of c (on aid act) = Done
success_of c (confirm number) = Done
success_of c (status_of_all next life fallback) = part_word (goes_on_at c next life fallback)
success_of c get_data = Done
success_of c tick = Done
success_of c lost = Done

abbrev pub asked_work : Card → Asked → Work
asked_work c a = record { rows = card_rows c a; success = success_of c a; step = step_of c a; response = response_of c a }

-- the work of an inner call, and of a policy update once it is read: the row of its values stands before the card's rows
abbrev pub inner_work : Card → List ℕ → Act → Work
inner_work c aid act =
    record {
      rows = row (inner_wrong aid act) DataWrong ∷ card_rows c (on aid act);
      success = success_of c (on aid act);
      step = act_step c aid act;
      response = act_response c aid act;
    }

-- an outcome as it is handed out over a lent buffer: the answer, and in the buffer the response and then its old bytes (decisions 20, B9)
pub record HandedWhole (old : List ℕ) (o : Outcome) (r : Answer) (new : List ℕ) : Type 0 where
  pub answer : r ≡ as_answer o
  pub content : new ≡ put old 0 o.response
