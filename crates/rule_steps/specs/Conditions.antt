-- Document 01, 'Status words': the conditions of the rows that look at the card, in the table's order, and before them the row of an
-- inner call's values; a case not named there is never met. These rows are parts of the one table, `table` of the manager.
use Rattle.std.specs.Prelude.{ℕ, ◌+◌, List, [], ◌∷◌, Bool, true, false, not, ◌&&◌, ◌||◌, ltb, leb, eqb}
use Rattle.base_status.specs.Rows.{Row, row}
use Rattle.base_status.specs.declared.Status.TheVariants.{DataWrong, StateWrong, NotHeld, PolicyForbids, VerdictWrong, NoRoom}
use Rattle.card_isdp.specs.Sizes.{most_places}
use Rattle.card_isdp.specs.Aids.{aid_ok}
use Rattle.card_isdp.specs.Policy.{policy_ok, forbids_disabling, forbids_deletion}
use Rattle.card_isdp.specs.LifeCycle.{selectable, personalized, disabled, is_enabled}
use Rattle.card_isdp.specs.Provisioning.{mark_ok, may_be_fall_back}
use Rattle.card_isdp.specs.Place.{held}
use Rattle.card_places.specs.Places.{at}
use Rattle.card_record.specs.Cards.{no_place, is_quiet, place_of, profile_of, enabled_place, free_place, free_in, may_be_deleted, may_be_master_deleted}
use Rattle.card_record.specs.Clock.{outstanding}
use Rattle.card_record.specs.declared.Card.{Card}
use Rattle.rule_steps.specs.Asked.{Act, Act.enable, Act.disable, Act.delete, Act.master_delete, Act.set_fall_back, Act.status, Act.keyed, Act.stored, Act.finished, Act.set_policy, Asked, Asked.unread, Asked.create, Asked.on, Asked.confirm, Asked.status_of_all, Asked.get_data, Asked.tick, Asked.lost}

-- "6A 80: .. inner call's values wrong": "An AID handed to an inner call is wrong unless it has 5 to 16 bytes", the policy unless Table 70 has it,
-- the mark unless it is 0 or 1; request 2026-06: "AID length or coding wrong,
-- or the two delete rules together 6A 80" (decisions 41, B57, B83)
abbrev pub inner_wrong : List ℕ → Act → Bool
inner_wrong aid enable = false
inner_wrong aid disable = false
inner_wrong aid delete = false
inner_wrong aid (master_delete verdict) = false
inner_wrong aid set_fall_back = false
inner_wrong aid (status life fallback) = false
inner_wrong aid keyed = not (aid_ok aid)
inner_wrong aid (stored n) = not (aid_ok aid)
inner_wrong aid (finished policy mark) = not (aid_ok aid && (policy_ok policy && mark_ok mark))
inner_wrong aid (set_policy policy) = not (aid_ok aid && policy_ok policy)

-- "69 85: a change is open, for create, enable, disable, delete, master delete, set fall-back; none is open, for confirmation"; request 2026-06:
-- for the policy update too (decisions 37, 58)
abbrev pub asks_for_quiet : Act → Bool
asks_for_quiet enable = true
asks_for_quiet disable = true
asks_for_quiet delete = true
asks_for_quiet (master_delete verdict) = true
asks_for_quiet set_fall_back = true
asks_for_quiet (status life fallback) = false
asks_for_quiet keyed = false
asks_for_quiet (stored n) = false
asks_for_quiet (finished policy mark) = false
asks_for_quiet (set_policy policy) = true

abbrev pub change_wrong : Card → Asked → Bool
change_wrong c unread = false
change_wrong c (create aid quota) = not (is_quiet c.phase)
change_wrong c (on aid act) = asks_for_quiet act && not (is_quiet c.phase)
change_wrong c (confirm number) = is_quiet c.phase
change_wrong c (status_of_all next life fallback) = false
change_wrong c get_data = false
change_wrong c tick = false
change_wrong c lost = false

-- "6A 88: target AID not held (all but create); confirmation not of the outstanding number"; request 2026-05: P2 03 "with no listing open 6A 88
-- in the target's place" (decisions 34, B73)
abbrev pub target_missing : Card → Asked → Bool
target_missing c unread = false
target_missing c (create aid quota) = false
target_missing c (on aid act) = not (held (profile_of c aid))
target_missing c (confirm number) = not (outstanding c.phase number)
target_missing c (status_of_all next life fallback) = next && eqb c.kept no_place
target_missing c get_data = false
target_missing c tick = false
target_missing c lost = false

-- "6A 80: create with an AID already held" (decision 36)
abbrev pub already_held : Card → Asked → Bool
already_held c unread = false
already_held c (create aid quota) = held (profile_of c aid)
already_held c (on aid act) = false
already_held c (confirm number) = false
already_held c (status_of_all next life fallback) = false
already_held c get_data = false
already_held c tick = false
already_held c lost = false

-- "69 85: target in the wrong state (steps below)": "Keyed: SELECTABLE", "Stored n: PERSONALIZED only", "Finished ..: PERSONALIZED, used over 0";
-- request 2026-02: "69 85 for set fall-back on an unmarked target, among the wrong-state tests"; request 2026-03: "69 85 for Delete narrows
-- to ENABLED or fall-back"; request 2026-06: "that profile not enabled 69 85" (decisions 39, 42, B58)
abbrev pub act_state_wrong : Card → List ℕ → Act → Bool
act_state_wrong c aid enable = not (eqb (profile_of c aid).life disabled)
act_state_wrong c aid disable = not (is_enabled (profile_of c aid) && not (eqb (place_of c aid) c.fallback))
act_state_wrong c aid delete = not (may_be_deleted c (place_of c aid))
act_state_wrong c aid (master_delete verdict) = not (may_be_master_deleted c (place_of c aid))
act_state_wrong c aid set_fall_back = not (may_be_fall_back (profile_of c aid))
act_state_wrong c aid (status life fallback) = false
act_state_wrong c aid keyed = not (eqb (profile_of c aid).life selectable)
act_state_wrong c aid (stored n) = not (eqb (profile_of c aid).life personalized)
act_state_wrong c aid (finished policy mark) = not (eqb (profile_of c aid).life personalized && ltb 0 (profile_of c aid).used)
act_state_wrong c aid (set_policy policy) = not (is_enabled (profile_of c aid))

abbrev pub state_wrong : Card → Asked → Bool
state_wrong c unread = false
state_wrong c (create aid quota) = false
state_wrong c (on aid act) = act_state_wrong c aid act
state_wrong c (confirm number) = false
state_wrong c (status_of_all next life fallback) = false
state_wrong c get_data = false
state_wrong c tick = false
state_wrong c lost = false

-- "69 E1: policy forbids": enabling "if the enabled profile forbids disabling", disabling "if it forbids disabling",
-- deletion "if it forbids deletion" (decisions 8, 42, B62)
abbrev pub act_forbidden : Card → List ℕ → Act → Bool
act_forbidden c aid enable = forbids_disabling (at c.places (enabled_place c)).policy
act_forbidden c aid disable = forbids_disabling (profile_of c aid).policy
act_forbidden c aid delete = forbids_deletion (profile_of c aid).policy
act_forbidden c aid (master_delete verdict) = false
act_forbidden c aid set_fall_back = false
act_forbidden c aid (status life fallback) = false
act_forbidden c aid keyed = false
act_forbidden c aid (stored n) = false
act_forbidden c aid (finished policy mark) = false
act_forbidden c aid (set_policy policy) = false

abbrev pub policy_forbids : Card → Asked → Bool
policy_forbids c unread = false
policy_forbids c (create aid quota) = false
policy_forbids c (on aid act) = act_forbidden c aid act
policy_forbids c (confirm number) = false
policy_forbids c (status_of_all next life fallback) = false
policy_forbids c get_data = false
policy_forbids c tick = false
policy_forbids c lost = false

-- "69 82: master delete: token verdict handed in is not 1" (decision 21)
abbrev pub act_verdict_wrong : Act → Bool
act_verdict_wrong enable = false
act_verdict_wrong disable = false
act_verdict_wrong delete = false
act_verdict_wrong (master_delete verdict) = not (eqb verdict 1)
act_verdict_wrong set_fall_back = false
act_verdict_wrong (status life fallback) = false
act_verdict_wrong keyed = false
act_verdict_wrong (stored n) = false
act_verdict_wrong (finished policy mark) = false
act_verdict_wrong (set_policy policy) = false

abbrev pub verdict_wrong : Asked → Bool
verdict_wrong unread = false
verdict_wrong (create aid quota) = false
verdict_wrong (on aid act) = act_verdict_wrong act
verdict_wrong (confirm number) = false
verdict_wrong (status_of_all next life fallback) = false
verdict_wrong get_data = false
verdict_wrong tick = false
verdict_wrong lost = false

-- "6A 84: create: 8 held, or quota over free; stored: used + n over quota"; request 2026-05: 32 held;
-- n is any number of 32 bits (decision 40)
abbrev pub act_no_room : Card → List ℕ → Act → Bool
act_no_room c aid enable = false
act_no_room c aid disable = false
act_no_room c aid delete = false
act_no_room c aid (master_delete verdict) = false
act_no_room c aid set_fall_back = false
act_no_room c aid (status life fallback) = false
act_no_room c aid keyed = false
act_no_room c aid (stored n) = not (leb ((profile_of c aid).used + n) (profile_of c aid).quota)
act_no_room c aid (finished policy mark) = false
act_no_room c aid (set_policy policy) = false

-- "quota over free": over the capacity it was wrong data before (decision 26)
abbrev pub no_room : Card → Asked → Bool
no_room c unread = false
no_room c (create aid quota) = not (ltb (free_place c) most_places) || not (leb quota (free_in c))
no_room c (on aid act) = act_no_room c aid act
no_room c (confirm number) = false
no_room c (status_of_all next life fallback) = false
no_room c get_data = false
no_room c tick = false
no_room c lost = false

-- the rows of the table that look at the card; the state before the policy (decisions 11, 36)
abbrev pub card_rows : Card → Asked → List Row
card_rows c a =
    row (change_wrong c a) StateWrong
    ∷ row (target_missing c a) NotHeld
    ∷ row (already_held c a) DataWrong
    ∷ row (state_wrong c a) StateWrong
    ∷ row (policy_forbids c a) PolicyForbids
    ∷ row (verdict_wrong a) VerdictWrong
    ∷ row (no_room c a) NoRoom
    ∷ []
