-- The wrong engines, each refuted on a run that is computed; what the runs show stands in one record. Assumes nothing.
use mathlib.Core.Path.{◌≡◌, refl, ap, sym, ◌∙◌}
use Prim.Native.Nat.{ℕ, zero, suc, ◌+◌, ◌≤◌}
use native.Mathlib.Omega.{arith}
use mathlib.Core.List.{List, [], ◌∷◌, ◌++◌}
use mathlib.Core.Bool.{Bool, true, false, cond, ◌&&◌, ◌||◌, false≢true}
use lib.ListN.{length, replicate}
use lib.Dec.{leb}
use borrow.Author.Tests.{le-leb, lt-leb}
use Rattle.base_bytes.specs.Bytes.{same_bytes}
use Rattle.base_status.specs.StatusWords.{is_done}
use Rattle.base_status.specs.declared.Status.{Status}
use Rattle.base_status.specs.declared.Status.TheVariants.{StateWrong, NotHeld, Done}
use Rattle.base_status.specs.Rows.{word_of}
use Rattle.card_isdp.specs.Aids.{padded}
use Rattle.card_isdp.specs.Place.{is_for, clash, zeros, place_ok}
use Rattle.card_places.specs.Places.{seek, quotas, all_of, any_of, count_of, distinct, all_off, enable_at}
use Rattle.card_record.specs.Cards.{no_place, keeping, is_quiet}
use Rattle.card_record.specs.declared.Card.{Card}
use Rattle.card_record.proofs.Counts.{steps-are, steps-unique}
use Rattle.card_record.proofs.Freshness.{fresh-sound}
use Rattle.card_record.specs.Sound.{phase_ok, sound}
use Rattle.card_record.specs.Clock.{tick_of, without_network, confirm_of}
use Rattle.card_record.specs.Steps.{tick_step, lost_step, confirm_step}
use Rattle.card_record.specs.Notifications.{notice_since}
use Rattle.card_record.specs.Ticks.{steps_in, ticks_to_come}
use Rattle.card_record.specs.Answers.{Outcome, refused, accepted}
use Rattle.card_record.specs.Fresh.{fresh_outcome}
use Rattle.base_choice.specs.Choice.{pick, at_most, is_below, is_same}
use Rattle.read_tlv.specs.Lists.{list_wrong, list_at, list_within, list_of, element_of, rest_after, element_closed}
use Rattle.read_tlv.specs.Tlv.{tag_at, length_at, after_length, after_tag, head_at, expect_of, expect_at}
use Rattle.read_elements.specs.Reader.{alone_at}
use Rattle.read_fields.specs.StoreData.{dgi_at, confirmation_at, request_named, store_data_at}
use Rattle.read_fields.specs.Delete.{verification_at, deletion_at}
use Rattle.read_fields.specs.GetStatus.{tag_noted, listed_within, listed_at, tags_at, listing_at}
use Rattle.read_install.specs.Parameters.{protocols_within, protocols_at, number_at, grant_of, memory_at, parameters_at}
use Rattle.read_install.specs.Install.{prefixed_of, prefixed_at, names_at, rights_at, install_of}
use Rattle.read_frame.specs.Framing.{length_wrong, class_right, class_wrong, instruction_wrong, parameters_right, parameters_wrong, shape_right, shape_wrong}
use Rattle.read_command.specs.Requests.{field_of, data_wrong}
use Rattle.rule_responses.specs.Responses.{status_body, status_row, row_of, part_from, next_row_from, part_given, next_row_after, one_status, data_response, deleted_response}
use Rattle.rule_run.specs.Calls.{Call, Call.Keyed}
use Rattle.rule_run.proofs.Kept.{step-sound, run_sound}
use Rattle.rule_run.proofs.Runs.{run-parts}
use Rattle.rule_run.specs.Step.{step, step_by, run}
use Rattle.rule_run.specs.Runs.{is_tick, confirms, ticks_among}
use Rattle.proof_demands.specs.Change.{stays_open, Opens, Opens.enables}
use Rattle.rule_run.specs.Inputs.{fresh_of}
use Rattle.rule_run.specs.Samples.{aid, inputs, command, get_status, set_fall_back, enable, confirm, create, load_with, load, ticks}
use Rattle.proof_demands.specs.Engines.{Engine, reached, remembered, card_after, answer_after, Answered, MeetsDemand3}
use Rattle.proof_demands.specs.WrongEngines.{Refuted, refuses_all, fixed_answer, leaves_every_card, Along, larger, Exemplary, RefusesAll, FixedAnswer, LeavesEveryCard, is_command, first_then, FirstThenOnly9000, idle_answer, NotTheSecondChange, invents_ticks, OnlyTheCount, thirty_while_open, roll_back_asks_policy, previous_deleted_at_enable, second_enable_restarts_wait, late_confirmation_taken, ignores_mark, IgnoringMark, Caught}
use Rattle.rule_run.proofs.Taken.{hands-back}

-- a change that this engine opens, and calls after each of which it is still open
record Open (e : Engine) (past : List Call) (opening : Call) (wanted : List ℕ) (calls : List Call) : Type 0 where
  opens : Opens (card_after e inputs past) opening wanted
  stays : stays_open (λ rest. card_after e inputs (past ++ opening ∷ rest)) calls ≡ true

abbrev waiting : List Call
waiting = ticks 9 ++ enable 2 ∷ []

-- a change that is opened and confirmed: three commands
abbrev first_change : List Call
first_change = load 2 0 ++ enable 2 ∷ confirm 1 ∷ []

-- after these calls no change is open and no listing, and this call opens a change
record Opening (calls : List Call) (opening : Call) (wanted : List ℕ) : Type 0 where
  quiet : is_quiet (run (fresh_of inputs).card calls).phase ≡ true
  left : next_row_after (run (fresh_of inputs).card calls) 0 true true ≡ no_place
  kept : (run (fresh_of inputs).card calls).kept ≡ no_place
  opens : Opens (run (fresh_of inputs).card calls) opening wanted

record Runs : Type 0 where
  made : is_done (fresh_of inputs).status ≡ true
  listed : (step (fresh_of inputs).card get_status).status ≡ Done
  listed-card : (step (fresh_of inputs).card get_status).card ≡ (fresh_of inputs).card
  listed-larger : (step (fresh_of larger).card get_status).card ≡ (fresh_of larger).card
  missing : (step (fresh_of inputs).card (set_fall_back 2)).status ≡ NotHeld
  room-before : quotas (fresh_of inputs).card.places ≡ 100
  room_after : quotas (step (fresh_of inputs).card (create 2 50)).card.places ≡ 150
  creates : (step (fresh_of inputs).card (create 2 50)).status ≡ Done
  creates-says : length (step (fresh_of inputs).card (create 2 50)).response ≡ 1
  keys-says : length (step (step (fresh_of inputs).card (create 2 50)).card (Keyed (aid 2))).response ≡ 0
  less : (step (fresh_of inputs).card get_status).card.capacity ≡ 1000
  more_room : (step (fresh_of larger).card get_status).card.capacity ≡ 2000
  made-larger : is_done (fresh_of larger).status ≡ true
  first-opens : Opening (load 2 0) (enable 2) (aid 2)
  second-opens : Opening first_change (enable 1) (aid 1)
  invented : thirty_while_open (answer_after (invents_ticks thirty_while_open) inputs (load 2 0) (enable 2)).card ≡ 30
  counted : ticks_to_come (answer_after (invents_ticks thirty_while_open) inputs (load 2 0) (enable 2)).card ≡ 20
  thirty : ticks_among (ticks 30) ≡ 30
  forbidden : Open roll_back_asks_policy (load 2 1) (enable 2) (aid 2) (ticks 30)
  deleted : Open previous_deleted_at_enable (load 2 4 ++ load 3 0 ++ enable 2 ∷ confirm 1 ∷ []) (enable 3) (aid 3) (ticks 30)
  more : ticks_among (waiting ++ waiting ++ waiting ++ waiting) ≡ 36
  restarts : Open second_enable_restarts_wait (load 2 0) (enable 2) (aid 2) (waiting ++ waiting ++ waiting ++ waiting)
  late : Open late_confirmation_taken (load 2 0) (enable 2) (aid 2) (ticks 10)
  late-number : (is_tick (confirm 1) || confirms (card_after late_confirmation_taken inputs (load 2 0 ++ enable 2 ∷ ticks 10)) (confirm 1)) ≡ false
  late-open : is_quiet (card_after late_confirmation_taken inputs (load 2 0 ++ enable 2 ∷ ticks 10)).phase ≡ false
  late-quiet : is_quiet (card_after late_confirmation_taken inputs (load 2 0 ++ enable 2 ∷ (ticks 10 ++ confirm 1 ∷ []))).phase ≡ true
  unmarked-taken : (answer_after ignores_mark inputs (load_with 2 0 0) (set_fall_back 2)).status ≡ Done
  unmarked-unsound : sound (answer_after ignores_mark inputs (load_with 2 0 0) (set_fall_back 2)).card ≡ false
  unmarked-refused : (step (card_after ignores_mark inputs (load_with 2 0 0)) (set_fall_back 2)).status ≡ StateWrong

runs : Runs
unfolding reached remembered ticks_among stays_open step_by run word_of same_bytes padded is_for clash zeros place_ok seek quotas all_of any_of count_of distinct all_off enable_at phase_ok sound tick_of without_network confirm_of tick_step lost_step confirm_step notice_since steps_in ticks_to_come refused accepted fresh_outcome pick at_most is_below is_same tag_at length_at after_length after_tag head_at expect_of expect_at alone_at dgi_at confirmation_at request_named store_data_at verification_at deletion_at tag_noted listed_within listed_at tags_at listing_at protocols_within protocols_at number_at grant_of memory_at parameters_at prefixed_of prefixed_at names_at rights_at install_of length_wrong class_right class_wrong instruction_wrong parameters_right parameters_wrong shape_right shape_wrong field_of data_wrong status_body status_row row_of part_from next_row_from part_given next_row_after one_status data_response deleted_response list_wrong list_at list_within list_of element_of rest_after element_closed
runs =
    record {
      made = refl;
      listed = refl;
      listed-card = refl;
      listed-larger = refl;
      missing = refl;
      room-before = refl;
      room_after = refl;
      creates = refl;
      creates-says = refl;
      keys-says = refl;
      less = refl;
      more_room = refl;
      made-larger = refl;
      first-opens = record { quiet = refl; left = refl; kept = refl; opens = enables (aid 2) refl refl };
      second-opens = record { quiet = refl; left = refl; kept = refl; opens = enables (aid 1) refl refl };
      invented = refl;
      counted = refl;
      thirty = refl;
      forbidden = record { opens = enables (aid 2) refl refl; stays = refl };
      deleted = record { opens = enables (aid 3) refl refl; stays = refl };
      more = refl;
      restarts = record { opens = enables (aid 2) refl refl; stays = refl };
      late = record { opens = enables (aid 2) refl refl; stays = refl };
      late-number = refl;
      late-open = refl;
      late-quiet = refl;
      unmarked-taken = refl;
      unmarked-unsound = refl;
      unmarked-refused = refl;
    }

apart : {w : Status} → w ≡ Done → w ≡ NotHeld → ⊥
apart e f = false≢true (ap is_done (sym f ∙ e))

-- demand 2 after any calls gives it along any calls
along : (e : Engine) (calls : List Call) (m : e.Memory) (c : Card) → ((past : List Call) (call : Call) → Answered (e.answer (remembered e m c past) (reached e m c past) call) (step (reached e m c past) call)) → Along e m c calls
unfolding Along reached remembered
along e [] m c d = tt
along e (call ∷ calls) m c d =
    (d [] call, along e calls (e.remember m c call) (e.answer m c call).card (λ past. d (call ∷ past)))

pub exemplary : Exemplary
exemplary e d =
    let at_first = d inputs runs.made in
    let at-larger = d larger runs.made-larger in
    record { first = (along e _ _ _ at_first, along e _ _ _ at-larger); second = (along e _ _ _ at_first, along e _ _ _ at_first); seventh = along e _ _ _ at_first }

pub refuses-all-examples : RefusesAll
unfolding Along refused
refuses-all-examples word n =
    record {
      first = λ x. false≢true (sym (n _ _) ∙ ap is_done (x.0.0.status ∙ runs.listed));
      second = λ x. false≢true (sym (n _ _) ∙ ap is_done (x.0.0.status ∙ runs.creates));
      seventh = λ x. false≢true (sym (n _ _) ∙ ap is_done (x.0.status ∙ runs.creates));
    }

pub fixed-answer-examples : FixedAnswer
unfolding Along
fixed-answer-examples o =
    record {
      first = λ x.
          let e : (step (fresh_of inputs).card get_status).card.capacity ≡ (step (fresh_of larger).card get_status).card.capacity = ap (λ (c : Card). c.capacity) (sym x.0.0.card ∙ x.1.0.card) in
          let a = runs.less in
          let b = runs.more_room in
          absurd (omega arith);
      second = λ x. apart (x.0.0.status ∙ runs.creates) (x.1.0.status ∙ runs.missing);
      seventh = λ x.
          let e : length o.response ≡ 1 = ap (λ (l : List ℕ). length l) x.0.response ∙ runs.creates-says in
          let f : length o.response ≡ 0 = ap (λ (l : List ℕ). length l) (x.1.0.response ∙ ap (λ (c : Card). (step c (Keyed (aid 2))).response) x.0.card) ∙ runs.keys-says in
          absurd (omega arith);
    }

-- a creation changes the card
grown : quotas (fresh_of inputs).card.places ≡ quotas (step (fresh_of inputs).card (create 2 50)).card.places → ⊥
grown e =
    let a = runs.room-before in
    let b = runs.room_after in
    absurd (omega arith)

pub leaves-every-card-examples : LeavesEveryCard
unfolding Along
leaves-every-card-examples =
    record {
      first = (
        (record { status = refl; response = refl; notification = refl; card = sym runs.listed-card }, tt),
        (record { status = refl; response = refl; notification = refl; card = sym runs.listed-larger }, tt),
      );
      second = λ says x. grown (ap (λ (c : Card). quotas c.places) x.0.0.card);
      seventh = λ says x. grown (ap (λ (c : Card). quotas c.places) x.0.card);
    }

pub refuses-all : (word : Card → Call → Status) → ((c : Card) (call : Call) → is_done (word c call) ≡ false) → Refuted (refuses_all word)
refuses-all word n w = (refuses-all-examples word n).first (exemplary (refuses_all word) w.demand2).first

pub fixed_answer_lem : (o : Outcome) → Refuted (fixed_answer o)
fixed_answer_lem o w = (fixed-answer-examples o).second (exemplary (fixed_answer o) w.demand2).second

pub leaves-every-card : (says : Card → Call → Outcome) → Refuted (leaves_every_card says)
leaves-every-card says w = leaves-every-card-examples.second says (exemplary (leaves_every_card says) w.demand2).second

-- one that works on the first k commands does as the manager while no more have come
unfoldable commands_among : List Call → ℕ
commands_among [] = 0
commands_among (call ∷ calls) = cond (is_command call) 1 0 + commands_among calls

never : (a : Bool) (x y : Outcome) → cond (a && false) x y ≡ y
never true x y = refl
never false x y = refl

works : (k m : ℕ) (b : Bool) (x y : Outcome) → cond b 1 0 + m ≤ k → cond (leb k m && b) x y ≡ y
works k m true x y h = rw (lt-leb k m (omega (arith, h))) refl
works k m false x y h = never (leb k m) x y

parted : (b : Bool) (r m k : ℕ) → cond b 1 0 + r + m ≤ k → (cond b 1 0 + m ≤ k) × (r + cond b (suc m) m ≤ k)
parted true r m k h = (omega (arith, h), omega (arith, h))
parted false r m k h = (omega (arith, h), omega (arith, h))

worked : (k : ℕ) (later : Card → Call → Outcome) (calls : List Call) (m : ℕ) (c : Card) → commands_among calls + m ≤ k → reached (first_then k later) m c calls ≡ run c calls
unfolding reached run commands_among
worked k later [] m c h = refl
worked k later (call ∷ calls) m c h =
    let p = parted (is_command call) (commands_among calls) m k h in
    ap (λ (o : Outcome). reached (first_then k later) (cond (is_command call) (suc m) m) o.card calls) (works k m (is_command call) (later c call) (step c call) p.0)
    ∙ worked k later calls (cond (is_command call) (suc m) m) (step c call).card p.1

tallied : (b : Bool) (r m : ℕ) → r + cond b (suc m) m ≡ cond b 1 0 + r + m
tallied true r m = omega arith
tallied false r m = omega arith

tally : (k : ℕ) (later : Card → Call → Outcome) (calls : List Call) (m : ℕ) (c : Card) → remembered (first_then k later) m c calls ≡ commands_among calls + m
unfolding remembered commands_among
tally k later [] m c = omega arith
tally k later (call ∷ calls) m c =
    tally k later calls (cond (is_command call) (suc m) m) _ ∙ tallied (is_command call) (commands_among calls) m

-- GET STATUS leaves a card that keeps no place where it leaves no row
listed-card : (c : Card) → next_row_after c 0 true true ≡ no_place → c.kept ≡ no_place → (step c get_status).card ≡ c
unfolding field_of pick is_same listing_at tags_at alone_at expect_at expect_of head_at after_tag after_length tag_at length_at at_most is_below list_wrong list_at list_within list_of element_of rest_after element_closed
listed-card c e k =
    let same : keeping c (next_row_after c 0 true true) ≡ c = ap (keeping c) (e ∙ sym k) in
    hands-back c get_status (λ d. d ≡ c) (λ done. same) refl

-- a run of GET STATUS, where one leaves the card
listings-leave : (j : ℕ) (c : Card) → (step c get_status).card ≡ c → run c (replicate j get_status) ≡ c
unfolding run
listings-leave zero c e = refl
listings-leave (suc j) c e = ap (λ (d : Card). run d (replicate j get_status)) e ∙ listings-leave j c e

listings-count : (j : ℕ) → commands_among (replicate j get_status) ≡ j
unfolding commands_among
listings-count zero = refl
listings-count (suc j) = let e = listings-count j in omega arith

-- its answer to a command after k of them
late-answer : (k m : ℕ) (x y : Outcome) → k ≤ m → cond (leb k m && true) x y ≡ x
late-answer k m x y h = rw (le-leb k m h) refl

pub first-then-only-9000 : FirstThenOnly9000
first-then-only-9000 n later done d =
    let c = (fresh_of inputs).card in
    let past = replicate n get_status in
    let count = listings-count n in
    let there : card_after (first_then n later) inputs past ≡ c = worked n later past 0 c (omega arith) ∙ listings-leave n c runs.listed-card in
    let number = tally n later past 0 c in
    let x = (d inputs runs.made past (set_fall_back 2)).status in
    let y = ap (λ (o : Outcome). o.status) (late-answer n (remembered (first_then n later) 0 c past) (later (card_after (first_then n later) inputs past) (set_fall_back 2)) (step (card_after (first_then n later) inputs past) (set_fall_back 2)) (omega arith)) in
    apart (sym x ∙ y ∙ done _ _) (ap (λ (e : Card). (step e (set_fall_back 2)).status) there ∙ runs.missing)

-- the card after one call more
reached-last : (e : Engine) (past : List Call) (call : Call) (m : e.Memory) (c : Card) → reached e m c (past ++ call ∷ []) ≡ (e.answer (remembered e m c past) (reached e m c past) call).card
unfolding reached remembered
reached-last e [] call m c = refl
reached-last e (x ∷ past) call m c = reached-last e past call (e.remember m c x) (e.answer m c x).card

commands-append : (calls more : List Call) → commands_among (calls ++ more) ≡ commands_among calls + commands_among more
unfolding commands_among
commands-append [] more = omega arith
commands-append (call ∷ calls) more = let e = commands-append calls more in omega arith

-- and by demand 3 at a change that it does not open: it works on these calls, and on so many GET STATUS after them
opens-nothing : (n k : ℕ) (calls : List Call) (s wanted : List ℕ) → commands_among calls + n ≡ k → Opening calls (command s) wanted → MeetsDemand3 (first_then k idle_answer) → ⊥
unfolding accepted
opens-nothing n k calls s wanted z x d =
    let c = (fresh_of inputs).card in
    let past = calls ++ replicate n get_status in
    let count = commands-append calls (replicate n get_status) in
    let listings = listings-count n in
    let there : card_after (first_then k idle_answer) inputs past ≡ run c calls = worked k idle_answer past 0 c (omega arith) ∙ run-parts c calls (replicate n get_status) ∙ listings-leave n (run c calls) (listed-card (run c calls) x.left x.kept) in
    let number = tally k idle_answer past 0 c in
    let opens = coe 1 0 (i. Opens (there i) (command s) wanted) x.opens in
    let quiet = ap (λ (e : Card). is_quiet e.phase) there ∙ x.quiet in
    let after = reached-last (first_then k idle_answer) past (command s) 0 c ∙ ap (λ (o : Outcome). o.card) (late-answer k (remembered (first_then k idle_answer) 0 c past) (idle_answer (card_after (first_then k idle_answer) inputs past) (command s)) (step (card_after (first_then k idle_answer) inputs past) (command s)) (omega arith)) in
    false≢true (sym (d inputs runs.made past (command s) wanted opens).opens ∙ ap (λ (e : Card). is_quiet e.phase) after ∙ quiet)

-- with one command or two at the first change, with more at the second
pub not-the-second-change : NotTheSecondChange
unfolding commands_among
not-the-second-change zero = opens-nothing 0 1 (load 2 0) _ (aid 2) refl runs.first-opens
not-the-second-change (suc zero) = opens-nothing 1 2 (load 2 0) _ (aid 2) refl runs.first-opens
not-the-second-change (suc (suc n)) = opens-nothing n (suc (suc n) + 1) first_change _ (aid 1) (omega arith) runs.second-opens

-- the figure alone differs, so the cards reached are the manager's
reached-run : (figure : Card → ℕ) (calls : List Call) (c : Card) → reached (invents_ticks figure) tt c calls ≡ run c calls
unfolding reached run
reached-run figure [] c = refl
reached-run figure (call ∷ calls) c = reached-run figure calls (step c call).card

pub only-the-count : OnlyTheCount
only-the-count figure d x a past call =
    let s : sound (card_after (invents_ticks figure) x past) ≡ true = rw (reached-run figure past (fresh_of x).card) (run_sound (fresh_of x).card past (fresh-sound x.eid x.aid x.capacity x.quota x.used x.volatile a)) in
    steps-unique (d x a past call) (steps-are _ (step-sound (card_after (invents_ticks figure) x past) call s))

pub invents-ticks : Refuted (invents_ticks thirty_while_open)
invents-ticks w =
    let e = only-the-count thirty_while_open w.count inputs runs.made (load 2 0) (enable 2) in
    let a = runs.invented in
    let b = runs.counted in
    absurd (omega arith)

-- a change that is open after thirty ticks
stuck : (e : Engine) (past : List Call) (opening : Call) (wanted : List ℕ) (calls : List Call) → Open e past opening wanted calls → 30 ≤ ticks_among calls → MeetsDemand3 e → ⊥
stuck e past opening wanted calls r k d =
    let t = (d inputs runs.made past opening wanted r.opens).thirty calls r.stays in
    absurd (omega arith)

pub roll-back-asks-policy : Refuted roll_back_asks_policy
roll-back-asks-policy w =
    stuck roll_back_asks_policy _ _ _ _ runs.forbidden (let e = runs.thirty in omega arith) w.demand3

pub previous-deleted-at-enable : Refuted previous_deleted_at_enable
previous-deleted-at-enable w =
    stuck previous_deleted_at_enable _ _ _ _ runs.deleted (let e = runs.thirty in omega arith) w.demand3

pub second-enable-restarts-wait : Refuted second_enable_restarts_wait
second-enable-restarts-wait w =
    stuck second_enable_restarts_wait _ _ _ _ runs.restarts (let e = runs.more in omega arith) w.demand3

pub late-confirmation-taken : Refuted late_confirmation_taken
late-confirmation-taken w =
    let r = runs.late in
    let u = (w.demand3 inputs runs.made (load 2 0) (enable 2) (aid 2) r.opens).still (ticks 10) (confirm 1) r.stays runs.late-number in
    false≢true (sym runs.late-open ∙ sym (ap is_quiet u.phase) ∙ runs.late-quiet)

-- the last answer along the calls is the one that the runs show
unmarked-status : Along ignores_mark tt (fresh_of inputs).card (load_with 2 0 0 ++ set_fall_back 2 ∷ []) → (answer_after ignores_mark inputs (load_with 2 0 0) (set_fall_back 2)).status ≡ (step (card_after ignores_mark inputs (load_with 2 0 0)) (set_fall_back 2)).status
unfolding Along reached remembered
unmarked-status a = a.1.1.1.1.0.status

pub ignoring-mark : IgnoringMark
ignoring-mark =
    record {
      refuted = λ a. false≢true (ap is_done (sym runs.unmarked-refused ∙ sym (unmarked-status a) ∙ runs.unmarked-taken));
      takes-it = runs.unmarked-taken;
      no-longer-sound = runs.unmarked-unsound;
    }

pub ignores-mark : Refuted ignores_mark
ignores-mark w = ignoring-mark.refuted (along ignores_mark (load_with 2 0 0 ++ set_fall_back 2 ∷ []) tt (fresh_of inputs).card (w.demand2 inputs runs.made))

pub caught : Caught
caught =
    record {
      refusing-all = refuses-all;
      fixed = fixed_answer_lem;
      leaving-every-card = leaves-every-card;
      only-9000 = first-then-only-9000;
      not-the-second-change = not-the-second-change;
      inventing = invents-ticks;
      asking-policy = roll-back-asks-policy;
      deleting-at-enable = previous-deleted-at-enable;
      restarting = second-enable-restarts-wait;
      taking-late = late-confirmation-taken;
      ignoring-the-mark = ignores-mark;
    }
