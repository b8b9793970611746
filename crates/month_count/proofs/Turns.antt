-- One turn of the loop over the events, its begin and its end. What was counted so far, with the events still to come, is what is counted of
-- all; the card stays sound, and the enabled profile is noted and its line known. It is looked up again only where the answer has a
-- notification: without one the enabled profile is as it was, and with one it is the one that is named (demands: `calls-notify`).
use Prim.Native.Nat.{ℕ, ◌+◌, ◌≤◌, ◌<◌}
use mathlib.Core.Path.{◌≡◌, refl, ap, sym, ◌∙◌, subst}
use mathlib.Core.List.{List, []}
use mathlib.Core.Bool.{Bool, true, false, cond}
use lib.ListN.{length, drop, length-replicate}
use lib.Dec.{ltb}
use borrow.Author.Tests.{ltb-true, ltb-false}
use native.Mathlib.Omega.{arith}
use Rattle.base_status.specs.StatusWords.{is_done}
use Rattle.card_isdp.specs.Aids.{no_aid}
use Rattle.card_isdp.specs.declared.Isdp.{Isdp}
use Rattle.card_places.specs.Places.{at}
use Rattle.card_record.specs.Cards.{enabled_place, enabled_aid}
use Rattle.card_record.specs.Sound.{sound}
use Rattle.card_record.specs.Noticed.{JustOpened, silently, announced}
use Rattle.card_record.specs.Notifications.{code_of}
use Rattle.card_record.specs.Answers.{Outcome, as_answer}
use Rattle.card_record.specs.declared.Answer.{Answer}
use Rattle.card_record.specs.declared.Card.{Card}
use Rattle.card_record.specs.declared.Notification.{Notification}
use Rattle.card_record.specs.declared.Phase.{Phase}
use Rattle.card_record.specs.declared.Phase.TheVariants.{Quiet, Trial, Back, Fallen}
use Rattle.rule_run.specs.Calls.{Call}
use Rattle.record_door.specs.Door.{call_of}
use Rattle.rule_run.specs.Step.{step, on_sound}
use Rattle.record_door.specs.Door.{Served}
use Rattle.rule_run.specs.Table.{least_buffer}
use Rattle.record_door.specs.declared.Call as declared
use Rattle.record_door.specs.declared.Call.TheVariants as code
use Rattle.rule_run.proofs.Kept.{step-sound, on-sound-agrees}
use Rattle.rule_run.specs.Runs.{is_tick}
use Rattle.rule_run.specs.Notified.{Notified}
use Rattle.rule_run.proofs.Notified.{calls-notify}
use Rattle.month_events.specs.Events.{events_of, calls_of, call_of_event}
use Rattle.month_events.proofs.Turns.{RightFrom, Turn, right-first}
use Rattle.month_contents.specs.Contents.{most_file}
use Rattle.month_tally.specs.Lines.{most_lines, rest_line, line_of, no_names, noted, no_minutes, minute_on, minutes_in}
use Rattle.month_tally.proofs.Noting.{line-most, noted-full, noted-twice}
use Rattle.month_tally.proofs.Minutes.{minute-more, minute-most, minute-length, no-minutes}
use Rattle.month_tally.specs.declared.Names.{Names}
use Rattle.month_count.specs.Month.{Counted, at_first, counted, counting}
use Rattle.month_count.specs.Loop.{Countable, MinutesLine}

-- the enabled profile after a call
opened-code : (p : Phase) (n : Notification) → JustOpened p n → code_of n.kind ≡ 0 → ⊥
opened-code Quiet n o e = o
opened-code (Trial previous left number) n o e = let k = ap code_of o.its-kind in omega arith
opened-code (Back left number) n o e = let k = ap code_of o.its-kind in omega arith
opened-code (Fallen left number) n o e = let k = ap code_of o.its-kind in omega arith

unnamed-case : (c : Card) (o : Outcome) → Notified c o → code_of o.notification.kind ≡ 0 → enabled_aid o.card ≡ enabled_aid c
unnamed-case c o (silently x) e = x.same-profile
unnamed-case c o (announced x) e = absurd (opened-code o.card.phase o.notification x.phase e)

named-case : (c : Card) (o : Outcome) → Notified c o → (code_of o.notification.kind ≡ 0 → ⊥) → enabled_aid o.card ≡ o.notification.aid
named-case c o (silently x) n = absurd (n (ap (λ (k : Notification). code_of k.kind) x.none))
named-case c o (announced x) n = sym x.profile

-- a code as the code asks for it
pub told-code : (n : ℕ) → ltb 0 n ≡ true → n ≡ 0 → ⊥
told-code n e z = let h = ltb-true 0 n e in omega arith

pub silent-code : (n : ℕ) → ltb 0 n ≡ false → n ≡ 0
silent-code n e = let h = ltb-false 0 n e in omega arith

-- what was counted so far
abbrev pub so_far : Names → ℕ → ℕ → ℕ → List ℕ → Counted
so_far names ticks events refused minutes =
    record { tally = record { names = names; ticks = ticks; events = events; refused = refused }; minutes = minutes }

-- the names and the line are those of the card's enabled profile
pub record Known (c : Card) (names : Names) (line : ℕ) : Type 0 where
  pub full : length names.aids ≡ most_lines
  pub own : line ≡ line_of names (enabled_aid c)
  pub noted-already : noted names (enabled_aid c) ≡ names

-- the counts are as low as the bytes that were passed
pub record Low (at ticks events refused : ℕ) (minutes : List ℕ) : Type 0 where
  pub events-low : events ≤ at
  pub ticks-low : ticks ≤ events
  pub refused-low : refused ≤ events
  pub minutes-low : minutes_in minutes ≤ ticks
  pub lines : length minutes ≡ most_lines + 1

pub record Stands (first : Card) (b : List ℕ) (minutes : List ℕ) (names : Names) (line : ℕ) (c : Card) (ticks events refused at : ℕ) : Type 0 where
  pub whole : counting c (calls_of (events_of (drop at b))) (so_far names ticks events refused minutes) ≡ counting first (calls_of (events_of b)) (at_first first)
  pub sound-card : sound c ≡ true
  pub right : RightFrom b at
  pub within : at ≤ length b
  pub known : Known c names line
  pub low : Low at ticks events refused minutes

none-full : length no_names.aids ≡ most_lines
none-full = length-replicate most_lines no_aid

pub stands-first : (c : Card) (b : List ℕ) (line : ℕ) → sound c ≡ true → RightFrom b 0 → line ≡ line_of (noted no_names (enabled_aid c)) (enabled_aid c) → Stands c b no_minutes (noted no_names (enabled_aid c)) line c 0 0 0 0
stands-first c b line s r e =
    record {
      whole = refl;
      sound-card = s;
      right = r;
      within = omega arith;
      known = record { full = noted-full no_names (enabled_aid c) none-full; own = e; noted-already = noted-twice no_names none-full (enabled_aid c) };
      low = record { events-low = omega arith; ticks-low = omega arith; refused-low = omega arith; minutes-low = omega (arith, no-minutes); lines = length-replicate {A = ℕ} (most_lines + 1) 0 };
    }

-- as the code begins
pub begins : (c : Card) (b : List ℕ) {e line : ℕ} {p : Isdp} {none names : Names} {minutes : List ℕ} → Countable c b minutes → e ≡ enabled_place c → p ≡ at c.places e → none ≡ no_names → names ≡ noted none p.aid → line ≡ line_of names p.aid
    → Stands c b minutes names line c 0 0 0 0
begins c b {p = profile} {names = names} {minutes = minutes} k e p n f l =
    let aid = ap (λ (x : Isdp). x.aid) (p ∙ ap (at c.places) e) in
    let named = f ∙ ap (λ (x : Names). noted x profile.aid) n ∙ ap (noted no_names) aid in
    rw (k.clear, named) (stands-first c b _ k.sound-card (right-first b k.right) (l ∙ ap (line_of names) aid ∙ ap (λ (x : Names). line_of x (enabled_aid c)) named))

-- one minute more is one tick more
timed-more : (t : Bool) (l : List ℕ) (line : ℕ) → line < length l → minutes_in (cond t (minute_on line l) l) ≡ minutes_in l + cond t 1 0
timed-more true l line h = minute-more l line h
timed-more false l line h = omega arith

timed-length : (t : Bool) (l : List ℕ) (line : ℕ) → length (cond t (minute_on line l) l) ≡ length l
timed-length true l line = minute-length l line
timed-length false l line = refl

pub at_most_one : (t : Bool) → cond t 1 0 ≤ 1
at_most_one true = omega arith
at_most_one false = omega arith

none-or-one : (t : Bool) → cond t 0 1 ≤ 1
none-or-one true = omega arith
none-or-one false = omega arith

-- whether a call is a tick is no matter of its bytes
tick-alike : (b s : List ℕ) (m n : ℕ) (call : declared.Call) → is_tick (call_of b m call) ≡ is_tick (call_of s n call)
tick-alike b s m n (code.Command verdict bytes) = refl
tick-alike b s m n (code.Keyed aid) = refl
tick-alike b s m n (code.Stored aid k) = refl
tick-alike b s m n (code.Finished aid policy mark) = refl
tick-alike b s m n code.Tick = refl
tick-alike b s m n code.Lost = refl
tick-alike b s m n (code.PolicyUpdate speaker bytes) = refl

module _ {first : Card} {b minutes : List ℕ} {names : Names} {line : ℕ} {c : Card} {ticks events refused at : ℕ} (st : Stands first b minutes names line c ticks events refused at) where
  line-within : line ≤ rest_line
  line-within = rw st.known.own (line-most names st.known.full (enabled_aid c))

  -- a minute has room
  pub line-room : length b ≤ most_file → MinutesLine line minutes
  line-room h =
      record {
        within = line-within;
        low = omega (arith, minute-most minutes line, st.low.minutes-low, st.low.ticks-low, st.low.events-low, st.within);
      }

  -- no count passes 32 bits
  pub ticks-fit : {tick : ℕ} (t : Bool) → length b ≤ most_file → tick ≡ cond t 1 0 → ticks + tick < 4294967296
  ticks-fit t h e = omega (arith, at_most_one t, st.low.ticks-low, st.low.events-low, st.within)

  pub events-fit : length b ≤ most_file → events + 1 < 4294967296
  events-fit h = omega (arith, st.low.events-low, st.within)

  pub refused-fit : {refusal : ℕ} (t : Bool) → length b ≤ most_file → refusal ≡ cond t 0 1 → refused + refusal < 4294967296
  refused-fit t h e = omega (arith, none-or-one t, st.low.refused-low, st.low.events-low, st.within)

  -- the end
  pub stands-last : events_of (drop at b) ≡ [] → so_far names ticks events refused minutes ≡ counting first (calls_of (events_of b)) (at_first first)
  unfolding counting calls_of
  stands-last e = rw e at st.whole

  module _ {call : declared.Call} {stop : ℕ} (t : Turn b at call stop) {r : Answer} {old new : List ℕ} (size : length old ≡ least_buffer) (served : Served old (on_sound c (call_of b (length old) call)) r new) where
    abbrev this : Call
    this = call_of_event t.event

    answered : r ≡ as_answer (step c this)
    answered =
        served.0.answer
        ∙ ap (λ (n : ℕ). as_answer (on_sound c (call_of b n call))) size
        ∙ ap (λ (x : Call). as_answer (on_sound c x)) t.asks
        ∙ ap as_answer (on-sound-agrees c this st.sound-card)

    same-tick : is_tick (call_of [] 0 call) ≡ is_tick this
    same-tick = tick-alike [] b 0 least_buffer call ∙ ap is_tick t.asks

    further : counting (step c this).card (calls_of (events_of (drop stop b))) (counted c this (so_far names ticks events refused minutes)) ≡ counting first (calls_of (events_of b)) (at_first first)
    unfolding counting calls_of
    further = rw t.events at st.whole

    module _ {tick refusal : ℕ} {minutes' : List ℕ} (p : (tick ≡ cond (is_tick (call_of [] 0 call)) 1 0) × (minutes' ≡ cond (is_tick (call_of [] 0 call)) (minute_on line minutes) minutes)) (q : refusal ≡ cond (is_done r.status) 0 1) where
      tick_is : tick ≡ cond (is_tick this) 1 0
      tick_is = p.0 ∙ ap (λ (x : Bool). cond x 1 0) same-tick

      minutes-are : minutes' ≡ cond (is_tick this) (minute_on line minutes) minutes
      minutes-are = p.1 ∙ ap (λ (x : Bool). cond x (minute_on line minutes) minutes) same-tick

      refusal_is : refusal ≡ cond (is_done (step c this).status) 0 1
      refusal_is = q ∙ ap (λ (a : Answer). cond (is_done a.status) 0 1) answered

      low-after : Low stop (ticks + tick) (events + 1) (refused + refusal) minutes'
      low-after =
          record {
            events-low = omega (arith, t.goes, st.low.events-low);
            ticks-low = omega (arith, tick_is, at_most_one (is_tick this), st.low.ticks-low);
            refused-low = omega (arith, refusal_is, none-or-one (is_done (step c this).status), st.low.refused-low);
            minutes-low = omega (arith, ap minutes_in minutes-are ∙ timed-more (is_tick this) minutes line (omega (arith, line-within, st.low.lines)), tick_is, st.low.minutes-low);
            lines = ap length minutes-are ∙ timed-length (is_tick this) minutes line ∙ st.low.lines;
          }

      -- with the names and the line of the card reached
      stands_on : {names' : Names} {line' : ℕ} → names' ≡ noted names (enabled_aid (step c this).card) → Known (step c this).card names' line' → Stands first b minutes' names' line' r.card (ticks + tick) (events + 1) (refused + refusal) stop
      stands_on {names'} {line'} e k =
          let card-is : r.card ≡ (step c this).card = ap (λ (a : Answer). a.card) answered in
          record {
            whole = rw (card-is, e, tick_is, refusal_is, minutes-are, st.known.own) further;
            sound-card = rw card-is (step-sound c this st.sound-card);
            right = t.rest;
            within = t.inside;
            known = subst (λ (d : Card). Known d names' line') (sym card-is) k;
            low = low-after;
          }

      kind-is : r.notification ≡ (step c this).notification
      kind-is = ap (λ (a : Answer). a.notification) answered

      -- no notification: the enabled profile is as it was
      pub stands-unnamed : code_of r.notification.kind ≡ 0 → Stands first b minutes' names line r.card (ticks + tick) (events + 1) (refused + refusal) stop
      stands-unnamed e =
          let same : enabled_aid (step c this).card ≡ enabled_aid c = unnamed-case c (step c this) (calls-notify c this st.sound-card) (rw kind-is at e) in
          let k = st.known in
          stands_on (sym (ap (noted names) same ∙ k.noted-already)) (record { full = k.full; own = k.own ∙ ap (line_of names) (sym same); noted-already = ap (noted names) same ∙ k.noted-already })

      -- a notification: the one that it names
      pub stands-named : {names' : Names} {line' : ℕ} → (code_of r.notification.kind ≡ 0 → ⊥) → names' ≡ noted names r.notification.aid → line' ≡ line_of names' r.notification.aid
          → Stands first b minutes' names' line' r.card (ticks + tick) (events + 1) (refused + refusal) stop
      stands-named {names'} {line'} n e f =
          let same : r.notification.aid ≡ enabled_aid (step c this).card = ap (λ (x : Notification). x.aid) kind-is ∙ sym (named-case c (step c this) (calls-notify c this st.sound-card) (λ z. n (rw kind-is z))) in
          let aid = enabled_aid (step c this).card in
          let added : names' ≡ noted names aid = e ∙ ap (noted names) same in
          stands_on added (record { full = rw added (noted-full names aid st.known.full); own = f ∙ ap (line_of names') same; noted-already = rw added (noted-twice names st.known.full aid) })
