-- What every answer keeps, whatever its table: its status is the table's word, a refusal hands back the card it was given, and a
-- call on a card known to be sound answers as the checked one. By cases on whether the word is a success. Assumes nothing.
use mathlib.Core.Path.{◌≡◌, refl, sym, ◌∙◌}
use mathlib.Core.List.{List, []}
use mathlib.Core.Bool.{Bool, true, false, cond, false≢true}
use Prim.Native.Nat.{ℕ}
use Rattle.base_status.specs.StatusWords.{is_done}
use Rattle.base_status.specs.Rows.{word_of}
use Rattle.base_status.specs.declared.Status.{Status}
use Rattle.base_status.specs.declared.Status.TheVariants.{Unsound}
use Rattle.card_record.specs.Sound.{sound}
use Rattle.card_record.specs.Ticks.{ticks_to_come, ticks_by_phase}
use Rattle.card_record.specs.Notifications.{silent}
use Rattle.card_record.specs.Answers.{Outcome, Work, refused_with, accepted_with, refused, accepted, settle, outcome, outcome_on_sound}
use Rattle.card_record.specs.declared.Card.{Card}
use Rattle.card_record.specs.declared.Step.{Step}
use Rattle.card_record.proofs.Counts.{counted}

-- the status is the table's word
status-case : (c : Card) (w : Status) (s : Step) (rsp : List ℕ) (b : Bool) → is_done w ≡ b → (cond b (accepted w s rsp) (refused c w)).status ≡ w
unfolding accepted refused
status-case c w s rsp true e = refl
status-case c w s rsp false e = refl

pub decided : (c : Card) (w : Status) (s : Step) (rsp : List ℕ) → (settle c w s rsp).status ≡ w
decided c w s rsp = status-case c w s rsp (is_done w) refl

-- "Every refusal returns the card as given .., no response, no notification"
pub record Refusal (c : Card) (o : Outcome) : Type 0 where
  pub same-card : o.card ≡ c
  pub no-response : o.response ≡ []
  pub no-notification : o.notification ≡ silent

refusal-case : (c : Card) (w : Status) (s : Step) (rsp : List ℕ) (b : Bool) → is_done w ≡ b → is_done w ≡ false → Refusal c (cond b (accepted w s rsp) (refused c w))
unfolding accepted refused
refusal-case c w s rsp true e n = absurd (false≢true (sym n ∙ e))
refusal-case c w s rsp false e n = record { same-card = refl; no-response = refl; no-notification = refl }

pub refuses : (c : Card) (w : Status) (s : Step) (rsp : List ℕ) → is_done w ≡ false → Refusal c (settle c w s rsp)
refuses c w s rsp n = refusal-case c w s rsp (is_done w) refl n

-- what holds of the card as given and of the accepted one holds of the card handed back
card-case : (P : Card → Type 0) (c : Card) (w : Status) (s : Step) (rsp : List ℕ) (b : Bool) → is_done w ≡ b → (is_done w ≡ true → P s.card) → P c → P (cond b (accepted w s rsp) (refused c w)).card
unfolding accepted refused
card-case P c w s rsp true e f g = f e
card-case P c w s rsp false e f g = g

pub decide-card : (P : Card → Type 0) (c : Card) (w : Status) (s : Step) (rsp : List ℕ) → (is_done w ≡ true → P s.card) → P c → P (settle c w s rsp).card
decide-card P c w s rsp f g = card-case P c w s rsp (is_done w) refl f g

-- an accepted call takes its step
took-case : (c : Card) (w : Status) (s : Step) (rsp : List ℕ) (b : Bool) → is_done w ≡ b → is_done (cond b (accepted w s rsp) (refused c w)).status ≡ true → (is_done w ≡ true) × (cond b (accepted w s rsp) (refused c w) ≡ accepted w s rsp)
unfolding accepted refused
took-case c w s rsp true e h = (e, refl)
took-case c w s rsp false e h = absurd (false≢true (sym e ∙ h))

pub took : (c : Card) (w : Status) (s : Step) (rsp : List ℕ) → is_done (settle c w s rsp).status ≡ true → (is_done w ≡ true) × (settle c w s rsp ≡ accepted w s rsp)
took c w s rsp h = took-case c w s rsp (is_done w) refl h

pub accepted-card : (w : Status) (s : Step) (rsp : List ℕ) → (accepted w s rsp).card ≡ s.card
unfolding accepted
accepted-card w s rsp = refl

-- the ticks of every answer are the tick rule's steps from the card handed back; 0 where it is not sound
ticks-case : (c : Card) (w : Status) (s : Step) (rsp : List ℕ) (b : Bool) → is_done w ≡ b → (is_done w ≡ true → sound s.card ≡ true) → (cond b (accepted w s rsp) (refused c w)).ticks ≡ cond (sound (cond b (accepted w s rsp) (refused c w)).card) (ticks_to_come (cond b (accepted w s rsp) (refused c w)).card) 0
unfolding accepted refused
ticks-case c w s rsp true e f = rw (f e)
ticks-case c w s rsp false e f = refl

pub decide-ticks : (c : Card) (w : Status) (s : Step) (rsp : List ℕ) → (is_done w ≡ true → sound s.card ≡ true) → (settle c w s rsp).ticks ≡ cond (sound (settle c w s rsp).card) (ticks_to_come (settle c w s rsp).card) 0
decide-ticks c w s rsp f = ticks-case c w s rsp (is_done w) refl f

-- a card known to be sound
known-case : (c : Card) (w : Status) (s : Step) (rsp : List ℕ) (b : Bool) → is_done w ≡ b → sound c ≡ true → (is_done w ≡ true → sound s.card ≡ true) → cond b (accepted w s rsp) (refused c w) ≡ cond b (accepted_with (ticks_by_phase s.card) w s rsp) (refused_with (ticks_by_phase c) c w)
unfolding accepted refused
known-case c w s rsp true e h f = rw (counted s.card (f e))
known-case c w s rsp false e h f = rw (h, counted c h)

pub checked : (c : Card) (w : Work) → sound c ≡ true → (is_done (word_of w.success w.rows) ≡ true → sound w.step.card ≡ true) → outcome c w ≡ outcome_on_sound c w
unfolding word_of
checked c w h f = rw h (known-case c (word_of w.success w.rows) w.step w.response (is_done (word_of w.success w.rows)) refl h f)

-- a card that is not
pub stopped : (c : Card) (w : Work) → sound c ≡ false → outcome c w ≡ refused_with 0 c Unsound
unfolding word_of refused
stopped c w h = rw h
