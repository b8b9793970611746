-- Confirmation, phase by phase: two rows are left, and the change closes with the previous profile deleted or not. Assumes nothing.
use mathlib.Core.Path.{◌≡◌, refl, sym, ap, subst, ◌∙◌}
use Prim.Native.Nat.{ℕ, ◌+◌}
use mathlib.Core.List.{[], ◌∷◌}
use mathlib.Core.Bool.{Bool, true, false, not, cond, false≢true}
use lib.ListN.{set, length-set}
use lib.Dec.{eqb}
use borrow.Author.Tests.{eqb-true, eq-eqb, ne_eqb, not-true, not-false}
use Rattle.base_status.specs.Rows.{word_of}
use Rattle.base_status.specs.StatusWords.{is_done}
use Rattle.base_status.specs.declared.Status.TheVariants.{StateWrong, NotHeld, Done}
use Rattle.card_isdp.specs.Aids.{aid_of, no_aid}
use Rattle.card_isdp.specs.LifeCycle.{disabled}
use Rattle.card_isdp.specs.Place.{vacant, held}
use Rattle.card_isdp.specs.declared.Isdp.{Isdp}
use Rattle.card_isdp.proofs.Placed.{placed}
use Rattle.card_places.proofs.Lives.{within}
use Rattle.card_places.proofs.Sets.{all-at}
use Rattle.card_record.specs.Cards.{is_quiet, in_state, with_phase, cleared}
use Rattle.card_record.specs.Clock.{outstanding, dropped, confirm_in, confirm_of}
use Rattle.card_record.specs.Sound.{sound}
use Rattle.card_record.specs.Steps.{step_to, gone_in, confirm_step}
use Rattle.card_record.specs.Answers.{Outcome, accepted, sound_row, outcome}
use Rattle.card_record.specs.declared.Card.{Card}
use Rattle.card_record.specs.declared.Phase.{Phase}
use Rattle.card_record.specs.declared.Phase.TheVariants.{Quiet, Trial, Back, Fallen}
use Rattle.card_record.proofs.Outcomes.{decided}
use Rattle.card_record.proofs.Sounds.{Phased, Sound, parts, nonzero}
use Rattle.card_record.proofs.Free.{given_back_lem}
use Rattle.rule_responses.specs.Responses.{deleted_response}
use Rattle.rule_steps.specs.Asked.{Asked.confirm}
use Rattle.rule_steps.specs.Conditions.{card_rows}
use Rattle.rule_steps.specs.Steps.{asked_work}
use Rattle.rule_steps.specs.Laws.Answer.{profile_at, element, Answers, Exactly, rephased}
use Rattle.rule_steps.specs.Laws.Words.{InThisOrder}
use Rattle.rule_steps.specs.Laws.Confirmation.{closed_without, trial_confirmed, confirmation_rows, ConfirmedIn, ConfirmationLaw}
use Rattle.rule_steps.proofs.Kept.{quietly}
use Rattle.rule_steps.proofs.Laws.Places.{set-places}
use Rattle.rule_steps.proofs.Laws.Answer.{asked-passed, asked-taken, no-notice, none-to-come, answers, rephases}
use Rattle.rule_steps.proofs.Laws.Words.{by_rows, no_more, skip, by-when, by-unless}

gone-bytes : (p : Isdp) → held p ≡ true → deleted_response p.aid ≡ element 0x80 (element 0x4F (aid_of p))
unfolding deleted_response
gone-bytes p h = rw (not-true (eqb p.aid.len 0) h)

module _ (c : Card) (s : Sound c) where
  -- a place with a life cycle is held
  there : (i : ℕ) → (profile_at c i).life ≡ disabled → held (profile_at c i) ≡ true
  there i d =
      let n = nonzero _ 30 d in
      (placed c.capacity (profile_at c i) (ne_eqb _ _ n) (all-at _ c.places i (within c.places i n) s.placed.each)).there

  closes : Answers c (rephased c Quiet 0) (accepted Done (step_to c (with_phase c Quiet) no_aid) [])
  closes = rephases c Quiet 0 (none-to-come (with_phase c Quiet) refl)

  drops : (previous : ℕ) → (profile_at c previous).life ≡ disabled → Answers c (closed_without c previous) (accepted Done (step_to c (cleared (with_phase c Quiet) previous) (profile_at c previous).aid) (deleted_response (profile_at c previous).aid))
  drops previous d =
      let l = set c.places previous vacant in
      let without = in_state c (c.free + (profile_at c previous).quota) c.last c.fallback Quiet l in
      rw (given_back_lem previous c s.placed.room, gone-bytes (profile_at c previous) (there previous d))
      (answers c (closed_without c previous) l (profile_at c previous).aid (length-set c.places previous vacant) (set-places c previous vacant (within c.places previous (nonzero _ 30 d))) (no-notice c without refl) (none-to-come without refl))

  trial-case : (previous : ℕ) (b : Bool) → (profile_at c previous).life ≡ disabled
      → Answers c (cond b (closed_without c previous) (rephased c Quiet 0)) (accepted Done (step_to c (cond b (cleared (with_phase c Quiet) previous) (with_phase c Quiet)) (cond b (profile_at c previous).aid no_aid)) (deleted_response (cond b (profile_at c previous).aid no_aid)))
  unfolding deleted_response
  trial-case previous true d = drops previous d
  trial-case previous false d = closes

module _ (c : Card) (number : ℕ) (s : sound c ≡ true) where
  by-phase : (p : Phase) → c.phase ≡ p → accepted Done (confirm_step c) (deleted_response (confirm_step c).deleted) ≡ accepted Done (step_to c (confirm_in p c) (gone_in p c)) (deleted_response (gone_in p c))
  unfolding confirm_step confirm_of
  by-phase p e = ap (λ (x : Phase). accepted Done (step_to c (confirm_in x c) (gone_in x c)) (deleted_response (gone_in x c))) e

  -- in an open phase the number decides
  exactly : (p : Phase) (n : ℕ) (Answered : Outcome → Type 0) → c.phase ≡ p → is_quiet p ≡ false → outstanding p number ≡ eqb number n → Answered (accepted Done (step_to c (confirm_in p c) (gone_in p c)) (deleted_response (gone_in p c))) → Exactly (number ≡ n) Answered (outcome c (asked_work c (confirm number)))
  exactly p n Answered e o q a =
      let f : outstanding c.phase number ≡ eqb number n = ap (λ (x : Phase). outstanding x number) e ∙ q in
      record {
        only-where = λ d. eqb-true _ _ (sym f ∙ not-false _ (asked-passed c (confirm number) d).target);
        where-may =
            λ m.
            let r = asked-taken c (confirm number) refl s (record { change = ap is_quiet e ∙ o; target = ap not (f ∙ eq-eqb _ _ m); already = refl; state = refl; policy = refl; verdict = refl; room = refl }) in
            subst Answered (sym (r ∙ by-phase p e)) a;
      }

  quiet_word : c.phase ≡ Quiet → word_of Done (sound_row c ∷ card_rows c (confirm number)) ≡ StateWrong
  unfolding word_of
  quiet_word e = rw (s, e)

  in-phase : (p : Phase) → c.phase ≡ p → Phased p c → ConfirmedIn p c number (outcome c (asked_work c (confirm number)))
  unfolding deleted_response
  in-phase Quiet e h = ap is_done (decided c (word_of Done (sound_row c ∷ card_rows c (confirm number))) (confirm_step c) (deleted_response (confirm_step c).deleted) ∙ quiet_word e)
  in-phase (Trial previous left n) e h =
      exactly (Trial previous left n) n (Answers c (trial_confirmed c previous)) e refl refl (trial-case c (parts c s) previous (dropped c previous) h.1)
  in-phase (Back left n) e h = exactly (Back left n) n (Answers c (rephased c Quiet 0)) e refl refl (closes c (parts c s))
  in-phase (Fallen left n) e h = exactly (Fallen left n) n (Answers c (rephased c Quiet 0)) e refl refl (closes c (parts c s))

-- the number that an open phase holds is the last one issued
outstanding-is : (c : Card) (number : ℕ) (p : Phase) → Phased p c → is_quiet p ≡ false → outstanding p number ≡ eqb number c.last
outstanding-is c number Quiet h o = absurd (false≢true (sym o))
outstanding-is c number (Trial previous left n) h o = rw h.0.issued
outstanding-is c number (Back left n) h o = rw h.issued
outstanding-is c number (Fallen left n) h o = rw h.0.issued

confirmation-refused : (c : Card) (number : ℕ) → sound c ≡ true → InThisOrder (confirmation_rows c number) (outcome c (asked_work c (confirm number))).status
confirmation-refused c number s =
    let f = outstanding-is c number c.phase (parts c s).phased in
    by_rows c (asked_work c (confirm number)) s (confirmation_rows c number)
    (by-when StateWrong (ap is_quiet) (λ q. quietly c.phase (ap not q)) λ o.
    by-unless (outstanding c.phase number) NotHeld (λ e. f o ∙ eq-eqb _ _ e) (λ e. eqb-true _ _ (sym (f o) ∙ e)) λ e.
    skip (skip (skip (skip (skip (no_more refl))))))

pub confirmation-law : ConfirmationLaw
confirmation-law c number s =
    record {
      taken = in-phase c number s c.phase refl (parts c s).phased;
      refused = confirmation-refused c number s;
    }
