-- Demand 3 from end to end: while a change is open the number outstanding is the last one issued, and the course of the change tells that one and
-- the profile enabled by the ticks seen; the confirmation of the outstanding number closes the change there. Assumes nothing.
use mathlib.Core.Path.{◌≡◌, refl, ap, sym, ◌∙◌}
use Prim.Native.Nat.{ℕ, ◌+◌, ◌≤◌, ◌<◌}
use native.Mathlib.Omega.{arith}
use mathlib.Core.List.{List, [], ◌∷◌, ◌++◌}
use mathlib.Core.Bool.{Bool, true, false, not, cond, false≢true}
use lib.Dec.{ltb, eqb}
use borrow.Author.Tests.{eqb-true, eqb-false, eq-eqb, ne_eqb, ltb-true, ltb-false}
use Rattle.std.proofs.lemmas.Bool.{and_from}
use Rattle.base_choice.specs.Choice.{pick, is_below}
use Rattle.base_status.specs.declared.Status.TheVariants.{NotHeld, Done}
use Rattle.card_isdp.specs.Aids.{bytes_of}
use Rattle.card_isdp.proofs.Bools.{and_l, and_r}
use Rattle.card_record.specs.Cards.{is_quiet, enabled_place}
use Rattle.card_record.specs.Sound.{sound}
use Rattle.card_record.specs.Clock.{next_number, opened, outstanding}
use Rattle.card_record.specs.Notifications.{code_of, notice_kind}
use Rattle.card_record.specs.Noticed.{JustOpened, silently, announced}
use Rattle.card_record.specs.Answers.{Outcome}
use Rattle.card_record.specs.declared.Card.{Card}
use Rattle.card_record.specs.declared.Kind.TheVariants.{Changed, RolledBack, FallenBack}
use Rattle.card_record.specs.declared.Notification.{Notification}
use Rattle.card_record.specs.declared.Phase.{Phase}
use Rattle.card_record.specs.declared.Phase.TheVariants.{Quiet, Trial, Back, Fallen}
use Rattle.card_record.proofs.Sounds.{Phased, parts}
use Rattle.card_record.proofs.Numbers.{numbers-run, next-differs}
use Rattle.read_tlv.specs.Encoding.{encode_number, encode_tag, encode_length, encode_element}
use Rattle.read_fields.specs.Grammar.{confirmation, store_data, encode_dgi}
use Rattle.read_frame.specs.Framing.{class_right, parameters_right}
use Rattle.rule_run.specs.Calls.{Call, Call.Command, Call.Tick, asked}
use Rattle.rule_run.specs.Step.{step, run}
use Rattle.rule_run.specs.Samples.{confirm}
use Rattle.rule_run.specs.Notified.{Notified}
use Rattle.rule_run.specs.Runs.{enabled_bytes, fallback_bytes, taken, is_confirmation, ticks_among}
use Rattle.rule_run.proofs.Kept.{step-sound, run_sound}
use Rattle.rule_run.proofs.Notified.{calls-notify}
use Rattle.proof_demands.specs.Change.{stays_open, holder, Opens, Change, last_tick}
use Rattle.proof_demands.specs.Room.{Writes, Writes.commands}
use Rattle.proof_demands.specs.EndToEnd.{Tells, ClosedOn, Confirming, EndToEnd3, EndToEndMet}
use Rattle.proof_demands.proofs.Changes.{Course, opened-course, number_after, holds-first, holds-second, holds-third}
use Rattle.proof_demands.proofs.Named.{still_open, run-snoc}
use Rattle.proof_demands.proofs.Openings.{begun, demand-3}
use Rattle.proof_demands.proofs.Confirmation.{confirm-status, confirmation-taken, confirmation-closes}
use Rattle.proof_demands.proofs.Written.{written-asks}
use Rattle.proof_demands.proofs.Witnesses.{witnesses}

-- in an open phase of a sound card the outstanding number is the last one issued
outstanding-is : (c : Card) (p : Phase) (number : ℕ) → Phased p c → is_quiet p ≡ false → outstanding p number ≡ eqb number c.last
outstanding-is c Quiet number h o = absurd (false≢true (sym o))
outstanding-is c (Trial previous left n) number h o = ap (eqb number) h.0.issued
outstanding-is c (Back left n) number h o = ap (eqb number) h.issued
outstanding-is c (Fallen left n) number h o = ap (eqb number) h.0.issued

-- a written confirmation on an open change: its word, and what it closes
module _ (c : Card) (e : sound c ≡ true) (o : is_quiet c.phase ≡ false) (number capacity : ℕ) where
  confirming-word : (call : Call) → Writes capacity (store_data (confirmation number)) call → (step c call).status ≡ cond (not (eqb number c.last)) NotHeld Done
  confirming-word _ (commands verdict s room h encoded) =
      rw (← outstanding-is c c.phase number (parts c e).phased o) (confirm-status c verdict s room number e h encoded ∙ rw o)

  confirming-closes : (call : Call) → Writes capacity (store_data (confirmation number)) call → number ≡ c.last → ClosedOn (enabled_bytes c) (step c call)
  confirming-closes _ (commands verdict s room h encoded) q =
      let call = Command verdict s room in
      let mine = outstanding-is c c.phase number (parts c e).phased o ∙ eq-eqb number c.last q in
      let x = confirmation-closes c call (and_from (is_confirmation (asked c call)) (taken c call) (ap is_confirmation (written-asks c verdict s room (store_data (confirmation number)) h encoded)) (confirmation-taken c verdict s room number e h encoded ∙ mine)) in
      record {
        status = confirming-word call (commands verdict s room h encoded) ∙ rw (eq-eqb number c.last q);
        quiet = x.quiet;
        enabled = x.enabled;
      }

-- no number comes back with the next one, nor with the one after that
differs-case : (n : ℕ) (b d : Bool) → eqb n 65535 ≡ b → eqb n 65534 ≡ d → n ≤ 65535 → next_number (next_number n) ≡ n → ⊥
differs-case n true d e f h q =
    let k = eqb-true n 65535 e in
    let z : next_number (next_number n) ≡ 1 = rw k in omega arith
differs-case n false true e f h q =
    let k = eqb-true n 65534 f in
    let z : next_number (next_number n) ≡ 0 = rw k in omega arith
differs-case n false false e f h q =
    let k : n ≡ 65535 → ⊥ = eqb-false n 65535 e in
    let l : n ≡ 65534 → ⊥ = eqb-false n 65534 f in
    let y = numbers-run.next n (omega arith) in
    let z = numbers-run.next (n + 1) (omega arith) in
    let w : next_number (next_number n) ≡ n + 1 + 1 = ap next_number y ∙ z in omega arith

late-case : (n k : ℕ) (b : Bool) → ltb k 20 ≡ b → n ≤ 65535 → 10 ≤ k → n ≡ number_after n k → ⊥
late-case n k true b h t q = next-differs n h (sym (q ∙ holds-second n (next_number n) _ k t (ltb-true k 20 b)))
late-case n k false b h t q = differs-case n (eqb n 65535) (eqb n 65534) refl refl h (sym (q ∙ holds-third n _ (next_number (next_number n)) k (ltb-false k 20 b)))

-- where a number was issued, what the answer tells
kind-opened : (p : Phase) (n : Notification) → JustOpened p n → n.kind ≡ notice_kind p
kind-opened Quiet n o = absurd o
kind-opened (Trial previous left number) n o = o.its-kind
kind-opened (Back left number) n o = o.its-kind
kind-opened (Fallen left number) n o = o.its-kind

tells : (c : Card) (o : Outcome) → (o.card.last ≡ c.last → ⊥) → Notified c o → Tells (code_of (notice_kind o.card.phase)) (next_number c.last) (enabled_bytes o.card) o.notification
tells c o n (silently x) = absurd (n x.same_number)
tells c o n (announced x) =
    record {
      its-code = ap code_of (kind-opened o.card.phase o.notification x.phase);
      its-number = x.number;
      its-profile = ap bytes_of x.profile;
    }

-- one call more
ticks-snoc : (calls : List Call) → ticks_among (calls ++ Tick ∷ []) ≡ ticks_among calls + 1
unfolding ticks_among
ticks-snoc [] = refl
ticks-snoc (call ∷ calls) = let e = ticks-snoc calls in omega arith

stays-snoc : (calls : List Call) (call : Call) (reach : List Call → Card) → stays_open reach calls ≡ true → is_quiet (reach (calls ++ call ∷ [])).phase ≡ false → stays_open reach (calls ++ call ∷ []) ≡ true
unfolding stays_open
stays-snoc [] call reach e o = rw o
stays-snoc (x ∷ calls) call reach e o =
    let here = not (is_quiet (reach (x ∷ [])).phase) in
    and_from here _ (and_l here _ e) (stays-snoc calls call (λ rest. reach (x ∷ rest)) (and_r here _ e) o)

not-due : (b quiet : Bool) (k : ℕ) → k ≡ 9 → (quiet ≡ true → k + 1 ≡ cond b 20 30) → quiet ≡ false
not-due true true k t f = absurd (let z = f refl in omega arith)
not-due false true k t f = absurd (let z = f refl in omega arith)
not-due b false k t f = refl

module _ (c : Card) (call : Call) (wanted : List ℕ) (opening : Opens c call wanted) where
  abbrev d : Card
  d = (step c call).card

  abbrev previous : List ℕ
  previous = enabled_bytes c

  abbrev fallback : List ℕ
  fallback = fallback_bytes c

  d-sound : sound d ≡ true
  d-sound = step-sound c call (begun c call wanted opening).still

  change : Change wanted previous fallback (last_tick c) (run d)
  change = demand-3 c call wanted opening

  course : Course (begun c call wanted opening).place (enabled_place c) c.fallback d
  course =
      let b = begun c call wanted opening in
      rw b.card-is (opened-course b.place (enabled_place c) c.fallback (opened c b.place) b.opened-there)

  issued : d.last ≡ next_number c.last
  issued = ap (λ (x : Card). x.last) (begun c call wanted opening).card-is

  small : c.last ≤ 65535
  small = (parts c (begun c call wanted opening).still).sizes.numbered

  d_small : d.last ≤ 65535
  d_small = (parts d d-sound).sizes.numbered

  opened-tells : Tells 0x02 (next_number c.last) wanted (step c call).notification
  unfolding run ticks_among stays_open
  opened-tells =
      let x = tells c (step c call) (λ q. next-differs c.last small (sym issued ∙ q)) (calls-notify c call (begun c call wanted opening).still) in
      record {
        its-code = x.its-code ∙ ap code_of (course.kinds [] refl);
        its-number = x.its-number;
        its-profile = x.its-profile ∙ change.meanwhile [] refl;
      }

  -- after any calls that leave the change open
  module _ (calls : List Call) (stays : stays_open (run d) calls ≡ true) where
    abbrev e : Card
    e = run d calls

    abbrev k : ℕ
    k = ticks_among calls

    e-sound : sound e ≡ true
    e-sound = run_sound d calls d-sound

    open-there : is_quiet e.phase ≡ false
    unfolding run
    open-there = still_open calls d change.opens stays

    closes-on : (number : ℕ) (call : Call) (profile : List ℕ) → Confirming c number call → number ≡ number_after d.last k → holder wanted previous fallback k ≡ profile → ClosedOn profile (step e call)
    closes-on number call profile w q h =
        let x = confirming-closes e e-sound open-there number c.capacity call w (q ∙ sym (course.numbers calls stays)) in
        record { status = x.status; quiet = x.quiet; enabled = x.enabled ∙ change.meanwhile calls stays ∙ h }

    too-late : (call : Call) → Confirming c d.last call → 10 ≤ k → (step e call).status ≡ NotHeld
    too-late call w t =
        confirming-word e e-sound open-there d.last c.capacity call w
        ∙ rw (ne_eqb d.last e.last (λ q. late-case d.last k (ltb k 20) refl d_small t (q ∙ course.numbers calls stays)))

    rolls-back : k ≡ 9 → Tells 0x03 (next_number d.last) previous (step e Tick).notification
    rolls-back t =
        let after = calls ++ Tick ∷ [] in
        let on = run-snoc calls Tick d in
        let o = not-due (eqb (enabled_place c) c.fallback) (is_quiet (step e Tick).card.phase) k t (course.due calls stays) in
        let s = stays-snoc calls Tick (run d) stays (rw on o) in
        let ten = ticks-snoc calls in
        let number = course.numbers calls stays ∙ holds-first d.last _ _ k (omega arith) in
        let next = course.numbers after s ∙ holds-second d.last (next_number d.last) _ (ticks_among after) (omega arith) (omega arith) in
        let x = tells e (step e Tick) (λ q. next-differs d.last d_small (sym next ∙ ap (λ (y : Card). y.last) on ∙ q ∙ number)) (calls-notify e Tick e-sound) in
        record {
          its-code = x.its-code ∙ ap (λ (y : Card). code_of (notice_kind y.phase)) (sym on) ∙ ap code_of (course.kinds after s ∙ holds-second Changed RolledBack FallenBack (ticks_among after) (omega arith) (omega arith));
          its-number = x.its-number ∙ ap next_number number;
          its-profile = x.its-profile ∙ ap enabled_bytes (sym on) ∙ change.meanwhile after s ∙ holds-second wanted previous fallback (ticks_among after) (omega arith) (omega arith);
        }

pub end-to-end-3 : EndToEnd3
end-to-end-3 c call wanted o =
    let n = (step c call).card.last in
    let told = opened-tells c call wanted o in
    let same : (step c call).notification.number ≡ n = told.its-number ∙ sym (issued c call wanted o) in
    record {
      status = (begun c call wanted o).done;
      opening = told;
      confirmed = λ calls k e t w. closes-on c call wanted o calls e _ k wanted w (same ∙ sym (holds-first n _ _ (ticks_among calls) t)) (holds-first wanted _ _ (ticks_among calls) t);
      late = λ calls k e t w. too-late c call wanted o calls e k (rw same at w) t;
      tenth-tick = λ calls e t. rw same (rolls-back c call wanted o calls e t);
      roll-back-confirmed = λ calls k e t u w. closes-on c call wanted o calls e _ k (enabled_bytes c) w (ap next_number same ∙ sym (holds-second n (next_number n) _ (ticks_among calls) t u)) (holds-second wanted (enabled_bytes c) _ (ticks_among calls) t u);
      fall-back-confirmed = λ calls k e t w. closes-on c call wanted o calls e _ k (fallback_bytes c) w (ap (λ (m : ℕ). next_number (next_number m)) same ∙ sym (holds-third n _ (next_number (next_number n)) (ticks_among calls) t)) (holds-third wanted _ (fallback_bytes c) (ticks_among calls) t);
    }

-- the examples' command for any number
confirm-writes : (c : Card) (number : ℕ) → number < 65536 → Confirming c number (confirm number)
unfolding class_right parameters_right encode_element encode_tag encode_length pick is_below
confirm-writes c number h =
    commands 0 _ 256 (omega arith)
    (record {
      class = 0x80;
      p1 = 0x89;
      p2 = 0x00;
      field = encode_dgi 0x3A08 (encode_element 0x4E (encode_number number));
      with_le = true;
      right_class = refl;
      right_parameters = refl;
      least = omega arith;
      most = omega arith;
      encoded = (h, refl);
      written = refl;
    })

pub end-to-end-met : EndToEndMet
end-to-end-met =
    let w = witnesses in
    record {
      opens = w.enabling;
      nine = w.wanted-stays.open-before;
      nine-ticks = w.wanted-stays.ticked;
      nineteen = w.previous-comes-back.open-before;
      nineteen-ticks = w.previous-comes-back.ticked;
      twenty-nine = w.fallback-at-last.open-before;
      twenty-nine-ticks = w.fallback-at-last.ticked;
      writes = confirm-writes;
    }
