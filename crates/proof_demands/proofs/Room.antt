-- No room is lost. From the creation on the card differs from the one before it at one place, which bears the AID, whatever inner calls for
-- that AID follow; until it is finished its policy is empty. So the delete may be taken, and makes that place what it was, not held.
-- By the laws of the calls, and induction over the inner calls. Assumes nothing.
use mathlib.Core.Path.{◌≡◌, refl, sym, ap, subst, ◌∙◌}
use Prim.Native.Nat.{ℕ}
use mathlib.Core.List.{List, [], ◌∷◌}
use mathlib.Core.Bool.{Bool, true, false, cond, false≢true}
use lib.ListN.{length}
use lib.Dec.{eqb}
use borrow.Author.Tests.{eqb-true, eq-eqb, le-leb}
use Rattle.std.proofs.lemmas.Bool.{and_from}
use Rattle.base_status.specs.StatusWords.{is_done}
use Rattle.card_isdp.specs.Aids.{aid_ok, aid_of, bytes_of}
use Rattle.card_isdp.specs.LifeCycle.{selectable, enabled, is_created}
use Rattle.card_isdp.specs.Place.{vacant, held, place_ok}
use Rattle.card_isdp.specs.declared.Isdp.{Isdp}
use Rattle.card_isdp.proofs.Placed.{vacant-is, made_held, made-aid}
use Rattle.card_places.proofs.Sets.{all-at, same-places}
use Rattle.card_record.specs.Cards.{no_place, keeping}
use Rattle.card_record.specs.Sound.{sound}
use Rattle.card_record.specs.Ticks.{ticks_by_phase}
use Rattle.card_record.specs.Answers.{Outcome, accepted}
use Rattle.card_record.specs.declared.Card.{Card}
use Rattle.card_record.specs.declared.Phase.TheVariants.{Quiet}
use Rattle.card_record.proofs.Records.{same-card}
use Rattle.card_record.proofs.Free.{same-free}
use Rattle.card_record.proofs.Sounds.{parts, resort-nonzero}
use Rattle.read_fields.specs.Grammar as field
use Rattle.read_command.specs.Grammar.{Encodes}
use Rattle.rule_steps.specs.Laws.Answer.{profile_at, Holds, Answers, only_at, replaced}
use Rattle.rule_steps.specs.Laws.Deletion.{MayDelete}
use Rattle.rule_steps.proofs.Laws.Places.{place_is}
use Rattle.rule_run.specs.Calls.{Call, Call.Command}
use Rattle.rule_run.specs.Step.{step}
use Rattle.rule_run.proofs.Kept.{step-sound}
use Rattle.proof_demands.specs.Engines.{reached, reached_by}
use Rattle.proof_demands.specs.Room.{Inner, Inner.keyed, Inner.stored, Inner.finished, inner_call, inner_calls, Writes.commands, NoRoomLost}
use Rattle.rule_run.proofs.Words.{done-as}
use Rattle.rule_run.proofs.Taken.{taken-sound}
use Rattle.proof_demands.proofs.Demand1.{refusals}
use Rattle.proof_demands.proofs.CallLaws.{every_call}

-- a call is accepted, or the card is the one handed in
module _ (P : Card → Type 0) (d : Card) (call : Call) (f : is_done (step d call).status ≡ true → P (step d call).card) (g : P d) where
  settled_case : (b : Bool) → is_done (step d call).status ≡ b → P (step d call).card
  settled_case true e = f e
  settled_case false e = subst P (sym (refusals d call e).same-card) g

  settled : P (step d call).card
  settled = settled_case (is_done (step d call).status) refl

-- card d is card c but for place t
record Beside (c : Card) (t : ℕ) (d : Card) : Type 0 where
  eid : d.eid ≡ c.eid
  capacity : d.capacity ≡ c.capacity
  volatile : d.volatile ≡ c.volatile
  last : d.last ≡ c.last
  fallback : d.fallback ≡ c.fallback
  phase : d.phase ≡ c.phase
  as_many : length d.places ≡ length c.places
  others : (i : ℕ) → eqb i t ≡ false → profile_at d i ≡ profile_at c i

beside-itself : (c : Card) (t : ℕ) → Beside c t c
beside-itself c t =
    record { eid = refl; capacity = refl; volatile = refl; last = refl; fallback = refl; phase = refl; as_many = refl; others = λ i e. refl }

-- an accepted call that rewrites place t
module _ (c : Card) (t : ℕ) (d : Card) (x : Isdp) (free : ℕ) (bytes : List ℕ) (ticks : ℕ) (o : Outcome) (b : Beside c t d) (a : Answers d (replaced d free (only_at d t x) bytes ticks) o) where
  there : profile_at o.card t ≡ x
  there = a.places t ∙ ap (λ (b : Bool). cond b x (profile_at d t)) (eq-eqb t t refl)

  still-beside : Beside c t o.card
  still-beside =
      record {
        eid = a.eid ∙ b.eid;
        capacity = a.capacity ∙ b.capacity;
        volatile = a.volatile ∙ b.volatile;
        last = a.last ∙ b.last;
        fallback = a.fallback ∙ b.fallback;
        phase = a.phase ∙ b.phase;
        as_many = a.as_many ∙ b.as_many;
        others = λ i e. a.places i ∙ ap (λ (b : Bool). cond b x (profile_at d i)) e ∙ b.others i e;
      }

  -- where place t is what it was, so is the card
  same_case : x ≡ profile_at c t → (i : ℕ) (q : Bool) → eqb i t ≡ q → cond q x (profile_at d i) ≡ profile_at c i
  same_case e i true q = e ∙ ap (profile_at c) (sym (eqb-true i t q))
  same_case e i false q = b.others i q

  undone : sound c ≡ true → sound o.card ≡ true → x ≡ profile_at c t → o.card ≡ keeping c no_place
  undone s s' e =
      let k = still-beside in
      let l = same-places o.card.places c.places k.as_many (λ i. a.places i ∙ same_case e i (eqb i t) refl) in
      same-card (keeping c no_place) o.card k.eid k.capacity k.volatile (same-free c o.card (parts c s).placed.room (parts o.card s').placed.room k.capacity l) k.last k.fallback k.phase a.forgets l

-- a download on the way: place t bears the AID, and while it is loaded its policy is empty
record Half (c : Card) (aid : List ℕ) (t : ℕ) (d : Card) : Type 0 where
  still-sound : sound d ≡ true
  beside : Beside c t d
  bears : Holds d aid t
  no-policy : is_created (profile_at d t).life ≡ true → (profile_at d t).policy ≡ 0

module _ (c : Card) (aid : List ℕ) (t : ℕ) where
  written-half : (d : Card) (x : Isdp) (free : ℕ) (bytes : List ℕ) (ticks : ℕ) (o : Outcome) → Beside c t d → Answers d (replaced d free (only_at d t x) bytes ticks) o → sound o.card ≡ true → held x ≡ true → aid_of x ≡ aid → (is_created x.life ≡ true → x.policy ≡ 0) → Half c aid t o.card
  written-half d x free bytes ticks o b a s h n p =
      let new = there c t d x free bytes ticks o b a in
      record {
        still-sound = s;
        beside = still-beside c t d x free bytes ticks o b a;
        bears = record { held-there = ap held new ∙ h; named = ap aid_of new ∙ n };
        no-policy = subst (λ (p : Isdp). is_created p.life ≡ true → p.policy ≡ 0) (sym new) p;
      }

  -- by an inner call: the AID stays
  loaded-half : (d : Card) (x : Isdp) (ticks : ℕ) (call : Call) → Half c aid t d → Answers d (replaced d d.free (only_at d t x) [] ticks) (step d call) → x.aid ≡ (profile_at d t).aid → (is_created x.life ≡ true → x.policy ≡ 0) → Half c aid t (step d call).card
  loaded-half d x ticks call h a n p =
      written-half d x d.free [] ticks (step d call) h.beside a (step-sound d call h.still-sound) (rw n h.bears.held-there) (ap bytes_of n ∙ h.bears.named) p

  inner-half : (d : Card) (x : Inner) → Half c aid t d → Half c aid t (step d (inner_call aid x)).card
  inner-half d keyed h =
      let law = (every_call.keyed aid d h.still-sound).taken.exactly t h.bears in
      settled (Half c aid t) d (inner_call aid keyed)
      (λ e. let m = law.only-where e in loaded-half d _ _ (inner_call aid keyed) h (law.where-may m) refl (λ l. h.no-policy (rw m)))
      h
  inner-half d (stored n) h =
      let law = (every_call.stored aid n d h.still-sound).taken.exactly t h.bears in
      settled (Half c aid t) d (inner_call aid (stored n))
      (λ e. loaded-half d _ _ (inner_call aid (stored n)) h (law.where-may (law.only-where e)) refl h.no-policy)
      h
  inner-half d (finished policy mark) h =
      let law = (every_call.finished aid policy mark d h.still-sound).taken.exactly t h.bears in
      settled (Half c aid t) d (inner_call aid (finished policy mark))
      (λ e. loaded-half d _ _ (inner_call aid (finished policy mark)) h (law.where-may (law.only-where e)) refl (λ l. absurd (false≢true l)))
      h

  inners-half : (inner : List Inner) (d : Card) → Half c aid t d → Half c aid t (reached_by step d (inner_calls aid inner))
  unfolding reached inner_calls
  inners-half [] d h = h
  inners-half (x ∷ xs) d h = inners-half xs (step d (inner_call aid x)).card (inner-half d x h)

not-both : (v : ℕ) → is_created v ≡ true → v ≡ enabled → ⊥
not-both v l e = false≢true (rw e at l)

-- the delete may be taken: the place was not the fall-back's before the creation
module _ (c : Card) (aid : List ℕ) (t : ℕ) (d : Card) (h : Half c aid t d) (s : sound c ≡ true) (q : c.phase ≡ Quiet) (free : profile_at c t ≡ vacant) (l : is_created (profile_at d t).life ≡ true) where
  may-delete : MayDelete d t
  may-delete =
      record {
        none_open = h.beside.phase ∙ q;
        not-enabled = not-both (profile_at d t).life l;
        not-fallback = λ e. resort-nonzero c (parts c s) (ap (λ (i : ℕ). (profile_at c i).life) (sym (e ∙ h.beside.fallback)) ∙ ap (λ (p : Isdp). p.life) free);
        allows = rw (h.no-policy l);
      }

pub no-room-lost : NoRoomLost
unfolding reached ticks_by_phase
no-room-lost c v _ _ inner (commands verdict s room long encoded) (commands verdict' s' room' long' encoded') done half =
    let aid = v.aid in
    let creation = Command verdict s room in
    let sounds = taken-sound c creation (done-as c creation true (ap is_done done)) in
    let law = (every_call.create v c verdict s room sounds long encoded).taken in
    let place = law.some-place (ap is_done done) in
    let t = place.0 in
    let low = place.1 in
    let exact = law.exactly t low in
    let may = exact.only-where (ap is_done done) in
    let a = exact.where-may may in
    let n = encoded.encoded.named in
    let ok : aid_ok aid ≡ true = and_from _ _ (le-leb 5 (length aid) n.least) (le-leb (length aid) 16 n.most) in
    let first = written-half c aid t c _ _ _ _ _ (beside-itself c t) a (step-sound c creation sounds) (made_held aid selectable v.quota 0 ok) (made-aid aid selectable v.quota 0 ok) (λ l. refl) in
    let d = reached_by step (step c creation).card (inner_calls aid inner) in
    let h = inners-half c aid t inner (step c creation).card first in
    let free = vacant-is c.capacity (profile_at c t) low.free (all-at (place_ok c.capacity) c.places t low.a-place (parts c sounds).placed.each) in
    let l = rw (place_is d aid t (parts d h.still-sound) h.bears) at half in
    let encodes = subst (λ (k : ℕ). Encodes k (field.deletion (field.delete aid)) s') (sym h.beside.capacity) encoded' in
    let r = ((every_call.delete aid d verdict' s' room' h.still-sound long' encodes).taken.exactly t h.bears).where-may (may-delete c aid t d h sounds may.none_open free l) in
    record {
      status = r.status;
      card = undone c t d vacant _ _ _ _ h.beside r sounds (step-sound d (Command verdict' s' room') h.still-sound) (sym free);
      response = r.response;
      notification = r.notification;
      ticks = r.ticks ∙ rw may.none_open;
    }
