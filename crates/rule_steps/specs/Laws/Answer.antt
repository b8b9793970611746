-- What the law of a call says: accepted exactly where, and then the whole answer. A law looks at the card's fields, place by place, and
-- searches nothing: the place of the target and the place of the enabled profile are handed in.
use Rattle.std.specs.Prelude.{ℕ, ◌≡◌, List, [], ◌∷◌, true, cond, length, eqb}
use Rattle.base_status.specs.StatusWords.{is_done}
use Rattle.base_status.specs.declared.Status.TheVariants.{Done}
use Rattle.card_isdp.specs.Aids.{aid_of}
use Rattle.card_isdp.specs.LifeCycle.{disabled, enabled, with_life}
use Rattle.card_isdp.specs.Place.{held}
use Rattle.card_isdp.specs.declared.Isdp.{Isdp}
use Rattle.card_places.specs.Places.{at}
use Rattle.card_record.specs.Cards.{no_place, keeping}
use Rattle.card_record.specs.Clock.{next_number}
use Rattle.card_record.specs.Ticks.{ticks_by_phase}
use Rattle.card_record.specs.Notifications.{silent}
use Rattle.card_record.specs.Answers.{Outcome}
use Rattle.card_record.specs.declared.Card.{Card}
use Rattle.card_record.specs.declared.Kind.{Kind}
use Rattle.card_record.specs.declared.Notification.{Notification}
use Rattle.card_record.specs.declared.Phase.{Phase}

-- the profile at a place
abbrev pub profile_at : Card → ℕ → Isdp
profile_at c t = at c.places t

-- place t holds the profile with this AID; the place is handed in, so that a wrong search is refused too (decision B38)
pub record Holds (c : Card) (aid : List ℕ) (t : ℕ) : Type 0 where
  pub held-there : held (profile_at c t) ≡ true
  pub named : aid_of (profile_at c t) ≡ aid

-- place e holds the enabled profile: a sound card has one such place
abbrev pub Enabled : Card → ℕ → Type 0
Enabled c e = (profile_at c e).life ≡ enabled

-- in a response: a tag of one byte, the length, the value
abbrev pub element : ℕ → List ℕ → List ℕ
element tag value = tag ∷ length value ∷ value

-- what an accepted call leaves and hands out
pub record Result : Type 0 where
  pub free : ℕ
  pub last : ℕ
  pub fallback : ℕ
  pub phase : Phase
  pub place : ℕ → Isdp
  pub response : List ℕ
  pub notification : Notification
  pub ticks : ℕ

-- 90 00 with this result; EID, capacity, volatile figure and the number of places are never touched,
-- and no place of a listing is kept (decision 53)
pub record Answers (c : Card) (r : Result) (o : Outcome) : Type 0 where
  pub status : o.status ≡ Done
  pub eid : o.card.eid ≡ c.eid
  pub capacity : o.card.capacity ≡ c.capacity
  pub volatile : o.card.volatile ≡ c.volatile
  pub free : o.card.free ≡ r.free
  pub last : o.card.last ≡ r.last
  pub fallback : o.card.fallback ≡ r.fallback
  pub phase : o.card.phase ≡ r.phase
  pub forgets : o.card.kept ≡ no_place
  pub as_many : length o.card.places ≡ length c.places
  pub places : (i : ℕ) → profile_at o.card i ≡ r.place i
  pub response : o.response ≡ r.response
  pub notification : o.notification ≡ r.notification
  pub ticks : o.ticks ≡ r.ticks

-- 90 00, and nothing changes but that no place of a listing is kept
pub record Still (c : Card) (bytes : List ℕ) (o : Outcome) : Type 0 where
  pub status : o.status ≡ Done
  pub card : o.card ≡ keeping c no_place
  pub response : o.response ≡ bytes
  pub notification : o.notification ≡ silent
  pub ticks : o.ticks ≡ ticks_by_phase c

-- accepted exactly where it may be, and then answered so
pub record Exactly (May : Type 0) (Answered : Outcome → Type 0) (o : Outcome) : Type 0 where
  pub only-where : is_done o.status ≡ true → May
  pub where-may : May → Answered o

-- the same of a call on one place: accepted only where there is one
pub record OnPlace (There May : ℕ → Type 0) (Answered : ℕ → Outcome → Type 0) (o : Outcome) : Type 0 where
  pub some-place : is_done o.status ≡ true → (t : ℕ) × There t
  pub exactly : (t : ℕ) → There t → Exactly (May t) (Answered t) o

-- the places with place t so, and every other as it was
abbrev pub only_at : Card → ℕ → Isdp → ℕ → Isdp
only_at c t p i = cond (eqb i t) p (profile_at c i)

-- place t is ENABLED, the one enabled before, at e, is DISABLED, and every other as it was
abbrev pub traded : Card → ℕ → ℕ → ℕ → Isdp
traded c e t i =
    cond (eqb i t) (with_life (profile_at c i) enabled)
    (cond (eqb i e) (with_life (profile_at c i) disabled) (profile_at c i))

-- the places become so, with so much free, and nothing else; no notification
abbrev pub replaced : Card → ℕ → (ℕ → Isdp) → List ℕ → ℕ → Result
replaced c free place response ticks =
    record {
      free = free;
      last = c.last;
      fallback = c.fallback;
      phase = c.phase;
      place = place;
      response = response;
      notification = silent;
      ticks = ticks;
    }

-- the phase becomes this one, and nothing else; no notification
abbrev pub rephased : Card → Phase → ℕ → Result
rephased c phase ticks =
    record {
      free = c.free;
      last = c.last;
      fallback = c.fallback;
      phase = phase;
      place = profile_at c;
      response = [];
      notification = silent;
      ticks = ticks;
    }

-- the profile at t is enabled over the one at e and a phase entered: "issues the next number with its kind", and a notification of "kind,
-- number, EID and the AID of the profile then enabled"
abbrev pub entered : Card → ℕ → ℕ → Phase → Kind → ℕ → Result
entered c e t phase kind ticks =
    record {
      free = c.free;
      last = next_number c.last;
      fallback = c.fallback;
      phase = phase;
      place = traded c e t;
      response = [];
      notification = record { kind = kind; number = next_number c.last; eid = c.eid; aid = (profile_at c t).aid };
      ticks = ticks;
    }
