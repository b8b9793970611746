-- Document 01, 'The card': what one place keeps in a sound card, and when two places bear one AID.
use Rattle.std.specs.Prelude.{ℕ, List, [], ◌∷◌, Bool, true, not, cond, ◌&&◌, ◌||◌, length, drop, leb, eqb}
use Rattle.base_bytes.specs.Bytes.{same_bytes}
use Rattle.card_isdp.specs.Sizes.{least_aid, most_aid}
use Rattle.card_isdp.specs.Aids.{named, no_aid, aid_of}
use Rattle.card_isdp.specs.Policy.{policy_ok}
use Rattle.card_isdp.specs.Profile.{profile}
use Rattle.card_isdp.specs.LifeCycle.{selectable, personalized, disabled, enabled}
use Rattle.card_isdp.specs.Provisioning.{mark_ok}
use Rattle.card_isdp.specs.declared.Isdp.{Isdp}

-- a place that is not held
abbrev pub vacant : Isdp
vacant = profile no_aid 0 0 0 0 0

-- a new profile: its policy is empty, and it has no mark (decisions 49, B55)
abbrev pub made : List ℕ → ℕ → ℕ → ℕ → Isdp
made aid life quota used = profile (named aid) life quota used 0 0

-- a place is held when it has an AID (decision B5)
abbrev pub held : Isdp → Bool
held p = not (eqb p.aid.len 0)

-- the place is held and bears this AID, told by its length too (decision 35)
unfoldable pub is_for : List ℕ → Isdp → Bool
is_for aid p = held p && same_bytes (aid_of p) aid

-- two places are held with one AID
unfoldable pub clash : Isdp → Isdp → Bool
clash p q = held p && is_for (aid_of p) q

-- every byte is zero
unfoldable pub zeros : List ℕ → Bool
zeros [] = true
zeros (x ∷ xs) = eqb x 0 && zeros xs

-- SELECTABLE, PERSONALIZED, DISABLED or ENABLED; 03 INSTALLED of 000 is none of the four (decision 54)
abbrev pub life_ok : ℕ → Bool
life_ok v = eqb v selectable || (eqb v personalized || (eqb v disabled || eqb v enabled))

-- "places not held .. are zero": the life cycle, and all else but the AID
abbrev pub blank : Isdp → Bool
blank p = eqb p.quota 0 && (eqb p.used 0 && (eqb p.policy 0 && eqb p.mark 0))

abbrev pub empty_ok : Isdp → Bool
empty_ok p = eqb p.life 0 && blank p

-- the sizes and codings of a held place, its life cycle apart, which steps on the life cycle do not touch; no state asks more (decision 56)
abbrev pub held_ok : ℕ → Isdp → Bool
held_ok capacity p =
    leb least_aid p.aid.len
    && (leb p.aid.len most_aid
    && (leb 1 p.quota
    && (leb p.quota capacity
    && (leb p.used p.quota && (policy_ok p.policy && mark_ok p.mark)))))

-- the sizes and codings of one place; "bytes past an AID's length are zero" (decisions 54, B4)
unfoldable pub place_ok : ℕ → Isdp → Bool
place_ok capacity p =
    eqb (length p.aid.bytes) most_aid
    && cond (held p)
    (life_ok p.life && (held_ok capacity p && zeros (drop p.aid.len p.aid.bytes)))
    (empty_ok p && zeros (drop p.aid.len p.aid.bytes))
