-- Document 01, 'The card': "Each ISD-P has an AID, life cycle, quota, used bytes and policy"; request 2026-02: and a mark of provisioning capability.
-- The record is spelled here and nowhere else.
use Rattle.std.specs.Prelude.{ℕ}
use Rattle.card_isdp.specs.declared.Aid.{Aid}
use Rattle.card_isdp.specs.declared.Isdp.{Isdp}

-- the numbers first, as the code lays the record out (decision B35)
abbrev pub profile : Aid → ℕ → ℕ → ℕ → ℕ → ℕ → Isdp
profile aid life quota used policy mark =
    record { quota = quota; used = used; life = life; policy = policy; mark = mark; aid = aid }

-- what a step may change of a profile: life cycle, used bytes, policy and mark; AID and quota stay
abbrev pub changed : Isdp → ℕ → ℕ → ℕ → ℕ → Isdp
changed p life used policy mark = profile p.aid life p.quota used policy mark
