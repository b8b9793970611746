-- Document 01, 'The card': the life cycle of an ISD-P (000, 2.2.1.3), and a place with another life cycle, other used bytes, another
-- policy, another mark.
use Rattle.std.specs.Prelude.{ℕ, Bool, cond, ◌||◌, eqb}
use Rattle.card_isdp.specs.Profile.{changed}
use Rattle.card_isdp.specs.declared.Isdp.{Isdp}

abbrev pub selectable : ℕ
selectable = 0x07

abbrev pub personalized : ℕ
personalized = 0x0F

abbrev pub disabled : ℕ
disabled = 0x1F

abbrev pub enabled : ℕ
enabled = 0x3F

abbrev pub is_enabled : Isdp → Bool
is_enabled p = eqb p.life enabled

-- SELECTABLE or PERSONALIZED, "Created" in 000, Table 2: its download is not finished
abbrev pub is_created : ℕ → Bool
is_created v = eqb v selectable || eqb v personalized

-- DISABLED or ENABLED
abbrev pub is_finished : ℕ → Bool
is_finished v = eqb v disabled || eqb v enabled

abbrev pub with_life : Isdp → ℕ → Isdp
with_life p life = changed p life p.used p.policy p.mark

abbrev pub with_used : Isdp → ℕ → Isdp
with_used p used = changed p p.life used p.policy p.mark

abbrev pub with_policy : Isdp → ℕ → Isdp
with_policy p policy = changed p p.life p.used policy p.mark

abbrev pub with_mark : Isdp → ℕ → Isdp
with_mark p mark = changed p p.life p.used p.policy mark

-- DISABLED, with this policy and this mark
abbrev pub finish : Isdp → ℕ → ℕ → Isdp
finish p policy mark = with_mark (with_policy (with_life p disabled) policy) mark

-- an ENABLED place is DISABLED, any other stays
abbrev pub off : Isdp → Isdp
off p = with_life p (cond (is_enabled p) disabled p.life)
