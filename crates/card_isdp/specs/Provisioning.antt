-- Request 2026-02: each ISD-P has a mark of provisioning capability, 0 or 1, and the fall-back has to have it (000, 4.1.1.7).
use Rattle.std.specs.Prelude.{ℕ, Bool, ◌&&◌, leb, eqb}
use Rattle.card_isdp.specs.LifeCycle.{is_finished}
use Rattle.card_isdp.specs.declared.Isdp.{Isdp}

-- the mark is 0 or 1 (decision B55)
abbrev pub mark_ok : ℕ → Bool
mark_ok m = leb m 1

-- it has provisioning capability
abbrev pub marked : Isdp → Bool
marked p = eqb p.mark 1

-- "The Profile to be assigned the Fall-back Attribute must have Provisioning capability";
-- and it is DISABLED or ENABLED (decisions B56, B58)
abbrev pub may_be_fall_back : Isdp → Bool
may_be_fall_back p = is_finished p.life && marked p
