-- Demand 3: "An accepted enable or disable opens a change. Let any commands, inner calls and reports then arrive, in any number and order."
-- What is asked of the calls after the opening is said over `reach`, which tells the card that any list of them leads to.
use Rattle.std.specs.Prelude.{ℕ, ◌+◌, ◌≤◌, ◌<◌, ◌≡◌, List, [], ◌∷◌, ◌++◌, Bool, true, false, not, cond, ◌&&◌, ◌||◌, ltb}
use Rattle.card_isdp.specs.LifeCycle.{is_enabled}
use Rattle.card_places.specs.Places.{at}
use Rattle.card_record.specs.Cards.{is_quiet, on_fallback}
use Rattle.card_record.specs.Sound.{sound}
use Rattle.card_record.specs.Clock.{outstanding}
use Rattle.card_record.specs.declared.Card.{Card}
use Rattle.rule_steps.specs.Asked.{Act.enable, Act.disable, Asked.on, Asked.confirm, Asked.tick, Asked.lost}
use Rattle.rule_run.specs.Calls.{Call, Call.Tick, Call.Lost, asked}
use Rattle.rule_run.specs.Runs.{enabled_bytes, fallback_bytes, taken, is_tick, confirms, ticks_among}
use Rattle.rule_run.specs.Step.{step, run}

-- the change is open after each of the calls
unfoldable pub stays_open : (List Call → Card) → List Call → Bool
stays_open reach [] = true
stays_open reach (call ∷ calls) =
    not (is_quiet (reach (call ∷ [])).phase) && stays_open (λ rest. reach (call ∷ rest)) calls

-- phase, enabled profile, fall-back and last number are as they were, and every place bears the AID that it bore (decision 64)
pub record Unmoved (c d : Card) : Type 0 where
  pub phase : d.phase ≡ c.phase
  pub enabled : (i : ℕ) → is_enabled (at d.places i) ≡ is_enabled (at c.places i)
  pub named : (i : ℕ) → (at d.places i).aid ≡ (at c.places i).aid
  pub fallback : d.fallback ≡ c.fallback
  pub last : d.last ≡ c.last

-- of the profile asked for, the previous one and the fall-back, the one enabled after so many ticks, while the change is open (decision 62)
abbrev pub holder : {A : Type 0} → A → A → A → ℕ → A
holder wanted previous fallback ticks = cond (ltb ticks 10) wanted (cond (ltb ticks 20) previous fallback)

-- the one that is to be enabled at the close: confirmed, by the ticks seen; not confirmed, the fall-back
abbrev pub heir : {A : Type 0} → A → A → A → Bool → ℕ → A
heir wanted previous fallback confirmed ticks = cond confirmed (holder wanted previous fallback ticks) fallback

-- a change that keeps demand 3, whatever calls follow; profiles are told by their AIDs, `last` is the tick that closes it where nothing
-- is confirmed
pub record Change (wanted previous fallback : List ℕ) (last : ℕ) (reach : List Call → Card) : Type 0 where
  -- it is open
  pub opens : is_quiet (reach []).phase ≡ false
  -- "The change closes no later than the thirtieth tick."
  pub thirty : (calls : List Call) → stays_open reach calls ≡ true → ticks_among calls < 30
  -- the one asked for is tried before the tenth tick, the previous one before the twentieth, then the fall-back
  pub meanwhile : (calls : List Call) → stays_open reach calls ≡ true → enabled_bytes (reach calls) ≡ holder wanted previous fallback (ticks_among calls)
  -- "At its close the enabled profile is the one asked for .. if its notification was confirmed before the tenth tick; failing that,
  -- the previous one if the roll-back was confirmed before the twentieth; failing that, the fall-back."
  pub close : (calls : List Call) (call : Call) → stays_open reach calls ≡ true → is_quiet (reach (calls ++ call ∷ [])).phase ≡ true → enabled_bytes (reach (calls ++ call ∷ [])) ≡ heir wanted previous fallback (confirms (reach calls) call) (ticks_among calls)
  -- a tick closes it no sooner than it should
  pub due : (calls : List Call) → stays_open reach calls ≡ true → is_quiet (reach (calls ++ Tick ∷ [])).phase ≡ true → ticks_among calls + 1 ≡ last
  -- "confirmed": the confirmation of the outstanding number closes it
  pub confirmed : (calls : List Call) (call : Call) → stays_open reach calls ≡ true → confirms (reach calls) call ≡ true → is_quiet (reach (calls ++ call ∷ [])).phase ≡ true
  -- "Nothing but ticks and the confirmation of the outstanding number moves this along or holds it up."
  pub still : (calls : List Call) (call : Call) → stays_open reach calls ≡ true → (is_tick call || confirms (reach calls) call) ≡ false → Unmoved (reach calls) (reach (calls ++ call ∷ []))

-- the profile that an accepted enable or disable asks for: "on a disable, the fall-back"
pub data Opens (c : Card) (call : Call) : List ℕ → Type 0 where
  enables : (aid : List ℕ) → asked c call ≡ on aid enable → taken c call ≡ true → Opens c call aid
  disables : (aid : List ℕ) → asked c call ≡ on aid disable → taken c call ≡ true → Opens c call (fallback_bytes c)

-- left alone it closes at the thirtieth tick; a change away from the fall-back at the twentieth, when the fall-back is back (decision 63)
abbrev pub last_tick : Card → ℕ
last_tick c = cond (on_fallback c) 20 30

-- demand 3: of every card on which an enable or disable is accepted, so of the second and every later change too (decision 61)
abbrev pub Demand3 : Type 0
Demand3 =
    (c : Card) (call : Call) (wanted : List ℕ) → Opens c call wanted
    → Change wanted (enabled_bytes c) (fallback_bytes c) (last_tick c) (run (step c call).card)

-- "A change opened by a lost network ends on the fall-back, by the tenth tick."
pub record LostChange (fallback : List ℕ) (reach : List Call → Card) : Type 0 where
  pub opens : is_quiet (reach []).phase ≡ false
  pub ten : (calls : List Call) → stays_open reach calls ≡ true → ticks_among calls < 10
  pub throughout : (calls : List Call) → stays_open reach calls ≡ true → enabled_bytes (reach calls) ≡ fallback
  pub close : (calls : List Call) (call : Call) → stays_open reach calls ≡ true → is_quiet (reach (calls ++ call ∷ [])).phase ≡ true → enabled_bytes (reach (calls ++ call ∷ [])) ≡ fallback
  pub due : (calls : List Call) → stays_open reach calls ≡ true → is_quiet (reach (calls ++ Tick ∷ [])).phase ≡ true → ticks_among calls + 1 ≡ 10
  pub confirmed : (calls : List Call) (call : Call) → stays_open reach calls ≡ true → confirms (reach calls) call ≡ true → is_quiet (reach (calls ++ call ∷ [])).phase ≡ true
  pub still : (calls : List Call) (call : Call) → stays_open reach calls ≡ true → (is_tick call || confirms (reach calls) call) ≡ false → Unmoved (reach calls) (reach (calls ++ call ∷ []))

abbrev pub LostNetwork : Type 0
LostNetwork =
    (c : Card) → sound c ≡ true → is_quiet c.phase ≡ true → on_fallback c ≡ false
    → LostChange (fallback_bytes c) (run (step c Lost).card)

-- the first call that closes a change, with what stands before it and after
pub record FirstClose (reach : List Call → Card) (calls : List Call) : Type 0 where
  pub before : List Call
  pub call : Call
  pub rest : List Call
  pub split : calls ≡ before ++ call ∷ rest
  pub open-before : stays_open reach before ≡ true
  pub quiet-after : is_quiet (reach (before ++ call ∷ [])).phase ≡ true

-- any list with thirty ticks holds one
abbrev pub ThirtyTicksClose : Type 0
ThirtyTicksClose =
    (wanted previous fallback : List ℕ) (last : ℕ) (reach : List Call → Card) → Change wanted previous fallback last reach
    → (calls : List Call) → 30 ≤ ticks_among calls → FirstClose reach calls

-- "Nothing but ticks and the confirmation of the outstanding number moves this along or holds it up", of any open change (decisions 61, 64)
abbrev pub Frame : Type 0
Frame =
    (c : Card) (call : Call) → sound c ≡ true → is_quiet c.phase ≡ false → (is_tick call || confirms c call) ≡ false
    → Unmoved c (step c call).card

-- an accepted confirmation is of the outstanding number (decision 66)
abbrev pub OnlyOutstanding : Type 0
OnlyOutstanding =
    (c : Card) (call : Call) (number : ℕ) → asked c call ≡ confirm number → taken c call ≡ true
    → outstanding c.phase number ≡ true
