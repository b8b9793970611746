-- Document 01, 'Reading a command', TLV: "Elements fill their list exactly", said with no count and no order of tests: a list at a level
-- is at its end, or an element stands there and the list goes on where that stops; a constructed element holds a list a level down.
use Rattle.std.specs.Prelude.{ℕ, ◌+◌, ◌≤◌, ◌≡◌, List, true, false, length}
use Rattle.read_tlv.specs.Tlv.{head_read, head_at}

-- the outermost list is level 1, and four levels are the most (decision 31)
pub record Level (level : ℕ) : Type 0 where
  pub outermost : 1 ≤ level
  pub deepest : level ≤ 4

pub data Filled (s : List ℕ) : ℕ → ℕ → ℕ → Type 0 where
  ended : {level at : ℕ} → Level level → at ≤ length s → Filled s level at at
  primitive : {level at end t start stop : ℕ} → Level level → head_read t false start stop ≡ head_at s at end
      → Filled s level stop end → Filled s level at end
  constructed : {level at end t start stop : ℕ} → Level level → head_read t true start stop ≡ head_at s at end
      → Filled s (level + 1) start stop → Filled s level stop end → Filled s level at end
