-- Document 01, 'Sizes': how the numbers of notifications run.
use Rattle.std.specs.Prelude.{ℕ, ◌+◌, ◌<◌, ◌≡◌}
use Rattle.card_record.specs.Clock.{next_number}

-- "Notification numbers run 1, 2, .. 65535, 0, 1"
pub record NumbersRun : Type 0 where
  pub next : (n : ℕ) → n < 65535 → next_number n ≡ n + 1
  pub around : next_number 65535 ≡ 0
