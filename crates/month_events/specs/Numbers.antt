-- docs/EVENTS.md, 'The file': the table of event kinds in numbers alone. The tests of a body are held against it for every number and every
-- length, so that no kind is known and no length is right because a test says so.
use Rattle.std.specs.Prelude.{ℕ, ◌+◌, ◌≤◌, ◌≡◌, List, false, length}
use Rattle.base_bytes.specs.Bytes.{byte}
use Rattle.month_events.specs.Events.{Event, of_unknown_kind, of_wrong_length}

-- the column "Wrong length", read the other way; kind 2, keyed, has "never" and asks nothing
pub record RightLength (kind : ℕ) (bytes : List ℕ) : Type 0 where
  pub command : kind ≡ 1 → 1 ≤ length bytes
  pub stored : kind ≡ 3 → 4 ≤ length bytes
  pub finished : kind ≡ 4 → 1 ≤ length bytes
  pub tick : kind ≡ 5 → length bytes ≡ 0
  pub lost : kind ≡ 6 → length bytes ≡ 0
  pub finished-with-mark : kind ≡ 7 → 2 ≤ length bytes
  -- "0 bytes, or fewer than the speaker's length says after its byte": a byte that is not there counts as 00
  pub policy-update : kind ≡ 8 → 1 + byte bytes 0 ≤ length bytes

-- a kind is known exactly where it is 1 to 8, and a length is wrong exactly where the table says so
pub record KindsInNumbers : Type 0 where
  pub known : (e : Event) → 1 ≤ e.kind → e.kind ≤ 8 → of_unknown_kind e ≡ false
  pub only-known : (e : Event) → of_unknown_kind e ≡ false → (1 ≤ e.kind) × (e.kind ≤ 8)
  pub right : (e : Event) → RightLength e.kind e.bytes → of_wrong_length e ≡ false
  pub only-right : (e : Event) → of_wrong_length e ≡ false → RightLength e.kind e.bytes
