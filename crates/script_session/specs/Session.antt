-- A session as the code hands it out: where it stands, the text in a lent buffer, and what is left in the two that are lent for a call.
use Rattle.std.specs.Prelude.{ℕ, ◌≤◌, ◌≡◌, List, true, false, length}
use Rattle.base_bytes.specs.Put.{put, Wrote}
use Rattle.card_record.specs.Fresh.{zero_card}
use Rattle.record_door.specs.Door.{call_of}
use Rattle.record_door.specs.declared.Call as declared
use Rattle.script_reply.specs.Replies.{call_spelled, bytes_in, Reply, most_text}
use Rattle.script_session.specs.declared.Turn.{Turn}

-- "Calls before the first accepted `fresh` or `card` act on the record of zeros", which is not sound (decision B26)
abbrev pub first_turn : Turn
first_turn = record { card = zero_card; sound = false; filled = 0; goes = true }

-- a line's call over the buffer lent for its bytes: it names there the bytes that the line asks for, which stand at the front
pub record LaidOut (old s : List ℕ) (x y : declared.Call) (new : List ℕ) : Type 0 where
  pub same-call : (room : ℕ) → call_of new room y ≡ call_spelled s room x
  pub content : new ≡ put old 0 (bytes_in s x)

-- a line as the code hands it out: the text stands in the lent buffer from `at` on
pub record Replied (old : List ℕ) (at : ℕ) (x : Reply) (r : Turn) (new : List ℕ) : Type 0 where
  pub same-card : r.card ≡ x.card
  pub same-sound : r.sound ≡ x.sound
  pub same-goes : r.goes ≡ x.goes
  pub wrote : Wrote old at x.text r.filled new
  pub short : length x.text ≤ most_text

-- the two buffers as the line leaves them
pub record Used (bytes response : List ℕ) (x : Reply) (bytes₁ response₁ : List ℕ) : Type 0 where
  pub left-bytes : bytes₁ ≡ put bytes 0 x.bytes
  pub left-response : response₁ ≡ put response 0 x.response
