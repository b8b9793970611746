-- What a read leaves in a window of lines: what was held, and some bytes behind it. Which bytes, the system says; that they are there
-- exactly where it says so, and that a failed read and the end bring none, is said here. It is what `Session` of `text_lines` asks of a read.
use Rattle.std.specs.Prelude.{ℕ, zero, suc, ◌<◌, ◌≡◌, List, [], ◌++◌, length, Option, Result, Ok, Err}
use Rattle.std.specs.Io.KnownBytes.{Keeps, Consumes, IsAtEnd}
use Rattle.text_lines.specs.Window.{held_of}
use Rattle.text_lines.specs.Lines.{Line}
use Rattle.text_lines.specs.Cuts.{Session}
use Rattle.text_lines.specs.declared.Window.{Window}
use Rattle.text_input.specs.declared.Arrival.{Arrival}
use Rattle.text_input.specs.declared.Arrival.TheVariants as arrival

-- a read with room that brought no byte is at the end
abbrev pub arrival_of : {E : Type 0} → Result ℕ E → Arrival
arrival_of (Ok zero) = arrival.End
arrival_of (Ok (suc n)) = arrival.Bytes
arrival_of (Err e) = arrival.Failed

-- a failed read and the end bring no bytes, and without room there is no read
abbrev pub Brings : Arrival → List ℕ → Type 0
Brings arrival.Bytes bytes = 0 < length bytes
Brings arrival.End bytes = bytes ≡ []
Brings arrival.Failed bytes = bytes ≡ []
Brings arrival.Full bytes = bytes ≡ []

-- the system says which bytes, so that this promise alone is not unique (decision B20)
pub record FilledFrom (w : Window) (buf : List ℕ) (v : Window) (a : Arrival) (m : List ℕ) : Type 0 where
  pub bytes : List ℕ
  pub held : held_of v m ≡ held_of w buf ++ bytes
  pub skipping : v.skipping ≡ w.skipping
  pub brings : Brings a bytes
  pub size : length m ≡ length buf

-- what `fill` answers is a read of a session with the window
abbrev pub FilledReads : Type 0
FilledReads = (w : Window) (buf : List ℕ) (v : Window) (a : Arrival) (m input : List ℕ) (ls : List Line) (p : FilledFrom w buf v a m)
    → Session v m input ls → Session w buf (p.bytes ++ input) ls

-- the bytes behind what was held are those that the reader gave; at the end it has none left, and without a read it keeps them
abbrev pub Leaves : Arrival → Option (List ℕ) → Option (List ℕ) → List ℕ → Type 0
Leaves arrival.Bytes old new bytes = Consumes old new bytes
Leaves arrival.End old new bytes = Consumes old new bytes × IsAtEnd new
Leaves arrival.Failed old new bytes = Keeps old new
Leaves arrival.Full old new bytes = Keeps old new

pub record BroughtBy (old new : Option (List ℕ)) (w : Window) (buf : List ℕ) (v : Window) (a : Arrival) (m : List ℕ) : Type 0 where
  pub bytes : List ℕ
  pub held : held_of v m ≡ held_of w buf ++ bytes
  pub leaves : Leaves a old new bytes
