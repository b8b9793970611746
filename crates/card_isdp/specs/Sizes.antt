-- Document 01, 'Sizes': the numbers that a card keeps. Those of a command and of the lent buffer stand where they are asked: 261 in
-- read_frame/specs/Framing, 256 in rule_run/specs/Table; the readers of a command (read_fields, read_install, read_command) write an AID's 5 to 16 as
-- 'Reading a command' does, as the bounds of an element.
use Rattle.std.specs.Prelude.{ℕ}

-- "1 to 8 ISD-Ps"; request 2026-05: "Raise the limit to 32" (decision B70)
abbrev pub most_places : ℕ
most_places = 32

-- "AID 5 to 16 bytes"
abbrev pub least_aid : ℕ
least_aid = 5

abbrev pub most_aid : ℕ
most_aid = 16

-- "EID 16 bytes"
abbrev pub eid_size : ℕ
eid_size = 16

-- "Capacity 1 to 1,048,576 bytes"
abbrev pub most_capacity : ℕ
most_capacity = 1048576

-- "A wait is 10 ticks"
abbrev pub wait : ℕ
wait = 10

-- "Notification numbers run 1, 2, .. 65535, 0, 1"
abbrev pub last_number : ℕ
last_number = 65535
