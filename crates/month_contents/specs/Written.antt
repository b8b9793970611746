-- docs/EVENTS.md, 'The file', from the writer's side: a section's entry, "kind, start, length (4 bytes each)", and a file of two sections.
use Rattle.std.specs.Prelude.{ℕ, List, ◌++◌}
use Rattle.base_bytes.specs.Bytes.{four_bytes}

abbrev pub entry : ℕ → ℕ → ℕ → List ℕ
entry kind start len = four_bytes kind ++ four_bytes start ++ four_bytes len

-- two sections listed, and the bodies
abbrev pub two_sections : List ℕ → List ℕ → List ℕ → List ℕ
two_sections first second bodies = four_bytes 2 ++ first ++ second ++ bodies
