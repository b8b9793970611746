-- A quoted text as the bytes that are written: the number of each character, which in ASCII is its byte.
use Rattle.std.specs.Prelude.{ℕ, List, [], ◌∷◌}
use Prim.Native.Char.{code}
use Prim.Native.String.{String, [] as end, ◌∷◌ as ◌then◌}

abbrev pub text : String → List ℕ
text end = []
text (c then s) = code c ∷ text s
