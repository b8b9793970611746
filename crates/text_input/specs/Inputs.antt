-- What a program reads: the bytes that reads of it will give are those of the reader that stands in it, where they are known.
use Rattle.std.specs.Prelude.{ℕ, List, Option}
use Rattle.text_input.specs.declared.Input.{Input}
use Rattle.text_input.specs.declared.Input.TheVariants as input

abbrev pub input_remaining : {S F : Type 0} → (S → Option (List ℕ)) → (F → Option (List ℕ)) → Input S F → Option (List ℕ)
input_remaining standard file (input.Standard s) = standard s
input_remaining standard file (input.File f) = file f
