-- Hashes of AIDs: places with one AID have one hash, so that AIDs need be compared only where a hash was seen before.
use Rattle.std.specs.Prelude.{ℕ, ◌+◌, ◌*◌, ◌-◌, ◌%◌, List, cond, length, get_or, ltb}

abbrev pub hashes : ℕ
hashes = 256

-- by the last three bytes: ISD-P AIDs as 000, Annex H, has them differ in the two bytes before the last, and end in 00; one that is shorter has the hash 0
unfoldable pub hash_of : List ℕ → ℕ
hash_of a =
    cond (ltb (length a) 3)
    0
    ((get_or a (length a - 1) 0 + (29 * get_or a (length a - 2) 0 + 7 * get_or a (length a - 3) 0)) % hashes)
