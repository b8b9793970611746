-- The search for an AID is the library's, and what its number says. Each law takes one AID of the list apart. Assumes nothing.
use mathlib.Core.Path.{◌≡◌, refl, ap}
use Prim.Native.Nat.{ℕ, suc, ◌+◌, ◌≤◌, ◌<◌}
use native.Mathlib.Omega.{arith}
use mathlib.Core.List.{List, [], ◌∷◌, ◌++◌}
use mathlib.Core.Bool.{Bool, true, false, cond}
use lib.ListN.{length}
use lib.Dec.{ltb}
use Rattle.base_bytes.proofs.Alike.{same_self}
use Rattle.card_isdp.specs.Aids.{bytes_of}
use Rattle.card_isdp.specs.declared.Aid.{Aid}
use Rattle.std.specs.Prelude.{position, Option, Some, None}
use Rattle.std.specs.Option.{unwrap_or}
use Rattle.std.specs.List.{position_or_len}
use Rattle.std.proofs.lemmas.List.Recursion.{is_position_or_len}
use Rattle.month_tally.specs.Lines.{rest_line, same_aid, seek_aid, aids_in, line_of}
use Rattle.month_tally.specs.declared.Names.{Names}

-- what the prover takes past the end of an array of AIDs
abbrev pub unread : Aid
unread = record { bytes = []; len = 0 }

one_more : (n : ℕ) → 1 + n ≡ suc n
one_more n = omega arith

-- the search is the library's, over the AIDs that have a line
seek_len : (a : Aid) (l : List Aid) → seek_aid a l ≡ position_or_len (λ x. same_aid x a) l
unfolding seek_aid
seek_len a = is_position_or_len (seek_aid a) (λ x. same_aid x a) refl (λ x xs. rw (one_more (seek_aid a xs)) refl)

-- the line of an AID, by its place among them
at-case : (b : Bool) (i : ℕ) → unwrap_or (cond b (Some i) None) rest_line ≡ cond b i rest_line
at-case true i = refl
at-case false i = refl

pub line-is : (n : Names) (a : Aid) (r : Option ℕ) → r ≡ position (λ x. same_aid x a) (aids_in n) → unwrap_or r rest_line ≡ line_of n a
line-is n a r e = rw (e, seek_len a (aids_in n)) (at-case (ltb (position_or_len (λ x. same_aid x a) (aids_in n)) (length (aids_in n))) (position_or_len (λ x. same_aid x a) (aids_in n)))

seek-case : (b : Bool) (n m : ℕ) → n ≤ m → cond b 0 (suc n) ≤ suc m
seek-case true n m h = omega arith
seek-case false n m h = omega arith

-- an AID is found where it stands last, and stays found where others come after it
pub seek-last : (a : Aid) (l : List Aid) → seek_aid a (l ++ a ∷ []) ≤ length l
unfolding seek_aid
seek-last a [] = rw (same_self (bytes_of a)) (omega arith)
seek-last a (x ∷ xs) = seek-case (same_aid x a) (seek_aid a (xs ++ a ∷ [])) (length xs) (seek-last a xs)

kept_case : (b : Bool) (n k m : ℕ) → cond b 0 (suc n) < suc m → (n < m → k ≡ n) → cond b 0 (suc k) ≡ cond b 0 (suc n)
kept_case true n k m h f = refl
kept_case false n k m h f = ap suc (f (omega arith))

pub seek-kept : (a : Aid) (l r : List Aid) → seek_aid a l < length l → seek_aid a (l ++ r) ≡ seek_aid a l
unfolding seek_aid
seek-kept a [] r h = absurd (omega arith)
seek-kept a (x ∷ xs) r h = kept_case (same_aid x a) (seek_aid a xs) (seek_aid a (xs ++ r)) (length xs) h (seek-kept a xs r)
