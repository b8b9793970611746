-- Create is live: where every row before the last passes, the word is decided by the last row, and its search for a free place fails
-- exactly where no place is free. By induction over the places. Assumes nothing.
use mathlib.Core.Path.{◌≡◌, refl, sym, ap, ◌∙◌}
use Prim.Native.Nat.{ℕ, suc}
use native.Mathlib.Omega.{arith}
use mathlib.Core.List.{List, [], ◌∷◌}
use mathlib.Core.Bool.{Bool, true, false, not, cond, ◌||◌, false≢true}
use lib.ListN.{length}
use lib.Dec.{ltb, leb}
use borrow.Author.Tests.{leb-true, leb-false, ltb-true, ltb-false, lt-ltb, le-ltb}
use Rattle.base_status.specs.Rows.{word_of}
use Rattle.base_status.specs.declared.Status.TheVariants.{Done, NoRoom}
use Rattle.card_isdp.specs.Sizes.{most_places}
use Rattle.card_isdp.specs.Place.{held, is_for}
use Rattle.card_isdp.specs.declared.Isdp.{Isdp}
use Rattle.card_places.specs.Places.{at, seek, is_free, any_of}
use Rattle.card_places.proofs.Seeks.{past}
use Rattle.card_record.specs.Cards.{is_quiet, profile_of, free_place, free_in}
use Rattle.card_record.specs.declared.Card.{Card}
use Rattle.card_record.proofs.Sounds.{parts}
use Rattle.read_fields.specs.Grammar.{Created}
use Rattle.read_fields.specs.Grammar as written
use Rattle.rule_steps.specs.Asked.{Asked.create}
use Rattle.rule_steps.specs.Conditions.{card_rows}
use Rattle.rule_steps.specs.Steps.{success_of}
use Rattle.proof_demands.specs.Create.{SoundRequest, CreateLive}
use Rattle.proof_demands.proofs.Written.{written-word}

next-case : (a b : ℕ) (t : Bool) → ltb a b ≡ t → ltb (suc a) (suc b) ≡ t
next-case a b true e = let h = ltb-true a b e in lt-ltb (suc a) (suc b) (omega arith)
next-case a b false e = let h = ltb-false a b e in le-ltb (suc a) (suc b) (omega arith)

-- a search finds a place exactly where some place passes
found-case : (t : Isdp → Bool) (ps : List Isdp) (b : Bool) → ltb (seek t ps) (length ps) ≡ any_of t ps → ltb (cond b 0 (suc (seek t ps))) (suc (length ps)) ≡ (b || any_of t ps)
found-case t ps true r = lt-ltb 0 (suc (length ps)) (omega arith)
found-case t ps false r = next-case (seek t ps) (length ps) (any_of t ps) r

found-any : (t : Isdp → Bool) (l : List Isdp) → ltb (seek t l) (length l) ≡ any_of t l
unfolding seek any_of
found-any t [] = refl
found-any t (p ∷ ps) = found-case t ps (t p) (found-any t ps)

-- an AID that no place bears is not held
missed : (l : List Isdp) (aid : List ℕ) (b : Bool) → ltb (seek (is_for aid) l) (length l) ≡ b → b ≡ false → held (at l (seek (is_for aid) l)) ≡ false
missed l aid true e n = absurd (false≢true (sym n))
missed l aid false e n = rw (past l (seek (is_for aid) l) (ltb-false (seek (is_for aid) l) (length l) e))

over-case : (q f : ℕ) (b : Bool) → leb q f ≡ b → not b ≡ ltb f q
over-case q f true e = sym (le-ltb f q (leb-true q f e))
over-case q f false e = sym (lt-ltb f q (leb-false q f e))

over : (q f : ℕ) → not (leb q f) ≡ ltb f q
over q f = over-case q f (leb q f) refl

rows-word : (c : Card) (aid : List ℕ) (quota : ℕ) → is_quiet c.phase ≡ true → held (profile_of c aid) ≡ false → ltb (free_place c) most_places ≡ any_of is_free c.places → word_of (success_of c (create aid quota)) (card_rows c (create aid quota)) ≡ cond (not (any_of is_free c.places) || ltb (free_in c) quota) NoRoom Done
unfolding word_of
rows-word c aid quota q n f = rw (q, n, f, over quota (free_in c))

module _ (c : Card) (verdict : ℕ) (s : List ℕ) (room : ℕ) (v : Created) (r : SoundRequest c s room v) where
  card-word : word_of (success_of c (create v.aid v.quota)) (card_rows c (create v.aid v.quota)) ≡ cond (not (any_of is_free c.places) || ltb (free_in c) v.quota) NoRoom Done
  card-word =
      let l = c.places in
      let n = (parts c r.card-sound).sizes.full in
      let f : ltb (free_place c) most_places ≡ any_of is_free l = ap (ltb (free_place c)) (sym n) ∙ found-any is_free l in
      let h = missed l v.aid (ltb (seek (is_for v.aid) l) (length l)) refl (found-any (is_for v.aid) l ∙ r.not-held) in
      rows-word c v.aid v.quota r.card-quiet h f

pub create-live : CreateLive
create-live c verdict s room v r = written-word c verdict s room (written.create v) r.card-sound r.buffer-long r.encoded ∙ card-word c verdict s room v r
