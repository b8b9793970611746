-- What owning a card tells of its fields: the prover knows it of the types; and two cards that agree in every field are one. Assumes nothing.
use mathlib.Core.Path.{◌≡◌, sym, ◌∙◌}
use Prim.Native.Nat.{ℕ, ◌≤◌}
use native.Mathlib.Omega.{arith}
use mathlib.Core.List.{List, map}
use lib.ListN.{length, length-map}
use mir.Val.{Val, Fits}
use mir.Syntax.{w16}
use denote.Laws.{Is}
use denote.Struct.Declared.{row}
use borrow.Author.Rules.{rules}
use Rattle.card_isdp.specs.Sizes.{most_places, eid_size, last_number}
use Rattle.card_isdp.specs.declared.Isdp.{Isdp}
use Rattle.card_record.specs.Cards.{card_with}
use Rattle.card_record.specs.declared.Card.{Card}
use Rattle.card_record.specs.declared.Phase.{Phase}
use Rattle.card_record.specs.contracts.Card as C

length-mapped : (X Y : Type 0) (f : X → Y) (l : List X) (n : ℕ) → length (map f l) ≡ n → length l ≡ n
length-mapped X Y f l n e = sym (length-map l f) ∙ e

pub full : (card : Card) (vs : List Val) → Is (row C.the_type) card vs → length card.places ≡ most_places
full card vs g = search (rules, length-mapped)

pub named : (card : Card) (vs : List Val) → Is (row C.the_type) card vs → length card.eid ≡ eid_size
named card vs g = search rules

last_fits : (card : Card) (vs : List Val) → Is (row C.the_type) card vs → Fits w16 card.last
last_fits card vs g = search rules

pub numbered : (card : Card) (vs : List Val) → Is (row C.the_type) card vs → card.last ≤ last_number
numbered card vs g = let h = last_fits card vs g in omega arith

respelled : (e e' : List ℕ) (k k' v v' r r' n n' f f' : ℕ) (p p' : Phase) (o o' : ℕ) (l l' : List Isdp) → e ≡ e' → k ≡ k' → v ≡ v' → r ≡ r' → n ≡ n' → f ≡ f' → p ≡ p' → o ≡ o' → l ≡ l' → card_with e k v r n f p o l ≡ card_with e' k' v' r' n' f' p' o' l'
respelled e e' k k' v v' r r' n n' f f' p p' o o' l l' a b c d g h i m j = rw (a, b, c, d, g, h, i, m, j)

pub same-card : (c d : Card) → d.eid ≡ c.eid → d.capacity ≡ c.capacity → d.volatile ≡ c.volatile → d.free ≡ c.free → d.last ≡ c.last → d.fallback ≡ c.fallback → d.phase ≡ c.phase → d.kept ≡ c.kept → d.places ≡ c.places → d ≡ c
same-card c d a b e f g h i m j = respelled _ _ _ _ _ _ _ _ _ _ _ _ _ _ _ _ _ _ a b e f g h i m j
