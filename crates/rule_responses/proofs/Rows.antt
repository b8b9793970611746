-- The code's pieces put together are the responses. Assumes nothing.
use mathlib.Core.Path.{◌≡◌, refl, ap}
use Prim.Native.Nat.{ℕ, ◌+◌, ◌≤◌}
use native.Mathlib.Omega.{arith}
use mathlib.Core.List.{List, [], ◌∷◌, ◌++◌, append_assoc}
use mathlib.Core.Bool.{Bool, true, false, cond}
use lib.ListN.{length, take, length-append}
use borrow.Author.Tests.{eq-eqb, ne_eqb}
use Rattle.card_isdp.specs.Aids.{bytes_of, aid_of}
use Rattle.card_isdp.specs.Place.{held}
use Rattle.card_isdp.specs.declared.Isdp.{Isdp}
use Rattle.card_isdp.specs.declared.Aid.{Aid}
use Rattle.card_places.specs.Places.{at, count_of}
use Rattle.card_isdp.proofs.Bytes.{taken}
use Rattle.card_record.specs.Cards.{free_in}
use Rattle.card_record.specs.declared.Card.{Card}
use Rattle.base_bytes.specs.Bytes.{four_bytes}
use Rattle.rule_responses.specs.Responses.{aid_element, life_element, attribute_element, attribute_of, listed, status_body, status_row, row_of, row_size, one_status, data_response, deleted_response}

-- as many bytes as the AID has, after their tag and their number
pub aid-element : (a : Aid) (n : ℕ) → n ≡ length (bytes_of a) → 0x4F ∷ n ∷ take n a.bytes ≡ aid_element (bytes_of a)
aid-element a n e = rw (e, taken a.len a.bytes)

pub listed_small : (life fallback : Bool) → cond life 4 0 + cond fallback 3 0 ≤ 7
listed_small true true = omega arith
listed_small true false = omega arith
listed_small false true = omega arith
listed_small false false = omega arith

listed-length : (life fallback : Bool) (state attribute : ℕ) → length (listed life (life_element state) ++ listed fallback (attribute_element attribute)) ≡ cond life 4 0 + cond fallback 3 0
listed-length true true state attribute = refl
listed-length true false state attribute = refl
listed-length false true state attribute = refl
listed-length false false state attribute = refl

-- what E3 holds, counted
pub body-length : (p : Isdp) (attribute : ℕ) (life fallback : Bool) → length (status_body p attribute life fallback) ≡ length (aid_of p) + 2 + (cond life 4 0 + cond fallback 3 0)
unfolding status_body
body-length p attribute life fallback =
    let e = length-append (aid_of p) (listed life (life_element p.life) ++ listed fallback (attribute_element attribute)) in
    let f = listed-length life fallback p.life attribute in
    omega (arith, e, f)

pub status-row : (p : Isdp) (attribute : ℕ) (life fallback : Bool) (n m : ℕ) → n ≡ length (aid_of p) → m ≡ cond life 4 0 + cond fallback 3 0
    → (((0xE3 ∷ (n + 2 + m) ∷ []) ++ aid_element (aid_of p)) ++ listed life (life_element p.life)) ++ listed fallback (attribute_element attribute) ≡ status_row p attribute life fallback
unfolding status_row status_body
status-row p attribute life fallback n m e f =
    let h = body-length p attribute life fallback in
    let g : n + 2 + m ≡ length (status_body p attribute life fallback) = rw (h, e, f) refl in
    let rest = append_assoc (aid_element (aid_of p)) (listed life (life_element p.life)) (listed fallback (attribute_element attribute)) in
    rw g (ap (λ (xs : List ℕ). 0xE3 ∷ length (status_body p attribute life fallback) ∷ xs) rest)

pub row-none : (p : Isdp) (attribute : ℕ) (life fallback : Bool) → p.aid.len ≡ 0 → [] ≡ row_of p attribute life fallback
unfolding row_of
row-none p attribute life fallback e = rw (eq-eqb p.aid.len 0 e)

pub row-some : (p : Isdp) (attribute : ℕ) (life fallback : Bool) → (p.aid.len ≡ 0 → ⊥) → status_row p attribute life fallback ≡ row_of p attribute life fallback
unfolding row_of
row-some p attribute life fallback e = rw (ne_eqb p.aid.len 0 e)

pub one-row : (c : Card) (place : ℕ) (life fallback : Bool) (p : Isdp) (attribute : ℕ) → p ≡ at c.places place → attribute ≡ attribute_of c.fallback place → row_of p attribute life fallback ≡ one_status c place life fallback
unfolding one_status
one-row c place life fallback p attribute e f = rw (e, f)

-- the bytes that a row takes are as many as it has
size-case : (p : Isdp) (attribute : ℕ) (life fallback there : Bool) → length (cond there (status_row p attribute life fallback) []) ≡ cond there (length (aid_of p) + 4 + (cond life 4 0 + cond fallback 3 0)) 0
unfolding status_row
size-case p attribute life fallback true = omega (arith, body-length p attribute life fallback)
size-case p attribute life fallback false = refl

pub row_sized : (p : Isdp) (attribute : ℕ) (life fallback : Bool) → length (row_of p attribute life fallback) ≡ row_size p life fallback
unfolding row_of
row_sized p attribute life fallback = size-case p attribute life fallback (held p)

pub data-bytes : (c : Card) (n : ℕ) → n ≡ count_of held c.places
    → 0xFF ∷ 0x21 ∷ 0x0F ∷ 0x81 ∷ 1 ∷ n ∷ 0x82 ∷ 4 ∷ four_bytes (free_in c) ++ (0x83 ∷ 4 ∷ four_bytes c.volatile) ≡ data_response c
unfolding data_response
data-bytes c n e = rw e

pub deleted-none : (a : Aid) → a.len ≡ 0 → [] ≡ deleted_response a
unfolding deleted_response
deleted-none a e = rw (eq-eqb a.len 0 e)

pub deleted-some : (a : Aid) (n : ℕ) → (a.len ≡ 0 → ⊥) → n ≡ length (bytes_of a)
    → 0x80 ∷ (n + 2) ∷ aid_element (bytes_of a) ≡ deleted_response a
unfolding deleted_response
deleted-some a n e m =
    let g : n + 2 ≡ length (aid_element (bytes_of a)) = omega (arith, m) in
    rw (ne_eqb a.len 0 e, ← g)
