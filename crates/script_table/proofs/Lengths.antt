-- How long the table is, so that a caller's buffer is known to be enough. A number counts as one of 20 digits, as 64 bits have,
-- and an AID as one of 16 bytes, as every record of the code has. Assumes nothing.
use mathlib.Core.Path.{◌≡◌}
use Prim.Native.Nat.{ℕ, suc, ◌+◌, ◌*◌, ◌≤◌}
use native.Mathlib.Omega.{arith}
use mathlib.Core.List.{List, [], ◌∷◌}
use mathlib.Core.Bool.{Bool}
use lib.ListN.{length, length-append}
use lib.Dec.{eqb}
use Rattle.base_choice.proofs.Branches.{each, by-lt, by-eq}
use Rattle.card_isdp.specs.Aids.{aid_of}
use Rattle.card_isdp.specs.LifeCycle.{selectable, personalized, disabled, enabled}
use Rattle.text_words.proofs.HexLaws.{hex-length}
use Rattle.text_words.proofs.ColumnLaws.{spaces-length, column-length}
use Rattle.card_isdp.specs.declared.Isdp.{Isdp}
use Rattle.card_record.specs.declared.Card.{Card}
use Rattle.script_table.specs.Profiles.{state_text, yes_text, provisioning_text, policy_text, name_cells, figure_cells, role_cells, row_text}
use Rattle.script_table.specs.Profiles.{place_text, rows_text, widest_of, table_head, table_text, most_table_row}

pub state-wide : (life : ℕ) → length (state_text life) ≡ 12
unfolding state_text
state-wide life =
    by-eq (λ (l : List ℕ). length l ≡ 12) life selectable (λ h. omega arith)
    (λ h. by-eq (λ (l : List ℕ). length l ≡ 12) life personalized (λ i. omega arith)
    (λ i. by-eq (λ (l : List ℕ). length l ≡ 12) life disabled (λ j. omega arith)
    (λ j. by-eq (λ (l : List ℕ). length l ≡ 12) life enabled (λ k. omega arith)
    (λ k. simp (length-append, hex-length) (omega arith)))))

pub yes-wide : (told : Bool) (rest : ℕ) → length (yes_text told rest) ≡ 3 + rest
unfolding yes_text
yes-wide told rest =
    each (λ (l : List ℕ). length l ≡ 3 + rest) told
    (λ h. simp spaces-length (omega arith))
    (λ h. simp spaces-length (omega arith))

pub provisioning-wide : (mark : ℕ) → length (provisioning_text mark) ≡ 12
unfolding provisioning_text
provisioning-wide mark =
    by-lt (λ (l : List ℕ). length l ≡ 12) 1 mark
    (λ h. simp (length-append, hex-length, spaces-length) (omega arith))
    (λ h. omega (arith, yes-wide (eqb mark 1) 9))

policy-length : (policy : ℕ) → length (policy_text policy) ≤ 32
unfolding policy_text
policy-length policy =
    by-eq (λ (l : List ℕ). length l ≤ 32) policy 0 (λ h. omega arith)
    (λ h. by-eq (λ (l : List ℕ). length l ≤ 32) policy 1 (λ i. omega arith)
    (λ i. by-eq (λ (l : List ℕ). length l ≤ 32) policy 2 (λ j. omega arith)
    (λ j. by-eq (λ (l : List ℕ). length l ≤ 32) policy 3 (λ k. omega arith)
    (λ k. by-eq (λ (l : List ℕ). length l ≤ 32) policy 4 (λ m. omega arith)
    (λ m. simp hex-length (omega arith))))))

name-length : (p : Isdp) (place widest : ℕ) → length (aid_of p) ≤ widest → widest ≤ 16 → length (name_cells p place widest) ≤ 60
unfolding name_cells
name-length p place widest h k =
    simp (length-append, hex-length, spaces-length) (omega (arith, column-length place))

figure-length : (p : Isdp) → length (figure_cells p) ≤ 70
unfolding figure_cells
figure-length p =
    simp length-append
    (omega (arith, state-wide p.life, column-length p.quota, column-length p.used))

role-length : (p : Isdp) (place holder : ℕ) → length (role_cells p place holder) ≤ 60
unfolding role_cells
role-length p place holder =
    simp length-append
    (omega (arith, yes-wide (eqb place holder) 6, provisioning-wide p.mark, policy-length p.policy))

place-length : (p : Isdp) (place holder widest : ℕ) → length (aid_of p) ≤ widest → widest ≤ 16 → length (place_text p place holder widest) ≤ most_table_row
unfolding place_text row_text
place-length p place holder widest h k =
    by-eq (λ (l : List ℕ). length l ≤ most_table_row) p.aid.len 0 (λ e. omega arith)
    (λ e. simp length-append (omega (arith, name-length p place widest h k, figure-length p, role-length p place holder)))

rows-length : (holder widest place : ℕ) (l : List Isdp) → widest_of l ≤ widest → widest ≤ 16
    → length (rows_text holder widest place l) ≤ length l * most_table_row
unfolding rows_text widest_of
rows-length holder widest place [] h k = omega arith
rows-length holder widest place (p ∷ ps) h k =
    let e = place-length p place holder widest (omega arith) k in
    let f = rows-length holder widest (suc place) ps (omega arith) k in
    simp length-append (omega arith)

head-length : (widest : ℕ) → widest ≤ 16 → length (table_head widest) ≤ 107
unfolding table_head
head-length widest h =
    by-eq (λ (l : List ℕ). length l ≤ 107) widest 0 (λ e. omega arith)
    (λ e. simp (length-append, spaces-length) (omega arith))

pub table-length : (c : Card) → widest_of c.places ≤ 16 → length (table_text c) ≤ length c.places * most_table_row + 107
unfolding table_text
table-length c h =
    simp length-append
    (omega (
      arith,
      head-length (widest_of c.places) h,
      rows-length c.fallback (widest_of c.places) 0 c.places (omega arith) h,
    ))
