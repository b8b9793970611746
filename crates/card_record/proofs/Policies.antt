-- Tick and lost read no policy and delete nothing: with other policies at every place they do the same, and every place stays held
-- or not as it was. Enabling a place touches life cycles alone. Assumes nothing.
use mathlib.Core.Path.{◌≡◌, refl, ap}
use Prim.Native.Nat.{ℕ, zero, suc, ◌-◌}
use mathlib.Core.List.{List, [], ◌∷◌}
use mathlib.Core.Bool.{Bool, true, false, cond}
use lib.Dec.{ltb}
use Rattle.std.proofs.lemmas.Bool.{cond_both}
use Rattle.card_isdp.specs.Sizes.{wait}
use Rattle.card_isdp.specs.declared.Isdp.{Isdp}
use Rattle.card_places.specs.Places.{at, all_off, enable_at}
use Rattle.card_places.proofs.Lives.{enable-lives, lives_at}
use Rattle.card_record.specs.Cards.{is_quiet, on_fallback, forgotten, with_phase}
use Rattle.card_record.specs.Clock.{next_number, switched, fallen, tick_in, tick_of, without_network}
use Rattle.card_record.specs.Policies.{repolicy, with_policies, NoPolicyAsked}
use Rattle.card_record.specs.declared.Card.{Card}
use Rattle.card_record.specs.declared.Phase.{Phase}
use Rattle.card_record.specs.declared.Phase.TheVariants.{Quiet, Trial, Back, Fallen}

off-blind : (bs : List ℕ) (l : List Isdp) → all_off (repolicy bs l) ≡ repolicy bs (all_off l)
unfolding all_off repolicy
off-blind [] l = refl
off-blind (b ∷ bs) [] = refl
off-blind (b ∷ bs) (p ∷ ps) = rw (off-blind bs ps)

enable-blind : (bs : List ℕ) (l : List Isdp) (i : ℕ) → enable_at (repolicy bs l) i ≡ repolicy bs (enable_at l i)
unfolding enable_at repolicy
enable-blind [] l i = refl
enable-blind (b ∷ bs) [] i = refl
enable-blind (b ∷ bs) (p ∷ ps) zero = rw (off-blind bs ps)
enable-blind (b ∷ bs) (p ∷ ps) (suc i) = rw (enable-blind bs ps i)

life-blind : (bs : List ℕ) (l : List Isdp) (i : ℕ) → (at (repolicy bs l) i).life ≡ (at l i).life
unfolding repolicy
life-blind [] l i = refl
life-blind (b ∷ bs) [] i = refl
life-blind (b ∷ bs) (p ∷ ps) zero = refl
life-blind (b ∷ bs) (p ∷ ps) (suc i) = life-blind bs ps i

split : (bs : List ℕ) (b : Bool) (x y : Card) → cond b (with_policies bs x) (with_policies bs y) ≡ with_policies bs (cond b x y)
split bs true x y = refl
split bs false x y = refl

tick-case : (bs : List ℕ) (c : Card) (p : Phase) → tick_in p (with_policies bs c) ≡ with_policies bs (tick_in p c)
tick-case bs c Quiet = refl
tick-case bs c (Trial q l n) = rw (enable-blind bs c.places q) (split bs (ltb 1 l) (with_phase c (Trial q (l - 1) n)) (switched c q (Back wait (next_number c.last))))
tick-case bs c (Back l n) =
    rw (life-blind bs c.places c.fallback, enable-blind bs c.places c.fallback, split bs (on_fallback c) (with_phase c Quiet) (fallen c))
    (split bs (ltb 1 l) (with_phase c (Back (l - 1) n)) (cond (on_fallback c) (with_phase c Quiet) (fallen c)))
tick-case bs c (Fallen l n) = split bs (ltb 1 l) (with_phase c (Fallen (l - 1) n)) (with_phase c Quiet)

tick-blind : (bs : List ℕ) (c : Card) → tick_of (with_policies bs c) ≡ with_policies bs (tick_of c)
unfolding tick_of
tick-blind bs c = tick-case bs c c.phase

lost-blind : (bs : List ℕ) (c : Card) → without_network (with_policies bs c) ≡ with_policies bs (without_network c)
unfolding without_network
lost-blind bs c =
    rw (life-blind bs c.places c.fallback, enable-blind bs c.places c.fallback, split bs (on_fallback c) (forgotten c) (fallen c))
    (split bs (is_quiet c.phase) (cond (on_fallback c) (forgotten c) (fallen c)) (forgotten c))

-- every place is held with the AID that it had
moved_keeps : (l : List Isdp) (i j : ℕ) → (at (enable_at l i) j).aid.len ≡ (at l j).aid.len
moved_keeps l i j = ap (λ (p : Isdp). p.aid.len) (lives_at (enable-lives l i) j)

abbrev Keeps : ℕ → Card → Card → Type 0
Keeps j c d = (at d.places j).aid.len ≡ (at c.places j).aid.len

tick-keeps : (j : ℕ) (c : Card) (p : Phase) → Keeps j c (tick_in p c)
tick-keeps j c Quiet = refl
tick-keeps j c (Trial q l n) = cond_both (ltb 1 l) _ _ (Keeps j c) (λ b. refl) (λ b. moved_keeps c.places q j)
tick-keeps j c (Back l n) =
    cond_both (ltb 1 l) _ _ (Keeps j c) (λ b. refl)
    (λ b. cond_both (on_fallback c) _ _ (Keeps j c) (λ e. refl) (λ e. moved_keeps c.places c.fallback j))
tick-keeps j c (Fallen l n) = cond_both (ltb 1 l) _ _ (Keeps j c) (λ b. refl) (λ b. refl)

tick-deletes-nothing : (c : Card) (j : ℕ) → (at (tick_of c).places j).aid.len ≡ (at c.places j).aid.len
unfolding tick_of
tick-deletes-nothing c j = tick-keeps j c c.phase

lost-deletes-nothing : (c : Card) (j : ℕ) → (at (without_network c).places j).aid.len ≡ (at c.places j).aid.len
unfolding without_network
lost-deletes-nothing c j =
    cond_both (is_quiet c.phase) _ _ (Keeps j c)
    (λ q. cond_both (on_fallback c) _ _ (Keeps j c) (λ e. refl) (λ e. moved_keeps c.places c.fallback j)) (λ q. refl)

pub no-policy-asked : NoPolicyAsked
no-policy-asked =
    record {
      tick-blind = tick-blind;
      lost-blind = lost-blind;
      tick-deletes-nothing = tick-deletes-nothing;
      lost-deletes-nothing = lost-deletes-nothing;
    }
