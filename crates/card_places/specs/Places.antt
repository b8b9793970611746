-- Document 01, 'The card' and 'Steps': the places of a card. A search is the number of the first place that passes a test.
-- All is said over a list of any length; how many places a card has is said in 'Sizes' alone.
use Rattle.std.specs.Prelude.{ℕ, zero, suc, ◌+◌, ◌-◌, List, [], ◌∷◌, Bool, true, not, cond, ◌&&◌, Option, Some, None, get_or, ltb}
use Rattle.std.specs.List.{list_all, list_any}
use Rattle.card_isdp.specs.Sizes.{most_places}
use Rattle.card_isdp.specs.LifeCycle.{enabled, with_life, off}
use Rattle.card_isdp.specs.Place.{vacant, held, clash}
use Rattle.card_isdp.specs.declared.Isdp.{Isdp}

-- the place at a number; past the last one there is a place that is not held (decisions 60, B7)
abbrev pub at : List Isdp → ℕ → Isdp
at l i = get_or l i vacant

-- the number of the first place that passes the test; the number of places if none does (decision B6)
unfoldable pub seek : (Isdp → Bool) → List Isdp → ℕ
seek t [] = 0
seek t (p ∷ ps) = cond (t p) 0 (suc (seek t ps))

-- the same, as the code answers it (decision B6)
abbrev pub found_of : ℕ → Option ℕ
found_of i = cond (ltb i most_places) (Some i) None

abbrev pub is_free : Isdp → Bool
is_free p = not (held p)

-- the quotas held, together
unfoldable pub quotas : List Isdp → ℕ
quotas [] = 0
quotas (p ∷ ps) = p.quota + quotas ps

-- "Free is capacity less all quotas held"
abbrev pub free_of : ℕ → List Isdp → ℕ
free_of capacity l = capacity - quotas l

-- every place passes the test; some does; how many do
unfoldable pub all_of : (Isdp → Bool) → List Isdp → Bool
all_of t l = list_all t l

unfoldable pub any_of : (Isdp → Bool) → List Isdp → Bool
any_of t l = list_any t l

unfoldable pub count_of : (Isdp → Bool) → List Isdp → ℕ
count_of t [] = 0
count_of t (p ∷ ps) = cond (t p) 1 0 + count_of t ps

-- no two held places bear one AID
unfoldable pub distinct : List Isdp → Bool
distinct [] = true
distinct (p ∷ ps) = not (any_of (clash p) ps) && distinct ps

unfoldable pub all_off : List Isdp → List Isdp
all_off [] = []
all_off (p ∷ ps) = off p ∷ all_off ps

-- the place at i is ENABLED, and the one that was is DISABLED
unfoldable pub enable_at : List Isdp → ℕ → List Isdp
enable_at [] i = []
enable_at (p ∷ ps) zero = with_life p enabled ∷ all_off ps
enable_at (p ∷ ps) (suc i) = off p ∷ enable_at ps i
