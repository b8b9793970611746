-- Document 01, 'Reading a command', TLV: "a constructed tag, whose value is again a list of elements, at most four levels deep;
-- the outermost list is level 1". Elements fill their list exactly. `f` counts down from the bytes left; a larger one gives the same
-- (proofs/Counts.antt).
use Rattle.std.specs.Prelude.{ℕ, zero, suc, ◌+◌, ◌-◌, List, Bool, true, false, not, Option, Some, None, length}
use Rattle.read_tlv.specs.declared.Head.{Head}
use Rattle.read_tlv.specs.Tlv.{head_at}
use Rattle.base_choice.specs.Choice.{pick, is_below, is_same}

-- the element that stops at `stop`, where its inner list is filled
unfoldable pub element_closed : ℕ → Bool → Option ℕ
element_closed stop true = Some stop
element_closed stop false = None

-- an element; `inner` reads the list that a constructed one holds
unfoldable pub element_of : (ℕ → ℕ → Bool) → Option Head → Option ℕ
unfolding element_closed
element_of inner None = None
element_of inner (Some head) =
    pick head.constructed (element_closed head.stop (inner head.start head.stop)) (Some head.stop)

-- the rest of a list after an element
unfoldable pub rest_after : (ℕ → Bool) → Option ℕ → Bool
rest_after rest None = false
rest_after rest (Some next) = rest next

-- a list: its window lies in the bytes, its level is 1 to 4, and it is at its end or `elements` says what stands there (decision 31)
unfoldable pub list_of : List ℕ → ℕ → ℕ → ℕ → Bool → Bool
list_of s at end level elements =
    pick (is_below (length s) end) false
    (pick (is_below end at) false
    (pick (is_below level 1) false
    (pick (is_below 4 level) false
    (pick (is_same at end) true elements))))

unfoldable pub list_within : ℕ → List ℕ → ℕ → ℕ → ℕ → Bool
unfolding list_of element_of rest_after
list_within zero s at end level = list_of s at end level false
list_within (suc f) s at end level =
    list_of s at end level
    (rest_after (λ next. list_within f s next end level)
    (element_of (λ start stop. list_within f s start stop (level + 1)) (head_at s at end)))

-- the elements from `at` up to `end`, at a level
unfoldable pub list_at : List ℕ → ℕ → ℕ → ℕ → Bool
unfolding list_within
list_at s at end level = list_within (end - at) s at end level

-- an element at a level, with all that it holds
unfoldable pub element_at : List ℕ → ℕ → ℕ → ℕ → Option ℕ
unfolding element_of list_at
element_at s at end level = element_of (λ start stop. list_at s start stop (level + 1)) (head_at s at end)

-- the window is no list of elements, at the outermost level; no answer hangs on it, as each table asks for more (decision B19)
unfoldable pub list_wrong : List ℕ → ℕ → ℕ → Bool
list_wrong s at end = not (list_at s at end 1)
