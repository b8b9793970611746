-- Request 2026-07, 'The class byte as a reader expects it': the test of the class against what GP 11.1.4 prints, over all 256 values of a byte.
use Rattle.std.specs.Prelude.{ℕ, zero, suc, ◌<◌, ◌≡◌, List, [], ◌∷◌, Bool, false, cond, ◌&&◌, ◌||◌, leb, eqb}
use Rattle.read_frame.specs.Framing.{class_right}

-- '80' - '8F', 'C0' - 'CF' or 'E0' - 'EF' (000: Tables 17, 30, 34 and 60), value by value,
-- so that no range is held against itself (decision B89)
abbrev pub printed_classes : List ℕ
printed_classes =
    0x80 ∷ 0x81 ∷ 0x82 ∷ 0x83 ∷ 0x84 ∷ 0x85 ∷ 0x86 ∷ 0x87 ∷ 0x88 ∷ 0x89 ∷ 0x8A ∷ 0x8B ∷ 0x8C ∷ 0x8D ∷ 0x8E ∷ 0x8F
    ∷ 0xC0 ∷ 0xC1 ∷ 0xC2 ∷ 0xC3 ∷ 0xC4 ∷ 0xC5 ∷ 0xC6 ∷ 0xC7 ∷ 0xC8 ∷ 0xC9 ∷ 0xCA ∷ 0xCB ∷ 0xCC ∷ 0xCD ∷ 0xCE ∷ 0xCF
    ∷ 0xE0 ∷ 0xE1 ∷ 0xE2 ∷ 0xE3 ∷ 0xE4 ∷ 0xE5 ∷ 0xE6 ∷ 0xE7 ∷ 0xE8 ∷ 0xE9 ∷ 0xEA ∷ 0xEB ∷ 0xEC ∷ 0xED ∷ 0xEE ∷ 0xEF
    ∷ []

unfoldable pub is_among : ℕ → List ℕ → Bool
is_among value [] = false
is_among value (first ∷ rest) = eqb value first || is_among value rest

abbrev pub is_printed : ℕ → Bool
is_printed class = is_among class printed_classes

-- a test that says yes for exactly the values printed
abbrev pub TakesPrinted : (ℕ → Bool) → Type 0
TakesPrinted test = (class : ℕ) → class < 256 → test class ≡ is_printed class

-- for how many values under a bound a test says yes
unfoldable pub yes_under : (ℕ → Bool) → ℕ → ℕ
yes_under test zero = zero
yes_under test (suc n) = cond (test n) (suc (yes_under test n)) (yes_under test n)

-- the test as it was written before this request (decision B89)
unfoldable pub class_right_before : ℕ → Bool
class_right_before class =
    (leb 0x80 class && leb class 0x8F) || ((leb 0xC0 class && leb class 0xCF) || (leb 0xE0 class && leb class 0xEF))

pub record ClassByte : Type 0 where
  pub as-it-is : TakesPrinted class_right
  pub as_it_was : TakesPrinted class_right_before
  pub same : (class : ℕ) → class < 256 → class_right class ≡ class_right_before class
  pub forty-eight : yes_under class_right 256 ≡ 48
