-- How a text is written that is a choice by a test: each law says it of one outcome. With `written_then` they are all that the answers of
-- writers need: `search (rules, arith, writing)`.
use Prim.Native.Nat.{ℕ, ◌≤◌, ◌<◌}
use mathlib.Core.Path.{◌≡◌, refl}
use mathlib.Core.List.{List}
use mathlib.Core.Bool.{Bool, true, false}
use Rattle.base_bytes.specs.declared.writer.Writer.{Writer}
use Rattle.base_bytes.specs.Put.{Written}
use Rattle.base_bytes.proofs.PutLaws.{written_then, written_none, written_as}
use Rattle.base_choice.specs.Choice.{pick, is_below, is_same}
use Rattle.base_choice.proofs.Branches.{yes!, no!, lt!, nlt!, eq!, ne! }

module _ {w v : Writer} where
  pub written_yes : {c : Bool} {x : List ℕ} (y : List ℕ) → c ≡ true → Written w x v → Written w (pick c x y) v
  written_yes y e p = written_as _ (yes! y e refl) p

  pub written_no : {c : Bool} {y : List ℕ} (x : List ℕ) → c ≡ false → Written w y v → Written w (pick c x y) v
  written_no x e p = written_as _ (no! x e refl) p

  pub written_same : {a b : ℕ} {x : List ℕ} (y : List ℕ) → a ≡ b → Written w x v → Written w (pick (is_same a b) x y) v
  written_same y e p = written_as _ (eq! y e refl) p

  pub written_other : {a b : ℕ} {y : List ℕ} (x : List ℕ) → (a ≡ b → ⊥) → Written w y v → Written w (pick (is_same a b) x y) v
  written_other x e p = written_as _ (ne! x e refl) p

  pub written_below : {a b : ℕ} {x : List ℕ} (y : List ℕ) → a < b → Written w x v → Written w (pick (is_below a b) x y) v
  written_below y e p = written_as _ (lt! y e refl) p

  pub written_not_below : {a b : ℕ} {y : List ℕ} (x : List ℕ) → b ≤ a → Written w y v → Written w (pick (is_below a b) x y) v
  written_not_below x e p = written_as _ (nlt! x e refl) p

pub ruleset writing = (written_then, written_none, written_yes, written_no, written_same, written_other, written_below, written_not_below)
